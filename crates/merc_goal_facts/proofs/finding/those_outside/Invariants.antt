use Rattle.std.proofs.Common.{◌≡◌, ◌++◌, drop}
use Rattle.std.specs.List.{filter}
use Rattle.merc_goal_facts.specs.Outside.{occurs_outside}
use Rattle.merc_goal_facts.proofs.finding.those_outside.Given as goal

abbrev pub invariant-loop-variable : goal.invariant-loop-variable
invariant-loop-variable l =
    l.outer ++ filter (λ variable. occurs_outside l.stretch.all.now l.stretch.start l.stretch.end variable) (drop l.variable-index l.variables) ≡ filter (λ variable. occurs_outside l.stretch.all.now l.stretch.start l.stretch.end variable) l.variables
