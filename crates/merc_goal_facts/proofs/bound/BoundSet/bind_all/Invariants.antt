use Rattle.std.proofs.Common.{◌≡◌, drop}
use Rattle.merc_goal_facts.specs.Bounds.{all_behind}
use Rattle.merc_goal_facts.proofs.bound.BoundSet.bind_all.Given as goal

abbrev pub invariant-loop-variable : goal.invariant-loop-variable
invariant-loop-variable l = all_behind l.self (drop l.variable-index l.variables) ≡ all_behind l.fn.self l.variables
