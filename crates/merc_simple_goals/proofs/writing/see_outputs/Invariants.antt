use Rattle.std.proofs.Common.{◌≡◌, drop}
use Rattle.std.specs.List.{filter}
use Rattle.merc_order.specs.Bound.{among}
use Rattle.merc_goal_facts.specs.Bounds.{all_behind}
use Rattle.merc_simple_goals.specs.Outputs.{is_output}
use Rattle.merc_simple_goals.proofs.writing.see_outputs.Given as goal

abbrev pub invariant-loop-variable : goal.invariant-loop-variable
invariant-loop-variable l =
    all_behind l.seen (filter (λ variable. is_output (among l.bound) l.all l.start l.end variable) (drop l.variable-index l.variables))
    ≡ all_behind l.fn.seen (filter (λ variable. is_output (among l.bound) l.all l.start l.end variable) l.variables)
