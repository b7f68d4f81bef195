use Rattle.std.proofs.Common.{◌≡◌, ◌∷◌, ◌++◌, length}
use Rattle.merc_switch.specs.declared.tasks.Task.TheVariants.{Close}
use Rattle.merc_switch.specs.Plans.{finds}
use Rattle.merc_switch.proofs.judging.plan_joined.Given as goal

abbrev pub invariant-loop-last : goal.invariant-loop-last
invariant-loop-last l = finds l.disjuncts.items ++ l.tasks ≡ finds l.fn.disjuncts.items ++ Close l.fn.label ∷ l.fn.tasks

abbrev pub decreases-loop-last : goal.decreases-loop-last
decreases-loop-last l = length l.disjuncts.items
