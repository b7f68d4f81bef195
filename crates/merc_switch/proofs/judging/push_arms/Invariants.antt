use Rattle.std.proofs.Common.{◌≡◌, ◌∷◌, ◌++◌, length, map}
use Rattle.merc_switch.specs.declared.tasks.Task.TheVariants.{Close}
use Rattle.merc_switch.specs.Plans.{arm_plan}
use Rattle.merc_switch.specs.Handing.{IsHanded}
use Rattle.merc_switch.proofs.judging.push_arms.Given as goal

abbrev pub invariant-loop-last : goal.invariant-loop-last
invariant-loop-last l = record {
  planned :
      let planned = map (λ disjuncts. arm_plan l.outer.whole l.outer.used l.outer.left l.outer.variable disjuncts) in
      planned l.arms.items ++ l.tasks ≡ planned l.fn.arms.items ++ Close l.fn.label ∷ l.fn.tasks;
  handed : IsHanded l.outer.whole l.handed l.arms.items;
}

abbrev pub decreases-loop-last : goal.decreases-loop-last
decreases-loop-last l = length l.arms.items
