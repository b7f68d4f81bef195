use Rattle.std.proofs.Common.{◌≡◌, ◌∷◌, List, true}
use Rattle.merc_graded_tree.specs.Nodes.{Node}
use Rattle.merc_order.specs.Bound.{among}
use Rattle.merc_switch.specs.declared.tasks.Task.TheVariants.{Judge}
use Rattle.merc_switch_choice.specs.Choosing.{AreLeft}
use Rattle.merc_switch.specs.Plans.{AreNarrowed}
use Rattle.merc_switch.proofs.InnerGroups.{Reaches}
use Rattle.merc_switch.proofs.judging.enter_those.Given as goal

abbrev pub invariant-loop-group : goal.invariant-loop-group
invariant-loop-group l = record {
  reaches : (goals : List Node) → Reaches l.known.types (Judge l.fn.group ∷ l.fn.tasks) (Judge l.group ∷ l.tasks) goals l.bound;
  left : AreLeft l.known.types (among l.bound) l.group.used l.group.selected.disjuncts l.candidates.untried l.candidates.uncovered;
  narrowed : l.narrowed ≡ true → AreNarrowed l.group;
}

abbrev pub decreases-loop-group : goal.decreases-loop-group
decreases-loop-group l = l.group.left
