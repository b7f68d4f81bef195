use Rattle.std.proofs.Common.{◌≡◌, ◌++◌, [], ℕ, List, length, drop}
use Rattle.merc_goal_tree.specs.Parts.{parts_of}
use Rattle.merc_goal_tree.specs.Variables.{variables}
use Rattle.merc_order.specs.Procedures.{modes_of}
use Rattle.merc_goal_facts.specs.Knowing.{AreThere}
use Rattle.merc_goal_facts.proofs.Joins.{AreFound}
use Rattle.merc_goal_facts.proofs.PartByPart.{IsOnTheWay}
use Rattle.merc_goal_facts.proofs.knowing.facts_of.Given as goal

abbrev pub invariant-loop-index : goal.invariant-loop-index
invariant-loop-index l = record {
  cleared : l.set ≡ [];
  there : AreThere (length l.known.facts.items) l.known.complete.items;
  found : AreFound (drop l.index (parts_of l.goal)) (length l.known.complete.items);
  way : (heads : List ℕ) → length heads ≡ l.head_count → l.all ≡ heads ++ variables l.goal → IsOnTheWay (modes_of l.predicates) heads l.goal (drop l.index (parts_of l.goal)) l.known;
}
