use Rattle.std.proofs.Common.{◌≡◌, ◌≤◌, ◌+◌, ℕ, drop, length}
use Rattle.merc_goal_tree.specs.Nodes.{nodes_of, more_nodes}
use Rattle.merc_goal_tree.specs.Parts.{parts_of, all_parts}
use Rattle.merc_order.specs.Bound.{among}
use Rattle.merc_order.specs.Marks.{move_of}
use Rattle.merc_order.specs.Moves.{needed}
use Rattle.merc_order.specs.Order.{moves}
use Rattle.merc_order.specs.Procedures.{modes_of}
use Rattle.merc_goal_facts.specs.Facts.{AreKnown, all_subgoals}
use Rattle.merc_readiness.specs.Sweeps.{AreKnownFrom}
use Rattle.merc_goal_order.proofs.parallel.first_freeing.Given as goal

abbrev pub invariant-loop-index : goal.invariant-loop-index
invariant-loop-index l = record {
  first : length (parts_of l.waiting.goal.now) ≤ l.at;
  at_is : l.at + length (all_parts (nodes_of (drop l.index l.waiting.others.now))) ≡ length (parts_of l.waiting.goal.now) + length (all_parts (nodes_of l.waiting.others.now));
  same : l.bound ≡ l.fn.bound;
  needs : (total : ℕ → ℕ) → AreKnown total (modes_of l.setting.predicates.now) (all_subgoals (more_nodes l.waiting.goal.now (nodes_of l.waiting.others.now))) l.waiting.facts.now
      → AreKnownFrom total (modes_of l.setting.predicates.now) (all_subgoals (nodes_of (drop l.index l.waiting.others.now))) l.waiting.facts.now l.at
      × (needed (l.waiting.number + 1) (move_of total (modes_of l.setting.predicates.now) l.waiting.goal.now) (moves total (modes_of l.setting.predicates.now) (nodes_of l.waiting.others.now)) (among l.fn.bound)
      ≡ needed (l.waiting.number + 1 + l.index) (move_of total (modes_of l.setting.predicates.now) l.waiting.goal.now) (moves total (modes_of l.setting.predicates.now) (nodes_of (drop l.index l.waiting.others.now))) (among l.fn.bound));
}
