use Rattle.std.proofs.Common.{◌≡◌, ◌+◌, ◌*◌, ◌≤◌, ◌++◌, ℕ, drop, length}
use Rattle.merc_base.specs.declared.place.Span.{Span}
use Rattle.merc_goal_tree.specs.Nodes.{Parallel, Disjunction, nodes_of}
use Rattle.merc_goal_tree.specs.Parts.{parts_of, all_parts}
use Rattle.merc_order.specs.Bound.{Bound, among}
use Rattle.merc_order.specs.Procedures.{modes_of}
use Rattle.merc_goal_facts.specs.Facts.{AreKnown, subgoals, all_subgoals}
use Rattle.merc_readiness.specs.Asking.{IsMarked, AreMarked, joined_by}
use Rattle.merc_readiness.specs.Chains.{IsOpen}
use Rattle.merc_readiness.specs.Sweeps.{Extends, ArePlaced, AreGone, AreStuck, AreKnownFrom, DuringArms, DuringBeside}
use Rattle.merc_readiness.proofs.+asking.Given as goal

-- A call's measure is seven times the number of the parts that it is given, and the rank of the function.

abbrev pub decreases-asking::advance : goal.decreases-asking::advance
decreases-asking::advance l = 7 * length (parts_of l.goal.now)

abbrev pub decreases-chains::advance_links : goal.decreases-chains::advance_links
decreases-chains::advance_links l = 7 * length (parts_of l.goal.now) + 1

abbrev pub decreases-chains::advance_chain : goal.decreases-chains::advance_chain
decreases-chains::advance_chain l = 7 * length (parts_of l.goal.now) + 2

abbrev pub decreases-chains::advance_arm : goal.decreases-chains::advance_arm
decreases-chains::advance_arm l = 7 * (length (parts_of l.link.now.condition) + length (parts_of l.link.now.then_part)) + 1

abbrev pub decreases-chains::advance_decision : goal.decreases-chains::advance_decision
decreases-chains::advance_decision l = 7 * (length (parts_of l.link.now.condition) + length (parts_of l.link.now.then_part) + length (parts_of l.link.now.else_part)) + 4

abbrev pub decreases-sweeping::ask_member : goal.decreases-sweeping::ask_member
decreases-sweeping::ask_member l = 7 * length (parts_of l.goal.now) + 1

abbrev pub decreases-sweeping::sweep_once : goal.decreases-sweeping::sweep_once
decreases-sweeping::sweep_once l = 7 * length (all_parts (nodes_of l.goals.now)) + 2

abbrev pub decreases-sweeping::sweep_all : goal.decreases-sweeping::sweep_all
decreases-sweeping::sweep_all l = 7 * length (all_parts (nodes_of l.goals.now)) + 3

abbrev pub decreases-sweeping::advance_all : goal.decreases-sweeping::advance_all
decreases-sweeping::advance_all l = 7 * length (all_parts (nodes_of l.goals.now)) + 4

abbrev pub decreases-asking::advance_beside : goal.decreases-asking::advance_beside
decreases-asking::advance_beside l = 7 * length (all_parts (nodes_of l.goals.now)) + 4

abbrev pub decreases-asking::advance_arms : goal.decreases-asking::advance_arms
decreases-asking::advance_arms l = 7 * length (all_parts (nodes_of l.arms.now)) + 4

abbrev pub decreases-asking::advance_within : goal.decreases-asking::advance_within
decreases-asking::advance_within l = 7 * length (all_parts (joined_by l.goal.now)) + 6

abbrev pub decreases-asking::advance_parts : goal.decreases-asking::advance_parts
decreases-asking::advance_parts l = 7 * length (all_parts (joined_by l.goal.now)) + 5

abbrev pub invariant-asking::advance_arms-loop-arm : goal.invariant-asking::advance_arms-loop-arm
invariant-asking::advance_arms-loop-arm l = record {
  at_is : l.at + length (all_parts (nodes_of (drop l.arm-index l.arms))) ≡ length (all_parts (nodes_of l.arms));
  same : l.bound ≡ l.fn.bound;
  during : (total : ℕ → ℕ) (span : Span) → AreKnown total (modes_of l.predicates) (all_subgoals (nodes_of l.arms)) l.facts
      → AreMarked total (modes_of l.predicates) (Disjunction (nodes_of l.arms) span) l.fn.marks (among l.fn.bound)
      → AreKnownFrom total (modes_of l.predicates) (all_subgoals (nodes_of (drop l.arm-index l.arms))) l.facts l.at
      × DuringArms total (modes_of l.predicates) (nodes_of l.arms) (among l.fn.bound) (nodes_of (drop l.arm-index l.arms)) l.marks l.at;
}

abbrev pub invariant-asking::advance_beside-loop-goal : goal.invariant-asking::advance_beside-loop-goal
invariant-asking::advance_beside-loop-goal l = record {
  at_is : l.at + length (all_parts (nodes_of (drop l.goal-index l.goals))) ≡ length (all_parts (nodes_of l.goals));
  extends : Extends l.fn.bound l.bound;
  during : (total : ℕ → ℕ) (span : Span) → AreKnown total (modes_of l.predicates) (all_subgoals (nodes_of l.goals)) l.facts
      → AreMarked total (modes_of l.predicates) (Parallel (nodes_of l.goals) span) l.fn.marks (among l.fn.bound)
      → AreKnownFrom total (modes_of l.predicates) (all_subgoals (nodes_of (drop l.goal-index l.goals))) l.facts l.at
      × DuringBeside total (modes_of l.predicates) (nodes_of l.goals) (among l.fn.bound) (nodes_of (drop l.goal-index l.goals)) l.marks l.at (among l.bound);
}

abbrev pub invariant-chains::advance_links-loop-link : goal.invariant-chains::advance_links-loop-link
invariant-chains::advance_links-loop-link l = record {
  end_is : l.end ≡ l.at + length (parts_of l.last);
  room : l.end ≤ length l.facts;
  same : l.bound ≡ l.fn.bound;
  chain : (total : ℕ → ℕ) → AreKnown total (modes_of l.predicates) (subgoals l.goal) l.facts → IsMarked total (modes_of l.predicates) l.goal l.fn.marks (among l.fn.bound)
      → IsOpen total (modes_of l.predicates) l.goal l.last l.marks l.facts l.at (among l.fn.bound);
}

abbrev pub decreases-chains::advance_links-loop-link : goal.decreases-chains::advance_links-loop-link
decreases-chains::advance_links-loop-link l = length (parts_of l.last)

abbrev pub invariant-sweeping::sweep_once-loop-waiting : goal.invariant-sweeping::sweep_once-loop-waiting
invariant-sweeping::sweep_once-loop-waiting l = record {
  placed : ArePlaced l.goals l.kept.items;
  fewer : length l.kept.items ≤ l.waiting-index;
  extends : Extends l.fn.bound l.bound;
  gone : (total : ℕ → ℕ) (start : Bound) → AreKnown total (modes_of l.predicates) (all_subgoals (nodes_of l.goals)) l.facts
      → AreGone total (modes_of l.predicates) (nodes_of l.goals) start l.fn.marks (among l.fn.bound) l.left
      → AreGone total (modes_of l.predicates) (nodes_of l.goals) start l.marks (among l.bound) (l.kept.items ++ drop l.waiting-index l.left)
      × (length l.kept.items ≡ l.waiting-index → AreStuck total (modes_of l.predicates) l.goals l.kept.items (among l.bound));
}

abbrev pub invariant-sweeping::sweep_all-loop-alloc : goal.invariant-sweeping::sweep_all-loop-alloc
invariant-sweeping::sweep_all-loop-alloc l = record {
  placed : ArePlaced l.goals l.rest.items;
  extends : Extends l.fn.bound l.bound;
  gone : (total : ℕ → ℕ) (start : Bound) → AreKnown total (modes_of l.predicates) (all_subgoals (nodes_of l.goals)) l.facts
      → AreGone total (modes_of l.predicates) (nodes_of l.goals) start l.fn.marks (among l.fn.bound) l.fn.left.items
      → AreGone total (modes_of l.predicates) (nodes_of l.goals) start l.marks (among l.bound) l.rest.items;
}

abbrev pub decreases-sweeping::sweep_all-loop-alloc : goal.decreases-sweeping::sweep_all-loop-alloc
decreases-sweeping::sweep_all-loop-alloc l = length l.rest.items
