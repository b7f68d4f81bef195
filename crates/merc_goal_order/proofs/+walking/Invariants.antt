use Rattle.std.proofs.Common.{◌≡◌, ◌+◌, ◌*◌, ◌-◌, ◌≤◌, ℕ, suc, [], drop, length, reverse}
use Rattle.merc_goal_tree.specs.Nodes.{nodes_of}
use Rattle.merc_goal_tree.specs.Parts.{parts_of, all_parts}
use Rattle.merc_goal_tree.specs.Variables.{variables, all_variables}
use Rattle.merc_order.specs.Bound.{among}
use Rattle.merc_order.specs.Marks.{Marked, left}
use Rattle.merc_order.specs.Moves.{each_from, beside}
use Rattle.merc_order.specs.Order.{moves}
use Rattle.merc_order.specs.Ordered.{Outcomes}
use Rattle.merc_order.specs.Procedures.{modes_of}
use Rattle.merc_goal_facts.specs.Facts.{AreKnown, subgoals, all_subgoals}
use Rattle.merc_readiness.specs.Asking.{Fits, flags_of}
use Rattle.merc_simple_goals.specs.declared.written.Written.{Written}
use Rattle.merc_goal_order.specs.Linked.{Within}
use Rattle.merc_goal_order.specs.Beside.{all_beside}
use Rattle.merc_goal_order.specs.Conjuncts.{Passing, Amid}
use Rattle.merc_goal_facts.specs.Outside.{IsStretch}
use Rattle.merc_readiness.specs.Sweeps.{Extends}
use Rattle.merc_goal_order.specs.Agenda.{StandAt, ArePlaced, awaits, awaited_count, IsSound}
use Rattle.merc_goal_order.specs.Walks.{Adds, Walked, all_settled}
use Rattle.merc_goal_order.specs.Watching.{AreWatches, KeepsWatches}
use Rattle.merc_goal_order.proofs.+walking.Given as goal

-- the size of the goal

abbrev pub decreases-walking::walk : goal.decreases-walking::walk
decreases-walking::walk l = 8 * length (parts_of l.placed.now.goal.now)

abbrev pub decreases-walking::walk_parts : goal.decreases-walking::walk_parts
decreases-walking::walk_parts l = 8 * length (parts_of l.placed.now.goal.now) - 1

abbrev pub decreases-walking::walk_negation : goal.decreases-walking::walk_negation
decreases-walking::walk_negation l = 8 * length (parts_of l.inner.now) + 1

abbrev pub decreases-walking::walk_quantified : goal.decreases-walking::walk_quantified
decreases-walking::walk_quantified l = 8 * length (parts_of l.scope.now.inner.now) + 1

abbrev pub decreases-disjuncts::walk_disjunction : goal.decreases-disjuncts::walk_disjunction
decreases-disjuncts::walk_disjunction l = 8 * length (all_parts (nodes_of l.arms.now)) + 2

abbrev pub decreases-disjuncts::walk_arms : goal.decreases-disjuncts::walk_arms
decreases-disjuncts::walk_arms l = 8 * length (all_parts (nodes_of l.placed.now.goals.now)) + 1

abbrev pub decreases-conjuncts::walk_conjunction : goal.decreases-conjuncts::walk_conjunction
decreases-conjuncts::walk_conjunction l = 8 * length (all_parts (nodes_of l.goals.now)) + 5

abbrev pub decreases-conjuncts::walk_rounds : goal.decreases-conjuncts::walk_rounds
decreases-conjuncts::walk_rounds l = 8 * length (all_parts (nodes_of l.placed.now.goals.now)) + 4

abbrev pub decreases-conjuncts::walk_next : goal.decreases-conjuncts::walk_next
decreases-conjuncts::walk_next l = 8 * length (all_parts (nodes_of l.placed.now.goals.now)) + 3

abbrev pub decreases-conjuncts::walk_first_left : goal.decreases-conjuncts::walk_first_left
decreases-conjuncts::walk_first_left l = 8 * length (all_parts (nodes_of l.placed.now.goals.now)) + 1

abbrev pub decreases-conjuncts::walk_member : goal.decreases-conjuncts::walk_member
decreases-conjuncts::walk_member l = 8 * length (parts_of l.member.now.goal.now) + 2

abbrev pub decreases-conjuncts::walk_if_ready : goal.decreases-conjuncts::walk_if_ready
decreases-conjuncts::walk_if_ready l = 8 * length (parts_of l.placed.now.goal.now) + 1

-- the goals of a list

abbrev pub invariant-disjuncts::walk_arms-loop-arm : goal.invariant-disjuncts::walk_arms-loop-arm
invariant-disjuncts::walk_arms-loop-arm l = record {
  at_is : l.at + length (all_parts (nodes_of (drop l.arm-index l.placed.goals.now))) ≡ length (all_parts (nodes_of l.placed.goals.now));
  same : l.bound ≡ l.fn.bound;
  adds : Adds l.fn.written l.written;
  walked : (total : ℕ → ℕ) → AreKnown total (modes_of l.setting.predicates.now) (all_subgoals (nodes_of l.placed.goals.now)) l.placed.facts.now
      → IsStretch total l.setting.all.now l.placed.start (l.placed.start + length (all_variables (nodes_of l.placed.goals.now))) (all_variables (nodes_of l.placed.goals.now))
      → Walked total (modes_of l.setting.predicates.now) (nodes_of (drop l.arm-index l.placed.goals.now)) l.placed.facts.now l.at l.setting.all.now l.place
      (each_from (moves total (modes_of l.setting.predicates.now) (nodes_of l.placed.goals.now)) (among l.fn.bound))
      (each_from (moves total (modes_of l.setting.predicates.now) (nodes_of (drop l.arm-index l.placed.goals.now))) (among l.fn.bound)) l.fn.written l.written;
}

abbrev pub invariant-conjuncts::walk_rounds-loop-round : goal.invariant-conjuncts::walk_rounds-loop-round
invariant-conjuncts::walk_rounds-loop-round l = record {
  extends : Extends l.fn.bound l.bound;
  adds : Adds l.fn.written l.written;
  sound : IsSound l.agenda;
  stands : StandAt l.placed.goals.now l.agenda.starts.items;
  placed : ArePlaced l.placed.start l.placed.goals.now l.placed.facts.now l.setting.all.now l.agenda.starts.items;
  watches : (total : ℕ → ℕ) → AreKnown total (modes_of l.setting.predicates.now) (all_subgoals (nodes_of l.placed.goals.now)) l.placed.facts.now
      → AreWatches total (modes_of l.setting.predicates.now) l.placed.goals.now l.watches.variables.items;
  amid : (total : ℕ → ℕ) → AreKnown total (modes_of l.setting.predicates.now) (all_subgoals (nodes_of l.placed.goals.now)) l.placed.facts.now
      → IsStretch total l.setting.all.now l.placed.start (l.placed.start + length (all_variables (nodes_of l.placed.goals.now))) (all_variables (nodes_of l.placed.goals.now))
      → Amid total (modes_of l.setting.predicates.now) l.placed.goals.now (all_settled (moves total (modes_of l.setting.predicates.now) (nodes_of l.placed.goals.now)) (among l.fn.bound)) (awaits l.agenda)
      l.marks (among l.bound) (among l.bound) l.fn.written l.written (length l.placed.goals.now + 1 - l._round);
}

abbrev pub invariant-conjuncts::walk_next-loop-index : goal.invariant-conjuncts::walk_next-loop-index
invariant-conjuncts::walk_next-loop-index l = record {
  extends : Extends l.fn.bound l.bound;
  adds : Adds l.fn.written l.written;
  sound : IsSound l.agenda;
  starts : l.agenda.starts ≡ l.fn.agenda.starts;
  watches : KeepsWatches l.setting.predicates.now l.placed.goals.now l.placed.facts.now l.fn.watches.variables.items l.watches.variables.items;
  amid : (total : ℕ → ℕ) (start : ℕ) (whole : Outcomes) (old : Written) (count : ℕ) → AreKnown total (modes_of l.setting.predicates.now) (all_subgoals (nodes_of l.placed.goals.now)) l.placed.facts.now
      → IsStretch total l.setting.all.now start (start + length (all_variables (nodes_of l.placed.goals.now))) (all_variables (nodes_of l.placed.goals.now)) → ArePlaced start l.placed.goals.now l.placed.facts.now l.setting.all.now l.fn.agenda.starts.items
      → AreWatches total (modes_of l.setting.predicates.now) l.placed.goals.now l.fn.watches.variables.items
      → Amid total (modes_of l.setting.predicates.now) l.placed.goals.now whole (awaits l.fn.agenda) l.fn.marks (among l.fn.bound) (among l.fn.bound) old l.fn.written (suc count)
      → Amid total (modes_of l.setting.predicates.now) l.placed.goals.now whole (awaits l.agenda) l.marks (among l.bound) (among l.bound) old l.written (suc count);
}

abbrev pub decreases-conjuncts::walk_next-loop-index : goal.decreases-conjuncts::walk_next-loop-index
decreases-conjuncts::walk_next-loop-index l = awaited_count l.agenda

abbrev pub invariant-conjuncts::walk_first_left-loop-goal : goal.invariant-conjuncts::walk_first_left-loop-goal
invariant-conjuncts::walk_first_left-loop-goal l = record {
  at_is : l.at + length (all_parts (nodes_of (drop l.goal-index l.placed.goals.now))) ≡ length (all_parts (nodes_of l.placed.goals.now));
  same_marks : l.marks ≡ l.fn.marks;
  same : l.bound ≡ l.fn.bound;
  same_written : l.written ≡ l.fn.written;
  passing : (total : ℕ → ℕ) (marked : Marked) → Fits (nodes_of l.placed.goals.now) marked → l.fn.marks ≡ flags_of marked → AreKnown total (modes_of l.setting.predicates.now) (all_subgoals (nodes_of l.placed.goals.now)) l.placed.facts.now
      → IsStretch total l.setting.all.now l.placed.start (l.placed.start + length (all_variables (nodes_of l.placed.goals.now))) (all_variables (nodes_of l.placed.goals.now))
      → Passing total (modes_of l.setting.predicates.now) (nodes_of (drop l.goal-index l.placed.goals.now)) l.placed.facts.now l.fn.marks l.at l.setting.all.now l.place (left total (modes_of l.setting.predicates.now) (nodes_of l.placed.goals.now) marked);
}

-- if-then-elses

abbrev pub decreases-links::walk_chain : goal.decreases-links::walk_chain
decreases-links::walk_chain l = 8 * length (parts_of l.placed.now.goal.now) - 2

abbrev pub decreases-links::walk_guard : goal.decreases-links::walk_guard
decreases-links::walk_guard l = 8 * (length (parts_of l.guard.now.condition.now) + length (parts_of l.guard.now.then_part.now)) + 1

abbrev pub invariant-links::walk_chain-loop-condition : goal.invariant-links::walk_chain-loop-condition
invariant-links::walk_chain-loop-condition l = record {
  known_is : length l.known ≡ length (parts_of l.rest);
  smaller : length (parts_of l.rest) + length l.links.items ≤ length (parts_of l.placed.goal.now);
  is_first : length l.links.items ≡ 0 → l.rest ≡ l.placed.goal.now;
  same : l.bound ≡ l.fn.bound;
  more : length l.written.nodes ≡ length l.fn.written.nodes + length l.links.items + length l.links.items;
  cleared : l.written.seen ≡ [];
  within : (total : ℕ → ℕ) → AreKnown total (modes_of l.setting.predicates.now) (subgoals l.placed.goal.now) l.placed.facts.now
      → IsStretch total l.setting.all.now l.placed.start (l.placed.start + length (variables l.placed.goal.now)) (variables l.placed.goal.now)
      → Within total (modes_of l.setting.predicates.now) l.setting.all.now (among l.fn.bound) l.placed.goal.now (reverse l.links.items) l.rest l.known l.place l.fn.written l.written;
}

abbrev pub decreases-links::walk_chain-loop-condition : goal.decreases-links::walk_chain-loop-condition
decreases-links::walk_chain-loop-condition l = length (parts_of l.rest)

-- goals side by side

abbrev pub decreases-parallel::walk_parallel : goal.decreases-parallel::walk_parallel
decreases-parallel::walk_parallel l = 8 * length (all_parts (nodes_of l.goals.now)) + 5

abbrev pub decreases-parallel::walk_conjuncts : goal.decreases-parallel::walk_conjuncts
decreases-parallel::walk_conjuncts l = 8 * length (all_parts (nodes_of l.placed.now.goals.now)) + 4

abbrev pub decreases-parallel::walk_stuck : goal.decreases-parallel::walk_stuck
decreases-parallel::walk_stuck l = 8 * length (parts_of l.waiting.now.goal.now) + 3

abbrev pub invariant-parallel::walk_conjuncts-loop-index : goal.invariant-parallel::walk_conjuncts-loop-index
invariant-parallel::walk_conjuncts-loop-index l = record {
  at_is : l.at + length (all_parts (nodes_of (drop l.index l.placed.goals.now))) ≡ length (all_parts (nodes_of l.placed.goals.now));
  extends : Extends l.fn.bound l.bound;
  adds : Adds l.fn.written l.written;
  walked : (total : ℕ → ℕ) → AreKnown total (modes_of l.setting.predicates.now) (all_subgoals (nodes_of l.placed.goals.now)) l.placed.facts.now
      → IsStretch total l.setting.all.now l.placed.start (l.placed.start + length (all_variables (nodes_of l.placed.goals.now))) (all_variables (nodes_of l.placed.goals.now))
      → Walked total (modes_of l.setting.predicates.now) (nodes_of (drop l.index l.placed.goals.now)) l.placed.facts.now l.at l.setting.all.now l.place
      (all_beside (moves total (modes_of l.setting.predicates.now) (nodes_of l.placed.goals.now)) (among l.fn.bound))
      (beside (l.index + 1) (moves total (modes_of l.setting.predicates.now) (nodes_of (drop l.index l.placed.goals.now))) (among l.bound)) l.fn.written l.written;
}
