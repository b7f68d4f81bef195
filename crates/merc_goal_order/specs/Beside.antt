-- Goals side by side: whether one of them is ready, and which other one it needs.
use Rattle.std.specs.Prelude.{◌≡◌, ℕ, ◌+◌, ◌&&◌, Bool, false, List, length, Option, Result, Ok, Err}
use Rattle.merc_base.specs.declared.refusal.Fault.{Fault}
use Rattle.merc_base.specs.declared.refusal.Fault.TheVariants.{Refused, NoMemory}
use Rattle.merc_tree.specs.declared.declarations.PredDecl.{PredDecl}
use Rattle.merc_goal_tree.specs.Nodes.{Node, Nodes, more_nodes}
use Rattle.merc_goal_tree.specs.Variables.{variables}
use Rattle.merc_order.specs.Bound.{among, with}
use Rattle.merc_order.specs.Marks.{move_of}
use Rattle.merc_order.specs.Moves.{beside, needed}
use Rattle.merc_order.specs.Order.{binds, from, moves}
use Rattle.merc_order.specs.Ordered.{Outcomes, OneStuck, is_ready}
use Rattle.merc_order.specs.Procedures.{modes_of}
use Rattle.merc_goal_facts.specs.Facts.{AreKnown, subgoals, all_subgoals}
use Rattle.merc_goal_facts.specs.Outside.{IsStretch}
use Rattle.merc_readiness.specs.Sweeps.{AreKnownFrom}
use Rattle.merc_goal_order.specs.Walks.{Joining}
use Rattle.merc_goal_facts.specs.declared.facts.Facts.{Facts}

-- the goals of a parallel conjunction are numbered from 1
abbrev pub all_beside : Joining
all_beside moves bound = beside 1 moves bound

-- A goal is ready from what is bound, by the facts of its parts, or it is not.
abbrev pub TellsReady : List PredDecl → Node → List Facts → List ℕ → Bool → Type 0
TellsReady predicates goal facts bound ready =
    (total : ℕ → ℕ) → AreKnown total (modes_of predicates) (subgoals goal) facts → is_ready (from total (modes_of predicates) goal (among bound)) ≡ ready

-- A later goal is ready, and the first is ready behind it. The facts of the later one's parts stand from this index on.
abbrev pub FreedBy : List PredDecl → Node → Node → List Facts → ℕ → List ℕ → Bool → Type 0
FreedBy predicates goal later facts at bound freed =
    (total : ℕ → ℕ) (others rest : Nodes) → AreKnown total (modes_of predicates) (all_subgoals (more_nodes goal others)) facts
    → AreKnownFrom total (modes_of predicates) (all_subgoals (more_nodes later rest)) facts at
    → (is_ready (from total (modes_of predicates) later (among bound))
    && is_ready (from total (modes_of predicates) goal (with (among bound) (binds total (modes_of predicates) later)))) ≡ freed

-- The goal with this number needs that one, of those that stand behind it.
abbrev pub Needs : List PredDecl → Node → Nodes → List Facts → ℕ → List ℕ → Option ℕ → Type 0
Needs predicates goal others facts number bound other =
    (total : ℕ → ℕ) → AreKnown total (modes_of predicates) (all_subgoals (more_nodes goal others)) facts
    → needed (number + 1) (move_of total (modes_of predicates) goal) (moves total (modes_of predicates) others) (among bound) ≡ other

-- what is told of goals of which one has no order
abbrev pub TellsStuck : Outcomes → Result (Unit {0}) Fault → Type 0
TellsStuck outcomes (Ok done) = ⊥
TellsStuck outcomes (Err (Refused refusal)) = outcomes ≡ OneStuck refusal
TellsStuck outcomes (Err NoMemory) = Unit {0}

-- The goal with this number, in front of others, is not ready, and why is told.
abbrev pub StuckBeside : List PredDecl → Node → Nodes → List Facts → List ℕ → ℕ → ℕ → List ℕ → Result (Unit {0}) Fault → Type 0
StuckBeside predicates goal others facts all start number bound result =
    (total : ℕ → ℕ) → AreKnown total (modes_of predicates) (all_subgoals (more_nodes goal others)) facts → IsStretch total all start (start + length (variables goal)) (variables goal)
    → is_ready (from total (modes_of predicates) goal (among bound)) ≡ false
    → TellsStuck (beside number (moves total (modes_of predicates) (more_nodes goal others)) (among bound)) result
