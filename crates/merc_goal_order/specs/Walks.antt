-- Goals that were ordered and written one behind the other, and what becomes of all of them.
use Rattle.std.specs.Prelude.{◌≡◌, ◌≤◌, ℕ, ◌+◌, List, [], ◌∷◌, ◌++◌, length, Result, Ok, Err}
use Rattle.merc_base.specs.declared.refusal.Fault.{Fault}
use Rattle.merc_base.specs.declared.refusal.Fault.TheVariants.{Refused, NoMemory}
use Rattle.merc_tree.specs.declared.declarations.ModeDecl.{ModeDecl}
use Rattle.merc_tree.specs.declared.declarations.PredDecl.{PredDecl}
use Rattle.merc_goal_tree.specs.Nodes.{Nodes}
use Rattle.merc_goal_tree.specs.Variables.{all_variables}
use Rattle.merc_graded_tree.specs.Nodes.{Node as OrderedNode}
use Rattle.merc_order.specs.Bound.{Bound, among}
use Rattle.merc_order.specs.Moves.{Move, settled}
use Rattle.merc_order.specs.Order.{moves}
use Rattle.merc_order.specs.Ordered.{Ordered, Ordereds, no_goals, more_goals, Outcomes, AllReady, OneStuck, then_all}
use Rattle.merc_order.specs.Procedures.{modes_of}
use Rattle.merc_order.specs.Spelt.{spelt, twins}
use Rattle.merc_goal_facts.specs.Facts.{AreKnown, all_subgoals}
use Rattle.merc_goal_facts.specs.Outside.{IsStretch}
use Rattle.merc_goal_facts.specs.declared.facts.Facts.{Facts}
use Rattle.merc_readiness.specs.Sweeps.{AreKnownFrom}
use Rattle.merc_simple_goals.specs.declared.written.Written.{Written}

abbrev pub ordereds_of : List Ordered → Ordereds
ordereds_of [] = no_goals
ordereds_of (first ∷ rest) = more_goals first (ordereds_of rest)

-- what becomes of goals behind these
abbrev pub behind_them : List Ordered → Outcomes → Outcomes
behind_them [] others = others
behind_them (first ∷ rest) others = then_all first (behind_them rest others)

abbrev pub twins_in : List Ordered → List ℕ
twins_in [] = []
twins_in (first ∷ rest) = twins first ++ twins_in rest

-- their fresh variables numbered from here on
abbrev pub spelt_list : (ℕ → List ModeDecl) → ℕ → List Ordered → List OrderedNode
spelt_list modes at [] = []
spelt_list modes at (first ∷ rest) = spelt modes at first ∷ spelt_list modes (at + length (twins first)) rest

-- These stand behind those that were written before.
pub record AreWritten (modes : ℕ → List ModeDecl) (done : List Ordered) (old new : Written) : Type 0 where
  pub nodes : new.nodes ≡ old.nodes ++ spelt_list modes old.fresh done
  pub fresh : new.fresh ≡ old.fresh + length (twins_in done)
  pub seen : new.seen ≡ old.seen

-- one goal more is written
pub record AddsOne (old new : Written) : Type 0 where
  pub more : length new.nodes ≡ length old.nodes + 1
  pub cleared : new.seen ≡ []

-- two goals more
pub record AddsTwo (old new : Written) : Type 0 where
  pub more : length new.nodes ≡ length old.nodes + 2
  pub cleared : new.seen ≡ []

-- none is taken away
pub record Adds (old new : Written) : Type 0 where
  pub more : length old.nodes ≤ length new.nodes
  pub cleared : new.seen ≡ []

-- What becomes of goals is written, or the fault of one of them is given.
abbrev pub GivesAll : (ℕ → List ModeDecl) → Outcomes → Written → Written → Result (Unit {0}) Fault → Type 0
GivesAll modes outcomes old new (Ok result) = (done : List Ordered) × (outcomes ≡ AllReady (ordereds_of done)) × AreWritten modes done old new
GivesAll modes outcomes old new (Err (Refused refusal)) = outcomes ≡ OneStuck refusal
GivesAll modes outcomes old new (Err NoMemory) = Unit {0}

-- how goals that are joined are ordered, by how often variables occur and what is bound
abbrev pub Joining : Type 0
Joining = List Move → Bound → Outcomes

abbrev pub all_settled : Joining
all_settled moves bound = settled (length moves) moves bound

-- Goals that are joined in this way are ordered from what is bound, by the facts of their parts. Their variables occur from this place on among all of the body.
abbrev pub OrdersAll : Joining → List PredDecl → Nodes → List Facts → List ℕ → ℕ → List ℕ → Written → Written → Result (Unit {0}) Fault → Type 0
OrdersAll joined predicates goals facts all start bound old new result =
    (total : ℕ → ℕ) → AreKnown total (modes_of predicates) (all_subgoals goals) facts → IsStretch total all start (start + length (all_variables goals)) (all_variables goals)
    → GivesAll (modes_of predicates) (joined (moves total (modes_of predicates) goals) (among bound)) old new result

-- Of goals that are joined these are still to be ordered, by their facts from this index on. Their variables occur from this place on. What becomes of all of
-- them is what becomes of these behind those that are written.
pub record Walked (total : ℕ → ℕ) (modes : ℕ → List ModeDecl) (rest : Nodes) (facts : List Facts) (at : ℕ) (all : List ℕ) (place : ℕ) (whole later : Outcomes) (old now : Written) : Type 0 where
  pub known : AreKnownFrom total modes (all_subgoals rest) facts at
  pub stretch : IsStretch total all place (place + length (all_variables rest)) (all_variables rest)
  pub done : List Ordered
  pub whole_is : whole ≡ behind_them done later
  pub written : AreWritten modes done old now
