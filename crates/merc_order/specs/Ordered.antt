-- Goals with their order, and what becomes of a goal that has none.
use Rattle.std.specs.Prelude.{ℕ, Bool, true, false, List}
use Rattle.merc_base.specs.declared.place.Span.{Span}
use Rattle.merc_base.specs.declared.refusal.Refusal.{Refusal}
use Rattle.merc_goal_tree.specs.declared.goal.Comparison.{Comparison}
use Rattle.merc_goal_tree.specs.declared.goal.Operation.{Operation}
use Rattle.merc_goal_tree.specs.declared.goal.Symbol.{Symbol}

-- A goal whose parts stand in the order in which they go, with its outputs: the variables that are free before it, bound behind it, and occur outside it.
-- Where a goal writes variables, `tests` says of each place whether its variable is bound already.
mutual
  pub data Ordered : Type 0 where
    put : (step : Step) (outputs : List ℕ) (span : Span) → Ordered

  pub data Step : Type 0 where
    Truth : Step
    Failure : Step
    Assign : (to from : ℕ) → Step
    Test : (one other : ℕ) → Step
    Build : (whole : ℕ) (symbol : Symbol) (arguments : List ℕ) → Step
    Split : (whole : ℕ) (symbol : Symbol) (arguments : List ℕ) (tests : List Bool) → Step
    Computed : (operation : Operation) (result left right : ℕ) (tests : List Bool) → Step
    Compared : (comparison : Comparison) (left right : ℕ) → Step
    Raised : (text : ℕ) → Step
    Called : (predicate mode : ℕ) (arguments : List ℕ) (tests : List Bool) → Step
    Sequence : (goals : Ordereds) → Step
    Beside : (goals : Ordereds) → Step
    Choice : (goals : Ordereds) → Step
    Decision : (condition then_part else_part : Ordered) → Step
    Denial : (goal : Ordered) → Step
    Within : (own : List ℕ) (goal : Ordered) → Step

  pub data Ordereds : Type 0 where
    no_goals : Ordereds
    more_goals : (first : Ordered) (rest : Ordereds) → Ordereds

-- what becomes of a goal: its ordered form, or what is wrong
pub data Outcome : Type 0 where
  Ready : (goal : Ordered) → Outcome
  Stuck : (fault : Refusal) → Outcome

abbrev pub is_ready : Outcome → Bool
is_ready (Ready goal) = true
is_ready (Stuck fault) = false

-- the same of goals
pub data Outcomes : Type 0 where
  AllReady : (goals : Ordereds) → Outcomes
  OneStuck : (fault : Refusal) → Outcomes

abbrev pub are_ready : Outcomes → Bool
are_ready (AllReady goals) = true
are_ready (OneStuck fault) = false

-- An outcome, and what is made of it.

abbrev pub if_ready : Outcome → (Ordered → Outcome) → Outcome
if_ready (Ready goal) made = made goal
if_ready (Stuck fault) made = Stuck fault

abbrev pub if_all_ready : Outcomes → (Ordereds → Outcome) → Outcome
if_all_ready (AllReady goals) made = made goals
if_all_ready (OneStuck fault) made = Stuck fault

abbrev pub then_all : Ordered → Outcomes → Outcomes
then_all first (AllReady rest) = AllReady (more_goals first rest)
then_all first (OneStuck fault) = OneStuck fault

abbrev pub and_all : Outcome → Outcomes → Outcomes
and_all (Ready first) rest = then_all first rest
and_all (Stuck fault) rest = OneStuck fault
