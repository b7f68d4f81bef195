-- Variables of which one has to be bound before a goal is ready.
use Rattle.std.specs.Prelude.{◌≡◌, ◌≤◌, ◌⊎◌, ◌||◌, not, ℕ, Bool, true, false, List, [], ◌∷◌, length, drop}
use Rattle.std.specs.List.{list_all, list_any, slice_index_or}
use Rattle.merc_tree.specs.declared.declarations.ModeDecl.{ModeDecl}
use Rattle.merc_tree.specs.declared.declarations.PredDecl.{PredDecl}
use Rattle.merc_goal_tree.specs.Nodes.{Node, nodes_of}
use Rattle.merc_order.specs.Bound.{Bound, among}
use Rattle.merc_order.specs.Order.{from}
use Rattle.merc_order.specs.Ordered.{is_ready}
use Rattle.merc_order.specs.Procedures.{modes_of}
use Rattle.merc_goal_facts.specs.Facts.{AreKnown, subgoals, all_subgoals}
use Rattle.merc_goal_facts.specs.declared.facts.Facts.{Facts}
use Rattle.merc_goal_order.specs.Positions.{IsAt}
use Rattle.merc_goal_order.specs.declared.watching.Stretch.{Stretch}

-- none of these variables is bound
abbrev pub none_bound : List ℕ → Bound → Bool
none_bound variables bound = list_all (λ variable. not (bound variable)) variables

-- there are some, and none of them is bound
abbrev pub is_shut : List ℕ → Bound → Bool
is_shut [] bound = false
is_shut (first ∷ rest) bound = none_bound (first ∷ rest) bound

-- all variables but these
abbrev pub all_but : List ℕ → Bound
all_but variables variable = not (among variables variable)

-- The goal is not ready even where all variables but these are bound. Of no variables nothing is said.
abbrev pub IsWatch : (ℕ → ℕ) → (ℕ → List ModeDecl) → Node → List ℕ → Type 0
IsWatch total modes goal [] = Unit {0}
IsWatch total modes goal (first ∷ rest) = is_ready (from total modes goal (all_but (first ∷ rest))) ≡ false

-- what is watched for the goal of an index
abbrev pub watched_at : List (List ℕ) → ℕ → List ℕ
watched_at lists index = slice_index_or lists index []

abbrev pub AreWatches : (ℕ → ℕ) → (ℕ → List ModeDecl) → List Node → List (List ℕ) → Type 0
AreWatches total modes goals lists = (index : ℕ) (goal : Node) (rest : List Node) → drop index goals ≡ goal ∷ rest → IsWatch total modes goal (watched_at lists index)

-- one of several goals binds a variable, by what is known of them
abbrev pub some_binds : List Facts → Bound
some_binds facts variable = list_any (λ found. among found.binds variable) facts

-- What one of several goals binds is bound, or is among these.
abbrev pub AreFree : List Facts → Bound → List ℕ → Type 0
AreFree facts bound free = (variable : ℕ) → some_binds facts variable ≡ true → (bound variable || among free variable) ≡ true

-- a stretch of a list's items
abbrev pub LiesIn : Stretch → List ℕ → Type 0
LiesIn stretch items = (stretch.low ≤ stretch.high) × (stretch.high ≤ length items)

-- Of variables that are watched one has to be bound before the goal is ready, where these are its variables that are not bound.
abbrev pub TellsWatch : List PredDecl → Node → List Facts → List ℕ → Bound → List ℕ → Type 0
TellsWatch predicates goal facts free bound watched =
    (total : ℕ → ℕ) → AreKnown total (modes_of predicates) (subgoals goal) facts → AreFree facts bound free → IsWatch total (modes_of predicates) goal watched

-- What is watched for each goal stays, or is right for the one of this index.
abbrev pub KeepsWatch : List PredDecl → Node → List Facts → ℕ → List (List ℕ) → List (List ℕ) → Type 0
KeepsWatch predicates goal facts index old new =
    (other : ℕ) → (watched_at new other ≡ watched_at old other)
    ⊎ ((other ≡ index) × ((total : ℕ → ℕ) → AreKnown total (modes_of predicates) (subgoals goal) facts → IsWatch total (modes_of predicates) goal (watched_at new other)))

-- Where what is watched was right for all goals of a conjunction it still is.
abbrev pub KeepsWatches : List PredDecl → List Node → List Facts → List (List ℕ) → List (List ℕ) → Type 0
KeepsWatches predicates goals facts old new =
    (total : ℕ → ℕ) → AreKnown total (modes_of predicates) (all_subgoals (nodes_of goals)) facts → AreWatches total (modes_of predicates) goals old → AreWatches total (modes_of predicates) goals new

-- The same, where the goal of an index was asked.
abbrev pub KeepsWatchAt : List PredDecl → Node → List Facts → ℕ → ℕ → List (List ℕ) → List (List ℕ) → Type 0
KeepsWatchAt predicates goal facts at index old new =
    (goals rest : List Node) → drop index goals ≡ goal ∷ rest → IsAt goals index at → KeepsWatches predicates goals facts old new
