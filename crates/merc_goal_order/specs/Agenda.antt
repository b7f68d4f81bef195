-- Which goals of a conjunction are to be asked, and where each of them begins.
use Rattle.std.specs.Prelude.{◌≡◌, ◌≤◌, ◌<◌, ◌+◌, ◌-◌, ◌||◌, ◌⊎◌, nat_le, ℕ, suc, Bool, true, false, List, length, take, drop}
use Rattle.std.specs.BTreeSet.{btree_set_len, contains}
use Rattle.std.specs.List.{slice_index_or}
use Rattle.std.specs.Ordering.{nat_cmp}
use Rattle.merc_tree.specs.declared.declarations.ModeDecl.{ModeDecl}
use Rattle.merc_goal_tree.specs.Nodes.{Node, nodes_of}
use Rattle.merc_goal_tree.specs.Variables.{all_variables}
use Rattle.merc_order.specs.Bound.{among}
use Rattle.merc_goal_facts.specs.Facts.{AreKnown, all_subgoals}
use Rattle.merc_goal_facts.specs.Outside.{IsStretch}
use Rattle.merc_goal_facts.specs.declared.facts.Facts.{Facts}
use Rattle.merc_goal_order.specs.Positions.{IsAt, IsPlaced}
use Rattle.merc_goal_order.specs.declared.agenda.Agenda.{Agenda}
use Rattle.merc_goal_order.specs.declared.agenda.Start.{Start}

-- where the goal of an index begins
abbrev pub start_at : List Start → ℕ → Start
start_at starts index = slice_index_or starts index (record { at = 0; place = 0 })

-- The parts of each goal stand from its start on; behind the last goal stand none.
abbrev pub StandAt : List Node → List Start → Type 0
StandAt goals starts = (length starts ≡ suc (length goals)) × ((index : ℕ) → index < length starts → IsAt goals index (start_at starts index).at)

-- Where the facts say how often the variables of goals occur, those of each goal occur from its start on.
abbrev pub ArePlaced : ℕ → List Node → List Facts → List ℕ → List Start → Type 0
ArePlaced start goals facts all starts =
    (total : ℕ → ℕ) (modes : ℕ → List ModeDecl) → AreKnown total modes (all_subgoals (nodes_of goals)) facts
    → IsStretch total all start (start + length (all_variables (nodes_of goals))) (all_variables (nodes_of goals))
    → (index : ℕ) → index < length starts → IsPlaced start goals index (start_at starts index).place

-- None begins before an earlier one.
abbrev pub Ascends : List Start → Type 0
Ascends starts = (index other : ℕ) → index ≤ other → other < length starts → (start_at starts index).place ≤ (start_at starts other).place

-- A place belongs to the goal of this index.
abbrev pub Holds : List Start → ℕ → ℕ → Type 0
Holds starts index place = ((start_at starts index).place ≤ place) × (place < (start_at starts (suc index)).place)

-- the variables that occur in the goal of this index
abbrev pub inside : List ℕ → List Start → ℕ → List ℕ
inside all starts index = drop (start_at starts index).place (take (start_at starts (suc index)).place all)

-- whether the goal of this index is to be asked
abbrev pub awaits : Agenda → ℕ → Bool
awaits agenda index = nat_le agenda.asked index || contains nat_cmp agenda.again index

-- how many are
abbrev pub awaited_count : Agenda → ℕ
awaited_count agenda = (length agenda.starts.items - suc agenda.asked) + btree_set_len agenda.again

-- Behind those that were asked there is one more start, and only they are asked again.
pub record IsSound (agenda : Agenda) : Type 0 where
  pub room : agenda.asked < length agenda.starts.items
  pub below : (index : ℕ) → contains nat_cmp agenda.again index ≡ true → index < agenda.asked

-- The goal of this index, the first that was awaited, may be awaited no more; all others are as before.
pub record IsTaken (index : ℕ) (before now : ℕ → Bool) : Type 0 where
  pub first : (other : ℕ) → other < index → before other ≡ false
  pub others : (other : ℕ) → now other ≡ false → (other ≡ index) ⊎ (before other ≡ false)

-- Each goal to which one of these places belongs is awaited, but for the one that binds.
pub record AwaitsPlaces (binding : ℕ) (places : List ℕ) (old new : Agenda) : Type 0 where
  pub more : (index : ℕ) → awaits old index ≡ true → awaits new index ≡ true
  pub each : Ascends old.starts.items → (index place : ℕ) → among places place ≡ true → Holds old.starts.items index place
      → (index ≡ binding) ⊎ (awaits new index ≡ true)

-- Each goal in which one of these variables occurs is awaited, but for the one that binds.
pub record AwaitsAgain (all : List ℕ) (binding : ℕ) (variables : List ℕ) (old new : Agenda) : Type 0 where
  pub more : (index : ℕ) → awaits old index ≡ true → awaits new index ≡ true
  pub each : Ascends old.starts.items → (index variable : ℕ) → among variables variable ≡ true → among (inside all old.starts.items index) variable ≡ true
      → (index ≡ binding) ⊎ (awaits new index ≡ true)
