-- Places visited after the places that they need.
use Rattle.std.specs.Prelude.{◌≡◌, ◌≢◌, ℕ, suc, ◌+◌, ◌-◌, ◌*◌, ◌<◌, Bool, true, false, ◌⊎◌, List, [], ◌∷◌, length, slice_index_or, slice_get, Some}
use Rattle.merc_tree.specs.Types.{TypeExpr, TypeExprs, TypeVariable, IntType, TextType, TypeApplication, no_types, more_types}
use Rattle.merc_type_graph.specs.Solutions.{Agrees, Solves}
use Rattle.merc_type_graph.specs.Cells.{entry_of, entries_of, needs_of, known_at, rank_at}
use Rattle.merc_type_graph.specs.declared.visiting.Mark.{Mark}
use Rattle.merc_type_graph.specs.declared.visiting.Mark.TheVariants.{New, Open, Done}
use Rattle.merc_type_graph.specs.declared.cell.Cell.{Cell}
use Rattle.merc_type_graph.specs.declared.store.Store.{Store}

-- the number of names in a type
abbrev mutual
  pub size : TypeExpr → ℕ
  size (TypeVariable name) = 1
  size IntType = 1
  size TextType = 1
  size (TypeApplication name arguments) = suc (sizes arguments)

  pub sizes : TypeExprs → ℕ
  sizes no_types = 0
  sizes (more_types first rest) = size first + sizes rest

abbrev pub mark_at : List Mark → ℕ → Mark
mark_at marks place = slice_index_or marks place New

abbrev pub needs_at : Store → List Cell → ℕ → List ℕ
needs_at store cells place = needs_of (entry_of store (known_at cells place))

-- what falls along needs: the size of the type, and along links, which keep it, what is left of the rank
unfoldable pub weight : List Cell → (ℕ → TypeExpr) → ℕ → ℕ
weight cells types place = size (types place) * suc (length cells) + (length cells - rank_at cells place)

-- a place is among those that are being visited, each with the number of its needs that are done; the last one begun is the first
abbrev pub IsOn : ℕ → List (ℕ × ℕ) → Type 0
IsOn place [] = ⊥
IsOn place (frame ∷ frames) = (frame.0 ≡ place) ⊎ IsOn place frames

-- each is lighter than those begun before it
abbrev pub Falls : (ℕ → ℕ) → List (ℕ × ℕ) → Type 0
Falls heavy [] = Unit {0}
Falls heavy (frame ∷ frames) = ((i : ℕ) → IsOn i frames → heavy frame.0 < heavy i) × Falls heavy frames

-- so many of the needs of each are done
abbrev pub Passed : Store → List Cell → List Mark → List (ℕ × ℕ) → Type 0
Passed store cells marks [] = Unit {0}
Passed store cells marks (frame ∷ frames) =
    (frame.0 < length cells)
    × ((number place : ℕ) → number < frame.1 → slice_get (needs_at store cells frame.0) number ≡ Some place → mark_at marks place ≡ Done)
    × Passed store cells marks frames

-- The places that are done have all their needs done, and types that agree with all of them.
pub record IsSettled (store : Store) (cells : List Cell) (marks : List Mark) : Type 0 where
  pub count : length marks ≡ length cells
  pub types : ℕ → TypeExpr
  pub agree : (i : ℕ) → mark_at marks i ≡ Done → Agrees types i (entry_of store (known_at cells i))
  pub closed : (i number place : ℕ) → mark_at marks i ≡ Done → slice_get (needs_at store cells i) number ≡ Some place → mark_at marks place ≡ Done

-- the state of a visit
pub record IsVisiting (store : Store) (cells : List Cell) (marks : List Mark) (frames : List (ℕ × ℕ)) : Type 0 where
  pub settled : IsSettled store cells marks
  pub open_on : (i : ℕ) → mark_at marks i ≡ Open → IsOn i frames
  pub passed : Passed store cells marks frames
  pub falls : (types : ℕ → TypeExpr) → Solves (entries_of store cells) types → Falls (weight cells types) frames

abbrev pub new_mark : Mark → ℕ
new_mark New = 1
new_mark Open = 0
new_mark Done = 0

-- how many places are new
abbrev pub news : List Mark → ℕ
news [] = 0
news (first ∷ rest) = new_mark first + news rest

-- what is left to look at in the frames
abbrev pub left_over : Store → List Cell → List (ℕ × ℕ) → ℕ
left_over store cells [] = 0
left_over store cells (frame ∷ frames) = suc (length (needs_at store cells frame.0) - frame.1) + left_over store cells frames

abbrev pub visit_left : Store → List Cell → List Mark → List (ℕ × ℕ) → ℕ
visit_left store cells marks frames = news marks * (length store.arguments.items + 3) + left_over store cells frames

-- one step of a visit
pub record Advance (store : Store) (cells : List Cell) (old new : List Mark) (frames frames' : List (ℕ × ℕ)) : Type 0 where
  pub visiting : IsVisiting store cells new frames'
  pub kept : (i : ℕ) → mark_at old i ≡ Done → mark_at new i ≡ Done
  pub begun : (i : ℕ) → mark_at old i ≢ New → mark_at new i ≢ New
  pub less : visit_left store cells new frames' < visit_left store cells old frames

-- or nothing solves the equations
abbrev pub Advances : Bool → Store → List Cell → List Mark → List Mark → List (ℕ × ℕ) → List (ℕ × ℕ) → Type 0
Advances true store cells old new frames frames' = Advance store cells old new frames frames'
Advances false store cells old new frames frames' = (types : ℕ → TypeExpr) → Solves (entries_of store cells) types → ⊥

-- no place is being visited
abbrev pub IsIdle : List Mark → Type 0
IsIdle marks = (i : ℕ) → mark_at marks i ≢ Open

-- a whole visit
abbrev pub Visits : Bool → Store → List Cell → List Mark → List Mark → ℕ → Type 0
Visits true store cells old new start =
    IsSettled store cells new × IsIdle new × (mark_at new start ≡ Done) × ((i : ℕ) → mark_at old i ≡ Done → mark_at new i ≡ Done)
Visits false store cells old new start = (types : ℕ → TypeExpr) → Solves (entries_of store cells) types → ⊥
