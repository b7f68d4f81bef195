-- What a graph keeps for each place, as entries.
use Rattle.std.specs.Prelude.{◌≡◌, ℕ, ◌+◌, ◌<◌, ◌≤◌, List, [], ◌∷◌, map, length, take, drop, slice_index_or, slice_get, Some}
use Rattle.merc_tree.specs.Types.{TypeExpr}
use Rattle.merc_type_table.specs.Table.{type_at}
use Rattle.merc_type_graph.specs.Solutions.{Entry, Unknown, WholeEntry, Applied, Link, Solves}
use Rattle.merc_type_graph.specs.declared.cell.Known.{Known}
use Rattle.merc_type_graph.specs.declared.cell.Known.TheVariants.{Nothing, Whole, Named, SameAs}
use Rattle.merc_type_graph.specs.declared.cell.Cell.{Cell}
use Rattle.merc_type_graph.specs.declared.store.Store.{Store}

-- what is known, with the declared types and the arguments of all types, as an entry
abbrev pub entry_of : Store → Known → Entry
entry_of store Nothing = Unknown
entry_of store (Whole whole) = WholeEntry (type_at store.table.now whole)
entry_of store (Named name first count) = Applied name (take count (drop first store.arguments.items))
entry_of store (SameAs place) = Link place

abbrev pub entries_of : Store → List Cell → List Entry
entries_of store cells = map (λ c. entry_of store c.known) cells

-- the places that an entry names
abbrev pub needs_of : Entry → List ℕ
needs_of Unknown = []
needs_of (WholeEntry whole) = []
needs_of (Applied name arguments) = arguments
needs_of (Link place) = place ∷ []

-- it names declared types and arguments that are there
abbrev pub IsStored : Store → Known → Type 0
IsStored store Nothing = Unit {0}
IsStored store (Whole whole) = whole < length store.table.now
IsStored store (Named name first count) = first + count ≤ length store.arguments.items
IsStored store (SameAs place) = Unit {0}

abbrev pub blank : Cell
blank = record { known = Nothing; rank = 0 }

abbrev pub known_at : List Cell → ℕ → Known
known_at cells place = (slice_index_or cells place blank).known

abbrev pub rank_at : List Cell → ℕ → ℕ
rank_at cells place = (slice_index_or cells place blank).rank

-- a root is no link; 1 for a root, and 0 for a link
abbrev pub root_mark : Known → ℕ
root_mark Nothing = 1
root_mark (Whole whole) = 1
root_mark (Named name first count) = 1
root_mark (SameAs place) = 0

-- the number of roots
abbrev pub roots : List Cell → ℕ
roots [] = 0
roots (first ∷ rest) = root_mark first.known + roots rest

-- Links lead to places of a higher rank, and no rank is above the number of links.
pub record IsForest (cells : List Cell) : Type 0 where
  pub rising : (i j : ℕ) → known_at cells i ≡ SameAs j → rank_at cells i < rank_at cells j
  pub near : (i j : ℕ) → known_at cells i ≡ SameAs j → j < length cells
  pub room : (i : ℕ) → i < length cells → rank_at cells i + roots cells ≤ length cells

-- what a graph keeps is a forest, and all that it names is there
pub record IsSound (store : Store) (cells : List Cell) : Type 0 where
  pub forest : IsForest cells
  pub stored : (i : ℕ) → IsStored store (known_at cells i)
  pub within : (i number place : ℕ) → slice_get (needs_of (entry_of store (known_at cells i))) number ≡ Some place → place < length cells

-- a place leads to a root, whose type is the same in each solution
pub record LeadsTo (cells : List Cell) (place root : ℕ) : Type 0 where
  pub here : root < length cells
  pub is_root : root_mark (known_at cells root) ≡ 1
  pub same : (store : Store) (types : ℕ → TypeExpr) → Solves (entries_of store cells) types → types root ≡ types place
