-- Two places made one.
use Rattle.std.specs.Prelude.{◌≡◌, ℕ, suc, ◌+◌, ◌*◌, ◌<◌, max, Bool, true, false, ◌&&◌, ◌==◌, ◌↔◌, List, [], ◌∷◌, length, take, drop, slice_set, Option, Some, None, if◌then◌else◌}
use Rattle.merc_tree.specs.Types.{TypeExpr}
use Rattle.merc_type_graph.specs.Solutions.{Solves}
use Rattle.merc_type_graph.specs.Cells.{entries_of, known_at, rank_at, root_mark, roots, IsSound}
use Rattle.merc_type_graph.specs.declared.cell.Known.{Known}
use Rattle.merc_type_graph.specs.declared.cell.Known.TheVariants.{Nothing, Whole, Named, SameAs}
use Rattle.merc_type_graph.specs.declared.cell.Cell.{Cell}
use Rattle.merc_type_graph.specs.declared.store.Store.{Store}

-- whether a type is known as a whole
abbrev pub is_whole : Known → Bool
is_whole Nothing = false
is_whole (Whole whole) = true
is_whole (Named name first count) = false
is_whole (SameAs place) = false

-- a root that is not known as a whole
pub record IsPartial (cells : List Cell) (place : ℕ) : Type 0 where
  pub here : place < length cells
  pub is_root : root_mark (known_at cells place) ≡ 1
  pub partial : is_whole (known_at cells place) ≡ false

-- What is known of a type of which both are known, neither as a whole, but for the arguments of the second; None where no type is both.
abbrev pub joined : Known → Known → Option Known
joined Nothing other = Some other
joined (Named name first count) Nothing = Some (Named name first count)
joined (Named name first count) (Named name' first' count') = if (name == name') && (count == count') then Some (Named name first count) else None
joined (Named name first count) other = None
joined (Whole whole) other = None
joined (SameAs place) other = None

-- the arguments of a type
abbrev pub arguments_of : Store → Known → List ℕ
arguments_of store Nothing = []
arguments_of store (Whole whole) = []
arguments_of store (Named name first count) = take count (drop first store.arguments.items)
arguments_of store (SameAs place) = []

-- the elements of two lists in pairs, as far as both go
abbrev pub zipped : List ℕ → List ℕ → List (ℕ × ℕ)
zipped [] others = []
zipped (first ∷ rest) [] = []
zipped (first ∷ rest) (other ∷ others) = (first, other) ∷ zipped rest others

-- the types at the two places of each pair are equal
abbrev pub AllSame : (ℕ → TypeExpr) → List (ℕ × ℕ) → Type 0
AllSame types [] = Unit {0}
AllSame types (pair ∷ pairs) = (types pair.0 ≡ types pair.1) × AllSame types pairs

-- each pair names places below a bound
abbrev pub AllBelow : ℕ → List (ℕ × ℕ) → Type 0
AllBelow bound [] = Unit {0}
AllBelow bound (pair ∷ pairs) = (pair.0 < bound) × (pair.1 < bound) × AllBelow bound pairs

-- a place that leads to another, of which this is known
abbrev pub attached : List Cell → ℕ → ℕ → Known → List Cell
attached cells child parent known =
    slice_set (slice_set cells parent (record { known = known; rank = max (rank_at cells parent) (rank_at cells child + 1) })) child
    (record { known = SameAs parent; rank = rank_at cells child })

-- what is to be done before the pairs are compared: each link that is made leaves fewer roots
abbrev pub work : Store → List Cell → List (ℕ × ℕ) → ℕ
work store cells pairs = roots cells * (length store.arguments.items + 1) + length pairs

-- Two places are made equal, but for the pairs that are added.
pub record Meets (store : Store) (old new : List Cell) (pairs pairs' : List (ℕ × ℕ)) (one other : ℕ) : Type 0 where
  pub sound : IsSound store new
  pub count : length new ≡ length old
  pub below : AllBelow (length new) pairs'
  pub equal : (types : ℕ → TypeExpr) → (Solves (entries_of store new) types × AllSame types pairs')
      ↔ (Solves (entries_of store old) types × AllSame types pairs × (types one ≡ types other))
  pub less : work store new pairs' < suc (work store old pairs)

-- or no solution has equal types there
abbrev pub MeetsOrDiffers : Bool → Store → List Cell → List Cell → List (ℕ × ℕ) → List (ℕ × ℕ) → ℕ → ℕ → Type 0
MeetsOrDiffers true store old new pairs pairs' one other = Meets store old new pairs pairs' one other
MeetsOrDiffers false store old new pairs pairs' one other =
    (types : ℕ → TypeExpr) → Solves (entries_of store old) types → types one ≡ types other → ⊥

abbrev pub Equates : Bool → Store → List Cell → List Cell → ℕ → ℕ → Type 0
Equates true store old new one other =
    (length new ≡ length old) × IsSound store new × ((types : ℕ → TypeExpr) → Solves (entries_of store new) types ↔ (Solves (entries_of store old) types × (types one ≡ types other)))
Equates false store old new one other = (types : ℕ → TypeExpr) → Solves (entries_of store old) types → types one ≡ types other → ⊥
