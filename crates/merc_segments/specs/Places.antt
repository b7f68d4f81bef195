-- The places of a heap's cells that are copied into a block.
use Rattle.std.specs.Prelude.{◌≡◌, ◌==◌, ◌<◌, ◌||◌, ℕ, Bool, false, List, length, IsTrue, Some, slice_get}
use Rattle.std.specs.List.{All, list_any, position_or_len}
use Rattle.std.specs.List.Sorted.{IsStrictlyIncreasing}
use Rattle.merc_value.specs.Block.{CellData, value_of}
use Rattle.merc_value.specs.Writing.{arguments_at}
use Rattle.merc_value.specs.declared.word.Word.{Word}
use Rattle.merc_value.specs.declared.word.Word.TheVariants.{Int as IntWord, Text as TextWord, Atom as AtomWord, Cell as CellWord}

-- whether a place is one of these
abbrev pub has : List ℕ → ℕ → Bool
has places place = list_any (λ other. other == place) places

-- whether a word leads to the cell at this place
abbrev pub leads_to : ℕ → Word → Bool
leads_to place (IntWord number) = false
leads_to place (TextWord name) = false
leads_to place (AtomWord symbol) = false
leads_to place (CellWord other) = other == place

-- a word that leads to a cell leads to one at these places
abbrev pub LeadsInto : List ℕ → Word → Type 0
LeadsInto places (IntWord number) = Unit {0}
LeadsInto places (TextWord name) = Unit {0}
LeadsInto places (AtomWord symbol) = Unit {0}
LeadsInto places (CellWord place) = IsTrue (has places place)

-- the places of the cells that these words lead to are put among the old ones
abbrev pub Adds : List Word → List ℕ → List ℕ → Type 0
Adds words old new = (place : ℕ) → has new place ≡ (list_any (leads_to place) words || has old place)

-- ascending places of a heap, where the fields of their cells lead to others of them
pub record IsClosed (heap : List CellData) (places : List ℕ) : Type 0 where
  pub rises : IsStrictlyIncreasing places
  pub within : (place : ℕ) → IsTrue (has places place) → place < length heap
  pub fields : (place : ℕ) → IsTrue (has places place) → All (LeadsInto places) (arguments_at heap place)

-- the block's word for a word of the heap: a cell goes to the number that its place has among these
abbrev pub copy_of : List ℕ → Word → Word
copy_of places (IntWord number) = IntWord number
copy_of places (TextWord name) = TextWord name
copy_of places (AtomWord symbol) = AtomWord symbol
copy_of places (CellWord place) = CellWord (position_or_len (λ other. other == place) places)

-- each cell of the block stands for the same value as the heap's cell at the place of its number
abbrev pub AreCopies : List CellData → List ℕ → List CellData → Type 0
AreCopies heap places block =
    (number place : ℕ) → number < length block → slice_get places number ≡ Some place → value_of block (CellWord number) ≡ value_of heap (CellWord place)
