-- Pairs of words whose values are compared, and the pairs of cells that are met.
use Rattle.std.specs.Prelude.{◌≡◌, ℕ, ◌+◌, ◌<◌, ◌≤◌, ◌⊎◌, List, [], ◌∷◌, ◌++◌, length, map, Some, slice_get}
use Rattle.merc_value.specs.Value.{Value, Values, Int, Text, Con, none, more}
use Rattle.merc_value.specs.Block.{CellData, IsBelow, value_of}
use Rattle.merc_value.specs.declared.word.Word.{Word}
use Rattle.merc_value.specs.declared.word.Word.TheVariants.{Int as IntWord, Text as TextWord, Atom as AtomWord, Cell as CellWord}
use Rattle.merc_heap.specs.Heap.{arguments_in, symbol_of}

abbrev mutual
  -- how many integers, texts and constructors stand in a value
  pub size : Value → ℕ
  size (Int number) = 1
  size (Text text) = 1
  size (Con symbol arguments) = 1 + sizes arguments

  pub sizes : Values → ℕ
  sizes none = 0
  sizes (more first rest) = size first + sizes rest

-- each word with the one of the same number
abbrev pub pairs : List Word → List Word → List (Word × Word)
pairs [] others = []
pairs (one ∷ ones) [] = []
pairs (one ∷ ones) (other ∷ others) = (one, other) ∷ pairs ones others

-- the words of each pair stand for one value
abbrev pub AreSame : List CellData → List (Word × Word) → Type 0
AreSame cells [] = Unit {0}
AreSame cells (pair ∷ rest) = (value_of cells pair.0 ≡ value_of cells pair.1) × AreSame cells rest

-- the sizes of the first words' values
abbrev pub weight : List CellData → List (Word × Word) → ℕ
weight cells [] = 0
weight cells (pair ∷ rest) = size (value_of cells pair.0) + weight cells rest

-- two words stand for one value exactly where those of each of these pairs do, which are lighter
pub record IsSplit (cells : List CellData) (one other : Word) (parts : List (Word × Word)) : Type 0 where
  pub whole : AreSame cells parts → value_of cells one ≡ value_of cells other
  pub each : value_of cells one ≡ value_of cells other → AreSame cells parts
  pub lighter : weight cells parts < size (value_of cells one)

-- two words' values have one constructor, and as many arguments
pub record AreAlike (cells : List CellData) (one other : Word) : Type 0 where
  pub symbol : ℕ
  pub is_one : symbol_of (value_of cells one) ≡ Some symbol
  pub is_other : symbol_of (value_of cells other) ≡ Some symbol
  pub count : length (arguments_in cells one) ≡ length (arguments_in cells other)

-- the words of a pair of cells, which are given by their places
abbrev pub words_at : ℕ × ℕ → Word × Word
words_at pair = (CellWord pair.0, CellWord pair.1)

-- the cells at two places have one constructor, and as many arguments
pub record IsMet (cells : List CellData) (pair : ℕ × ℕ) : Type 0 where
  pub alike : AreAlike cells (CellWord pair.0) (CellWord pair.1)
  pub below : pair.0 < length cells
  pub other_below : pair.1 < length cells

abbrev pub AreMet : List CellData → List (ℕ × ℕ) → Type 0
AreMet cells [] = Unit {0}
AreMet cells (pair ∷ rest) = IsMet cells pair × AreMet cells rest

-- the first words of the pairs lie below this place
abbrev pub StartBelow : ℕ → List (Word × Word) → Type 0
StartBelow place [] = Unit {0}
StartBelow place (pair ∷ rest) = IsBelow place pair.0 × StartBelow place rest

-- the cells of each pair whose first lies below this place stand for one value
abbrev pub SameBelow : List CellData → List (ℕ × ℕ) → ℕ → Type 0
SameBelow cells met place =
    (k one other : ℕ) → slice_get met k ≡ Some (one, other) → one < place → value_of cells (CellWord one) ≡ value_of cells (CellWord other)

-- words are met: pairs of cells were put behind those that were met, so that the words stand for one value where the
-- cells do, and those new pairs of cells do where the words do
pub record Meets (cells : List CellData) (parts : List (Word × Word)) (old new : List (ℕ × ℕ)) : Type 0 where
  pub more : List (ℕ × ℕ)
  pub grown : new ≡ old ++ more
  pub whole : (place : ℕ) → StartBelow place parts → SameBelow cells new place → AreSame cells parts
  pub each : AreSame cells parts → AreSame cells (map words_at more)
  pub met : AreMet cells more
  pub light : weight cells (map words_at more) ≤ weight cells parts

-- the pair is behind those that were met, or was among them
abbrev pub IsAdded : ℕ × ℕ → List (ℕ × ℕ) → List (ℕ × ℕ) → Type 0
IsAdded pair old new = (((k : ℕ) × (slice_get old k ≡ Some pair)) × (new ≡ old)) ⊎ (new ≡ old ++ pair ∷ [])

-- the pair of two words' cells is added; other words add none
abbrev pub Notes : Word → Word → List (ℕ × ℕ) → List (ℕ × ℕ) → Type 0
Notes (IntWord number) other old new = new ≡ old
Notes (TextWord name) other old new = new ≡ old
Notes (AtomWord symbol) other old new = new ≡ old
Notes (CellWord place) (IntWord number) old new = new ≡ old
Notes (CellWord place) (TextWord name) old new = new ≡ old
Notes (CellWord place) (AtomWord symbol) old new = new ≡ old
Notes (CellWord place) (CellWord other) old new = IsAdded (place, other) old new
