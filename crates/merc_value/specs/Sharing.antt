-- Cells in which each value lies once, so that words are equal where their values are.
use Rattle.std.specs.Prelude.{◌≡◌, ℕ, ◌<◌, List, [], length, Some, slice_get, slice_index_or}
use Rattle.merc_base.specs.Names.{nil_name}
use Rattle.merc_value.specs.Value.{Value}
use Rattle.merc_value.specs.Block.{CellData, AreLower, IsBelow, value_of}
use Rattle.merc_value.specs.declared.word.Word.{Word}
use Rattle.merc_value.specs.declared.word.Word.TheVariants.{Int as IntWord, Text as TextWord, Atom as AtomWord, Cell as CellWord}

-- no two of the cells are the same, and each has arguments, since a word alone stands for a constructor without
pub record AreShared (cells : List CellData) : Type 0 where
  pub lower : AreLower cells
  pub apart : (one other : ℕ) (at : CellData) → slice_get cells one ≡ Some at → slice_get cells other ≡ Some at → one ≡ other
  pub applied : (place symbol : ℕ) → slice_get cells place ≡ Some (record { symbol = symbol; arguments = [] }) → ⊥

-- the cells are still shared, and each word that led to one of the old has its value still
pub record KeepsShared (old new : List CellData) : Type 0 where
  pub shared : AreShared new
  pub below : (word : Word) → IsBelow (length old) word → IsBelow (length new) word
  pub same : (word : Word) → IsBelow (length old) word → value_of new word ≡ value_of old word

-- the word for this value, among shared cells
pub record IsWordFor (shared : List CellData) (value : Value) (word : Word) : Type 0 where
  pub below : IsBelow (length shared) word
  pub same : value_of shared word ≡ value

-- the word that would stand in place of a cell that is not there; no word of a block leads to one
abbrev pub no_word : Word
no_word = AtomWord nil_name

-- a word, with the word at a cell's place in place of the cell
abbrev pub moved : List Word → Word → Word
moved words (IntWord number) = IntWord number
moved words (TextWord name) = TextWord name
moved words (AtomWord symbol) = AtomWord symbol
moved words (CellWord place) = slice_index_or words place no_word

-- each of these words is the one for the value of the cell at its place
abbrev pub AreMoved : List CellData → List CellData → List Word → Type 0
AreMoved cells shared words = (place : ℕ) → place < length words → IsWordFor shared (value_of cells (CellWord place)) (slice_index_or words place no_word)
