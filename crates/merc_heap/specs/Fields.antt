-- The fields of a heap's cells.
use Rattle.std.specs.Prelude.{ℕ, ◌==◌, if◌then◌else◌}
use Rattle.std.specs.Int.{w64, cast_signed}
use Rattle.merc_value.specs.declared.word.Word.{Word}
use Rattle.merc_value.specs.declared.word.Word.TheVariants.{Int as IntWord, Text as TextWord, Atom as AtomWord, Cell as CellWord}
use Rattle.merc_heap.specs.declared.slot.TheConstants.{INT, TEXT, ATOM, CELL}

-- a field's word, and the number of the constructor whose cell ends with the field
pub record Field : Type 0 where
  pub number : ℕ
  pub word : Word

abbrev pub field_with : ℕ → Word → Field
field_with number word = record { number = number; word = word }

-- the word of this kind with these bits
abbrev pub word_with : ℕ → ℕ → Word
word_with kind bits = if kind == INT then IntWord (cast_signed w64 bits) else if kind == TEXT then TextWord bits else if kind == ATOM then AtomWord bits else CellWord bits

-- the kind of a word
abbrev pub kind_of : Word → ℕ
kind_of (IntWord number) = INT
kind_of (TextWord name) = TEXT
kind_of (AtomWord symbol) = ATOM
kind_of (CellWord place) = CELL
