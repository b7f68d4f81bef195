-- What slots of the heap keep, in examples.
use Rattle.std.proofs.Common.{◌≡◌, ℕ, pos, negsuc, refl, ap, arith}
use Rattle.merc_value.specs.declared.word.Word.{Word}
use Rattle.merc_value.specs.declared.word.Word.TheVariants.{Int as IntWord, Text as TextWord, Atom as AtomWord, Cell as CellWord}
use Rattle.merc_heap.specs.Fields.{Field, field_with, kind_of, word_with}
use Rattle.merc_heap.specs.Slots.{field_of}
use Rattle.merc_heap.specs.declared.slot.TheConstants.{INT, TEXT, ATOM, CELL}
use Rattle.merc_heap.specs.declared.slot.Slot.TheInside.{Inside}

pub word_with-int : word_with INT 7 ≡ IntWord (pos 7)
word_with-int = refl

-- all bits are set
pub word_with-negative : word_with INT 18446744073709551615 ≡ IntWord (negsuc 0)
word_with-negative = refl

pub word_with-text : word_with TEXT 7 ≡ TextWord 7
word_with-text = refl

pub word_with-cell : word_with CELL 7 ≡ CellWord 7
word_with-cell = refl

pub word_with-not : word_with ATOM 7 ≡ CellWord 7 → ⊥
word_with-not same = cc

pub kind_of-text : kind_of (TextWord 7) ≡ TEXT
kind_of-text = refl

pub kind_of-not : kind_of (AtomWord 7) ≡ TEXT → ⊥
kind_of-not same = omega (arith, same)

-- the word is the cell at a place that needs both halves, and the constructor's number is 1
abbrev far : Inside
far = record { header = 7; low = 5; high = 1 }

pub field_of-example : field_of far ≡ field_with 1 (CellWord 4294967301)
field_of-example = refl

abbrev place_of : Word → ℕ
place_of (IntWord number) = 0
place_of (TextWord name) = 0
place_of (AtomWord name) = 0
place_of (CellWord place) = place

-- the halves are not turned
pub field_of-not : field_of far ≡ field_with 1 (CellWord 21474836481) → ⊥
field_of-not same = omega (arith, ap (λ (f : Field). place_of f.word) same)
