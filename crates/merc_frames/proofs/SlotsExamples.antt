-- What the definitions of slots say.
use Rattle.std.proofs.Common.{◌≡◌, Some, None, refl, pos}
use Rattle.merc_value.specs.declared.word.Word.TheVariants.{Int as IntWord, Text as TextWord, Atom as AtomWord, Cell as CellWord}
use Rattle.merc_frames.specs.declared.slot.Slot.TheVariants.{Empty, Int, Text, Atom, Cell, Mark}
use Rattle.merc_frames.specs.Slots.{holding, word_in, mark_in}

pub holding-example : holding (CellWord 3) ≡ Cell 3
holding-example = refl

-- a text is no constructor of that name
pub holding-counterexample : holding (TextWord 3) ≡ Atom 3 → ⊥
holding-counterexample = λ same. absurd cc

pub word_in-example : word_in (Atom 7) ≡ Some (AtomWord 7)
word_in-example = refl

pub word_in-none : (word_in Empty ≡ None) × (word_in (Mark 2) ≡ None)
word_in-none = (refl, refl)

-- a mark is no cell
pub word_in-counterexample : word_in (Mark 2) ≡ Some (CellWord 2) → ⊥
word_in-counterexample = λ same. absurd cc

pub mark_in-example : mark_in (Mark 2) ≡ 2
mark_in-example = refl

pub mark_in-none : (mark_in Empty ≡ 0) × (mark_in (Cell 2) ≡ 0)
mark_in-none = (refl, refl)

pub mark_in-counterexample : mark_in (Cell 2) ≡ 2 → ⊥
mark_in-counterexample = λ same. absurd cc

pub holding-each : (holding (IntWord (pos 3)) ≡ Int (pos 3)) × (holding (TextWord 3) ≡ Text 3) × (holding (AtomWord 3) ≡ Atom 3)
holding-each = (refl, refl, refl)

pub word_in-each : (word_in (Int (pos 3)) ≡ Some (IntWord (pos 3))) × (word_in (Text 3) ≡ Some (TextWord 3)) × (word_in (Cell 3) ≡ Some (CellWord 3))
word_in-each = (refl, refl, refl)

-- no word is a mark
pub mark_in-words : (mark_in (Int (pos 3)) ≡ 0) × (mark_in (Text 3) ≡ 0) × (mark_in (Atom 3) ≡ 0)
mark_in-words = (refl, refl, refl)
