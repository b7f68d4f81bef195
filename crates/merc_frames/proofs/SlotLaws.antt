-- What is put into a slot is found there.
use Rattle.std.proofs.Common.{◌≡◌, Some, refl}
use Rattle.merc_value.specs.declared.word.Word.{Word}
use Rattle.merc_value.specs.declared.word.Word.TheVariants.{Int as IntWord, Text as TextWord, Atom as AtomWord, Cell as CellWord}
use Rattle.merc_frames.specs.Slots.{holding, word_in}

-- a slot that holds a word holds that one
pub word_in-holding : (word : Word) → word_in (holding word) ≡ Some word
word_in-holding (IntWord number) = refl
word_in-holding (TextWord name) = refl
word_in-holding (AtomWord symbol) = refl
word_in-holding (CellWord place) = refl
