-- Words are compared one by one.
use Rattle.std.proofs.lemmas.Slice.Eq.{slice_eq-Decides}
use Rattle.merc_value.proofs.WordEquality.{word_eq}
use Rattle.merc_value.proofs.sharing.same_words.Goals as goal

pub returns : goal.returns
returns c = slice_eq-Decides word_eq _ _ _ c.eq.ensures
