-- What the definitions of Segments say of the list of seven and its first element.
use Rattle.std.proofs.Common.{pos, List, [], ◌∷◌, refl, arith}
use Rattle.merc_base.specs.Names.{cons_name, nil_name}
use Rattle.merc_value.specs.Value.{Value, Int, Con, none, more}
use Rattle.merc_value.specs.Block.{CellData, IsBelow, cell_values}
use Rattle.merc_value.specs.declared.word.Word.TheVariants.{Int as IntWord, Atom as AtomWord, Cell as CellWord}
use Rattle.merc_segments.specs.Segments.{AreWordsFor}
use Rattle.merc_segments.proofs.ThawLemmas.{All-none, All-both}

abbrev cells : List CellData
cells = record { symbol = cons_name; arguments = IntWord (pos 7) ∷ AtomWord nil_name ∷ [] } ∷ []

abbrev seven : Value
seven = Con cons_name (more (Int (pos 7)) (more (Con nil_name none) none))

pub AreWordsFor-example : AreWordsFor cells (seven ∷ Int (pos 7) ∷ []) (CellWord 0 ∷ IntWord (pos 7) ∷ [])
unfolding cell_values
AreWordsFor-example = record {
  below = All-both (IsBelow 1) (CellWord 0) (IntWord (pos 7) ∷ []) (omega arith) (All-both (IsBelow 1) (IntWord (pos 7)) [] tt (All-none (IsBelow 1)));
  same = refl;
}

-- words in another order
pub AreWordsFor-counterexample : AreWordsFor cells (seven ∷ Int (pos 7) ∷ []) (IntWord (pos 7) ∷ CellWord 0 ∷ []) → ⊥
unfolding cell_values
AreWordsFor-counterexample words = let same = words.same in cc
