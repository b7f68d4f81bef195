-- What the definitions of Equality say of four cells of one constructor: two with 7, one with 8, and one with 7 twice.
use Rattle.std.proofs.Common.{◌≡◌, pos, List, [], ◌∷◌, inl, inr, refl, arith}
use Rattle.merc_base.specs.Names.{cons_name}
use Rattle.merc_value.specs.Block.{CellData, cell_values, value_of}
use Rattle.merc_value.specs.declared.word.Word.TheVariants.{Int as IntWord, Cell as CellWord}
use Rattle.merc_heap.specs.Equality.{size, AreSame, IsSplit, AreAlike, IsMet, Meets, Notes}

abbrev cells : List CellData
cells =
    record { symbol = cons_name; arguments = IntWord (pos 7) ∷ [] } ∷
    record { symbol = cons_name; arguments = IntWord (pos 7) ∷ [] } ∷
    record { symbol = cons_name; arguments = IntWord (pos 8) ∷ [] } ∷
    record { symbol = cons_name; arguments = IntWord (pos 7) ∷ IntWord (pos 7) ∷ [] } ∷ []

pub size-example : size (value_of cells (CellWord 3)) ≡ 3
unfolding cell_values
size-example = refl

pub AreSame-example : AreSame cells ((CellWord 0, CellWord 1) ∷ (IntWord (pos 7), IntWord (pos 7)) ∷ [])
unfolding cell_values
AreSame-example = (refl, (refl, tt))

-- the second pair differs
pub AreSame-counterexample : AreSame cells ((CellWord 0, CellWord 1) ∷ (CellWord 0, CellWord 2) ∷ []) → ⊥
unfolding cell_values
AreSame-counterexample same = let second = same.1.0 in cc

pub IsSplit-example : IsSplit cells (CellWord 0) (CellWord 1) ((IntWord (pos 7), IntWord (pos 7)) ∷ [])
unfolding cell_values
IsSplit-example = record { whole = λ same. refl; each = λ same. (refl, tt); lighter = omega arith }

-- the pair of the arguments is left out
pub IsSplit-counterexample : IsSplit cells (CellWord 0) (CellWord 2) [] → ⊥
unfolding cell_values
IsSplit-counterexample split = let same = split.whole tt in cc

pub AreAlike-example : AreAlike cells (CellWord 0) (CellWord 2)
unfolding cell_values
AreAlike-example = record { symbol = cons_name; is_one = refl; is_other = refl; count = refl }

-- other numbers of arguments
pub AreAlike-counterexample : AreAlike cells (CellWord 0) (CellWord 3) → ⊥
AreAlike-counterexample alike = let count = alike.count in cc

pub IsMet-example : IsMet cells (0, 2)
unfolding cell_values
IsMet-example = record { alike = AreAlike-example; below = omega arith; other_below = omega arith }

-- a cell that is not there
pub IsMet-counterexample : IsMet cells (0, 4) → ⊥
IsMet-counterexample met = omega (arith, met.other_below)

pub Meets-example : Meets cells ((CellWord 0, CellWord 1) ∷ []) [] ((0, 1) ∷ [])
unfolding cell_values
Meets-example = record {
  more = (0, 1) ∷ [];
  grown = refl;
  whole = λ place start same. (refl, tt);
  each = λ same. same;
  met = (record { alike = record { symbol = cons_name; is_one = refl; is_other = refl; count = refl }; below = omega arith; other_below = omega arith }, tt);
  light = omega arith;
}

-- two cells that differ are passed over
pub Meets-counterexample : Meets cells ((CellWord 0, CellWord 2) ∷ []) [] [] → ⊥
unfolding cell_values
Meets-counterexample meets = let same = (meets.whole 1 (omega arith, tt) (λ k one other found. absurd (cc))).0 in cc

pub Notes-example : Notes (CellWord 0) (CellWord 1) [] ((0, 1) ∷ [])
Notes-example = inr refl

-- the pair is passed over
pub Notes-counterexample : Notes (CellWord 0) (CellWord 1) [] [] → ⊥
Notes-counterexample notes = elim notes [
  | inl among ↦ let found = among.0.1 in cc
  | inr behind ↦ cc
]
