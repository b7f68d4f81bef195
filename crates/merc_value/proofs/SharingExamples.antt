-- What the definitions of Sharing say of a list of seven.
use Rattle.std.proofs.Common.{◌≡◌, ◌<◌, ℕ, zero, suc, pos, [], ◌∷◌, Some, slice_get, refl, ap, subst, arith}
use Rattle.std.specs.List.{All}
use Rattle.std.proofs.lemmas.List.Elements.{All-cons, All-nil}
use Rattle.std.proofs.lemmas.Option.{same_Some}
use Rattle.merc_base.specs.Names.{bang_name, cons_name, nil_name}
use Rattle.merc_value.specs.Value.{Int, Con, none, more}
use Rattle.merc_value.specs.Block.{CellData, IsBelow, AreLower, cell_values, value_of}
use Rattle.merc_value.specs.Sharing.{AreMoved, AreShared, IsWordFor, KeepsShared, moved}
use Rattle.merc_value.specs.declared.word.Word.{Word}
use Rattle.merc_value.specs.declared.word.Word.TheVariants.{Int as IntWord, Text as TextWord, Atom as AtomWord, Cell as CellWord}

abbrev seven : CellData
seven = record { symbol = cons_name; arguments = IntWord (pos 7) ∷ AtomWord nil_name ∷ [] }

pub IsWordFor-example : IsWordFor (seven ∷ []) (Con cons_name (more (Int (pos 7)) (more (Con nil_name none) none))) (CellWord 0)
unfolding cell_values
IsWordFor-example = record { below = omega arith; same = refl }

-- a cell's word is not that of its first argument's value
pub IsWordFor-counterexample : IsWordFor (seven ∷ []) (Int (pos 7)) (CellWord 0) → ⊥
unfolding cell_values
IsWordFor-counterexample is = let same = is.same in cc

seven_lower : AreLower (seven ∷ [])
seven_lower zero at is =
    subst (λ (c : CellData). All (IsBelow 0) c.arguments) (same_Some _ _ is) (All-cons (IsBelow 0) (IntWord (pos 7)) (AtomWord nil_name ∷ []) tt (All-cons (IsBelow 0) (AtomWord nil_name) [] tt (All-nil (IsBelow 0))))
seven_lower (suc place) at is = absurd cc

seven_apart : (one other : ℕ) (at : CellData) → slice_get (seven ∷ []) one ≡ Some at → slice_get (seven ∷ []) other ≡ Some at → one ≡ other
seven_apart zero zero at is is' = refl
seven_apart zero (suc other) at is is' = absurd cc
seven_apart (suc one) other at is is' = absurd cc

seven_applied : (place symbol : ℕ) → slice_get (seven ∷ []) place ≡ Some (record { symbol = symbol; arguments = [] }) → ⊥
seven_applied zero symbol is = let none_there : seven.arguments ≡ [] = ap (λ (c : CellData). c.arguments) (same_Some _ _ is) in cc
seven_applied (suc place) symbol is = absurd cc

pub AreShared-example : AreShared (seven ∷ [])
AreShared-example = record { lower = seven_lower; apart = seven_apart; applied = seven_applied }

-- a cell without arguments
pub AreShared-atom : AreShared (record { symbol = bang_name; arguments = [] } ∷ []) → ⊥
AreShared-atom shared = shared.applied 0 bang_name refl

-- a cell that lies there twice
pub AreShared-counterexample : AreShared (seven ∷ seven ∷ []) → ⊥
AreShared-counterexample shared = let same : 0 ≡ 1 = shared.apart 0 1 seven refl refl in omega (arith, same)

pub moved-example : moved (AtomWord bang_name ∷ CellWord 0 ∷ []) (CellWord 1) ≡ CellWord 0
moved-example = refl

pub moved-counterexample : moved (AtomWord bang_name ∷ []) (IntWord (pos 0)) ≡ AtomWord bang_name → ⊥
moved-counterexample same = cc

-- the first cell is put there

keeps_below : (word : Word) → IsBelow 0 word → IsBelow 1 word
keeps_below (IntWord number) below = tt
keeps_below (TextWord name) below = tt
keeps_below (AtomWord symbol) below = tt
keeps_below (CellWord place) below = absurd (omega (arith, below))

keeps_value : (word : Word) → IsBelow 0 word → value_of (seven ∷ []) word ≡ value_of [] word
keeps_value (IntWord number) below = refl
keeps_value (TextWord name) below = refl
keeps_value (AtomWord symbol) below = refl
keeps_value (CellWord place) below = absurd (omega (arith, below))

pub KeepsShared-example : KeepsShared [] (seven ∷ [])
KeepsShared-example = record { shared = AreShared-example; below = keeps_below; same = keeps_value }

-- a cell is taken away
pub KeepsShared-counterexample : KeepsShared (seven ∷ []) [] → ⊥
KeepsShared-counterexample keeps = let below : 0 < 0 = keeps.below (CellWord 0) (omega arith) in omega (arith, below)

-- the cell itself stands for its value, and its argument does not

pub AreMoved-example : AreMoved (seven ∷ []) (seven ∷ []) (CellWord 0 ∷ [])
unfolding cell_values
AreMoved-example zero less = record { below = omega arith; same = refl }
AreMoved-example (suc place) less = absurd (omega (arith, less))

pub AreMoved-counterexample : AreMoved (seven ∷ []) (seven ∷ []) (IntWord (pos 7) ∷ []) → ⊥
unfolding cell_values
AreMoved-counterexample words = let same = (words 0 (omega arith)).same in cc
