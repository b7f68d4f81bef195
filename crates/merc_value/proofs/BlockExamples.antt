-- What the definitions of Block say of a small block: a pair that holds one list twice.
use Rattle.std.proofs.Common.{◌≡◌, ℕ, zero, suc, ◌<◌, pos, [], ◌∷◌, refl, subst, arith, lit<}
use Rattle.std.specs.List.{All}
use Rattle.std.proofs.lemmas.List.Elements.{All-cons, All-nil}
use Rattle.std.proofs.lemmas.Option.{same_Some}
use Rattle.merc_base.specs.Names.{cons_name, nil_name, some_name}
use Rattle.merc_value.specs.Value.{Value, Int, Text, Con, none, more}
use Rattle.merc_value.specs.Block.{CellData, BlockData, StandsFor, int, atom, cell, nothing, both, IsBelow, AreLower, IsWhole, with_cell, with_root, cell_values, value_of, root_values}
use Rattle.merc_value.specs.declared.word.Word.TheVariants.{Int as IntWord, Text as TextWord, Atom as AtomWord, Cell as CellWord}

-- a name behind the constants
abbrev pair_name : ℕ
pair_name = 110

-- `[7]`, and the pair of it with itself
abbrev pub shared : BlockData
shared = record {
  cells = record { symbol = cons_name; arguments = IntWord (pos 7) ∷ AtomWord nil_name ∷ [] } ∷ record { symbol = pair_name; arguments = CellWord 0 ∷ CellWord 0 ∷ [] } ∷ [];
  roots = CellWord 1 ∷ TextWord some_name ∷ [];
}

abbrev pub seven : Value
seven = Con cons_name (more (Int (pos 7)) (more (Con nil_name none) none))

pub value_of-example : value_of shared.cells (CellWord 1) ≡ Con pair_name (more seven (more seven none))
unfolding cell_values
value_of-example = refl

pub StandsFor-example : StandsFor shared.cells (CellWord 0) seven
StandsFor-example = cell 0 _ _ refl (both _ _ _ _ (int (pos 7)) (both _ _ _ _ (atom nil_name) nothing))

pub root_values-example : root_values shared ≡ Con pair_name (more seven (more seven none)) ∷ Text some_name ∷ []
unfolding cell_values
root_values-example = refl

-- a cell does not stand for its argument
pub value_of-counterexample : value_of shared.cells (CellWord 0) ≡ Int (pos 7) → ⊥
unfolding cell_values
value_of-counterexample same = cc

-- a cell is not below itself
pub IsBelow-counterexample : IsBelow 1 (CellWord 1) → ⊥
IsBelow-counterexample below = omega (arith, below)

-- a root that leads past the cells
pub IsWhole-counterexample : IsWhole (record { cells = []; roots = CellWord 0 ∷ [] }) → ⊥
IsWhole-counterexample whole = let inside : 0 < 0 = whole.within 0 (CellWord 0) (omega arith) in omega arith

-- each word of the pair leads to a lower cell, and each root to one that is there
shared_lower : AreLower shared.cells
shared_lower zero at is =
    subst (λ (c : CellData). All (IsBelow 0) c.arguments) (same_Some _ _ is) (All-cons (IsBelow 0) (IntWord (pos 7)) (AtomWord nil_name ∷ []) tt (All-cons (IsBelow 0) (AtomWord nil_name) [] tt (All-nil (IsBelow 0))))
shared_lower (suc zero) at is =
    subst (λ (c : CellData). All (IsBelow 1) c.arguments) (same_Some _ _ is) (All-cons (IsBelow 1) (CellWord 0) (CellWord 0 ∷ []) (lit< tt) (All-cons (IsBelow 1) (CellWord 0) [] (lit< tt) (All-nil (IsBelow 1))))
shared_lower (suc (suc place)) at is = absurd cc

pub IsWhole-example : IsWhole shared
IsWhole-example = record {
  lower = shared_lower;
  within = All-cons (IsBelow 2) (CellWord 1) (TextWord some_name ∷ []) (lit< tt) (All-cons (IsBelow 2) (TextWord some_name) [] tt (All-nil (IsBelow 2)));
}

-- a cell that leads to itself
pub AreLower-counterexample : AreLower (record { symbol = pair_name; arguments = CellWord 0 ∷ [] } ∷ []) → ⊥
AreLower-counterexample lower = let below : 0 < 0 = lower 0 (record { symbol = pair_name; arguments = CellWord 0 ∷ [] }) refl 0 (CellWord 0) (omega arith) in omega arith

-- what is put into a block goes last, and what is there keeps its place

pub with_cell-example : (with_cell shared pair_name (CellWord 1 ∷ [])).cells
    ≡ record { symbol = cons_name; arguments = IntWord (pos 7) ∷ AtomWord nil_name ∷ [] } ∷ record { symbol = pair_name; arguments = CellWord 0 ∷ CellWord 0 ∷ [] } ∷ record { symbol = pair_name; arguments = CellWord 1 ∷ [] } ∷ []
with_cell-example = refl

pub with_root-example : (with_root shared (CellWord 0)).roots ≡ CellWord 1 ∷ TextWord some_name ∷ CellWord 0 ∷ []
with_root-example = refl

pub with_root-cells : (with_root shared (CellWord 0)).cells ≡ shared.cells
with_root-cells = refl
