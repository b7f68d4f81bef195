-- What the definitions of Places say of a heap: the list of seven, a place where no cell ends, and the pair of that
-- list with itself.
use Rattle.std.proofs.Common.{◌≡◌, ℕ, zero, suc, ◌+◌, ◌<◌, pos, Bool, true, false, List, [], ◌∷◌, length, refl, subst, ⊎_elim, arith}
use Rattle.std.specs.Prelude.{◌||◌, ◌==◌, slice_index}
use Rattle.std.specs.List.{All}
use Rattle.merc_base.specs.Names.{cons_name, nil_name}
use Rattle.merc_value.specs.Block.{CellData, cell_values, value_of}
use Rattle.merc_value.specs.Writing.{arguments_at}
use Rattle.merc_value.specs.declared.word.Word.TheVariants.{Int as IntWord, Atom as AtomWord, Cell as CellWord}
use Rattle.merc_segments.specs.Places.{has, LeadsInto, Adds, IsClosed, copy_of, AreCopies}
use Rattle.merc_segments.proofs.ThawLemmas.{All-none, All-both}
use Rattle.merc_segments.proofs.PlaceLemmas.{first_or_behind}

abbrev heap : List CellData
heap =
    record { symbol = cons_name; arguments = IntWord (pos 7) ∷ AtomWord nil_name ∷ [] } ∷
    record { symbol = nil_name; arguments = [] } ∷
    record { symbol = cons_name; arguments = CellWord 0 ∷ CellWord 0 ∷ [] } ∷ []

pub LeadsInto-example : LeadsInto (0 ∷ 2 ∷ []) (CellWord 2)
LeadsInto-example = refl

pub LeadsInto-counterexample : LeadsInto (0 ∷ 2 ∷ []) (CellWord 1) → ⊥
LeadsInto-counterexample leads = cc

either_way : (a b : Bool) → (a || (b || false)) ≡ ((b || (false || false)) || (a || false))
either_way true true = refl
either_way true false = refl
either_way false true = refl
either_way false false = refl

pub Adds-example : Adds (CellWord 2 ∷ IntWord (pos 7) ∷ []) (0 ∷ []) (0 ∷ 2 ∷ [])
Adds-example place = either_way (0 == place) (2 == place)

-- the place of the word's cell is not put in
pub Adds-counterexample : Adds (CellWord 2 ∷ []) (0 ∷ []) (0 ∷ []) → ⊥
Adds-counterexample adds = let two = adds 2 in cc

two_places : (P : ℕ → Type 0) → P 0 → P 2 → (place : ℕ) → has (0 ∷ 2 ∷ []) place ≡ true → P place
two_places P first second place there =
    ⊎_elim
    (λ (here : 0 ≡ place). subst P here first)
    (λ (behind : has (2 ∷ []) place ≡ true). ⊎_elim (λ (here : 2 ≡ place). subst P here second) (λ (none : has [] place ≡ true). absurd (cc)) (first_or_behind 2 [] place behind))
    (first_or_behind 0 (2 ∷ []) place there)

fields_lead : (place : ℕ) → has (0 ∷ 2 ∷ []) place ≡ true → All (LeadsInto (0 ∷ 2 ∷ [])) (arguments_at heap place)
fields_lead = two_places (λ place. All (LeadsInto (0 ∷ 2 ∷ [])) (arguments_at heap place))
    (All-both (LeadsInto (0 ∷ 2 ∷ [])) (IntWord (pos 7)) (AtomWord nil_name ∷ []) tt (All-both (LeadsInto (0 ∷ 2 ∷ [])) (AtomWord nil_name) [] tt (All-none (LeadsInto (0 ∷ 2 ∷ [])))))
    (All-both (LeadsInto (0 ∷ 2 ∷ [])) (CellWord 0) (CellWord 0 ∷ []) refl (All-both (LeadsInto (0 ∷ 2 ∷ [])) (CellWord 0) [] refl (All-none (LeadsInto (0 ∷ 2 ∷ [])))))

pub IsClosed-example : IsClosed heap (0 ∷ 2 ∷ [])
IsClosed-example = record {
  rises = λ k within. by k within;
  within = two_places (λ place. place < length heap) (omega arith) (omega arith);
  fields = fields_lead;
}
  where
    by : (k : ℕ) → k + 1 < 2 → slice_index (0 ∷ 2 ∷ []) k < slice_index (0 ∷ 2 ∷ []) (k + 1)
    by zero within = omega arith
    by (suc k) within = absurd (omega (arith, within))

-- the pair without the list that it uses
pub IsClosed-counterexample : IsClosed heap (2 ∷ []) → ⊥
IsClosed-counterexample closed = let field = closed.fields 2 refl 0 (CellWord 0) (omega arith) in cc

pub copy_of-example : copy_of (0 ∷ 2 ∷ []) (CellWord 2) ≡ CellWord 1
copy_of-example = refl

-- the place itself is not the number
pub copy_of-counterexample : copy_of (0 ∷ 2 ∷ []) (CellWord 2) ≡ CellWord 2 → ⊥
copy_of-counterexample same = cc

abbrev block : List CellData
block =
    record { symbol = cons_name; arguments = IntWord (pos 7) ∷ AtomWord nil_name ∷ [] } ∷
    record { symbol = cons_name; arguments = CellWord 0 ∷ CellWord 0 ∷ [] } ∷ []

pub AreCopies-example : AreCopies heap (0 ∷ 2 ∷ []) block
unfolding cell_values
AreCopies-example zero place within found = let one : 0 ≡ place = cc in subst (λ (n : ℕ). value_of block (CellWord 0) ≡ value_of heap (CellWord n)) one refl
AreCopies-example (suc zero) place within found = let one : 2 ≡ place = cc in subst (λ (n : ℕ). value_of block (CellWord 1) ≡ value_of heap (CellWord n)) one refl
AreCopies-example (suc (suc number)) place within found = absurd (omega (arith, within))

-- the cells the other way round
pub AreCopies-counterexample : AreCopies heap (2 ∷ 0 ∷ []) block → ⊥
unfolding cell_values
AreCopies-counterexample copies = let first = copies 0 2 (omega arith) refl in cc
