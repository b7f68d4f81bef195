-- Rows of sorted items.
use Rattle.std.specs.Prelude.{◌≡◌, ◌≤◌, ◌<◌, ◌==◌, ◌&&◌, not, nat_le, nat_lt, ℕ, zero, suc, Bool, true, false, List, [], ◌∷◌, length, take, drop, map, slice_index_or, refl, if◌then◌else◌}
use Rattle.std.specs.List.{filter}
use Rattle.std.specs.List.Sorted.{ties, IsStableByKey}
use Rattle.std.specs.Ordering.{nat_cmp, is_lt}
use Rattle.std.proofs.Common.{◌∙◌, ap, sym, arith}
use Rattle.std.proofs.lemmas.Bool.Decides.{nat_tests}
use Rattle.merc_rights.specs.Rows.{row_of}

-- what passes a test stands before what does not

module _ {X : Type 0} (p q : X → Bool) (other : (x : X) → q x ≡ not (p x)) where
  none : (items : List X) → ((k : ℕ) (d : X) → k < length items → p (slice_index_or items k d) ≡ false) → (filter p items ≡ []) × (filter q items ≡ items)
  none [] fails = (refl, refl)
  none (first ∷ rest) fails =
      let f : p first ≡ false = fails 0 first (omega arith) in
      let r = none rest (λ k d less. fails (suc k) d (omega (arith, less))) in (
        ap (λ b. if b then first ∷ filter p rest else filter p rest) f ∙ r.0,
        ap (λ b. if b then first ∷ filter q rest else filter q rest) (other first ∙ ap not f) ∙ ap (λ l. first ∷ l) r.1,
      )

  pub parted : (items : List X) (i : ℕ) → i ≤ length items → ((k : ℕ) (d : X) → k < i → p (slice_index_or items k d) ≡ true) → ((k : ℕ) (d : X) → i ≤ k → k < length items → p (slice_index_or items k d) ≡ false)
      → (take i items ≡ filter p items) × (drop i items ≡ filter q items)
  parted items zero within passes fails = let n = none items (λ k d less. fails k d (omega arith) less) in (sym n.0, sym n.1)
  parted [] (suc i) within passes fails = absurd (omega (arith, within))
  parted (first ∷ rest) (suc i) within passes fails =
      let f : p first ≡ true = passes 0 first (omega arith) in
      let r = parted rest i (omega (arith, within)) (λ k d less. passes (suc k) d (omega (arith, less))) (λ k d from less. fails (suc k) d (omega (arith, from)) (omega (arith, less))) in (
        ap (λ l. first ∷ l) r.0 ∙ sym (ap (λ b. if b then first ∷ filter p rest else filter p rest) f),
        r.1 ∙ sym (ap (λ b. if b then first ∷ filter q rest else filter q rest) (other first ∙ ap not f)),
      )

pub not_before : (number other : ℕ) → nat_le number other ≡ not (nat_lt other number)
not_before number other = grind (arith, nat_tests)

pub not_up_to : (number other : ℕ) → nat_lt number other ≡ not (nat_le other number)
not_up_to number other = grind (arith, nat_tests)

-- the items of a number are those from it on and up to it

is_between : (number key : ℕ) → (nat_le number key && nat_le key number) ≡ (key == number)
is_between number key = grind (arith, nat_tests)

abbrev kept : {X : Type 0} → Bool → X → List X → List X
kept b x l = if b then x ∷ l else l

module _ {X : Type 0} (number : ℕ) where
  abbrev from_it : ℕ × X → Bool
  from_it item = nat_le number item.0

  abbrev up_to_it : ℕ × X → Bool
  up_to_it item = nat_le item.0 number

  both : (a b : Bool) (first : ℕ × X) (rest : List (ℕ × X)) → up_to_it first ≡ b
      → map (λ item. item.1) (filter up_to_it (kept a first rest)) ≡ kept (a && b) first.1 (map (λ item. item.1) (filter up_to_it rest))
  both false b first rest is = refl
  both true true first rest is = ap (λ b. map (λ item. item.1) (kept b first (filter up_to_it rest))) is
  both true false first rest is = ap (λ b. map (λ item. item.1) (kept b first (filter up_to_it rest))) is

  filtered_row : (items : List (ℕ × X)) → map (λ item. item.1) (filter up_to_it (filter from_it items)) ≡ row_of number items
  filtered_row [] = refl
  filtered_row (first ∷ rest) =
      both (nat_le number first.0) (nat_le first.0 number) first (filter from_it rest) refl
      ∙ ap (λ b. kept b first.1 (map (λ item. item.1) (filter up_to_it (filter from_it rest)))) (is_between number first.0)
      ∙ ap (λ l. kept (first.0 == number) first.1 l) (filtered_row rest)

  pub row_is : (items later part : List (ℕ × X)) → later ≡ filter from_it items → part ≡ filter up_to_it later → map (λ item. item.1) part ≡ row_of number items
  row_is items later part l p = ap (λ x. map (λ item. item.1) x) (p ∙ ap (λ x. filter up_to_it x) l) ∙ filtered_row items

-- a stable sort keeps rows

abbrev sooner : {X : Type 0} → ℕ × X → ℕ × X → Bool
sooner one other = is_lt (nat_cmp one.0 other.0)

tie_is : (one other : ℕ) → (not (is_lt (nat_cmp one other)) && not (is_lt (nat_cmp other one))) ≡ (other == one)
tie_is one other = grind (arith, nat_tests)

module _ {X : Type 0} where
  mapped : (b : Bool) (first : ℕ × X) (rest : List (ℕ × X)) → map (λ item. item.1) (kept b first rest) ≡ kept b first.1 (map (λ item. item.1) rest)
  mapped true first rest = refl
  mapped false first rest = refl

  tied_row : (number : ℕ) (x : X) (items : List (ℕ × X)) → map (λ item. item.1) (filter (ties sooner (number, x)) items) ≡ row_of number items
  tied_row number x [] = refl
  tied_row number x (first ∷ rest) =
      ap (λ b. map (λ item. item.1) (kept b first (filter (ties sooner (number, x)) rest))) (tie_is number first.0)
      ∙ mapped (first.0 == number) first (filter (ties sooner (number, x)) rest)
      ∙ ap (λ l. kept (first.0 == number) first.1 l) (tied_row number x rest)

  with_one : (number : ℕ) (x : X) (old new : List (ℕ × X)) → IsStableByKey (λ item. item.0) nat_cmp old new → row_of number new ≡ row_of number old
  with_one number x old new stable = sym (tied_row number x new) ∙ ap (λ l. map (λ item. item.1) l) (stable (number, x)) ∙ tied_row number x old

  pub rows_stay : (old new : List (ℕ × X)) → IsStableByKey (λ item. item.0) nat_cmp old new → (number : ℕ) → row_of number new ≡ row_of number old
  rows_stay [] [] stable number = refl
  rows_stay (first ∷ rest) new stable number = with_one number first.1 (first ∷ rest) new stable
  rows_stay [] (first ∷ rest) stable number = with_one number first.1 [] (first ∷ rest) stable
