-- Ascending places, and what is among them.
use Rattle.std.proofs.Common.{◌≡◌, ℕ, zero, suc, ◌+◌, ◌<◌, ◌≤◌, ◌⊎◌, inl, inr, Bool, true, false, List, [], ◌∷◌, ◌++◌, length, take, Some, Ok, Err, refl, sym, ap, subst, ◌∙◌, arith, ⊎_elim, slice_get, get_or, cond}
use Rattle.std.specs.Prelude.{◌==◌, ◌||◌, not, slice_index}
use Rattle.std.specs.List.{position_or_len}
use Rattle.std.specs.List.Sorted.{IsBinarySearchResult, IsStrictlyIncreasing}
use Rattle.std.specs.Ordering.{nat_cmp}
use Rattle.std.proofs.lemmas.Bool.{eq-eqb, eqb-true, ne_eqb, cases_lt, or_left, or_right, or_cases}
use Rattle.std.proofs.lemmas.List.Folds.{list_any-append}
use Rattle.std.proofs.lemmas.List.Sorted.{searched}
use Rattle.std.proofs.lemmas.List.Sums.{position_or_len_is}
use Rattle.std.proofs.lemmas.Map.Keys.{below_from_sorted, non_decreasing_from_sorted, sorted_from_strictly_increasing}
use Rattle.merc_segments.specs.Places.{has}

pub has_cases : (xs ys : List ℕ) (place : ℕ) → has (xs ++ ys) place ≡ true → (has xs place ≡ true) ⊎ (has ys place ≡ true)
has_cases xs ys place there = or_cases (has xs place) (has ys place) (sym (list_any-append (λ other. other == place) xs ys) ∙ there)

pub has_left : (xs ys : List ℕ) (place : ℕ) → has xs place ≡ true → has (xs ++ ys) place ≡ true
has_left xs ys place there = list_any-append (λ other. other == place) xs ys ∙ or_left (has xs place) (has ys place) there

pub has_right : (xs ys : List ℕ) (place : ℕ) → has ys place ≡ true → has (xs ++ ys) place ≡ true
has_right xs ys place there = list_any-append (λ other. other == place) xs ys ∙ or_right (has xs place) (has ys place) there

pub has_here : (place : ℕ) (places : List ℕ) → has (place ∷ places) place ≡ true
has_here place places = or_left (place == place) (has places place) (eq-eqb place place refl)

pub has_behind : (first : ℕ) (places : List ℕ) (place : ℕ) → has places place ≡ true → has (first ∷ places) place ≡ true
has_behind first places place there = or_right (first == place) (has places place) there

pub first_or_behind : (first : ℕ) (places : List ℕ) (place : ℕ) → has (first ∷ places) place ≡ true → (first ≡ place) ⊎ (has places place ≡ true)
first_or_behind first places place there =
    ⊎_elim (λ (here : (first == place) ≡ true). inl (eqb-true first place here)) (λ (behind : has places place ≡ true). inr behind) (or_cases (first == place) (has places place) there)

pub has_found : (places : List ℕ) (number place : ℕ) → slice_get places number ≡ Some place → has places place ≡ true
has_found [] number place found = absurd (cc)
has_found (first ∷ places) zero place found = let one : first ≡ place = cc in or_left (first == place) (has places place) (eq-eqb first place one)
has_found (first ∷ places) (suc number) place found = has_behind first places place (has_found places number place found)

-- the members of a list so far and the next one

pub take_next : {X : Type 0} (xs : List X) (k : ℕ) (x : X) → slice_get xs k ≡ Some x → take (k + 1) xs ≡ take k xs ++ x ∷ []
take_next [] k x found = absurd (cc)
take_next (first ∷ []) zero x found = let one : first ≡ x = cc in ap (λ y. y ∷ []) one
take_next (first ∷ second ∷ xs) zero x found = let one : first ≡ x = cc in ap (λ y. y ∷ []) one
take_next (first ∷ xs) (suc k) x found =
    let next : suc k + 1 ≡ suc (k + 1) = omega arith in
    ap (λ (n : ℕ). take n (first ∷ xs)) next ∙ ap (λ ys. first ∷ ys) (take_next xs k x found)

pub item_found : {X : Type 0} (xs : List X) (k : ℕ) (x : X) → k < length xs → x ≡ get_or xs k x → slice_get xs k ≡ Some x
item_found [] k x within same = absurd (omega (arith, within))
item_found (first ∷ xs) zero x within same = ap (λ y. Some y) (sym same)
item_found (first ∷ xs) (suc k) x within same = item_found xs k x (omega (arith, within)) same

pub item_there : {X : Type 0} (xs : List X) (k : ℕ) → k < length xs → (x : X) × (slice_get xs k ≡ Some x)
item_there [] k within = absurd (omega (arith, within))
item_there (x ∷ xs) zero within = (x, refl)
item_there (x ∷ xs) (suc k) within = item_there xs k (omega (arith, within))

-- ascending places

pub rises_none : IsStrictlyIncreasing []
rises_none k within = absurd (omega (arith, within))

pub rises_more : (first : ℕ) (places : List ℕ) → ((place : ℕ) → has places place ≡ true → first < place) → IsStrictlyIncreasing places → IsStrictlyIncreasing (first ∷ places)
rises_more first [] above rises k within = absurd (omega (arith, within))
rises_more first (second ∷ places) above rises zero within = above second (has_here second places)
rises_more first (second ∷ places) above rises (suc k) within =
    let next : suc (k + 1) ≡ suc k + 1 = omega arith in
    subst (λ (n : ℕ). slice_index (second ∷ places) k < slice_index (first ∷ second ∷ places) n) next (rises k (omega (arith, within)))

rises_rest : (first : ℕ) (places : List ℕ) → IsStrictlyIncreasing (first ∷ places) → IsStrictlyIncreasing places
rises_rest first places rises k within =
    let next : suc k + 1 ≡ suc (k + 1) = omega arith in
    subst (λ (n : ℕ). slice_index places k < slice_index (first ∷ places) n) next (rises (suc k) (omega (arith, within)))

first_below : (first : ℕ) (places : List ℕ) → IsStrictlyIncreasing (first ∷ places) → (place : ℕ) → has places place ≡ true → first < place
first_below first [] rises place there = absurd (cc)
first_below first (second ∷ places) rises place there =
    let less : first < second = rises 0 (omega arith) in
    ⊎_elim
    (λ (here : second ≡ place). subst (λ (n : ℕ). first < n) here less)
    (λ (behind : has places place ≡ true). let more = first_below second places (rises_rest first (second ∷ places) rises) place behind in omega (arith, less, more))
    (first_or_behind second places place there)

count_from : (low bound : ℕ) (places : List ℕ) → low ≤ bound → IsStrictlyIncreasing places → ((place : ℕ) → has places place ≡ true → low ≤ place) → ((place : ℕ) → has places place ≡ true → place < bound)
    → length places + low ≤ bound
count_from low bound [] under rises from within = omega (arith, under)
count_from low bound (first ∷ places) under rises from within =
    let rest = count_from (first + 1) bound places (omega (arith, within first (has_here first places))) (rises_rest first places rises)
    (λ place there. omega (arith, first_below first places rises place there)) (λ place there. within place (has_behind first places place there)) in
    omega (arith, rest, from first (has_here first places))

-- there are no more of them than numbers below them
pub rising_count : (bound : ℕ) (places : List ℕ) → IsStrictlyIncreasing places → ((place : ℕ) → has places place ≡ true → place < bound) → length places ≤ bound
rising_count bound places rises within = omega (arith, count_from 0 bound places (omega arith) rises (λ place there. omega arith) within)

-- a lower place has a lower number
pub number_lower : (places : List ℕ) → IsStrictlyIncreasing places → (high low number place : ℕ) → slice_get places high ≡ Some place → slice_get places low ≡ Some number → number < place → low < high
number_lower [] rises high low number place found found' less = absurd (cc)
number_lower (first ∷ places) rises zero zero number place found found' less =
    let one : first ≡ place = cc in
    let other : first ≡ number = cc in
    absurd (omega (arith, less, one, other))
number_lower (first ∷ places) rises zero (suc low) number place found found' less =
    let one : first ≡ place = cc in
    let above = first_below first places rises number (has_found places low number found') in
    absurd (omega (arith, less, one, above))
number_lower (first ∷ places) rises (suc high) zero number place found found' less = omega arith
number_lower (first ∷ places) rises (suc high) (suc low) number place found found' less =
    omega (arith, number_lower places (rises_rest first places rises) high low number place found found' less)

-- the number of a place leads back to it
pub found_number : (places : List ℕ) (place : ℕ) → has places place ≡ true → slice_get places (position_or_len (λ other. other == place) places) ≡ Some place
found_number [] place there = absurd (cc)
found_number (first ∷ places) place there = by (λ behind. found_number places place behind) (first == place) refl
  where
    by : (has places place ≡ true → slice_get places (position_or_len (λ other. other == place) places) ≡ Some place)
        → (here : Bool) → (first == place) ≡ here → slice_get (first ∷ places) (cond (not (first == place)) (1 + position_or_len (λ other. other == place) places) 0) ≡ Some place
    by later true is =
        ap (λ (b : Bool). slice_get (first ∷ places) (cond (not b) (1 + position_or_len (λ other. other == place) places) 0)) is
        ∙ ap (λ (n : ℕ). Some n) (eqb-true first place is)
    by later false is =
        let behind : has places place ≡ true = sym (ap (λ (b : Bool). b || has places place) is) ∙ there in
        let next : 1 + position_or_len (λ other. other == place) places ≡ suc (position_or_len (λ other. other == place) places) = omega arith in
        ap (λ (b : Bool). slice_get (first ∷ places) (cond (not b) (1 + position_or_len (λ other. other == place) places) 0)) is
        ∙ ap (slice_get (first ∷ places)) next ∙ later behind

-- what a search finds
module _ (places : List ℕ) (rises : IsStrictlyIncreasing places) (place : ℕ) where
  pub found_at : (number : ℕ) → IsBinarySearchResult (λ other. nat_cmp other place) places (Ok number) → number ≡ position_or_len (λ other. other == place) places
  found_at number found =
      let there = searched places place (Ok number) found (λ i j le within. non_decreasing_from_sorted places (sorted_from_strictly_increasing places rises) i j 0 le within) in
      sym (position_or_len_is (λ other. other == place) places number 0 (omega (arith, there.0))
      (λ k before. ne_eqb (get_or places k 0) place
      (λ same. let less = below_from_sorted places k number 0 (sorted_from_strictly_increasing places rises) before there.0 in omega (arith, less, same, there.1)))
      (λ within. eq-eqb (get_or places number 0) place there.1))

  pub found_nowhere : (number : ℕ) → IsBinarySearchResult (λ other. nat_cmp other place) places (Err number) → length places ≡ position_or_len (λ other. other == place) places
  found_nowhere number found =
      let there = searched places place (Err number) found (λ i j le within. non_decreasing_from_sorted places (sorted_from_strictly_increasing places rises) i j 0 le within) in
      sym (position_or_len_is (λ other. other == place) places (length places) 0 (omega arith)
      (λ k within. ne_eqb (get_or places k 0) place
      (λ same. ⊎_elim
      (λ (before : k < number). let less = there.1 k before in omega (arith, less, same))
      (λ (past : number ≤ k). let less = there.2 k past within in omega (arith, less, same))
      (cases_lt k number)))
      (λ within. absurd (omega (arith, within))))
