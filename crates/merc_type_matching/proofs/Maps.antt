-- Maps with one key more or less.
use Rattle.std.proofs.Common.{◌≡◌, ℕ, Bool, true, false, cond, Option, refl, sym, ap, subst, ◌∙◌, arith, Ordering, Less, Equal, Greater}
use Rattle.std.specs.Option.{IfSome}
use Rattle.std.specs.Ordering.{nat_cmp, ordering_then, is_eq}
use Rattle.std.specs.BTreeMap.{BTreeMap, get}
use Rattle.std.proofs.lemmas.Bool.Decides.{nat_tests}
use Rattle.merc_type_matching.specs.Kept.{compare_numbers}
use Rattle.merc_type_matching.specs.declared.matching.NumberPair.{NumberPair}

pub number-equal : (a b : ℕ) → is_eq (nat_cmp a b) ≡ true → a ≡ b
number-equal a b same = grind (arith, nat_tests)

pub number-same : (a : ℕ) → is_eq (nat_cmp a a) ≡ true
number-same a = grind (arith, nat_tests)

pub then_equal : (a b : Ordering) → is_eq (ordering_then a b) ≡ true → (is_eq a ≡ true) × (is_eq b ≡ true)
then_equal Less b same = absurd (cc)
then_equal Equal b same = (refl, same)
then_equal Greater b same = absurd (cc)

pub then_same : (a b : Ordering) → is_eq a ≡ true → is_eq b ≡ true → is_eq (ordering_then a b) ≡ true
then_same Less b one other = absurd (cc)
then_same Equal b one other = other
then_same Greater b one other = absurd (cc)

pub numbers-equal : (a b : NumberPair) → is_eq (compare_numbers a b) ≡ true → a ≡ b
numbers-equal a b same =
    let both = then_equal (nat_cmp a.one b.one) (nat_cmp a.other b.other) same in
    let with_one : ℕ → NumberPair = λ n. record { one = n; other = a.other } in
    let with_other : ℕ → NumberPair = λ n. record { one = b.one; other = n } in
    ap with_one (number-equal a.one b.one both.0) ∙ ap with_other (number-equal a.other b.other both.1)

-- Given are an order of keys, and what is to hold of each key and its value.
module _ {K X : Type 0} (compare : K → K → Ordering) where
  -- a map after a change at one key
  abbrev pub Changes : BTreeMap K X → BTreeMap K X → K → Option X → Type 0
  Changes old new key value = (other : K) → get compare new other ≡ cond (is_eq (compare key other)) value (get compare old other)

  pub changed_here : (old new : BTreeMap K X) (key : K) (value : Option X) → is_eq (compare key key) ≡ true → Changes old new key value → get compare new key ≡ value
  changed_here old new key value same changes = changes key ∙ ap (λ (b : Bool). cond b value (get compare old key)) same

  module _ (equal : (a b : K) → is_eq (compare a b) ≡ true → a ≡ b) (Q : K → X → Type 0) where
    -- what holds of all holds where it holds of the new value
    pub all_changed : (old new : BTreeMap K X) (key : K) (value : Option X) → Changes old new key value → IfSome value (Q key)
        → ((other : K) → IfSome (get compare old other) (Q other)) → (other : K) → IfSome (get compare new other) (Q other)
    all_changed old new key value changes here all = λ other. at other (is_eq (compare key other)) refl
      where
        at : (other : K) (same : Bool) → is_eq (compare key other) ≡ same → IfSome (get compare new other) (Q other)
        at other true e =
            let now : get compare new other ≡ value = changes other ∙ ap (λ (b : Bool). cond b value (get compare old other)) e in
            subst (λ (o : Option X). IfSome o (Q other)) (sym now) (subst (λ (k : K). IfSome value (Q k)) (equal key other e) here)
        at other false e =
            let now : get compare new other ≡ get compare old other = changes other ∙ ap (λ (b : Bool). cond b value (get compare old other)) e in
            subst (λ (o : Option X). IfSome o (Q other)) (sym now) (all other)

    -- and the other way round, where it held of the old value
    pub all_before : (old new : BTreeMap K X) (key : K) (value before : Option X) → Changes old new key value → get compare old key ≡ before → IfSome before (Q key)
        → ((other : K) → IfSome (get compare new other) (Q other)) → (other : K) → IfSome (get compare old other) (Q other)
    all_before old new key value before changes was here all = λ other. at other (is_eq (compare key other)) refl
      where
        at : (other : K) (same : Bool) → is_eq (compare key other) ≡ same → IfSome (get compare old other) (Q other)
        at other true e =
            subst (λ (k : K). IfSome (get compare old k) (Q k)) (equal key other e) (subst (λ (o : Option X). IfSome o (Q key)) (sym was) here)
        at other false e =
            let now : get compare new other ≡ get compare old other = changes other ∙ ap (λ (b : Bool). cond b value (get compare old other)) e in
            subst (λ (o : Option X). IfSome o (Q other)) now (all other)
