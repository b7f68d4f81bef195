-- Taking one spot out of a list, and what holds of each of them.
use Rattle.std.proofs.Common.{◌≡◌, ℕ, zero, suc, ◌+◌, ◌⊎◌, inl, inr, Bool, true, false, List, [], ◌∷◌, ◌++◌, Some, None, refl, subst, arith}
use Rattle.std.specs.Prelude.{Option, slice_get, filter, map, if◌then◌else◌}
use Rattle.std.specs.List.{remove, AllByRecursion}
use Rattle.merc_core.specs.World.{Spot}
use Rattle.merc_core.specs.Events.{first_from, last_from, beside, taken}

-- tests

pub chosen : {A : Type 0} (b : Bool) (x y z : A) → (if b then x else y) ≡ z → ((b ≡ true) × (x ≡ z)) ⊎ ((b ≡ false) × (y ≡ z))
chosen true x y z is = inl (refl, is)
chosen false x y z is = inr (refl, is)

pub each_way : (b : Bool) → (b ≡ true) ⊎ (b ≡ false)
each_way true = inl refl
each_way false = inr refl

-- one stands in a list, and these are the others
pub data Takes : List Spot → Spot → List Spot → Type 0 where
  here : (x : Spot) (xs : List Spot) → Takes (x ∷ xs) x xs
  there : (x y : Spot) (xs ys : List Spot) → Takes xs y ys → Takes (x ∷ xs) y (x ∷ ys)

pub takes_at : (xs : List Spot) (i : ℕ) (x : Spot) → slice_get xs i ≡ Some x → Takes xs x (remove xs i)
takes_at [] i x is = absurd (cc)
takes_at (y ∷ ys) zero x is = let same : y ≡ x = cc in subst (λ (z : Spot). Takes (y ∷ ys) z ys) same (here y ys)
takes_at (y ∷ ys) (suc i) x is = there y x ys (remove ys i) (takes_at ys i x is)

-- the element at a place counted from another one
pub record Found {A : Type 0} (test : A → Bool) (xs : List A) (from place : ℕ) : Type 0 where
  pub index : ℕ
  pub one : A
  pub is : place ≡ from + index
  pub stands : slice_get xs index ≡ Some one
  pub passes : test one ≡ true

found_here : {A : Type 0} {test : A → Bool} (xs : List A) {from place : ℕ} (x : A) → test x ≡ true → Some from ≡ Some place → Found test (x ∷ xs) from place
found_here xs {from} {place} x passes is = record { index = zero; one = x; is = let e : from ≡ place = cc in omega arith; stands = refl; passes = passes }

found_later : {A : Type 0} {test : A → Bool} {xs : List A} {from place : ℕ} (x : A) → Found test xs (from + 1) place → Found test (x ∷ xs) from place
found_later x found = record { index = suc found.index; one = found.one; is = let e = found.is in omega arith; stands = found.stands; passes = found.passes }

pub first-found : {A : Type 0} (test : A → Bool) (from place : ℕ) (xs : List A) → first_from from test xs ≡ Some place → Found test xs from place
first-found test from place [] is = absurd (cc)
first-found test from place (x ∷ xs) is =
    elim (chosen (test x) (Some from) (first_from (from + 1) test xs) (Some place) is) [
      | inl p ↦ found_here xs x p.0 p.1
      | inr p ↦ found_later x (first-found test (from + 1) place xs p.1)
    ]

pub last-found : {A : Type 0} (test : A → Bool) (from place : ℕ) (found : Option ℕ) (xs : List A) → last_from from found test xs ≡ Some place → (found ≡ Some place) ⊎ Found test xs from place
last-found test from place found [] is = inl is
last-found test from place found (x ∷ xs) is =
    elim (last-found test (from + 1) place (if test x then Some from else found) xs is) [
      | inl e ↦ elim (chosen (test x) (Some from) found (Some place) e) [ inl p ↦ inr (found_here xs x p.0 p.1) | inr p ↦ inl p.1 ]
      | inr later ↦ inr (found_later x later)
    ]

-- what is taken, and the test that it passes
pub record Took (test : Spot → Bool) (xs : List Spot) (q : Spot × List Spot) : Type 0 where
  pub takes : Takes xs q.0 q.1
  pub passes : test q.0 ≡ true

took_at : (test : Spot → Bool) (xs : List Spot) (place : ℕ) (q : Spot × List Spot) → Found test xs 0 place → taken xs (Some place) ≡ Some q → Took test xs q
took_at test xs place q found is =
    let at : place ≡ found.index = let e = found.is in omega arith in
    let stands : slice_get xs place ≡ Some found.one = rw at found.stands in
    let same : (found.one, remove xs place) ≡ q = let e : beside (remove xs place) (Some found.one) ≡ Some q = rw stands at is in cc in
    subst (λ (r : Spot × List Spot). Took test xs r) same (record { takes = takes_at xs place found.one stands; passes = found.passes })

pub took_first : (test : Spot → Bool) (xs : List Spot) (q : Spot × List Spot) → taken xs (first_from 0 test xs) ≡ Some q → Took test xs q
took_first test xs q is = from_place (first_from 0 test xs) refl is
  where
    from_place : (p : Option ℕ) → first_from 0 test xs ≡ p → taken xs p ≡ Some q → Took test xs q
    from_place None e is' = absurd (cc)
    from_place (Some place) e is' = took_at test xs place q (first-found test 0 place xs e) is'

pub took_last : (test : Spot → Bool) (xs : List Spot) (q : Spot × List Spot) → taken xs (last_from 0 None test xs) ≡ Some q → Took test xs q
took_last test xs q is = from_place (last_from 0 None test xs) refl is
  where
    from_place : (p : Option ℕ) → last_from 0 None test xs ≡ p → taken xs p ≡ Some q → Took test xs q
    from_place None e is' = absurd (cc)
    from_place (Some place) e is' = elim (last-found test 0 place None xs e) [ inl none ↦ absurd (cc) | inr found ↦ took_at test xs place q found is' ]

-- what holds of each

pub each-append : {A : Type 0} (Holds : A → Type 0) (xs ys : List A) → AllByRecursion Holds xs → AllByRecursion Holds ys → AllByRecursion Holds (xs ++ ys)
each-append Holds [] ys all others = others
each-append Holds (x ∷ xs) ys all others = (all.0, each-append Holds xs ys all.1 others)

pub each-front : {A : Type 0} (Holds : A → Type 0) (xs ys : List A) → AllByRecursion Holds (xs ++ ys) → AllByRecursion Holds xs
each-front Holds [] ys all = tt
each-front Holds (x ∷ xs) ys all = (all.0, each-front Holds xs ys all.1)

pub each-back : {A : Type 0} (Holds : A → Type 0) (xs ys : List A) → AllByRecursion Holds (xs ++ ys) → AllByRecursion Holds ys
each-back Holds [] ys all = all
each-back Holds (x ∷ xs) ys all = each-back Holds xs ys all.1

pub each-weaker : {A : Type 0} (Holds Also : A → Type 0) → ((x : A) → Holds x → Also x) → (xs : List A) → AllByRecursion Holds xs → AllByRecursion Also xs
each-weaker Holds Also weaken [] all = tt
each-weaker Holds Also weaken (x ∷ xs) all = (weaken x all.0, each-weaker Holds Also weaken xs all.1)

pub each-both : {A : Type 0} (One Other : A → Type 0) (xs : List A) → AllByRecursion One xs → AllByRecursion Other xs → AllByRecursion (λ x. One x × Other x) xs
each-both One Other [] one other = tt
each-both One Other (x ∷ xs) one other = ((one.0, other.0), each-both One Other xs one.1 other.1)

pub each-always : {A : Type 0} (Holds : A → Type 0) → ((x : A) → Holds x) → (xs : List A) → AllByRecursion Holds xs
each-always Holds holds [] = tt
each-always Holds holds (x ∷ xs) = (holds x, each-always Holds holds xs)

each-if : {A : Type 0} (Holds : A → Type 0) (b : Bool) (x : A) (xs : List A) → (b ≡ true → Holds x) → AllByRecursion Holds xs → AllByRecursion Holds (if b then x ∷ xs else xs)
each-if Holds true x xs holds all = (holds refl, all)
each-if Holds false x xs holds all = all

pub each-filter : {A : Type 0} (Holds : A → Type 0) (test : A → Bool) (xs : List A) → AllByRecursion Holds xs → AllByRecursion Holds (filter test xs)
each-filter Holds test [] all = tt
each-filter Holds test (x ∷ xs) all = each-if Holds (test x) x (filter test xs) (λ _. all.0) (each-filter Holds test xs all.1)

pub each-mapped : {A B : Type 0} (Holds : A → Type 0) (Also : B → Type 0) (change : A → B) → ((x : A) → Holds x → Also (change x)) → (xs : List A) → AllByRecursion Holds xs → AllByRecursion Also (map change xs)
each-mapped Holds Also change kept [] all = tt
each-mapped Holds Also change kept (x ∷ xs) all = (kept x all.0, each-mapped Holds Also change kept xs all.1)

-- of each that passes a test, this also holds
pub each-passing : {A : Type 0} (Holds : A → Type 0) (test : A → Bool) (xs : List A) → AllByRecursion Holds xs → AllByRecursion (λ x. (test x ≡ true) × Holds x) (filter test xs)
each-passing Holds test [] all = tt
each-passing Holds test (x ∷ xs) all = each-if (λ y. (test y ≡ true) × Holds y) (test x) x (filter test xs) (λ passes. (passes, all.0)) (each-passing Holds test xs all.1)

-- each that passes a test, changed
pub each-changed : {A B : Type 0} (Holds : A → Type 0) (Also : B → Type 0) (test : A → Bool) (change : A → B) → ((x : A) → test x ≡ true → Holds x → Also (change x)) → (xs : List A) → AllByRecursion Holds xs → AllByRecursion Also (map change (filter test xs))
each-changed Holds Also test change kept xs all =
    each-mapped (λ x. (test x ≡ true) × Holds x) Also change (λ x both. kept x both.0 both.1) (filter test xs) (each-passing Holds test xs all)

pub takes-one : (Holds : Spot → Type 0) {xs : List Spot} {y : Spot} {ys : List Spot} → Takes xs y ys → AllByRecursion Holds xs → Holds y
takes-one Holds (here x xs) all = all.0
takes-one Holds (there x y xs ys takes) all = takes-one Holds takes all.1

pub takes-others : (Holds : Spot → Type 0) {xs : List Spot} {y : Spot} {ys : List Spot} → Takes xs y ys → AllByRecursion Holds xs → AllByRecursion Holds ys
takes-others Holds (here x xs) all = all.1
takes-others Holds (there x y xs ys takes) all = (all.0, takes-others Holds takes all.1)
