-- The branches that pass a test, where one is taken out of a list or put in.
use Rattle.std.proofs.Common.{◌≡◌, ℕ, zero, suc, ◌+◌, inl, inr, Bool, true, false, List, [], ◌∷◌, ◌++◌, Some, None, refl, ap, sym, ◌∙◌, subst, arith}
use Rattle.std.specs.Prelude.{Option, slice_get, filter, if◌then◌else◌}
use Rattle.std.specs.List.{remove}
use Rattle.merc_core.specs.World.{Spot}
use Rattle.merc_core.specs.Events.{first_from, last_from, beside, taken}
use Rattle.merc_core.proofs.Pool.{Takes, here, there, takes_at, each_way}

pub filter-yes : {A : Type 0} (test : A → Bool) (x : A) (xs : List A) → test x ≡ true → filter test (x ∷ xs) ≡ x ∷ filter test xs
filter-yes test x xs passes = ap (λ b. if b then x ∷ filter test xs else filter test xs) passes

pub filter-no : {A : Type 0} (test : A → Bool) (x : A) (xs : List A) → test x ≡ false → filter test (x ∷ xs) ≡ filter test xs
filter-no test x xs fails = ap (λ b. if b then x ∷ filter test xs else filter test xs) fails

filter-more : {A : Type 0} (b : Bool) (x : A) (xs ys : List A) → (if b then x ∷ (xs ++ ys) else xs ++ ys) ≡ (if b then x ∷ xs else xs) ++ ys
filter-more true x xs ys = refl
filter-more false x xs ys = refl

pub filter-append : {A : Type 0} (test : A → Bool) (xs ys : List A) → filter test (xs ++ ys) ≡ filter test xs ++ filter test ys
filter-append test [] ys = refl
filter-append test (x ∷ xs) ys = ap (λ l. if test x then x ∷ l else l) (filter-append test xs ys) ∙ filter-more (test x) x (filter test xs) (filter test ys)

-- those that pass the test stay where one is taken out that does not
pub takes-filter : (test : Spot → Bool) {pool : List Spot} {x : Spot} {others : List Spot} → Takes pool x others → test x ≡ false → filter test others ≡ filter test pool
takes-filter test (here x xs) fails = sym (filter-no test x xs fails)
takes-filter test (there x y xs ys takes) fails = ap (λ l. if test x then x ∷ l else l) (takes-filter test takes fails)

-- one that passes a test is found at a place, and is taken out
pub record TakenOut (test : Spot → Bool) (pool : List Spot) (place : Option ℕ) (from : ℕ) (x : Spot) (left : List Spot) : Type 0 where
  pub index : ℕ
  pub is : place ≡ Some (from + index)
  pub stands : slice_get pool index ≡ Some x
  pub rest : filter test (remove pool index) ≡ left

out-here : (test : Spot → Bool) (y : Spot) (ys : List Spot) (x : Spot) (left : List Spot) (place : Option ℕ) (from : ℕ) → y ≡ x → filter test ys ≡ left → place ≡ Some from
    → TakenOut test (y ∷ ys) place from x left
out-here test y ys x left place from same rest is = record { index = zero; is = is ∙ (let e : from ≡ from + 0 = omega arith in ap (λ n. Some n) e); stands = ap (λ s. Some s) same; rest = rest }

out-later : (test : Spot → Bool) (y : Spot) (ys : List Spot) (x : Spot) (front left : List Spot) (place : Option ℕ) (from : ℕ) → TakenOut test ys place (from + 1) x left
    → ((l : List Spot) → filter test l ≡ left → filter test (y ∷ l) ≡ front) → TakenOut test (y ∷ ys) place from x front
out-later test y ys x front left place from out put = record {
  index = suc out.index;
  is = out.is ∙ (let e : from + 1 + out.index ≡ from + suc out.index = omega arith in ap (λ n. Some n) e);
  stands = out.stands;
  rest = put (remove ys out.index) out.rest;
}

pub first-out : (test : Spot → Bool) (pool : List Spot) (from : ℕ) (x : Spot) (xs : List Spot) → filter test pool ≡ x ∷ xs → TakenOut test pool (first_from from test pool) from x xs
first-out test [] from x xs is = absurd (cc)
first-out test (y ∷ ys) from x xs is =
    elim (each_way (test y)) [
      | inl passes ↦ (let e : y ∷ filter test ys ≡ x ∷ xs = sym (filter-yes test y ys passes) ∙ is in
          out-here test y ys x xs (first_from from test (y ∷ ys)) from (cc) (cc) (ap (λ b. if b then Some from else first_from (from + 1) test ys) passes))
      | inr fails ↦ (let e : filter test ys ≡ x ∷ xs = sym (filter-no test y ys fails) ∙ is in
          let out : TakenOut test ys (first_from from test (y ∷ ys)) (from + 1) x xs =
          subst (λ (p : Option ℕ). TakenOut test ys p (from + 1) x xs) (sym (ap (λ b. if b then Some from else first_from (from + 1) test ys) fails)) (first-out test ys (from + 1) x xs e) in
          out-later test y ys x xs xs (first_from from test (y ∷ ys)) from out (λ l rest. filter-no test y l fails ∙ rest))
    ]

-- none is found where none passes
pub first-none : (test : Spot → Bool) (pool : List Spot) (from : ℕ) → filter test pool ≡ [] → first_from from test pool ≡ None
first-none test [] from none = refl
first-none test (y ∷ ys) from none =
    elim (each_way (test y)) [
      | inl passes ↦ absurd (let e : y ∷ filter test ys ≡ [] = sym (filter-yes test y ys passes) ∙ none in cc)
      | inr fails ↦ ap (λ b. if b then Some from else first_from (from + 1) test ys) fails ∙ first-none test ys (from + 1) (sym (filter-no test y ys fails) ∙ none)
    ]

pub last-none : (test : Spot → Bool) (pool : List Spot) (from : ℕ) (found : Option ℕ) → filter test pool ≡ [] → last_from from found test pool ≡ found
last-none test [] from found none = refl
last-none test (y ∷ ys) from found none =
    elim (each_way (test y)) [
      | inl passes ↦ absurd (let e : y ∷ filter test ys ≡ [] = sym (filter-yes test y ys passes) ∙ none in cc)
      | inr fails ↦ ap (λ b. last_from (from + 1) (if b then Some from else found) test ys) fails ∙ last-none test ys (from + 1) found (sym (filter-no test y ys fails) ∙ none)
    ]

passing-one : (test : Spot → Bool) (y : Spot) (ys : List Spot) (from : ℕ) (found : Option ℕ) (zs : List Spot) (x : Spot) → test y ≡ true → y ∷ filter test ys ≡ zs ++ (x ∷ [])
    → ((ws : List Spot) → filter test ys ≡ ws ++ (x ∷ []) → TakenOut test ys (last_from (from + 1) (Some from) test ys) (from + 1) x ws)
    → TakenOut test (y ∷ ys) (last_from from found test (y ∷ ys)) from x zs
passing-one test y ys from found [] x passes e later =
    let none : filter test ys ≡ [] = cc in
    out-here test y ys x [] (last_from from found test (y ∷ ys)) from (cc) none
    (ap (λ b. last_from (from + 1) (if b then Some from else found) test ys) passes ∙ last-none test ys (from + 1) (Some from) none)
passing-one test y ys from found (z ∷ zs) x passes e later =
    let same : y ≡ z = cc in
    let out : TakenOut test ys (last_from from found test (y ∷ ys)) (from + 1) x zs =
    subst (λ (p : Option ℕ). TakenOut test ys p (from + 1) x zs) (sym (ap (λ b. last_from (from + 1) (if b then Some from else found) test ys) passes)) (later zs (cc)) in
    out-later test y ys x (z ∷ zs) zs (last_from from found test (y ∷ ys)) from out (λ l rest. filter-yes test y l passes ∙ (λ i. same i ∷ rest i))

pub last-out : (test : Spot → Bool) (pool : List Spot) (from : ℕ) (found : Option ℕ) (xs : List Spot) (x : Spot) → filter test pool ≡ xs ++ (x ∷ []) → TakenOut test pool (last_from from found test pool) from x xs
last-out test [] from found [] x is = absurd (cc)
last-out test [] from found (z ∷ zs) x is = absurd (cc)
last-out test (y ∷ ys) from found xs x is =
    elim (each_way (test y)) [
      | inl passes ↦ passing-one test y ys from found xs x passes (sym (filter-yes test y ys passes) ∙ is) (λ ws f. last-out test ys (from + 1) (Some from) ws x f)
      | inr fails ↦ (let e : filter test ys ≡ xs ++ (x ∷ []) = sym (filter-no test y ys fails) ∙ is in
          let out : TakenOut test ys (last_from from found test (y ∷ ys)) (from + 1) x xs =
          subst (λ (p : Option ℕ). TakenOut test ys p (from + 1) x xs) (sym (ap (λ b. last_from (from + 1) (if b then Some from else found) test ys) fails)) (last-out test ys (from + 1) found xs x e) in
          out-later test y ys x xs xs (last_from from found test (y ∷ ys)) from out (λ l rest. filter-no test y l fails ∙ rest))
    ]

-- what is taken out of the pool
pub record Out (pool : List Spot) (found : Option (Spot × List Spot)) (test : Spot → Bool) (x : Spot) (left : List Spot) : Type 0 where
  pub others : List Spot
  pub is : found ≡ Some (x, others)
  pub takes : Takes pool x others
  pub rest : filter test others ≡ left

out-of : (test : Spot → Bool) (pool : List Spot) (place : Option ℕ) (x : Spot) (left : List Spot) → TakenOut test pool place 0 x left → Out pool (taken pool place) test x left
out-of test pool place x left out = record {
  others = remove pool out.index;
  is = ap (taken pool) (out.is ∙ (let e : 0 + out.index ≡ out.index = omega arith in ap (λ n. Some n) e)) ∙ ap (beside (remove pool out.index)) out.stands;
  takes = takes_at pool out.index x out.stands;
  rest = out.rest;
}

pub takes-first : (test : Spot → Bool) (pool : List Spot) (x : Spot) (xs : List Spot) → filter test pool ≡ x ∷ xs → Out pool (taken pool (first_from 0 test pool)) test x xs
takes-first test pool x xs is = out-of test pool (first_from 0 test pool) x xs (first-out test pool 0 x xs is)

pub takes-last : (test : Spot → Bool) (pool : List Spot) (xs : List Spot) (x : Spot) → filter test pool ≡ xs ++ (x ∷ []) → Out pool (taken pool (last_from 0 None test pool)) test x xs
takes-last test pool xs x is = out-of test pool (last_from 0 None test pool) x xs (last-out test pool 0 None xs x is)

pub takes-none : (test : Spot → Bool) (pool : List Spot) → filter test pool ≡ [] → taken pool (first_from 0 test pool) ≡ None
takes-none test pool none = ap (taken pool) (first-none test pool 0 none)

pub takes-no-last : (test : Spot → Bool) (pool : List Spot) → filter test pool ≡ [] → taken pool (last_from 0 None test pool) ≡ None
takes-no-last test pool none = ap (taken pool) (last-none test pool 0 None none)
