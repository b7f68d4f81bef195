-- Parts of lists: what is left stands in the same order.
use Rattle.std.proofs.Common.{◌≡◌, ℕ, ◌⊎◌, inl, inr, Bool, true, false, if◌then◌else◌, List, [], ◌∷◌, ◌++◌, map, filter, flat_map, refl, ap, sym, subst, ◌∙◌}
use Rattle.merc_core.specs.Rights.{has}
use Rattle.merc_core.specs.WellFormed.{AreDistinct}
use Rattle.merc_plan.proofs.Sets.{clash, first_in, rest_in, front_or, or_in, absent}

pub data Part (A : Type 0) : List A → List A → Type 0 where
  nothing : Part A [] []
  skip : (y : A) (xs ys : List A) → Part A xs ys → Part A xs (y ∷ ys)
  keep : (x : A) (xs ys : List A) → Part A xs ys → Part A (x ∷ xs) (x ∷ ys)

pub part_same : {A : Type 0} (xs : List A) → Part A xs xs
part_same [] = nothing
part_same (x ∷ xs) = keep x xs xs (part_same xs)

pub part_both : {A : Type 0} (xs ys zs : List A) → Part A xs ys → Part A ys zs → Part A xs zs
part_both xs ys zs p nothing = p
part_both xs ys zs p (skip z _ more q) = skip z xs more (part_both xs ys more p q)
part_both xs ys zs (skip _ _ less p) (keep y _ more q) = skip y xs more (part_both xs less more p q)
part_both xs ys zs (keep _ fewer less p) (keep y _ more q) = keep y fewer more (part_both fewer less more p q)

pub part_front : {A : Type 0} (zs xs ys : List A) → Part A xs ys → Part A (zs ++ xs) (zs ++ ys)
part_front [] xs ys p = p
part_front (z ∷ zs) xs ys p = keep z (zs ++ xs) (zs ++ ys) (part_front zs xs ys p)

pub part_filter : {A : Type 0} (test : A → Bool) (xs ys : List A) → Part A xs ys → Part A (filter test xs) (filter test ys)
part_filter test xs ys nothing = nothing
part_filter {A} test xs ys (skip y _ more p) = on (test y) (part_filter test xs more p)
  where
    on : (b : Bool) → Part A (filter test xs) (filter test more) → Part A (filter test xs) (if b then y ∷ filter test more else filter test more)
    on true q = skip y (filter test xs) (filter test more) q
    on false q = q
part_filter {A} test xs ys (keep x less more p) = on (test x) (part_filter test less more p)
  where
    on : (b : Bool) → Part A (filter test less) (filter test more) → Part A (if b then x ∷ filter test less else filter test less) (if b then x ∷ filter test more else filter test more)
    on true q = keep x (filter test less) (filter test more) q
    on false q = q

pub filter_part : {A : Type 0} (test : A → Bool) (xs : List A) → Part A (filter test xs) xs
filter_part test [] = nothing
filter_part {A} test (x ∷ xs) = on (test x) (filter_part test xs)
  where
    on : (b : Bool) → Part A (filter test xs) xs → Part A (if b then x ∷ filter test xs else filter test xs) (x ∷ xs)
    on true q = keep x (filter test xs) xs q
    on false q = skip x (filter test xs) xs q

-- What is in lists of things with cells.
module _ {A : Type 0} (cell : A → ℕ) where
  pub has_part : (c : ℕ) (xs ys : List A) → Part A xs ys → has c (map cell xs) ≡ true → has c (map cell ys) ≡ true
  has_part c xs ys nothing h = h
  has_part c xs ys (skip y _ more p) h = rest_in c (cell y) (map cell more) (has_part c xs more p h)
  has_part c xs ys (keep x less more p) h = on (front_or c (cell x) (map cell less) h) (λ k. has_part c less more p k)
    where
      on : (c ≡ cell x) ⊎ (has c (map cell less) ≡ true) → (has c (map cell less) ≡ true → has c (map cell more) ≡ true) → has c (cell x ∷ map cell more) ≡ true
      on (inl e) rec = or_in c (cell x) (map cell more) (inl e)
      on (inr k) rec = rest_in c (cell x) (map cell more) (rec k)

  pub distinct_part : (xs ys : List A) → Part A xs ys → AreDistinct (map cell ys) → AreDistinct (map cell xs)
  distinct_part xs ys nothing d = d
  distinct_part xs ys (skip y _ more p) d = distinct_part xs more p d.1
  distinct_part xs ys (keep x less more p) d =
      (absent (cell x) (map cell less) (λ h. clash (has (cell x) (map cell more)) (has_part (cell x) less more p h) d.0), distinct_part less more p d.1)

  -- the first one's cell is none of the others
  pub first_not : (c : ℕ) (x : A) (xs : List A) → AreDistinct (map cell (x ∷ xs)) → c ≡ cell x → has c (map cell xs) ≡ true → ⊥
  first_not c x xs d e h = clash (has (cell x) (map cell xs)) (subst (λ n. has n (map cell xs) ≡ true) e h) d.0

  pub among_rest : (c : ℕ) (x : A) (xs ys : List A) → AreDistinct (map cell (x ∷ ys)) → has c (map cell ys) ≡ true → has c (map cell (x ∷ xs)) ≡ true → has c (map cell xs) ≡ true
  among_rest c x xs ys d i h = on (front_or c (cell x) (map cell xs) h)
    where
      on : (c ≡ cell x) ⊎ (has c (map cell xs) ≡ true) → has c (map cell xs) ≡ true
      on (inl e) = absurd (first_not c x ys d e i)
      on (inr k) = k

  -- What passes a test in the whole passes it in the part where it is there.
  module _ (test : A → Bool) where
    passing : (c : ℕ) (b : Bool) (x : A) (xs : List A) → has c (map cell (if b then x ∷ filter test xs else filter test xs)) ≡ true → (c ≡ cell x) ⊎ (has c (map cell (filter test xs)) ≡ true)
    passing c true x xs h = front_or c (cell x) (map cell (filter test xs)) h
    passing c false x xs h = inr h

    pub passed_in : (c : ℕ) (xs : List A) → has c (map cell (filter test xs)) ≡ true → has c (map cell xs) ≡ true
    passed_in c xs h = has_part c (filter test xs) xs (filter_part test xs) h

    pub pick_part : (c : ℕ) (xs ys : List A) → Part A xs ys → AreDistinct (map cell ys) → has c (map cell (filter test ys)) ≡ true → has c (map cell xs) ≡ true → has c (map cell (filter test xs)) ≡ true
    pick_part c xs ys nothing d h i = i
    pick_part c xs ys (skip y _ more p) d h i = on (passing c (test y) y more h) (λ k. pick_part c xs more p d.1 k i)
      where
        on : (c ≡ cell y) ⊎ (has c (map cell (filter test more)) ≡ true) → (has c (map cell (filter test more)) ≡ true → has c (map cell (filter test xs)) ≡ true)
            → has c (map cell (filter test xs)) ≡ true
        on (inl e) rec = absurd (first_not c y more d e (has_part c xs more p i))
        on (inr k) rec = rec k
    pick_part c xs ys (keep x less more p) d h i = on (test x) h (front_or c (cell x) (map cell less) i) (λ k j. pick_part c less more p d.1 k j)
      where
        on : (b : Bool) → has c (map cell (if b then x ∷ filter test more else filter test more)) ≡ true → (c ≡ cell x) ⊎ (has c (map cell less) ≡ true)
            → (has c (map cell (filter test more)) ≡ true → has c (map cell less) ≡ true → has c (map cell (filter test less)) ≡ true)
            → has c (map cell (if b then x ∷ filter test less else filter test less)) ≡ true
        on true h (inl e) rec = or_in c (cell x) (map cell (filter test less)) (inl e)
        on true h (inr j) rec = further (front_or c (cell x) (map cell (filter test more)) h)
          where
            further : (c ≡ cell x) ⊎ (has c (map cell (filter test more)) ≡ true) → has c (cell x ∷ map cell (filter test less)) ≡ true
            further (inl e) = or_in c (cell x) (map cell (filter test less)) (inl e)
            further (inr k) = rest_in c (cell x) (map cell (filter test less)) (rec k j)
        on false h (inl e) rec = absurd (first_not c x more d e (passed_in c more h))
        on false h (inr j) rec = rec h j

    -- what is made of all that pass, where these are in the part
    pub made_same : {B : Type 0} (make : A → List B) → ((x : A) → test x ≡ false → make x ≡ []) → (xs ys : List A) → Part A xs ys → AreDistinct (map cell ys)
        → ((c : ℕ) → has c (map cell (filter test ys)) ≡ true → has c (map cell xs) ≡ true) → flat_map make xs ≡ flat_map make ys
    made_same make none xs ys nothing d all = refl
    made_same {B} make none xs ys (skip y _ more p) d all =
        on (test y) refl all (λ further. made_same make none xs more p d.1 further)
      where
        on : (b : Bool) → test y ≡ b → ((c : ℕ) → has c (map cell (if b then y ∷ filter test more else filter test more)) ≡ true → has c (map cell xs) ≡ true)
            → (((c : ℕ) → has c (map cell (filter test more)) ≡ true → has c (map cell xs) ≡ true) → flat_map make xs ≡ flat_map make more) → flat_map make xs ≡ make y ++ flat_map make more
        on true e all rec = absurd (first_not (cell y) y more d refl (has_part (cell y) xs more p (all (cell y) (first_in (cell y) (map cell (filter test more))))))
        on false e all rec = rec all ∙ ap (λ (l : List B). l ++ flat_map make more) (sym (none y e))
    made_same {B} make none xs ys (keep x less more p) d all =
        ap (λ (l : List B). make x ++ l) (made_same make none less more p d.1 (λ c h. among_rest c x less more d (passed_in c more h) (all c (more_pass c (test x) h))))
      where
        more_pass : (c : ℕ) (b : Bool) → has c (map cell (filter test more)) ≡ true → has c (map cell (if b then x ∷ filter test more else filter test more)) ≡ true
        more_pass c true h = rest_in c (cell x) (map cell (filter test more)) h
        more_pass c false h = h
