-- Lists that are read by place, and sums over them.
use Rattle.std.proofs.Common.{◌≡◌, ◌⊎◌, inl, inr, ⊎_elim, ℕ, zero, suc, ◌+◌, ◌<◌, ◌≤◌, List, [], ◌∷◌, ◌++◌, length, map, set, replicate, sum_by, refl, sym, ap, ◌∙◌, arith, Some, slice_get, slice_index_or, subst}
use Rattle.std.proofs.lemmas.List.{get_or_append_left, length-append}
use Rattle.std.specs.List.{All}
use Rattle.std.proofs.lemmas.List.Sums.{sum_by-cons}
use mathlib.Core.Logic.{dite}
use native.Mathlib.Decide.{dec_le}
use mathlib.Core.Option.{some, some-injective, some-ne-none}
use lib.ListN.{get_elem?}
use Rattle.atomic_table.specs.Table.{rest}

module _ {A : Type 0} where
  pub below : (l : List A) (i : ℕ) (a : A) → get_elem? l i ≡ some a → i < length l
  below [] i a e = absurd (some-ne-none a (sym e))
  below (x ∷ xs) zero a e = omega arith
  below (x ∷ xs) (suc i) a e = let h = below xs i a e in omega arith

  pub there : (l : List A) (i : ℕ) → i < length l → (a : A) × (get_elem? l i ≡ some a)
  there [] i h = absurd (omega arith)
  there (x ∷ xs) zero h = (x, refl)
  there (x ∷ xs) (suc i) h = there xs i (omega arith)

  pub at_end : (l : List A) (a b : A) (j : ℕ) → get_elem? (l ++ a ∷ []) j ≡ some b → (get_elem? l j ≡ some b) ⊎ ((j ≡ length l) × (a ≡ b))
  at_end [] a b zero e = inr (refl, some-injective a b e)
  at_end [] a b (suc j) e = absurd (some-ne-none b (sym e))
  at_end (x ∷ xs) a b zero e = inl e
  at_end (x ∷ xs) a b (suc j) e = ⊎_elim inl (λ t. inr (ap suc t.0, t.1)) (at_end xs a b j e)

  pub same_at : (l : List A) (i : ℕ) (a b : A) → get_elem? l i ≡ some a → get_elem? l i ≡ some b → a ≡ b
  same_at l i a b p q = some-injective a b (sym p ∙ q)

  pub only : (v w : A) (i : ℕ) → get_elem? (v ∷ []) i ≡ some w → (i ≡ 0) × (v ≡ w)
  only v w zero e = (refl, some-injective v w e)
  only v w (suc i) e = absurd (some-ne-none w (sym e))

  pub repeated : (n i : ℕ) (a : A) → i < n → get_elem? (replicate n a) i ≡ some a
  repeated zero i a h = absurd (omega arith)
  repeated (suc n) zero a h = refl
  repeated (suc n) (suc i) a h = repeated n i a (omega arith)

  pub of_repeated : (n i : ℕ) (a b : A) → get_elem? (replicate n a) i ≡ some b → (i < n) × (a ≡ b)
  of_repeated zero i a b e = absurd (some-ne-none b (sym e))
  of_repeated (suc n) zero a b e = (omega arith, some-injective a b e)
  of_repeated (suc n) (suc i) a b e = let h = of_repeated n i a b e in (omega (arith, h.0), h.1)

  pub set_last : (l : List A) (a b : A) (n : ℕ) → length l ≡ n → set (l ++ a ∷ []) n b ≡ l ++ b ∷ []
  set_last [] a b zero e = refl
  set_last [] a b (suc n) e = absurd (omega arith)
  set_last (x ∷ xs) a b zero e = absurd (omega arith)
  set_last (x ∷ xs) a b (suc n) e = ap (λ l. x ∷ l) (set_last xs a b n (omega arith))

  -- what each of a list's elements meets, each of its front meets
  pub all_front : (Q : A → Type 0) (l m : List A) (x : A) → l ≡ m ++ x ∷ [] → All Q l → All Q m
  all_front Q l m x is all k d near = subst Q (ap (λ (n : List A). slice_index_or n k d) is ∙ get_or_append_left m (x ∷ []) d k near) (all k d (omega (arith, ap length is, length-append m (x ∷ []))))

  pub got_end : (l : List A) (a b : A) (j : ℕ) → slice_get (l ++ a ∷ []) j ≡ Some b → (slice_get l j ≡ Some b) ⊎ ((j ≡ length l) × (a ≡ b))
  got_end [] a b zero e = inr (refl, (cc))
  got_end [] a b (suc j) e = absurd (cc)
  got_end (x ∷ xs) a b zero e = inl e
  got_end (x ∷ xs) a b (suc j) e = ⊎_elim inl (λ t. inr (ap suc t.0, t.1)) (got_end xs a b j e)

  pub got_there : (l : List A) (i : ℕ) → i < length l → (a : A) × (slice_get l i ≡ Some a)
  got_there [] i h = absurd (omega arith)
  got_there (x ∷ xs) zero h = (x, refl)
  got_there (x ∷ xs) (suc i) h = got_there xs i (omega arith)

  pub sum_set : (f : A → ℕ) (l : List A) (i : ℕ) (a b : A) → get_elem? l i ≡ some a → sum_by f (set l i b) + f a ≡ sum_by f l + f b
  sum_set f [] i a b e = absurd (some-ne-none a (sym e))
  sum_set f (x ∷ xs) zero a b e = let same : f x ≡ f a = ap f (some-injective x a e) in omega (arith, sum_by-cons f b xs, sum_by-cons f x xs)
  sum_set f (x ∷ xs) (suc i) a b e = omega (arith, sum_set f xs i a b e, sum_by-cons f x xs, sum_by-cons f x (set xs i b))

  pub term_le : (f : A → ℕ) (l : List A) (i : ℕ) (a : A) → get_elem? l i ≡ some a → f a ≤ sum_by f l
  term_le f [] i a e = absurd (some-ne-none a (sym e))
  term_le f (x ∷ xs) zero a e = let same : f x ≡ f a = ap f (some-injective x a e) in omega (arith, sum_by-cons f x xs)
  term_le f (x ∷ xs) (suc i) a e = omega (arith, term_le f xs i a e, sum_by-cons f x xs)

  -- a sum that is not 0 has such a term
  pub some_term : (f : A → ℕ) (l : List A) → 0 < sum_by f l → (i : ℕ) × (a : A) × (get_elem? l i ≡ some a) × (0 < f a)
  some_term f [] h = absurd (omega arith)
  some_term f (x ∷ xs) h = dite (dec_le (f x) 0)
      (λ none. let later = some_term f xs (omega (arith, sum_by-cons f x xs)) in (suc later.0, later.1, later.2, later.3))
      (λ some_here. (0, x, refl, omega arith))

module _ {A B : Type 0} where
  pub at_unmap : (f : A → B) (l : List A) (i : ℕ) (b : B) → get_elem? (map f l) i ≡ some b → (a : A) × (get_elem? l i ≡ some a) × (f a ≡ b)
  at_unmap f [] i b e = absurd (some-ne-none b (sym e))
  at_unmap f (x ∷ xs) zero b e = (x, refl, some-injective (f x) b e)
  at_unmap f (x ∷ xs) (suc i) b e = at_unmap f xs i b e

  pub map_repeated : (f : A → B) (n : ℕ) (a : A) → map f (replicate n a) ≡ replicate n (f a)
  map_repeated f zero a = refl
  map_repeated f (suc n) a = ap (λ l. f a ∷ l) (map_repeated f n a)

-- one repeated once more
pub repeated_more : {A : Type 0} (n : ℕ) (a : A) → replicate (n + 1) a ≡ replicate n a ++ a ∷ []
repeated_more zero a = refl
repeated_more (suc n) a = let on : suc n + 1 ≡ suc (n + 1) = omega arith in ap (λ k. replicate k a) on ∙ ap (λ l. a ∷ l) (repeated_more n a)

-- a list of slots begins with what a step took
pub still : {S : Type 0} (l m : List (ℕ × S)) (t k : ℕ) (x : S) → t ≡ k → l ≡ (t, x) ∷ m → l ≡ (k, x) ∷ rest l
still l m t k x same is = is ∙ (λ i. (same i, x) ∷ sym (ap rest is) i)
