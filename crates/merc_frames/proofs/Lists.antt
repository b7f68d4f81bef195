-- Facts on lists.
use Rattle.std.proofs.Common.{◌≡◌, ◌⊎◌, inl, inr, ℕ, zero, suc, ◌+◌, ◌-◌, ◌<◌, ◌≤◌, List, [], ◌∷◌, ◌++◌, length, take, drop, replicate, map, Some, None, slice_get, slice_set, refl, sym, ap, ◌∙◌, arith}

module _ {A : Type 0} where
  none_some : (x : A) (P : Type 0) → None ≡ Some x → P
  none_some x P e = absurd cc

  pub get_take : (n i : ℕ) (xs : List A) → i < n → slice_get (take n xs) i ≡ slice_get xs i
  get_take zero i xs h = absurd (omega (arith, h))
  get_take (suc n) i [] h = refl
  get_take (suc n) zero (x ∷ xs) h = refl
  get_take (suc n) (suc i) (x ∷ xs) h = get_take n i xs (omega (arith, h))

  pub get_drop : (n i : ℕ) (xs : List A) → slice_get (drop n xs) i ≡ slice_get xs (n + i)
  get_drop zero i xs = ap (slice_get xs) (let e : i ≡ 0 + i = omega arith in e)
  get_drop (suc n) i [] = refl
  get_drop (suc n) i (x ∷ xs) = get_drop n i xs ∙ ap (slice_get (x ∷ xs)) (let e : suc (n + i) ≡ suc n + i = omega arith in e)

  pub get_take_in : (n i : ℕ) (xs : List A) (x : A) → slice_get (take n xs) i ≡ Some x → (i < n) × (slice_get xs i ≡ Some x)
  get_take_in zero i xs x e = absurd cc
  get_take_in (suc n) i [] x e = absurd cc
  get_take_in (suc n) zero (y ∷ xs) x e = (omega arith, e)
  get_take_in (suc n) (suc i) (y ∷ xs) x e = let r = get_take_in n i xs x e in (omega (arith, r.0), r.1)

  pub get_left : (i : ℕ) (xs ys : List A) → i < length xs → slice_get (xs ++ ys) i ≡ slice_get xs i
  get_left i [] ys h = absurd (omega (arith, h))
  get_left zero (x ∷ xs) ys h = refl
  get_left (suc i) (x ∷ xs) ys h = get_left i xs ys (omega (arith, h))

  pub get_seam : (xs : List A) (y : A) → slice_get (xs ++ y ∷ []) (length xs) ≡ Some y
  get_seam [] y = refl
  get_seam (x ∷ xs) y = get_seam xs y

  same_some : (x y : A) → Some x ≡ Some y → x ≡ y
  same_some x y e = cc

  pub get_more : (i : ℕ) (xs : List A) (y x : A) → slice_get (xs ++ y ∷ []) i ≡ Some x → (slice_get xs i ≡ Some x) ⊎ ((i ≡ length xs) × (x ≡ y))
  get_more zero [] y x e = inr (refl, same_some x y (sym e))
  get_more (suc i) [] y x e = none_some x _ e
  get_more zero (z ∷ xs) y x e = inl e
  get_more (suc i) (z ∷ xs) y x e = elim (get_more i xs y x e) as (λ _. (slice_get xs i ≡ Some x) ⊎ ((suc i ≡ suc (length xs)) × (x ≡ y))) [ inl h ↦ inl h | inr h ↦ inr (ap suc h.0, h.1) ]

  pub get_within : (i : ℕ) (xs : List A) (x : A) → slice_get xs i ≡ Some x → i < length xs
  get_within i [] x e = none_some x _ e
  get_within zero (y ∷ xs) x e = omega arith
  get_within (suc i) (y ∷ xs) x e = let r = get_within i xs x e in omega (arith, r)

  pub map_same : {B : Type 0} (f g : A → B) (xs : List A) → ((i : ℕ) (x : A) → slice_get xs i ≡ Some x → f x ≡ g x) → map f xs ≡ map g xs
  map_same f g [] h = refl
  map_same f g (x ∷ xs) h = ap (λ y. y ∷ map f xs) (h zero x refl) ∙ ap (λ ys. g x ∷ ys) (map_same f g xs (λ i y e. h (suc i) y e))

  pub take_less : (n z : ℕ) (w : List A) → z ≤ n → take z (take n w) ≡ take z w
  take_less n zero w h = refl
  take_less zero (suc z) w h = absurd (omega (arith, h))
  take_less (suc n) (suc z) [] h = refl
  take_less (suc n) (suc z) (x ∷ w) h = ap (λ y. x ∷ y) (take_less n z w (omega (arith, h)))

  -- a part depends only on what stands below its end
  pub part_below : (n b z : ℕ) (w : List A) → b + z ≤ n → take z (drop b (take n w)) ≡ take z (drop b w)
  part_below n zero z w h = take_less n z w (omega (arith, h))
  part_below zero (suc b) z w h = absurd (omega (arith, h))
  part_below (suc n) (suc b) z [] h = refl
  part_below (suc n) (suc b) z (x ∷ w) h = part_below n b z w (omega (arith, h))

  pub get_set : (n i : ℕ) (xs : List A) (y x : A) → slice_get (slice_set xs n y) i ≡ Some x → (slice_get xs i ≡ Some x) ⊎ ((i ≡ n) × (x ≡ y))
  get_set zero i [] y x e = none_some x _ e
  get_set (suc n) i [] y x e = none_some x _ e
  get_set zero zero (z ∷ xs) y x e = inr (refl, same_some x y (sym e))
  get_set zero (suc i) (z ∷ xs) y x e = inl e
  get_set (suc n) zero (z ∷ xs) y x e = inl e
  get_set (suc n) (suc i) (z ∷ xs) y x e = elim (get_set n i xs y x e) as (λ _. (slice_get xs i ≡ Some x) ⊎ ((suc i ≡ suc n) × (x ≡ y))) [ inl h ↦ inl h | inr h ↦ inr (ap suc h.0, h.1) ]

  pub take_set : (n i : ℕ) (xs : List A) (y : A) → take n (slice_set xs i y) ≡ slice_set (take n xs) i y
  take_set zero zero xs y = refl
  take_set zero (suc i) xs y = refl
  take_set (suc n) zero [] y = refl
  take_set (suc n) (suc i) [] y = refl
  take_set (suc n) zero (x ∷ xs) y = refl
  take_set (suc n) (suc i) (x ∷ xs) y = ap (λ v. x ∷ v) (take_set n i xs y)

  pub take_replicate : (n z : ℕ) (x : A) → z ≤ n → take z (replicate n x) ≡ replicate z x
  take_replicate n zero x h = refl
  take_replicate zero (suc z) x h = absurd (omega (arith, h))
  take_replicate (suc n) (suc z) x h = ap (λ v. x ∷ v) (take_replicate n z x (omega (arith, h)))

  -- what is the same behind a place is so behind each later one
  drop_nil : (n : ℕ) → [] ≡ drop {A = A} n []
  drop_nil zero = refl
  drop_nil (suc n) = refl

  drop_rest : (m n : ℕ) (w : List A) → m ≤ n → drop n w ≡ drop (n - m) (drop m w)
  drop_rest zero n w h = ap (λ x. drop x w) (let e : n ≡ n - 0 = omega arith in e)
  drop_rest (suc m) zero w h = absurd (omega (arith, h))
  drop_rest (suc m) (suc n) [] h = drop_nil (suc n - suc m)
  drop_rest (suc m) (suc n) (x ∷ w) h = drop_rest m n w (omega (arith, h)) ∙ ap (λ y. drop y (drop m w)) (let e : n - m ≡ suc n - suc m = omega arith in e)

  pub drop_later : (m n : ℕ) (w w' : List A) → m ≤ n → drop m w ≡ drop m w' → drop n w ≡ drop n w'
  drop_later m n w w' h e = drop_rest m n w h ∙ ap (drop (n - m)) e ∙ sym (drop_rest m n w' h)
