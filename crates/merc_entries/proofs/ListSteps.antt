-- What is left of a list that is looked at by index.
use Rattle.std.specs.List.{slice_get}
use Rattle.std.proofs.Common.{◌≡◌, ℕ, suc, zero, ◌+◌, List, [], ◌∷◌, drop, Some, None, refl, ap, sym, ◌∙◌, add-one}

pub got_suc : {A : Type 0} (xs : List A) (i : ℕ) (x : A) → slice_get xs i ≡ Some x → drop i xs ≡ x ∷ drop (suc i) xs
got_suc [] i x found = cc
got_suc (y ∷ ys) zero x found = cc
got_suc (y ∷ ys) (suc i) x found = got_suc ys i x found

-- there is one more
pub got : {A : Type 0} (xs : List A) (i : ℕ) (x : A) → slice_get xs i ≡ Some x → drop i xs ≡ x ∷ drop (i + 1) xs
got xs i x found = got_suc xs i x found ∙ ap (λ n. x ∷ drop n xs) (sym (add-one i))

-- there is none
pub gone : {A : Type 0} (xs : List A) (i : ℕ) → slice_get xs i ≡ None → drop i xs ≡ []
gone [] zero found = refl
gone [] (suc i) found = refl
gone (y ∷ ys) zero found = cc
gone (y ∷ ys) (suc i) found = gone ys i found

-- and none behind
pub gone_on : {A : Type 0} (xs : List A) (i : ℕ) → slice_get xs i ≡ None → drop (i + 1) xs ≡ drop i xs
gone_on xs i found = ap (λ n. drop n xs) (add-one i) ∙ none_behind xs i found ∙ sym (gone xs i found)
  where
    none_behind : {A : Type 0} (xs : List A) (i : ℕ) → slice_get xs i ≡ None → drop (suc i) xs ≡ []
    none_behind [] i found = refl
    none_behind (y ∷ ys) zero found = cc
    none_behind (y ∷ ys) (suc i) found = none_behind ys i found
