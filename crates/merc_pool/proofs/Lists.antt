-- Lists with one element more, or one less.
use Rattle.std.proofs.Common.{◌≡◌, ◌⊎◌, inl, inr, ℕ, zero, suc, ◌+◌, ◌<◌, ◌≤◌, List, [], ◌∷◌, ◌++◌, Option, Some, None, length, slice_get, get_or, take, drop, refl, ap, sym, ◌∙◌, subst, arith}
use Rattle.std.specs.Prelude.{IfSome}
use Rattle.std.proofs.Math.Seq.{take-append_seam}

some_is : {X : Type 0} {one other : X} → Some one ≡ Some other → one ≡ other
some_is e = cc

pub snoc_get : {X : Type 0} (xs : List X) (x : X) (i : ℕ) (y : X) → slice_get (xs ++ x ∷ []) i ≡ Some y → (slice_get xs i ≡ Some y) ⊎ ((i ≡ length xs) × (x ≡ y))
snoc_get [] x zero y is = inr (refl, some_is is)
snoc_get [] x (suc i) y is = absurd cc
snoc_get (first ∷ others) x zero y is = inl is
snoc_get (first ∷ others) x (suc i) y is = elim (snoc_get others x i y is) [ inl there ↦ inl there | inr last ↦ inr (ap suc last.0, last.1) ]

pub length_snoc : {X : Type 0} (xs : List X) (x : X) (n : ℕ) → length xs ≡ n → length (xs ++ x ∷ []) ≡ n + 1
length_snoc [] x n is = omega (arith, is)
length_snoc (first ∷ others) x zero is = absurd (omega (arith, is))
length_snoc (first ∷ others) x (suc n) is = ap suc (length_snoc others x n (omega (arith, is))) ∙ omega arith

pub none_get : {X Y : Type 0} (i : ℕ) (x : X) → slice_get [] i ≡ Some x → Y
none_get i x is = absurd cc

-- what holds of all and of one more, by its number
pub each_and_one : {X : Type 0} (P : ℕ → X → Type 0) (xs : List X) (x : X) (n : ℕ) → length xs ≡ n → ((i : ℕ) (y : X) → slice_get xs i ≡ Some y → P i y) → P n x
    → (i : ℕ) (y : X) → slice_get (xs ++ x ∷ []) i ≡ Some y → P i y
each_and_one P xs x n is each one i y at =
    elim (snoc_get xs x i y at) as (λ _. P i y) [ inl there ↦ each i y there | inr last ↦ subst (P i) last.1 (subst (λ j. P j x) (sym (last.0 ∙ is)) one) ]

pub all_and_one : {X : Type 0} (P : X → Type 0) (xs : List X) (x : X) → ((i : ℕ) (y : X) → slice_get xs i ≡ Some y → P y) → P x → (i : ℕ) (y : X) → slice_get (xs ++ x ∷ []) i ≡ Some y → P y
all_and_one P xs x each one i y at = elim (snoc_get xs x i y at) as (λ _. P y) [ inl there ↦ each i y there | inr last ↦ subst P last.1 one ]

pub at_get : {X : Type 0} (xs : List X) (i : ℕ) (x : X) → suc i ≤ length xs → x ≡ get_or xs i x → slice_get xs i ≡ Some x
at_get [] i x less is = absurd (omega (arith, less))
at_get (first ∷ others) zero x less is = ap Some (sym is)
at_get (first ∷ others) (suc i) x less is = at_get others i x (omega (arith, less)) is

pub get_same : {X : Type 0} (xs : List X) (i : ℕ) (x y : X) → suc i ≤ length xs → x ≡ get_or xs i x → y ≡ get_or xs i y → x ≡ y
get_same [] i x y less one other = absurd (omega (arith, less))
get_same (first ∷ others) zero x y less one other = one ∙ sym other
get_same (first ∷ others) (suc i) x y less one other = get_same others i x y (omega (arith, less)) one other

without_get : {X : Type 0} (P : X → Type 0) (xs : List X) (i : ℕ) → ((k : ℕ) (x : X) → slice_get xs k ≡ Some x → P x) → (k : ℕ) (x : X) → slice_get (take i xs ++ drop (suc i) xs) k ≡ Some x → P x
without_get P [] zero each k x at = absurd cc
without_get P [] (suc i) each k x at = absurd cc
without_get P (first ∷ others) zero each k x at = each (suc k) x at
without_get P (first ∷ others) (suc i) each zero x at = each zero x at
without_get P (first ∷ others) (suc i) each (suc k) x at = without_get P others i (λ j y there. each (suc j) y there) k x at

suc_is : (i : ℕ) → suc i ≡ i + 1
suc_is i = omega arith

pub without_one : {X : Type 0} (P : X → Type 0) (xs ys : List X) (i : ℕ) → ys ≡ take i xs ++ drop (i + 1) xs → ((k : ℕ) (x : X) → slice_get xs k ≡ Some x → P x) → (k : ℕ) (x : X) → slice_get ys k ≡ Some x → P x
without_one P xs ys i is each k x at = without_get P xs i each k x (ap (λ j. slice_get (take i xs ++ drop j xs) k) (suc_is i) ∙ ap (λ zs. slice_get zs k) (sym is) ∙ at)

pub all_taken : {X : Type 0} (P : X → Type 0) (xs ys : List X) (n : ℕ) → n ≡ length xs → ((i : ℕ) (x : X) → slice_get xs i ≡ Some x → P x) → (i : ℕ) (x : X) → slice_get (take n (xs ++ ys)) i ≡ Some x → P x
all_taken P xs ys n is each i x at = each i x (ap (λ zs. slice_get zs i) (sym (ap (λ k. take k (xs ++ ys)) is ∙ take-append_seam xs ys)) ∙ at)

pub some_weaker : {X : Type 0} (r : Option X) (P Q : X → Type 0) → ((x : X) → P x → Q x) → IfSome r P → IfSome r Q
some_weaker None P Q more known = tt
some_weaker (Some x) P Q more known = more x known

pub front_get : {X : Type 0} (xs ys : List X) (i : ℕ) (x : X) → slice_get xs i ≡ Some x → slice_get (xs ++ ys) i ≡ Some x
front_get [] ys i x at = absurd cc
front_get (first ∷ others) ys zero x at = at
front_get (first ∷ others) ys (suc i) x at = front_get others ys i x at

pub last_get : {X : Type 0} (xs : List X) (x : X) → slice_get (xs ++ x ∷ []) (length xs) ≡ Some x
last_get [] x = refl
last_get (first ∷ others) x = last_get others x
