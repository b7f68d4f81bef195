-- Lists: what stands at a place where one more comes at the end.
use Rattle.std.proofs.Common.{◌≡◌, ℕ, zero, suc, ◌+◌, ◌<◌, List, [], ◌∷◌, ◌++◌, length, refl, sym, ap, ◌∙◌, subst, arith, ⊎_elim, ◌⊎◌, inl, inr}
use Rattle.std.specs.Prelude.{Some, slice_get, slice_index_or}
use Rattle.std.proofs.lemmas.List.{length-append, get_or_append_left}
use Rattle.std.specs.List.{All}

pub got_end : {A : Type 0} (l : List A) (a b : A) (j : ℕ) → slice_get (l ++ a ∷ []) j ≡ Some b → (slice_get l j ≡ Some b) ⊎ ((j ≡ length l) × (a ≡ b))
got_end [] a b zero e = inr (refl, (cc))
got_end [] a b (suc j) e = absurd (cc)
got_end (x ∷ xs) a b zero e = inl e
got_end (x ∷ xs) a b (suc j) e = ⊎_elim inl (λ t. inr (ap suc t.0, t.1)) (got_end xs a b j e)

pub at_last : {A : Type 0} (l : List A) (x : A) → slice_get (l ++ x ∷ []) (length l) ≡ Some x
at_last [] x = refl
at_last (y ∷ ys) x = at_last ys x

pub at_front : {A : Type 0} (l m : List A) (i : ℕ) (x : A) → slice_get l i ≡ Some x → slice_get (l ++ m) i ≡ Some x
at_front [] m i x e = absurd (cc)
at_front (y ∷ ys) m zero x e = e
at_front (y ∷ ys) m (suc i) x e = at_front ys m i x e

pub nothing : {A : Type 0} (l : List A) → length l ≡ 0 → l ≡ []
nothing [] e = refl
nothing (x ∷ xs) e = absurd (omega (arith, e))

pub longer : {A : Type 0} (l m : List A) (x : A) → m ≡ l ++ x ∷ [] → length m ≡ length l + 1
longer l m x is = ap length is ∙ length-append l (x ∷ [])

pub all_more : {A : Type 0} (Q : A → Type 0) (l m : List A) (x : A) → m ≡ l ++ x ∷ [] → All Q l → Q x → All Q m
all_more Q l m x is all new = subst (All Q) (sym is) (one_end Q l x all new)
  where
    one_end : {A : Type 0} (Q : A → Type 0) (l : List A) (x : A) → All Q l → Q x → All Q (l ++ x ∷ [])
    one_end Q [] x all new zero d near = new
    one_end Q [] x all new (suc k) d near = absurd (omega (arith, near))
    one_end Q (y ∷ ys) x all new zero d near = all zero d (omega arith)
    one_end Q (y ∷ ys) x all new (suc k) d near = one_end Q ys x (λ j e close. all (suc j) e (omega (arith, close))) new k d (omega (arith, near))

-- what all of a list are, an item is that stands behind others
pub all_at : {A : Type 0} (Q : A → Type 0) (front rest more whole : List A) (x : A) → front ++ rest ≡ whole → rest ≡ x ∷ more → All Q whole → Q x
all_at Q front rest more whole x is begins all = there Q front x more (subst (All Q) (sym (ap (λ l. front ++ l) (sym begins) ∙ is)) all)
  where
    there : {A : Type 0} (Q : A → Type 0) (front : List A) (x : A) (more : List A) → All Q (front ++ x ∷ more) → Q x
    there Q [] x more all = all zero x (omega arith)
    there Q (y ∷ ys) x more all = there Q ys x more (λ k d near. all (suc k) d (omega (arith, near)))

pub got_or : {A : Type 0} (l : List A) (i : ℕ) (d : A) → i < length l → slice_get l i ≡ Some (slice_index_or l i d)
got_or [] i d near = absurd (omega (arith, near))
got_or (x ∷ xs) zero d near = refl
got_or (x ∷ xs) (suc i) d near = got_or xs i d (omega (arith, near))

-- what all of a list are, all but its last are
pub all_front : {A : Type 0} (Q : A → Type 0) (l m : List A) (x : A) → m ≡ l ++ x ∷ [] → All Q m → All Q l
all_front Q l m x is all k d near =
    subst Q (get_or_append_left l (x ∷ []) d k near) (subst (All Q) is all k d (let more = length-append l (x ∷ []) in omega (arith, near, more)))
