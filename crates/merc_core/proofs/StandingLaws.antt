-- What stands at a place, and behind it.
use Rattle.std.proofs.Common.{◌≡◌, ℕ, zero, suc, ◌+◌, ◌≤◌, ◌<◌, List, [], ◌∷◌, ◌++◌, length, drop, get_or, refl, ap, sym, ◌∙◌, subst, arith, append_assoc, length-append}
use Rattle.std.specs.Prelude.{Option, Some, None, slice_get}
use Rattle.std.proofs.Math.Seq.{drop-append_seam}
use Rattle.merc_script.specs.declared.outcome.Outcome.{Outcome}
use Rattle.merc_script.specs.declared.items.Item.{Item}
use Rattle.merc_script.specs.declared.items.Fork.{Fork as ForkData}
use Rattle.merc_script.specs.declared.items.Item.TheVariants.{Wait, Fork}
use Rattle.merc_script.specs.Script.{Script, Ends, TickThen, WaitThen, SignalThen, ForkThen, Children, NoChild, Child, size, sizes}
use Rattle.merc_script.specs.Items.{items_of, items_in}
use Rattle.merc_core.specs.Standing.{StandsAt, LeftAt, IsWait, IsFork}

-- a script has as many items as its size says
mutual
  pub length-items_of : (script : Script) → length (items_of script) ≡ size script
  length-items_of (Ends end) = refl
  length-items_of (TickThen rest) = ap suc (length-items_of rest)
  length-items_of (WaitThen cell rest) = ap suc (length-items_of rest)
  length-items_of (SignalThen cell rest) = ap suc (length-items_of rest)
  length-items_of (ForkThen limit cells moves children rest) =
      let a = length-append (items_in children) (items_of rest) in let b = length-items_in children in let c = length-items_of rest in omega (arith, a, b, c)

  pub length-items_in : (children : Children) → length (items_in children) ≡ sizes children
  length-items_in NoChild = refl
  length-items_in (Child first others) =
      let a = length-append (items_of first) (items_in others) in let b = length-items_of first in let c = length-items_in others in omega (arith, a, b, c)

pub size-some : (script : Script) → 1 ≤ size script
size-some (Ends end) = omega arith
size-some (TickThen rest) = omega arith
size-some (WaitThen cell rest) = omega arith
size-some (SignalThen cell rest) = omega arith
size-some (ForkThen limit cells moves children rest) = omega arith

drop-nil : {A : Type 0} (k : ℕ) → drop {A = A} k [] ≡ []
drop-nil zero = refl
drop-nil (suc k) = refl

drop-add : {A : Type 0} (n m : ℕ) (xs : List A) → drop (n + m) xs ≡ drop m (drop n xs)
drop-add {A} n m [] = drop-nil {A = A} (n + m) ∙ sym (drop-nil {A = A} m) ∙ ap (drop m) (sym (drop-nil {A = A} n))
drop-add zero m (x ∷ xs) = let e : 0 + m ≡ m = omega arith in ap (λ k. drop k (x ∷ xs)) e
drop-add (suc n) m (x ∷ xs) = let e : suc n + m ≡ suc (n + m) = omega arith in ap (λ k. drop k (x ∷ xs)) e ∙ drop-add n m xs

-- behind items that stand at a place stands what comes behind them
pub behind_items : {A : Type 0} (xs front back : List A) (place n : ℕ) → length front ≡ n → drop place xs ≡ front ++ back → drop (place + n) xs ≡ back
behind_items xs front back place n long same =
    drop-add place n xs ∙ ap (drop n) same ∙ ap (λ k. drop k (front ++ back)) (sym long) ∙ drop-append_seam front back

pub there : {A : Type 0} (xs : List A) (n : ℕ) (x : A) → n < length xs → x ≡ get_or xs n x → (drop n xs ≡ x ∷ drop (suc n) xs) × (slice_get xs n ≡ Some x)
there [] n x in_range same = absurd (omega arith)
there (y ∷ ys) zero x in_range same = (ap (λ z. z ∷ ys) (sym same), ap (λ z. Some z) (sym same))
there (y ∷ ys) (suc n) x in_range same = there ys n x (omega arith) same

module _ (items : List Item) (place : ℕ) (item : Item) (in_range : place < length items) (same : item ≡ get_or items place item) where
  wait-on : (cell : ℕ) (left : Script) (behind : List Item) → item ≡ Wait cell → items_of left ++ behind ≡ item ∷ drop (suc place) items → IsWait cell place items left
  wait-on cell (WaitThen other rest) behind is e =
      let both : items_of (WaitThen other rest) ++ behind ≡ Wait cell ∷ drop (suc place) items = e ∙ ap (λ i. i ∷ drop (suc place) items) is in
      (cc, (behind, cc), (there items place item in_range same).1 ∙ ap (λ i. Some i) is)
  wait-on cell (Ends end) behind is e = absurd (cc)
  wait-on cell (TickThen rest) behind is e = absurd (cc)
  wait-on cell (SignalThen other rest) behind is e = absurd (cc)
  wait-on cell (ForkThen limit cells moves children rest) behind is e = absurd (cc)

  fork-on : (fork : ForkData) (left : Script) (behind : List Item) → item ≡ Fork fork → items_of left ++ behind ≡ item ∷ drop (suc place) items → IsFork fork place items left
  fork-on fork (ForkThen limit cells moves children rest) behind is e =
      let both : items_of (ForkThen limit cells moves children rest) ++ behind ≡ Fork fork ∷ drop (suc place) items = e ∙ ap (λ i. i ∷ drop (suc place) items) is in
      let tail : drop (suc place) items ≡ items_in children ++ (items_of rest ++ behind) = cc (append_assoc (items_in children) (items_of rest) behind) in
      (cc, (items_of rest ++ behind, tail), (behind, behind_items items (items_in children) (items_of rest ++ behind) (suc place) (sizes children) (length-items_in children) tail))
  fork-on fork (Ends end) behind is e = absurd (cc)
  fork-on fork (TickThen rest) behind is e = absurd (cc)
  fork-on fork (WaitThen other rest) behind is e = absurd (cc)
  fork-on fork (SignalThen other rest) behind is e = absurd (cc)

  pub next-wait : (cell : ℕ) (ended : Option Outcome) (left : Script) → ended ≡ None → item ≡ Wait cell → LeftAt items place ended left → IsWait cell place items left
  next-wait cell ended left none is at =
      let stands : StandsAt items place left = subst (λ (o : Option Outcome). LeftAt items place o left) none at in
      wait-on cell left stands.0 is (sym stands.1 ∙ (there items place item in_range same).0)

  pub next-fork : (fork : ForkData) (ended : Option Outcome) (left : Script) → ended ≡ None → item ≡ Fork fork → LeftAt items place ended left → IsFork fork place items left
  next-fork fork ended left none is at =
      let stands : StandsAt items place left = subst (λ (o : Option Outcome). LeftAt items place o left) none at in
      fork-on fork left stands.0 is (sym stands.1 ∙ (there items place item in_range same).0)
