-- What the newest choice point and the callers need bounds what all others do.
use Rattle.std.proofs.Common.{◌≡◌, ◌⊎◌, inl, inr, ℕ, zero, suc, ◌+◌, ◌-◌, ◌<◌, ◌≤◌, Bool, true, false, if◌then◌else◌, nat_lt, List, [], ◌∷◌, ◌++◌, length, take, map, reverse, Option, Some, None, slice_get, slice_set, refl, sym, ap, ◌∙◌, subst, arith}
use Rattle.merc_frames.specs.declared.slot.Slot.{Slot}
use Rattle.merc_frames.specs.Held.{AreKept}
use Rattle.merc_frames.specs.Stacks.{Stacks}
use Rattle.merc_frames.specs.View.{frame_of, callers_of, seen, view_of, tops_of, Fine, Needs, larger, newest, kept_saved, kept_end, counted, lowered, top_of, caller_top}
use Rattle.merc_frames.specs.declared.kept.Saved.{Saved}
use Rattle.merc_frames.specs.declared.kept.Kept.{Kept}
use Rattle.merc_frames.proofs.HeldLaws.{kept_below}
use Rattle.merc_frames.proofs.Lists.{get_seam, get_within}
use Rattle.merc_frames.proofs.Moving.{moved_fine, moved_view}
use Rattle.std.proofs.lemmas.Bool.Decides.{nat_tests}
use Rattle.std.proofs.lemmas.List.{length-append, length-set}

-- the larger of two
pub larger_left : (a b : ℕ) → a ≤ larger a b
larger_left a b = grind (arith, nat_tests)

pub larger_right : (a b : ℕ) → b ≤ larger a b
larger_right a b = grind (arith, nat_tests)

pub larger_under : (a b n : ℕ) → a ≤ n → b ≤ n → larger a b ≤ n
larger_under a b n h k = grind (arith, nat_tests, h, k)

larger_on : (t : Bool) (a b i : ℕ) → i < (if t then b else a) → (i < a) ⊎ (i < b)
larger_on true a b i h = inr h
larger_on false a b i h = inl h

pub larger_below : (a b i : ℕ) → i < larger a b → (i < a) ⊎ (i < b)
larger_below a b i h = larger_on (nat_lt a b) a b i h

-- the newest choice point
newest_last : (cs : List Kept) (k : Kept) → newest (cs ++ k ∷ []) ≡ Some k
newest_last cs k = ap (slice_get (cs ++ k ∷ [])) (let last : length (cs ++ k ∷ []) - 1 ≡ length cs = omega (arith, length-append cs (k ∷ [])) in last) ∙ get_seam cs k

pub needs_last : (cs cs' : List Kept) (k : Kept) → cs' ≡ cs ++ k ∷ [] → Needs cs' k.saved (k.base + k.size)
needs_last cs cs' k e = let is : newest cs' ≡ Some k = ap newest e ∙ newest_last cs k in record { frames = ap kept_saved (sym is); slots = ap kept_end (sym is) }

-- what another one needs as much as the one that it takes the place of
set_reads : (f : Option Kept → ℕ) (xs : List Kept) (n : ℕ) (k m : Kept) → slice_get xs n ≡ Some k → f (Some m) ≡ f (Some k) → (i : ℕ) → f (slice_get (slice_set xs n m) i) ≡ f (slice_get xs i)
set_reads f [] zero k m e same i = absurd cc
set_reads f [] (suc n) k m e same i = absurd cc
set_reads f (x ∷ xs) zero k m e same zero = same ∙ ap f (sym e)
set_reads f (x ∷ xs) zero k m e same (suc i) = refl
set_reads f (x ∷ xs) (suc n) k m e same zero = refl
set_reads f (x ∷ xs) (suc n) k m e same (suc i) = set_reads f xs n k m e same i

set_newest : (f : Option Kept → ℕ) (cs : List Kept) (n : ℕ) (k m : Kept) → slice_get cs n ≡ Some k → f (Some m) ≡ f (Some k) → f (newest (slice_set cs n m)) ≡ f (newest cs)
set_newest f cs n k m e same = ap (λ l. f (slice_get (slice_set cs n m) (l - 1))) (length-set cs n m) ∙ set_reads f cs n k m e same (length cs - 1)

pub needs_set : (cs : List Kept) (n : ℕ) (k m : Kept) (saved end : ℕ) → slice_get cs n ≡ Some k → m.base ≡ k.base → m.size ≡ k.size → m.saved ≡ k.saved → Needs cs saved end → Needs (slice_set cs n m) saved end
needs_set cs n k m saved end e base size count needs = record {
  frames = needs.frames ∙ sym (set_newest kept_saved cs n k m e count);
  slots = needs.slots ∙ sym (set_newest kept_end cs n k m e (ap (λ x. x + m.size) base ∙ ap (λ x. k.base + x) size));
}

-- as the code reads what the newest one needs, and what others need with it
pub needs_read : (cs a b : List Kept) (saved end : ℕ) → saved ≡ kept_saved (newest a) → a ≡ cs → end ≡ kept_end (newest b) → b ≡ cs → Needs cs saved end
needs_read cs a b saved end count first top second = record { frames = count ∙ ap (λ x. kept_saved (newest x)) first; slots = top ∙ ap (λ x. kept_end (newest x)) second }

pub count_read : (cs : List Kept) (saved end h count : ℕ) → Needs cs saved end → count ≡ larger h saved → count ≡ counted (newest cs) h
count_read cs saved end h count needs is = is ∙ ap (larger h) needs.frames

pub low_read : (cs : List Kept) (all read : List Saved) (saved end h top low : ℕ) → Needs cs saved end → read ≡ all → top ≡ caller_top read h → low ≡ larger top end → low ≡ lowered (newest cs) (caller_top all h)
low_read cs all read saved end h top low needs same caller is = is ∙ ap (λ x. larger x end) (caller ∙ ap (λ x. caller_top x h) same) ∙ ap (larger (caller_top all h)) needs.slots

get_is : {A : Type 0} (xs : List A) (i : ℕ) → i < length xs → (x : A) × (slice_get xs i ≡ Some x)
get_is [] i l = absurd (omega (arith, l))
get_is (x ∷ xs) zero l = (x, refl)
get_is (x ∷ xs) (suc i) l = get_is xs i (omega (arith, l))

less_or : (a b : ℕ) → (a < b) ⊎ (b ≤ a)
less_or zero zero = inr (omega arith)
less_or zero (suc b) = inl (omega arith)
less_or (suc a) zero = inr (omega arith)
less_or (suc a) (suc b) = elim (less_or a b) as (λ _. (suc a < suc b) ⊎ (suc b ≤ suc a)) [ inl h ↦ inl (omega (arith, h)) | inr h ↦ inr (omega (arith, h)) ]

same_one : {A : Type 0} (o : Option A) (x y : A) → o ≡ Some x → o ≡ Some y → x ≡ y
same_one o x y e f = cc

pub counted_left : (o : Option Kept) (h : ℕ) → h ≤ counted o h
counted_left o h = larger_left h (kept_saved o)

pub counted_newest : (o : Option Kept) (h : ℕ) (k : Kept) → o ≡ Some k → k.saved ≤ counted o h
counted_newest o h k e = subst (λ x. k.saved ≤ counted x h) (sym e) (larger_right h k.saved)

counted_under : (o : Option Kept) (h n : ℕ) → h ≤ n → ((k : Kept) → o ≡ Some k → k.saved ≤ n) → counted o h ≤ n
counted_under None h n l g = larger_under h 0 n l (omega arith)
counted_under (Some k) h n l g = larger_under h k.saved n l (g k refl)

counted_below : (o : Option Kept) (h i : ℕ) → i < counted o h → (i < h) ⊎ ((k : Kept) × (o ≡ Some k) × (i < k.saved))
counted_below None h i l = elim (larger_below h 0 i l) as (λ _. (i < h) ⊎ ((m : Kept) × (None ≡ Some m) × (i < m.saved))) [ inl a ↦ inl a | inr a ↦ absurd (omega (arith, a)) ]
counted_below (Some k) h i l = elim (larger_below h k.saved i l) as (λ _. (i < h) ⊎ ((m : Kept) × (Some k ≡ Some m) × (i < m.saved))) [ inl a ↦ inl a | inr a ↦ inr (k, refl, a) ]

lowered_left : (o : Option Kept) (n : ℕ) → n ≤ lowered o n
lowered_left o n = larger_left n (kept_end o)

lowered_newest : (o : Option Kept) (n : ℕ) (k : Kept) → o ≡ Some k → k.base + k.size ≤ lowered o n
lowered_newest o n k e = subst (λ x. k.base + k.size ≤ lowered x n) (sym e) (larger_right n (k.base + k.size))

-- where all of them end below a bound, so does what they need
pub lowered_under : (o : Option Kept) (low base : ℕ) → low ≤ base → ((k : Kept) → o ≡ Some k → k.base + k.size ≤ base) → lowered o low ≤ base
lowered_under None low base under each = larger_under low 0 base under (omega arith)
lowered_under (Some k) low base under each = larger_under low (k.base + k.size) base under (each k refl)

top_under : (o : Option Saved) (base : ℕ) → ((s : Saved) → o ≡ Some s → s.base + s.size ≤ base) → top_of o ≤ base
top_under None base each = omega arith
top_under (Some s) base each = each s refl

pub caller_under : (saved : List Saved) (h base : ℕ) → ((i : ℕ) (s : Saved) → slice_get saved i ≡ Some s → s.base + s.size ≤ base) → caller_top saved h ≤ base
caller_under saved zero base each = omega arith
caller_under saved (suc h) base each = top_under (slice_get saved h) base (each h)

module _ (w : List Slot) (saved : List Saved) (cs : List Kept) (base size height : ℕ) (f : Fine w saved cs base size height) (h : ℕ) (hs : h ≤ length saved) where
  -- what holds of the newest one bounds the others
  pub bounded : (i : ℕ) (k : Kept) → slice_get cs i ≡ Some k → (m : Kept) × (newest cs ≡ Some m) × (k.base + k.size ≤ m.base + m.size) × (k.saved ≤ m.saved)
  bounded i k e =
      let l = get_within i cs k e in
      let r = get_is cs (length cs - 1) (omega (arith, l)) in
      let m = r.0 in
      let q = r.1 in
      elim (less_or i (length cs - 1)) as (λ _. (m : Kept) × (newest cs ≡ Some m) × (k.base + k.size ≤ m.base + m.size) × (k.saved ≤ m.saved)) [
        | inl a ↦ (let u = f.rising i (length cs - 1) k m a e q in let u0 = u.0 in (m, q, omega (arith, u0), u.1))
        | inr a ↦ (let same_place : i ≡ length cs - 1 = omega (arith, a, l) in (k, subst (λ x. slice_get cs x ≡ Some k) same_place e, omega arith, omega arith))
      ]

  pub kept_settle : (i : ℕ) (k : Kept) → slice_get cs i ≡ Some k → (k.base + k.size ≤ lowered (newest cs) (caller_top saved h)) × (k.saved ≤ counted (newest cs) h)
  kept_settle i k e =
      let r = bounded i k e in
      let a = lowered_newest (newest cs) (caller_top saved h) r.0 r.1 in
      let b = counted_newest (newest cs) h r.0 r.1 in
      let c = r.2 in let d = r.3 in (omega (arith, a, c), omega (arith, b, d))

  -- the newest caller of a height is its last saved frame
  caller_above : (n : ℕ) → n ≤ length saved → (i : ℕ) (s : Saved) → i < n → slice_get saved i ≡ Some s → s.base + s.size ≤ caller_top saved n
  caller_above zero c i s l e = absurd (omega (arith, l))
  caller_above (suc n) c i s l e =
      let r = get_is saved n (omega (arith, c)) in
      let t = r.0 in let q = r.1 in
      subst (λ o. s.base + s.size ≤ top_of o) (sym q)
      (elim (less_or i n) as (λ _. s.base + s.size ≤ t.base + t.size) [
        | inl a ↦ (let u = f.ordered i n s t a e q in omega (arith, u))
        | inr a ↦ (let same_place : i ≡ n = omega (arith, a, l) in subst (λ x. s.base + s.size ≤ x.base + x.size) (same_one (slice_get saved n) s t (subst (λ x. slice_get saved x ≡ Some s) same_place e) q) (omega arith))
      ])

  pub tops_settle : (i : ℕ) (s : Saved) → i < counted (newest cs) h → slice_get saved i ≡ Some s → s.base + s.size ≤ lowered (newest cs) (caller_top saved h)
  tops_settle i s l e =
      elim (counted_below (newest cs) h i l) as (λ _. s.base + s.size ≤ lowered (newest cs) (caller_top saved h)) [
        | inl a ↦ (let b = caller_above h hs i s a e in let d = lowered_left (newest cs) (caller_top saved h) in omega (arith, b, d))
        | inr r ↦ (let g = f.kept (length cs - 1) r.0 r.1 in let b = g.below i s r.2 e in let d = lowered_newest (newest cs) (caller_top saved h) r.0 r.1 in omega (arith, b, d))
      ]

  pub count_settle : counted (newest cs) h ≤ length saved
  count_settle = counted_under _ _ _ hs (λ k e. (f.kept (length cs - 1) k e).count)

-- it begins no higher than the frame before it
pub low_under : (w : List Slot) (saved : List Saved) (cs : List Kept) (base size height : ℕ) → Fine w saved cs base size height → (h : ℕ) → lowered (newest cs) (caller_top saved h) ≤ base
low_under w saved cs base size height f h =
    lowered_under (newest cs) (caller_top saved h) base (caller_under saved h base f.tops) (λ k e. (f.kept (length cs - 1) k e).top)

-- A current frame begins at or above where all ends that the newest choice point and callers of this height need.
module _ (w w' : List Slot) (saved saved' : List Saved) (cs : List Kept) (base size height : ℕ) (f : Fine w saved cs base size height) (low size' h count : ℕ) (hs : h ≤ length saved)
    (ec : count ≡ counted (newest cs) h) (el : lowered (newest cs) (caller_top saved h) ≤ low) (es : saved' ≡ take count saved) (same : take low w ≡ take low w') where
  inside : count ≤ length saved
  inside = subst (λ x. x ≤ length saved) (sym ec) (count_settle w saved cs base size height f h hs)

  above : h ≤ count
  above = subst (λ x. h ≤ x) (sym ec) (counted_left (newest cs) h)

  tops : (i : ℕ) (s : Saved) → i < count → slice_get saved i ≡ Some s → s.base + s.size ≤ low
  tops i s l e = let r = tops_settle w saved cs base size height f h hs i s (subst (λ x. i < x) ec l) e in omega (arith, r, el)

  kept : (i : ℕ) (k : Kept) → slice_get cs i ≡ Some k → (k.base + k.size ≤ low) × (k.saved ≤ count)
  kept i k e =
      let r = kept_settle w saved cs base size height f h hs i k e in
      (let a = r.0 in omega (arith, a, el), subst (λ x. k.saved ≤ x) (sym ec) r.1)

  pub settled_fine : low + size' ≤ length w' → Fine w' saved' cs low size' h
  settled_fine room = subst (λ x. Fine w' x cs low size' h) (sym es) (moved_fine w w' saved cs base size height f low size' h count inside above same tops kept room)

  pub settled_kept : (MayHold : ℕ → Slot → Type 0) (cells : ℕ) → AreKept MayHold cells w (tops_of cs) → AreKept MayHold cells w' (tops_of cs)
  settled_kept MayHold cells held = kept_below MayHold low w w' cs (λ i k e. (kept i k e).0) same cells held

  pub settled_view : (current : List Slot) → frame_of w' low size' ≡ current
      → view_of w' saved' cs low size' h ≡ (let r : Stacks = record { current = current; callers = callers_of w saved h; choices = reverse (map (λ k. seen w saved k) cs) } in r)
  settled_view current e = ap (λ x. view_of w' x cs low size' h) es ∙ moved_view w w' saved cs base size height f low size' h count inside above same tops kept current e

-- the same current frame, moved to where all ends that the newest choice point and the callers need
module _ (w w' : List Slot) (saved saved' : List Saved) (cs : List Kept) (base size h : ℕ) (f : Fine w saved cs base size h) (low count : ℕ)
    (ec : count ≡ counted (newest cs) h) (el : low ≡ lowered (newest cs) (caller_top saved h)) (es : saved' ≡ take count saved) (same : take low w ≡ take low w') where
  pub closed_fine : length w' ≡ length w → Fine w' saved' cs low size h
  closed_fine long =
      let a = f.within in let b = low_under w saved cs base size h f h in
      settled_fine w w' saved saved' cs base size h f low size h count f.stack ec (omega (arith, el)) es same (omega (arith, a, b, el, long))

  pub closed_kept : (MayHold : ℕ → Slot → Type 0) (cells : ℕ) → AreKept MayHold cells w (tops_of cs) → AreKept MayHold cells w' (tops_of cs)
  closed_kept = settled_kept w w' saved saved' cs base size h f low size h count f.stack ec (omega (arith, el)) es same

  pub closed_view : frame_of w' low size ≡ frame_of w base size → view_of w' saved' cs low size h ≡ view_of w saved cs base size h
  closed_view copied = settled_view w w' saved saved' cs base size h f low size h count f.stack ec (omega (arith, el)) es same (frame_of w base size) copied
