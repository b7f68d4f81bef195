-- The calls, on plain lists.
use Rattle.std.proofs.Common.{◌≡◌, inl, inr, ℕ, suc, ◌+◌, ◌<◌, ◌≤◌, Bool, true, false, List, [], ◌∷◌, ◌++◌, length, take, map, reverse, Some, slice_get, slice_set, refl, sym, ap, ◌∙◌, subst, arith}
use Rattle.merc_frames.specs.declared.slot.Slot.{Slot}
use Rattle.merc_frames.specs.declared.passing.Pass.{Pass}
use Rattle.merc_frames.specs.Handing.{empty_frame, passed}
use Rattle.merc_frames.specs.Held.{AreKept}
use Rattle.merc_frames.specs.Stacks.{Stacks}
use Rattle.merc_frames.specs.View.{frame_of, linked, chain, callers_of, seen, view_of, tops_of, Fine, FineChoice, newest, counted, lowered, caller_top}
use Rattle.merc_frames.specs.declared.kept.Saved.{Saved}
use Rattle.merc_frames.specs.declared.kept.Kept.{Kept}
use Rattle.merc_frames.proofs.Lists.{get_left, get_seam, get_more, get_within}
use Rattle.merc_frames.proofs.Stays.{Stays, chain_fuel, callers_same, all_seen}
use Rattle.merc_frames.specs.Stacks.{Enters, Renews}
use Rattle.merc_frames.proofs.Built.{Built}
use Rattle.merc_frames.proofs.FrameLaws.{frame_set}
use Rattle.merc_frames.proofs.Moving.{below_base, slots_fine, slots_view, above_fine, above_view}
use Rattle.merc_frames.proofs.Newest.{settled_fine, settled_kept, settled_view}
use Rattle.merc_frames.proofs.HeldLaws.{Holding, kept_below}
use Rattle.std.proofs.lemmas.List.{length-append, take-set-le}
use Rattle.std.proofs.lemmas.List.Elements.{All-set}

-- a call: the current frame is saved, and another begins at its end
module _ (w : List Slot) (saved : List Saved) (cs : List Kept) (base size h : ℕ) (s : Saved) (f : Fine w saved cs base size h) (b : s.base ≡ base) (z : s.size ≡ size) (p : s.parent ≡ h) where
  stays_enter : Stays base (length saved) w w saved (saved ++ s ∷ [])
  stays_enter = record { slots_same = refl; get_same = λ i l. sym (get_left i saved (s ∷ []) l); tops = λ i t l q. f.tops i t q; parents = f.parents }

  parents_enter : (i : ℕ) (t : Saved) → slice_get (saved ++ s ∷ []) i ≡ Some t → t.parent ≤ i
  parents_enter i t e = elim (get_more i saved s t e) as (λ _. t.parent ≤ i) [
    | inl q ↦ f.parents i t q
    | inr q ↦ (let a = f.stack in let c = q.0 in let d : t.parent ≡ h = ap (λ x. x.parent) q.1 ∙ p in omega (arith, a, c, d))
  ]

  tops_enter : (i : ℕ) (t : Saved) → slice_get (saved ++ s ∷ []) i ≡ Some t → t.base + t.size ≤ base + size
  tops_enter i t e = elim (get_more i saved s t e) as (λ _. t.base + t.size ≤ base + size) [
    | inl q ↦ (let a = f.tops i t q in omega (arith, a))
    | inr q ↦ subst (λ x. x.base + x.size ≤ base + size) (sym q.1) (omega (arith, b, z))
  ]

  ordered_enter : (i j : ℕ) (t u : Saved) → i < j → slice_get (saved ++ s ∷ []) i ≡ Some t → slice_get (saved ++ s ∷ []) j ≡ Some u → t.base + t.size ≤ u.base
  ordered_enter i j t u l e g = elim (get_more i saved s t e) as (λ _. t.base + t.size ≤ u.base) [
    | inl q ↦ elim (get_more j saved s u g) as (λ _. t.base + t.size ≤ u.base) [
      | inl r ↦ f.ordered i j t u l q r
      | inr r ↦ subst (λ x. t.base + t.size ≤ x.base) (sym r.1) (let a = f.tops i t q in omega (arith, a, b))
    ]
    | inr q ↦ elim (get_more j saved s u g) as (λ _. t.base + t.size ≤ u.base) [
      | inl r ↦ absurd (let a = get_within j saved u r in let c = q.0 in omega (arith, a, c, l))
      | inr r ↦ absurd (let a = q.0 in let c = r.0 in omega (arith, a, c, l))
    ]
  ]

  above_enter : (k : Kept) → FineChoice saved base k → (i : ℕ) (t : Saved) → k.saved ≤ i → slice_get (saved ++ s ∷ []) i ≡ Some t → k.base + k.size ≤ t.base
  above_enter k g i t l e = elim (get_more i saved s t e) as (λ _. k.base + k.size ≤ t.base) [
    | inl q ↦ g.above i t l q
    | inr q ↦ subst (λ x. k.base + k.size ≤ x.base) (sym q.1) (let a = g.top in omega (arith, a, b))
  ]

  kept_enter : (i : ℕ) (k : Kept) → slice_get cs i ≡ Some k → FineChoice (saved ++ s ∷ []) (base + size) k
  kept_enter i k e =
      let g = f.kept i k e in
      let c = g.count in let t = g.top in
      record {
        height = g.height;
        count = omega (arith, c, length-append saved (s ∷ []));
        top = omega (arith, t);
        below = λ j u lj q. g.below j u lj (sym (get_left j saved (s ∷ []) (omega (arith, lj, c))) ∙ q);
        above = above_enter k g;
      }

  pub enter_fine : (saved' : List Saved) (base' size' h' : ℕ) → saved' ≡ saved ++ s ∷ [] → base' ≡ base + size → base' + size' ≤ length w → h' ≡ length saved' → Fine w saved' cs base' size' h'
  enter_fine saved' base' size' h' es eb room eh =
      let r : Fine w (saved ++ s ∷ []) cs (base + size) size' h' =
      record { within = omega (arith, eb, room); stack = omega (arith, eh, ap length es); parents = parents_enter; tops = tops_enter; ordered = ordered_enter; kept = kept_enter; rising = f.rising } in
      subst (λ x. Fine w x cs base' size' h') (sym es) (subst (λ x. Fine w (saved ++ s ∷ []) cs x size' h') (sym eb) r)

  callers_enter : callers_of w (saved ++ s ∷ []) (suc (length saved)) ≡ record { place = s.place; slots = frame_of w base size } ∷ callers_of w saved h
  callers_enter =
      ap (λ o. linked w o (λ q. chain (length saved) w (saved ++ s ∷ []) q)) (get_seam saved s)
      ∙ ap (λ v. record { place = s.place; slots = v } ∷ chain (length saved) w (saved ++ s ∷ []) s.parent) (ap (λ x. frame_of w x s.size) b ∙ ap (λ x. frame_of w base x) z)
      ∙ ap (λ x. record { place = s.place; slots = frame_of w base size } ∷ chain (length saved) w (saved ++ s ∷ []) x) p
      ∙ ap (λ rest. record { place = s.place; slots = frame_of w base size } ∷ rest)
      (chain_fuel (length saved) h h w (saved ++ s ∷ []) parents_enter f.stack (omega arith) ∙ sym (callers_same h base (length saved) w w saved (saved ++ s ∷ []) stays_enter f.stack))

  height_enter : (saved' : List Saved) (h' : ℕ) → saved' ≡ saved ++ s ∷ [] → h' ≡ length saved' → h' ≡ suc (length saved)
  height_enter saved' h' es eh = eh ∙ ap length es ∙ omega (arith, length-append saved (s ∷ []))

  pub enter_callers : (saved' : List Saved) (h' : ℕ) → saved' ≡ saved ++ s ∷ [] → h' ≡ length saved'
      → callers_of w saved' h' ≡ record { place = s.place; slots = frame_of w base size } ∷ callers_of w saved h
  enter_callers saved' h' es eh = ap (λ x. callers_of w x h') es ∙ ap (λ x. callers_of w (saved ++ s ∷ []) x) (height_enter saved' h' es eh) ∙ callers_enter

  pub enter_choices : (saved' : List Saved) → saved' ≡ saved ++ s ∷ [] → reverse (map (λ k. seen w saved' k) cs) ≡ reverse (map (λ k. seen w saved k) cs)
  enter_choices saved' es = ap (λ x. reverse (map (λ k. seen w x k) cs)) es ∙ ap reverse (sym (all_seen cs base (length saved) w w saved (saved ++ s ∷ []) stays_enter (below_base w saved cs base size h f)))

pub set_view : (w : List Slot) (saved : List Saved) (cs : List Kept) (base size h number : ℕ) (v : Slot) → Fine w saved cs base size h
    → view_of (slice_set w (base + number) v) saved cs base size h ≡ (let r : Stacks = record { current = slice_set (frame_of w base size) number v; callers = callers_of w saved h; choices = reverse (map (λ k. seen w saved k) cs) } in r)
set_view w saved cs base size h number v f = slots_view w (slice_set w (base + number) v) saved cs base size h f (sym (take-set-le base w (base + number) v (omega arith))) size _
    (frame_set w base size number v)

pub set_held : (MayHold : ℕ → Slot → Type 0) (cells : ℕ) (w : List Slot) (saved : List Saved) (cs : List Kept) (base size h number : ℕ) (v : Slot) → Fine w saved cs base size h → MayHold cells v
    → Holding MayHold cells w cs → Holding MayHold cells (slice_set w (base + number) v) cs
set_held MayHold cells w saved cs base size h number v f may held = (
  All-set (MayHold cells) w (base + number) v may held.0,
  kept_below MayHold base w (slice_set w (base + number) v) cs (λ i k e. (f.kept i k e).top) (sym (take-set-le base w (base + number) v (omega arith))) cells held.1,
)

-- a last call: the new frame begins at or above where all ends that the newest choice point and the callers need
module _ (w w' : List Slot) (saved saved' : List Saved) (cs : List Kept) (base size h : ℕ) (f : Fine w saved cs base size h) (low size' count : ℕ) (slots : List Slot)
    (b : Built w w' low size' slots) (ec : count ≡ counted (newest cs) h) (el : lowered (newest cs) (caller_top saved h) ≤ low) (es : saved' ≡ take count saved) where
  pub renewed_fine : Fine w' saved' cs low size' h
  renewed_fine = settled_fine w w' saved saved' cs base size h f low size' h count f.stack ec el es b.below b.room

  pub renewed_kept : (MayHold : ℕ → Slot → Type 0) (cells : ℕ) → AreKept MayHold cells w (tops_of cs) → AreKept MayHold cells w' (tops_of cs)
  renewed_kept = settled_kept w w' saved saved' cs base size h f low size' h count f.stack ec el es b.below

  pub renewed : (emptied : Bool) (inputs : List Pass) (left : List Slot) → slots ≡ passed inputs (frame_of w base size) left → length left ≡ size' → (emptied ≡ true → left ≡ empty_frame size')
      → Renews (view_of w saved cs base size h) (view_of w' saved' cs low size' h) size' emptied inputs
  renewed emptied inputs left are room empty =
      let v = settled_view w w' saved saved' cs base size h f low size' h count f.stack ec el es b.below slots b.frame in
      record { left = left; room = room; empty = empty; current = b.frame ∙ are; callers = ap (λ (x : Stacks). x.callers) v; choices = ap (λ (x : Stacks). x.choices) v }

-- a last call in place: only slots of the current frame were written
module _ (w w' : List Slot) (saved : List Saved) (cs : List Kept) (base size h : ℕ) (f : Fine w saved cs base size h) (slots : List Slot) (b : Built w w' base size slots) where
  pub within_fine : Fine w' saved cs base size h
  within_fine = slots_fine w w' saved cs base size h f b.below size b.room

  pub within_kept : (MayHold : ℕ → Slot → Type 0) (cells : ℕ) → AreKept MayHold cells w (tops_of cs) → AreKept MayHold cells w' (tops_of cs)
  within_kept MayHold cells held = kept_below MayHold base w w' cs (λ i k e. (f.kept i k e).top) b.below cells held

  pub within_view : view_of w' saved cs base size h ≡ (let r : Stacks = record { current = slots; callers = callers_of w saved h; choices = reverse (map (λ k. seen w saved k) cs) } in r)
  within_view = slots_view w w' saved cs base size h f b.below size slots b.frame

-- It is a last call where the new frame is as large as the old one, and is not emptied.
pub renewed_within : (before after : Stacks) (size : ℕ) (emptied : Bool) (inputs : List Pass) → size ≡ length before.current → emptied ≡ false
    → after ≡ record before { current = passed inputs before.current before.current } → Renews before after size emptied inputs
renewed_within before after size emptied inputs room kept is = record {
  left = before.current;
  room = sym room;
  empty = λ empties. (let both : false ≡ true = sym kept ∙ empties in absurd cc);
  current = ap (λ (x : Stacks). x.current) is;
  callers = ap (λ (x : Stacks). x.callers) is;
  choices = ap (λ (x : Stacks). x.choices) is;
}

-- what a call is seen to have done
module _ (w w' : List Slot) (saved : List Saved) (cs : List Kept) (base size h : ℕ) (s : Saved) (f : Fine w saved cs base size h) (eb : s.base ≡ base) (ez : s.size ≡ size) (ep : s.parent ≡ h)
    (saved' : List Saved) (size' h' : ℕ) (slots : List Slot) (b : Built w w' (base + size) size' slots) (es : saved' ≡ saved ++ s ∷ []) (eh : h' ≡ length saved') where
  fine : Fine w' saved cs base size h
  fine = let a = b.room in above_fine w w' saved cs base size h f b.below (omega (arith, a))

  pub entered_fine : Fine w' saved' cs (base + size) size' h'
  entered_fine = enter_fine w' saved cs base size h s fine eb ez ep saved' (base + size) size' h' es refl b.room eh

  pub entered_kept : (MayHold : ℕ → Slot → Type 0) (cells : ℕ) → AreKept MayHold cells w (tops_of cs) → AreKept MayHold cells w' (tops_of cs)
  entered_kept MayHold cells held = kept_below MayHold (base + size) w w' cs (λ i k e. (let top = (f.kept i k e).top in omega (arith, top))) b.below cells held

  pub entered : (emptied : Bool) (inputs : List Pass) (left : List Slot) → slots ≡ passed inputs (frame_of w base size) left → length left ≡ size' → (emptied ≡ true → left ≡ empty_frame size')
      → Enters (view_of w saved cs base size h) (view_of w' saved' cs (base + size) size' h') s.place size' emptied inputs
  entered emptied inputs left are room empty =
      let v = above_view w w' saved cs base size h f b.below in
      record {
        left = left;
        room = room;
        empty = empty;
        current = b.frame ∙ are;
        callers = enter_callers w' saved cs base size h s fine eb ez ep saved' h' es eh ∙ ap (λ (x : Stacks). record { place = s.place; slots = x.current } ∷ x.callers) v;
        choices = enter_choices w' saved cs base size h s fine eb ez ep saved' es ∙ ap (λ (x : Stacks). x.choices) v;
      }
