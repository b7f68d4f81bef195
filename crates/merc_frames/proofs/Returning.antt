-- Going back to a caller.
use Rattle.std.proofs.Common.{◌≡◌, ℕ, zero, suc, ◌+◌, ◌-◌, ◌<◌, ◌≤◌, List, [], ◌∷◌, length, take, Option, Some, None, slice_get, slice_set, slice_index_or, refl, sym, ap, ◌∙◌, subst, arith}
use Rattle.merc_frames.specs.declared.slot.Slot.{Slot}
use Rattle.merc_frames.specs.Handing.{carried, delivered}
use Rattle.merc_frames.specs.Held.{AreKept}
use Rattle.merc_frames.specs.Stacks.{Caller, Stacks, caller_place}
use Rattle.merc_frames.specs.View.{frame_of, linked, chain, callers_of, view_of, tops_of, Fine, Grows, newest, kept_saved, counted, lowered, caller_top}
use Rattle.merc_frames.specs.declared.kept.Saved.{Saved}
use Rattle.merc_frames.specs.declared.kept.Kept.{Kept}
use Rattle.merc_frames.proofs.Stays.{chain_fuel}
use Rattle.std.proofs.lemmas.Option.{slice_get_read}
use Rattle.merc_frames.specs.Stacks.{GivesBack, GivesSlots}
use Rattle.merc_frames.proofs.Built.{Built}
use Rattle.merc_frames.proofs.HeldLaws.{kept_below}
use Rattle.merc_frames.proofs.Moving.{moved_fine, moved_view, grown_length}
use Rattle.merc_frames.proofs.Newest.{bounded, settled_fine, settled_kept, settled_view}

-- the newest caller, and its own callers
callers_are : (w : List Slot) (saved : List Saved) (cs : List Kept) (base size h n : ℕ) (s : Saved) → Fine w saved cs base size h → slice_get saved n ≡ Some s
    → callers_of w saved (suc n) ≡ record { place = s.place; slots = frame_of w s.base s.size } ∷ callers_of w saved s.parent
callers_are w saved cs base size h n s f e =
    ap (λ o. linked w o (λ q. chain n w saved q)) e
    ∙ ap (λ rest. record { place = s.place; slots = frame_of w s.base s.size } ∷ rest) (chain_fuel n s.parent s.parent w saved f.parents (f.parents n s e) (omega arith))

-- where there is one, its frame is saved
pub caller_saved : (w : List Slot) (saved : List Saved) (h : ℕ) (callers : List Caller) → callers_of w saved h ≡ callers → (callers ≡ [] → ⊥) → 0 < h
caller_saved w saved zero callers same there = absurd (there (sym same))
caller_saved w saved (suc h) callers same there = omega arith

-- the frame of the newest caller, as the code reads it
pub caller_is : (w : List Slot) (saved : List Saved) (cs : List Kept) (base size h : ℕ) (s : Saved) → Fine w saved cs base size h → 0 < h → s ≡ slice_index_or saved (h - 1) s → slice_get saved (h - 1) ≡ Some s
caller_is w saved cs base size h s f l e = slice_get_read saved (length saved) (h - 1) s refl (let a = f.stack in omega (arith, a, l)) e

-- where the parts of what is behind are known, a return is seen
given_back : (before after : Stacks) (own outs : List ℕ) (place : ℕ) (slots : List Slot) (callers : List Caller) → before.callers ≡ record { place = place; slots = slots } ∷ callers
    → after ≡ record { current = delivered outs (carried own before.current) slots; callers = callers; choices = before.choices } → GivesBack before after own outs (Some place)
given_back before after own outs place slots callers p q =
    (slots, p ∙ ap (λ (x : Stacks). record { place = place; slots = slots } ∷ x.callers) (sym q), ap (λ (x : Stacks). x.current) q, ap (λ (x : Stacks). x.choices) q)

-- a slot for the first output
one_delivered : (outs : List ℕ) (to : List Slot) → delivered outs [] to ≡ to
one_delivered [] to = refl
one_delivered (out ∷ outs) to = refl

-- A slot is given where nothing was given and then the first output's slot is written.
pub slot_given : (before between after : Stacks) (outs : List ℕ) (out found : ℕ) (slot : Slot) (place : ℕ) → 1 ≤ length outs → out ≡ found → found ≡ slice_index_or outs 0 found
    → GivesBack before between [] [] (Some place) → after ≡ record between { current = slice_set between.current out slot } → GivesSlots before after (slot ∷ []) outs (Some place)
slot_given before between after [] out found slot place some same first gives set = absurd (omega (arith, some))
slot_given before between after (first_out ∷ outs) out found slot place some same first gives set = (
  gives.0,
  gives.1 ∙ ap (λ (x : Stacks). record { place = place; slots = gives.0 } ∷ x.callers) (sym set),
  ap (λ (x : Stacks). x.current) set ∙ ap (λ n. slice_set between.current n slot) (same ∙ first) ∙ ap (λ slots. slice_set slots first_out slot) gives.2 ∙ sym (one_delivered outs (slice_set gives.0 first_out slot)),
  ap (λ (x : Stacks). x.choices) set ∙ gives.3,
)

-- The place that is given is the newest caller's.
pub given_at_caller : (before after : Stacks) (given : List Slot) (outs : List ℕ) (place : ℕ) → GivesSlots before after given outs (Some place) → GivesSlots before after given outs (caller_place before.callers)
given_at_caller before after given outs place gives = subst (λ (at : Option ℕ). GivesSlots before after given outs at) (sym (ap caller_place gives.1)) gives

-- Where there is a caller, a place was given.
given_somewhere : (before after : Stacks) (given : List Slot) (outs : List ℕ) (at : Option ℕ) → (before.callers ≡ [] → ⊥) → GivesSlots before after given outs at
    → (place : ℕ) × GivesSlots before after given outs (Some place)
given_somewhere before after given outs None there gives = absurd (there gives.0)
given_somewhere before after given outs (Some place) there gives = (place, gives)

-- A slot is given at the newest caller's place where nothing was given there before.
pub slot_given_there : (before between after : Stacks) (outs : List ℕ) (out found : ℕ) (slot : Slot) → (before.callers ≡ [] → ⊥) → 1 ≤ length outs → out ≡ found → found ≡ slice_index_or outs 0 found
    → GivesBack before between [] [] (caller_place before.callers) → after ≡ record between { current = slice_set between.current out slot }
    → GivesSlots before after (slot ∷ []) outs (caller_place before.callers)
slot_given_there before between after outs out found slot there some same first gives set =
    let r = given_somewhere before between [] [] (caller_place before.callers) there gives in
    given_at_caller before after (slot ∷ []) outs r.0 (slot_given before between after outs out found slot r.0 some same first r.1 set)

module _ (w : List Slot) (saved : List Saved) (cs : List Kept) (base size h : ℕ) (s : Saved) (f : Fine w saved cs base size h) (l : 0 < h) (e : slice_get saved (h - 1) ≡ Some s) where
  pub return_callers : callers_of w saved h ≡ record { place = s.place; slots = frame_of w s.base s.size } ∷ callers_of w saved s.parent
  return_callers = let n : h ≡ suc (h - 1) = omega (arith, l) in ap (λ x. callers_of w saved x) n ∙ callers_are w saved cs base size h (h - 1) s f e

  pub parent_inside : s.parent ≤ length saved
  parent_inside = let a = f.stack in let b = f.parents (h - 1) s e in omega (arith, a, b, l)

  pub source_inside : (w' : List Slot) → Grows w w' → s.base + s.size ≤ length w'
  source_inside w' g = let a = f.within in let b = f.tops (h - 1) s e in omega (arith, a, b, grown_length w w' saved cs base size h f g)

  -- the caller's frame with the outputs
  module _ (own outs : List ℕ) where
    abbrev filled : List Slot
    filled = delivered outs (carried own (frame_of w base size)) (frame_of w s.base s.size)

    -- in place: no choice point was made since the call
    module _ (w' : List Slot) (b : Built w w' s.base s.size filled) (free : kept_saved (newest cs) < h) (saved' : List Saved) (es : saved' ≡ take (h - 1) saved) where
      late : (i : ℕ) (k : Kept) → slice_get cs i ≡ Some k → k.saved ≤ h - 1
      late i k q =
          let r = bounded w saved cs base size h f 0 (omega arith) i k q in
          let a = ap kept_saved (sym r.1) in let c = r.3 in omega (arith, a, c, free)

      inside : h - 1 ≤ length saved
      inside = let a = f.stack in omega (arith, a)

      ordered : (i : ℕ) (t : Saved) → i < h - 1 → slice_get saved i ≡ Some t → t.base + t.size ≤ s.base
      ordered i t o q = f.ordered i (h - 1) t s o q e

      kept : (i : ℕ) (k : Kept) → slice_get cs i ≡ Some k → (k.base + k.size ≤ s.base) × (k.saved ≤ h - 1)
      kept i k q = ((f.kept i k q).above (h - 1) s (late i k q) e, late i k q)

      pub place_fine : Fine w' saved' cs s.base s.size s.parent
      place_fine = subst (λ x. Fine w' x cs s.base s.size s.parent) (sym es)
          (moved_fine w w' saved cs base size h f s.base s.size s.parent (h - 1) inside (f.parents (h - 1) s e) b.below ordered kept b.room)

      pub place_kept : (MayHold : ℕ → Slot → Type 0) (cells : ℕ) → AreKept MayHold cells w (tops_of cs) → AreKept MayHold cells w' (tops_of cs)
      place_kept MayHold cells held = kept_below MayHold s.base w w' cs (λ i k q. (kept i k q).0) b.below cells held

      pub place_gives : GivesBack (view_of w saved cs base size h) (view_of w' saved' cs s.base s.size s.parent) own outs (Some s.place)
      place_gives = given_back (view_of w saved cs base size h) (view_of w' saved' cs s.base s.size s.parent) own outs s.place (frame_of w s.base s.size) (callers_of w saved s.parent) return_callers
          (ap (λ x. view_of w' x cs s.base s.size s.parent) es
          ∙ moved_view w w' saved cs base size h f s.base s.size s.parent (h - 1) inside (f.parents (h - 1) s e) b.below ordered kept filled b.frame)

    -- in a copy
    module _ (w' : List Slot) (saved' : List Saved) (low count : ℕ) (b : Built w w' low s.size filled) (ec : count ≡ counted (newest cs) s.parent)
        (el : lowered (newest cs) (caller_top saved s.parent) ≤ low) (es : saved' ≡ take count saved) where
      pub copy_fine : Fine w' saved' cs low s.size s.parent
      copy_fine = settled_fine w w' saved saved' cs base size h f low s.size s.parent count parent_inside ec el es b.below b.room

      pub copy_kept : (MayHold : ℕ → Slot → Type 0) (cells : ℕ) → AreKept MayHold cells w (tops_of cs) → AreKept MayHold cells w' (tops_of cs)
      copy_kept = settled_kept w w' saved saved' cs base size h f low s.size s.parent count parent_inside ec el es b.below

      pub copy_gives : GivesBack (view_of w saved cs base size h) (view_of w' saved' cs low s.size s.parent) own outs (Some s.place)
      copy_gives = given_back (view_of w saved cs base size h) (view_of w' saved' cs low s.size s.parent) own outs s.place (frame_of w s.base s.size) (callers_of w saved s.parent) return_callers
          (settled_view w w' saved saved' cs base size h f low s.size s.parent count parent_inside ec el es b.below filled b.frame)
