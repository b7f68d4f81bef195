-- What holds of each slot of a list, and of an empty one, holds of each slot where frames in it are written from others.
use Rattle.std.proofs.Common.{◌≡◌, ℕ, zero, suc, ◌+◌, Bool, true, false, if◌then◌else◌, List, [], ◌∷◌, take, drop, replicate, slice_get, sym, ◌∙◌, subst, take-append-drop}
use Rattle.std.specs.List.{All}
use Rattle.std.proofs.lemmas.List.{drop-drop}
use Rattle.std.proofs.lemmas.List.Elements.{All-nil, All-cons, All-head, All-tail, All-set, All-take, All-drop, All-append, All-replicate}
use Rattle.merc_frames.specs.declared.passing.Pass.{Pass}
use Rattle.merc_frames.specs.declared.slot.Slot.{Slot}
use Rattle.merc_frames.specs.declared.slot.Slot.TheVariants.{Empty}
use Rattle.merc_frames.specs.Handing.{carried, delivered, empty_frame, passed, slot_or_empty}
use Rattle.merc_frames.specs.View.{frame_of, Grows}

module _ (P : Slot → Type 0) where
  pub frame_each : (w : List Slot) (base size : ℕ) → All P w → All P (frame_of w base size)
  frame_each w base size each = All-take P size (drop base w) (All-drop P base w each)

  -- a list where only a frame was written
  pub written_each : (w w' : List Slot) (base size : ℕ) → All P w → take base w ≡ take base w' → drop (base + size) w ≡ drop (base + size) w' → All P (frame_of w' base size) → All P w'
  written_each w w' base size each below above frame =
      let behind : drop (base + size) w ≡ drop size (drop base w') = above ∙ sym (drop-drop size base w') in
      let rest = subst (All P) (take-append-drop size (drop base w')) (All-append P (frame_of w' base size) (drop size (drop base w')) frame (subst (All P) behind (All-drop P (base + size) w each))) in
      subst (All P) (take-append-drop base w') (All-append P (take base w') (drop base w') (subst (All P) below (All-take P base w each)) rest)

  module _ (none : P Empty) where
    pub grown_each : (w w' : List Slot) → Grows w w' → All P w → All P w'
    grown_each w w' grows each = subst (All P) (sym grows.whole) (All-append P w (replicate grows.count Empty) each (All-replicate P grows.count Empty none))

    at_each : (slots : List Slot) (number : ℕ) → All P slots → P (slot_or_empty (slice_get slots number))
    at_each [] number each = none
    at_each (slot ∷ slots) zero each = All-head P slot slots each
    at_each (slot ∷ slots) (suc number) each = at_each slots number (All-tail P slot slots each)

    pub passed_each : (inputs : List Pass) (from to : List Slot) → All P from → All P to → All P (passed inputs from to)
    passed_each [] from to each others = others
    passed_each (pass ∷ inputs) from to each others =
        passed_each inputs from _ each (All-set P to pass.to (slot_or_empty (slice_get from pass.from)) (at_each from pass.from each) others)

    pub left_each : (emptied : Bool) (size : ℕ) (slots : List Slot) → All P slots → All P (if emptied then empty_frame size else slots)
    left_each true size slots each = All-replicate P size Empty none
    left_each false size slots each = each

    carried_each : (variables : List ℕ) (slots : List Slot) → All P slots → All P (carried variables slots)
    carried_each [] slots each = All-nil P
    carried_each (variable ∷ variables) slots each =
        All-cons P (slot_or_empty (slice_get slots variable)) (carried variables slots) (at_each slots variable each) (carried_each variables slots each)

    delivered_each : (variables : List ℕ) (slots to : List Slot) → All P slots → All P to → All P (delivered variables slots to)
    delivered_each [] slots to each others = others
    delivered_each (variable ∷ variables) [] to each others = others
    delivered_each (variable ∷ variables) (slot ∷ slots) to each others =
        delivered_each variables slots _ (All-tail P slot slots each) (All-set P to variable slot (All-head P slot slots each) others)

    pub given_each : (own outs : List ℕ) (from to : List Slot) → All P from → All P to → All P (delivered outs (carried own from) to)
    given_each own outs from to each others = delivered_each outs (carried own from) to (carried_each own from each) others
