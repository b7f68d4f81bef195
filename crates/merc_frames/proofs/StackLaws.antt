-- What all slots hold, those of each frame hold.
use Rattle.std.proofs.Common.{◌≡◌, ℕ, zero, suc, ◌+◌, Bool, true, false, if◌then◌else◌, List, [], ◌∷◌, ◌++◌, take, map, reverse, Option, Some, None, slice_get, refl, sym, ap, ◌∙◌, subst, append_assoc, append-nil, arith}
use Rattle.std.specs.List.{All, cons_option}
use Rattle.std.proofs.lemmas.List.{reverse-append}
use Rattle.std.proofs.lemmas.List.Elements.{All-nil, All-cons}
use Rattle.merc_frames.specs.declared.slot.Slot.{Slot}
use Rattle.merc_frames.specs.Held.{AreChoicesHeld, AreFramesHeld, AreKept, AreStacksHeld, Top}
use Rattle.merc_frames.specs.Stacks.{Caller, ChoicePoint, Dead, GoesOn}
use Rattle.merc_frames.specs.View.{frame_of, linked, chain, callers_of, seen, view_of, kept_top, Fine}
use Rattle.merc_frames.specs.declared.kept.Saved.{Saved}
use Rattle.merc_frames.specs.declared.kept.Kept.{Kept}
use Rattle.merc_frames.proofs.AllLaws.{frame_each}
use Rattle.merc_frames.proofs.HeldLaws.{Holding}
use Rattle.merc_frames.proofs.Lists.{take_less}
use Rattle.merc_frames.proofs.Stays.{Stays, frame_same, callers_same}
use Rattle.merc_frames.proofs.TopLaws.{onto, tops_onto}

-- what holds of each slot holds of those of callers
module _ (P : Slot → Type 0) (w : List Slot) (each : All P w) (saved : List Saved) where
  linked_each : (o : Option Saved) (rest : ℕ → List Caller) → ((p : ℕ) → All (λ (caller : Caller). All P caller.slots) (rest p)) → All (λ (caller : Caller). All P caller.slots) (linked w o rest)
  linked_each None rest others = All-nil (λ (caller : Caller). All P caller.slots)
  linked_each (Some s) rest others =
      All-cons (λ (caller : Caller). All P caller.slots) (record { place = s.place; slots = frame_of w s.base s.size }) (rest s.parent) (frame_each P w s.base s.size each) (others s.parent)

  chain_each : (fuel h : ℕ) → All (λ (caller : Caller). All P caller.slots) (chain fuel w saved h)
  chain_each zero h = All-nil (λ (caller : Caller). All P caller.slots)
  chain_each (suc fuel) zero = All-nil (λ (caller : Caller). All P caller.slots)
  chain_each (suc fuel) (suc h) = linked_each (slice_get saved h) (λ p. chain fuel w saved p) (λ p. chain_each fuel p)

  pub callers_each : (h : ℕ) → All (λ (caller : Caller). All P caller.slots) (callers_of w saved h)
  callers_each h = chain_each h h

module _ (MayHold : ℕ → Slot → Type 0) (w : List Slot) (saved : List Saved) (cs : List Kept) (base size h : ℕ) (f : Fine w saved cs base size h) where
  -- what its frame and its callers hold, where all below its end may be held over its mark
  abbrev Holds : Kept → Type 0
  Holds k = All (MayHold k.heap) (take (k.base + k.size) w) → AreFramesHeld MayHold k.heap (frame_of w k.base k.size) (callers_of w saved k.height)

  kept_holds : (i : ℕ) (k : Kept) → slice_get cs i ≡ Some k → Holds k
  kept_holds i k e =
      let end = k.base + k.size in
      let below = take end w in
      let g = f.kept i k e in
      let same = take_less end end w (omega arith) in
      let stays : Stays end k.saved below w saved saved = record {
        slots_same = same;
        get_same = λ j l. refl;
        tops = λ j s l q. (let t = g.below j s l q in omega (arith, t));
        parents = f.parents;
      } in
      λ each. record {
        newest = subst (All (MayHold k.heap)) (frame_same end below w k.base k.size same (omega arith)) (frame_each (MayHold k.heap) below k.base k.size each);
        others = subst (All (λ (caller : Caller). All (MayHold k.heap) caller.slots)) (callers_same k.height end k.saved below w saved saved stays g.height) (callers_each (MayHold k.heap) below each saved k.height);
      }

  -- choice points one by one put in front of others, as their tops are
  abbrev seen_onto : List Kept → List ChoicePoint → List ChoicePoint
  seen_onto [] choices = choices
  seen_onto (k ∷ ks) choices = seen_onto ks (seen w saved k ∷ choices)

  seen_onto_is : (ks : List Kept) (choices : List ChoicePoint) → seen_onto ks choices ≡ reverse (map (λ k. seen w saved k) ks) ++ choices
  seen_onto_is [] choices = refl
  seen_onto_is (k ∷ ks) choices =
      seen_onto_is ks (seen w saved k ∷ choices)
      ∙ sym (append_assoc (reverse (map (λ m. seen w saved m) ks)) (seen w saved k ∷ []) choices)
      ∙ ap (λ x. x ++ choices) (sym (reverse-append (seen w saved k ∷ []) (map (λ m. seen w saved m) ks)))

  abbrev Follow : List Top → List ChoicePoint → Type 0
  Follow tops choices = (cells : ℕ) → AreKept MayHold cells w tops → AreChoicesHeld MayHold cells choices

  one_follows : (live : Bool) (place heap end : ℕ) (slots : List Slot) (callers : List Caller) → (All (MayHold heap) (take end w) → AreFramesHeld MayHold heap slots callers) → (tops : List Top) (choices : List ChoicePoint)
      → Follow tops choices → Follow (cons_option (if live then Some (record { heap = heap; end = end }) else None) tops) ((if live then GoesOn place heap slots callers else Dead) ∷ choices)
  one_follows true place heap end slots callers holds tops choices follow = λ cells kept. (kept.0, holds kept.1, follow heap kept.2)
  one_follows false place heap end slots callers holds tops choices follow = follow

  all_follow : (ks : List Kept) → ((i : ℕ) (k : Kept) → slice_get ks i ≡ Some k → Holds k) → (tops : List Top) (choices : List ChoicePoint) → Follow tops choices → Follow (onto ks tops) (seen_onto ks choices)
  all_follow [] holds tops choices follow = follow
  all_follow (k ∷ ks) holds tops choices follow = all_follow ks (λ i m e. holds (suc i) m e) (cons_option (kept_top k) tops) (seen w saved k ∷ choices)
      (one_follows k.live k.place k.heap (k.base + k.size) (frame_of w k.base k.size) (callers_of w saved k.height) (holds zero k refl) tops choices follow)

  pub stacks_held : (cells : ℕ) → Holding MayHold cells w cs → AreStacksHeld MayHold cells (view_of w saved cs base size h)
  stacks_held cells held = record {
    frames = record { newest = frame_each (MayHold cells) w base size held.0; others = callers_each (MayHold cells) w held.0 saved h };
    choices = subst (AreChoicesHeld MayHold cells) (seen_onto_is cs [] ∙ append-nil (reverse (map (λ k. seen w saved k) cs)))
        (all_follow cs kept_holds [] [] (λ n kept. tt) cells (subst (AreKept MayHold cells w) (tops_onto cs) held.1));
  }
