-- A frame is made, and what goes from the current one is put into it.
use Rattle.std.proofs.Common.{◌≡◌, ℕ, ◌+◌, ◌≤◌, Bool, if◌then◌else◌, List, ◌++◌, length, take, drop, sym, ap, ◌∙◌, subst, arith}
use Rattle.std.specs.List.{All}
use Rattle.merc_frames.specs.declared.passing.Pass.{Pass}
use Rattle.merc_frames.specs.declared.slot.Slot.{Slot}
use Rattle.merc_frames.specs.declared.slot.Slot.TheVariants.{Empty}
use Rattle.merc_frames.specs.Handing.{carried, delivered, empty_frame, passed}
use Rattle.merc_frames.specs.View.{frame_of, Fine, Grows}
use Rattle.merc_frames.specs.declared.kept.Saved.{Saved}
use Rattle.merc_frames.specs.declared.kept.Kept.{Kept}
use Rattle.merc_frames.proofs.AllLaws.{frame_each, given_each, left_each, passed_each, written_each}
use Rattle.merc_frames.proofs.Moving.{emptied_same, grown_same}
use Rattle.merc_frames.proofs.Lists.{take_less}
use Rattle.merc_frames.proofs.Stays.{frame_same}
use Rattle.std.proofs.Math.Seq.{take-append_seam}

-- a frame of so many slots lies there, which hold these, and what lies below it is as it was
pub record Built (w w' : List Slot) (base size : ℕ) (slots : List Slot) : Type 0 where
  pub below : take base w ≡ take base w'
  pub room : base + size ≤ length w'
  pub frame : frame_of w' base size ≡ slots

-- a list with other slots, as many
pub written_back : (w v : List Slot) (n : ℕ) → length v ≡ length w → n ≡ length w → take n (v ++ drop (length v) w) ≡ v
written_back w v n long en = ap (λ x. take x (v ++ drop (length v) w)) (en ∙ sym long) ∙ take-append_seam v (drop (length v) w)

-- from what the code found: more slots were put behind all, and then the new frame was written into this list
module _ (w w1 : List Slot) (saved : List Saved) (cs : List Kept) (base size h : ℕ) (f : Fine w saved cs base size h) (g : Grows w w1) (to size' : ℕ) (under : to ≤ base + size) where
  made_same : (w2 : List Slot) → take to w1 ≡ take to w2 → take to w ≡ take to w2
  made_same w2 e = emptied_same w w1 saved cs base size h f g w2 to under e

  own_same : frame_of w1 base size ≡ frame_of w base size
  own_same = sym (frame_same (base + size) w w1 base size (grown_same w w1 saved cs base size h f g (base + size) f.within) (omega arith))

  pub built_passed : (d v : List Slot) (n : ℕ) (inputs : List Pass) (left : List Slot) → d ≡ w1 → length v ≡ length d → n ≡ length w1 → to + size' ≤ length w1 → take to d ≡ take to v
      → frame_of v to size' ≡ passed inputs (frame_of d base size) left
      → Built w (take n (v ++ drop (length v) w1)) to size' (passed inputs (frame_of w base size) left)
  built_passed d v n inputs left is long en room below e =
      let r : Built w v to size' (passed inputs (frame_of w base size) left) = record {
        below = made_same v (ap (take to) (sym is) ∙ below);
        room = let a = ap length is in omega (arith, room, long, a);
        frame = e ∙ ap (λ x. passed inputs x left) (ap (λ x. frame_of x base size) is ∙ own_same);
      } in
      subst (λ x. Built w x to size' (passed inputs (frame_of w base size) left)) (sym (written_back w1 v n (long ∙ ap length is) en)) r

  -- a copy of a frame below, which may lie over the current one
  pub built_copied : (w2 : List Slot) (b : ℕ) → b + size' ≤ base → length w2 ≡ length w1 → to + size' ≤ length w1 → take to w1 ≡ take to w2 → frame_of w2 to size' ≡ frame_of w1 b size'
      → Built w w2 to size' (frame_of w b size')
  built_copied w2 b lower long room below copied = record {
    below = made_same w2 below;
    room = omega (arith, room, long);
    frame = copied ∙ sym (frame_same base w w1 b size' (let a = f.within in grown_same w w1 saved cs base size h f g base (omega (arith, a))) lower);
  }

  -- a copy of a frame below, at the end of the current one
  pub built_delivered : (w2 d v : List Slot) (n : ℕ) (own outs : List ℕ) (b : ℕ) → base + size ≤ to → b + size' ≤ base → length w2 ≡ length w1 → take to w1 ≡ take to w2 → frame_of w2 to size' ≡ frame_of w1 b size'
      → d ≡ w2 → length v ≡ length d → n ≡ length w2 → to + size' ≤ length w1 → take to d ≡ take to v
      → frame_of v to size' ≡ delivered outs (carried own (frame_of d base size)) (frame_of d to size')
      → Built w (take n (v ++ drop (length v) w2)) to size' (delivered outs (carried own (frame_of w base size)) (frame_of w b size'))
  built_delivered w2 d v n own outs b over lower long below copied is long' en room below' e =
      let r : Built w v to size' (delivered outs (carried own (frame_of w base size)) (frame_of w b size')) = record {
        below = made_same v (below ∙ ap (take to) (sym is) ∙ below');
        room = let a = ap length is in omega (arith, room, long, long', a);
        frame = e ∙ ap (λ x. delivered outs (carried own x) (frame_of d to size'))
            (ap (λ x. frame_of x base size) is ∙ sym (frame_same to w1 w2 base size below over) ∙ own_same)
            ∙ ap (delivered outs (carried own (frame_of w base size)))
            (ap (λ x. frame_of x to size') is ∙ copied
            ∙ sym (frame_same base w w1 b size' (let a = f.within in grown_same w w1 saved cs base size h f g base (omega (arith, a))) lower));
      } in
      subst (λ x. Built w x to size' (delivered outs (carried own (frame_of w base size)) (frame_of w b size'))) (sym (written_back w2 v n (long' ∙ ap length is) en)) r

-- in place
pub built_here : (w d v : List Slot) (base size b size' n : ℕ) (own outs : List ℕ) → d ≡ w → length v ≡ length d → n ≡ length w → b + size' ≤ length w → take b d ≡ take b v
    → frame_of v b size' ≡ delivered outs (carried own (frame_of d base size)) (frame_of d b size')
    → Built w (take n (v ++ drop (length v) w)) b size' (delivered outs (carried own (frame_of w base size)) (frame_of w b size'))
built_here w d v base size b size' n own outs is long en room below e =
    let r : Built w v b size' (delivered outs (carried own (frame_of w base size)) (frame_of w b size')) = record {
      below = ap (take b) (sym is) ∙ below;
      room = let a = ap length is in omega (arith, room, long, a);
      frame = e ∙ ap (λ x. delivered outs (carried own (frame_of x base size)) (frame_of x b size')) is;
    } in
    subst (λ x. Built w x b size' (delivered outs (carried own (frame_of w base size)) (frame_of w b size'))) (sym (written_back w v n (long ∙ ap length is) en)) r

-- in place of the current frame, which has what is passed over what it held
pub built_within : (w d v : List Slot) (base size n : ℕ) (inputs : List Pass) → d ≡ w → length v ≡ length d → n ≡ length w → base + size ≤ length w → take base d ≡ take base v
    → frame_of v base size ≡ passed inputs (frame_of d base size) (frame_of d base size)
    → Built w (take n (v ++ drop (length v) w)) base size (passed inputs (frame_of w base size) (frame_of w base size))
built_within w d v base size n inputs is long en room below e =
    let r : Built w v base size (passed inputs (frame_of w base size) (frame_of w base size)) = record {
      below = ap (take base) (sym is) ∙ below;
      room = let a = ap length is in omega (arith, room, long, a);
      frame = e ∙ ap (λ x. passed inputs (frame_of x base size) (frame_of x base size)) is;
    } in
    subst (λ x. Built w x base size (passed inputs (frame_of w base size) (frame_of w base size))) (sym (written_back w v n (long ∙ ap length is) en)) r

-- moved
pub built_moved : (w v u : List Slot) (base size low : ℕ) (slots : List Slot) → Built w v base size slots → low ≤ base → length u ≡ length v → take low v ≡ take low u → frame_of u low size ≡ frame_of v base size
    → Built w u low size slots
built_moved w v u base size low slots b under long below e = record {
  below = sym (take_less base low w under) ∙ ap (take low) b.below ∙ take_less base low v under ∙ below;
  room = let a = b.room in omega (arith, a, under, long);
  frame = e ∙ b.frame;
}

-- what holds of each slot holds of each behind that
module _ (P : Slot → Type 0) where
  pub copied_each : (w w' : List Slot) (from to size : ℕ) → All P w → take to w ≡ take to w' → drop (to + size) w ≡ drop (to + size) w' → frame_of w' to size ≡ frame_of w from size → All P w'
  copied_each w w' from to size each below above copied = written_each P w w' to size each below above (subst (All P) (sym copied) (frame_each P w from size each))

  module _ (none : P Empty) where
    pub built_passed_each : (w d v : List Slot) (base size to size' n : ℕ) (inputs : List Pass) (emptied : Bool) → All P w → d ≡ w → length v ≡ length d → n ≡ length w → take to d ≡ take to v
        → drop (to + size') d ≡ drop (to + size') v → frame_of v to size' ≡ passed inputs (frame_of d base size) (if emptied then empty_frame size' else frame_of d to size')
        → All P (take n (v ++ drop (length v) w))
    built_passed_each w d v base size to size' n inputs emptied each is long en below above e =
        let here = subst (All P) (sym is) each in
        let left = left_each P none emptied size' (frame_of d to size') (frame_each P d to size' here) in
        let frame = subst (All P) (sym e) (passed_each P none inputs (frame_of d base size) (if emptied then empty_frame size' else frame_of d to size') (frame_each P d base size here) left) in
        subst (All P) (sym (written_back w v n (long ∙ ap length is) en)) (written_each P d v to size' here below above frame)

    pub built_given_each : (w d v : List Slot) (base size to size' n : ℕ) (own outs : List ℕ) → All P w → d ≡ w → length v ≡ length d → n ≡ length w → take to d ≡ take to v
        → drop (to + size') d ≡ drop (to + size') v → frame_of v to size' ≡ delivered outs (carried own (frame_of d base size)) (frame_of d to size')
        → All P (take n (v ++ drop (length v) w))
    built_given_each w d v base size to size' n own outs each is long en below above e =
        let here = subst (All P) (sym is) each in
        let frame = subst (All P) (sym e) (given_each P none own outs (frame_of d base size) (frame_of d to size') (frame_each P d base size here) (frame_each P d to size' here)) in
        subst (All P) (sym (written_back w v n (long ∙ ap length is) en)) (written_each P d v to size' here below above frame)
