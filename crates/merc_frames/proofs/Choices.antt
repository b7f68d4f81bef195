-- Choice points: made, gone back to, taken away, and only failing.
use Rattle.std.proofs.Common.{◌≡◌, inl, inr, ℕ, ◌+◌, ◌<◌, ◌≤◌, Bool, true, false, if◌then◌else◌, nat_lt, List, [], ◌∷◌, ◌++◌, length, take, map, reverse, Some, None, slice_get, slice_set, slice_index_or, refl, sym, ap, ◌∙◌, subst, arith}
use Rattle.std.specs.List.{All, cons_option}
use Rattle.merc_frames.specs.declared.slot.Slot.{Slot}
use Rattle.merc_frames.specs.Held.{AreKept}
use Rattle.merc_frames.specs.Stacks.{Dead, GoesOn, Stacks}
use Rattle.merc_frames.specs.View.{frame_of, callers_of, seen, view_of, kept_top, tops_of, Fine, FineChoice}
use Rattle.merc_frames.specs.declared.kept.Saved.{Saved}
use Rattle.merc_frames.specs.declared.kept.Kept.{Kept}
use Rattle.merc_frames.proofs.HeldLaws.{Holding, kept_below, kept_without}
use Rattle.merc_frames.proofs.Lists.{get_take_in, get_left, get_seam, get_more, get_within, take_less}
use Rattle.merc_frames.proofs.Stays.{Stays, frame_same, callers_same, all_seen}
use Rattle.merc_frames.specs.Stacks.{oldest, softened}
use Rattle.merc_frames.proofs.Reversed.{reversed_take, softened_reverse, reversed_last}
use Rattle.merc_frames.proofs.Lists.{get_set}
use Rattle.merc_frames.proofs.Moving.{stacks_at, below_base, moved_fine, moved_view}
use Rattle.merc_frames.proofs.TopLaws.{tops_last}
use Rattle.std.proofs.lemmas.Bool.{ltb-false}
use Rattle.std.proofs.lemmas.List.{length-take-le, map-set, take-map, set_past, length-map, take_all}
use Rattle.std.proofs.lemmas.List.Elements.{All-take}
use Rattle.std.proofs.lemmas.Option.{slice_get_read}

-- a choice point keeps the current frame, which goes on in a copy at its end
module _ (w w' : List Slot) (saved : List Saved) (cs : List Kept) (base size h : ℕ) (k : Kept) (f : Fine w saved cs base size h)
    (b : k.base ≡ base) (z : k.size ≡ size) (eh : k.height ≡ h) (es : k.saved ≡ length saved) (same : take (base + size) w ≡ take (base + size) w') where
  kept_attempt : (i : ℕ) (m : Kept) → slice_get (cs ++ k ∷ []) i ≡ Some m → FineChoice saved (base + size) m
  kept_attempt i m e = elim (get_more i cs k m e) as (λ _. FineChoice saved (base + size) m) [
    | inl q ↦ (let g = f.kept i m q in let t = g.top in record { height = g.height; count = g.count; top = omega (arith, t); below = g.below; above = g.above })
    | inr q ↦ subst (λ x. FineChoice saved (base + size) x) (sym q.1)
        (let a = f.stack in record {
          height = omega (arith, a, eh, es);
          count = omega (arith, es);
          top = omega (arith, b, z);
          below = λ j s l g. (let v = f.tops j s g in omega (arith, v, b));
          above = λ j s l g. absurd (let v = get_within j saved s g in omega (arith, v, l, es));
        })
  ]

  rising_attempt : (i j : ℕ) (x y : Kept) → i < j → slice_get (cs ++ k ∷ []) i ≡ Some x → slice_get (cs ++ k ∷ []) j ≡ Some y → (x.base + x.size ≤ y.base) × (x.saved ≤ y.saved)
  rising_attempt i j x y l e g = elim (get_more i cs k x e) as (λ _. (x.base + x.size ≤ y.base) × (x.saved ≤ y.saved)) [
    | inl q ↦ elim (get_more j cs k y g) as (λ _. (x.base + x.size ≤ y.base) × (x.saved ≤ y.saved)) [
      | inl r ↦ f.rising i j x y l q r
      | inr r ↦ subst (λ v. (x.base + x.size ≤ v.base) × (x.saved ≤ v.saved)) (sym r.1)
          (let u = f.kept i x q in let a = u.top in let c = u.count in (omega (arith, a, b), omega (arith, c, es)))
    ]
    | inr q ↦ elim (get_more j cs k y g) as (λ _. (x.base + x.size ≤ y.base) × (x.saved ≤ y.saved)) [
      | inl r ↦ absurd (let a = get_within j cs y r in let c = q.0 in omega (arith, a, c, l))
      | inr r ↦ absurd (let a = q.0 in let c = r.0 in omega (arith, a, c, l))
    ]
  ]

  pub attempt_fine : (cs' : List Kept) (base' : ℕ) → cs' ≡ cs ++ k ∷ [] → base' ≡ base + size → base' + size ≤ length w' → Fine w' saved cs' base' size h
  attempt_fine cs' base' ec eb room =
      let r : Fine w' saved (cs ++ k ∷ []) (base + size) size h = record {
        within = omega (arith, eb, room);
        stack = f.stack;
        parents = f.parents;
        tops = λ i s e. (let a = f.tops i s e in omega (arith, a));
        ordered = f.ordered;
        kept = kept_attempt;
        rising = rising_attempt;
      } in
      subst (λ x. Fine w' saved x base' size h) (sym ec) (subst (λ x. Fine w' saved (cs ++ k ∷ []) x size h) (sym eb) r)

  stays_attempt : Stays (base + size) (length saved) w w' saved saved
  stays_attempt = record { slots_same = same; get_same = λ i l. refl; tops = λ i s l e. (let a = f.tops i s e in omega (arith, a)); parents = f.parents }

  seen_attempt : k.live ≡ true → seen w' saved k ≡ GoesOn k.place k.heap (frame_of w base size) (callers_of w saved h)
  seen_attempt live =
      ap (λ x. if x then GoesOn k.place k.heap (frame_of w' k.base k.size) (callers_of w' saved k.height) else Dead) live
      ∙ ap (λ x. GoesOn k.place k.heap x (callers_of w' saved k.height))
      (ap (λ x. frame_of w' x k.size) b ∙ ap (λ x. frame_of w' base x) z ∙ sym (frame_same (base + size) w w' base size same (omega arith)))
      ∙ ap (λ x. GoesOn k.place k.heap (frame_of w base size) x)
      (ap (λ x. callers_of w' saved x) eh ∙ sym (callers_same h (base + size) (length saved) w w' saved saved stays_attempt f.stack))

  choices_attempt : k.live ≡ true
      → reverse (map (λ m. seen w' saved m) (cs ++ k ∷ [])) ≡ GoesOn k.place k.heap (frame_of w base size) (callers_of w saved h) ∷ reverse (map (λ m. seen w saved m) cs)
  choices_attempt live =
      reversed_last (λ m. seen w' saved m) cs k
      ∙ ap (λ x. x ∷ reverse (map (λ m. seen w' saved m) cs)) (seen_attempt live)
      ∙ ap (λ x. GoesOn k.place k.heap (frame_of w base size) (callers_of w saved h) ∷ reverse x)
      (sym (all_seen cs (base + size) (length saved) w w' saved saved stays_attempt
      (λ i m e. (let d = below_base w saved cs base size h f i m e in let d0 = d.0 in (omega (arith, d0), d.1)))))

  pub attempt_view : k.live ≡ true → (cs' : List Kept) (base' : ℕ) → cs' ≡ cs ++ k ∷ [] → base' ≡ base + size → frame_of w' base' size ≡ frame_of w base size
      → view_of w' saved cs' base' size h ≡ (let r : Stacks = record { current = frame_of w base size; callers = callers_of w saved h; choices = GoesOn k.place k.heap (frame_of w base size) (callers_of w saved h) ∷ reverse (map (λ m. seen w saved m) cs) } in r)
  attempt_view live cs' base' ec eb copied = stacks_at _ _ _ _ _ _ copied
      (sym (callers_same h (base + size) (length saved) w w' saved saved stays_attempt f.stack))
      (ap (λ x. reverse (map (λ m. seen w' saved m) x)) ec ∙ choices_attempt live)

  pub attempt_held : (MayHold : ℕ → Slot → Type 0) (heap : ℕ) (cs' : List Kept) → cs' ≡ cs ++ k ∷ [] → kept_top k ≡ Some (record { heap = heap; end = base + size }) → All (MayHold heap) w'
      → AreKept MayHold heap w (tops_of cs) → Holding MayHold heap w' cs'
  attempt_held MayHold heap cs' ec top each kept =
      let under = kept_below MayHold (base + size) w w' cs (λ i m e. (let t = (f.kept i m e).top in omega (arith, t))) same heap kept in
      let tops : tops_of cs' ≡ record { heap = heap; end = base + size } ∷ tops_of cs = ap tops_of ec ∙ tops_last cs k ∙ ap (λ o. cons_option o (tops_of cs)) top in
      (each, subst (AreKept MayHold heap w') (sym tops) (omega arith, All-take (MayHold heap) (base + size) w' each, under))

-- fewer choice points
pub fewer_fine : (w : List Slot) (saved : List Saved) (cs cs' : List Kept) (base size h : ℕ) → Fine w saved cs base size h
    → ((i : ℕ) (k : Kept) → slice_get cs' i ≡ Some k → slice_get cs i ≡ Some k) → Fine w saved cs' base size h
fewer_fine w saved cs cs' base size h f g =
    record { within = f.within; stack = f.stack; parents = f.parents; tops = f.tops; ordered = f.ordered; kept = λ i k e. f.kept i k (g i k e); rising = λ i j k m l e q. f.rising i j k m l (g i k e) (g j m q) }

pub commit_fine : (w : List Slot) (saved : List Saved) (cs : List Kept) (base size h count : ℕ) → Fine w saved cs base size h → Fine w saved (take count cs) base size h
commit_fine w saved cs base size h count f = fewer_fine w saved cs (take count cs) base size h f (λ i k e. (get_take_in count i cs k e).1)

pub commit_view : (w : List Slot) (saved : List Saved) (cs : List Kept) (base size h count : ℕ)
    → view_of w saved (take count cs) base size h ≡ (let r : Stacks = record { current = frame_of w base size; callers = callers_of w saved h; choices = oldest count (reverse (map (λ k. seen w saved k) cs)) } in r)
commit_view w saved cs base size h count = stacks_at _ _ _ _ _ _ refl refl
    (ap reverse (sym (take-map (λ k. seen w saved k) count cs)) ∙ sym (reversed_take count (map (λ k. seen w saved k) cs)))

pub commit_none : (w : List Slot) (saved : List Saved) (cs : List Kept) (base size h count : ℕ) → length cs ≤ count
    → view_of w saved cs base size h ≡ (let r : Stacks = record { current = frame_of w base size; callers = callers_of w saved h; choices = oldest count (reverse (map (λ k. seen w saved k) cs)) } in r)
commit_none w saved cs base size h count l = ap (λ x. view_of w saved x base size h) (sym (take_all count cs l)) ∙ commit_view w saved cs base size h count

-- a list that is cut at a place, or is as it was
cut_same : (cut : Bool) (end low : ℕ) (w : List Slot) → low ≤ end → take low w ≡ take low (if cut then take end w else w)
cut_same true end low w l = sym (take_less end low w l)
cut_same false end low w l = refl

cut_room : (cut : Bool) (end : ℕ) (w : List Slot) → end ≤ length w → end ≤ length (if cut then take end w else w)
cut_room true end w l = omega (arith, length-take-le end w l)
cut_room false end w l = l

-- where it is cut if there are more cells than a mark keeps
held_cut : (MayHold : ℕ → Slot → Type 0) (heap cells end : ℕ) (w : List Slot) (cut : Bool) → nat_lt heap cells ≡ cut → heap ≤ cells → All (MayHold cells) w → All (MayHold heap) (take end w)
    → All (MayHold heap) (if cut then take end w else w)
held_cut MayHold heap cells end w true more under all kept = kept
held_cut MayHold heap cells end w false same under all kept =
    let same_count : cells ≡ heap = (let over = ltb-false heap cells same in omega (arith, over, under)) in subst (λ n. All (MayHold n) w) same_count all

cut_held : (MayHold : ℕ → Slot → Type 0) (heap cells end : ℕ) (w : List Slot) → heap ≤ cells → All (MayHold cells) w → All (MayHold heap) (take end w) → All (MayHold heap) (if nat_lt heap cells then take end w else w)
cut_held MayHold heap cells end w under all kept = held_cut MayHold heap cells end w (nat_lt heap cells) refl under all kept

-- the newest choice point is taken away
module _ (w : List Slot) (saved : List Saved) (cs front : List Kept) (base size h : ℕ) (k : Kept) (f : Fine w saved cs base size h) (ec : cs ≡ front ++ k ∷ []) where
  at_end : slice_get cs (length front) ≡ Some k
  at_end = ap (λ x. slice_get x (length front)) ec ∙ get_seam front k

  last : FineChoice saved base k
  last = f.kept (length front) k at_end

  in_front : (i : ℕ) (m : Kept) → slice_get front i ≡ Some m → (slice_get cs i ≡ Some m) × (i < length front)
  in_front i m e = let l = get_within i front m e in (ap (λ x. slice_get x i) ec ∙ get_left i front (k ∷ []) l ∙ e, l)

  under : (i : ℕ) (m : Kept) → slice_get front i ≡ Some m → (m.base + m.size ≤ k.base) × (m.saved ≤ k.saved)
  under i m e = let r = in_front i m e in f.rising i (length front) m k r.1 r.0 at_end

  pub dead_fine : Fine w saved front base size h
  dead_fine = fewer_fine w saved cs front base size h f (λ i m e. (in_front i m e).0)

  pub end_inside : k.base + k.size ≤ length w
  end_inside = let a = f.within in let t = last.top in omega (arith, a, t)

  -- what lies above its frame is cut, or all is as it was
  module _ (cut : Bool) (w' : List Slot) (ew : w' ≡ (if cut then take (k.base + k.size) w else w)) where
    same_to : (low : ℕ) → low ≤ k.base + k.size → take low w ≡ take low w'
    same_to low l = cut_same cut (k.base + k.size) low w l ∙ ap (take low) (sym ew)

    room : k.base + k.size ≤ length w'
    room = subst (λ x. k.base + k.size ≤ length x) (sym ew) (cut_room cut (k.base + k.size) w end_inside)

    back_frame : frame_of w' k.base k.size ≡ frame_of w k.base k.size
    back_frame = sym (frame_same (k.base + k.size) w w' k.base k.size (same_to (k.base + k.size) (omega arith)) (omega arith))

    pub back_fine : (saved' : List Saved) → saved' ≡ take k.saved saved → Fine w' saved' front k.base k.size k.height
    back_fine saved' es = subst (λ x. Fine w' x front k.base k.size k.height) (sym es)
        (moved_fine w w' saved front base size h dead_fine k.base k.size k.height k.saved last.count last.height (same_to k.base (omega arith)) last.below under room)

    back_moved : view_of w' (take k.saved saved) front k.base k.size k.height
        ≡ (let r : Stacks = record { current = frame_of w k.base k.size; callers = callers_of w saved k.height; choices = reverse (map (λ m. seen w saved m) front) } in r)
    back_moved = moved_view w w' saved front base size h dead_fine k.base k.size k.height k.saved last.count last.height (same_to k.base (omega arith)) last.below under (frame_of w k.base k.size) back_frame

    pub back_choices : k.live ≡ true → (saved' : List Saved) → saved' ≡ take k.saved saved
        → reverse (map (λ m. seen w saved m) cs) ≡ GoesOn k.place k.heap (frame_of w' k.base k.size) (callers_of w' saved' k.height) ∷ reverse (map (λ m. seen w' saved' m) front)
    back_choices live saved' es =
        ap (λ x. reverse (map (λ m. seen w saved m) x)) ec
        ∙ reversed_last (λ m. seen w saved m) front k
        ∙ ap (λ x. (if x then GoesOn k.place k.heap (frame_of w k.base k.size) (callers_of w saved k.height) else Dead) ∷ reverse (map (λ m. seen w saved m) front)) live
        ∙ ap (λ (x : Stacks). GoesOn k.place k.heap x.current x.callers ∷ x.choices) (sym back_moved)
        ∙ ap (λ x. GoesOn k.place k.heap (frame_of w' k.base k.size) (callers_of w' x k.height) ∷ reverse (map (λ m. seen w' x m) front)) (sym es)

  tops_are : tops_of cs ≡ cons_option (kept_top k) (tops_of front)
  tops_are = ap tops_of ec ∙ tops_last front k

  pub dead_held : (MayHold : ℕ → Slot → Type 0) (cells : ℕ) → Holding MayHold cells w cs → Holding MayHold cells w front
  dead_held MayHold cells held = (held.0, kept_without MayHold cells w (kept_top k) (tops_of front) (subst (AreKept MayHold cells w) tops_are held.1))

  -- where the list is cut if there are more cells than the mark keeps
  pub back_held : (MayHold : ℕ → Slot → Type 0) (cells : ℕ) → k.live ≡ true → (w' : List Slot) → w' ≡ (if nat_lt k.heap cells then take (k.base + k.size) w else w) → Holding MayHold cells w cs → Holding MayHold k.heap w' front
  back_held MayHold cells live w' ew held =
      let top : kept_top k ≡ Some (record { heap = k.heap; end = k.base + k.size }) = ap (λ x. if x then Some (record { heap = k.heap; end = k.base + k.size }) else None) live in
      let kept = subst (AreKept MayHold cells w) (tops_are ∙ ap (λ o. cons_option o (tops_of front)) top) held.1 in (
        subst (All (MayHold k.heap)) (sym ew) (cut_held MayHold k.heap cells (k.base + k.size) w kept.0 held.0 kept.1),
        kept_below MayHold k.base w w' front (λ i m e. (under i m e).0) (same_to (nat_lt k.heap cells) w' ew k.base (omega arith)) k.heap kept.2,
      )

-- a choice point with the same numbers
record Alike (k m : Kept) : Type 0 where
  base : m.base ≡ k.base
  size : m.size ≡ k.size
  height : m.height ≡ k.height
  saved : m.saved ≡ k.saved

alike_fine : (all : List Saved) (b : ℕ) (k m : Kept) → Alike k m → FineChoice all b k → FineChoice all b m
alike_fine all b k m a g =
    let e0 = a.base in let e1 = a.size in let e2 = a.height in let e3 = a.saved in
    let g0 = g.height in let g1 = g.count in let g2 = g.top in
    record {
      height = omega (arith, e2, e3, g0);
      count = omega (arith, e3, g1);
      top = omega (arith, e0, e1, g2);
      below = λ i s l e. (let q = g.below i s (omega (arith, e3, l)) e in omega (arith, e0, q));
      above = λ i s l e. (let q = g.above i s (omega (arith, e3, l)) e in omega (arith, e0, e1, q));
    }

alike_rising : (k k' m m' : Kept) → Alike k k' → Alike m m' → (k.base + k.size ≤ m.base) × (k.saved ≤ m.saved) → (k'.base + k'.size ≤ m'.base) × (k'.saved ≤ m'.saved)
alike_rising k k' m m' a b r =
    let a0 = a.base in let a1 = a.size in let a3 = a.saved in let b0 = b.base in let b3 = b.saved in
    let r0 = r.0 in let r1 = r.1 in (omega (arith, a0, a1, b0, r0), omega (arith, a3, b3, r1))

-- one choice point only fails
module _ (w : List Slot) (saved : List Saved) (cs : List Kept) (base size h count : ℕ) (k m : Kept) (f : Fine w saved cs base size h) (l : count < length cs) (r : k ≡ slice_index_or cs count k)
    (b : m.base ≡ k.base) (z : m.size ≡ k.size) (eh : m.height ≡ k.height) (es : m.saved ≡ k.saved) where
  twin : (i : ℕ) (x : Kept) → slice_get (slice_set cs count m) i ≡ Some x → (y : Kept) × (slice_get cs i ≡ Some y) × Alike y x
  twin i x e = elim (get_set count i cs m x e) as (λ _. (y : Kept) × (slice_get cs i ≡ Some y) × Alike y x) [
    | inl q ↦ (x, q, record { base = refl; size = refl; height = refl; saved = refl })
    | inr q ↦ (
      k,
      ap (λ n. slice_get cs n) q.0 ∙ slice_get_read cs (length cs) count k refl l r,
      subst (λ v. Alike k v) (sym q.1) (record { base = b; size = z; height = eh; saved = es }),
    )
  ]

  pub soften_fine : Fine w saved (slice_set cs count m) base size h
  soften_fine = record {
    within = f.within;
    stack = f.stack;
    parents = f.parents;
    tops = f.tops;
    ordered = f.ordered;
    kept = λ i x e. (let t = twin i x e in alike_fine saved base t.0 x t.2 (f.kept i t.0 t.1));
    rising = λ i j x y o e q. (let t = twin i x e in let u = twin j y q in alike_rising t.0 x u.0 y t.2 u.2 (f.rising i j t.0 u.0 o t.1 u.1));
  }

pub soften_view : (w : List Slot) (saved : List Saved) (cs : List Kept) (base size h count : ℕ) (m : Kept) → m.live ≡ false
    → view_of w saved (slice_set cs count m) base size h ≡ (let r : Stacks = record { current = frame_of w base size; callers = callers_of w saved h; choices = softened count (reverse (map (λ k. seen w saved k) cs)) } in r)
soften_view w saved cs base size h count m dead = stacks_at _ _ _ _ _ _ refl refl
    (ap reverse (map-set (λ k. seen w saved k) cs count m
    ∙ ap (λ x. slice_set (map (λ k. seen w saved k) cs) count (if x then GoesOn m.place m.heap (frame_of w m.base m.size) (callers_of w saved m.height) else Dead)) dead)
    ∙ sym (softened_reverse count (map (λ k. seen w saved k) cs)))

pub soften_none : (w : List Slot) (saved : List Saved) (cs : List Kept) (base size h count : ℕ) → length cs ≤ count
    → view_of w saved cs base size h ≡ (let r : Stacks = record { current = frame_of w base size; callers = callers_of w saved h; choices = softened count (reverse (map (λ k. seen w saved k) cs)) } in r)
soften_none w saved cs base size h count l = stacks_at _ _ _ _ _ _ refl refl
    (ap reverse (sym (set_past (map (λ k. seen w saved k) cs) count Dead (omega (arith, l, length-map cs (λ k. seen w saved k))))) ∙ sym (softened_reverse count (map (λ k. seen w saved k) cs)))
