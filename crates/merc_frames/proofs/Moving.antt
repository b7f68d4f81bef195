-- Another current frame, over what nobody else needs.
use Rattle.std.proofs.Common.{◌≡◌, ℕ, ◌+◌, ◌<◌, ◌≤◌, List, length, take, replicate, map, reverse, Some, slice_get, Result, Ok, Err, OnErr, refl, sym, ap, ◌∙◌, arith}
use Rattle.merc_frames.specs.declared.slot.Slot.{Slot}
use Rattle.merc_frames.specs.declared.slot.Slot.TheVariants.{Empty}
use Rattle.merc_frames.specs.Stacks.{Caller, ChoicePoint, Stacks}
use Rattle.merc_frames.specs.View.{frame_of, callers_of, seen, view_of, Fine, FineChoice, Grows}
use Rattle.merc_frames.specs.declared.kept.Saved.{Saved}
use Rattle.merc_frames.specs.declared.kept.Kept.{Kept}
use Rattle.merc_frames.proofs.AllLaws.{grown_each}
use Rattle.merc_frames.proofs.HeldLaws.{Holding, kept_below}
use Rattle.merc_frames.proofs.Lists.{get_take, get_take_in, take_less}
use Rattle.merc_frames.proofs.Stays.{Stays, frame_same, callers_same, all_seen}
use Rattle.std.proofs.lemmas.List.{length-append, length-take-le, take-append-le}

pub stacks_at : (a a' : List Slot) (b b' : List Caller) (c c' : List ChoicePoint) → a ≡ a' → b ≡ b' → c ≡ c' → record { current = a; callers = b; choices = c } ≡ (let r : Stacks = record { current = a'; callers = b'; choices = c' } in r)
stacks_at a a' b b' c c' e f g =
    ap (λ x. (let r : Stacks = record { current = x; callers = b; choices = c } in r)) e ∙ ap (λ x. (let r : Stacks = record { current = a'; callers = x; choices = c } in r)) f ∙ ap (λ x. (let r : Stacks = record { current = a'; callers = b'; choices = x } in r)) g

-- what lies below n, and the first m saved frames, are as they were: so are callers up to height m and choice points
pub view_stays : (n m : ℕ) (w w' : List Slot) (saved saved' : List Saved) (cs : List Kept) (base' size' h : ℕ) (current : List Slot) → Stays n m w w' saved saved' → h ≤ m
    → ((i : ℕ) (k : Kept) → slice_get cs i ≡ Some k → (k.base + k.size ≤ n) × (k.height ≤ m)) → frame_of w' base' size' ≡ current
    → view_of w' saved' cs base' size' h ≡ (let r : Stacks = record { current = current; callers = callers_of w saved h; choices = reverse (map (λ k. seen w saved k) cs) } in r)
view_stays n m w w' saved saved' cs base' size' h current p l f e =
    stacks_at _ _ _ _ _ _ e (sym (callers_same h n m w w' saved saved' p l)) (ap reverse (sym (all_seen cs n m w w' saved saved' p f)))

pub below_base : (w : List Slot) (saved : List Saved) (cs : List Kept) (base size h : ℕ) → Fine w saved cs base size h → (i : ℕ) (k : Kept) → slice_get cs i ≡ Some k → (k.base + k.size ≤ base) × (k.height ≤ length saved)
below_base w saved cs base size h f i k e = let g = f.kept i k e in let a = g.height in let b = g.count in (g.top, omega (arith, a, b))

-- only slots of the current frame and above it changed
module _ (w w' : List Slot) (saved : List Saved) (cs : List Kept) (base size h : ℕ) (f : Fine w saved cs base size h) (same : take base w ≡ take base w') where
  pub stays_slots : Stays base (length saved) w w' saved saved
  stays_slots = record { slots_same = same; get_same = λ i l. refl; tops = λ i s l q. f.tops i s q; parents = f.parents }

  pub slots_fine : (size' : ℕ) → base + size' ≤ length w' → Fine w' saved cs base size' h
  slots_fine size' room = record { within = room; stack = f.stack; parents = f.parents; tops = f.tops; ordered = f.ordered; kept = f.kept; rising = f.rising }

  pub slots_view : (size' : ℕ) (current : List Slot) → frame_of w' base size' ≡ current
      → view_of w' saved cs base size' h ≡ (let r : Stacks = record { current = current; callers = callers_of w saved h; choices = reverse (map (λ k. seen w saved k) cs) } in r)
  slots_view size' current e = view_stays base (length saved) w w' saved saved cs base size' h current stays_slots f.stack (below_base w saved cs base size h f) e

-- only what lies above the current frame changed
module _ (w w' : List Slot) (saved : List Saved) (cs : List Kept) (base size h : ℕ) (f : Fine w saved cs base size h) (same : take (base + size) w ≡ take (base + size) w') where
  same_below : take base w ≡ take base w'
  same_below = sym (take_less (base + size) base w (omega arith)) ∙ ap (take base) same ∙ take_less (base + size) base w' (omega arith)

  pub above_fine : base + size ≤ length w' → Fine w' saved cs base size h
  above_fine room = slots_fine w w' saved cs base size h f same_below size room

  pub above_view : view_of w' saved cs base size h ≡ view_of w saved cs base size h
  above_view = slots_view w w' saved cs base size h f same_below size (frame_of w base size) (sym (frame_same (base + size) w w' base size same (omega arith)))

-- more slots behind all
module _ (w w' : List Slot) (saved : List Saved) (cs : List Kept) (base size h : ℕ) (f : Fine w saved cs base size h) (g : Grows w w') where
  pub grown_same : (n : ℕ) → n ≤ length w → take n w ≡ take n w'
  grown_same n l = sym (ap (take n) g.whole ∙ take-append-le n w (replicate g.count Empty) l)

  pub grown_length : length w ≤ length w'
  grown_length = let e = ap length g.whole in omega (arith, e, length-append w (replicate g.count Empty))

  pub grown_fine : Fine w' saved cs base size h
  grown_fine = let a = f.within in let b = grown_length in above_fine w w' saved cs base size h f (grown_same (base + size) a) (omega (arith, a, b))

  pub grown_view : view_of w' saved cs base size h ≡ view_of w saved cs base size h
  grown_view = above_view w w' saved cs base size h f (grown_same (base + size) f.within)

  pub grown_held : (MayHold : ℕ → Slot → Type 0) (cells : ℕ) → MayHold cells Empty → Holding MayHold cells w cs → Holding MayHold cells w' cs
  grown_held MayHold cells none held = (
    grown_each (MayHold cells) none w w' g held.0,
    kept_below MayHold base w w' cs (λ i k e. (f.kept i k e).top) (let a = f.within in grown_same base (omega (arith, a))) cells held.1,
  )

  -- slots at the end of the current frame, or behind it, were written then
  pub emptied_same : (w'' : List Slot) (n : ℕ) → n ≤ base + size → take n w' ≡ take n w'' → take n w ≡ take n w''
  emptied_same w'' n l e = let a = f.within in grown_same n (omega (arith, a, l)) ∙ e

-- A current frame begins at low, over the first count saved frames, where all that callers and choice points need lies below.
module _ (w w' : List Slot) (saved : List Saved) (cs : List Kept) (base size h : ℕ) (f : Fine w saved cs base size h)
    (low size' h' count : ℕ) (cl : count ≤ length saved) (hc : h' ≤ count) (same : take low w ≡ take low w')
    (tops : (i : ℕ) (s : Saved) → i < count → slice_get saved i ≡ Some s → s.base + s.size ≤ low)
    (kept : (i : ℕ) (k : Kept) → slice_get cs i ≡ Some k → (k.base + k.size ≤ low) × (k.saved ≤ count)) where
  choice_moved : (i : ℕ) (k : Kept) → slice_get cs i ≡ Some k → FineChoice (take count saved) low k
  choice_moved i k e =
      let g = f.kept i k e in let d = kept i k e in let d1 = d.1 in
      record {
        height = g.height;
        count = omega (arith, d1, length-take-le count saved cl);
        top = d.0;
        below = λ j s l q. g.below j s l (get_take_in count j saved s q).1;
        above = λ j s l q. g.above j s l (get_take_in count j saved s q).1;
      }

  pub moved_fine : low + size' ≤ length w' → Fine w' (take count saved) cs low size' h'
  moved_fine room = record {
    within = room;
    stack = omega (arith, hc, length-take-le count saved cl);
    parents = λ i s e. f.parents i s (get_take_in count i saved s e).1;
    tops = λ i s e. (let r = get_take_in count i saved s e in tops i s r.0 r.1);
    ordered = λ i j s t l e q. f.ordered i j s t l (get_take_in count i saved s e).1 (get_take_in count j saved t q).1;
    kept = choice_moved;
    rising = f.rising;
  }

  stays_moved : Stays low count w w' saved (take count saved)
  stays_moved = record { slots_same = same; get_same = λ i l. sym (get_take count i saved l); tops = tops; parents = f.parents }

  pub moved_view : (current : List Slot) → frame_of w' low size' ≡ current
      → view_of w' (take count saved) cs low size' h' ≡ (let r : Stacks = record { current = current; callers = callers_of w saved h'; choices = reverse (map (λ k. seen w saved k) cs) } in r)
  moved_view current e = view_stays low count w w' saved (take count saved) cs low size' h' current stays_moved hc
      (λ i k q. (let d = kept i k q in let d1 = d.1 in let g = f.kept i k q in let gh = g.height in (d.0, omega (arith, d1, gh)))) e

-- what holds anyway holds where there is an error
pub on_err : {T E : Type 0} (r : Result T E) (P : Type 0) → P → OnErr r P
on_err (Ok value) P p = record {}
on_err (Err error) P p = p
