-- What a stack and a choice point stand for depends only on what lies below them.
use Rattle.std.proofs.Common.{◌≡◌, ℕ, zero, suc, ◌+◌, ◌<◌, ◌≤◌, Bool, if◌then◌else◌, List, ◌∷◌, take, drop, map, Option, Some, None, slice_get, refl, sym, ap, ◌∙◌, arith}
use Rattle.merc_frames.specs.declared.slot.Slot.{Slot}
use Rattle.merc_frames.specs.Stacks.{Caller, Dead, GoesOn}
use Rattle.merc_frames.specs.View.{frame_of, linked, chain, callers_of, seen}
use Rattle.merc_frames.specs.declared.kept.Saved.{Saved}
use Rattle.merc_frames.specs.declared.kept.Kept.{Kept}
use Rattle.merc_frames.proofs.Lists.{part_below, map_same}

-- below n the slots are the same, and the first m saved frames are the same and lie there
pub record Stays (n m : ℕ) (slots slots' : List Slot) (saved saved' : List Saved) : Type 0 where
  pub slots_same : take n slots ≡ take n slots'
  pub get_same : (i : ℕ) → i < m → slice_get saved i ≡ slice_get saved' i
  pub tops : (i : ℕ) (s : Saved) → i < m → slice_get saved i ≡ Some s → s.base + s.size ≤ n
  pub parents : (i : ℕ) (s : Saved) → slice_get saved i ≡ Some s → s.parent ≤ i

pub frame_same : (n : ℕ) (slots slots' : List Slot) (b z : ℕ) → take n slots ≡ take n slots' → b + z ≤ n → frame_of slots b z ≡ frame_of slots' b z
frame_same n slots slots' b z e h = sym (part_below n b z slots h) ∙ ap (λ w. take z (drop b w)) e ∙ part_below n b z slots' h

linked_same : (slots slots' : List Slot) (o o' : Option Saved) (g g' : ℕ → List Caller) → o ≡ o'
    → ((s : Saved) → o ≡ Some s → (frame_of slots s.base s.size ≡ frame_of slots' s.base s.size) × (g s.parent ≡ g' s.parent)) → linked slots o g ≡ linked slots' o' g'
linked_same slots slots' None o' g g' e h = ap (λ x. linked slots' x g') e
linked_same slots slots' (Some s) o' g g' e h =
    let r = h s refl in
    ap (λ v. record { place = s.place; slots = v } ∷ g s.parent) r.0 ∙ ap (λ rest. record { place = s.place; slots = frame_of slots' s.base s.size } ∷ rest) r.1 ∙ ap (λ x. linked slots' x g') e

pub chain_same : (fuel h n m : ℕ) (slots slots' : List Slot) (saved saved' : List Saved) → Stays n m slots slots' saved saved' → h ≤ m → chain fuel slots saved h ≡ chain fuel slots' saved' h
chain_same zero h n m slots slots' saved saved' p l = refl
chain_same (suc fuel) zero n m slots slots' saved saved' p l = refl
chain_same (suc fuel) (suc h) n m slots slots' saved saved' p l =
    linked_same slots slots' (slice_get saved h) (slice_get saved' h) _ _ (p.get_same h (omega (arith, l)))
    (λ s e. (
      frame_same n slots slots' s.base s.size p.slots_same (p.tops h s (omega (arith, l)) e),
      chain_same fuel s.parent n m slots slots' saved saved' p (let q = p.parents h s e in omega (arith, l, q)),
    ))

-- more fuel than frames changes nothing
pub chain_fuel : (f g h : ℕ) (slots : List Slot) (saved : List Saved) → ((i : ℕ) (s : Saved) → slice_get saved i ≡ Some s → s.parent ≤ i) → h ≤ f → h ≤ g → chain f slots saved h ≡ chain g slots saved h
chain_fuel zero zero h slots saved p a b = refl
chain_fuel zero (suc g) zero slots saved p a b = refl
chain_fuel zero (suc g) (suc h) slots saved p a b = absurd (omega (arith, a))
chain_fuel (suc f) zero zero slots saved p a b = refl
chain_fuel (suc f) zero (suc h) slots saved p a b = absurd (omega (arith, b))
chain_fuel (suc f) (suc g) zero slots saved p a b = refl
chain_fuel (suc f) (suc g) (suc h) slots saved p a b =
    linked_same slots slots (slice_get saved h) (slice_get saved h) _ _ refl
    (λ s e. let q = p h s e in (refl, chain_fuel f g s.parent slots saved p (omega (arith, q, a)) (omega (arith, q, b))))

pub callers_same : (h n m : ℕ) (slots slots' : List Slot) (saved saved' : List Saved) → Stays n m slots slots' saved saved' → h ≤ m → callers_of slots saved h ≡ callers_of slots' saved' h
callers_same h n m slots slots' saved saved' p l = chain_same h h n m slots slots' saved saved' p l

seen_on : (b : Bool) (place heap : ℕ) (v v' : List Slot) (st st' : List Caller) → v ≡ v' → st ≡ st' → (if b then GoesOn place heap v st else Dead) ≡ (if b then GoesOn place heap v' st' else Dead)
seen_on b place heap v v' st st' e f = ap (λ x. if b then GoesOn place heap x st else Dead) e ∙ ap (λ x. if b then GoesOn place heap v' x else Dead) f

pub seen_same : (k : Kept) (n m : ℕ) (slots slots' : List Slot) (saved saved' : List Saved) → Stays n m slots slots' saved saved' → k.base + k.size ≤ n → k.height ≤ m → seen slots saved k ≡ seen slots' saved' k
seen_same k n m slots slots' saved saved' p t h =
    seen_on k.live k.place k.heap _ _ _ _ (frame_same n slots slots' k.base k.size p.slots_same t) (callers_same k.height n m slots slots' saved saved' p h)

pub all_seen : (choices : List Kept) (n m : ℕ) (slots slots' : List Slot) (saved saved' : List Saved) → Stays n m slots slots' saved saved'
    → ((i : ℕ) (k : Kept) → slice_get choices i ≡ Some k → (k.base + k.size ≤ n) × (k.height ≤ m)) → map (λ k. seen slots saved k) choices ≡ map (λ k. seen slots' saved' k) choices
all_seen choices n m slots slots' saved saved' p h = map_same _ _ choices (λ i k e. let r = h i k e in seen_same k n m slots slots' saved saved' p r.0 r.1)
