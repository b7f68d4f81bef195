-- What the lists of the frames stand for, at one place: a frame called another, which made a choice point and went back to its caller.
use Rattle.std.proofs.Common.{◌≡◌, inl, inr, ℕ, zero, suc, ◌+◌, ◌≤◌, true, false, List, [], ◌∷◌, replicate, Option, Some, None, slice_get, refl, ap, subst, arith}
use Rattle.merc_frames.specs.declared.slot.Slot.{Slot}
use Rattle.merc_frames.specs.declared.slot.Slot.TheVariants.{Empty, Cell}
use Rattle.merc_frames.specs.Held.{Top}
use Rattle.merc_frames.specs.Stacks.{Stacks, Dead, GoesOn}
use Rattle.merc_frames.specs.View.{Apart, frame_of, callers_of, data_of, kept_top, tops_of, view_of, Fine, FineChoice, Grows, Needs, larger, newest, kept_saved, kept_end, counted, lowered, caller_top}
use Rattle.merc_frames.specs.declared.kept.Saved.{Saved}
use Rattle.merc_frames.specs.declared.kept.Kept.{Kept}

-- the caller's frame, the called one's, which the choice point keeps, and the caller's copy
abbrev slots : List Slot
slots = Cell 1 ∷ Cell 2 ∷ Cell 3 ∷ []

abbrev caller : Saved
caller = record { base = 0; size = 1; place = 10; parent = 0 }

abbrev choice : Kept
choice = record { live = true; base = 1; size = 1; place = 20; heap = 5; height = 1; saved = 1 }

abbrev end_of : Option Top → ℕ
end_of None = 0
end_of (Some top) = top.end

abbrev first_heap : List Top → ℕ
first_heap [] = 0
first_heap (top ∷ tops) = top.heap

pub frame_of-example : frame_of slots 1 2 ≡ Cell 2 ∷ Cell 3 ∷ []
frame_of-example = refl

pub frame_of-counterexample : frame_of slots 1 2 ≡ Cell 1 ∷ Cell 2 ∷ [] → ⊥
frame_of-counterexample = λ same. absurd cc

pub Apart-example : Apart (record { base = 0; size = 2 }) (record { base = 2; size = 1 }) × Apart (record { base = 2; size = 1 }) (record { base = 0; size = 2 })
Apart-example = (inl (omega arith), inr (omega arith))

-- slot 1 is in both
pub Apart-counterexample : Apart (record { base = 0; size = 2 }) (record { base = 1; size = 2 }) → ⊥
Apart-counterexample (inl below) = absurd (omega (arith, below))
Apart-counterexample (inr above) = absurd (omega (arith, above))

-- the choice point has the caller, and the copy has none
pub callers_of-example : (callers_of slots (caller ∷ []) 1 ≡ record { place = 10; slots = Cell 1 ∷ [] } ∷ []) × (callers_of slots (caller ∷ []) 0 ≡ [])
callers_of-example = (refl, refl)

pub callers_of-counterexample : callers_of slots (caller ∷ []) 1 ≡ [] → ⊥
callers_of-counterexample = λ none. absurd cc

pub view_of-example : view_of slots (caller ∷ []) (choice ∷ []) 2 1 0
    ≡ (let r : Stacks = record { current = Cell 3 ∷ []; callers = []; choices = GoesOn 20 5 (Cell 2 ∷ []) (record { place = 10; slots = Cell 1 ∷ [] } ∷ []) ∷ [] } in r)
view_of-example = refl

pub view_of-counterexample : view_of slots (caller ∷ []) (choice ∷ []) 2 1 0
    ≡ (let r : Stacks = record { current = Cell 1 ∷ []; callers = []; choices = GoesOn 20 5 (Cell 2 ∷ []) (record { place = 10; slots = Cell 1 ∷ [] } ∷ []) ∷ [] } in r) → ⊥
view_of-counterexample = λ same. absurd (let current = ap (λ (x : Stacks). x.current) same in cc)

-- the choice point keeps its own frame and its caller's
pub kept_top-example : kept_top choice ≡ Some (record { heap = 5; end = 2 })
kept_top-example = refl

pub kept_top-dead : kept_top (record choice { live = false }) ≡ None
kept_top-dead = refl

-- its caller's alone
pub kept_top-counterexample : kept_top choice ≡ Some (record { heap = 5; end = 1 }) → ⊥
kept_top-counterexample = λ same. absurd (let two : 2 ≡ 1 = ap end_of same in omega (arith, two))

abbrev newer : Kept
newer = record { live = true; base = 2; size = 1; place = 30; heap = 6; height = 0; saved = 1 }

-- the newest lies last, and goes first
pub tops_of-example : tops_of (choice ∷ (record newer { live = false }) ∷ newer ∷ []) ≡ record { heap = 6; end = 3 } ∷ record { heap = 5; end = 2 } ∷ []
tops_of-example = refl

pub tops_of-counterexample : tops_of (choice ∷ newer ∷ []) ≡ record { heap = 5; end = 2 } ∷ record { heap = 6; end = 3 } ∷ [] → ⊥
tops_of-counterexample = λ same. absurd (let first = ap first_heap same in omega (arith, first))

-- slots that no frame has are there
pub data_of-example : (data_of slots (caller ∷ []) (choice ∷ []) 2 0 0).slots ≡ slots
data_of-example = refl

pub data_of-counterexample : (data_of slots (caller ∷ []) (choice ∷ []) 2 0 0).slots ≡ Cell 1 ∷ Cell 2 ∷ [] → ⊥
data_of-counterexample = λ same. absurd cc

-- what lies in a list of one
only : {A : Type 0} (x y : A) (i : ℕ) → slice_get (x ∷ []) i ≡ Some y → (i ≡ 0) × (x ≡ y)
only x y zero e = (refl, cc)
only x y (suc i) e = absurd cc

choice_fine : FineChoice (caller ∷ []) 2 choice
choice_fine = record {
  height = omega arith;
  count = omega arith;
  top = omega arith;
  below = λ i s l e. (let is = only caller s i e in subst (λ x. x.base + x.size ≤ 1) is.1 (omega arith));
  above = λ i s l e. (let is = only caller s i e in let first = is.0 in absurd (omega (arith, first, l)));
}

pub FineChoice-example : FineChoice (caller ∷ []) 2 choice
FineChoice-example = choice_fine

-- the current frame lies over the choice point's
pub FineChoice-counterexample : FineChoice (caller ∷ []) 1 choice → ⊥
FineChoice-counterexample = λ fine. absurd (let top = fine.top in omega (arith, top))

pub Fine-example : Fine slots (caller ∷ []) (choice ∷ []) 2 1 0
Fine-example = record {
  within = omega arith;
  stack = omega arith;
  parents = λ i s e. (let is = only caller s i e in subst (λ x. x.parent ≤ i) is.1 (omega arith));
  tops = λ i s e. (let is = only caller s i e in subst (λ x. x.base + x.size ≤ 2) is.1 (omega arith));
  ordered = λ i j s t l e q. (let first = (only caller t j q).0 in absurd (omega (arith, first, l)));
  kept = λ i k e. (let is = only choice k i e in subst (λ x. FineChoice (caller ∷ []) 2 x) is.1 choice_fine);
  rising = λ i j k m l e q. (let first = (only choice m j q).0 in absurd (omega (arith, first, l)));
}

-- the caller's frame lies over the current one
pub Fine-counterexample : Fine slots (caller ∷ []) [] 0 1 0 → ⊥
Fine-counterexample = λ fine. absurd (let top = fine.tops 0 caller refl in omega (arith, top))

pub Grows-example : Grows (Cell 1 ∷ []) (Cell 1 ∷ Empty ∷ Empty ∷ [])
Grows-example = record { count = 2; whole = refl }

pub Grows-counterexample : Grows (Cell 1 ∷ []) (Cell 2 ∷ []) → ⊥
Grows-counterexample = λ grows. absurd (let whole = grows.whole in cc)

filled : (count : ℕ) → Cell 2 ∷ [] ≡ replicate count Empty → ⊥
filled zero same = absurd cc
filled (suc count) same = absurd cc

-- what is behind it is not empty
pub Grows-filled : Grows [] (Cell 2 ∷ []) → ⊥
Grows-filled = λ grows. filled grows.count grows.whole

pub larger-each : (larger 2 3 ≡ 3) × (larger 3 2 ≡ 3)
larger-each = (refl, refl)

pub newest-example : (newest (choice ∷ []) ≡ Some choice) × (newest [] ≡ None)
newest-example = (refl, refl)

-- its caller's frame, and the slots up to the end of its own
pub kept_saved-each : (kept_saved (Some choice) ≡ 1) × (kept_saved None ≡ 0)
kept_saved-each = (refl, refl)

pub kept_end-each : (kept_end (Some choice) ≡ 2) × (kept_end None ≡ 0)
kept_end-each = (refl, refl)

-- the newest lies last
pub Needs-example : Needs (choice ∷ newer ∷ []) 1 3
Needs-example = record { frames = refl; slots = refl }

pub Needs-none : Needs [] 0 0
Needs-none = record { frames = refl; slots = refl }

pub Needs-counterexample : Needs (choice ∷ newer ∷ []) 1 2 → ⊥
Needs-counterexample = λ needs. absurd (let end : 2 ≡ 3 = needs.slots in omega (arith, end))

-- the choice point keeps the caller's frame, though the current frame has no callers
pub counted-each : (counted (Some choice) 0 ≡ 1) × (counted (Some choice) 2 ≡ 2) × (counted None 0 ≡ 0)
counted-each = (refl, refl, refl)

pub lowered-each : (lowered (Some choice) 0 ≡ 2) × (lowered (Some choice) 3 ≡ 3) × (lowered None 0 ≡ 0)
lowered-each = (refl, refl, refl)

pub caller_top-each : (caller_top (caller ∷ []) 1 ≡ 1) × (caller_top (caller ∷ []) 0 ≡ 0)
caller_top-each = (refl, refl)

-- a frame that the caller called, and one that stands behind it and called another with no caller
abbrev called : Saved
called = record { base = 1; size = 1; place = 11; parent = 1 }

pub callers_of-parent : callers_of slots (caller ∷ called ∷ []) 2 ≡ record { place = 11; slots = Cell 2 ∷ [] } ∷ record { place = 10; slots = Cell 1 ∷ [] } ∷ []
callers_of-parent = refl

pub callers_of-apart : callers_of slots (caller ∷ record { base = 1; size = 1; place = 11; parent = 0 } ∷ []) 2 ≡ record { place = 11; slots = Cell 2 ∷ [] } ∷ []
callers_of-apart = refl

-- the newest lies last, and is seen first; one that is not live only fails
pub view_of-choices : (view_of slots (caller ∷ []) (choice ∷ (record newer { live = false }) ∷ []) 2 1 0).choices
    ≡ Dead ∷ GoesOn 20 5 (Cell 2 ∷ []) (record { place = 10; slots = Cell 1 ∷ [] } ∷ []) ∷ []
view_of-choices = refl

pub newest-last : newest (choice ∷ newer ∷ []) ≡ Some newer
newest-last = refl

pub caller_top-two : caller_top (caller ∷ called ∷ []) 2 ≡ 2
caller_top-two = refl
