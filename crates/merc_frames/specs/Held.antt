-- What all slots hold, those of frames and those that no frame has.
use Rattle.std.specs.Prelude.{◌≡◌, ℕ, ◌≤◌, Bool, true, List, [], ◌∷◌, take}
use Rattle.std.specs.List.{All}
use Rattle.merc_frames.specs.declared.slot.Slot.{Slot}
use Rattle.merc_frames.specs.Stacks.{Caller, ChoicePoint, Dead, GoesOn, Stacks}
use Rattle.merc_frames.specs.declared.frames.Backed.{Backed}
use Rattle.merc_frames.specs.declared.frames.Backed.TheVariants.{End as BackedEnd, Dead as BackedDead, On as BackedOn}

-- up to where a choice point that goes on keeps slots, with its mark of the heap
pub record Top : Type 0 where
  pub heap : ℕ
  pub end : ℕ

-- what contracts see of the frames: what they are, all slots that there are, and the tops of the choice points that go on, the newest first
pub record FramesData : Type 0 where
  pub stacks : Stacks
  pub slots : List Slot
  pub tops : List Top

-- Given is what a slot may hold over so many cells.
module _ (MayHold : ℕ → Slot → Type 0) where
  -- Up to the end of each choice point's frame the slots hold what they may over its mark, which is no greater than those of newer ones.
  abbrev pub AreKept : ℕ → List Slot → List Top → Type 0
  AreKept cells slots [] = Unit {0}
  AreKept cells slots (top ∷ tops) = (top.heap ≤ cells) × All (MayHold top.heap) (take top.end slots) × AreKept top.heap slots tops

  -- all slots hold what they may
  abbrev pub AreHeld : ℕ → FramesData → Type 0
  AreHeld cells frames = All (MayHold cells) frames.slots × AreKept cells frames.slots frames.tops

  -- the slots of a frame and of its callers hold what they may
  pub record AreFramesHeld (cells : ℕ) (current : List Slot) (callers : List Caller) : Type 0 where
    pub newest : All (MayHold cells) current
    pub others : All (λ (caller : Caller). All (MayHold cells) caller.slots) callers

  -- The frames that a choice point keeps hold what they may over its mark, which is no greater than those of newer ones.
  abbrev pub AreChoicesHeld : ℕ → List ChoicePoint → Type 0
  AreChoicesHeld cells [] = Unit {0}
  AreChoicesHeld cells (Dead ∷ choices) = AreChoicesHeld cells choices
  AreChoicesHeld cells (GoesOn place heap slots callers ∷ choices) = (heap ≤ cells) × AreFramesHeld heap slots callers × AreChoicesHeld heap choices

  -- the frames hold what they may
  pub record AreStacksHeld (cells : ℕ) (stacks : Stacks) : Type 0 where
    pub frames : AreFramesHeld cells stacks.current stacks.callers
    pub choices : AreChoicesHeld cells stacks.choices

-- What a slot may hold is told by a test where a contract speaks of it.
abbrev pub Passes : (ℕ → Slot → Bool) → ℕ → Slot → Type 0
Passes test cells slot = test cells slot ≡ true

-- how many cells are left where going back has found this: those below the mark of a choice point that goes on
abbrev pub cells_left : ℕ → Backed → ℕ
cells_left cells BackedEnd = cells
cells_left cells BackedDead = cells
cells_left cells (BackedOn place heap) = heap
