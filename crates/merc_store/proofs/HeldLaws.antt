-- What contracts of frames say of each test of what a slot may hold, they say of slots that lead below a place.
use Rattle.std.proofs.Common.{◌≡◌, ℕ, ◌≤◌, Bool, true, nat_lt, List, [], ◌∷◌, length, take, refl, sym, subst}
use Rattle.std.specs.List.{All}
use Rattle.std.proofs.lemmas.Bool.{lt-ltb, ltb-true}
use Rattle.std.proofs.lemmas.List.Elements.{All-weaker}
use Rattle.merc_value.specs.Block.{CellData, IsBelow}
use Rattle.merc_value.specs.declared.word.Word.{Word}
use Rattle.merc_frames.specs.Held.{AreChoicesHeld, AreFramesHeld, AreHeld, AreKept, AreStacksHeld, FramesData, Passes, Top}
use Rattle.merc_frames.specs.Slots.{holding}
use Rattle.merc_frames.specs.Stacks.{Caller, ChoicePoint, Dead, GoesOn, GoesBack, Stacks}
use Rattle.merc_frames.specs.declared.frames.Backed.TheVariants.{On as BackedOn}
use Rattle.merc_frames.specs.declared.slot.Slot.{Slot}
use Rattle.merc_frames.specs.declared.slot.Slot.TheVariants.{Empty, Int, Text, Atom, Cell, Mark}
use Rattle.merc_store.specs.Data.{IsSlotBelow, IsSound}
use Rattle.merc_store.proofs.SoundLemmas.{held_below}

-- Slots that hold what they may by the one hold what they may by the other.
module _ (P Q : ℕ → Slot → Type 0) (weaker : (cells : ℕ) (slot : Slot) → P cells slot → Q cells slot) where
  slots_by : (cells : ℕ) (slots : List Slot) → All (P cells) slots → All (Q cells) slots
  slots_by cells slots each = All-weaker (P cells) (Q cells) (weaker cells) slots each

  kept_by : (cells : ℕ) (slots : List Slot) (tops : List Top) → AreKept P cells slots tops → AreKept Q cells slots tops
  kept_by cells slots [] kept = tt
  kept_by cells slots (top ∷ tops) kept = (kept.0, slots_by top.heap (take top.end slots) kept.1, kept_by top.heap slots tops kept.2)

  held_by : (cells : ℕ) (frames : FramesData) → AreHeld P cells frames → AreHeld Q cells frames
  held_by cells frames held = (slots_by cells frames.slots held.0, kept_by cells frames.slots frames.tops held.1)

  frames_by : (cells : ℕ) (current : List Slot) (callers : List Caller) → AreFramesHeld P cells current callers → AreFramesHeld Q cells current callers
  frames_by cells current callers held = record {
    newest = slots_by cells current held.newest;
    others = All-weaker (λ (caller : Caller). All (P cells) caller.slots) (λ (caller : Caller). All (Q cells) caller.slots) (λ caller. slots_by cells caller.slots) callers held.others;
  }

  choices_by : (cells : ℕ) (choices : List ChoicePoint) → AreChoicesHeld P cells choices → AreChoicesHeld Q cells choices
  choices_by cells [] held = tt
  choices_by cells (Dead ∷ choices) held = choices_by cells choices held
  choices_by cells (GoesOn place heap slots callers ∷ choices) held = (held.0, frames_by heap slots callers held.1, choices_by heap choices held.2)

  stacks_by : (cells : ℕ) (stacks : Stacks) → AreStacksHeld P cells stacks → AreStacksHeld Q cells stacks
  stacks_by cells stacks held = record { frames = frames_by cells stacks.current stacks.callers held.frames; choices = choices_by cells stacks.choices held.choices }

-- whether what the slot holds leads to no cell at this place or above
abbrev pub is_slot_below : ℕ → Slot → Bool
is_slot_below place Empty = true
is_slot_below place (Int number) = true
is_slot_below place (Text name) = true
is_slot_below place (Atom symbol) = true
is_slot_below place (Cell other) = nat_lt other place
is_slot_below place (Mark count) = true

pub slot_passes : (place : ℕ) (slot : Slot) → IsSlotBelow place slot → Passes is_slot_below place slot
slot_passes place Empty below = refl
slot_passes place (Int number) below = refl
slot_passes place (Text name) below = refl
slot_passes place (Atom symbol) below = refl
slot_passes place (Cell other) below = lt-ltb other place below
slot_passes place (Mark count) below = refl

pub word_passes : (place : ℕ) (word : Word) (slot : Slot) → slot ≡ holding word → IsBelow place word → Passes is_slot_below place slot
word_passes place word slot is below = subst (Passes is_slot_below place) (sym is) (slot_passes place (holding word) (held_below place word below))

slot_below : (place : ℕ) (slot : Slot) → Passes is_slot_below place slot → IsSlotBelow place slot
slot_below place Empty passes = tt
slot_below place (Int number) passes = tt
slot_below place (Text name) passes = tt
slot_below place (Atom symbol) passes = tt
slot_below place (Cell other) passes = ltb-true other place passes
slot_below place (Mark count) passes = tt

pub to_test : (cells : ℕ) (frames : FramesData) → AreHeld IsSlotBelow cells frames → AreHeld (Passes is_slot_below) cells frames
to_test cells frames held = held_by IsSlotBelow (Passes is_slot_below) slot_passes cells frames held

pub from_test : (cells : ℕ) (frames : FramesData) → AreHeld (Passes is_slot_below) cells frames → AreHeld IsSlotBelow cells frames
from_test cells frames held = held_by (Passes is_slot_below) IsSlotBelow slot_below cells frames held

-- A step of frames, which tells what they hold where they held what they may before it.
abbrev pub StepHolds : ℕ → ℕ → FramesData → FramesData → Type 0
StepHolds low high before after = AreHeld (Passes is_slot_below) low before → AreHeld (Passes is_slot_below) high after

pub step_held : (low high : ℕ) (before after : FramesData) → StepHolds low high before after → AreHeld IsSlotBelow low before → AreHeld IsSlotBelow high after
step_held low high before after step held = from_test high after (step (to_test low before held))

-- what the frames tell of their own slots
pub told_sound : (cells : List CellData) (frames : FramesData) → (AreHeld (Passes is_slot_below) (length cells) frames → AreStacksHeld (Passes is_slot_below) (length cells) frames.stacks)
    → AreHeld IsSlotBelow (length cells) frames → IsSound cells frames.stacks
told_sound cells frames told held = stacks_by (Passes is_slot_below) IsSlotBelow slot_below (length cells) frames.stacks (told (to_test (length cells) frames held))

-- the mark of a choice point that goes on is not above the end of the heap
pub mark_there : (cells : List CellData) (before after : Stacks) (place heap : ℕ) → IsSound cells before → GoesBack before after (BackedOn place heap) → heap ≤ length cells
mark_there cells before after place heap sound back = (subst (AreChoicesHeld IsSlotBelow (length cells)) back sound.choices).0

-- a step that is told the end of the heap
pub end_held : (cells : List CellData) (mark high : ℕ) → mark ≡ length cells → (before after : FramesData) → StepHolds mark high before after → AreHeld IsSlotBelow (length cells) before → AreHeld IsSlotBelow high after
end_held cells mark high is before after step held = step_held mark high before after step (subst (λ n. AreHeld IsSlotBelow n before) (sym is) held)

-- one that takes no cell away
pub same_held : (cells : List CellData) (mark : ℕ) → mark ≡ length cells → (before after : FramesData) → StepHolds mark mark before after → AreHeld IsSlotBelow (length cells) before → AreHeld IsSlotBelow (length cells) after
same_held cells mark is before after step held = subst (λ n. AreHeld IsSlotBelow n after) is (end_held cells mark mark is before after step held)
