-- What is left of the variables is still to be given the words that are left, and the frame has all of them. Where all words lead below a place,
-- so do those that are left, and all that the frames hold.
use Rattle.std.proofs.Common.{◌≡◌, ℕ, length}
use Rattle.std.specs.Iterator.Adapters.{zip_first, zip_second}
use Rattle.std.specs.List.{All}
use Rattle.std.specs.Slice.Iter.{iter_rest}
use Rattle.merc_value.specs.Block.{IsBelow}
use Rattle.merc_frames.specs.Held.{AreHeld}
use Rattle.merc_frames.specs.Rooms.{AreSlots}
use Rattle.merc_store.specs.Data.{IsSlotBelow}
use Rattle.merc_store.specs.Performing.{stored}
use Rattle.merc_store.proofs.CarryingLaws.{with_slots}
use Rattle.merc_store.proofs.thawing.store_words.Given as goal

abbrev pub invariant-loop-variable : goal.invariant-loop-variable
invariant-loop-variable l = record {
  there : AreSlots (length l.frames.stacks.current) (iter_rest (zip_first l.variable-iterator));
  same : with_slots l.frames.stacks (stored (iter_rest (zip_first l.variable-iterator)) (iter_rest (zip_second l.variable-iterator)) l.frames.stacks.current)
      ≡ with_slots l.fn.frames.stacks (stored l.variables l.words l.fn.frames.stacks.current);
  held : (cells : ℕ) → All (IsBelow cells) l.words
      → All (IsBelow cells) (iter_rest (zip_second l.variable-iterator)) × (AreHeld IsSlotBelow cells l.fn.frames → AreHeld IsSlotBelow cells l.frames);
}
