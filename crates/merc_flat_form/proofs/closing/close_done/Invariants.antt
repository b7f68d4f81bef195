use Rattle.std.proofs.Common.{◌≡◌, ℕ, List, Bool, Option, length}
use Rattle.merc_goals.specs.Written.{Written}
use Rattle.merc_name_resolution.specs.declared.callee.Callee.{Callee}
use Rattle.merc_flat_form.specs.Frames.{AreComing, AreFilled, finished}
use Rattle.merc_flat_form.proofs.closing.close_done.Given as goal

abbrev pub invariant-loop-frame : goal.invariant-loop-frame
invariant-loop-frame l = record {
  filled : AreFilled l.frames (length l.nodes);
  coming : (coming : ℕ) → AreComing l.fn.frames coming → AreComing l.frames coming;
  finished : (blank : ℕ → Bool) (callee : ℕ → Option ℕ → ℕ → Callee) (coming : List Written)
      → finished blank callee l.frames coming l.stack l.nodes ≡ finished blank callee l.fn.frames coming l.fn.stack l.fn.nodes;
}

abbrev pub decreases-loop-frame : goal.decreases-loop-frame
decreases-loop-frame l = length l.frames
