use Rattle.std.proofs.Common.{◌≡◌, ◌++◌, length, drop}
use Rattle.merc_goals.specs.Entries.{goals_in}
use Rattle.merc_name_resolution.specs.Known.{callee_in}
use Rattle.merc_value.specs.Text.{is_blank}
use Rattle.merc_flat_form.specs.Levels.{scope_of}
use Rattle.merc_flat_form.specs.FlatForm.{flat}
use Rattle.merc_flat_form.specs.Frames.{AreComing, AreFilled, IsReady, finished}
use Rattle.merc_flat_form.proofs.flattening.flatten.Given as goal

abbrev pub invariant-loop-index : goal.invariant-loop-index
invariant-loop-index l = record {
  finished : finished (is_blank l.names) (callee_in l.known) l.frames (goals_in (drop l.index l.entries)) l.stack l.nodes
      ≡ l.fn.nodes ++ flat (is_blank l.names) (callee_in l.known) (scope_of l.fn.stack) l.goal;
  coming : AreComing l.frames (length (goals_in (drop l.index l.entries)));
  filled : AreFilled l.frames (length l.nodes);
  ready : IsReady l.frames;
}
