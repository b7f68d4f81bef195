-- The roots so far stand behind the others.
use Rattle.std.proofs.Common.{◌≡◌, ◌++◌, map, take}
use Rattle.merc_segments.specs.Places.{copy_of}
use Rattle.merc_segments.proofs.freezing.add_roots.Given as goal

abbrev pub invariant-loop-word : goal.invariant-loop-word
invariant-loop-word l = l.block ≡ record { cells = l.fn.block.cells; roots = l.fn.block.roots ++ map (copy_of l.places) (take l.word-index l.words) }
