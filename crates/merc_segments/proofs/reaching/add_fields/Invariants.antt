-- The places of the fields so far are added.
use Rattle.std.proofs.Common.{take}
use Rattle.merc_value.specs.Writing.{arguments_at}
use Rattle.merc_segments.specs.Places.{Adds}
use Rattle.merc_segments.proofs.reaching.add_fields.Given as goal

abbrev pub invariant-loop-index : goal.invariant-loop-index
invariant-loop-index l = Adds (take l.index (arguments_at l.heap l.place)) l.fn.pending l.pending
