-- The fields so far are copied.
use Rattle.std.proofs.Common.{◌≡◌, map, take}
use Rattle.merc_value.specs.Writing.{arguments_at}
use Rattle.merc_segments.specs.Places.{copy_of}
use Rattle.merc_segments.proofs.freezing.copied_fields.Given as goal

abbrev pub invariant-loop-index : goal.invariant-loop-index
invariant-loop-index l = l.fields.items ≡ map (copy_of l.places) (take l.index (arguments_at l.heap l.place))
