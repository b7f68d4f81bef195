-- The arguments so far are met.
use Rattle.std.proofs.Common.{take}
use Rattle.merc_heap.specs.Heap.{arguments_in}
use Rattle.merc_heap.specs.Equality.{Meets, pairs}
use Rattle.merc_heap.proofs.equality.meet_arguments.Given as goal

abbrev pub invariant-loop-index : goal.invariant-loop-index
invariant-loop-index l = Meets l.heap (pairs (take l.index (arguments_in l.heap l.one)) (take l.index (arguments_in l.heap l.other))) l.fn.met.keys l.met.keys
