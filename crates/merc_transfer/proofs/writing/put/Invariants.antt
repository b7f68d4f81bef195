-- The text is written up to the rest of it, without a fault.
use Rattle.std.proofs.Common.{◌≡◌, [], ◌∷◌, length}
use Rattle.merc_transfer.specs.Writing.{Puts}
use Rattle.merc_transfer.proofs.writing.put.Given as goal

abbrev pub invariant-loop-rest : goal.invariant-loop-rest
invariant-loop-rest g l = record {
  puts : Puts (l.bytes ∷ []) l.rest (g.K.Sink.sink_state l.fn.sink) (g.K.Sink.sink_state l.sink);
  count : (g.K.Sink.sink_state l.sink).faults ≡ (g.K.Sink.sink_state l.fn.sink).faults;
}

abbrev pub decreases-loop-rest : goal.decreases-loop-rest
decreases-loop-rest g l = length l.rest
