-- The lines before this one are written, without a fault.
use Rattle.std.proofs.Common.{take}
use Rattle.merc_transfer.specs.Writing.{PutsAll}
use Rattle.merc_transfer.proofs.writing.put_lines.Given as goal

abbrev pub invariant-loop-line : goal.invariant-loop-line
invariant-loop-line g l = PutsAll (take l.line-index l.lines) (g.K.Sink.sink_state l.fn.sink) (g.K.Sink.sink_state l.sink)
