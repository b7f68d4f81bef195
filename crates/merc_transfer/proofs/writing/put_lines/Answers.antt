use Rattle.std.proofs.Common.{arith}
use Rattle.merc_transfer.proofs.WritingLemmas.{puts_all-none, puts_all-next, puts_lines-fault}
use Rattle.merc_transfer.proofs.writing.put_lines.Goals as goal

pub loop-line-init : goal.loop-line-init
loop-line-init g c = puts_all-none (g.K.Sink.sink_state c.args.sink.now)

pub returns-in-Err : goal.returns-in-Err
returns-in-Err g c =
    puts_lines-fault c.args.lines.now c.loop-line.line-index c.line-item.result _ _ _ c.in-Err.fault (omega arith) c.line-item.is c.loop-line.invariant
    (rw (← c.bytes.ensures) c.in-Err.ensures)

pub loop-line-preserved : goal.loop-line-preserved
loop-line-preserved g c =
    puts_all-next c.args.lines.now c.loop-line.line-index c.line-item.result _ _ _ (omega arith) c.line-item.is c.loop-line.invariant
    (rw (← c.bytes.ensures) c.in_default.ensures.ok)
