use Rattle.std.proofs.Common.{◌∙◌, refl}
use Rattle.merc_transfer.proofs.WritingLemmas.{not_empty, puts-begins, puts-rest}
use Rattle.merc_transfer.proofs.writing.put.Goals as goal

pub loop-rest-init : goal.loop-rest-init
loop-rest-init g c = record { puts = puts-begins c.args.bytes.now (g.K.Sink.sink_state c.args.sink.now); count = refl }

pub loop-rest-preserved : goal.loop-rest-preserved
loop-rest-preserved g c =
    let kept = c.loop-rest.invariant in
    let wrote = c.in-Took.ensures in
    record {
      puts = puts-rest c.args.bytes.now c.loop-rest.rest.now _ _ _ c.in-Took.count kept.puts (not_empty c.loop-rest.rest.now c.loop-rest-test.ensures) wrote;
      count = wrote.4 ∙ kept.count;
    }
