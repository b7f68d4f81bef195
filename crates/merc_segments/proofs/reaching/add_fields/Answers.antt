-- The next field's place is added after those so far.
use Rattle.std.proofs.Common.{◌∙◌, sym}
use Rattle.merc_value.specs.Writing.{arguments_at}
use Rattle.merc_segments.proofs.ReachLemmas.{adds_none, adds_next}
use Rattle.merc_segments.proofs.reaching.add_fields.Goals as goal

pub loop-index-init : goal.loop-index-init
loop-index-init c = adds_none (arguments_at c.args.heap.now c.args.place) c.args.pending.now

pub loop-index-preserved : goal.loop-index-preserved
loop-index-preserved c =
    adds_next (arguments_at c.args.heap.now c.args.place) c.loop-index.index c.in-Some.field c.args.pending.now c.loop-index.pending c.add.new.self
    (sym c.argument.ensures ∙ c.in-Some.is) c.loop-index.invariant c.in_ok-add.ensures
