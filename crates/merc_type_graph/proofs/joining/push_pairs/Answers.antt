use Rattle.std.proofs.Common.{inl, inr}
use Rattle.merc_type_graph.proofs.Meeting.{pairs_step, pairs_end_first, pairs_end_second}
use Rattle.merc_type_graph.proofs.joining.push_pairs.Goals as goal

pub loop-one-preserved : goal.loop-one-preserved
loop-one-preserved c =
    pairs_step c.loop-one.pairs.items c.push.new.self.items _ c.loop-one.one-iterator.a.rest.now c.next.new.self.a.rest.now c.loop-one.one-iterator.b.rest.now c.next.new.self.b.rest.now
    c.in-Some.one.now c.in-Some.other.now c.in-Some.ensures.steps.0 c.in-Some.ensures.steps.1 c.in_ok-push.ensures.items c.loop-one.invariant

pub returns : goal.returns
returns c =
    elim c.in-None.ensures.steps [
      | inl w ↦ pairs_end_first c.loop-one.pairs.items _ c.loop-one.one-iterator.a.rest.now c.loop-one.one-iterator.b.rest.now w.1.0 c.loop-one.invariant
      | inr w ↦ pairs_end_second c.loop-one.pairs.items _ c.loop-one.one-iterator.a.rest.now c.loop-one.one-iterator.b.rest.now w.1.0 c.loop-one.invariant
    ]
