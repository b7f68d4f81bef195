use Rattle.std.proofs.Common.{◌∙◌, ap, sym}
use Rattle.merc_order.specs.Spelt.{inner_outputs}
use Rattle.merc_simple_goals.proofs.Putting.{tests_room, conjoined}
use Rattle.merc_simple_goals.proofs.writing.put_with_tests.Goals as goal

pub conjoin-requires : goal.conjoin-requires
conjoin-requires c = tests_room c.args.written.now.fresh c.args.testing.now c.args.frame.span _ c.args.written.now.nodes c.push-2.new.self c.push_tests.new.nodes c.in_ok-count.count
    c.in_ok-push.ensures.ok c.in_ok-push_tests.ensures c.in_ok-count.ensures

pub returns : goal.returns
returns c = record {
  nodes = conjoined c.args.written.now.fresh c.args.goal c.args.writes.now c.args.testing.now c.args.frame.outputs c.in_ok-inner.inner c.args.frame.span c.args.written.now.nodes c.push-2.new.self c.push_tests.new.nodes c.conjoin.new.self c.in_ok-count.count
      c.if-is_empty.ensures
      (c.in_ok-inner.ensures.outputs ∙ ap (λ l. inner_outputs c.args.written.now.fresh l c.args.writes.now c.args.testing.now) c.as_slice-outputs.ensures)
      c.in_ok-push.ensures.ok c.in_ok-push_tests.ensures c.in_ok-count.ensures c.in_ok-conjoin.ensures.ok;
  fresh = c.in_ok-written.ensures;
  seen = c.in_ok-inner.ensures.cleared ∙ sym c.requires;
}
