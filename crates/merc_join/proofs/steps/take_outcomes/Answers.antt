use Rattle.std.proofs.Common.{◌+◌, ap, ◌∙◌, length, sym, length-append, [], ◌∷◌, subst}
use Rattle.merc_join.specs.declared.stub.Stage.TheVariants.{Last}
use Rattle.merc_join.specs.Join.{stub}
use Rattle.merc_join.specs.Answers.{AreOutcomes}
use Rattle.merc_join.proofs.Answering.{more_outcomes}
use Rattle.merc_join.proofs.steps.take_outcomes.Goals as goal

pub loop-child-preserved : goal.loop-child-preserved
loop-child-preserved g c = let was = c.loop-child.invariant in record {
  table = c.take_outcome.ensures.seat.0 ∙ was.table;
  view = c.take_outcome.ensures.seat.1 ∙ ap (λ v. stub v.parent v.child v.many Last v.put (c.loop-child.child + 1)) was.view;
  count = ap length c.push.ensures ∙ (length-append c.loop-child.outcomes (c.take_outcome.result ∷ []) ∙ ap (λ n. n + 1) was.count);
  each = subst (AreOutcomes g.P.Forked.ends c.args.seat.now.me.0.parent c.args.seat.now.me.0.child c.args.seat.now.me.0.put) (sym c.push.ensures)
      (more_outcomes g.P.Forked.ends c.args.seat.now.me.0 c.loop-child.seat.me.0 c.loop-child.child c.loop-child.outcomes c.take_outcome.result was.count was.each was.view c.take_outcome.ensures.outcome c.take_outcome.ensures.own);
}
