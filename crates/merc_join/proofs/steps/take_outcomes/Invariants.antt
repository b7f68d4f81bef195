use Rattle.std.proofs.Common.{◌≡◌, length}
use Rattle.merc_join.specs.declared.stub.Stage.TheVariants.{Last}
use Rattle.merc_join.specs.Join.{stub}
use Rattle.merc_join.specs.Answers.{AreOutcomes}
use Rattle.merc_join.proofs.steps.take_outcomes.Given as goal

abbrev pub invariant-loop-child : goal.invariant-loop-child
invariant-loop-child g l = record {
  table : l.seat.table_id ≡ l.fn.seat.table_id;
  view : l.seat.me.0 ≡ stub l.fn.seat.me.0.parent l.fn.seat.me.0.child l.fn.seat.me.0.many Last l.fn.seat.me.0.put l.child;
  count : length l.outcomes ≡ l.child;
  each : AreOutcomes g.P.Forked.ends l.fn.seat.me.0.parent l.fn.seat.me.0.child l.fn.seat.me.0.put l.outcomes;
}
