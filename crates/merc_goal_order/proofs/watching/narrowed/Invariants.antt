use Rattle.std.proofs.Common.{◌≡◌}
use Rattle.std.specs.List.{slice_range}
use Rattle.merc_order.specs.Bound.{among}
use Rattle.merc_goal_order.specs.Watching.{LiesIn, TellsWatch}
use Rattle.merc_goal_order.proofs.watching.narrowed.Given as goal

abbrev pub invariant-loop-round : goal.invariant-loop-round
invariant-loop-round l = record {
  same : l.bound ≡ l.fn.bound;
  within : LiesIn l.watched l.free;
  tells : TellsWatch l.setting.predicates.now l.placed.goal.now l.placed.facts.now l.free (among l.fn.bound) (slice_range l.free l.watched.low l.watched.high);
}
