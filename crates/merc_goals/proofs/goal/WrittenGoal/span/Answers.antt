use Rattle.std.proofs.Common.{length, ap, arith}
use Rattle.merc_goals.proofs.EntryLaws.{some_entry}
use Rattle.merc_goals.proofs.goal.WrittenGoal.span.Goals as goal

pub unreachable-requires : goal.unreachable-requires
unreachable-requires c = omega (arith, ap length c.entries.ensures, some_entry c.args.self.now)
