use Rattle.std.proofs.Common.{ap, ◌∙◌}
use Rattle.merc_goals.specs.Found.{widest_of}
use Rattle.merc_goals.proofs.FoundLaws.{widest_of-entries}
use Rattle.merc_goals.proofs.goal.WrittenGoal.widest_parallel.Goals as goal

pub returns : goal.returns
returns c = c.widest_parallel.ensures ∙ ap widest_of c.entries.ensures ∙ widest_of-entries c.args.self.now
