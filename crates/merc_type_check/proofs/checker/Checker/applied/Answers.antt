use Rattle.merc_type_check.proofs.Places.{applied_added}
use Rattle.merc_type_check.proofs.checker.Checker.applied.Goals as goal

pub returns-clause-placed : goal.returns-clause-placed
returns-clause-placed c =
    applied_added c.args.self.now c.add_applied.new.self c.add_applied.result c.args.name c.args.arguments.now c.requires.sound c.add_applied.ensures.table c.requires.within
    c.add_applied.ensures.place c.add_applied.ensures.count c.add_applied.ensures.solutions
