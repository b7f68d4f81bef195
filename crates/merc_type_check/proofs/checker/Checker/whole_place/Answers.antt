use Rattle.merc_type_table.specs.Table.{type_at}
use Rattle.merc_type_check.proofs.Places.{whole_added}
use Rattle.merc_type_check.proofs.checker.Checker.whole_place.Goals as goal

pub returns-clause-placed : goal.returns-clause-placed
returns-clause-placed c =
    whole_added c.args.self.now c.add_whole.new.self c.add_whole.result (type_at c.args.self.now.graph.table c.args.number) c.requires.sound c.add_whole.ensures.table
    c.add_whole.ensures.place c.add_whole.ensures.count c.add_whole.ensures.solutions
