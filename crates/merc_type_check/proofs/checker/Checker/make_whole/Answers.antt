use Rattle.std.proofs.lemmas.Result.{IfOk-weaker}
use Rattle.merc_type_table.specs.Table.{type_at}
use Rattle.merc_type_check.proofs.Places.{made_whole}
use Rattle.merc_type_check.proofs.checker.Checker.make_whole.Goals as goal

pub returns : goal.returns
returns c =
    IfOk-weaker c.make_whole.result _ _
    (λ done makes. made_whole done c.args.self.now c.make_whole.new.self c.args.place (type_at c.args.self.now.graph.table c.args.whole) c.requires.sound
    c.make_whole.ensures.table c.requires.there makes)
    c.make_whole.ensures.made
