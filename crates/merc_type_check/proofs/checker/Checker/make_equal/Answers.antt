use Rattle.std.proofs.lemmas.Result.{IfOk-weaker}
use Rattle.merc_type_check.proofs.Places.{made_equal}
use Rattle.merc_type_check.proofs.checker.Checker.make_equal.Goals as goal

pub returns : goal.returns
returns c =
    IfOk-weaker c.make_equal.result _ _
    (λ done makes. made_equal done c.args.self.now c.make_equal.new.self c.args.one c.args.other c.requires.sound c.make_equal.ensures.table c.requires.one c.requires.other makes)
    c.make_equal.ensures.made
