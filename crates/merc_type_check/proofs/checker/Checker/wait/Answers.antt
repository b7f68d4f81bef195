use Rattle.merc_type_check.proofs.Places.{waited}
use Rattle.merc_type_check.proofs.checker.Checker.wait.Goals as goal

pub returns : goal.returns
returns c =
    waited c.args.self.now c.insert.new.self c.args.variable c.args.used c.requires.sound c.requires.new c.requires.there c.requires.begun c.in_ok-insert.ensures.updates.0
