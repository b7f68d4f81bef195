use Rattle.std.proofs.lemmas.Result.{IfOk-weaker}
use Rattle.merc_type_check.proofs.Asked.{given_before, given_used}
use Rattle.merc_type_check.proofs.Places.{waits_there}
use Rattle.merc_type_check.proofs.checker.Checker.has_same_type.Goals as goal

pub returns-then-used-user : goal.returns-then-used-user
returns-then-used-user c = given_before c.args.self.now c.args.variable c.args.used c.args.user c.requires.sound c.requires.waits c.if-used-user.true

pub stand_alike-requires-clause-one : goal.stand_alike-requires-clause-one
stand_alike-requires-clause-one c = (waits_there c.args.self.now c.args.variable c.args.used c.requires.sound c.requires.waits).1

pub returns-in-Some : goal.returns-in-Some
returns-in-Some c =
    IfOk-weaker c.stand_alike.result _ _
    (λ done takes. given_used done c.args.self.now c.stand_alike.new.self c.args.variable c.args.used.number c.args.user c.args.used c.in-Some.pairs.now c.requires.waits
    c.in-Some.ensures takes) c.stand_alike.ensures

pub has_open_type-requires-clause-number : goal.has_open_type-requires-clause-number
has_open_type-requires-clause-number c = (waits_there c.args.self.now c.args.variable c.args.used c.requires.sound c.requires.waits).0
