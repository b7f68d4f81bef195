use Rattle.std.proofs.lemmas.Result.{IfOk-weaker}
use Rattle.merc_type_check.proofs.Asked.{alike_given}
use Rattle.merc_type_check.proofs.Places.{waits_there}
use Rattle.merc_type_check.proofs.checker.Checker.leads.Goals as goal

pub has_type-requires-clause-number : goal.has_type-requires-clause-number
has_type-requires-clause-number c = (waits_there c.args.self.now c.args.leader c.args.used c.requires.sound c.requires.waits).0

pub has_type-requires-clause-begun : goal.has_type-requires-clause-begun
has_type-requires-clause-begun c = (waits_there c.args.self.now c.args.leader c.args.used c.requires.sound c.requires.waits).1

pub returns-then-needs_no_place : goal.returns-then-needs_no_place
returns-then-needs_no_place c =
    IfOk-weaker c.has_type.result _ _
    (λ done takes. alike_given done c.args.self.now c.has_type.new.self c.args.leader c.args.variable c.args.used c.requires.waits takes) c.has_type.ensures
