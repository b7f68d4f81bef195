use Rattle.std.proofs.lemmas.Result.{IfOk-weaker}
use Rattle.merc_terms.proofs.ReaderSteps.{whole_step, filled_step}
use Rattle.merc_terms.proofs.reading.Reader.leave.Goals as goal

pub returns-in_default : goal.returns-in_default
returns-in_default c = λ priority e. whole_step c.args.self.now c.args.span priority c.pop.new.self c.requires.built c.requires.few e c.in_default.ensures.0 c.in_default.ensures.1

pub returns-in-Ok : goal.returns-in-Ok
returns-in-Ok c =
    IfOk-weaker c.enter.result _ _
    (λ state entered priority e. filled_step c.args.self.now c.enter.new.self c.fill.new.self.built c.fill.new.self.rest c.in-Some.frame c.pop.new.self c.args.span priority c.in-Ok.to state
    c.requires.built c.requires.few e c.in-Some.ensures c.in-Ok.ensures.same c.in-Ok.ensures.kept entered)
    c.enter.ensures
