use Rattle.std.proofs.lemmas.Result.{IfOk-weaker}
use Rattle.merc_terms.proofs.ReaderSteps.{refused_step, begun_step}
use Rattle.merc_terms.proofs.reading.Reader.begin.Goals as goal

pub returns-in_default : goal.returns-in_default
returns-in_default c = refused_step c.args.self.now c.requires c.in_default.ensures.there

pub returns-in-Ok : goal.returns-in-Ok
returns-in-Ok c =
    IfOk-weaker c.enter.result _ _
    (λ state entered. begun_step c.args.self.now c.enter.new.self c.begin.new.built c.in-Some.rest c.in-Some.start c.in-Ok.to state c.requires c.in-Some.ensures.there c.in-Some.ensures.shorter
    c.in-Ok.ensures.same c.in-Ok.ensures.built c.in-Ok.ensures.few entered)
    c.enter.ensures
