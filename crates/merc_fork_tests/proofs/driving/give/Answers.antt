use Rattle.std.proofs.Common.{◌∙◌, ap, sym, length}
use Rattle.std.proofs.lemmas.Result.{on_ok_weaker}
use Rattle.merc_course.specs.Course.{Given}
use Rattle.merc_fork_tests.proofs.Stopping.{one-root}
use Rattle.merc_fork_tests.proofs.driving.give.Goals as goal

pub returns-clause-goes_on : goal.returns-clause-goes_on
returns-clause-goes_on c =
    let m = c.requires.means in
    let one = one-root c.args.value.now (ap length (sym c.roots.ensures) ∙ c.if-roots-ne1.false) in
    on_ok_weaker c.give.result (λ gives. (m.1 (Given one.0), gives one.0 one.1 m.0 m.1 m.2)) c.give.ensures.goes_on
