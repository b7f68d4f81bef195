use Rattle.std.proofs.lemmas.Result.{IfOk-weaker}
use Rattle.merc_code.specs.ProgramCode.{codes_in}
use Rattle.merc_fork_tests.proofs.Coding.{has-course}
use Rattle.merc_fork_tests.proofs.asking.loaded.Goals as goal

pub returns : goal.returns
returns c =
    let code = c.in_ok-code.code in
    IfOk-weaker c.load.result _ _
    (λ program is trees goal are alone. (
      codes_in code,
      code.query,
      is,
      has-course c.as_slice-preds.result.now trees c.args.procedures.now goal c.in-Some.goal c.args.goals.now c.args.answers code are c.in-Some.ensures alone
          c.in_ok-code.ensures.procedures c.in_ok-code.ensures.conjuncts c.in_ok-code.ensures.query,
    ))
    c.load.ensures
