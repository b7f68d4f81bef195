-- The code that is loaded is that of the module and of the goal.
use Rattle.std.proofs.Common.{◌∙◌, ap}
use Rattle.std.proofs.lemmas.Result.{IfOk-weaker}
use Rattle.merc_tree.specs.declared.declarations.Module.{Module}
use Rattle.merc_code.specs.ProgramCode.{codes_in}
use Rattle.merc_gen.specs.Sites.{conjuncts_at, forked_with}
use Rattle.merc_top.proofs.ReadyLemmas.{yields-asked}
use Rattle.merc_top.proofs.preparing.program_of.Goals as goal

pub returns : goal.returns
returns c =
    let code = c.in_ok-code.code in
    IfOk-weaker c.load.result _ _
    (λ program loaded tree one program_alone alone steps. (
      codes_in code,
      code.query,
      loaded,
      yields-asked steps c.as_slice-preds.result.now c.args.checked.now.module.preds c.trees.result.now c.args.checked.now.trees c.in-Some.goal tree c.args.trees.now c.args.answers
          (conjuncts_at (forked_with c.trees.result.now c.in-Some.goal)) code
          (c.as_slice-preds.ensures ∙ ap (λ (found : Module). found.preds) c.module.ensures) c.trees.ensures c.in-Some.ensures one program_alone alone
          c.in_ok-code.ensures.procedures c.in_ok-code.ensures.conjuncts c.in_ok-code.ensures.query,
    ))
    c.load.ensures
