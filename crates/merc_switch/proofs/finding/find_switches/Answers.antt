use Rattle.std.proofs.Common.{◌∙◌, ◌∷◌, ◌++◌, [], ap}
use Rattle.std.proofs.lemmas.Result.{IfOk-weaker}
use Rattle.merc_order.specs.Bound.{Bound}
use Rattle.merc_grading.specs.Switches.{find}
use Rattle.merc_switch.proofs.finding.find_switches.Goals as goal

pub returns : goal.returns
returns c =
    IfOk-weaker c.find_from-done.result _ _
    (λ done is types fits. is types fits ∙ ap (λ (b : Bound). c.args.found.now ++ find c.args.known.now.types types b c.args.goal.now ∷ []) c.in_ok-bound.ensures) c.find_from-done.ensures
