use Rattle.std.proofs.Common.{◌++◌, ap, ◌∙◌}
use Rattle.std.proofs.lemmas.Result.{IfOk-weaker}
use Rattle.merc_value.specs.Text.{is_blank}
use Rattle.merc_flat_form.specs.Levels.{scope_of}
use Rattle.merc_flat_form.specs.Numbering.{numbered_arguments}
use Rattle.merc_flat_form.proofs.HeadLaws.{head-performed}
use Rattle.merc_flat_form.proofs.heads.head_goals.Goals as goal

pub returns : goal.returns
returns c =
    let goals =
    head-performed (is_blank c.args.names.now) (scope_of c.args.stack.now) c.args.at c.args.head.now c.copy.result
    c.in_ok-arguments.arguments.items c.new-tasks.result.items c.plan_head.new.tasks.items
    c.copy.ensures (c.in_ok-arguments.ensures ∙ ap numbered_arguments c.first-whole.ensures) c.new-tasks.ensures.items c.in_ok-plan_head.ensures in
    IfOk-weaker c.perform.result _ _ (λ found is. is ∙ goals) c.perform.ensures
