use Rattle.std.proofs.Common.{◌∙◌}
use Rattle.std.proofs.lemmas.Result.{IfOk-weaker}
use Rattle.merc_value.specs.Text.{is_blank}
use Rattle.merc_flat_form.specs.Levels.{scope_of}
use Rattle.merc_flat_form.proofs.GoalLaws.{compared-planned}
use Rattle.merc_flat_form.proofs.naming.compared.Goals as goal

pub returns : goal.returns
returns c =
    let goals =
    compared-planned (is_blank c.args.names.now) (scope_of c.args.stack.now) c.args.at c.args.name c.args.left.now c.args.right.now
    c.sides-left.result c.new-tasks.result.items c.plan_compared.new.tasks.items
    c.sides-left.ensures c.new-tasks.ensures.items c.in_ok-plan_compared.ensures in
    IfOk-weaker c.perform.result _ _ (λ found is. is ∙ goals) c.perform.ensures
