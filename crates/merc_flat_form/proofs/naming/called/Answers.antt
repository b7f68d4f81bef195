use Rattle.std.proofs.Common.{map, ap, ◌∙◌}
use Rattle.std.proofs.lemmas.Result.{IfOk-weaker}
use Rattle.merc_value.specs.Text.{is_blank}
use Rattle.merc_flat_form.specs.Levels.{scope_of}
use Rattle.merc_flat_form.specs.Tasks.{variable_for}
use Rattle.merc_flat_form.proofs.GoalLaws.{called-performed}
use Rattle.merc_flat_form.proofs.naming.called.Goals as goal

pub returns : goal.returns
returns c =
    let operands = c.in_ok-operands.ensures ∙ ap (map (variable_for (is_blank c.args.names.now) (scope_of c.args.stack.now))) c.deref.ensures.value in
    let goals =
    called-performed (is_blank c.args.names.now) (scope_of c.args.stack.now) c.args.at c.args.callee c.args.call.now c.copy.result
    c.in_ok-arguments.arguments.items c.in_ok-operands.operands.items c.new-tasks.result.items c.put_call.new.tasks.items c.push_arguments.new.tasks.items
    c.copy.ensures c.in_ok-arguments.ensures operands c.new-tasks.ensures.items c.in_ok-put_call.ensures c.in_ok-push_arguments.ensures in
    IfOk-weaker c.perform.result _ _ (λ found is. is ∙ goals) c.perform.ensures
