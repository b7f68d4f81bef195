use Rattle.std.proofs.Common.{◌∙◌}
use Rattle.std.proofs.lemmas.Result.{IfOk-weaker}
use Rattle.merc_graded_tree.specs.declared.basic.BasicGoal.TheVariants.{Call as CallGoal}
use Rattle.merc_order.specs.Spelt.{replaced, tested_places, written}
use Rattle.merc_simple_goals.proofs.Putting.{goal_put}
use Rattle.merc_simple_goals.proofs.writing.put_call.Goals as goal

pub returns : goal.returns
returns c =
    let arguments = c.args.arguments.now in
    IfOk-weaker c.put_with_tests.result _ _ (λ done is.
    goal_put c.args.frame.outputs c.args.frame.span c.args.written.now c.put_with_tests.new.written (CallGoal c.args.procedure)
    c.in_ok-operands.operands (replaced c.args.written.now.fresh arguments c.args.tests.now) c.as_slice.result.now (written c.args.places.now arguments c.args.tests.now) c.as_slice-2.result.now (tested_places arguments c.args.tests.now)
    c.in_ok-operands.ensures (c.as_slice.ensures ∙ c.in_ok-writes.ensures) (c.as_slice-2.ensures ∙ c.in_ok-testing.ensures) is) c.put_with_tests.ensures
