use Rattle.std.proofs.lemmas.Result.{on_ok_weaker}
use Rattle.merc_name_resolution.specs.Known.{callee_in}
use Rattle.merc_value.specs.Text.{is_blank}
use Rattle.merc_flat_form.proofs.WholeGoals.{whole_goal}
use Rattle.merc_flat_form.proofs.flattening.goal_form.Goals as goal

pub returns : goal.returns
returns c =
    on_ok_weaker c.put_whole-put.result
    (whole_goal (is_blank c.args.names.now) (callee_in c.args.known.now) c.args.goal.now c.args.scope.now c.in_ok-stack.stack c.args.nodes.now c.put_whole-put.new.nodes c.in_ok-stack.ensures)
    c.put_whole-put.ensures
