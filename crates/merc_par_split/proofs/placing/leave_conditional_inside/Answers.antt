use Rattle.std.proofs.Common.{◌+◌, ap, length}
use Rattle.merc_graded_tree.specs.Labels.{labels_of}
use Rattle.merc_par_split.proofs.Leaving.{ok_weaker, conditional_inside}
use Rattle.merc_par_split.proofs.placing.leave_conditional_inside.Goals as goal

pub returns : goal.returns
returns c =
    let placing = c.args.placing.now in
    let parted = c.args.parted.now in
    ok_weaker c.leave_asked.result _ _
    (conditional_inside placing c.args.condition c.args.then_part c.args.else_part (length c.as_slice-before.result.now) (placing.first + length (labels_of c.args.condition)) parted.before parted.inside
    c.as_slice-inside.result.now c.args.tasks.now c.leave_no_signals.new.tasks c.leave_close.new.tasks c.leave_asked.new.tasks
    c.as_slice-inside.ensures (ap length c.as_slice-before.ensures) c.in_ok-leave_no_signals.ensures c.in_ok-leave_close.ensures) c.leave_asked.ensures
