use Rattle.merc_graded_tree.specs.Labels.{labels_of}
use Rattle.merc_par_split.proofs.Leaving.{ok_weaker, lie_past, asked_left}
use Rattle.merc_par_split.proofs.placing.leave_asked.Goals as goal

pub leave_arms-requires : goal.leave_arms-requires
leave_arms-requires c =
    lie_past (labels_of c.args.occurrences.now) c.args.condition c.args.then_part c.args.else_part c.args.placing.now.first c.in_ok-past.past c.part_count.result c.in_ok-arms.arms.items
    c.requires c.in_ok-past.ensures c.part_count.ensures c.in_ok-arms.ensures

pub returns : goal.returns
returns c =
    ok_weaker c.push.result _ _
    (asked_left c.args.placing.now c.take_signals-signals.new.self c.args.condition c.args.then_part c.args.else_part c.in_ok-past.past c.part_count.result c.args.inside.now c.take_signals-signals.result
    c.in_ok-arms.arms.items c.without_rights.result c.args.tasks.now c.leave_arms.new.tasks c.push.new.self
    c.take_signals-signals.ensures.left c.in_ok-past.ensures c.part_count.ensures c.in_ok-arms.ensures c.take_signals-signals.ensures.taken c.without_rights.ensures c.in_ok-leave_arms.ensures) c.push.ensures
