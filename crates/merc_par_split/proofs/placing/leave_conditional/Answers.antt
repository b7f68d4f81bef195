use Rattle.merc_par_split.proofs.Leaving.{ok_weaker, conditional_left}
use Rattle.merc_par_split.proofs.placing.leave_conditional.Goals as goal

pub returns : goal.returns
returns c =
    let parted = c.in_ok-parted.parted in
    ok_weaker c.push.result _ _
    (conditional_left c.args.placing.now c.args.condition c.args.then_part c.args.else_part parted.before parted.inside c.span-span.result c.args.tasks.now c.leave_conditional_inside.new.tasks c.push.new.self
    c.in_ok-parted.ensures.before c.in_ok-parted.ensures.inside c.span-span.ensures c.in_ok-leave_conditional_inside.ensures) c.push.ensures
