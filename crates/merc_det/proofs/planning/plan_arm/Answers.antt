use Rattle.merc_det.proofs.Pushing.{arm_put, no_arm}
use Rattle.merc_det.proofs.planning.plan_arm.Goals as goal

pub returns-in_ok-leave : goal.returns-in_ok-leave
returns-in_ok-leave c =
    arm_put c.args.known c.args.variable c.args.tasks.now.items c.plan_apart.new.tasks.items c.leave.new.tasks.items c.symbol_at.result c.in-Some.symbol c.args.body _
    c.symbol_at.ensures c.in-Some.is c.in_ok-plan_apart.ensures c.in_ok-leave.ensures

pub returns-in_default : goal.returns-in_default
returns-in_default c = no_arm c.args.known c.args.variable c.args.tasks.now.items c.symbol_at.result c.args.body _ c.symbol_at.ensures c.in_default.is
