use Rattle.std.proofs.Common.{length}
use Rattle.merc_goal_order.proofs.Beside.{asked_blank}
use Rattle.merc_goal_order.proofs.parallel.is_ready.Goals as goal

pub returns-clause-tells : goal.returns-clause-tells
returns-clause-tells c =
    asked_blank c.args.setting.now.predicates.now c.args.goal.now c.args.facts.now c.clear.new.marks c.advance.new.marks c.args.bound.now (length c.args.marks.now) c.advance.result c.clear.ensures c.requires.marked
    c.advance.ensures.asked
