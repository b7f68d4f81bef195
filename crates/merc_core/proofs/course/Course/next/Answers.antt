use Rattle.merc_core.proofs.StandingLaws.{next-wait, next-fork}
use Rattle.merc_core.proofs.course.Course.next.Goals as goal

pub returns-in-Wait : goal.returns-in-Wait
returns-in-Wait c = λ left at.
    next-wait c.args.self.now.items.items c.args.branch.now.at c.index.result.now c.requires c.index.ensures c.in-Wait.cell c.args.branch.now.ended left
    c.in_default.is c.in-Wait.is at

pub returns-in-Fork : goal.returns-in-Fork
returns-in-Fork c = λ left at.
    next-fork c.args.self.now.items.items c.args.branch.now.at c.index.result.now c.requires c.index.ensures c.in-Fork.fork c.args.branch.now.ended left
    c.in_default.is c.in-Fork.is at
