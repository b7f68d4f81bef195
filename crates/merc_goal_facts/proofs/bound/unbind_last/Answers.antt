use Rattle.merc_goal_facts.proofs.Bounds.{bound_less}
use Rattle.merc_goal_facts.proofs.bound.unbind_last.Goals as goal

pub bounds-table-number : goal.bounds-table-number
bounds-table-number c =
    (bound_less c.args.table.now c.args.trail.now.items c.pop.new.self.items c.in-Some.last c.number.result c.number.ensures c.in-Some.ensures.items c.requires.tells c.requires.apart).room

pub returns-in-Some-clause-tells : goal.returns-in-Some-clause-tells
returns-in-Some-clause-tells c =
    (bound_less c.args.table.now c.args.trail.now.items c.pop.new.self.items c.in-Some.last c.number.result c.number.ensures c.in-Some.ensures.items c.requires.tells c.requires.apart).tells

pub returns-in-Some-clause-apart : goal.returns-in-Some-clause-apart
returns-in-Some-clause-apart c =
    (bound_less c.args.table.now c.args.trail.now.items c.pop.new.self.items c.in-Some.last c.number.result c.number.ensures c.in-Some.ensures.items c.requires.tells c.requires.apart).apart
