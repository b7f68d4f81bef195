use Rattle.std.proofs.Common.{◌+◌, ◌-◌, arith}
use Rattle.merc_goal_order.proofs.Positions.{some_parts}
use Rattle.merc_goal_order.proofs.Stretches.{next_place}
use Rattle.merc_goal_order.proofs.agenda.start_behind.Goals as goal

pub overflow_sub-own : goal.overflow_sub-own
overflow_sub-own c = omega (arith, some_parts c.args.goal.now c.part_count.result c.part_count.ensures)

pub bounds-facts-own : goal.bounds-facts-own
bounds-facts-own c = omega (arith, some_parts c.args.goal.now c.part_count.result c.part_count.ensures, c.part_count.ensures, c.requires.known)

pub returns-clause-place : goal.returns-clause-place
returns-clause-place c =
    let one = some_parts c.args.goal.now c.part_count.result c.part_count.ensures in
    next_place c.args.goal.now c.args.facts.now c.args.all.now c.args.here.at (c.args.here.at + c.part_count.result - 1) c.args.here.place c.place_behind.result c.index-facts-own.result
    (omega (arith, one, c.part_count.ensures)) c.index-facts-own.is c.place_behind.ensures.within
