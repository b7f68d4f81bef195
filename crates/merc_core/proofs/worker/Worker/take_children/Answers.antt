use Rattle.std.proofs.Common.{◌∙◌, ◌-◌, ◌++◌, length, drop, ap, arith}
use Rattle.merc_core.proofs.QueueLists.{take-less}
use Rattle.merc_core.proofs.worker.Worker.take_children.Goals as goal

pub move_all-requires : goal.move_all-requires
move_all-requires c =
    let e = ap length c.move_last.ensures.from in let t = take-less (length c.args.born - 1) c.args.born in omega (arith, e, t, c.requires.room)

pub returns-clause-hand : goal.returns-clause-hand
returns-clause-hand c = c.move_last.ensures.into ∙ ap (λ l. l ++ drop (length c.args.born - 1) c.args.born) c.requires.free

pub returns-clause-list : goal.returns-clause-list
returns-clause-list c = c.move_all.ensures.into ∙ ap (λ l. c.args.self.now.list ++ l) c.move_last.ensures.from
