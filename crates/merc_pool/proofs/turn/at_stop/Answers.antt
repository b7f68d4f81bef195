use Rattle.merc_pool.proofs.turn.at_stop.Goals as goal

pub returns-in-SliceOver : goal.returns-in-SliceOver
returns-in-SliceOver g c = let come = rw c.in-SliceOver.is at c.requires.come in ((come.0, come.1, (come.2, come.3)), c.requires.allowed)

pub returns-in_default : goal.returns-in_default
returns-in_default g c =
    let come = c.requires.come in
    (c.stopped.ensures c.args.shared.now.board c.args.worker.now.seat come, c.requires.allowed)
