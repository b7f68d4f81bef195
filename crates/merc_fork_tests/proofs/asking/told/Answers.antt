use Rattle.merc_fork_tests.proofs.asking.told.Goals as goal

pub told_of-told-requires-clause-means : goal.told_of-told-requires-clause-means
told_of-told-requires-clause-means c =
    let made = c.requires.3 c.args.limit in (made.0, c.in_ok-machine.ensures.starts c.requires.0 c.requires.1 c.requires.2 made.0 made.1)
