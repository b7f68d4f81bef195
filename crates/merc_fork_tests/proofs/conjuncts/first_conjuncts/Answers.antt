use Rattle.std.proofs.Common.{arith}
use Rattle.merc_fork_tests.proofs.conjuncts.first_conjuncts.Goals as goal

pub run-requires-clause-means : goal.run-requires-clause-means
run-requires-clause-means g c = λ none.
    let made = c.requires.3 1000 in (made.0, c.in_ok-machine.ensures.starts c.requires.0 c.requires.1 c.requires.2 made.0 made.1)

pub conjuncts_in_threads-steps-requires-clause-at : goal.conjuncts_in_threads-steps-requires-clause-at
conjuncts_in_threads-steps-requires-clause-at g c =
    let made = c.requires.3 1000 in (c.in-AtFork.ensures.ran made.0 (c.in_ok-machine.ensures.starts c.requires.0 c.requires.1 c.requires.2 made.0 made.1)).at

pub conjuncts_in_threads-steps-requires-clause-means : goal.conjuncts_in_threads-steps-requires-clause-means
conjuncts_in_threads-steps-requires-clause-means g c =
    let made = c.requires.3 1000 in
    let met = c.in-AtFork.ensures.ran made.0 (c.in_ok-machine.ensures.starts c.requires.0 c.requires.1 c.requires.2 made.0 made.1) in
    (met.forked, met.next, met.means)

pub conjuncts_in_threads-steps-requires-clause-fits : goal.conjuncts_in_threads-steps-requires-clause-fits
conjuncts_in_threads-steps-requires-clause-fits g c =
    let made = c.requires.3 1000 in
    let met = c.in-AtFork.ensures.ran made.0 (c.in_ok-machine.ensures.starts c.requires.0 c.requires.1 c.requires.2 made.0 made.1) in
    omega (arith, met.ran.spends, c.in_ok-machine.ensures.limit.1)
