use Rattle.std.proofs.Common.{arith}
use Rattle.merc_fork_tests.proofs.conjuncts.conjuncts_in_threads.Goals as goal

pub steps_in_threads-requires-clause-one : goal.steps_in_threads-requires-clause-one
steps_in_threads-requires-clause-one g c =
    let m = c.requires.means in
    let made = c.child.ensures.forked m.0 m.1 m.2 in
    (made.0, c.in_ok-one.ensures.means m.0 m.1 m.2 made.0 made.1, omega (arith, c.in_ok-one.ensures.limit.1, c.requires.fits))

pub steps_in_threads-requires-clause-other : goal.steps_in_threads-requires-clause-other
steps_in_threads-requires-clause-other g c =
    let m = c.requires.means in
    let made = c.child-2.ensures.forked m.0 m.1 m.2 in
    (made.0, c.in_ok-other.ensures.means m.0 m.1 m.2 made.0 made.1, omega (arith, c.in_ok-other.ensures.limit.1, c.requires.fits))
