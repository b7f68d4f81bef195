use Rattle.std.proofs.Common.{arith}
use Rattle.merc_fork_tests.proofs.conjuncts.steps_before_meeting.Goals as goal

pub used-requires : goal.used-requires
used-requires c = omega (arith, (c.in-AtWait.ensures.ran c.requires.means.0 c.requires.means.1).ran.spends, c.requires.fits)

pub used-requires-in-AtSignal : goal.used-requires-in-AtSignal
used-requires-in-AtSignal c = omega (arith, (c.in-AtSignal.ensures.ran c.requires.means.0 c.requires.means.1).1.ran.spends, c.requires.fits)
