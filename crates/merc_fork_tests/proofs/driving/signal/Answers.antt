use Rattle.merc_course.specs.Course.{Passed}
use Rattle.merc_fork_tests.proofs.driving.signal.Goals as goal

pub returns-clause-goes_on : goal.returns-clause-goes_on
returns-clause-goes_on c = let m = c.requires.means in (m.2 Passed, (c.in_ok-value.ensures.goes_on m.0 m.1 m.2 m.3).1)
