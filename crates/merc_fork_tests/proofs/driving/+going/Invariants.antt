use Rattle.std.proofs.Common.{◌+◌, ◌*◌, ◌≤◌}
use Rattle.merc_course.specs.Course.{RunCourse}
use Rattle.merc_machine.specs.Coming.{all_left}
use Rattle.merc_machine.specs.Running.{Means, steps_in}
use Rattle.merc_fork_tests.proofs.driving.+going.Given as goal

-- A call's measure is five times the depth up to which forks may be nested, and the rank of the function.

abbrev pub decreases-run_on : goal.decreases-run_on
decreases-run_on l = 5 * l.depth + 4

abbrev pub decreases-go_on : goal.decreases-go_on
decreases-go_on l = 5 * l.depth + 3

abbrev pub decreases-run_fork : goal.decreases-run_fork
decreases-run_fork l = 5 * l.depth + 2

abbrev pub decreases-run_conjuncts : goal.decreases-run_conjuncts
decreases-run_conjuncts l = 5 * l.depth + 1

abbrev pub decreases-run_conjunct : goal.decreases-run_conjunct
decreases-run_conjunct l = 5 * l.depth

abbrev pub invariant-run_on-loop : goal.invariant-run_on-loop
invariant-run_on-loop l = record {
  means : (course : RunCourse) × Means l.machine course;
  fits : all_left l.machine ≤ 18446744073709551615;
}

abbrev pub invariant-run_conjuncts-loop-number : goal.invariant-run_conjuncts-loop-number
invariant-run_conjuncts-loop-number l = steps_in l.outcome ≤ all_left l.machine
