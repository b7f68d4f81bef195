use Rattle.std.proofs.Common.{◌≤◌}
use Rattle.merc_course.specs.Course.{RunCourse}
use Rattle.merc_machine.specs.Coming.{all_left}
use Rattle.merc_machine.specs.Running.{Means}
use Rattle.merc_fork_tests.proofs.asking.put_lines.Given as goal

abbrev pub invariant-loop : goal.invariant-loop
invariant-loop l = record {
  means : (course : RunCourse) × Means l.machine course;
  fits : all_left l.machine ≤ 18446744073709551615;
}
