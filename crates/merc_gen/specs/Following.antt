-- Code that does what a goal does beside others.
use Rattle.std.specs.Prelude.{ℕ, List}
use Rattle.merc_graded_tree.specs.Nodes.{Node}
use Rattle.merc_meaning.specs.Runs.{Program, run}
use Rattle.merc_meaning.specs.Shown.{shown as run_shown}
use Rattle.merc_course.specs.Course.{whole}
use Rattle.merc_course.specs.Shown.{shown}
use Rattle.merc_course.specs.Courses.{course}
use Rattle.merc_code.specs.Steps.{Code, Codes}
use Rattle.merc_code.specs.Meaning.{Yields, start}

-- At every limit of steps the goal's code yields the goal's course, of whose answers it gives the values of these variables.
pub record Follows (program : Program) (goal : Node) (variables : List ℕ) (codes : Codes) (code : Code) : Type 0 where
  pub each_limit : (limit : ℕ) → Yields codes (start code limit) (shown variables (course program goal limit))

-- At every limit of steps it yields the goal's strict sequential run, and so it meets nobody.
pub record FollowsRun (program : Program) (goal : Node) (variables : List ℕ) (codes : Codes) (code : Code) : Type 0 where
  pub each_limit_runs : (limit : ℕ) → Yields codes (start code limit) (whole (run_shown variables (run program goal limit)))
