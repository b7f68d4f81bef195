-- What a session needs of what is asked.
use Rattle.std.specs.Prelude.{◌≡◌, ℕ, ◌≤◌, List}
use Rattle.merc_meaning.specs.Trace.{Run}
use Rattle.merc_course.specs.Course.{RunCourse}
use Rattle.merc_script.specs.Script.{Script}
use Rattle.merc_core.specs.WellFormed.{cells_of, value_in, most_steps}
use Rattle.merc_rights.specs.declared.sites.SiteInfo.{SiteInfo}
use Rattle.merc_machine.specs.declared.machine.Machine.{Machine}
use Rattle.merc_machine.specs.Coming.{all_left}
use Rattle.merc_machine.specs.Running.{Means}
use Rattle.merc_board.specs.Rights.{no_rights}
use Rattle.merc_carried.specs.KeepsTo.{KeepsTo}

-- A machine that has made no step has a course before it that keeps to the script of the goal, and shows the run.
pub record Asks (machine : Machine) (sites : List SiteInfo) (root : Script) (run : Run) : Type 0 where
  pub course : RunCourse
  pub means : Means machine course
  pub begins : all_left machine ≡ machine.limit
  pub few : machine.limit ≤ most_steps
  pub keeps : KeepsTo sites (value_in (cells_of root)) no_rights machine.limit 0 run course root
