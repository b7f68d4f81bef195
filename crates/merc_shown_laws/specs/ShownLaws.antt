-- What holds of the runs that accepted goals show along their scripts.
use Rattle.std.specs.Prelude.{ℕ, ◌≤◌, List}
use Rattle.merc_tree.specs.Term.{Term}
use Rattle.merc_tree.specs.declared.declarations.PredDecl.{PredDecl}
use Rattle.merc_tree.specs.declared.declarations.Module.{Module}
use Rattle.merc_graded_tree.specs.Nodes.{Node}
use Rattle.merc_meaning.specs.Runs.{run}
use Rattle.merc_meaning.specs.Programs.{program_with}
use Rattle.merc_meaning.specs.Shown.{shown}
use Rattle.merc_check.specs.Accepted.{query_answers}
use Rattle.merc_check.specs.Checked.{IsGoal}
use Rattle.merc_program_laws.specs.AcceptedLaws.{IsChecked, IsGradedGoal}
use Rattle.merc_core.specs.WellFormed.{most_steps, cells_of, value_in}
use Rattle.merc_course.specs.Courses.{course}
use Rattle.merc_course.specs.Shown.{shown as course_shown}
use Rattle.merc_script_laws.specs.Parallel.{AreWithin}
use Rattle.merc_script_laws.specs.ScriptLaws.{goal_script, split_goal, split_program}
use Rattle.merc_shown_laws.specs.Shows.{Shows}

-- What a goal does beside others, of which its answers show the values of these variables, shows along its script the goal's run, of which they show the same.
abbrev pub ShowsItsRun : List PredDecl → List Node → Node → ℕ → List ℕ → Type 0
ShowsItsRun predicates trees tree limit variables =
    Shows (value_in (cells_of (goal_script predicates trees tree limit))) limit (shown variables (run (program_with predicates trees) tree limit))
    (course_shown variables (course (split_program predicates trees) (split_goal trees tree) limit)) (goal_script predicates trees tree limit)

-- So it is for each accepted goal over an accepted module, at each limit of steps that there may be, and for all or some of the goal's answer variables.
abbrev pub RootsShowRuns : Type 0
RootsShowRuns =
    (before after : List (List ℕ)) (text : List ℕ) (items : List Term) (found : Module) (trees : List Node) → IsChecked before after text items found trees
    → (names : List (List ℕ)) (asked : List ℕ) (goal : Term) → IsGoal after names found asked goal → (tree : Node) → IsGradedGoal names found goal tree
    → (limit : ℕ) → limit ≤ most_steps → (variables : List ℕ) → AreWithin variables (query_answers names found goal) → ShowsItsRun found.preds trees tree limit variables
