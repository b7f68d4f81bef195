-- What the laws of branches say.
use Rattle.std.specs.Prelude.{ℕ, ◌≤◌, List, [], ◌∷◌, ◌++◌, Option}
use Rattle.merc_tree.specs.Term.{Term}
use Rattle.merc_tree.specs.declared.declarations.PredDecl.{PredDecl}
use Rattle.merc_tree.specs.declared.declarations.Module.{Module}
use Rattle.merc_graded_tree.specs.Nodes.{Node}
use Rattle.merc_value.specs.Value.{Value}
use Rattle.merc_meaning.specs.Trace.{Run}
use Rattle.merc_meaning.specs.Runs.{run}
use Rattle.merc_meaning.specs.Programs.{program_with}
use Rattle.merc_meaning.specs.Shown.{shown}
use Rattle.merc_check.specs.Accepted.{query_answers}
use Rattle.merc_check.specs.Checked.{IsGoal}
use Rattle.merc_program_laws.specs.AcceptedLaws.{IsChecked, IsGradedGoal}
use Rattle.merc_script.specs.Script.{Script}
use Rattle.merc_core.specs.WellFormed.{most_steps, cells_of, value_in}
use Rattle.merc_course.specs.Course.{RunCourse}
use Rattle.merc_course.specs.Courses.{course}
use Rattle.merc_course.specs.Shown.{shown as course_shown}
use Rattle.merc_rights.specs.declared.sites.SiteInfo.{SiteInfo}
use Rattle.merc_par_split.specs.Sites.{all_sites}
use Rattle.merc_board.specs.Rights.{Rights, no_rights}
use Rattle.merc_plan.specs.Stands.{Stands}
use Rattle.merc_script_laws.specs.Parallel.{AreWithin}
use Rattle.merc_script_laws.specs.ScriptLaws.{OfEachGoal, goal_script, split_goal, split_program}
use Rattle.merc_carried.specs.KeepsTo.{KeepsTo}
use Rattle.merc_shown_laws.specs.Shows.{Shows}
use Rattle.merc_branch_laws.specs.Dealing.{Deals}

-- what stands at the sites of split trees, and at those of a goal that is asked behind them
abbrev pub split_sites : List Node → Node → List SiteInfo
split_sites trees goal = all_sites (trees ++ goal ∷ [])

-- Of each accepted goal: a board that begins with no rights, and deals out what stands at the sites of the split trees, finds the cells of the goal's script.
abbrev pub RightsFindCells : Type 0
RightsFindCells = OfEachGoal (λ found trees tree limit.
    Deals (split_sites trees tree) (value_in (cells_of (goal_script found.preds trees tree limit))) no_rights limit 0
    (course (split_program found.preds trees) (split_goal trees tree) limit) (goal_script found.preds trees tree limit))

-- a course of which the rights find the cells stands at its script
abbrev pub DealsStand : Type 0
DealsStand = (sites : List SiteInfo) (values : ℕ → Option Value) (rights : Rights) (left made : ℕ) (course : RunCourse) (script : Script)
    → Deals sites values rights left made course script → Stands values course script

-- It keeps to its script: with the run that it shows, where one is told, and for a branch that shows none with some run.
abbrev pub DealsKeepToRuns : Type 0
DealsKeepToRuns = (sites : List SiteInfo) (values : ℕ → Option Value) (rights : Rights) (left made : ℕ) (run : Run) (course : RunCourse) (script : Script)
    → Deals sites values rights left made course script → Shows values left run course script → KeepsTo sites values rights left made run course script

abbrev pub DealsKeepToSome : Type 0
DealsKeepToSome = (sites : List SiteInfo) (values : ℕ → Option Value) (rights : Rights) (left made : ℕ) (course : RunCourse) (script : Script)
    → Deals sites values rights left made course script → (run : Run) × KeepsTo sites values rights left made run course script

-- What a goal does beside others, of which its answers show the values of these variables, keeps to its script with the goal's run, of which they show the same.
abbrev pub KeepsToScript : List PredDecl → List Node → Node → ℕ → List ℕ → Type 0
KeepsToScript predicates trees tree limit variables =
    KeepsTo (split_sites trees tree) (value_in (cells_of (goal_script predicates trees tree limit))) no_rights limit 0 (shown variables (run (program_with predicates trees) tree limit))
    (course_shown variables (course (split_program predicates trees) (split_goal trees tree) limit)) (goal_script predicates trees tree limit)

-- So it is for each accepted goal over an accepted module, at each limit of steps that there may be, and for all or some of the goal's answer variables.
abbrev pub GoalsKeepToScripts : Type 0
GoalsKeepToScripts =
    (before after : List (List ℕ)) (text : List ℕ) (items : List Term) (found : Module) (trees : List Node) → IsChecked before after text items found trees
    → (names : List (List ℕ)) (asked : List ℕ) (goal : Term) → IsGoal after names found asked goal → (tree : Node) → IsGradedGoal names found goal tree
    → (limit : ℕ) → limit ≤ most_steps → (variables : List ℕ) → AreWithin variables (query_answers names found goal) → KeepsToScript found.preds trees tree limit variables
