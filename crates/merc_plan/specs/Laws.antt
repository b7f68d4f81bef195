-- What is promised of the courses of branches and of their scripts.
use Rattle.std.specs.Prelude.{ℕ, Bool, List}
use Rattle.merc_graded_tree.specs.Nodes.{Node}
use Rattle.merc_meaning.specs.Runs.{Program}
use Rattle.merc_course.specs.Courses.{node_course, call_course}
use Rattle.merc_plan.specs.Branch.{Hold, BranchCourse}
use Rattle.merc_plan.specs.Branches.{Plan, node_branch, call_branch}
use Rattle.merc_plan.specs.BranchScript.{script}
use Rattle.merc_plan.specs.Counting.{Accounts}
use Rattle.merc_plan.specs.Plays.{Plays}

-- What a goal does beside others, where it goes on by what it is told, belongs to the course of a branch that has its values, whatever rights the branch holds.
abbrev pub BranchesPlay : Type 0
BranchesPlay =
    (plan : Plan) (program : Program) (depth : ℕ) (goal : Node) (hold : Hold)
    → Plays (node_course program (call_course program depth) goal hold.env) (node_branch plan program (call_branch plan program depth) goal hold)

-- The items of a course's script account for its steps.
abbrev pub ScriptsAccount : Type 0
ScriptsAccount = (root : Bool) (course : BranchCourse) (left made : ℕ) (given : List ℕ) → Accounts left made (script root left made given course)
