-- Worked examples of the script of a goal and of the scripts of its conjuncts: `X = 1 & Y = X`, of which Y is used behind it.
use Rattle.std.specs.Prelude.{◌≡◌, pos, true, [], ◌∷◌, Some, None, refl}
use Rattle.merc_base.specs.declared.category.Category.TheVariants.{Det}
use Rattle.merc_base.specs.declared.place.Span.{Span}
use Rattle.merc_goal_tree.specs.declared.goal.Symbol.TheVariants.{Integer}
use Rattle.merc_graded_tree.specs.declared.basic.BasicGoal.TheVariants.{True, Assign, Build}
use Rattle.merc_graded_tree.specs.declared.entries.Running.TheVariants.{Parallel}
use Rattle.merc_graded_tree.specs.Nodes.{Node, node, Basic, Conjunction, no_nodes, more_nodes}
use Rattle.merc_value.specs.Value.{Value, Int}
use Rattle.merc_meaning.specs.Runs.{Program, run}
use Rattle.merc_meaning.specs.Programs.{program_with}
use Rattle.merc_script.specs.declared.outcome.Outcome.TheVariants.{Ok as Fine}
use Rattle.merc_script.specs.Script.{Ends, TickThen, WaitThen, SignalThen, ForkThen, NoChild, Child, end_of}
use Rattle.merc_plan.specs.Branch.{Fork}
use Rattle.merc_plan.specs.Hold.{holding}
use Rattle.merc_plan.specs.Branches.{first_name, root_branch}
use Rattle.merc_plan.specs.BranchScript.{shown_by}
use Rattle.merc_plan.specs.EachFork.{EachFork, JoinShows}
use Rattle.merc_script_laws.specs.ScriptLaws.{goal_script, split_goal, split_plan, split_program}

abbrev nowhere : Span
nowhere = record { first = 0; past = 0; line = 1 }

abbrev x_is_one : Node
x_is_one = node (Basic (Build 0 (Integer (pos 1)) [])) (0 ∷ []) (Some Det) nowhere

abbrev y_is_x : Node
y_is_x = node (Basic (Assign 1 0)) (1 ∷ []) (Some Det) nowhere

abbrev beside : Node
beside = node (Conjunction (Parallel None) (more_nodes x_is_one (more_nodes y_is_x no_nodes))) (1 ∷ []) (Some Det) nowhere

abbrev one : Value
one = Int (pos 1)

-- The first conjunct signals X to the second, which signals Y to the goals behind them.
goal_script-example : goal_script [] [] beside 5
    ≡ ForkThen 5 (record { cell = 0; producer = 1; consumer = 2; value = Some one } ∷ record { cell = 1; producer = 2; consumer = 0; value = Some one } ∷ []) []
    (Child (SignalThen 0 (Ends (Fine 0))) (Child (WaitThen 0 (SignalThen 1 (Ends (Fine 0)))) NoChild)) (WaitThen 1 (Ends (Fine 0)))
goal_script-example = refl

goal_script-not : goal_script [] [] beside 5 ≡ Ends (Fine 0) → ⊥
goal_script-not in_turn = cc

abbrev program : Program
program = program_with [] []

ends-example : end_of (goal_script [] [] beside 5) ≡ shown_by 0 (run program beside 5)
ends-example = refl

-- The fork is reached with all steps left, where nothing has a value. What its scripts join to is what its goals show one after the other: no step.
each_fork-example : EachFork (JoinShows program) true 5 [] (root_branch (split_plan [] beside) (split_program [] []) 6 (split_goal [] beside))
each_fork-example = (
  record { env = []; begins = λ variable occurs. refl; depth = 6; enough = tt; shows = refl },
  ((tt, λ steps is. (tt, λ more is. tt)), λ steps is. tt),
)

-- two goals side by side that make no step, and scripts of which one does
abbrev idle : Node
idle = node (Basic True) [] (Some Det) nowhere

abbrev idle_fork : Fork
idle_fork = record { cells = []; moves = []; goals = more_nodes idle (more_nodes idle no_nodes); before = holding [] first_name }

join_shows-example : JoinShows program 5 idle_fork (Child (Ends (Fine 0)) (Child (Ends (Fine 0)) NoChild))
join_shows-example = record { env = []; begins = λ variable occurs. refl; depth = 6; enough = tt; shows = refl }

join_shows-not : JoinShows program 5 idle_fork (Child (TickThen (Ends (Fine 1))) (Child (Ends (Fine 0)) NoChild)) → ⊥
join_shows-not join = let shows = join.shows in cc
