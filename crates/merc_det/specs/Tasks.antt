-- What is to be done to grade goals, and what comes of it. The last of a list of tasks comes first.
use Rattle.std.specs.Prelude.{◌≡◌, ℕ, suc, ◌+◌, ◌-◌, ◌≤◌, Bool, List, [], ◌∷◌, ◌++◌, length, Option, Some, None, slice_get, if◌then◌else◌}
use Rattle.merc_base.specs.Category.{most_of}
use Rattle.merc_tree.specs.Types.{TypeExpr}
use Rattle.merc_tree.specs.declared.declarations.ModeDecl.{ModeDecl}
use Rattle.merc_tree.specs.declared.declarations.TypeDef.{TypeDef}
use Rattle.merc_goal_tree.specs.declared.goal.Symbol.{Symbol}
use Rattle.merc_graded_tree.specs.declared.entries.Running.{Running}
use Rattle.merc_graded_tree.specs.declared.entries.Running.TheVariants.{Sequential, Parallel}
use Rattle.merc_graded_tree.specs.Nodes.{Node, node, Goal, Basic, Conjunction, Disjunction, Switch, Conditional, Negation, Quantified, Nodes, no_nodes, more_nodes, Arms, no_arms, more_arms, goal_of}
use Rattle.merc_graded_tree.specs.Roots.{arity_of, root_of}
use Rattle.merc_grading.specs.Categories.{is_zero}
use Rattle.merc_grading.specs.Fitting.{Fits}
use Rattle.merc_grading.specs.Grading as grading
use Rattle.merc_grading.specs.Grading.{category_at, handed_on}
use Rattle.merc_grading.specs.Known.{Known, known_behind}
use Rattle.merc_det.specs.Closing.{closed, known_behind_root}
use Rattle.merc_det.specs.Folding.{category_in}
use Rattle.merc_det.specs.Seen.{back_to}
use Rattle.merc_det.specs.declared.planning.Task.{Task}
use Rattle.merc_det.specs.declared.planning.Task.TheVariants.{Grade, Beside, Withhold, Recall, Tell, Learn, Forget, Close}

-- A goal of a conjunction: one of `&` may hand on nothing.
abbrev pub conjunct_task : Running → Node → Task
conjunct_task Sequential goal = Grade goal
conjunct_task (Parallel site) goal = Beside goal

-- Where so many symbols are known before: goals one after the other, or beside one another,
abbrev pub tasks_in_turn : Running → Nodes → List Task
tasks_in_turn running no_nodes = []
tasks_in_turn running (more_nodes first rest) = tasks_in_turn running rest ++ conjunct_task running first ∷ []

-- goals of which each starts from what is known before all,
abbrev pub choice_tasks : ℕ → Nodes → List Task
choice_tasks known no_nodes = []
choice_tasks known (more_nodes first rest) = choice_tasks known rest ++ Forget known ∷ Grade first ∷ []

-- an arm, in which its symbol is known, if it has one,
abbrev pub arm_task : ℕ → ℕ → Option Symbol → Node → List Task
arm_task known variable None body = []
arm_task known variable (Some symbol) body = Forget known ∷ Grade body ∷ Learn variable symbol ∷ []

-- and arms.
abbrev pub arm_tasks : ℕ → ℕ → Arms → List Task
arm_tasks known variable no_arms = []
arm_tasks known variable (more_arms symbol body rest) = arm_tasks known variable rest ++ arm_task known variable (Some symbol) body

-- the goals that a goal joins
abbrev pub inner_tasks : ℕ → Goal → List Task
inner_tasks known (Basic goal) = []
inner_tasks known (Conjunction running goals) = tasks_in_turn running goals
inner_tasks known (Disjunction goals) = choice_tasks known goals
inner_tasks known (Switch variable arms) = arm_tasks known variable arms
inner_tasks known (Conditional condition then_part else_part) =
    Forget known ∷ Grade else_part ∷ Forget known ∷ Grade then_part ∷ Grade condition ∷ []
inner_tasks known (Negation goal) = Forget known ∷ Grade goal ∷ []
inner_tasks known (Quantified own goal) = Grade goal ∷ []

-- behind a goal all that the conjuncts of `&` tell, those that have no solution too,
abbrev pub recall_tasks : ℕ → Node → Goal → List Task
recall_tasks known whole (Basic goal) = []
recall_tasks known whole (Conjunction Sequential goals) = []
recall_tasks known whole (Conjunction (Parallel site) goals) = Recall whole ∷ Withhold known ∷ []
recall_tasks known whole (Disjunction goals) = []
recall_tasks known whole (Switch variable arms) = []
recall_tasks known whole (Conditional condition then_part else_part) = []
recall_tasks known whole (Negation goal) = []
recall_tasks known whole (Quantified own goal) = []

-- and the goal itself between them
abbrev pub plan : ℕ → Node → List Task
plan known whole = recall_tasks known whole (goal_of whole) ++ Close whole ∷ inner_tasks known (goal_of whole)

-- Goals that tell again what they tell.

abbrev pub tell_tasks : Nodes → List Task
tell_tasks no_nodes = []
tell_tasks (more_nodes first rest) = tell_tasks rest ++ Tell first ∷ []

-- the goals of which a goal hands on what they tell
abbrev pub inner_tells : Goal → List Task
inner_tells (Basic goal) = []
inner_tells (Conjunction running goals) = tell_tasks goals
inner_tells (Disjunction goals) = []
inner_tells (Switch variable arms) = []
inner_tells (Conditional condition then_part else_part) = []
inner_tells (Negation goal) = []
inner_tells (Quantified own goal) = Tell goal ∷ []

-- the last of goals has no solution
abbrev pub last_has_none : List Node → Bool
last_has_none goals = is_zero (most_of (category_in (slice_get goals (length goals - 1))))

-- The goals that have their categories, and what is known of variables.
pub record Progress : Type 0 where
  pub goals : List Node
  pub known : Known

-- Given are the declared types, the modes of each predicate, and the type of each variable.
module _ (declared : List TypeDef) (modes : ℕ → List ModeDecl) (types : ℕ → TypeExpr) where
  abbrev pub after : Task → Progress → Progress
  after (Grade goal) at = record { goals = at.goals ++ grading.graded declared modes types at.known goal ∷ []; known = known_behind goal at.known }
  after (Beside goal) at =
      let one = grading.graded declared modes types at.known goal in
      record { goals = at.goals ++ one ∷ []; known = handed_on (Parallel None) (category_at one) (known_behind goal at.known) at.known }
  after (Withhold count) at = record { goals = at.goals; known = if last_has_none at.goals then back_to count at.known else at.known }
  after (Recall goal) at = record { goals = at.goals; known = if last_has_none at.goals then known_behind goal at.known else at.known }
  after (Tell goal) at = record { goals = at.goals; known = known_behind goal at.known }
  after (Learn variable symbol) at = record { goals = at.goals; known = (variable, symbol) ∷ at.known }
  after (Forget count) at = record { goals = at.goals; known = back_to count at.known }
  after (Close goal) at = record { goals = closed declared modes types at.known goal at.goals; known = known_behind_root (root_of (goal_of goal)) at.known }

  abbrev pub after_all : List Task → Progress → Progress
  after_all [] at = at
  after_all (first ∷ rest) at = after first (after_all rest at)

-- The symbols of tasks' goals fit the types of their variables.
module _ (declared : List TypeDef) (types : ℕ → TypeExpr) where
  abbrev pub TaskFits : Task → Type 0
  TaskFits (Grade goal) = Fits declared types goal
  TaskFits (Beside goal) = Fits declared types goal
  TaskFits (Withhold count) = Unit {0}
  TaskFits (Recall goal) = Unit {0}
  TaskFits (Tell goal) = Unit {0}
  TaskFits (Learn variable symbol) = Unit {0}
  TaskFits (Forget count) = Unit {0}
  TaskFits (Close goal) = Fits declared types goal

  abbrev pub TasksFit : List Task → Type 0
  TasksFit [] = Unit {0}
  TasksFit (first ∷ rest) = TaskFits first × TasksFit rest

-- How many goals have their categories, where so many had them before.

abbrev pub count_after : Task → ℕ → ℕ
count_after (Grade goal) count = suc count
count_after (Beside goal) count = suc count
count_after (Withhold known) count = count
count_after (Recall goal) count = count
count_after (Tell goal) count = count
count_after (Learn variable symbol) count = count
count_after (Forget known) count = count
count_after (Close goal) count = suc (count - arity_of (root_of (goal_of goal)))

abbrev pub count_after_all : List Task → ℕ → ℕ
count_after_all [] count = count
count_after_all (first ∷ rest) count = count_after first (count_after_all rest count)

-- There are as many goals as a task joins, or looks at.
abbrev pub IsEnough : Task → ℕ → Type 0
IsEnough (Grade goal) count = Unit {0}
IsEnough (Beside goal) count = Unit {0}
IsEnough (Withhold known) count = 1 ≤ count
IsEnough (Recall goal) count = 1 ≤ count
IsEnough (Tell goal) count = Unit {0}
IsEnough (Learn variable symbol) count = Unit {0}
IsEnough (Forget known) count = Unit {0}
IsEnough (Close goal) count = arity_of (root_of (goal_of goal)) ≤ count

abbrev pub AreEnough : List Task → ℕ → Type 0
AreEnough [] count = Unit {0}
AreEnough (first ∷ rest) count = IsEnough first (count_after_all rest count) × AreEnough rest count

-- How many turns goals take at most to tell again what they tell.
abbrev mutual
  pub tell_turns : Node → ℕ
  tell_turns (node goal outputs category span) = suc (goal_tell_turns goal)

  pub goal_tell_turns : Goal → ℕ
  goal_tell_turns (Basic goal) = 0
  goal_tell_turns (Conjunction running goals) = all_tell_turns goals
  goal_tell_turns (Disjunction goals) = 0
  goal_tell_turns (Switch variable arms) = 0
  goal_tell_turns (Conditional condition then_part else_part) = 0
  goal_tell_turns (Negation goal) = 0
  goal_tell_turns (Quantified own goal) = tell_turns goal

  pub all_tell_turns : Nodes → ℕ
  all_tell_turns no_nodes = 0
  all_tell_turns (more_nodes first rest) = tell_turns first + all_tell_turns rest

-- How many turns tasks take at most: a goal takes its own, that of the goal itself behind those that it joins, and theirs, with two more for each.
-- A conjunction may take those to tell what its goals tell as well, and three more.

abbrev mutual
  pub turns : Node → ℕ
  turns (node goal outputs category span) = suc (suc (goal_turns goal))

  pub goal_turns : Goal → ℕ
  goal_turns (Basic goal) = 0
  goal_turns (Conjunction running goals) = suc (suc (suc (all_tell_turns goals + joined_turns goals)))
  goal_turns (Disjunction goals) = joined_turns goals
  goal_turns (Switch variable arms) = arm_turns arms
  goal_turns (Conditional condition then_part else_part) = suc (suc (turns condition + (turns then_part + turns else_part)))
  goal_turns (Negation goal) = suc (turns goal)
  goal_turns (Quantified own goal) = turns goal

  pub joined_turns : Nodes → ℕ
  joined_turns no_nodes = 0
  joined_turns (more_nodes first rest) = suc (suc (turns first + joined_turns rest))

  pub arm_turns : Arms → ℕ
  arm_turns no_arms = 0
  arm_turns (more_arms symbol body rest) = suc (suc (turns body + arm_turns rest))

abbrev pub task_turns : Task → ℕ
task_turns (Grade goal) = turns goal
task_turns (Beside goal) = suc (suc (turns goal))
task_turns (Withhold known) = 1
task_turns (Recall goal) = suc (tell_turns goal)
task_turns (Tell goal) = tell_turns goal
task_turns (Learn variable symbol) = 1
task_turns (Forget known) = 1
task_turns (Close goal) = 1

abbrev pub all_turns : List Task → ℕ
all_turns [] = 0
all_turns (first ∷ rest) = task_turns first + all_turns rest

-- Tasks that fit lead to what these lead to, and fit as well.
module _ (declared : List TypeDef) (modes : ℕ → List ModeDecl) (types : ℕ → TypeExpr) where
  pub record Leads (before : List Task) (from : Progress) (later : List Task) (to : Progress) : Type 0 where
    pub fit : TasksFit declared types later
    pub same : after_all declared modes types later to ≡ after_all declared modes types before from

  abbrev pub Keeps : List Task → Progress → List Task → Progress → Type 0
  Keeps before from later to = TasksFit declared types before → Leads before from later to
