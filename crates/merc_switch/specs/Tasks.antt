-- What is to be done to find the switches of a goal.
use Rattle.std.specs.Prelude.{◌≡◌, ◌≤◌, ◌<◌, ℕ, suc, ◌+◌, ◌-◌, List, [], ◌∷◌, ◌++◌, length, map, take}
use Rattle.std.specs.List.{AllByRecursion}
use Rattle.merc_tree.specs.Types.{TypeExpr}
use Rattle.merc_tree.specs.declared.declarations.TypeDef.{TypeDef}
use Rattle.merc_graded_tree.specs.Nodes.{Node, node, Goal, Basic, Conjunction, Disjunction, Switch, Conditional, Negation, Quantified, Nodes, no_nodes, more_nodes, list_of, outputs_of, span_of}
use Rattle.merc_graded_tree.specs.Roots.{arity_of, last_joined}
use Rattle.merc_order.specs.Bound.{Bound, among}
use Rattle.merc_grading.specs.Switches.{split_variables, regrouped, find}
use Rattle.merc_grading.specs.Fitting.{Fits}
use Rattle.merc_switch.specs.declared.tasks.Group.{Group}
use Rattle.merc_switch.specs.declared.tasks.Task.{Task}
use Rattle.merc_switch.specs.declared.tasks.Task.TheVariants.{Find, Keep, Bind, Unbind, Judge, Close}
use Rattle.merc_switch_choice.specs.Variables.{all_behind}

-- The tasks have enough goals, where there are so many before: what is closed joins no more than there are.
abbrev pub HaveEnough : ℕ → List Task → Type 0
HaveEnough count [] = Unit {0}
HaveEnough count (Find goal ∷ tasks) = HaveEnough (suc count) tasks
HaveEnough count (Keep goal ∷ tasks) = HaveEnough (suc count) tasks
HaveEnough count (Bind goal ∷ tasks) = HaveEnough count tasks
HaveEnough count (Unbind mark ∷ tasks) = HaveEnough count tasks
HaveEnough count (Judge group ∷ tasks) = HaveEnough (suc count) tasks
HaveEnough count (Close label ∷ tasks) = (arity_of label.root ≤ count) × HaveEnough (suc (count - arity_of label.root)) tasks

-- how much a goal gives to do
abbrev mutual
  pub effort : Node → ℕ
  effort (node goal outputs category span) = suc (goal_effort goal)

  pub goal_effort : Goal → ℕ
  goal_effort (Basic goal) = 1
  goal_effort (Conjunction running goals) = 2 + all_effort 1 goals
  goal_effort (Disjunction goals) = 2 + all_effort (suc (length (split_variables (list_of goals)))) goals
  goal_effort (Switch variable arms) = 1
  goal_effort (Conditional condition then_part else_part) = 3 + (effort condition + (effort then_part + effort else_part))
  goal_effort (Negation goal) = 1 + effort goal
  goal_effort (Quantified own goal) = 1 + effort goal

  -- goals with so much more for each
  pub all_effort : ℕ → Nodes → ℕ
  all_effort more no_nodes = 0
  all_effort more (more_nodes first rest) = (more + effort first) + all_effort more rest

abbrev pub load : ℕ → List Node → ℕ
load more [] = 0
load more (first ∷ rest) = (more + effort first) + load more rest

abbrev pub task_effort : Task → ℕ
task_effort (Find goal) = effort goal
task_effort (Keep goal) = 1
task_effort (Bind goal) = 1
task_effort (Unbind mark) = 1
task_effort (Judge group) = 2 + load (suc group.left) group.selected.disjuncts
task_effort (Close label) = 1

abbrev pub total : List Task → ℕ
total [] = 0
total (task ∷ tasks) = task_effort task + total tasks

-- Given are the declared types and the type of each variable.
module _ (declared : List TypeDef) (types : ℕ → TypeExpr) where
  -- goals with their switches, each from what is bound
  abbrev pub found_in : Bound → List Node → List Node
  found_in bound goals = map (λ goal. find declared types bound goal) goals

  -- the goal that disjuncts become
  abbrev pub judged : Bound → Group → Node
  judged bound group =
      node (regrouped declared types group.left (outputs_of group.selected.whole) (span_of group.selected.whole) bound group.used (found_in bound group.selected.disjuncts)) group.outputs group.category (span_of group.selected.whole)

  -- these goals once the tasks are done, where these variables are bound before
  abbrev pub done : List Task → List Node → List ℕ → List Node
  done [] goals bound = goals
  done (Find goal ∷ tasks) goals bound = done tasks (goals ++ find declared types (among bound) goal ∷ []) bound
  done (Keep goal ∷ tasks) goals bound = done tasks (goals ++ goal ∷ []) bound
  done (Bind goal ∷ tasks) goals bound = done tasks goals (all_behind bound (outputs_of goal))
  done (Unbind mark ∷ tasks) goals bound = done tasks goals (take mark bound)
  done (Judge group ∷ tasks) goals bound = done tasks (goals ++ judged (among bound) group ∷ []) bound
  done (Close label ∷ tasks) goals bound = done tasks (last_joined label goals) bound

  -- the symbols in a task fit the types of their variables
  abbrev pub FitsTask : Task → Type 0
  FitsTask (Find goal) = Fits declared types goal
  FitsTask (Keep goal) = Unit {0}
  FitsTask (Bind goal) = Unit {0}
  FitsTask (Unbind mark) = Unit {0}
  FitsTask (Judge group) = AllByRecursion (Fits declared types) group.selected.disjuncts
  FitsTask (Close label) = Unit {0}

-- A task has been done or planned: what comes out in the end is the same, and less is left to do.
pub record Performs (declared : List TypeDef) (tasks : List Task) (goals : List Node) (bound : List ℕ) (tasks' : List Task) (goals' : List Node) (bound' : List ℕ) : Type 0 where
  pub same : (types : ℕ → TypeExpr) → AllByRecursion (FitsTask declared types) tasks → done declared types tasks goals bound ≡ done declared types tasks' goals' bound'
  pub fits : (types : ℕ → TypeExpr) → AllByRecursion (FitsTask declared types) tasks → AllByRecursion (FitsTask declared types) tasks'
  pub enough : HaveEnough (length goals) tasks → HaveEnough (length goals') tasks'
  pub smaller : total tasks' < total tasks
