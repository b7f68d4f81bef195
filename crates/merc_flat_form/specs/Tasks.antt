-- What is to be done for the goals of terms. The last of a list of tasks comes first.
use Rattle.std.specs.Prelude.{ℕ, ◌+◌, Bool, pos, List, [], ◌∷◌, ◌++◌, length, map, Option, Some, None, if◌then◌else◌}
use Rattle.std.specs.Option.{is_none}
use Rattle.merc_tree.specs.Shape.{shape_of}
use Rattle.merc_tree.specs.declared.term.Shape.{Shape}
use Rattle.merc_tree.specs.declared.term.Shape.TheVariants.{Variable as VariableShape, Integer as IntegerShape, Text as TextShape, Application as ApplicationShape}
use Rattle.merc_goal_tree.specs.declared.goal.SimpleGoal.{SimpleGoal}
use Rattle.merc_goal_tree.specs.declared.goal.SimpleGoal.TheVariants.{Same, Shape as ShapeGoal, Arithmetic}
use Rattle.merc_goal_tree.specs.declared.goal.Symbol.TheVariants.{Constructor, Integer as IntegerSymbol, Text as TextSymbol}
use Rattle.merc_goal_tree.specs.declared.goal.Operation.{Operation}
use Rattle.merc_goal_tree.specs.declared.goal.Operation.TheVariants.{Subtract}
use Rattle.merc_scopes.specs.declared.occurrence.Occurrence.{Occurrence}
use Rattle.merc_goals.specs.Numbers.{NumberedTerm}
use Rattle.merc_flat_form.specs.declared.tasks.Task.{Task}
use Rattle.merc_flat_form.specs.declared.tasks.Task.TheVariants.{Give, Put}
use Rattle.merc_flat_form.specs.FlatForm.{naming, operation_of, variable_of, compare, comparison_of}
use Rattle.merc_flat_form.specs.Numbering.{numbered_arguments, is_variable, is_negative}

-- the variable of an argument gets its value, unless the argument is a variable itself
abbrev pub argument_task : NumberedTerm → List Task
argument_task one = if is_variable one.term then [] else Give one.at one ∷ []

abbrev pub argument_tasks : List NumberedTerm → List Task
argument_tasks [] = []
argument_tasks (first ∷ rest) = argument_tasks rest ++ argument_task first

-- an operation over two variables
abbrev pub arithmetic : Option Operation → ℕ → List ℕ → Option SimpleGoal
arithmetic None variable operands = None
arithmetic (Some operation) variable [] = None
arithmetic (Some operation) variable (only ∷ []) = None
arithmetic (Some operation) variable (left ∷ right ∷ []) = Some (Arithmetic operation variable left right)
arithmetic (Some operation) variable (left ∷ right ∷ third ∷ rest) = None

abbrev pub applied_by : Option SimpleGoal → ℕ → ℕ → List ℕ → List Task → List Task
applied_by (Some goal) variable name operands inner = Put goal ∷ inner
applied_by None variable name operands inner = inner ++ Put (ShapeGoal variable (Constructor name (length operands)) operands) ∷ []

-- an application of a name to these variables, which get their values by other tasks
abbrev pub applied_plan : Option Operation → ℕ → ℕ → List ℕ → List Task → List Task
applied_plan operation variable name operands inner = applied_by (arithmetic operation variable operands) variable name operands inner

-- `- E`, whose 0 has the second number of the term
abbrev pub negative_plan : ℕ → ℕ → ℕ → List ℕ → List Task → List Task
negative_plan variable name at operands inner =
    applied_plan (Some Subtract) variable name ((at + 1) ∷ operands) inner ++ Put (ShapeGoal (at + 1) (IntegerSymbol (pos 0)) []) ∷ []

-- Given is which names are `_`, and what names stand for.
module _ (blank : ℕ → Bool) (scope : List Occurrence) where
  -- the variable that stands for a term of this shape
  abbrev pub variable_by : ℕ → Shape → ℕ
  variable_by at (VariableShape name) = if blank name then at else variable_of scope name
  variable_by at (IntegerShape value) = at
  variable_by at (TextShape text) = at
  variable_by at (ApplicationShape name qualifier arity) = at

  abbrev pub variable_for : NumberedTerm → ℕ
  variable_for one = variable_by one.at (shape_of one.term)

  abbrev pub goals_of_task : Task → List SimpleGoal
  goals_of_task (Give variable whole) = naming blank scope variable whole.at whole.term
  goals_of_task (Put goal) = goal ∷ []

  -- the goals that tasks give
  abbrev pub performed : List Task → List SimpleGoal
  performed [] = []
  performed (task ∷ rest) = performed rest ++ goals_of_task task

  abbrev pub application_by : Bool → ℕ → ℕ → Option ℕ → ℕ → List NumberedTerm → List Task
  application_by negative variable name qualifier at arguments =
      if negative
      then negative_plan variable name at (map variable_for arguments) (argument_tasks arguments)
      else applied_plan (if is_none qualifier then operation_of name else None) variable name (map variable_for arguments) (argument_tasks arguments)

  abbrev pub application_plan : ℕ → ℕ → Option ℕ → ℕ → List NumberedTerm → List Task
  application_plan variable name qualifier at arguments =
      application_by (is_negative name (is_none qualifier) (length arguments)) variable name qualifier at arguments

  -- a variable gets the value of a term of this shape
  abbrev pub plan_by : Shape → ℕ → NumberedTerm → List Task
  plan_by (VariableShape name) variable whole = Put (Same variable (variable_for whole)) ∷ []
  plan_by (IntegerShape value) variable whole = Put (ShapeGoal variable (IntegerSymbol value) []) ∷ []
  plan_by (TextShape text) variable whole = Put (ShapeGoal variable (TextSymbol text) []) ∷ []
  plan_by (ApplicationShape name qualifier arity) variable whole = application_plan variable name qualifier whole.at (numbered_arguments whole)

  abbrev pub plan : ℕ → NumberedTerm → List Task
  plan variable whole = plan_by (shape_of whole.term) variable whole

  -- `L = R`
  abbrev pub equal_plan : ℕ → NumberedTerm → NumberedTerm → List Task
  equal_plan at left right =
      if is_variable left.term then Give (variable_for left) right ∷ []
      else if is_variable right.term then Give (variable_for right) left ∷ []
      else Give at right ∷ Give at left ∷ []

  abbrev pub compared_plan : ℕ → NumberedTerm → NumberedTerm → List Task
  compared_plan name left right =
      map (λ goal. Put goal) (compare (comparison_of name) (variable_for left) (variable_for right)) ++ argument_tasks (left ∷ right ∷ [])
