-- What is to be done for the head of a clause.
use Rattle.std.specs.Prelude.{ℕ, ◌+◌, ◌==◌, ◌||◌, Bool, List, [], ◌∷◌, ◌++◌, if◌then◌else◌}
use Rattle.merc_tree.specs.Shape.{shape_of}
use Rattle.merc_tree.specs.declared.term.Shape.{Shape}
use Rattle.merc_tree.specs.declared.term.Shape.TheVariants.{Variable as VariableShape, Integer as IntegerShape, Text as TextShape, Application as ApplicationShape}
use Rattle.merc_goal_tree.specs.declared.goal.SimpleGoal.TheVariants.{Same}
use Rattle.merc_scopes.specs.declared.occurrence.Occurrence.{Occurrence}
use Rattle.merc_scopes.specs.Scopes.{occurrence, occurrences}
use Rattle.merc_goals.specs.Numbers.{NumberedTerm}
use Rattle.merc_flat_form.specs.declared.tasks.Task.{Task}
use Rattle.merc_flat_form.specs.declared.tasks.Task.TheVariants.{Give, Put}
use Rattle.merc_flat_form.specs.FlatForm.{variable_of}

module _ (blank : ℕ → Bool) where
  -- a variable that stands for this number, unless it is `_`
  abbrev pub named : ℕ → ℕ → List Occurrence
  named name at = if blank name then [] else occurrence name at ∷ []

  -- what the variables of an argument of a head stand for
  abbrev pub head_part : Shape → ℕ → NumberedTerm → List Occurrence
  head_part (VariableShape name) number one = named name number
  head_part (IntegerShape value) number one = occurrences blank one.at one.term
  head_part (TextShape text) number one = occurrences blank one.at one.term
  head_part (ApplicationShape name qualifier arity) number one = occurrences blank one.at one.term

  abbrev pub head_parts : ℕ → List NumberedTerm → List Occurrence
  head_parts number [] = []
  head_parts number (first ∷ rest) = head_part (shape_of first.term) number first ++ head_parts (number + 1) rest

module _ (blank : ℕ → Bool) (scope : List Occurrence) where
  -- the argument of this number is the variable of this name
  abbrev pub head_same : ℕ → ℕ → List Task
  head_same name number = if blank name || (variable_of scope name == number) then [] else Put (Same number (variable_of scope name)) ∷ []

  abbrev pub head_task : Shape → ℕ → NumberedTerm → List Task
  head_task (VariableShape name) number one = head_same name number
  head_task (IntegerShape value) number one = Give number one ∷ []
  head_task (TextShape text) number one = Give number one ∷ []
  head_task (ApplicationShape name qualifier arity) number one = Give number one ∷ []

  abbrev pub head_tasks : ℕ → List NumberedTerm → List Task
  head_tasks number [] = []
  head_tasks number (first ∷ rest) = head_tasks (number + 1) rest ++ head_task (shape_of first.term) number first
