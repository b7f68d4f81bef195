-- The flat form of a goal that is asked.
use Rattle.std.specs.Prelude.{◌≡◌, ℕ, List, map, None}
use Rattle.merc_tree.specs.Term.{Term}
use Rattle.merc_tree.specs.declared.declarations.Module.{Module}
use Rattle.merc_goals.specs.Written.{written}
use Rattle.merc_goal_tree.specs.Nodes.{Node}
use Rattle.merc_scopes.specs.declared.occurrence.Occurrence.{Occurrence}
use Rattle.merc_answer_variables.specs.AnswerVariables.{answer_variables}
use Rattle.merc_flat.specs.Flat.{query_fault, query_node}
use Rattle.merc_bodies.specs.Bodies.{numbered, own_variables}

-- A goal without a fault of form has this form and these answer variables.
pub record IsFlatForm (names : List (List ℕ)) (known : Module) (goal : Term) (form : Node) (answers : List Occurrence) : Type 0 where
  pub faultless : query_fault names known (written 0 goal) ≡ None
  pub form_is : query_node names known (written 0 goal) ≡ form
  pub answers_are : answers ≡ answer_variables names (written 0 goal)

-- the answer variables of a form by their numbers in its body
abbrev pub answers_of : Node → List Occurrence → List ℕ
answers_of form answers = map (numbered 0 0 (own_variables 0 form)) (map (λ variable. variable.at) answers)
