-- What is told of the form of a goal that is asked is told of the goal.
use Rattle.std.proofs.Common.{◌≡◌, ℕ, List, sym, subst}
use Rattle.merc_tree.specs.Term.{Term}
use Rattle.merc_tree.specs.declared.declarations.Module.{Module}
use Rattle.merc_goals.specs.Written.{written}
use Rattle.merc_goal_tree.specs.Nodes.{Node}
use Rattle.merc_scopes.specs.declared.occurrence.Occurrence.{Occurrence}
use Rattle.merc_answer_variables.specs.AnswerVariables.{answer_variables}
use Rattle.merc_flat.specs.Flat.{query_node}
use Rattle.merc_bodies.specs.Bodies.{asked_body}
use Rattle.merc_check.specs.Accepted.{query_answers}
use Rattle.merc_check.specs.Forms.{answers_of}

module _ (names : List (List ℕ)) (known : Module) (goal : Term) (form : Node) (answers : List Occurrence)
    (same : query_node names known (written 0 goal) ≡ form) (is : answers ≡ answer_variables names (written 0 goal)) where
  -- what holds of the form and the answer variables holds of the goal's own
  pub of_goal : (P : List ℕ → Node → Type 0) → P (answers_of form answers) (asked_body form) → P (query_answers names known goal) (asked_body (query_node names known (written 0 goal)))
  of_goal P holds = subst (λ (l : List Occurrence). P (answers_of (query_node names known (written 0 goal)) l) (asked_body (query_node names known (written 0 goal)))) is
      (subst (λ (f : Node). P (answers_of f answers) (asked_body f)) (sym same) holds)

  pub of_form : (P : List ℕ → Node → Type 0) → P (query_answers names known goal) (asked_body (query_node names known (written 0 goal))) → P (answers_of form answers) (asked_body form)
  of_form P holds = subst (λ (f : Node). P (answers_of f answers) (asked_body f)) same
      (subst (λ (l : List Occurrence). P (answers_of (query_node names known (written 0 goal)) l) (asked_body (query_node names known (written 0 goal)))) (sym is) holds)
