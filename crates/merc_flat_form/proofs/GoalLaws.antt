-- The tasks for comparisons and calls give their goals.
use Rattle.std.proofs.Common.{◌≡◌, ℕ, ◌+◌, Bool, List, [], ◌∷◌, ◌++◌, map, Option, Some, None, refl, ap, ◌∙◌}
use Rattle.merc_tree.specs.Term.{Term, Terms, Variable, Integer, Text, Application, none, more, list_of}
use Rattle.merc_tree.specs.Shape.{arguments_of}
use Rattle.merc_goals.specs.Written.{parts}
use Rattle.merc_goal_tree.specs.declared.goal.SimpleGoal.{SimpleGoal}
use Rattle.merc_goal_tree.specs.declared.goal.Comparison.{Comparison}
use Rattle.merc_name_resolution.specs.declared.callee.Callee.{Callee}
use Rattle.merc_name_resolution.specs.declared.callee.Callee.TheVariants.{Predicate, Error}
use Rattle.merc_scopes.specs.declared.occurrence.Occurrence.{Occurrence}
use Rattle.merc_goals.specs.Numbers.{NumberedTerm}
use Rattle.merc_flat_form.specs.declared.tasks.Task.{Task}
use Rattle.merc_flat_form.specs.declared.tasks.Task.TheVariants.{Put}
use Rattle.merc_flat_form.specs.FlatForm.{argument_terms, variable_at, naming_all, call_of, called, compare, comparison_of, compared}
use Rattle.merc_goals.specs.Numbers.{numbered_from}
use Rattle.merc_flat_form.specs.Numbering.{numbered_arguments, sides_of}
use Rattle.merc_flat_form.specs.Tasks.{argument_tasks, variable_for, performed, compared_plan}
use Rattle.merc_flat_form.proofs.TaskLaws.{joined, arguments_named, variable-is, variables-are}

pub arguments-listed : (term : Term) → arguments_of term ≡ list_of (argument_terms term)
arguments-listed (Variable name span) = refl
arguments-listed (Integer value span) = refl
arguments-listed (Text text span) = refl
arguments-listed (Application name qualifier arguments span) = refl

module _ (blank : ℕ → Bool) (scope : List Occurrence) where
  compare-performed : (found : Option Comparison) (left right : ℕ)
      → performed blank scope (map (λ goal. Put goal) (compare found left right)) ≡ compare found left right
  compare-performed None left right = refl
  compare-performed (Some comparison) left right = refl

  call-performed : (callee : Callee) (operands : List ℕ)
      → performed blank scope (map (λ goal. Put goal) (call_of callee operands)) ≡ call_of callee operands
  call-performed (Predicate number) operands = refl
  call-performed Error [] = refl
  call-performed Error (text ∷ []) = refl
  call-performed Error (first ∷ second ∷ rest) = refl

  compared-performed : (at name : ℕ) (left right : Term)
      → performed blank scope (compared_plan blank scope name (record { term = left; at = at + 2 }) (record { term = right; at = at + 2 + parts left }))
      ≡ compared blank scope at name left right
  compared-performed at name left right =
      let first : NumberedTerm = record { term = left; at = at + 2 } in
      let second : NumberedTerm = record { term = right; at = at + 2 + parts left } in
      let operands : List SimpleGoal = compare (comparison_of name) (variable_for blank scope first) (variable_for blank scope second) in
      joined blank scope (map (λ goal. Put goal) operands) (argument_tasks (first ∷ second ∷ []))
      (naming_all blank scope (at + 2) (more left (more right none))) operands
      (compare-performed (comparison_of name) (variable_for blank scope first) (variable_for blank scope second))
      (arguments_named blank scope (at + 2) (more left (more right none)))
      ∙ ap (λ v. naming_all blank scope (at + 2) (more left (more right none)) ++ compare (comparison_of name) v (variable_for blank scope second)) (variable-is blank scope (at + 2) left)
      ∙ ap (λ v. naming_all blank scope (at + 2) (more left (more right none)) ++ compare (comparison_of name) (variable_at blank scope (at + 2) left) v) (variable-is blank scope (at + 2 + parts left) right)

  pub compared-planned : (at name : ℕ) (left right : Term) (both : NumberedTerm × NumberedTerm) (tasks planned : List Task)
      → both ≡ sides_of at left right → tasks ≡ [] → planned ≡ tasks ++ compared_plan blank scope name both.0 both.1
      → performed blank scope planned ≡ compared blank scope at name left right
  compared-planned at name left right both tasks planned siding empty planning =
      ap (performed blank scope) (planning ∙ ap (λ l. l ++ compared_plan blank scope name both.0 both.1) empty ∙ ap (λ b. compared_plan blank scope name b.0 b.1) siding)
      ∙ compared-performed at name left right

  -- a call behind the tasks of its arguments
  abbrev called_plan : Callee → List NumberedTerm → List Task
  called_plan callee arguments = map (λ goal. Put goal) (call_of callee (map (variable_for blank scope) arguments)) ++ argument_tasks arguments

  over_terms : (at : ℕ) (callee : Callee) (terms : Terms)
      → performed blank scope (called_plan callee (numbered_from (at + 2) (list_of terms))) ≡ called blank scope at callee terms
  over_terms at callee terms =
      joined blank scope (map (λ goal. Put goal) (call_of callee (map (variable_for blank scope) (numbered_from (at + 2) (list_of terms)))))
      (argument_tasks (numbered_from (at + 2) (list_of terms))) (naming_all blank scope (at + 2) terms)
      (call_of callee (map (variable_for blank scope) (numbered_from (at + 2) (list_of terms))))
      (call-performed callee (map (variable_for blank scope) (numbered_from (at + 2) (list_of terms))))
      (arguments_named blank scope (at + 2) terms)
      ∙ ap (λ l. naming_all blank scope (at + 2) terms ++ call_of callee l) (variables-are blank scope (at + 2) terms)

  pub called-performed : (at : ℕ) (callee : Callee) (call copied : Term) (arguments : List NumberedTerm) (operands : List ℕ) (tasks put pushed : List Task)
      → copied ≡ call → arguments ≡ numbered_arguments (record { term = copied; at = at }) → operands ≡ map (variable_for blank scope) arguments
      → tasks ≡ [] → put ≡ tasks ++ map (λ goal. Put goal) (call_of callee operands) → pushed ≡ put ++ argument_tasks arguments
      → performed blank scope pushed ≡ called blank scope at callee (argument_terms call)
  called-performed at callee call copied arguments operands tasks put pushed copying listing naming empty putting pushing =
      let listed : arguments ≡ numbered_from (at + 2) (list_of (argument_terms call)) =
      listing ∙ ap (λ l. numbered_from (at + 2) l) (ap arguments_of copying ∙ arguments-listed call) in
      let plan : pushed ≡ called_plan callee arguments =
      pushing ∙ ap (λ l. l ++ argument_tasks arguments) (putting ∙ ap (λ l. l ++ map (λ goal. Put goal) (call_of callee operands)) empty ∙ ap (λ l. map (λ goal. Put goal) (call_of callee l)) naming) in
      ap (performed blank scope) (plan ∙ ap (called_plan callee) listed) ∙ over_terms at callee (argument_terms call)
