-- Faults of form, fault by fault.
use Rattle.std.proofs.Common.{◌≡◌, ℕ, nat_lt, Bool, true, false, [], ◌∷◌, ◌++◌, Option, Some, None, if◌then◌else◌, refl, ap, sym, ◌∙◌}
use Rattle.merc_base.specs.declared.place.Span.{Span}
use Rattle.merc_base.specs.declared.refusal.Refusal.{Refusal}
use Rattle.merc_goals.specs.Written.{Written}
use Rattle.merc_goals.specs.Faults.{first_fault, widest_parallel}
use Rattle.merc_goal_tree.specs.Nodes.{Node}
use Rattle.merc_base.specs.FirstFault.{first_of_faults}
use Rattle.merc_flat.specs.GoalFaults.{faults_of_form, form_fault, variable_count, variable_limit, conjunct_limit}
use Rattle.merc_flat.specs.Flat.{either_fault}
use Rattle.merc_flat.specs.SizeFaults.{first_of_two, size_fault, width_fault}

sizes : (size width : Bool) (one other : Refusal)
    → first_of_faults ((if size then one ∷ [] else []) ++ (if width then other ∷ [] else [])) ≡ first_of_two (if size then Some one else None) (if width then Some other else None)
sizes true true one other = refl
sizes true false one other = refl
sizes false true one other = refl
sizes false false one other = refl

behind : (width : Bool) (one other : Refusal) → first_of_faults (one ∷ (if width then other ∷ [] else [])) ≡ first_of_two (Some one) (if width then Some other else None)
behind true one other = refl
behind false one other = refl

faults_by : (form : Option Refusal) (arity : ℕ) (span : Span) (goal : Written) (flat : Node)
    → first_of_faults (faults_of_form form arity span goal flat) ≡ first_of_two (either_fault form (size_fault arity span flat)) (width_fault span (widest_parallel goal))
faults_by None arity span goal flat = sizes (nat_lt variable_limit (variable_count arity flat)) (nat_lt conjunct_limit (widest_parallel goal)) _ _
faults_by (Some fault) arity span goal flat = behind (nat_lt conjunct_limit (widest_parallel goal)) fault _

module _ (arity : ℕ) (span : Span) (goal : Written) (flat : Node) where
  pub form_fault-by : (form first other whole : Option Refusal) (width : ℕ) → form ≡ first_fault goal → first ≡ either_fault form (size_fault arity span flat)
      → width ≡ widest_parallel goal → other ≡ width_fault span width → whole ≡ first_of_two first other → whole ≡ form_fault arity span goal flat
  form_fault-by form first other whole width form_is first_is width_is other_is whole_is =
      whole_is
      ∙ ap (λ f. first_of_two f other) (first_is ∙ ap (λ f. either_fault f (size_fault arity span flat)) form_is)
      ∙ ap (first_of_two (either_fault (first_fault goal) (size_fault arity span flat))) (other_is ∙ ap (width_fault span) width_is)
      ∙ sym (faults_by (first_fault goal) arity span goal flat)
