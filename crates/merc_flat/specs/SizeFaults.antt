-- What is wrong with the size of a goal, and the first of two faults.
use Rattle.std.specs.Prelude.{ℕ, nat_lt, Option, Some, None, if◌then◌else◌}
use Rattle.merc_base.specs.declared.place.Span.{Span}
use Rattle.merc_base.specs.declared.refusal.Refusal.{Refusal}
use Rattle.merc_base.specs.declared.refusal.LimitName.TheVariants.{Variables, Conjuncts}
use Rattle.merc_goal_tree.specs.Nodes.{Node}
use Rattle.merc_base.specs.FirstFault.{earlier_fault}
use Rattle.merc_flat.specs.GoalFaults.{limit_passed, variable_count, variable_limit, conjunct_limit}

abbrev pub first_of_two : Option Refusal → Option Refusal → Option Refusal
first_of_two None other = other
first_of_two (Some one) other = Some (earlier_fault one other)

-- too many variables, and too many conjuncts of a parallel conjunction

abbrev pub size_fault : ℕ → Span → Node → Option Refusal
size_fault arity span flat = if nat_lt variable_limit (variable_count arity flat) then Some (limit_passed Variables span) else None

abbrev pub width_fault : Span → ℕ → Option Refusal
width_fault span width = if nat_lt conjunct_limit width then Some (limit_passed Conjuncts span) else None
