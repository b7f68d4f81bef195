-- Faults of clauses and of a goal that is asked, where their flat forms are given.
use Rattle.std.specs.Prelude.{Option}
use Rattle.merc_base.specs.declared.refusal.Refusal.{Refusal}
use Rattle.merc_tree.specs.Term.{none}
use Rattle.merc_tree.specs.declared.declarations.Clause.{Clause}
use Rattle.merc_tree.specs.declared.declarations.Module.{Module}
use Rattle.merc_goals.specs.Written.{Written, written_span}
use Rattle.merc_goal_tree.specs.Nodes.{Node}
use Rattle.merc_flat_form.specs.FlatForm.{argument_terms}
use Rattle.merc_flat.specs.GoalFaults.{form_fault, name_fault}
use Rattle.merc_flat.specs.Flat.{arity_of, either_fault, goal_of}

abbrev pub form_fault_of : Clause → Node → Option Refusal
form_fault_of clause flat = form_fault (arity_of clause) clause.span (goal_of clause) flat

abbrev pub name_fault_of : Module → Clause → Option Refusal
name_fault_of known clause = name_fault known (argument_terms clause.head) (goal_of clause)

abbrev pub asked_fault : Module → Written → Node → Option Refusal
asked_fault known goal flat = either_fault (form_fault 0 (written_span goal) goal flat) (name_fault known none goal)
