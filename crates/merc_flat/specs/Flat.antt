-- The clauses of a module in flat form, and a goal that is asked over it.
use Rattle.std.specs.Prelude.{◌≡◌, ℕ, ◌+◌, List, [], ◌∷◌, length, Option, Some, None}
use Rattle.merc_base.specs.declared.refusal.Refusal.{Refusal}
use Rattle.merc_tree.specs.Term.{Term, none, list_of}
use Rattle.merc_tree.specs.declared.declarations.Clause.{Clause}
use Rattle.merc_tree.specs.declared.declarations.Module.{Module}
use Rattle.merc_goals.specs.Written.{Written, Truth, parts, written, written_span}
use Rattle.merc_goal_tree.specs.Nodes.{Node}
use Rattle.merc_name_resolution.specs.Known.{callee_in}
use Rattle.merc_value.specs.Text.{is_blank}
use Rattle.merc_answer_variables.specs.AnswerVariables.{answer_variables}
use Rattle.merc_flat_form.specs.FlatForm.{argument_terms, clause_goal, flat, one_goal}
use Rattle.merc_flat.specs.GoalFaults.{form_fault, name_fault}

-- the first, or else the second
abbrev pub either_fault : Option Refusal → Option Refusal → Option Refusal
either_fault (Some fault) other = Some fault
either_fault None other = other

-- the fault of the first clause that has one
abbrev pub fault_among : (Clause → Option Refusal) → List Clause → Option Refusal
fault_among fault [] = None
fault_among fault (clause ∷ rest) = either_fault (fault clause) (fault_among fault rest)

-- how many arguments a clause has
abbrev pub arity_of : Clause → ℕ
arity_of clause = length (list_of (argument_terms clause.head))

-- The goal of a clause, whose parts are numbered behind those of its head; of a fact it is `true`.
abbrev pub body_goal : Clause → Option Term → Written
body_goal clause None = Truth clause.span
body_goal clause (Some body) = written (arity_of clause + parts clause.head) body

abbrev pub goal_of : Clause → Written
goal_of clause = body_goal clause clause.body

-- Given are the texts of names and a module.
module _ (names : List (List ℕ)) (known : Module) where
  -- a clause in flat form, whose parts are numbered behind the arguments of its predicate
  abbrev pub clause_node : Clause → Node
  clause_node clause = clause_goal (is_blank names) (callee_in known) (arity_of clause) clause.head clause.body clause.span

  abbrev pub clause_form_fault : Clause → Option Refusal
  clause_form_fault clause = form_fault (arity_of clause) clause.span (goal_of clause) (clause_node clause)

  abbrev pub clause_name_fault : Clause → Option Refusal
  clause_name_fault clause = name_fault known (argument_terms clause.head) (goal_of clause)

  -- The clauses stand in the order of the text. A fault of form in any of them comes before an unknown name.
  abbrev pub clauses_fault : Option Refusal
  clauses_fault = either_fault (fault_among clause_form_fault known.clauses) (fault_among clause_name_fault known.clauses)

  -- A goal that is asked: its answer variables are those of the whole.

  abbrev pub query_node : Written → Node
  query_node goal = one_goal (written_span goal) (flat (is_blank names) (callee_in known) (answer_variables names goal) goal)

  abbrev pub query_fault : Written → Option Refusal
  query_fault goal = either_fault (form_fault 0 (written_span goal) goal (query_node goal)) (name_fault known none goal)
