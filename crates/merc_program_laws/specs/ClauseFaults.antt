-- All faults of the clauses of a module, and the first of them.
use Rattle.std.specs.Prelude.{◌≡◌, ℕ, ◌<◌, ◌≤◌, ◌⊎◌, List, [], ◌∷◌, ◌++◌, Some, None}
use Rattle.std.specs.List.{flat_map}
use Rattle.merc_base.specs.Refusal.{rule_number}
use Rattle.merc_base.specs.declared.place.Place.{Place}
use Rattle.merc_base.specs.declared.place.Span.{Span}
use Rattle.merc_base.specs.declared.refusal.Refusal.{Refusal}
use Rattle.merc_base.specs.declared.refusal.Rule.{Rule}
use Rattle.merc_base.specs.declared.refusal.LimitName.TheVariants.{Variables, Conjuncts}
use Rattle.merc_tree.specs.Term.{Term, span_of}
use Rattle.merc_tree.specs.declared.declarations.Clause.{Clause}
use Rattle.merc_tree.specs.declared.declarations.Module.{Module}
use Rattle.merc_goals.specs.Faults.{first_fault, outside_forms, outside_profile, widest_parallel, wrong_form, wrong_forms}
use Rattle.merc_item_forms.specs.Items.{item_of}
use Rattle.merc_items.specs.ModuleOf.{clauses_of}
use Rattle.merc_items.specs.ReadModule.{IsModule}
use Rattle.merc_flat_form.specs.FlatForm.{argument_terms}
use Rattle.merc_flat.specs.GoalFaults.{conjunct_limit, limit_passed, unknown, unknown_among, unknown_name, variable_count, variable_limit}
use Rattle.merc_flat.specs.Flat.{arity_of, clause_node, goal_of}
use Rattle.merc_order.specs.Procedures.{order_fault}
use Rattle.merc_grading.specs.Faults.{Body, category_fault}
use Rattle.merc_check.specs.Accepted.{bodies, HaveBodies, IsTypedClause, RefusesClauses, type_mismatch}

-- it is one of these
abbrev pub IsAmong : {A : Type 0} → A → List A → Type 0
IsAmong one [] = ⊥
IsAmong one (first ∷ rest) = (one ≡ first) ⊎ IsAmong one rest

-- the phases of clauses

abbrev pub forms_phase : ℕ
forms_phase = 8

abbrev pub names_phase : ℕ
names_phase = 9

abbrev pub typing_phase : ℕ
typing_phase = 10

-- Of two faults that of the earlier phase comes first, in one phase that at the lesser byte, and at one byte that of the lesser rule.
pub data ComesFirst : ℕ → Place → Rule → ℕ → Place → Rule → Type 0 where
  earlier_phase : (phase phase' : ℕ) (place place' : Place) (rule rule' : Rule) → phase < phase' → ComesFirst phase place rule phase' place' rule'
  lesser_place : (phase : ℕ) (place place' : Place) (rule rule' : Rule) → place.byte < place'.byte → ComesFirst phase place rule phase place' rule'
  lesser_rule : (phase : ℕ) (place place' : Place) (rule rule' : Rule) → place.byte ≡ place'.byte → rule_number rule ≤ rule_number rule' → ComesFirst phase place rule phase place' rule'

-- What is wrong with the form of a clause's goal or passes a limit. Variables are counted only where each part has a form.
pub data HasGoalFault (names : List (List ℕ)) (known : Module) (clause : Clause) : Refusal → Type 0 where
  wrong : (span : Span) → IsAmong span (wrong_forms (goal_of clause)) → HasGoalFault names known clause (wrong_form span)
  outside : (span : Span) → IsAmong span (outside_forms (goal_of clause)) → HasGoalFault names known clause (outside_profile span)
  variables : first_fault (goal_of clause) ≡ None → variable_limit < variable_count (arity_of clause) (clause_node names known clause) → HasGoalFault names known clause (limit_passed Variables clause.span)
  conjuncts : conjunct_limit < widest_parallel (goal_of clause) → HasGoalFault names known clause (limit_passed Conjuncts clause.span)

-- an unknown name in the clause's head or its goal
pub data HasNameFault (known : Module) (clause : Clause) : Refusal → Type 0 where
  name : (span : Span) → IsAmong span (unknown_among known (argument_terms clause.head) ++ unknown known (goal_of clause)) → HasNameFault known clause (unknown_name known span)

-- that there are no types for the clause's variables
pub data HasTypeFault (names : List (List ℕ)) (known : Module) (clause : Clause) : Refusal → Type 0 where
  untyped : (IsTypedClause names known clause → ⊥) → HasTypeFault names known clause (type_mismatch clause.span)

-- All faults of a clause, each with the number of its phase.
pub data HasClauseFault (names : List (List ℕ)) (known : Module) (clause : Clause) : ℕ → Refusal → Type 0 where
  goal : (fault : Refusal) → HasGoalFault names known clause fault → HasClauseFault names known clause forms_phase fault
  names : (fault : Refusal) → HasNameFault known clause fault → HasClauseFault names known clause names_phase fault
  types : (fault : Refusal) → HasTypeFault names known clause fault → HasClauseFault names known clause typing_phase fault

-- the clauses among the items of a file
abbrev pub file_clauses : List Term → List Clause
file_clauses terms = flat_map (λ term. clauses_of (span_of term) (item_of term)) terms

-- A fault of a clause of the module that comes before each fault of each clause of the file: the other has a later phase, or stands behind it, or at the
-- same byte and is of no lower rule.
pub record IsFirstClauseFault (names : List (List ℕ)) (terms : List Term) (known : Module) (told : Refusal) : Type 0 where
  pub phase : ℕ
  pub clause : Clause
  pub among : IsAmong clause known.clauses
  pub fault : HasClauseFault names known clause phase told
  pub first : (other : Clause) → IsAmong other (file_clauses terms) → (phase' : ℕ) (fault' : Refusal) → HasClauseFault names known other phase' fault'
      → ComesFirst phase told.place told.rule phase' fault'.place fault'.rule

-- no clause of the file has a fault
abbrev pub AreFaultless : List (List ℕ) → List Term → Module → Type 0
AreFaultless texts terms known = (clause : Clause) → IsAmong clause (file_clauses terms) → (phase : ℕ) (fault : Refusal) → HasClauseFault texts known clause phase fault → ⊥

-- What is told is the first fault of the order of the procedures' goals, and no clause of the file has a fault.
pub record IsOrderFault (names : List (List ℕ)) (terms : List Term) (known : Module) (told : Refusal) : Type 0 where
  pub faultless : AreFaultless names terms known
  pub first : order_fault known.preds (bodies names known) ≡ Some told

-- What is told is the first fault of the categories, whatever types by which they are typed the variables have; no clause of the file has a fault, and each
-- procedure has an order.
pub record IsCategoryFault (names : List (List ℕ)) (terms : List Term) (known : Module) (told : Refusal) : Type 0 where
  pub faultless : AreFaultless names terms known
  pub ordered : order_fault known.preds (bodies names known) ≡ None
  pub first : (own : List Body) → HaveBodies names known own → category_fault known.types known.preds own ≡ Some told

-- What is told is a fault of the procedures: of their order or, where all have one, of their categories.
abbrev pub IsProcedureFault : List (List ℕ) → List Term → Module → Refusal → Type 0
IsProcedureFault texts terms known told = IsOrderFault texts terms known told ⊎ IsCategoryFault texts terms known told

-- What is told of a module that a text is comes first: a fault of its clauses or, where those of the file have none, of its procedures.
abbrev pub TellsFirstFault : Type 0
TellsFirstFault = (before after : List (List ℕ)) (text : List ℕ) (terms : List Term) (found : Module) (told : Refusal)
    → IsModule before after text terms found → RefusesClauses after found told → IsFirstClauseFault after terms found told ⊎ IsProcedureFault after terms found told
