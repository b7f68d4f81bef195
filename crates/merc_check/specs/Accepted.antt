-- Which modules and goals are accepted, as far as their clauses go; and what is wrong with the others.
use Rattle.std.specs.Prelude.{◌≡◌, ℕ, List, [], ◌∷◌, ◌++◌, map, Some, None}
use Rattle.std.specs.List.{AllByRecursion}
use Rattle.merc_base.specs.declared.place.Span.{Span}
use Rattle.merc_base.specs.declared.refusal.Refusal.{Refusal}
use Rattle.merc_base.specs.declared.refusal.Rule.TheVariants.{TypeMismatch}
use Rattle.merc_base.specs.declared.refusal.Detail.TheVariants.{Plain}
use Rattle.merc_tree.specs.Term.{Term, span_of}
use Rattle.merc_tree.specs.declared.declarations.Clause.{Clause}
use Rattle.merc_tree.specs.declared.declarations.Module.{Module}
use Rattle.merc_goals.specs.Written.{written}
use Rattle.merc_base.specs.Places.{place_of}
use Rattle.merc_type_check.specs.Typing.{HasTyping}
use Rattle.merc_flat.specs.Flat.{clause_node, clauses_fault, query_fault, query_node}
use Rattle.merc_goal_tree.specs.Nodes.{Node}
use Rattle.merc_graded_tree.specs.Nodes.{Node as OrderedNode}
use Rattle.merc_answer_variables.specs.AnswerVariables.{answer_variables}
use Rattle.merc_bodies.specs.Bodies.{asked_body, body_of}
use Rattle.merc_order.specs.Ordered.{Outcome}
use Rattle.merc_order.specs.Bound.{nothing}
use Rattle.merc_order.specs.Procedures.{modes_of, order_fault, query_from}
use Rattle.merc_modes.specs.Told.{fault_in}
use Rattle.merc_grading.specs.Faults.{Body, procedures_of, all_finished, finished, category_fault, query_category_fault}
use Rattle.merc_order_laws.specs.HeadTypes.{declared_arguments}
use Rattle.merc_order_laws.specs.ProcedureBodies.{AreBodiesOf, IsAskedBody}
use Rattle.merc_check.specs.Forms.{answers_of}

abbrev pub type_mismatch : Span → Refusal
type_mismatch span = record { rule = TypeMismatch; place = place_of span; detail = Plain }

-- the names of the answer variables of a goal that is asked
abbrev pub query_names : List (List ℕ) → Term → List ℕ
query_names names goal = map (λ variable. variable.name) (answer_variables names (written 0 goal))

-- Given are the texts of names and a module.
module _ (names : List (List ℕ)) (known : Module) where
  abbrev pub IsTypedClause : Clause → Type 0
  IsTypedClause clause = HasTyping known (declared_arguments known clause.head) (clause_node names known clause)

  -- the goal of each predicate, those of the library among them
  abbrev pub bodies : List Node
  bodies = map (body_of (clause_node names known) known.clauses) known.preds

  -- The procedures, those of the library among them, have these bodies.
  abbrev pub HaveBodies : List Body → Type 0
  HaveBodies = AreBodiesOf known (clause_node names known) (procedures_of known.preds)

  -- The goals of all clauses have a form, are within the limits and name what is there, each clause is typed, each procedure has an order, and the declared
  -- categories allow those that are inferred, whatever types by which they are typed the variables have.
  pub record AcceptsClauses : Type 0 where
    pub flat : clauses_fault names known ≡ None
    pub typed : AllByRecursion IsTypedClause known.clauses
    pub ordered : order_fault known.preds bodies ≡ None
    pub categories : (bodies : List Body) → HaveBodies bodies → category_fault known.types known.preds bodies ≡ None

  -- what is wrong with the clauses: a fault of their goals, or else the first clause that is not typed, or else the first fault of the procedures' modes, or else that of their categories
  pub data RefusesClauses : Refusal → Type 0 where
    fault : (refusal : Refusal) → clauses_fault names known ≡ Some refusal → RefusesClauses refusal
    untyped : (before : List Clause) (clause : Clause) (behind : List Clause) → clauses_fault names known ≡ None → known.clauses ≡ before ++ clause ∷ behind
        → AllByRecursion IsTypedClause before → (IsTypedClause clause → ⊥) → RefusesClauses (type_mismatch clause.span)
    unordered : (refusal : Refusal) → clauses_fault names known ≡ None → AllByRecursion IsTypedClause known.clauses → order_fault known.preds bodies ≡ Some refusal → RefusesClauses refusal
    category : (refusal : Refusal) → clauses_fault names known ≡ None → AllByRecursion IsTypedClause known.clauses → order_fault known.preds bodies ≡ None
        → ((bodies : List Body) → HaveBodies bodies → category_fault known.types known.preds bodies ≡ Some refusal) → RefusesClauses refusal

  -- the trees of all procedures, with their switches and categories
  abbrev pub AreGraded : List OrderedNode → Type 0
  AreGraded trees = (bodies : List Body) → HaveBodies bodies → trees ≡ all_finished known.types known.preds (procedures_of known.preds) bodies

  abbrev pub IsTypedQuery : Term → Type 0
  IsTypedQuery goal = HasTyping known [] (query_node names known (written 0 goal))

  -- the answer variables of a goal that is asked, by their numbers in its body
  abbrev pub query_answers : Term → List ℕ
  query_answers goal = answers_of (query_node names known (written 0 goal)) (answer_variables names (written 0 goal))

  abbrev pub query_order : Term → Outcome
  query_order goal = query_from (modes_of known.preds) (query_answers goal) (asked_body (query_node names known (written 0 goal)))

  -- a body of the goal
  abbrev pub HasBody : Term → Body → Type 0
  HasBody goal = IsAskedBody known (query_answers goal) (asked_body (query_node names known (written 0 goal)))

  -- the tree of a goal that is asked, with its switches and categories, alone in its list
  abbrev pub IsGradedGoal : Term → List OrderedNode → Type 0
  IsGradedGoal goal trees = (body : Body) → HasBody goal body → trees ≡ finished known.types known.preds nothing body ∷ []

  -- the same of a goal that is asked
  pub record AcceptsGoal (goal : Term) : Type 0 where
    pub flat : query_fault names known (written 0 goal) ≡ None
    pub typed : IsTypedQuery goal
    pub ordered : fault_in (query_order goal) ≡ None
    pub categories : (body : Body) → HasBody goal body → query_category_fault known.types known.preds body ≡ None

  pub data RefusesGoal (goal : Term) : Refusal → Type 0 where
    fault : (refusal : Refusal) → query_fault names known (written 0 goal) ≡ Some refusal → RefusesGoal goal refusal
    untyped : query_fault names known (written 0 goal) ≡ None → (IsTypedQuery goal → ⊥) → RefusesGoal goal (type_mismatch (span_of goal))
    unordered : (refusal : Refusal) → query_fault names known (written 0 goal) ≡ None → IsTypedQuery goal → fault_in (query_order goal) ≡ Some refusal → RefusesGoal goal refusal
    category : (refusal : Refusal) → query_fault names known (written 0 goal) ≡ None → IsTypedQuery goal → fault_in (query_order goal) ≡ None
        → ((body : Body) → HasBody goal body → query_category_fault known.types known.preds body ≡ Some refusal) → RefusesGoal goal refusal
