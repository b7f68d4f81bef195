-- Each parallel conjunction of the bodies of an accepted module, and of an accepted goal, has from one to 64 conjuncts before the bodies are ordered.
use Rattle.std.proofs.Common.{◌≡◌, ℕ, suc, ◌+◌, ◌≤◌, nat_lt, Bool, true, false, List, [], ◌∷◌, ◌++◌, length, map, Option, Some, None, if◌then◌else◌, cond, refl, ap, arith}
use Rattle.std.proofs.lemmas.Bool.Decides.{nat_tests}
use Rattle.std.specs.List.{AllByRecursion}
use Rattle.merc_base.specs.FirstFault.{first_of_faults}
use Rattle.merc_base.specs.declared.place.Span.{Span}
use Rattle.merc_base.specs.declared.refusal.Refusal.{Refusal}
use Rattle.merc_base.specs.declared.refusal.LimitName.TheVariants.{Conjuncts}
use Rattle.merc_tree.specs.Term.{Term, none as no_terms}
use Rattle.merc_tree.specs.declared.declarations.Clause.{Clause}
use Rattle.merc_tree.specs.declared.declarations.Module.{Module}
use Rattle.merc_tree.specs.declared.declarations.PredDecl.{PredDecl}
use Rattle.merc_goals.specs.Faults.{first_fault, widest_parallel}
use Rattle.merc_goals.specs.Written.{Written, parts, written, written_span}
use Rattle.merc_goal_tree.specs.Nodes.{Node, Nodes, Simple, Conjunction, Parallel, Disjunction, Conditional, Negation, Quantified, no_nodes, more_nodes, list_of}
use Rattle.merc_name_resolution.specs.Known.{callee_in}
use Rattle.merc_value.specs.Text.{is_blank}
use Rattle.merc_answer_variables.specs.AnswerVariables.{answer_variables}
use Rattle.merc_flat.specs.GoalFaults.{conjunct_limit, faults_of_form, form_fault, limit_passed, name_fault, size_faults}
use Rattle.merc_flat.specs.Flat.{arity_of, body_goal, clause_form_fault, clause_name_fault, clause_node, clauses_fault, either_fault, fault_among, goal_of, query_fault, query_node}
use Rattle.merc_bodies.specs.Bodies.{as_one, asked_body, body_of, clauses_of, is_head, joined_forms, numbered, own_variables}
use Rattle.merc_bodies.specs.Renamed.{all_renamed, renamed}
use Rattle.merc_script_laws.specs.Parallel.{most_conjuncts}
use Rattle.merc_script_laws.proofs.FewWritten.{written_some}
use Rattle.merc_script_laws.proofs.FewForms.{AllFewIn, EachFewIn, FewIn, MayBeNarrow, clause_few, goal_few, nodes_few}

-- What passes the limit is a fault.

within : (a b : ℕ) → nat_lt a b ≡ false → b ≤ a
within a b below = grind (arith, nat_tests, below)

not_wide : (b : Bool) (front : List Refusal) (one : Refusal) → first_of_faults (front ++ (if b then one ∷ [] else [])) ≡ None → b ≡ false
not_wide false front one none = refl
not_wide true [] one none = absurd cc
not_wide true (first ∷ front) one none = absurd cc

by_form : (form : Option Refusal) (arity : ℕ) (span : Span) (goal : Written) (node : Node) → first_of_faults (faults_of_form form arity span goal node) ≡ None → widest_parallel goal ≤ most_conjuncts
by_form None arity span goal node none =
    within conjunct_limit (widest_parallel goal) (not_wide (nat_lt conjunct_limit (widest_parallel goal)) (size_faults arity span node) (limit_passed Conjuncts span) none)
by_form (Some fault) arity span goal node none = absurd cc

is_within : (arity : ℕ) (span : Span) (goal : Written) (node : Node) → form_fault arity span goal node ≡ None → widest_parallel goal ≤ most_conjuncts
is_within arity span goal node none = by_form (first_fault goal) arity span goal node none

either_none : (one other : Option Refusal) → either_fault one other ≡ None → (one ≡ None) × (other ≡ None)
either_none None other none = (refl, none)
either_none (Some fault) other none = absurd cc

none_among : (fault : Clause → Option Refusal) (clauses : List Clause) → fault_among fault clauses ≡ None → AllByRecursion (λ clause. fault clause ≡ None) clauses
none_among fault [] none = tt
none_among fault (clause ∷ rest) none =
    let both = either_none (fault clause) (fault_among fault rest) none in
    (both.0, none_among fault rest both.1)

-- Given are the texts of names and a module.
module _ (names : List (List ℕ)) (known : Module) where
  may_be : (clause : Clause) (body : Option Term) → widest_parallel (body_goal clause body) ≤ most_conjuncts → MayBeNarrow (arity_of clause + parts clause.head) body
  may_be clause None narrow = tt
  may_be clause (Some body) narrow = (written_some (arity_of clause + parts clause.head) body, narrow)

  form_few : (clause : Clause) → clause_form_fault names known clause ≡ None → FewIn (clause_node names known clause)
  form_few clause none =
      clause_few (is_blank names) (callee_in known) (arity_of clause) clause.head clause.body clause.span
      (may_be clause clause.body (is_within (arity_of clause) clause.span (goal_of clause) (clause_node names known clause) none))

  forms_few : (clauses : List Clause) → AllByRecursion (λ clause. clause_form_fault names known clause ≡ None) clauses → AllByRecursion (λ clause. FewIn (clause_node names known clause)) clauses
  forms_few [] none = tt
  forms_few (clause ∷ rest) none = (form_few clause none.0, forms_few rest none.1)

renamed_count : (new : ℕ → ℕ) (goals : Nodes) → length (list_of (all_renamed new goals)) ≡ length (list_of goals)
renamed_count new no_nodes = refl
renamed_count new (more_nodes first rest) = ap suc (renamed_count new rest)

mutual
  renamed_few : (new : ℕ → ℕ) (goal : Node) → FewIn goal → FewIn (renamed new goal)
  renamed_few new (Simple goal span) few = tt
  renamed_few new (Conjunction goals span) few = all_renamed_few new goals few
  renamed_few new (Parallel goals span) few =
      let same = renamed_count new goals in
      let one = few.0 in
      let most = few.1 in
      (omega (arith, same, one), omega (arith, same, most), all_renamed_few new goals few.2)
  renamed_few new (Disjunction goals span) few = all_renamed_few new goals few
  renamed_few new (Conditional condition then_part else_part span) few = (renamed_few new condition few.0, renamed_few new then_part few.1, renamed_few new else_part few.2)
  renamed_few new (Negation goal span) few = renamed_few new goal few
  renamed_few new (Quantified own goal span) few = renamed_few new goal few

  all_renamed_few : (new : ℕ → ℕ) (goals : Nodes) → AllFewIn goals → AllFewIn (all_renamed new goals)
  all_renamed_few new no_nodes few = tt
  all_renamed_few new (more_nodes first rest) few = (renamed_few new first few.0, all_renamed_few new rest few.1)

joined_few : (arity at : ℕ) (forms : List Node) → EachFewIn forms → EachFewIn (joined_forms arity at forms)
joined_few arity at [] few = tt
joined_few arity at (form ∷ forms) few = (
  renamed_few (numbered arity at (own_variables arity form)) form few.0,
  joined_few arity (at + length (own_variables arity form)) forms few.1,
)

as_one_few : (clauses : List Clause) (forms : List Node) → EachFewIn forms → FewIn (as_one clauses forms)
as_one_few clauses [] few = tt
as_one_few clauses (only ∷ []) few = few.0
as_one_few [] (first ∷ second ∷ rest) few = nodes_few (first ∷ second ∷ rest) few
as_one_few (clause ∷ clauses) (first ∷ second ∷ rest) few = nodes_few (first ∷ second ∷ rest) few

-- Given are the forms of clauses, and a predicate.
module _ (form : Clause → Node) (declared : PredDecl) where
  own_few : (clauses : List Clause) → AllByRecursion (λ clause. FewIn (form clause)) clauses → EachFewIn (map form (clauses_of clauses declared))
  own_few [] few = tt
  own_few (clause ∷ rest) few = by (is_head declared clause.head) (own_few rest few.1)
    where
      by : (b : Bool) → EachFewIn (map form (clauses_of rest declared)) → EachFewIn (map form (cond b (clause ∷ clauses_of rest declared) (clauses_of rest declared)))
      by true others = (few.0, others)
      by false others = others

pub body_few : (names : List (List ℕ)) (known : Module) → clauses_fault names known ≡ None → (declared : PredDecl) → FewIn (body_of (clause_node names known) known.clauses declared)
body_few names known none declared =
    let form = clause_node names known in
    let forms = map form (clauses_of known.clauses declared) in
    let arity = length declared.args in
    let faultless = (either_none (fault_among (clause_form_fault names known) known.clauses) (fault_among (clause_name_fault names known) known.clauses) none).0 in
    as_one_few (clauses_of known.clauses declared) (joined_forms arity arity forms)
    (joined_few arity arity forms (own_few form declared known.clauses (forms_few names known known.clauses (none_among (clause_form_fault names known) known.clauses faultless))))

pub asked_few : (names : List (List ℕ)) (known : Module) (term : Term) → query_fault names known (written 0 term) ≡ None → FewIn (asked_body (query_node names known (written 0 term)))
asked_few names known term none =
    let goal = written 0 term in
    let form = query_node names known goal in
    let faultless = (either_none (form_fault 0 (written_span goal) goal form) (name_fault known no_terms goal) none).0 in
    renamed_few (numbered 0 0 (own_variables 0 form)) form
    (goal_few (is_blank names) (callee_in known) (answer_variables names goal) goal (written_some 0 term, is_within 0 (written_span goal) goal form faultless))
