-- Clauses are refused where the first is not typed, or else the procedures for the first fault of their order.
use Rattle.std.proofs.Common.{◌≡◌, ℕ, List, length, map, Option, Some, None, Result, Ok, Err, IfErr, IfOk, refl, ap, subst, ◌∙◌}
use Rattle.std.specs.List.{AllByRecursion}
use Rattle.std.proofs.lemmas.Result.{err_from_is_err_and, IfOk-weaker}
use Rattle.merc_base.specs.declared.place.Span.{Span}
use Rattle.merc_base.specs.declared.refusal.Fault.{Fault}
use Rattle.merc_base.specs.declared.refusal.Fault.TheVariants.{Refused, NoMemory}
use Rattle.merc_base.specs.declared.refusal.Refusal.{Refusal}
use Rattle.merc_tree.specs.declared.declarations.Clause.{Clause}
use Rattle.merc_tree.specs.declared.declarations.Module.{Module}
use Rattle.merc_terms.specs.Items.{IsRefusal}
use Rattle.merc_goal_tree.specs.Nodes.{Node}
use Rattle.merc_flat.specs.Flat.{clause_node, clauses_fault}
use Rattle.merc_order.specs.Procedures.{order_fault}
use Rattle.merc_modes.specs.Told.{IsTold}
use Rattle.merc_bodies.specs.Bodies.{body_of}
use Rattle.merc_graded_tree.specs.Nodes.{Node as OrderedNode}
use Rattle.merc_grading.specs.Faults.{Body, category_fault}
use Rattle.merc_check.specs.Accepted.{AcceptsClauses, HaveBodies, IsTypedClause, RefusesClauses, bodies, type_mismatch}
use Rattle.merc_check.specs.Accepted.RefusesClauses.{category, untyped, unordered}
use Rattle.merc_check.specs.Untyped.{FindsUntyped, IsUntypedAt}
use Rattle.merc_check.proofs.ProcedureTrees.{trees_count}
use Rattle.merc_check.proofs.checking.check_forms.Goals as goal

-- the first clause that is not typed is refused, where no clause has a fault
clause_untyped : (names : List (List ℕ)) (known : Module) (found : Option Span) (span : Span) (refusal : Refusal)
    → clauses_fault names known ≡ None → FindsUntyped known (clause_node names known) found → found ≡ Some span → refusal ≡ type_mismatch span → RefusesClauses names known refusal
clause_untyped names known found span refusal none finds is refused =
    let first : IsUntypedAt known (clause_node names known) span = subst (FindsUntyped known (clause_node names known)) is finds in
    rw (refused, ← first.spanned) (untyped first.before first.clause first.behind none first.whole first.typed first.wrong)

-- Each clause is typed where none is found that is not.
all_typed : (names : List (List ℕ)) (known : Module) (found : Option Span) → FindsUntyped known (clause_node names known) found → ((span : Span) → found ≡ Some span → ⊥)
    → AllByRecursion (IsTypedClause names known) known.clauses
all_typed names known None finds typed = finds
all_typed names known (Some span) finds typed = absurd (typed span refl)

-- Where each clause is typed, the fault of the procedures' order is refused.
procedures_unordered : (names : List (List ℕ)) (known : Module) (reason : Fault) → clauses_fault names known ≡ None
    → AllByRecursion (IsTypedClause names known) known.clauses → IsTold {T = List OrderedNode} (order_fault known.preds (bodies names known)) (Err reason)
    → IsRefusal (RefusesClauses names known) reason
procedures_unordered names known NoMemory none typed told = tt
procedures_unordered names known (Refused refusal) none typed told = unordered refusal none typed told

-- Where they have an order, the fault of their categories decides.
module _ (known : Module) (forms : List Node) (found : Option Span)
    (finds : (form : Clause → Node) → forms ≡ map form known.clauses → FindsUntyped known form found) (none_found : (span : Span) → found ≡ Some span → ⊥)
    (order : (form : Clause → Node) → forms ≡ map form known.clauses → order_fault known.preds (map (body_of form known.clauses) known.preds) ≡ None) where
  typed : (names : List (List ℕ)) → forms ≡ map (clause_node names known) known.clauses → AllByRecursion (IsTypedClause names known) known.clauses
  typed names is = all_typed names known found (finds (clause_node names known) is) none_found

  module _ {T : Type 0} where
    abbrev IsChecked : Result T Fault → Type 0
    IsChecked result = (names : List (List ℕ)) → forms ≡ map (clause_node names known) known.clauses
        → (bodies : List Body) → HaveBodies names known bodies → IsTold (category_fault known.types known.preds bodies) result

    categories_refused : (result : Result T Fault) → IsChecked result
        → IfErr result (λ fault. (names : List (List ℕ)) → clauses_fault names known ≡ None → forms ≡ map (clause_node names known) known.clauses → IsRefusal (RefusesClauses names known) fault)
    categories_refused (Ok done) check = tt
    categories_refused (Err NoMemory) check = λ names none is. tt
    categories_refused (Err (Refused refusal)) check = λ names none is. category refusal none (typed names is) (order (clause_node names known) is) (check names is)

    categories_accepted : (result : Result T Fault) → IsChecked result
        → IfOk result (λ done. (names : List (List ℕ)) → clauses_fault names known ≡ None → forms ≡ map (clause_node names known) known.clauses → AcceptsClauses names known)
    categories_accepted (Ok done) check = λ names none is.
        record { flat = none; typed = typed names is; ordered = order (clause_node names known) is; categories = check names is }
    categories_accepted (Err reason) check = tt

pub returns-in-Some-clause-refused : goal.returns-in-Some-clause-refused
returns-in-Some-clause-refused c = λ names none is.
    clause_untyped names c.args.known.now c.in_ok-span.field-0 c.in-Some.span c.type_mismatch.result
    none (c.in_ok-span.ensures (clause_node names c.args.known.now) is) c.in-Some.is c.type_mismatch.ensures

pub returns-in_err-ordered-clause-refused : goal.returns-in_err-ordered-clause-refused
returns-in_err-ordered-clause-refused c =
    let p = err_from_is_err_and c.from_residual-in_err-ordered.result c.from_residual-in_err-ordered.ensures.1 in
    rw (p.1, p.2)
    (λ names none is.
    procedures_unordered names c.args.known.now c.in_err-ordered.field-0.0 none
    (all_typed names c.args.known.now c.in_ok-span.field-0 (c.in_ok-span.ensures (clause_node names c.args.known.now) is) c.in_default.not-Some)
    (c.in_err-ordered.ensures.told (clause_node names c.args.known.now) is))

pub check_procedures-trees-requires-clause-count : goal.check_procedures-trees-requires-clause-count
check_procedures-trees-requires-clause-count c =
    let form = c.requires.forms.0 in
    ap (λ (l : List OrderedNode). length l) (c.in_ok-ordered.ensures.trees form c.requires.forms.1)
    ∙ trees_count c.args.known.now.preds (body_of form c.args.known.now.clauses) (c.in_ok-ordered.ensures.told form c.requires.forms.1)

pub returns-clause-refused : goal.returns-clause-refused
returns-clause-refused c =
    categories_refused c.args.known.now c.args.forms.now c.in_ok-span.field-0 c.in_ok-span.ensures c.in_default.not-Some c.in_ok-ordered.ensures.told c.check_procedures-trees.result
    (λ names is bodies are.
    c.check_procedures-trees.ensures.told (clause_node names c.args.known.now) bodies (c.in_ok-ordered.ensures.trees (clause_node names c.args.known.now) is) are)

pub returns-clause-accepted : goal.returns-clause-accepted
returns-clause-accepted c =
    categories_accepted c.args.known.now c.args.forms.now c.in_ok-span.field-0 c.in_ok-span.ensures c.in_default.not-Some c.in_ok-ordered.ensures.told c.check_procedures-trees.result
    (λ names is bodies are.
    c.check_procedures-trees.ensures.told (clause_node names c.args.known.now) bodies (c.in_ok-ordered.ensures.trees (clause_node names c.args.known.now) is) are)

pub returns-clause-graded : goal.returns-clause-graded
returns-clause-graded c =
    IfOk-weaker c.check_procedures-trees.result _ _
    (λ trees graded names is bodies are.
    graded (clause_node names c.args.known.now) bodies (c.in_ok-ordered.ensures.trees (clause_node names c.args.known.now) is) are) c.check_procedures-trees.ensures.graded
