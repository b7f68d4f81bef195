-- A goal is refused where it is not typed, or has no order, or its categories are refused.
use Rattle.std.proofs.Common.{◌≡◌, ℕ, Bool, true, false, List, [], ◌∷◌, Some, None, Result, Ok, Err, IfOk, IfErr, ap, ◌∙◌}
use Rattle.std.proofs.lemmas.Result.{err_from_is_err_and, IfOk-weaker}
use Rattle.merc_base.specs.declared.place.Span.{Span}
use Rattle.merc_base.specs.declared.refusal.Fault.{Fault}
use Rattle.merc_base.specs.declared.refusal.Fault.TheVariants.{Refused, NoMemory}
use Rattle.merc_base.specs.declared.refusal.Refusal.{Refusal}
use Rattle.merc_tree.specs.Term.{Term, span_of}
use Rattle.merc_tree.specs.declared.declarations.Module.{Module}
use Rattle.merc_terms.specs.Items.{IsRefusal}
use Rattle.merc_goals.specs.Written.{written}
use Rattle.merc_goal_tree.specs.Nodes.{Node}
use Rattle.merc_scopes.specs.declared.occurrence.Occurrence.{Occurrence}
use Rattle.merc_type_check.specs.Checked.{Tells}
use Rattle.merc_type_check.specs.Typing.{HasTyping}
use Rattle.merc_flat.specs.Flat.{query_node}
use Rattle.merc_bodies.specs.Bodies.{asked_body}
use Rattle.merc_order.specs.Procedures.{modes_of, query_from, IsQuery}
use Rattle.merc_graded_tree.specs.Nodes.{Node as OrderedNode}
use Rattle.merc_grading.specs.Faults.{Body, query_category_fault}
use Rattle.merc_order_laws.specs.ProcedureBodies.{IsAskedBody}
use Rattle.merc_modes.specs.Told.{IsTold, fault_in}
use Rattle.merc_check.specs.Accepted.{AcceptsGoal, HasBody, RefusesGoal, query_order, type_mismatch}
use Rattle.merc_check.specs.Accepted.RefusesGoal.{category, untyped, unordered}
use Rattle.merc_check.specs.Forms.{IsFlatForm, answers_of}
use Rattle.merc_check.proofs.GoalForms.{of_goal, of_form}
use Rattle.merc_check.proofs.checking.check_form.Goals as goal

-- the check of types tells that it is not typed
goal_untyped : (names : List (List ℕ)) (known : Module) (goal : Term) (form : Node) (told : Bool) (answers : List Occurrence) (refusal : Refusal)
    → IsFlatForm names known goal form answers → Tells told known [] form → told ≡ false → refusal ≡ type_mismatch (span_of goal) → RefusesGoal names known goal refusal
goal_untyped names known goal form true answers refusal flat tells is refused = cc
goal_untyped names known goal form false answers refusal flat tells is refused =
    let same : query_node names known (written 0 goal) ≡ form = flat.form_is in
    rw refused (untyped flat.faultless (rw same tells))

-- or that it is
goal_typed : (names : List (List ℕ)) (known : Module) (goal : Term) (form : Node) (told : Bool) → query_node names known (written 0 goal) ≡ form
    → Tells told known [] form → told ≡ true → HasTyping known [] (query_node names known (written 0 goal))
goal_typed names known goal form true same tells is = rw same tells
goal_typed names known goal form false same tells is = cc

-- Given are a module and a form with its answer variables, which is typed.
module _ (known : Module) (form : Node) (told : Bool) (answers : List Occurrence) (tells : Tells told known [] form) (typed : told ≡ true) where
  is_typed : (names : List (List ℕ)) (goal : Term) → IsFlatForm names known goal form answers → HasTyping known [] (query_node names known (written 0 goal))
  is_typed names goal flat = goal_typed names known goal form told flat.form_is tells typed

  -- A goal that has no order is refused.
  goal_unordered : (names : List (List ℕ)) (goal : Term) → IsFlatForm names known goal form answers → (reason : Fault)
      → IsTold {T = List OrderedNode} (fault_in (query_from (modes_of known.preds) (answers_of form answers) (asked_body form))) (Err reason)
      → IsRefusal (RefusesGoal names known goal) reason
  goal_unordered names goal flat NoMemory order = tt
  goal_unordered names goal flat (Refused refusal) order =
      unordered refusal flat.faultless (is_typed names goal flat)
      (of_goal names known goal form answers flat.form_is flat.answers_are
      (λ (numbers : List ℕ) (body : Node). fault_in (query_from (modes_of known.preds) numbers body) ≡ Some refusal) order)

  has_order : fault_in (query_from (modes_of known.preds) (answers_of form answers) (asked_body form)) ≡ None
      → (names : List (List ℕ)) (goal : Term) → IsFlatForm names known goal form answers → fault_in (query_order names known goal) ≡ None
  has_order order names goal flat =
      of_goal names known goal form answers flat.form_is flat.answers_are (λ (numbers : List ℕ) (body : Node). fault_in (query_from (modes_of known.preds) numbers body) ≡ None) order

  -- Where it has one, its categories decide.
  module _ {T : Type 0} (trees : List OrderedNode) (tree : OrderedNode) (order : fault_in (query_from (modes_of known.preds) (answers_of form answers) (asked_body form)) ≡ None)
      (one : trees ≡ tree ∷ []) (query : IsQuery (modes_of known.preds) (answers_of form answers) (asked_body form) tree) where
    abbrev IsChecked : Result T Fault → Type 0
    IsChecked result = (answers : List ℕ) (goal : Node) (tree : OrderedNode) (body : Body) → trees ≡ tree ∷ [] → IsQuery (modes_of known.preds) answers goal tree
        → IsAskedBody known answers goal body → IsTold (query_category_fault known.types known.preds body) result

    is_told : (result : Result T Fault) → IsChecked result → (names : List (List ℕ)) (goal : Term) → IsFlatForm names known goal form answers
        → (body : Body) → HasBody names known goal body → IsTold (query_category_fault known.types known.preds body) result
    is_told result check names goal flat body has =
        check (answers_of form answers) (asked_body form) tree body one query
        (of_form names known goal form answers flat.form_is flat.answers_are (λ (numbers : List ℕ) (goal : Node). IsAskedBody known numbers goal body) has)

    goal_accepted : (result : Result T Fault) → IsChecked result
        → IfOk result (λ done. (names : List (List ℕ)) (goal : Term) → IsFlatForm names known goal form answers → AcceptsGoal names known goal)
    goal_accepted (Ok done) check = λ names goal flat.
        record { flat = flat.faultless; typed = is_typed names goal flat; ordered = has_order order names goal flat; categories = is_told (Ok done) check names goal flat }
    goal_accepted (Err reason) check = tt

    goal_refused : (result : Result T Fault) → IsChecked result
        → (span : Span) → IfErr result (λ fault. (names : List (List ℕ)) (goal : Term) → IsFlatForm names known goal form answers → span ≡ span_of goal → IsRefusal (RefusesGoal names known goal) fault)
    goal_refused (Ok done) check span = tt
    goal_refused (Err (Refused refusal)) check span = λ names goal flat at.
        category refusal flat.faultless (is_typed names goal flat) (has_order order names goal flat) (is_told (Err (Refused refusal)) check names goal flat)
    goal_refused (Err NoMemory) check span = λ names goal flat at. tt

pub returns-then-not-branch-clause-refused : goal.returns-then-not-branch-clause-refused
returns-then-not-branch-clause-refused c = λ names goal flat at.
    goal_untyped names c.args.known.now goal c.args.form.now c.in_ok-is_typed_goal.field-0 c.args.answers.now c.type_mismatch.result
    flat c.in_ok-is_typed_goal.ensures c.if-not-branch.true (c.type_mismatch.ensures ∙ ap type_mismatch at)

pub returns-in_err-ordered-clause-refused : goal.returns-in_err-ordered-clause-refused
returns-in_err-ordered-clause-refused c =
    let p = err_from_is_err_and c.from_residual-in_err-ordered.result c.from_residual-in_err-ordered.ensures.1 in
    rw (p.1, p.2)
    (λ names goal flat at.
    goal_unordered c.args.known.now c.args.form.now c.in_ok-is_typed_goal.field-0 c.args.answers.now c.in_ok-is_typed_goal.ensures c.if-not-branch.false
    names goal flat c.in_err-ordered.field-0.0 c.in_err-ordered.ensures.told)

pub returns-clause-refused : goal.returns-clause-refused
returns-clause-refused c =
    goal_refused c.args.known.now c.args.form.now c.in_ok-is_typed_goal.field-0 c.args.answers.now c.in_ok-is_typed_goal.ensures c.if-not-branch.false
    c.in_ok-ordered.ordered.trees c.in_ok-ordered.ensures.tree.0 c.in_ok-ordered.ensures.told c.in_ok-ordered.ensures.tree.1 c.in_ok-ordered.ensures.tree.2
    c.with_categories.result c.with_categories.ensures.told c.args.span

pub returns-clause-accepted : goal.returns-clause-accepted
returns-clause-accepted c =
    goal_accepted c.args.known.now c.args.form.now c.in_ok-is_typed_goal.field-0 c.args.answers.now c.in_ok-is_typed_goal.ensures c.if-not-branch.false
    c.in_ok-ordered.ordered.trees c.in_ok-ordered.ensures.tree.0 c.in_ok-ordered.ensures.told c.in_ok-ordered.ensures.tree.1 c.in_ok-ordered.ensures.tree.2
    c.with_categories.result c.with_categories.ensures.told

pub returns-clause-graded : goal.returns-clause-graded
returns-clause-graded c =
    IfOk-weaker c.with_categories.result _ _
    (λ asked graded body has. graded (answers_of c.args.form.now c.args.answers.now) (asked_body c.args.form.now) c.in_ok-ordered.ensures.tree.0 body
    c.in_ok-ordered.ensures.tree.1 c.in_ok-ordered.ensures.tree.2 has) c.with_categories.ensures.graded

pub returns-clause-answers : goal.returns-clause-answers
returns-clause-answers c = IfOk-weaker c.with_categories.result _ _ (λ asked is. is ∙ c.in_ok-ordered.ensures.answers) c.with_categories.ensures.answers
