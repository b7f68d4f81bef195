-- The trees of accepted modules and goals keep their outputs.
use Rattle.std.proofs.Common.{◌≡◌, ℕ, if◌then◌else◌, List, [], ◌∷◌, length, ap, sym, subst, ◌∙◌, arith}
use Rattle.std.specs.List.{AllByRecursion, IsDistinct}
use Rattle.std.specs.Str.{bytes_eq}
use Rattle.merc_base.specs.Names.{HoldsFixed}
use Rattle.merc_base.specs.declared.place.Span.{Span}
use Rattle.merc_tree.specs.Term.{Term}
use Rattle.merc_tree.specs.declared.declarations.Clause.{Clause}
use Rattle.merc_tree.specs.declared.declarations.ModeDecl.{ModeDecl}
use Rattle.merc_tree.specs.declared.declarations.Module.{Module}
use Rattle.merc_tree.specs.declared.declarations.PredDecl.{PredDecl}
use Rattle.merc_goals.specs.Written.{written}
use Rattle.merc_goal_tree.specs.Nodes.{Node, span_of}
use Rattle.merc_bodies.specs.Bodies.{asked_body, body_of}
use Rattle.merc_flat.specs.Flat.{clause_node, query_node}
use Rattle.merc_type_check.specs.Typing.{HasTyping}
use Rattle.merc_graded_tree.specs.Nodes.{Node as OrderedNode}
use Rattle.merc_order.specs.Bound.{Bound, nothing, among}
use Rattle.merc_order.specs.Faults.{unbound_output}
use Rattle.merc_order.specs.Order.{from}
use Rattle.merc_order.specs.Ordered.{Ordered, Ready, Stuck}
use Rattle.merc_order.specs.Procedures.{bound_at, numbers_below, total_of, are_bound_behind, body_from, first_fresh, modes_of, IsBody}
use Rattle.merc_grading.specs.Faults.{Body, Procedure, procedures_of, with_modes}
use Rattle.merc_grading.specs.Switches.{find}
use Rattle.merc_check.specs.Accepted.{HasBody, query_answers}
use Rattle.merc_check.specs.Checked.{IsAccepted, IsGoal}
use Rattle.merc_order_laws.specs.Bindings.{Variables}
use Rattle.merc_order_laws.specs.GoodTree.{GoodNode}
use Rattle.merc_order_laws.specs.Laws.{Sized}
use Rattle.merc_order_laws.specs.ProcedureBodies.{AreBodiesOf}
use Rattle.merc_order_laws.specs.TypedTree.{ModesFit}
use Rattle.merc_order_laws.proofs.Bodies.{procedure_is_good, query_is_good}
use Rattle.merc_order_laws.proofs.JoinedTyping.{asked_typed}
use Rattle.merc_order_laws.proofs.ModesFitting.{module_modes_fit}
use Rattle.merc_order_laws.proofs.Ordering.{if_ready_is, if_is}
use Rattle.merc_order_laws.proofs.PredicatesApart.{predicates_have_types}
use Rattle.merc_order_laws.proofs.ProcedureHeads.{bodies_typed}
use Rattle.merc_order_laws.proofs.TreeTypes.{typed_is_sized}
use Rattle.merc_program_laws.specs.ModuleLaws.{HaveBodies}
use Rattle.merc_program_laws.specs.OrderedBodies.{finished_body}
use Rattle.merc_program_laws.specs.ProgramBodies.{finished_bodies}
use Rattle.merc_program_laws.proofs.Lists.{all_flat, all_mapped}
use Rattle.merc_script_laws.specs.Parallel.{KeepsOutputs}
use Rattle.merc_script_laws.proofs.OutputsOrdered.{from_keeps}
use Rattle.merc_script_laws.proofs.OutputsSpelt.{spelt_keeps}
use Rattle.merc_script_laws.proofs.OutputsFound.{found_keeps}
use Rattle.merc_script_laws.proofs.OutputsGraded.{graded_keeps}

abbrev pub BodyKeepsOutputs : Module → Body → Type 0
BodyKeepsOutputs known body = KeepsOutputs (modes_of known.preds) body.tree

-- The bodies of an accepted module's procedures, with their switches and categories, keep their outputs. The table of names is as each is: the constants come
-- first, and each text stands once.
abbrev pub AcceptedKeepsOutputs : Type 0
AcceptedKeepsOutputs = (before after : List (List ℕ)) (text : List ℕ) (items : List Term) (found : Module) → HoldsFixed before → IsDistinct bytes_eq before
    → IsAccepted before after text items found → (bodies : List Body) → HaveBodies after found bodies
    → AllByRecursion (BodyKeepsOutputs found) (finished_bodies found (procedures_of found.preds) bodies)

-- So does the body of an accepted goal over such a module.
abbrev pub AcceptedGoalKeepsOutputs : Type 0
AcceptedGoalKeepsOutputs = (before read after : List (List ℕ)) (text goal_text : List ℕ) (items : List Term) (found : Module) (goal : Term)
    → IsAccepted before read text items found → IsGoal read after found goal_text goal → (body : Body) → HasBody after found goal body
    → BodyKeepsOutputs found (finished_body found nothing body)

body_keeps : (modes : ℕ → List ModeDecl) (heads : List ℕ) (bound : Bound) (span : Span) (goal : Node) (tree : OrderedNode) → Sized modes goal → IsBody modes heads (body_from modes heads bound span goal) goal tree → KeepsOutputs modes tree
body_keeps modes heads bound span goal tree sized (ordered, ready, is_tree) =
    let (o, p, q) = if_ready_is (from (total_of heads goal) modes goal bound) (λ found. if are_bound_behind modes heads bound goal then Ready found else Stuck (unbound_output span)) ordered ready in
    let k = if_is (are_bound_behind modes heads bound goal) o ordered (unbound_output span) q in
    subst (λ (t : OrderedNode). KeepsOutputs modes t) (sym is_tree)
    (spelt_keeps modes ordered (first_fresh heads goal) (from_keeps modes (total_of heads goal) goal sized (λ v. omega (arith)) bound ordered (p ∙ ap (λ (z : Ordered). Ready z) k.1)))

finished_keeps : (known : Module) (body : Body) (bound : Bound) (out b : Variables) → GoodNode (modes_of known.preds) out b body.tree → BodyKeepsOutputs known body → BodyKeepsOutputs known (finished_body known bound body)
finished_keeps known body bound out b good k =
    graded_keeps known.types body.types (modes_of known.preds) (find known.types body.types bound body.tree) [] (found_keeps (modes_of known.preds) known.types body.types body.tree bound out b good k)

-- Given are a module and the flat form of each clause.
module _ (known : Module) (form : Clause → Node) where
  abbrev IsTypedBody : PredDecl → Type 0
  IsTypedBody declared = HasTyping known declared.args (body_of form known.clauses declared)

  -- a predicate in one of its modes, and the same of a procedure

  record IsSuited (declared : PredDecl) (mode : ModeDecl) : Type 0 where
    typed : IsTypedBody declared
    arity : length mode.args ≡ length declared.args

  abbrev IsSuitedProcedure : Procedure → Type 0
  IsSuitedProcedure procedure = IsSuited procedure.predicate procedure.mode

  abbrev AreSuitedModes : PredDecl → Type 0
  AreSuitedModes declared = AllByRecursion (IsSuited declared) declared.modes

  modes_suited : (declared : PredDecl) → IsTypedBody declared → (modes : List ModeDecl) → AllByRecursion (λ mode. length mode.args ≡ length declared.args) modes → AllByRecursion (IsSuited declared) modes
  modes_suited declared typed [] fit = tt
  modes_suited declared typed (mode ∷ rest) fit = (record { typed = typed; arity = fit.0 }, modes_suited declared typed rest fit.1)

  predicates_suited : (some : List PredDecl) → AllByRecursion IsTypedBody some → ModesFit some → AllByRecursion AreSuitedModes some
  predicates_suited [] typed fit = tt
  predicates_suited (declared ∷ rest) typed fit = (modes_suited declared typed.0 declared.modes fit.0, predicates_suited rest typed.1 fit.1)

  procedures_suited : (some : List PredDecl) → AllByRecursion AreSuitedModes some → AllByRecursion IsSuitedProcedure (procedures_of some)
  procedures_suited some suited =
      all_flat AreSuitedModes IsSuitedProcedure (λ declared. with_modes declared declared.modes) some
      (λ declared modes. all_mapped (IsSuited declared) IsSuitedProcedure (λ mode. record { predicate = declared; mode = mode }) declared.modes (λ mode suited. suited) modes) suited

  procedures_keep : ModesFit known.preds → (procedures : List Procedure) (bodies : List Body) → AllByRecursion IsSuitedProcedure procedures → AreBodiesOf known form procedures bodies
      → AllByRecursion (BodyKeepsOutputs known) (finished_bodies known procedures bodies)
  procedures_keep fit [] bodies suited are = tt
  procedures_keep fit (procedure ∷ procedures) [] suited are = tt
  procedures_keep fit (procedure ∷ procedures) (body ∷ bodies) suited are =
      let declared = procedure.predicate in
      let mode = procedure.mode in
      let goal = body_of form known.clauses declared in
      let sized = typed_is_sized known suited.0.typed.0 declared.args goal fit suited.0.typed.1 in
      let good = procedure_is_good (modes_of known.preds) (length declared.args) mode goal body.tree sized suited.0.arity are.0.tree in (
        finished_keeps known body (bound_at mode.args) (among (numbers_below (length declared.args))) (bound_at mode.args) good
            (body_keeps (modes_of known.preds) (numbers_below (length declared.args)) (bound_at mode.args) mode.span goal body.tree sized are.0.tree),
        procedures_keep fit procedures bodies suited.1 are.1,
      )

pub accepted_outputs : AcceptedKeepsOutputs
accepted_outputs before after text items found fixed distinct is bodies are =
    let form = clause_node after found in
    let fit = module_modes_fit before after text items found is.module_is in
    let typed = bodies_typed found form is.clauses.typed found.preds (predicates_have_types before after text items found fixed distinct is.module_is) in
    procedures_keep found form fit (procedures_of found.preds) bodies (procedures_suited found form found.preds (predicates_suited found form found.preds typed fit)) are

pub accepted_goal_outputs : AcceptedGoalKeepsOutputs
accepted_goal_outputs before read after text goal_text items found goal is asked body has =
    let form = query_node after found (written 0 goal) in
    let whole = asked_body form in
    let answers = query_answers after found goal in
    let fit = module_modes_fit before read text items found is.module_is in
    let typed = asked_typed found form asked.accepted.typed in
    let sized = typed_is_sized found typed.0 [] whole fit typed.1 in
    finished_keeps found body nothing (among answers) nothing (query_is_good (modes_of found.preds) answers whole body.tree sized has.tree)
    (body_keeps (modes_of found.preds) answers nothing (span_of whole) whole body.tree sized has.tree)
