-- Each parallel conjunction of an accepted module, and of an accepted goal, has from one to 64 conjuncts.
use Rattle.std.proofs.Common.{ℕ, List, [], ◌∷◌, length}
use Rattle.std.specs.List.{AllByRecursion}
use Rattle.merc_tree.specs.Term.{Term}
use Rattle.merc_tree.specs.declared.declarations.Clause.{Clause}
use Rattle.merc_tree.specs.declared.declarations.Module.{Module}
use Rattle.merc_tree.specs.declared.declarations.PredDecl.{PredDecl}
use Rattle.merc_goals.specs.Written.{written}
use Rattle.merc_goal_tree.specs.Nodes.{Node, span_of}
use Rattle.merc_bodies.specs.Bodies.{asked_body, body_of}
use Rattle.merc_flat.specs.Flat.{clause_node, query_node}
use Rattle.merc_order.specs.Bound.{nothing}
use Rattle.merc_order.specs.Procedures.{bound_at, modes_of, numbers_below}
use Rattle.merc_grading.specs.Faults.{Body, Procedure, procedures_of}
use Rattle.merc_check.specs.Accepted.{AcceptsClauses, AcceptsGoal, HasBody, HaveBodies, query_answers}
use Rattle.merc_order_laws.specs.ProcedureBodies.{AreBodiesOf}
use Rattle.merc_program_laws.specs.OrderedBodies.{finished_body}
use Rattle.merc_program_laws.specs.ProgramBodies.{finished_bodies}
use Rattle.merc_script_laws.specs.Parallel.{HasFew}
use Rattle.merc_script_laws.proofs.FewForms.{FewIn}
use Rattle.merc_script_laws.proofs.FewBodies.{asked_few, body_few}
use Rattle.merc_script_laws.proofs.FewOrdered.{ordered_few}
use Rattle.merc_script_laws.proofs.FewFinished.{finished_few}

abbrev pub BodyHasFew : Body → Type 0
BodyHasFew body = HasFew body.tree

bodies_few : (known : Module) (form : Clause → Node) → ((declared : PredDecl) → FewIn (body_of form known.clauses declared)) → (procedures : List Procedure) (bodies : List Body)
    → AreBodiesOf known form procedures bodies → AllByRecursion BodyHasFew (finished_bodies known procedures bodies)
bodies_few known form few [] [] are = tt
bodies_few known form few [] (body ∷ bodies) are = absurd are
bodies_few known form few (procedure ∷ procedures) [] are = absurd are
bodies_few known form few (procedure ∷ procedures) (body ∷ bodies) are =
    let predicate = procedure.predicate in
    let modes = modes_of known.preds in
    let bound = bound_at procedure.mode.args in (
      finished_few known.types body.types modes bound body.tree
          (ordered_few modes (numbers_below (length predicate.args)) bound procedure.mode.span (body_of form known.clauses predicate) body.tree (few predicate) are.0.tree),
      bodies_few known form few procedures bodies are.1,
    )

pub accepted_few : (names : List (List ℕ)) (known : Module) → AcceptsClauses names known → (bodies : List Body) → HaveBodies names known bodies
    → AllByRecursion BodyHasFew (finished_bodies known (procedures_of known.preds) bodies)
accepted_few names known accepts bodies are = bodies_few known (clause_node names known) (body_few names known accepts.flat) (procedures_of known.preds) bodies are

pub asked_goal_few : (names : List (List ℕ)) (known : Module) (goal : Term) → AcceptsGoal names known goal → (body : Body) → HasBody names known goal body → BodyHasFew (finished_body known nothing body)
asked_goal_few names known goal accepts body has =
    let asked = asked_body (query_node names known (written 0 goal)) in
    let modes = modes_of known.preds in
    finished_few known.types body.types modes nothing body.tree
    (ordered_few modes (query_answers names known goal) nothing (span_of asked) asked body.tree (asked_few names known goal accepts.flat) has.tree)
