-- The parallel conjuncts of accepted modules and goals are det or erroneous.
use Rattle.std.proofs.Common.{◌≡◌, ℕ, List, [], ◌∷◌, ◌++◌, None, refl}
use Rattle.std.specs.List.{AllByRecursion}
use Rattle.merc_base.specs.FirstFault.{first_of_faults}
use Rattle.merc_base.specs.declared.refusal.Refusal.{Refusal}
use Rattle.merc_tree.specs.Term.{Term}
use Rattle.merc_tree.specs.declared.declarations.Module.{Module}
use Rattle.merc_graded_tree.specs.Nodes.{Node}
use Rattle.merc_order.specs.Bound.{nothing}
use Rattle.merc_order.specs.Procedures.{bound_at}
use Rattle.merc_grading.specs.Faults.{Body, Procedure, all_finished, finished, mode_faults, own_faults, parallel_faults, procedure_faults, procedures_of}
use Rattle.merc_check.specs.Accepted.{AcceptsClauses, AcceptsGoal, HasBody, HaveBodies}
use Rattle.merc_program_laws.specs.OrderedBodies.{finished_body}
use Rattle.merc_program_laws.specs.ProgramBodies.{finished_bodies}

none_first : (faults : List Refusal) → first_of_faults faults ≡ None → faults ≡ []
none_first [] none = refl
none_first (one ∷ rest) none = cc

none_front : (front back : List Refusal) → front ++ back ≡ [] → front ≡ []
none_front [] back none = refl
none_front (one ∷ front) back none = cc

none_back : (front back : List Refusal) → front ++ back ≡ [] → back ≡ []
none_back [] back none = none
none_back (one ∷ front) back none = cc

-- no parallel conjunct of a body is at fault
abbrev pub IsBeside : Body → Type 0
IsBeside body = parallel_faults body.tree ≡ []

bodies_beside : (known : Module) (procedures : List Procedure) (bodies : List Body) → procedure_faults procedures (all_finished known.types known.preds procedures bodies) ≡ []
    → AllByRecursion IsBeside (finished_bodies known procedures bodies)
bodies_beside known [] bodies none = tt
bodies_beside known (first ∷ rest) [] none = tt
bodies_beside known (first ∷ rest) (body ∷ bodies) none =
    let tree : Node = finished known.types known.preds (bound_at first.mode.args) body in
    let own : List Refusal = own_faults first.predicate.unit first.mode tree in
    let here : List Refusal = mode_faults first.predicate.unit first.mode tree in
    let others : List Refusal = procedure_faults rest (all_finished known.types known.preds rest bodies) in
    (none_back own (parallel_faults tree) (none_front here others none), bodies_beside known rest bodies (none_back here others none))

pub accepted_beside : (names : List (List ℕ)) (known : Module) → AcceptsClauses names known → (bodies : List Body) → HaveBodies names known bodies
    → AllByRecursion IsBeside (finished_bodies known (procedures_of known.preds) bodies)
accepted_beside names known accepts bodies are =
    let all = procedures_of known.preds in
    bodies_beside known all bodies (none_first (procedure_faults all (all_finished known.types known.preds all bodies)) (accepts.categories bodies are))

pub asked_beside : (names : List (List ℕ)) (known : Module) (goal : Term) → AcceptsGoal names known goal → (body : Body) → HasBody names known goal body → IsBeside (finished_body known nothing body)
asked_beside names known goal accepts body has = none_first (parallel_faults (finished known.types known.preds nothing body)) (accepts.categories body has)
