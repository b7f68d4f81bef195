-- Procedures without a fault of order have bodies.
use Rattle.std.proofs.Common.{◌≡◌, List, [], ◌∷◌, ◌++◌, length, map, None, refl}
use Rattle.std.specs.List.{AllByRecursion}
use Rattle.merc_base.specs.FirstFault.{first_of_faults}
use Rattle.merc_base.specs.declared.refusal.Refusal.{Refusal}
use Rattle.merc_tree.specs.declared.declarations.Clause.{Clause}
use Rattle.merc_tree.specs.declared.declarations.ModeDecl.{ModeDecl}
use Rattle.merc_tree.specs.declared.declarations.Module.{Module}
use Rattle.merc_tree.specs.declared.declarations.PredDecl.{PredDecl}
use Rattle.merc_goal_tree.specs.Nodes.{Node}
use Rattle.merc_bodies.specs.Bodies.{body_of}
use Rattle.merc_type_check.specs.Typing.{HasTyping}
use Rattle.merc_order.specs.Ordered.{Ordered, Outcome, Ready, Stuck}
use Rattle.merc_order.specs.Procedures.{fault_of, first_fresh, mode_faults, modes_of, numbers_below, order_fault, procedure_faults, procedure_from}
use Rattle.merc_order.specs.Spelt.{spelt}
use Rattle.merc_grading.specs.Faults.{Body, Procedure, procedures_of, with_modes}
use Rattle.merc_order_laws.specs.TypedTree.{ModesFit}
use Rattle.merc_order_laws.proofs.Bodies.{procedure_is_made_from}
use Rattle.merc_order_laws.proofs.TreeTypes.{tree_is_typed, typed_is_sized}
use Rattle.merc_order_laws.specs.ProcedureBodies.{AreBodiesOf, IsBodyOf}

no_fault : (faults : List Refusal) → first_of_faults faults ≡ None → faults ≡ []
no_fault [] none = refl
no_fault (first ∷ rest) none = absurd cc

no_fault_left : (some others : List Refusal) → some ++ others ≡ [] → some ≡ []
no_fault_left [] others none = refl
no_fault_left (first ∷ rest) others none = absurd cc

no_fault_right : (some others : List Refusal) → some ++ others ≡ [] → others ≡ []
no_fault_right [] others none = none
no_fault_right (first ∷ rest) others none = absurd cc

-- Given are a module and the flat form of each clause.
module _ (known : Module) (form : Clause → Node) where
  -- procedures have bodies
  abbrev pub HaveBodies : List Procedure → Type 0
  HaveBodies procedures = (bodies : List Body) × AreBodiesOf known form procedures bodies

  joined : (some others : List Procedure) (bodies behind : List Body) → AreBodiesOf known form some bodies → AreBodiesOf known form others behind
      → AreBodiesOf known form (some ++ others) (bodies ++ behind)
  joined [] others [] behind are also = also
  joined [] others (body ∷ bodies) behind are also = absurd are
  joined (procedure ∷ rest) others [] behind are also = absurd are
  joined (procedure ∷ rest) others (body ∷ bodies) behind are also = (are.0, joined rest others bodies behind are.1 also)

  module _ (fit : ModesFit known.preds) where
    -- a predicate whose body is typed, in its modes
    module _ (declared : PredDecl) (typing : HasTyping known declared.args (body_of form known.clauses declared)) where
      abbrev goal : Node
      goal = body_of form known.clauses declared

      abbrev outcome_in : ModeDecl → Outcome
      outcome_in mode = procedure_from (modes_of known.preds) (length declared.args) mode goal

      mode_has_body : (mode : ModeDecl) (ordered : Ordered) → outcome_in mode ≡ Ready ordered → (body : Body) × IsBodyOf known form (record { predicate = declared; mode = mode }) body
      mode_has_body mode ordered ready =
          let sized = typed_is_sized known typing.0 declared.args goal fit typing.1 in
          let tree = spelt (modes_of known.preds) (first_fresh (numbers_below (length declared.args)) goal) ordered in
          let made = procedure_is_made_from (modes_of known.preds) (length declared.args) mode goal tree sized (ordered, ready, refl) in (
            record { types = λ variable. typing.0 (made.0 variable); tree = tree },
            record { tree = (ordered, ready, refl); typed = tree_is_typed known typing.0 declared.args goal made.0 tree typing.1 made.2 },
          )

      abbrev faults_in : List ModeDecl → List Refusal
      faults_in modes = mode_faults (modes_of known.preds) (length declared.args) modes goal

      modes_have_bodies : (modes : List ModeDecl) → faults_in modes ≡ [] → HaveBodies (with_modes declared modes)
      modes_have_bodies [] none = ([], tt)
      modes_have_bodies (mode ∷ modes) none = by (outcome_in mode) refl none (modes_have_bodies modes)
        where
          by : (outcome : Outcome) → outcome_in mode ≡ outcome → fault_of outcome ++ faults_in modes ≡ [] → (faults_in modes ≡ [] → HaveBodies (with_modes declared modes))
              → HaveBodies (with_modes declared (mode ∷ modes))
          by (Ready ordered) ready none' rest =
              let one = mode_has_body mode ordered ready in
              let others = rest none' in
              (one.0 ∷ others.0, (one.1, others.1))
          by (Stuck fault) stuck none' rest = absurd cc

    predicates_have_bodies : (predicates : List PredDecl) → AllByRecursion (λ declared. HasTyping known declared.args (body_of form known.clauses declared)) predicates
        → procedure_faults (modes_of known.preds) predicates (map (body_of form known.clauses) predicates) ≡ [] → HaveBodies (procedures_of predicates)
    predicates_have_bodies [] typed none = ([], tt)
    predicates_have_bodies (declared ∷ rest) typed none =
        let own = mode_faults (modes_of known.preds) (length declared.args) declared.modes (body_of form known.clauses declared) in
        let behind = procedure_faults (modes_of known.preds) rest (map (body_of form known.clauses) rest) in
        let one = modes_have_bodies declared typed.0 declared.modes (no_fault_left own behind none) in
        let others = predicates_have_bodies rest typed.1 (no_fault_right own behind none) in
        (one.0 ++ others.0, joined (with_modes declared declared.modes) (procedures_of rest) one.0 others.0 one.1 others.1)

    -- Where the bodies of predicates are typed, and none has a fault of order, each procedure has a body.
    pub procedures_have_bodies : AllByRecursion (λ declared. HasTyping known declared.args (body_of form known.clauses declared)) known.preds
        → order_fault known.preds (map (body_of form known.clauses) known.preds) ≡ None → HaveBodies (procedures_of known.preds)
    procedures_have_bodies typed none =
        predicates_have_bodies known.preds typed (no_fault (procedure_faults (modes_of known.preds) known.preds (map (body_of form known.clauses) known.preds)) none)
