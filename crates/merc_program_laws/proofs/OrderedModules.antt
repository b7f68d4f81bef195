-- The procedures of a module have ordered bodies, where they have trees, and the bodies of its predicates are typed and have their literals.
use Rattle.std.proofs.Common.{◌≡◌, List, [], ◌∷◌, length}
use Rattle.std.specs.List.{AllByRecursion}
use Rattle.merc_tree.specs.declared.declarations.Clause.{Clause}
use Rattle.merc_tree.specs.declared.declarations.ModeDecl.{ModeDecl}
use Rattle.merc_tree.specs.declared.declarations.Module.{Module}
use Rattle.merc_tree.specs.declared.declarations.PredDecl.{PredDecl}
use Rattle.merc_goal_tree.specs.Nodes.{Node}
use Rattle.merc_bodies.specs.Bodies.{body_of}
use Rattle.merc_type_check.specs.Typing.{HasTyping}
use Rattle.merc_grading.specs.Faults.{Body, Procedure, procedures_of, with_modes}
use Rattle.merc_order_laws.specs.TypedTree.{ModesFit}
use Rattle.merc_program_laws.specs.ProgramBodies.{AreOrderedProcedures, HasWrittenLiterals}
use Rattle.merc_program_laws.proofs.OrderedGoals.{procedure_is_ordered}
use Rattle.merc_order_laws.specs.ProcedureBodies.{AreBodiesOf}
use Rattle.merc_program_laws.proofs.Lists.{all_flat, all_mapped}

-- Given are a module and the flat form of each clause.
module _ (known : Module) (form : Clause → Node) where
  abbrev body : PredDecl → Node
  body declared = body_of form known.clauses declared

  abbrev pub IsTypedBody : PredDecl → Type 0
  IsTypedBody declared = HasTyping known declared.args (body declared)

  abbrev pub HasLiteralBody : PredDecl → Type 0
  HasLiteralBody declared = HasWrittenLiterals (body declared)

  -- a predicate in one of its modes, and the same of a procedure

  record IsSuited (declared : PredDecl) (mode : ModeDecl) : Type 0 where
    typed : IsTypedBody declared
    literals : HasLiteralBody declared
    arity : length mode.args ≡ length declared.args

  abbrev IsSuitedProcedure : Procedure → Type 0
  IsSuitedProcedure procedure = IsSuited procedure.predicate procedure.mode

  abbrev AreSuitedModes : PredDecl → Type 0
  AreSuitedModes declared = AllByRecursion (IsSuited declared) declared.modes

  modes_suited : (declared : PredDecl) → IsTypedBody declared → HasLiteralBody declared → (modes : List ModeDecl)
      → AllByRecursion (λ mode. length mode.args ≡ length declared.args) modes → AllByRecursion (IsSuited declared) modes
  modes_suited declared typed literals [] fit = tt
  modes_suited declared typed literals (mode ∷ rest) fit = (record { typed = typed; literals = literals; arity = fit.0 }, modes_suited declared typed literals rest fit.1)

  predicates_suited : (some : List PredDecl) → AllByRecursion IsTypedBody some → AllByRecursion HasLiteralBody some → ModesFit some → AllByRecursion AreSuitedModes some
  predicates_suited [] typed literals fit = tt
  predicates_suited (declared ∷ rest) typed literals fit = (modes_suited declared typed.0 literals.0 declared.modes fit.0, predicates_suited rest typed.1 literals.1 fit.1)

  procedures_suited : (some : List PredDecl) → AllByRecursion AreSuitedModes some → AllByRecursion IsSuitedProcedure (procedures_of some)
  procedures_suited some suited =
      all_flat AreSuitedModes IsSuitedProcedure (λ declared. with_modes declared declared.modes) some
      (λ declared modes. all_mapped (IsSuited declared) IsSuitedProcedure (λ mode. record { predicate = declared; mode = mode }) declared.modes (λ mode suited. suited) modes) suited

  module _ (fit : ModesFit known.preds) where
    retyped : (procedures : List Procedure) (bodies : List Body) → AllByRecursion IsSuitedProcedure procedures → AreBodiesOf known form procedures bodies
        → (others : List Body) × AreBodiesOf known form procedures others × AreOrderedProcedures known procedures others
    retyped [] [] suited are = ([], tt, tt)
    retyped [] (one ∷ bodies) suited are = absurd are
    retyped (procedure ∷ procedures) [] suited are = absurd are
    retyped (procedure ∷ procedures) (one ∷ bodies) suited are =
        let suits = suited.0 in
        let ordered = procedure_is_ordered known procedure.predicate procedure.mode suits.typed.0 (body procedure.predicate) one.tree fit suits.arity suits.typed.1 suits.literals are.0.tree in
        let rest = retyped procedures bodies suited.1 are.1 in (
          record { types = ordered.0; tree = one.tree } ∷ rest.0,
          (record { tree = are.0.tree; typed = ordered.1.typed }, rest.1),
          (ordered.1, rest.2),
        )

    pub ordered_bodies : AllByRecursion IsTypedBody known.preds → AllByRecursion HasLiteralBody known.preds → (bodies : List Body)
        → AreBodiesOf known form (procedures_of known.preds) bodies
        → (others : List Body) × AreBodiesOf known form (procedures_of known.preds) others × AreOrderedProcedures known (procedures_of known.preds) others
    ordered_bodies typed literals bodies are =
        retyped (procedures_of known.preds) bodies (procedures_suited known.preds (predicates_suited known.preds typed literals fit)) are
