-- The procedures of library units have no fault of categories.
use Rattle.std.proofs.Common.{◌≡◌, ℕ, inl, inr, List, [], ◌∷◌, ◌++◌, length, Option, Some, None, refl, sym, ap, subst, ◌∙◌}
use Rattle.merc_base.specs.declared.refusal.Refusal.{Refusal}
use Rattle.merc_tree.specs.declared.declarations.ModeDecl.{ModeDecl}
use Rattle.merc_tree.specs.declared.declarations.PredDecl.{PredDecl}
use Rattle.merc_tree.specs.declared.declarations.Module.{Module}
use Rattle.merc_graded_tree.specs.Nodes.{Node as OrderedNode}
use Rattle.merc_order.specs.Ordered.{Outcome}
use Rattle.merc_order.specs.Procedures.{bound_at, first_fresh, modes_of, numbers_below, procedure_from}
use Rattle.merc_grading.specs.Faults.{Body, Procedure, all_finished, finished, own_faults, parallel_faults, procedure_faults, procedures_of, with_modes}
use Rattle.merc_flat.specs.Flat.{clause_node}
use Rattle.merc_order_laws.specs.ProcedureBodies.{AreBodiesOf}
use Rattle.merc_program_laws.specs.ClauseFaults.{IsAmong}
use Rattle.merc_program_laws.proofs.FirstFaults.{all_at, among_either, least_of}
use Rattle.merc_program_laws.proofs.UnitEntries.{flat_mapped}
use Rattle.merc_program_laws.specs.UnitProcedures.{body_in}
use Rattle.merc_program_laws.specs.UnitCategories.{HasBody, category_faults, HasNoUnitFault, UnitsHaveNoCategoryFault, TellsFileCategory}
use Rattle.merc_program_laws.proofs.SequentialBodies.{IsSequential, IsSequentialBody, append_sequential, length_sequential, member_sequential, onto_sequential, reverse_sequential}
use Rattle.merc_program_laws.proofs.NoParallel.{HasNoParallel, finished_faultless}
use Rattle.merc_program_laws.proofs.UnitBodies.{HoldsOfList, holds_of_units}

-- A procedure is a predicate of the module in one of its modes.

record IsIn (predicates : List PredDecl) (procedure : Procedure) : Type 0 where
  declared : IsAmong procedure.predicate predicates
  own : IsAmong procedure.mode procedure.predicate.modes

of_mode : (declared : PredDecl) (modes : List ModeDecl) (procedure : Procedure) → IsAmong procedure (with_modes declared modes) → (procedure.predicate ≡ declared) × IsAmong procedure.mode modes
of_mode declared [] procedure among = absurd among
of_mode declared (mode ∷ modes) procedure (inl same) = (ap (λ (p : Procedure). p.predicate) same, inl (ap (λ (p : Procedure). p.mode) same))
of_mode declared (mode ∷ modes) procedure (inr among) = let inner = of_mode declared modes procedure among in (inner.0, inr inner.1)

is_in : (predicates : List PredDecl) (procedure : Procedure) → IsAmong procedure (procedures_of predicates) → IsIn predicates procedure
is_in predicates procedure among =
    let from = flat_mapped (λ (declared : PredDecl). with_modes declared declared.modes) procedure predicates among in
    let of = of_mode from.from from.from.modes procedure from.inside in
    record {
      declared = subst (λ (declared : PredDecl). IsAmong declared predicates) (sym of.0) from.among;
      own = subst (λ (declared : PredDecl). IsAmong procedure.mode declared.modes) (sym of.0) of.1;
    }

-- A procedure of a unit whose tree has no parallel conjunction has no fault.
module _ (names : List (List ℕ)) (known : Module) where
  abbrev outcome_of : Procedure → Outcome
  outcome_of procedure = procedure_from (modes_of known.preds) (length procedure.predicate.args) procedure.mode (body_in names known procedure.predicate)

  tree_has_none : (procedure : Procedure) (body : Body) → HasBody names known procedure body → IsSequential (modes_of known.preds) (outcome_of procedure) → HasNoParallel body.tree
  tree_has_none procedure body has is =
      let tree = has.tree in
      let ready = subst (IsSequential (modes_of known.preds)) tree.1 is in
      subst HasNoParallel (sym tree.2) (ready (first_fresh (numbers_below (length procedure.predicate.args)) (body_in names known procedure.predicate)))

  no_own_fault : (unit : Option ℕ) (own : ℕ) (mode : ModeDecl) (tree : OrderedNode) → unit ≡ Some own → own_faults unit mode tree ≡ []
  no_own_fault unit own mode tree is = ap (λ (u : Option ℕ). own_faults u mode tree) is

  no_fault : (procedure : Procedure) (unit : ℕ) (body : Body) → procedure.predicate.unit ≡ Some unit → HasBody names known procedure body → IsSequential (modes_of known.preds) (outcome_of procedure)
      → category_faults names known procedure body ≡ []
  no_fault procedure unit body of_unit has is =
      let bound = bound_at procedure.mode.args in
      let tree = finished known.types known.preds bound body in
      ap (λ (faults : List Refusal). faults ++ parallel_faults tree) (no_own_fault procedure.predicate.unit unit procedure.mode tree of_unit)
      ∙ finished_faultless known.types body.types (modes_of known.preds) bound body.tree (tree_has_none procedure body has is)

list_holds : HoldsOfList IsSequentialBody
list_holds = record { append = append_sequential; member = member_sequential; length_of = length_sequential; reverse = reverse_sequential; onto = onto_sequential }

pub units_have_none : UnitsHaveNoCategoryFault
units_have_none before after text terms found table is procedure unit body among of_unit has =
    let inside = is_in found.preds procedure among in
    let units = holds_of_units IsSequentialBody list_holds before after text terms found table is procedure.predicate unit inside.declared of_unit in
    no_fault after found procedure unit body of_unit has
    (all_at (λ (mode : ModeDecl). IsSequential (modes_of found.preds) (procedure_from (modes_of found.preds) (length procedure.predicate.args) mode (body_in after found procedure.predicate)))
    procedure.mode procedure.predicate.modes units inside.own)

-- a fault of procedures with bodies is one of a procedure with its body

module _ (names : List (List ℕ)) (known : Module) where
  record IsOfProcedure (all : List Procedure) (fault : Refusal) : Type 0 where
    procedure : Procedure
    body : Body
    among : IsAmong procedure all
    has : HasBody names known procedure body
    inside : IsAmong fault (category_faults names known procedure body)

  of_procedure : (all : List Procedure) (bodies : List Body) (fault : Refusal) → AreBodiesOf known (clause_node names known) all bodies
      → IsAmong fault (procedure_faults all (all_finished known.types known.preds all bodies)) → IsOfProcedure all fault
  of_procedure [] bodies fault are among = absurd among
  of_procedure (first ∷ rest) [] fault are among = absurd are
  of_procedure (first ∷ rest) (body ∷ bodies) fault are among =
      elim (among_either fault (category_faults names known first body) (procedure_faults rest (all_finished known.types known.preds rest bodies)) among)
      as (λ _. IsOfProcedure (first ∷ rest) fault) [
        | inl here ↦ record { procedure = first; body = body; among = inl refl; has = are.0; inside = here }
        | inr there ↦ (let inner = of_procedure rest bodies fault are.1 there in record { procedure = inner.procedure; body = inner.body; among = inr inner.among; has = inner.has; inside = inner.inside })
      ]

pub tells_category : TellsFileCategory
tells_category before after text terms found told table is bodies are tells =
    let units = units_have_none before after text terms found table is in
    let all = procedures_of found.preds in
    let least = least_of (procedure_faults all (all_finished found.types found.preds all bodies)) told tells in
    let of = of_procedure after found all bodies told are least.among in
    record {
      procedure = of.procedure;
      body = of.body;
      among = of.among;
      own = own of.procedure of.body of.among of.has of.inside units of.procedure.predicate.unit refl;
      has = of.has;
      fault = of.inside;
    }
  where
    own : (procedure : Procedure) (body : Body) → IsAmong procedure (procedures_of found.preds) → HasBody after found procedure body → IsAmong told (category_faults after found procedure body)
        → HasNoUnitFault after found → (unit : Option ℕ) → procedure.predicate.unit ≡ unit → procedure.predicate.unit ≡ None
    own procedure body among has inside units None same = same
    own procedure body among has inside units (Some unit) same = absurd (subst (IsAmong told) (units procedure unit body among same has) inside)
