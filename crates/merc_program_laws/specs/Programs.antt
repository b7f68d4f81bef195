-- The programs of a module's predicates and their bodies in flat form: before goals are ordered, and after.
use Rattle.std.specs.Prelude.{◌≡◌, ℕ, List, length, replicate, Option, Some, None, slice_get}
use Rattle.merc_tree.specs.declared.declarations.Arg.TheVariants.{Output}
use Rattle.merc_tree.specs.declared.declarations.ModeDecl.{ModeDecl}
use Rattle.merc_tree.specs.declared.declarations.PredDecl.{PredDecl}
use Rattle.merc_goal_tree.specs.Nodes.{Node}
use Rattle.merc_graded_tree.specs.declared.basic.Procedure.{Procedure}
use Rattle.merc_order.specs.Procedures.{modes_of, IsProcedure}
use Rattle.merc_order_laws.specs.TypedTree.{ModesFit}
use Rattle.merc_meaning.specs.Runs.{Program, ProcedureBody}
use Rattle.merc_program_laws.specs.Plain.{plain}

-- Before goals are ordered no argument is an input, and a predicate has one body whatever the mode.

abbrev pub flat_procedure : Option PredDecl → Option Node → Option ProcedureBody
flat_procedure (Some declared) (Some goal) = Some (record { places = replicate (length declared.args) Output; body = plain goal })
flat_procedure (Some declared) None = None
flat_procedure None goal = None

abbrev pub flat_program : List PredDecl → List Node → Program
flat_program predicates goals procedure = flat_procedure (slice_get predicates procedure.predicate) (slice_get goals procedure.predicate)

-- a procedure that there is: its predicate, the predicate's body, and its mode
pub record IsThere (predicates : List PredDecl) (goals : List Node) (procedure : Procedure) (declared : PredDecl) (goal : Node) (mode : ModeDecl) : Type 0 where
  pub has_predicate : slice_get predicates procedure.predicate ≡ Some declared
  pub has_goal : slice_get goals procedure.predicate ≡ Some goal
  pub has_mode : slice_get declared.modes procedure.mode ≡ Some mode

-- it has its mode's places, and the predicate's body as ordered in this mode
abbrev pub IsOrderedProcedure : (ℕ → List ModeDecl) → PredDecl → Node → ModeDecl → Option ProcedureBody → Type 0
IsOrderedProcedure modes declared goal mode None = ⊥
IsOrderedProcedure modes declared goal mode (Some procedure) = (procedure.places ≡ mode.args) × IsProcedure modes (length declared.args) mode goal procedure.body

-- A program of ordered goals: each predicate has a body, each mode has a place for each argument, and each procedure that there is is ordered.
pub record IsOrderedProgram (predicates : List PredDecl) (goals : List Node) (program : Program) : Type 0 where
  pub has_bodies : length goals ≡ length predicates
  pub modes_fit : ModesFit predicates
  pub is_ordered : (procedure : Procedure) (declared : PredDecl) (goal : Node) (mode : ModeDecl) → IsThere predicates goals procedure declared goal mode
      → IsOrderedProcedure (modes_of predicates) declared goal mode (program procedure)
