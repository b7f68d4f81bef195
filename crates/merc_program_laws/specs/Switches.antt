-- What switches keep of truth.
use Rattle.std.specs.Prelude.{◌≡◌, ◌↔◌, ℕ, List, length, Option, Some, None}
use Rattle.merc_tree.specs.Types.{TypeExpr}
use Rattle.merc_tree.specs.declared.declarations.ModeDecl.{ModeDecl}
use Rattle.merc_tree.specs.declared.declarations.TypeDef.{TypeDef}
use Rattle.merc_graded_tree.specs.declared.basic.Procedure.{Procedure}
use Rattle.merc_graded_tree.specs.Nodes.{Node}
use Rattle.merc_order.specs.Bound.{Bound, Holds, among}
use Rattle.merc_order.specs.Procedures.{bound_at, numbers_below}
use Rattle.merc_order_laws.specs.GoodTree.{GoodNode}
use Rattle.merc_grading.specs.Switches.{find}
use Rattle.merc_meaning.specs.Runs.{Program, ProcedureBody}
use Rattle.merc_meaning.specs.Truth.{Assignment, Outside, YesCall, NoCall}
use Rattle.merc_program_laws.specs.TruthLaws.{SameTruth}

-- A procedure and the same with its switches: the body is good, and its variables have some types.
abbrev pub IsSwitched : List TypeDef → (ℕ → List ModeDecl) → Option ProcedureBody → Option ProcedureBody → Type 0
IsSwitched declared modes None None = Unit {0}
IsSwitched declared modes None (Some other) = ⊥
IsSwitched declared modes (Some procedure) None = ⊥
IsSwitched declared modes (Some procedure) (Some other) =
    (other.places ≡ procedure.places)
    × GoodNode modes (among (numbers_below (length procedure.places))) (bound_at procedure.places) procedure.body
    × ((types : ℕ → TypeExpr) × (other.body ≡ find declared types (bound_at procedure.places) procedure.body))

-- a program and the same with its switches
abbrev pub AreSwitched : List TypeDef → (ℕ → List ModeDecl) → Program → Program → Type 0
AreSwitched declared modes program other = (procedure : Procedure) → IsSwitched declared modes (program procedure) (other procedure)

-- Switches keep truth: of calls, at every stage and for all values,
abbrev pub SwitchedCallsKeepTruth : Type 0
SwitchedCallsKeepTruth = (declared : List TypeDef) (modes : ℕ → List ModeDecl) (program other : Program) → AreSwitched declared modes program other
    → (stage : ℕ) (procedure : Procedure) (arguments : List ℕ) (values : Assignment)
    → (YesCall program stage procedure arguments values ↔ YesCall other stage procedure arguments values)
    × (NoCall program stage procedure arguments values ↔ NoCall other stage procedure arguments values)

-- and of each good goal, where what is bound before it occurs outside it.
abbrev pub SwitchedGoalsKeepTruth : Type 0
SwitchedGoalsKeepTruth = (declared : List TypeDef) (modes : ℕ → List ModeDecl) (program other : Program) → AreSwitched declared modes program other
    → (types : ℕ → TypeExpr) (outside : Outside) (bound : Bound) (tree : Node) → Holds bound outside → GoodNode modes outside bound tree
    → SameTruth program other outside tree (find declared types bound tree)
