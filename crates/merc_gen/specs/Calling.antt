-- What goals and code can reach by calls.
use Rattle.std.specs.Prelude.{◌≡◌, ℕ, List, Some}
use Rattle.std.specs.List.{Contains}
use Rattle.merc_graded_tree.specs.declared.basic.Procedure.{Procedure}
use Rattle.merc_graded_tree.specs.declared.basic.Site.{Site}
use Rattle.merc_graded_tree.specs.Nodes.{Node}
use Rattle.merc_meaning.specs.Runs.{Program, ProcedureBody}
use Rattle.merc_par_split.specs.Forks.{forks}
use Rattle.merc_par_split.specs.SplitLaws.{calls_of}
use Rattle.merc_code.specs.declared.instruction.Instruction.{Instruction}
use Rattle.merc_code.specs.declared.instruction.Instruction.TheVariants.{Call, Fork}
use Rattle.merc_code.specs.Steps.{Code, ProcedureCode, Codes}

-- a procedure that the goal calls, or that is called by one which the goal can reach
pub data CanCall (program : Program) : Node → Procedure → Type 0 where
  calls : (goal : Node) (procedure : Procedure) → Contains (calls_of goal) procedure → CanCall program goal procedure
  calls_by : (goal : Node) (between procedure : Procedure) (body : ProcedureBody) → Contains (calls_of goal) between → program between ≡ Some body
      → CanCall program body.body procedure → CanCall program goal procedure

-- Neither the goal nor a procedure that it can reach by calls has an `&`.
pub record HasNoFork (program : Program) (goal : Node) : Type 0 where
  pub none_here : forks goal ≡ 0
  pub none_called : (procedure : Procedure) (body : ProcedureBody) → CanCall program goal procedure → program procedure ≡ Some body → forks body.body ≡ 0

-- an instruction of the code, or of the code of a procedure that the code can reach by calls
pub data CanReach (codes : Codes) : Code → Instruction → Type 0 where
  reaches : (code : Code) (instruction : Instruction) → Contains code instruction → CanReach codes code instruction
  reaches_by : (code : Code) (procedure : Procedure) (arguments : List ℕ) (called : ProcedureCode) (instruction : Instruction)
      → Contains code (Call procedure arguments) → codes.procedures procedure ≡ Some called → CanReach codes called.code instruction → CanReach codes code instruction

abbrev pub ReachesNoFork : Codes → Code → Type 0
ReachesNoFork codes code = (site : Site) → CanReach codes code (Fork site) → ⊥
