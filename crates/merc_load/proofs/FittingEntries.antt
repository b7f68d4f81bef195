-- What the calls of loaded code pass goes to slots of the called procedures' frames.
use Rattle.std.specs.Prelude.{◌≡◌, ℕ, zero, Bool, true, false, List, [], ◌∷◌, Option, Some, None, slice_get, refl, if◌then◌else◌}
use Rattle.std.specs.List.{All}
use Rattle.std.proofs.Common.{inl, inr, subst, sym}
use Rattle.std.proofs.lemmas.List.Elements.{All-cons, All-head, All-nil}
use Rattle.merc_tree.specs.declared.declarations.Arg.{Arg}
use Rattle.merc_graded_tree.specs.declared.basic.Procedure.{Procedure}
use Rattle.merc_code.specs.declared.instruction.Instruction.{Instruction}
use Rattle.merc_code.specs.declared.instruction.Instruction.TheVariants.{Call}
use Rattle.merc_code.specs.Steps.{Code, Codes, ProcedureCode}
use Rattle.merc_frames.specs.Rooms.{AreReceived}
use Rattle.merc_last_calls.specs.LastCalls.{outputs}
use Rattle.merc_load.specs.Combined.{StandsThere}
use Rattle.merc_load.specs.FittingOps.{FitsEntry}
use Rattle.merc_load.specs.LeavingOut.{LeavesOut, decides_number, decides_test, decides_integer, decides_result, operates_number, adds_number, subtracts_number}
use Rattle.merc_load.specs.Loaded.{IsLoaded, StandsAt, call_op, entered_at, inputs, is_last_of, op_of, ops_of}
use Rattle.merc_load.specs.Superinstructions.{IsSuperinstruction, operates, builds, splits, decides, compares_with, jumps_back, returns_result, returns_built, returns_copy, decides_all, switches, switches_list, tries_test}
use Rattle.merc_layout.specs.declared.entries.Entry.{Entry}
use Rattle.merc_load.specs.declared.loaded.Loaded.{Loaded}
use Rattle.merc_load.specs.declared.loaded.Op.{Op}
use Rattle.merc_load.specs.declared.loaded.Op.TheVariants.{Call as CallOp, LastCall}
use Rattle.merc_load.proofs.FittingSums.{passing_received}
use Rattle.merc_load.proofs.Passed.{passed_inside}
use Rattle.merc_load.proofs.StandingOps.{standing_first}

-- None of these is a call.

superinstruction_received : (ops : List Op) (new : Op) → IsSuperinstruction ops new → FitsEntry new
superinstruction_received _ _ (operates operation to one other ops) = tt
superinstruction_received _ _ (builds to symbol arguments ops) = tt
superinstruction_received _ _ (splits whole symbol arguments ops) = tt
superinstruction_received _ _ (decides slot skipped test ops) = tt
superinstruction_received _ _ (tries_test skipped test ops is) = tt
superinstruction_received _ _ (compares_with comparison one constant number ops apart) = tt
superinstruction_received _ _ (jumps_back skipped results ops behind there) = tt
superinstruction_received _ _ (returns_result operation to one other ops following) = tt
superinstruction_received _ _ (returns_built to symbol arguments ops following) = tt
superinstruction_received _ _ (returns_copy to from ops following) = tt
superinstruction_received _ _ (decides_all slot skipped tests ops) = tt
superinstruction_received _ _ (switches whole targets arms ops each) = tt
superinstruction_received _ _ (switches_list whole head tail empty_skipped cell_skipped targets arms ops each list) = tt

leaving_received : (codes : Codes) (own : Option (List Arg)) (code : Code) (new : Op) → LeavesOut codes own code new → FitsEntry new
leaving_received codes own _ _ (decides_number mark skipped comparison one constant number rest apart unread held failed) = tt
leaving_received codes own _ _ (decides_test mark skipped test rest is held failed) = tt
leaving_received codes own _ _ (decides_integer mark skipped whole number rest held failed) = tt
leaving_received codes own _ _ (decides_result mark skipped operation to one constant number due rest apart unread unread_result held failed) = tt
leaving_received codes own _ _ (operates_number operation to one constant number rest apart unread) = tt
leaving_received codes own _ _ (adds_number to one constant number rest apart unread) = tt
leaving_received codes own _ _ (subtracts_number to one constant number rest apart unread) = tt

stands_received : (codes : Codes) (own : Option (List Arg)) (instruction : Instruction) (rest : Code) (op : Op) (ops : List Op) (new : Op) → StandsThere codes own instruction rest op ops new → All FitsEntry (op ∷ ops)
    → FitsEntry new
stands_received codes own instruction rest op ops new (inl same) listed = subst FitsEntry (sym same) (All-head FitsEntry op ops listed)
stands_received codes own instruction rest op ops new (inr (inl several)) listed = superinstruction_received (op ∷ ops) new several
stands_received codes own instruction rest op ops new (inr (inr (inl leaves))) listed = leaving_received codes own (instruction ∷ rest) new leaves
stands_received codes own instruction rest op ops new (inr (inr (inr passes))) listed = passing_received codes own (instruction ∷ rest) (op ∷ ops) new passes listed

-- Given is a loaded program, and of the code that is loaded what it belongs to.
module _ (program : Loaded) (codes : Codes) (entry_of : Procedure → Entry) (query : Code) (loaded : IsLoaded program codes entry_of query) (variables : ℕ) (own : Option (List Arg)) where
  call_received : (procedure : Procedure) (called : Option ProcedureCode) (arguments : List ℕ) (rest : Code) → codes.procedures procedure ≡ called
      → FitsEntry (call_op codes entry_of variables own (entry_of procedure) called arguments rest)
  call_received procedure None arguments rest is = tt
  call_received procedure (Some code) arguments rest is = by (is_last_of own rest (outputs code.places arguments))
    where
      received : AreReceived (entry_of procedure).size (inputs zero code.places arguments)
      received = passed_inside program codes entry_of procedure code (loaded.procedures procedure code is) arguments

      by : (last : Bool) → FitsEntry (if last then LastCall (entered_at (entry_of procedure) code.places arguments) (inputs zero code.places arguments)
          else CallOp (entered_at (entry_of procedure) code.places arguments) (inputs zero code.places arguments) (outputs code.places arguments))
      by true = received
      by false = received

  op_received : (instruction : Instruction) (rest : Code) → FitsEntry (op_of codes entry_of variables own instruction rest)
  op_received (Call procedure arguments) rest = call_received procedure (codes.procedures procedure) arguments rest refl
  op_received instruction rest = tt

  ops_received : (code : Code) → All FitsEntry (ops_of codes entry_of variables own code)
  ops_received [] = All-nil FitsEntry
  ops_received (instruction ∷ rest) =
      All-cons FitsEntry (op_of codes entry_of variables own instruction rest) (ops_of codes entry_of variables own rest) (op_received instruction rest) (ops_received rest)

  pub standing_received : (place size : ℕ) (instruction : Instruction) (rest : Code) (op : Op) → StandsAt program.ops.items codes entry_of place size variables own (instruction ∷ rest)
      → slice_get program.ops.items place ≡ Some op → FitsEntry op
  standing_received place size instruction rest op stands found =
      stands_received codes own instruction rest (op_of codes entry_of variables own instruction rest) (ops_of codes entry_of variables own rest) op
      (standing_first program.ops.items codes entry_of place size variables own instruction rest op stands found) (ops_received (instruction ∷ rest))
