-- Calls that pass a sum, and the calls behind the sums.
use Rattle.std.proofs.Common.{◌≡◌, inl, inr, ℕ, List, ◌∷◌, Option, slice_get, Some, refl, sym, ap, ◌∙◌, subst}
use Rattle.merc_tree.specs.declared.declarations.Arg.{Arg}
use Rattle.merc_graded_tree.specs.declared.basic.Procedure.{Procedure}
use Rattle.merc_code.specs.declared.instruction.Instruction.{Instruction}
use Rattle.merc_code.specs.declared.instruction.Instruction.TheVariants.{Call}
use Rattle.merc_code.specs.Steps.{Code, Codes}
use Rattle.merc_frames.specs.declared.passing.Pass.{Pass}
use Rattle.merc_layout.specs.declared.entries.Entry.{Entry}
use Rattle.merc_live.specs.Reads.{MayReadVariable}
use Rattle.merc_load.specs.declared.loaded.Op.{Op}
use Rattle.merc_load.specs.declared.loaded.Op.TheVariants.{Call as CallOp, LastCall, CallSum, LastCallSum, SumNumber}
use Rattle.merc_load.specs.declared.loaded.Sum.{Sum}
use Rattle.merc_load.specs.Combined.{StandsThere}
use Rattle.merc_load.specs.LeavingOut.{LeavesOut, decides_number, operates_number, adds_number, subtracts_number, decides_test, decides_integer, decides_result}
use Rattle.merc_load.specs.Loaded.{StandsAt, op_of, ops_of}
use Rattle.merc_load.specs.PassingSum.{IsTakenOut, PassesSum, calls as calls_with, calls_last as calls_last_with}
use Rattle.merc_load.specs.Superinstructions.{IsSuperinstruction, operates, builds, splits, tries_test, decides, compares_with, jumps_back, decides_all, switches as switches_fields, switches_list, returns_result, returns_built, returns_copy}
use Rattle.merc_machine.proofs.Leaving.{left_out}
use Rattle.merc_machine.proofs.Linking.{Links, links, does, jumps, switches, tries, marks, commits, softens, calls_none, calls, calls_last, returns, fails, answers, meets, closes}
use Rattle.merc_machine.proofs.Places.{stands_first}
use Rattle.merc_machine.proofs.Superinstructions.{Stands, replaces}

-- an instruction of the machine that passes a sum
abbrev pub DoesPassSum : Op → Type 0
DoesPassSum (CallSum entry passes sum) = Unit {0}
DoesPassSum (LastCallSum entry passes sum) = Unit {0}
DoesPassSum op = ⊥

-- No superinstruction stands for a call.
never_call : (listed : List Op) (op : Op) (ops : List Op) (entry : Entry) (inputs : List Pass) (outs : List ℕ) → IsSuperinstruction listed op → listed ≡ CallOp entry inputs outs ∷ ops → ⊥
never_call _ _ others entry inputs outs (operates operation to one other ops) e = absurd cc
never_call _ _ others entry inputs outs (builds to symbol arguments ops) e = absurd cc
never_call _ _ others entry inputs outs (splits whole symbol arguments ops) e = absurd cc
never_call _ _ others entry inputs outs (decides slot skipped test ops) e = absurd cc
never_call _ _ others entry inputs outs (tries_test skipped test ops is) e = absurd cc
never_call _ _ others entry inputs outs (compares_with comparison one constant number ops apart) e = absurd cc
never_call _ _ others entry inputs outs (jumps_back skipped given ops behind there) e = absurd cc
never_call _ _ others entry inputs outs (returns_result operation to one other ops next) e = absurd cc
never_call _ _ others entry inputs outs (returns_built to symbol arguments ops next) e = absurd cc
never_call _ _ others entry inputs outs (returns_copy to from ops next) e = absurd cc
never_call _ _ others entry inputs outs (decides_all slot skipped tests ops) e = absurd cc
never_call _ _ others entry inputs outs (switches_fields whole targets arms ops each) e = absurd cc
never_call _ _ others entry inputs outs (switches_list whole head tail empty_skipped cell_skipped targets arms ops each are) e = absurd cc

-- Given are the code of the procedures, and the places of the procedure whose code it is.
module _ (codes : Codes) (own : Option (List Arg)) where
  -- No call is left out.
  leaves_no_call : (code : Code) (op : Op) (procedure : Procedure) (arguments : List ℕ) (behind : Code) → LeavesOut codes own code op → code ≡ Call procedure arguments ∷ behind → ⊥
  leaves_no_call _ _ procedure arguments behind (decides_number mark skipped comparison one constant number rest apart unread held failed) e = absurd cc
  leaves_no_call _ _ procedure arguments behind (decides_test mark skipped test rest is held failed) e = absurd cc
  leaves_no_call _ _ procedure arguments behind (decides_integer mark skipped whole number rest held failed) e = absurd cc
  leaves_no_call _ _ procedure arguments behind (decides_result mark skipped operation to one constant number due rest apart unread unread_result held failed) e = absurd cc
  leaves_no_call _ _ procedure arguments behind (operates_number operation to one constant number rest apart unread) e = absurd cc
  leaves_no_call _ _ procedure arguments behind (adds_number to one constant number rest apart unread) e = absurd cc
  leaves_no_call _ _ procedure arguments behind (subtracts_number to one constant number rest apart unread) e = absurd cc

  -- The sum stands in front of its call.
  passes_no_call : (code : Code) (ops : List Op) (op : Op) (procedure : Procedure) (arguments : List ℕ) (behind : Code) → PassesSum codes own code ops op → code ≡ Call procedure arguments ∷ behind → ⊥
  passes_no_call _ _ _ procedure arguments behind (calls_with first second call rest one other ops entry inputs passes outputs sum leaves unread taken) e =
      leaves_no_call (first ∷ second ∷ call ∷ rest) (SumNumber sum.variable sum.from sum.number) procedure arguments behind leaves e
  passes_no_call _ _ _ procedure arguments behind (calls_last_with first second call rest one other ops entry inputs passes sum leaves unread taken) e =
      leaves_no_call (first ∷ second ∷ call ∷ rest) (SumNumber sum.variable sum.from sum.number) procedure arguments behind leaves e

  -- In the place of a call stands itself.
  call_itself : (procedure : Procedure) (arguments : List ℕ) (rest : Code) (op : Op) (ops : List Op) (new : Op) (entry : Entry) (inputs : List Pass) (outs : List ℕ) → op ≡ CallOp entry inputs outs
      → StandsThere codes own (Call procedure arguments) rest op ops new → new ≡ CallOp entry inputs outs
  call_itself procedure arguments rest op ops new entry inputs outs is (inl same) = same ∙ is
  call_itself procedure arguments rest op ops new entry inputs outs is (inr (inl several)) = absurd (never_call (op ∷ ops) new ops entry inputs outs several (ap (λ o. o ∷ ops) is))
  call_itself procedure arguments rest op ops new entry inputs outs is (inr (inr (inl leaves))) = absurd (leaves_no_call (Call procedure arguments ∷ rest) new procedure arguments rest leaves refl)
  call_itself procedure arguments rest op ops new entry inputs outs is (inr (inr (inr passes))) =
      absurd (passes_no_call (Call procedure arguments ∷ rest) (op ∷ ops) new procedure arguments rest passes refl)

  -- The code makes a sum and then calls, and what is listed for the call is so.
  pub record IsBeforeCall (code : Code) (ops : List Op) (passes : List Pass) (sum : Sum) (IsListed : List Pass → Op → Type 0) : Type 0 where
    pub first : Instruction
    pub second : Instruction
    pub call : Instruction
    pub rest : Code
    pub is : code ≡ first ∷ second ∷ call ∷ rest
    pub one : Op
    pub other : Op
    pub op : Op
    pub behind : List Op
    pub there : ops ≡ one ∷ other ∷ op ∷ behind
    pub inputs : List Pass
    pub leaves : LeavesOut codes own (first ∷ second ∷ call ∷ rest) (SumNumber sum.variable sum.from sum.number)
    pub unread : MayReadVariable codes own sum.variable rest → ⊥
    pub taken : IsTakenOut sum.variable sum.to inputs passes
    pub listed : IsListed inputs op

  -- what an instruction of the machine that passes a sum does
  abbrev pub PassesBefore : Code → List Op → Op → Type 0
  PassesBefore code ops (CallSum entry passes sum) = IsBeforeCall code ops passes sum (λ inputs op. (outs : List ℕ) × (op ≡ CallOp entry inputs outs))
  PassesBefore code ops (LastCallSum entry passes sum) = IsBeforeCall code ops passes sum (λ inputs op. op ≡ LastCall entry inputs)
  PassesBefore code ops op = ⊥

  pub passes_before : (code : Code) (ops : List Op) (op : Op) → PassesSum codes own code ops op → PassesBefore code ops op
  passes_before _ _ _ (calls_with first second call rest one other ops entry inputs passes outputs sum leaves unread taken) = record {
    first = first;
    second = second;
    call = call;
    rest = rest;
    is = refl;
    one = one;
    other = other;
    op = CallOp entry inputs outputs;
    behind = ops;
    there = refl;
    inputs = inputs;
    leaves = leaves;
    unread = unread;
    taken = taken;
    listed = (outputs, refl);
  }
  passes_before _ _ _ (calls_last_with first second call rest one other ops entry inputs passes sum leaves unread taken) = record {
    first = first;
    second = second;
    call = call;
    rest = rest;
    is = refl;
    one = one;
    other = other;
    op = LastCall entry inputs;
    behind = ops;
    there = refl;
    inputs = inputs;
    leaves = leaves;
    unread = unread;
    taken = taken;
    listed = refl;
  }

-- Given is what the loaded code belongs to.
module _ (codes : Codes) (entry_of : Procedure → Entry) (variables : ℕ) (own : Option (List Arg)) where
  never_linked : (instruction : Instruction) (rest : Code) (op : Op) → Links codes entry_of variables own instruction rest op → DoesPassSum op → ⊥
  never_linked _ _ _ (does instruction rest plain) h = h
  never_linked _ _ _ (jumps skipped rest) h = h
  never_linked _ _ _ (switches whole targets rest) h = h
  never_linked _ _ _ (tries skipped rest) h = h
  never_linked _ _ _ (marks mark rest) h = h
  never_linked _ _ _ (commits mark rest) h = h
  never_linked _ _ _ (softens mark rest) h = h
  never_linked _ _ _ (calls_none procedure arguments rest none) h = h
  never_linked _ _ _ (calls procedure arguments rest code found last) h = h
  never_linked _ _ _ (calls_last procedure arguments rest code found last) h = h
  never_linked _ _ _ (returns rest) h = h
  never_linked _ _ _ (fails rest) h = h
  never_linked _ _ _ (answers shown rest) h = h
  never_linked _ _ _ (meets instruction rest meeting) h = h
  never_linked _ _ _ (closes rest) h = h

  never_several : (listed : List Op) (op : Op) → IsSuperinstruction listed op → DoesPassSum op → ⊥
  never_several listed (CallSum entry passes sum) several h = replaces listed (CallSum entry passes sum) several
  never_several listed (LastCallSum entry passes sum) several h = replaces listed (LastCallSum entry passes sum) several
  never_several listed op several h = h

  never_left_out : (code : Code) (op : Op) → LeavesOut codes own code op → DoesPassSum op → ⊥
  never_left_out code (CallSum entry passes sum) leaves h = left_out codes own code (CallSum entry passes sum) leaves
  never_left_out code (LastCallSum entry passes sum) leaves h = left_out codes own code (LastCallSum entry passes sum) leaves
  never_left_out code op leaves h = h

  -- Where such an instruction stands, it passes a sum.
  pub sum_there : (instruction : Instruction) (rest : Code) (op : Op) → DoesPassSum op → Stands codes entry_of variables own instruction rest op
      → PassesSum codes own (instruction ∷ rest) (ops_of codes entry_of variables own (instruction ∷ rest)) op
  sum_there instruction rest op passing (inl same) =
      absurd (never_linked instruction rest op (subst (Links codes entry_of variables own instruction rest) (sym same) (links codes entry_of variables own instruction rest)) passing)
  sum_there instruction rest op passing (inr (inl several)) = absurd (never_several (ops_of codes entry_of variables own (instruction ∷ rest)) op several passing)
  sum_there instruction rest op passing (inr (inr (inl leaves))) = absurd (never_left_out (instruction ∷ rest) op leaves passing)
  sum_there instruction rest op passing (inr (inr (inr passes))) = passes

-- A call is among the instructions of the machine as it is listed.
pub call_there : (ops : List Op) (codes : Codes) (entry_of : Procedure → Entry) (place size variables : ℕ) (own : Option (List Arg)) (procedure : Procedure) (arguments : List ℕ) (rest : Code)
    (entry : Entry) (inputs : List Pass) (outs : List ℕ) → StandsAt ops codes entry_of place size variables own (Call procedure arguments ∷ rest)
    → op_of codes entry_of variables own (Call procedure arguments) rest ≡ CallOp entry inputs outs → slice_get ops place ≡ Some (CallOp entry inputs outs)
call_there ops codes entry_of place size variables own procedure arguments rest entry inputs outs s e =
    let first = stands_first ops codes entry_of place size variables own (Call procedure arguments) rest s in
    first.found ∙ ap (λ op. Some op)
    (call_itself codes own procedure arguments rest (op_of codes entry_of variables own (Call procedure arguments) rest) (ops_of codes entry_of variables own rest) first.op entry inputs outs e first.is)
