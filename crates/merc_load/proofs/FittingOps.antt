-- For code that fits frames stand instructions of the machine that fit them.
use Rattle.std.specs.Prelude.{◌≡◌, ◌⊎◌, ◌++◌, ℕ, zero, ◌+◌, ◌<◌, ◌≤◌, Bool, true, false, List, [], ◌∷◌, drop, map, Option, Some, None, IfSome, slice_get, if◌then◌else◌}
use Rattle.std.specs.List.{All, AllByRecursion, flat_map}
use Rattle.std.proofs.Common.{arith, inl, inr, subst, sym}
use Rattle.std.proofs.lemmas.List.Elements.{All-append, All-cons, All-drop, All-from_recursion, All-head, All-nil, All-tail, All-weaker, recursion_from_All}
use Rattle.merc_tree.specs.declared.declarations.Arg.{Arg}
use Rattle.merc_goal_tree.specs.declared.goal.Symbol.TheVariants.{Integer as IntegerSymbol}
use Rattle.merc_goal_tree.specs.declared.goal.Operation.TheVariants.{Add, Subtract}
use Rattle.merc_graded_tree.specs.declared.basic.Procedure.{Procedure}
use Rattle.merc_code.specs.declared.instruction.Instruction.{Instruction}
use Rattle.merc_code.specs.declared.instruction.Instruction.TheVariants.{Integer, Text, Copy, Build, Split, Literal, Test, Arithmetic, Compare, Raise, Jump, Switch, Try, Mark, Commit, Soften, Call, Return, Fail, Answer, Fork, Wait, Signal, Close}
use Rattle.merc_code.specs.declared.instruction.Target.{Target}
use Rattle.merc_code.specs.Steps.{Code, Codes, ProcedureCode}
use Rattle.merc_last_calls.specs.LastCalls.{outputs}
use Rattle.merc_layout.specs.declared.entries.Entry.{Entry}
use Rattle.merc_load.specs.Combined.{StandsThere}
use Rattle.merc_layout.specs.Entries.{Each}
use Rattle.merc_frames.specs.declared.passing.Pass.{Pass}
use Rattle.merc_frames.specs.Rooms.{AreSlots}
use Rattle.merc_load.specs.FittingOps.{FitsOp, HasSlots}
use Rattle.merc_layout.specs.Frames.{FitsCode, FitsInstruction, written}
use Rattle.merc_load.specs.LeavingOut.{LeavesOut, decides_number, decides_test, decides_integer, decides_result, operates_number, adds_number, subtracts_number}
use Rattle.merc_load.specs.Loaded.{StandsAt, call_op, entered_at, inputs, is_last_of, op_of, ops_of, results_of}
use Rattle.merc_load.specs.PassingSum.{PassesSum, calls, calls_last}
use Rattle.merc_load.specs.Superinstructions.{AreListArms, IsArm, IsSuperinstruction, SkipsTo, cell_arm, empty_arm, operates, builds, splits, decides, compares_with, jumps_back, returns_result, returns_built, returns_copy, decides_all, switches, switches_list, tries_test}
use Rattle.merc_load.specs.declared.loaded.Arm.{Arm}
use Rattle.merc_load.specs.declared.loaded.Op.{Op}
use Rattle.merc_load.specs.declared.loaded.Op.TheVariants.{Do, Jump as JumpOp, Switch as SwitchOp, Try as TryOp, Mark as MarkOp, Commit as CommitOp, Call as CallOp, LastCall, Return as ReturnOp, SumNumber}
use Rattle.merc_load.proofs.FittingSums.{left_has, third_has}
use Rattle.merc_load.proofs.Passed.{inputs_from, outputs_below}
use Rattle.merc_load.proofs.StandingOps.{standing_first}

-- an instruction that fits frames with so many variables has slots in each frame with as many slots
module _ (variables slots size : ℕ) (room : variables ≤ size) where
  pub wider : (list : List ℕ) → All (λ (variable : ℕ). variable < variables) list → AreSlots size list
  wider list below k d inside = let e = below k d inside in omega (arith, e, room)

  first : (one : ℕ) (others : List ℕ) → All (λ (variable : ℕ). variable < variables) (one ∷ others) → one < size
  first one others below = let e : one < variables = below 0 one (omega arith) in omega (arith, e, room)

  second : (one other : ℕ) (others : List ℕ) → All (λ (variable : ℕ). variable < variables) (one ∷ other ∷ others) → other < size
  second one other others below = let e : other < variables = below 1 one (omega arith) in omega (arith, e, room)

  pub has_slots : (instruction : Instruction) → FitsInstruction variables slots instruction → HasSlots size instruction
  has_slots (Integer to number) f = first to [] f.written_variables_are_there
  has_slots (Text to text) f = first to [] f.written_variables_are_there
  has_slots (Copy to from) f = (first to [] f.written_variables_are_there, first from [] f.read_variables_are_there)
  has_slots (Build to symbol arguments) f = (first to [] f.written_variables_are_there, wider arguments f.read_variables_are_there)
  has_slots (Split whole symbol arguments) f = (first whole [] f.read_variables_are_there, wider arguments f.written_variables_are_there)
  has_slots (Literal whole symbol) f = first whole [] f.read_variables_are_there
  has_slots (Test one other) f = (first one (other ∷ []) f.read_variables_are_there, second one other [] f.read_variables_are_there)
  has_slots (Arithmetic operation to one other) f =
      (first to [] f.written_variables_are_there, first one (other ∷ []) f.read_variables_are_there, second one other [] f.read_variables_are_there)
  has_slots (Compare comparison one other) f = (first one (other ∷ []) f.read_variables_are_there, second one other [] f.read_variables_are_there)
  has_slots (Raise text) f = first text [] f.read_variables_are_there
  has_slots (Switch whole targets) f = first whole [] f.read_variables_are_there
  has_slots (Call procedure arguments) f = wider arguments f.read_variables_are_there
  has_slots (Answer answers) f = wider answers f.read_variables_are_there
  has_slots (Wait variable) f = first variable [] f.written_variables_are_there
  has_slots (Signal variable) f = first variable [] f.read_variables_are_there
  has_slots instruction f = tt

-- the variables to which an instruction may give values are among its slots
written_slots : (size : ℕ) (instruction : Instruction) → HasSlots size instruction → AreSlots size (written instruction)
written_slots size (Integer to number) h = All-from_recursion (λ (slot : ℕ). slot < size) (to ∷ []) (h, tt)
written_slots size (Text to text) h = All-from_recursion (λ (slot : ℕ). slot < size) (to ∷ []) (h, tt)
written_slots size (Copy to from) h = All-from_recursion (λ (slot : ℕ). slot < size) (to ∷ []) (h.0, tt)
written_slots size (Build to symbol arguments) h = All-from_recursion (λ (slot : ℕ). slot < size) (to ∷ []) (h.0, tt)
written_slots size (Split whole symbol arguments) h = h.1
written_slots size (Arithmetic operation to one other) h = All-from_recursion (λ (slot : ℕ). slot < size) (to ∷ []) (h.0, tt)
written_slots size (Call procedure arguments) h = h
written_slots size (Wait variable) h = All-from_recursion (λ (slot : ℕ). slot < size) (variable ∷ []) (h, tt)
written_slots size instruction h = All-nil (λ (slot : ℕ). slot < size)

-- Superinstructions name only slots of the instructions for which they stand.
module _ (size : ℕ) where
  at_place : (place : ℕ) (ops : List Op) (op : Op) (behind : List Op) → All (FitsOp size) ops → drop place ops ≡ op ∷ behind → FitsOp size op
  at_place place ops op behind fits there = All-head (FitsOp size) op behind (subst (All (FitsOp size)) there (All-drop (FitsOp size) place ops fits))

  module _ (whole : ℕ) (ops : List Op) (fits : All (FitsOp size) ops) where
    fields_fit : (target : Target) (fields : Option (List ℕ)) (skipped : ℕ) → SkipsTo whole ops target fields skipped → IfSome fields (AreSlots size)
    fields_fit target None skipped skips = tt
    fields_fit target (Some fields) skipped skips = let split = at_place target.skipped ops (Do (Split whole target.symbol fields)) skips.0 fits skips.1 in split.1

    arms_fit : (targets : List Target) (arms : List Arm) → Each (IsArm whole ops) targets arms → All (λ (arm : Arm). IfSome arm.fields (AreSlots size)) arms
    arms_fit [] [] each = All-nil (λ (arm : Arm). IfSome arm.fields (AreSlots size))
    arms_fit [] (arm ∷ arms) each = absurd each
    arms_fit (target ∷ targets) [] each = absurd each
    arms_fit (target ∷ targets) (arm ∷ arms) each =
        All-cons (λ (arm : Arm). IfSome arm.fields (AreSlots size)) arm arms (fields_fit target arm.fields arm.skipped each.0.skips) (arms_fit targets arms each.1)

  tests_fit : (tests : List Instruction) (ops : List Op) → All (FitsOp size) (map (λ test. Do test) tests ++ ops) → All (HasSlots size) tests
  tests_fit [] ops fits = All-nil (HasSlots size)
  tests_fit (test ∷ tests) ops fits =
      All-cons (HasSlots size) test tests (All-head (FitsOp size) (Do test) (map (λ test. Do test) tests ++ ops) fits)
      (tests_fit tests ops (All-tail (FitsOp size) (Do test) (map (λ test. Do test) tests ++ ops) fits))

  given_slots : (tests : List Instruction) → All (HasSlots size) tests → AreSlots size (flat_map written tests)
  given_slots [] slots = All-nil (λ (slot : ℕ). slot < size)
  given_slots (test ∷ tests) slots =
      All-append (λ (slot : ℕ). slot < size) (written test) (flat_map written tests) (written_slots size test (All-head (HasSlots size) test tests slots))
      (given_slots tests (All-tail (HasSlots size) test tests slots))

  -- the two variables of a switch on a list
  cell_fits : (head tail skipped : ℕ) → IfSome (cell_arm head tail skipped).fields (AreSlots size) → (head < size) × (tail < size)
  cell_fits head tail skipped slots = (slots 0 head (omega arith), slots 1 head (omega arith))

  list_fits : (head tail empty_skipped cell_skipped : ℕ) (arms : List Arm) → AreListArms head tail empty_skipped cell_skipped arms → All (λ (arm : Arm). IfSome arm.fields (AreSlots size)) arms
      → (head < size) × (tail < size)
  list_fits head tail empty_skipped cell_skipped arms list fits = by list.are
    where
      by : (arms ≡ empty_arm list.fields empty_skipped ∷ cell_arm head tail cell_skipped ∷ []) ⊎ (arms ≡ cell_arm head tail cell_skipped ∷ empty_arm list.fields empty_skipped ∷ []) → (head < size) × (tail < size)
      by (inl are) =
          let each = recursion_from_All (λ (arm : Arm). IfSome arm.fields (AreSlots size)) (empty_arm list.fields empty_skipped ∷ cell_arm head tail cell_skipped ∷ [])
          (subst (All (λ (arm : Arm). IfSome arm.fields (AreSlots size))) are fits) in
          cell_fits head tail cell_skipped each.1.0
      by (inr are) =
          let each = recursion_from_All (λ (arm : Arm). IfSome arm.fields (AreSlots size)) (cell_arm head tail cell_skipped ∷ empty_arm list.fields empty_skipped ∷ [])
          (subst (All (λ (arm : Arm). IfSome arm.fields (AreSlots size))) are fits) in
          cell_fits head tail cell_skipped each.0

  each_of : (ops : List Op) → All (FitsOp size) ops → AllByRecursion (FitsOp size) ops
  each_of ops fits = recursion_from_All (FitsOp size) ops fits

  superinstruction_fits : (ops : List Op) (new : Op) → IsSuperinstruction ops new → All (FitsOp size) ops → FitsOp size new
  superinstruction_fits _ _ (operates operation to one other ops) fits = All-head (FitsOp size) (Do (Arithmetic operation to one other)) ops fits
  superinstruction_fits _ _ (builds to symbol arguments ops) fits = All-head (FitsOp size) (Do (Build to symbol arguments)) ops fits
  superinstruction_fits _ _ (splits whole symbol arguments ops) fits = All-head (FitsOp size) (Do (Split whole symbol arguments)) ops fits
  superinstruction_fits _ _ (decides slot skipped test ops) fits = let each = each_of (MarkOp slot ∷ TryOp skipped ∷ Do test ∷ CommitOp slot ∷ ops) fits in (each.1.1.0, each.0)
  superinstruction_fits _ _ (tries_test skipped test ops is) fits = let each = each_of (TryOp skipped ∷ Do test ∷ ops) fits in each.1.0
  superinstruction_fits _ _ (compares_with comparison one constant number ops apart) fits =
      let each = each_of (Do (Integer constant number) ∷ Do (Compare comparison one constant) ∷ ops) fits in each.1.0
  superinstruction_fits _ _ (jumps_back skipped results ops behind there) fits =
      at_place skipped ops (ReturnOp results) behind (All-tail (FitsOp size) (JumpOp skipped) ops fits) there
  superinstruction_fits _ _ (returns_result operation to one other ops following) fits = All-head (FitsOp size) (Do (Arithmetic operation to one other)) ops fits
  superinstruction_fits _ _ (returns_built to symbol arguments ops following) fits = All-head (FitsOp size) (Do (Build to symbol arguments)) ops fits
  superinstruction_fits _ _ (returns_copy to from ops following) fits = All-head (FitsOp size) (Do (Copy to from)) ops fits
  superinstruction_fits _ _ (decides_all slot skipped tests ops) fits =
      let listed : List Op = map (λ test. Do test) tests ++ CommitOp slot ∷ ops in
      let tested : All (HasSlots size) tests = tests_fit tests (CommitOp slot ∷ ops) (All-tail (FitsOp size) (TryOp skipped) listed (All-tail (FitsOp size) (MarkOp slot) (TryOp skipped ∷ listed) fits)) in
      (tested, given_slots tests tested, All-head (FitsOp size) (MarkOp slot) (TryOp skipped ∷ listed) fits)
  superinstruction_fits _ _ (switches whole targets arms ops each) fits =
      (All-head (FitsOp size) (SwitchOp whole targets) ops fits, arms_fit whole ops (All-tail (FitsOp size) (SwitchOp whole targets) ops fits) targets arms each)
  superinstruction_fits _ _ (switches_list whole head tail empty_skipped cell_skipped targets arms ops each list) fits =
      let fields = list_fits head tail empty_skipped cell_skipped arms list (arms_fit whole ops (All-tail (FitsOp size) (SwitchOp whole targets) ops fits) targets arms each) in
      (All-head (FitsOp size) (SwitchOp whole targets) ops fits, fields.0, fields.1)

  leaving_fits : (codes : Codes) (own : Option (List Arg)) (code : Code) (new : Op) → LeavesOut codes own code new → All (HasSlots size) code → FitsOp size new
  leaving_fits codes own _ _ (decides_number mark skipped comparison one constant number rest apart unread held failed) slots =
      let each = recursion_from_All (HasSlots size) (Mark mark ∷ Try skipped ∷ Integer constant number ∷ Compare comparison one constant ∷ Commit mark ∷ rest) slots in
      let compared = each.1.1.1.0 in
      compared.0
  leaving_fits codes own _ _ (decides_test mark skipped test rest is held failed) slots =
      let each = recursion_from_All (HasSlots size) (Mark mark ∷ Try skipped ∷ test ∷ Commit mark ∷ rest) slots in each.1.1.0
  leaving_fits codes own _ _ (decides_integer mark skipped whole number rest held failed) slots =
      let each = recursion_from_All (HasSlots size) (Mark mark ∷ Try skipped ∷ Literal whole (IntegerSymbol number) ∷ Commit mark ∷ rest) slots in each.1.1.0
  leaving_fits codes own _ _ (decides_result mark skipped operation to one constant number due rest apart unread unread_result held failed) slots =
      let each = recursion_from_All (HasSlots size) (Mark mark ∷ Try skipped ∷ Integer constant number ∷ Arithmetic operation to one constant ∷ Literal to (IntegerSymbol due) ∷ Commit mark ∷ rest) slots in
      let operated = each.1.1.1.0 in
      operated.1
  leaving_fits codes own _ _ (operates_number operation to one constant number rest apart unread) slots =
      let each = recursion_from_All (HasSlots size) (Integer constant number ∷ Arithmetic operation to one constant ∷ rest) slots in
      let operated = each.1.0 in
      (operated.0, operated.1)
  leaving_fits codes own _ _ (adds_number to one constant number rest apart unread) slots =
      let each = recursion_from_All (HasSlots size) (Integer constant number ∷ Arithmetic Add to one constant ∷ rest) slots in
      let added = each.1.0 in
      (added.0, added.1)
  leaving_fits codes own _ _ (subtracts_number to one constant number rest apart unread) slots =
      let each = recursion_from_All (HasSlots size) (Integer constant number ∷ Arithmetic Subtract to one constant ∷ rest) slots in
      let subtracted = each.1.0 in
      (subtracted.0, subtracted.1)

  passing_fits : (codes : Codes) (own : Option (List Arg)) (code : Code) (ops : List Op) (new : Op) → PassesSum codes own code ops new → All (FitsOp size) ops → All (HasSlots size) code → FitsOp size new
  passing_fits codes own _ _ _ (calls constant operation call rest one other ops entry passed left outs sum leaves unread taken) fits slots =
      let called = third_has (FitsOp size) one other (CallOp entry passed outs) ops fits in
      let summed = leaving_fits codes own (constant ∷ operation ∷ call ∷ rest) (SumNumber sum.variable sum.from sum.number) leaves slots in
      (left_has (λ (pass : Pass). pass.from < size) sum.variable sum.to passed left taken called.0, summed.0, summed.1)
  passing_fits codes own _ _ _ (calls_last constant operation call rest one other ops entry passed left sum leaves unread taken) fits slots =
      let called = third_has (FitsOp size) one other (LastCall entry passed) ops fits in
      let summed = leaving_fits codes own (constant ∷ operation ∷ call ∷ rest) (SumNumber sum.variable sum.from sum.number) leaves slots in
      (left_has (λ (pass : Pass). pass.from < size) sum.variable sum.to passed left taken called, summed.0, summed.1)

-- Given is what the loaded code belongs to. The results of the procedure whose code it is are variables.
module _ (codes : Codes) (entry_of : Procedure → Entry) (variables size : ℕ) (own : Option (List Arg)) (room : variables ≤ size) (results : All (λ (variable : ℕ). variable < variables) (results_of own)) where
  call_fits : (entry : Entry) (called : Option ProcedureCode) (arguments : List ℕ) (rest : Code) → AreSlots size arguments → FitsOp size (call_op codes entry_of variables own entry called arguments rest)
  call_fits entry None arguments rest slots = tt
  call_fits entry (Some procedure) arguments rest slots = by (is_last_of own rest (outputs procedure.places arguments))
    where
      by : (last : Bool) → FitsOp size (if last then LastCall (entered_at entry procedure.places arguments) (inputs zero procedure.places arguments)
          else CallOp (entered_at entry procedure.places arguments) (inputs zero procedure.places arguments) (outputs procedure.places arguments))
      by true = inputs_from size zero procedure.places arguments slots
      by false = (inputs_from size zero procedure.places arguments slots, outputs_below size procedure.places arguments slots)

  mark_fits : (mark : ℕ) → All (λ (mark : ℕ). variables + mark < size) (mark ∷ []) → variables + mark < size
  mark_fits mark marks = All-head (λ (mark : ℕ). variables + mark < size) mark [] marks

  op_fits : (instruction : Instruction) (rest : Code) → FitsInstruction variables size instruction → FitsOp size (op_of codes entry_of variables own instruction rest)
  op_fits (Jump skipped) rest f = tt
  op_fits (Switch whole targets) rest f = has_slots variables size size room (Switch whole targets) f
  op_fits (Try skipped) rest f = tt
  op_fits (Mark mark) rest f = mark_fits mark f.set_marks_are_there
  op_fits (Commit mark) rest f = mark_fits mark f.read_marks_are_there
  op_fits (Soften mark) rest f = mark_fits mark f.read_marks_are_there
  op_fits (Call procedure arguments) rest f = call_fits (entry_of procedure) (codes.procedures procedure) arguments rest (has_slots variables size size room (Call procedure arguments) f)
  op_fits Return rest f = wider variables size size room (results_of own) results
  op_fits Fail rest f = tt
  op_fits (Answer answers) rest f = has_slots variables size size room (Answer answers) f
  op_fits (Fork site) rest f = tt
  op_fits (Wait variable) rest f = has_slots variables size size room (Wait variable) f
  op_fits (Signal variable) rest f = has_slots variables size size room (Signal variable) f
  op_fits Close rest f = tt
  op_fits instruction rest f = has_slots variables size size room instruction f

  ops_fit : (code : Code) → FitsCode variables size code → All (FitsOp size) (ops_of codes entry_of variables own code)
  ops_fit [] fits = All-nil (FitsOp size)
  ops_fit (instruction ∷ rest) fits =
      All-cons (FitsOp size) (op_of codes entry_of variables own instruction rest) (ops_of codes entry_of variables own rest)
      (op_fits instruction rest (All-head (FitsInstruction variables size) instruction rest fits)) (ops_fit rest (All-tail (FitsInstruction variables size) instruction rest fits))

  slots_of : (code : Code) → FitsCode variables size code → All (HasSlots size) code
  slots_of code fits = All-weaker (FitsInstruction variables size) (HasSlots size) (has_slots variables size size room) code fits

  stands_fits : (instruction : Instruction) (rest : Code) (op : Op) (ops : List Op) (new : Op) → StandsThere codes own instruction rest op ops new → All (FitsOp size) (op ∷ ops) → FitsCode variables size (instruction ∷ rest)
      → FitsOp size new
  stands_fits instruction rest op ops new (inl same) listed fits = subst (FitsOp size) (sym same) (All-head (FitsOp size) op ops listed)
  stands_fits instruction rest op ops new (inr (inl several)) listed fits = superinstruction_fits size (op ∷ ops) new several listed
  stands_fits instruction rest op ops new (inr (inr (inl leaves))) listed fits = leaving_fits size codes own (instruction ∷ rest) new leaves (slots_of (instruction ∷ rest) fits)
  stands_fits instruction rest op ops new (inr (inr (inr passes))) listed fits = passing_fits size codes own (instruction ∷ rest) (op ∷ ops) new passes listed (slots_of (instruction ∷ rest) fits)

  pub standing_fits : (ops : List Op) (place : ℕ) (instruction : Instruction) (rest : Code) (op : Op) → StandsAt ops codes entry_of place size variables own (instruction ∷ rest) → slice_get ops place ≡ Some op
      → FitsOp size op
  standing_fits ops place instruction rest op stands found =
      stands_fits instruction rest (op_of codes entry_of variables own instruction rest) (ops_of codes entry_of variables own rest) op
      (standing_first ops codes entry_of place size variables own instruction rest op stands found) (ops_fit (instruction ∷ rest) stands.fits) stands.fits
