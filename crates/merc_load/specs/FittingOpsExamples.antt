-- Worked examples of instructions of the machine that fit frames.
use Rattle.std.specs.Prelude.{ℕ, ◌<◌, pos, false, [], ◌∷◌, None, IfSome}
use Rattle.std.proofs.Common.{arith}
use Rattle.std.proofs.lemmas.List.Elements.{All-from_recursion}
use Rattle.merc_goal_tree.specs.declared.goal.Operation.TheVariants.{Subtract}
use Rattle.merc_goal_tree.specs.declared.goal.Symbol.TheVariants.{Constructor}
use Rattle.merc_code.specs.declared.instruction.Instruction.TheVariants.{Arithmetic, Fork, Signal, Test, Wait}
use Rattle.merc_code.specs.StepsExamples.{site}
use Rattle.merc_frames.specs.declared.passing.Pass.{Pass}
use Rattle.merc_frames.specs.Rooms.{AreSlots}
use Rattle.merc_load.specs.FittingOps.{FitsEntry, FitsOp}
use Rattle.merc_load.specs.Superinstructions.{cell_arm, empty_arm}
use Rattle.merc_load.specs.declared.loaded.Arm.{Arm}
use Rattle.merc_load.specs.declared.loaded.Sum.{Sum}
use Rattle.merc_layout.specs.declared.entries.Entry.{Entry}
use Rattle.merc_load.specs.declared.loaded.Op.TheVariants.{Do, Call, LastCall, CallSum, LastCallSum, If, SumNumber, SwitchFields, Fail, Meet, Close, Arithmetic as ArithmeticOp, Build as BuildOp, Split as SplitOp}

-- a frame of three slots

arithmetic-example : FitsOp 3 (Do (Arithmetic Subtract 2 0 1))
arithmetic-example = (omega arith, omega arith, omega arith)

-- the fourth slot is looked at
arithmetic-not : FitsOp 3 (Do (Arithmetic Subtract 2 0 3)) → ⊥
arithmetic-not f = let h : 3 < 3 = f.2 in absurd (omega (arith, h))

-- The same of the machine's own instructions.

own_arithmetic-example : FitsOp 3 (ArithmeticOp Subtract 2 0 1)
own_arithmetic-example = (omega arith, omega arith, omega arith)

own_arithmetic-not : FitsOp 3 (ArithmeticOp Subtract 2 0 3) → ⊥
own_arithmetic-not f = let h : 3 < 3 = f.2 in absurd (omega (arith, h))

build-example : FitsOp 3 (BuildOp 2 (Constructor 7 1) (0 ∷ []))
build-example = (omega arith, All-from_recursion (λ (slot : ℕ). slot < 3) (0 ∷ []) (omega arith, tt))

build-not : FitsOp 3 (BuildOp 3 (Constructor 7 1) (0 ∷ [])) → ⊥
build-not f = let h : 3 < 3 = f.0 in absurd (omega (arith, h))

split-example : FitsOp 3 (SplitOp 0 (Constructor 7 1) (2 ∷ []))
split-example = (omega arith, All-from_recursion (λ (slot : ℕ). slot < 3) (2 ∷ []) (omega arith, tt))

-- a field is given to the fourth slot
split-not : FitsOp 3 (SplitOp 0 (Constructor 7 1) (3 ∷ [])) → ⊥
split-not f = let h : 3 < 3 = f.1 0 3 (omega arith) in absurd (omega (arith, h))

-- The number is no slot.
sum-example : FitsOp 3 (SumNumber 2 0 (pos 10))
sum-example = (omega arith, omega arith)

sum-not : FitsOp 3 (SumNumber 3 0 (pos 1)) → ⊥
sum-not f = let h : 3 < 3 = f.0 in absurd (omega (arith, h))

fail-example : FitsOp 0 Fail
fail-example = tt

-- A wait gives its variable a value, and a signal looks at it. A fork names none itself.

wait-example : FitsOp 3 (Meet (Wait 2))
wait-example = omega arith

wait-not : FitsOp 3 (Meet (Wait 3)) → ⊥
wait-not f = let h : 3 < 3 = f in absurd (omega (arith, h))

signal-not : FitsOp 3 (Meet (Signal 3)) → ⊥
signal-not f = let h : 3 < 3 = f in absurd (omega (arith, h))

fork-example : FitsOp 0 (Meet (Fork (site 7)))
fork-example = tt

close-example : FitsOp 0 Close
close-example = tt

-- the entry of a procedure, whose frames have two slots
abbrev entry : Entry
entry = record { place = 0; size = 2; is_clean = false }

-- It does not matter what number of slots the called procedure's frame has.
call-example : FitsOp 3 (Call entry (record { from = 2; to = 7 } ∷ []) (1 ∷ []))
call-example = (All-from_recursion (λ (pass : Pass). pass.from < 3) (record { from = 2; to = 7 } ∷ []) (omega arith, tt), All-from_recursion (λ (slot : ℕ). slot < 3) (1 ∷ []) (omega arith, tt))

call-not : FitsOp 3 (Call entry (record { from = 3; to = 0 } ∷ []) []) → ⊥
call-not f = let h : 3 < 3 = f.0 0 (record { from = 3; to = 0 }) (omega arith) in absurd (omega (arith, h))

-- The sum of a slot's integer and a number: the slot is in the frame, and so is the variable that would be given it. It does not matter how great the number is, or where the sum goes.

abbrev sum : ℕ → ℕ → ℕ → Sum
sum variable from to = record { variable = variable; from = from; number = pos 9; to = to }

call_sum-example : FitsOp 3 (CallSum entry (record { from = 2; to = 7 } ∷ []) (sum 1 0 8))
call_sum-example = (All-from_recursion (λ (pass : Pass). pass.from < 3) (record { from = 2; to = 7 } ∷ []) (omega arith, tt), omega arith, omega arith)

last_call_sum-example : FitsOp 3 (LastCallSum entry (record { from = 2; to = 7 } ∷ []) (sum 1 0 8))
last_call_sum-example = (All-from_recursion (λ (pass : Pass). pass.from < 3) (record { from = 2; to = 7 } ∷ []) (omega arith, tt), omega arith, omega arith)

-- the fourth slot is passed besides
call_sum-passes-not : FitsOp 3 (CallSum entry (record { from = 3; to = 0 } ∷ []) (sum 1 0 1)) → ⊥
call_sum-passes-not f = let h : 3 < 3 = f.0 0 (record { from = 3; to = 0 }) (omega arith) in absurd (omega (arith, h))

-- the fourth variable would be given the sum
call_sum-variable-not : FitsOp 3 (CallSum entry [] (sum 3 0 0)) → ⊥
call_sum-variable-not f = let h : 3 < 3 = f.1 in absurd (omega (arith, h))

-- the sum is of the fourth slot
last_call_sum-not : FitsOp 3 (LastCallSum entry [] (sum 1 3 0)) → ⊥
last_call_sum-not f = let h : 3 < 3 = f.2 in absurd (omega (arith, h))

-- the mark has no slot
condition-not : FitsOp 3 (If (Test 0 1) 3 4) → ⊥
condition-not f = let h : 3 < 3 = f.1 in absurd (omega (arith, h))

switch-example : FitsOp 3 (SwitchFields 0 (empty_arm None 0 ∷ cell_arm 1 2 2 ∷ []))
switch-example = (
  omega arith,
  All-from_recursion (λ (arm : Arm). IfSome arm.fields (AreSlots 3)) (empty_arm None 0 ∷ cell_arm 1 2 2 ∷ []) (tt, (All-from_recursion (λ (slot : ℕ). slot < 3) (1 ∷ 2 ∷ []) (omega arith, (omega arith, tt)), tt)),
)

-- a field is given to the fourth slot
switch-not : FitsOp 3 (SwitchFields 0 (cell_arm 1 3 2 ∷ [])) → ⊥
switch-not f = let h : 3 < 3 = f.1 0 (cell_arm 1 3 2) (omega arith) 1 0 (omega arith) in absurd (omega (arith, h))

-- It does not matter from where something is passed.
entry-example : FitsEntry (Call entry (record { from = 7; to = 1 } ∷ []) (7 ∷ []))
entry-example = All-from_recursion (λ (pass : Pass). pass.to < 2) (record { from = 7; to = 1 } ∷ []) (omega arith, tt)

entry-not : FitsEntry (LastCall entry (record { from = 0; to = 2 } ∷ [])) → ⊥
entry-not f = let h : 2 < 2 = f 0 (record { from = 0; to = 2 }) (omega arith) in absurd (omega (arith, h))

call_sum_entry-example : FitsEntry (CallSum entry (record { from = 7; to = 1 } ∷ []) (sum 9 8 0))
call_sum_entry-example = (All-from_recursion (λ (pass : Pass). pass.to < 2) (record { from = 7; to = 1 } ∷ []) (omega arith, tt), omega arith)

last_call_sum_entry-example : FitsEntry (LastCallSum entry (record { from = 7; to = 1 } ∷ []) (sum 9 8 0))
last_call_sum_entry-example = (All-from_recursion (λ (pass : Pass). pass.to < 2) (record { from = 7; to = 1 } ∷ []) (omega arith, tt), omega arith)

-- the sum goes to the third slot of two ..
call_sum_entry-not : FitsEntry (CallSum entry [] (sum 1 0 2)) → ⊥
call_sum_entry-not f = let h : 2 < 2 = f.1 in absurd (omega (arith, h))

-- .. or something else that is passed does
last_call_sum_entry-not : FitsEntry (LastCallSum entry (record { from = 0; to = 2 } ∷ []) (sum 1 0 0)) → ⊥
last_call_sum_entry-not f = let h : 2 < 2 = f.0 0 (record { from = 0; to = 2 }) (omega arith) in absurd (omega (arith, h))
