-- Worked examples of calls that pass a sum.
use Rattle.std.specs.Prelude.{◌≡◌, ℕ, pos, negsuc, List, [], ◌∷◌, ◌++◌, length, Some, None, false, slice_get, refl}
use Rattle.std.specs.List.{All}
use Rattle.std.proofs.Common.{ap, arith, subst}
use Rattle.std.proofs.lemmas.List.{length-append}
use Rattle.std.proofs.lemmas.List.Elements.{All-from_recursion}
use Rattle.merc_tree.specs.declared.declarations.Arg.TheVariants.{Input}
use Rattle.merc_goal_tree.specs.declared.goal.Operation.TheVariants.{Subtract}
use Rattle.merc_code.specs.declared.instruction.Instruction.{Instruction}
use Rattle.merc_code.specs.declared.instruction.Instruction.TheVariants.{Integer, Arithmetic, Call, Fail, Return, Answer}
use Rattle.merc_code.specs.Steps.{Code, Codes}
use Rattle.merc_code.specs.StepsExamples.{procedure}
use Rattle.merc_frames.specs.declared.passing.Pass.{Pass}
use Rattle.merc_layout.specs.declared.entries.Entry.{Entry}
use Rattle.merc_live.specs.Reads.{MayReadVariable, here, later, there}
use Rattle.merc_load.specs.LeavingOut.{LeavesOut, subtracts_number}
use Rattle.merc_load.specs.LeavingOutExamples.{agrees, agrees-is as left_out-agrees, begins_code-is}
use Rattle.merc_load.specs.PassingSum.{AreFound, IsFound, IsTakenOut, IsUnreadBehind, PassesSum, calls, calls_last}
use Rattle.merc_load.specs.SuperinstructionsExamples.{next_not}
use Rattle.merc_load.specs.declared.finding.Found.{Found}
use Rattle.merc_load.specs.declared.loaded.Op.{Op}
use Rattle.merc_load.specs.declared.loaded.Op.TheVariants.{Do, Call as CallOp, LastCall, CallSum, LastCallSum, SumNumber, Fail as FailOp}
use Rattle.merc_load.specs.declared.loaded.Sum.{Sum}

abbrev pub pass : ℕ → ℕ → Pass
pass from to = record { from = from; to = to }

other_slot : (one other : ℕ) → (one ≡ other → ⊥) → All (λ (passed : Pass). passed.to ≡ other → ⊥) (pass 3 one ∷ [])
other_slot one other apart = All-from_recursion (λ (passed : Pass). passed.to ≡ other → ⊥) (pass 3 one ∷ []) (apart, tt)

-- A variable is no longer passed, and the others are.
taken_out-example : IsTakenOut 2 0 (pass 1 2 ∷ pass 2 0 ∷ pass 3 1 ∷ []) (pass 1 2 ∷ pass 3 1 ∷ [])
taken_out-example = record {
  before = pass 1 2 ∷ [];
  behind = pass 3 1 ∷ [];
  whole = refl;
  left_is = refl;
  passed_once = All-from_recursion (λ (passed : Pass). passed.from ≡ 2 → ⊥) (pass 1 2 ∷ pass 3 1 ∷ []) ((λ e. absurd (omega (arith, e))), ((λ e. absurd (omega (arith, e))), tt));
  alone = other_slot 1 0 (λ e. absurd (omega (arith, e)));
}

-- Another variable goes to the same slot behind it.

no_place : (before behind : List Pass) → pass 2 0 ∷ pass 3 0 ∷ [] ≡ before ++ pass 2 0 ∷ behind → All (λ (passed : Pass). passed.to ≡ 0 → ⊥) behind → ⊥
no_place [] behind whole alone =
    let e : behind ≡ pass 3 0 ∷ [] = cc in
    (subst (All (λ (passed : Pass). passed.to ≡ 0 → ⊥)) e alone) 0 (pass 3 0) (omega arith) refl
no_place (first ∷ []) behind whole alone =
    let e : pass 3 0 ≡ pass 2 0 = cc in
    let n : 3 ≡ 2 = ap (λ (p : Pass). p.from) e in absurd (omega (arith, n))
no_place (first ∷ second ∷ before) behind whole alone =
    let n : 2 ≡ length (first ∷ second ∷ before ++ pass 2 0 ∷ behind) = ap length whole in
    absurd (omega (arith, n, length-append before (pass 2 0 ∷ behind)))

same_slot-not : (left : List Pass) → IsTakenOut 2 0 (pass 2 0 ∷ pass 3 0 ∷ []) left → ⊥
same_slot-not left taken = no_place taken.before taken.behind taken.whole taken.alone

-- It is passed twice.

still_passed : (slot : ℕ) (before behind left : List Pass) → pass 2 0 ∷ pass 2 1 ∷ [] ≡ before ++ pass 2 slot ∷ behind → left ≡ before ++ behind → All (λ (passed : Pass). passed.from ≡ 2 → ⊥) left → ⊥
still_passed slot [] behind left whole left_is passed_once =
    let e : left ≡ pass 2 1 ∷ [] = cc in
    (subst (All (λ (passed : Pass). passed.from ≡ 2 → ⊥)) e passed_once) 0 (pass 2 1) (omega arith) refl
still_passed slot (first ∷ before) behind left whole left_is passed_once =
    let e : left ≡ pass 2 0 ∷ before ++ behind = cc in
    (subst (All (λ (passed : Pass). passed.from ≡ 2 → ⊥)) e passed_once) 0 (pass 2 0) (omega arith) refl

passed_twice-not : (slot : ℕ) (left : List Pass) → IsTakenOut 2 slot (pass 2 0 ∷ pass 2 1 ∷ []) left → ⊥
passed_twice-not slot left taken = still_passed slot taken.before taken.behind left taken.whole taken.left_is taken.passed_once

-- `p(N - 1, M)`, where the procedure has two inputs: the first variable is N, the second one has the constant, the third one is the difference, and the fourth one is M.

abbrev pub two : Codes
two = record { procedures = λ called. slice_get (record { places = Input ∷ Input ∷ []; code = Return ∷ [] } ∷ []) called.predicate; conjuncts = λ site. [] }

abbrev pub call_of : Code → Code
call_of rest = Call (procedure 0) (2 ∷ 3 ∷ []) ∷ rest

abbrev pub calls_p : Code → Code
calls_p rest = Integer 1 (pos 1) ∷ Arithmetic Subtract 2 0 1 ∷ call_of rest

abbrev pub entry_of_p : Entry
entry_of_p = record { place = 0; size = 2; is_clean = false }

abbrev pub both : List Pass
both = pass 2 0 ∷ pass 3 1 ∷ []

abbrev pub difference : Sum
difference = record { variable = 2; from = 0; number = negsuc 0; to = 0 }

-- how it is listed, with this for the call
abbrev pub listed : Op → List Op
listed call = Do (Integer 1 (pos 1)) ∷ Do (Arithmetic Subtract 2 0 1) ∷ call ∷ FailOp ∷ []

-- A failure reads nothing, and the call reads what is passed.

no_variable : (variable : ℕ) (rest : Code) → MayReadVariable two None variable (Fail ∷ rest) → ⊥
no_variable variable rest (here _ _ h) = absurd cc
no_variable variable rest (later _ _ on g h) = absurd cc
no_variable variable rest (there _ _ n s h) = absurd cc

no_constant : (rest : Code) → (MayReadVariable two None 1 rest → ⊥) → MayReadVariable two None 1 (call_of rest) → ⊥
no_constant rest unread (here _ _ h) = absurd cc
no_constant rest unread (later _ _ on g h) = unread h
no_constant rest unread (there _ _ n s h) = absurd cc

leaves_out-example : LeavesOut two None (calls_p (Fail ∷ [])) (SumNumber 2 0 (negsuc 0))
leaves_out-example = subtracts_number 2 0 1 (pos 1) (call_of (Fail ∷ [])) (next_not 0) (no_constant (Fail ∷ []) (no_variable 1 []))

pub taken-example : IsTakenOut 2 0 both (pass 3 1 ∷ [])
taken-example = record {
  before = [];
  behind = pass 3 1 ∷ [];
  whole = refl;
  left_is = refl;
  passed_once = All-from_recursion (λ (passed : Pass). passed.from ≡ 2 → ⊥) (pass 3 1 ∷ []) ((λ e. absurd (omega (arith, e))), tt);
  alone = other_slot 1 0 (λ e. absurd (omega (arith, e)));
}

pub passes_sum-example : PassesSum two None (calls_p (Fail ∷ [])) (listed (CallOp entry_of_p both [])) (CallSum entry_of_p (pass 3 1 ∷ []) difference)
passes_sum-example =
    calls (Integer 1 (pos 1)) (Arithmetic Subtract 2 0 1) (Call (procedure 0) (2 ∷ 3 ∷ [])) (Fail ∷ []) (Do (Integer 1 (pos 1))) (Do (Arithmetic Subtract 2 0 1)) (FailOp ∷ []) entry_of_p both (pass 3 1 ∷ []) [] difference
    leaves_out-example (no_variable 2 []) taken-example

passes_sum-last : PassesSum two None (calls_p (Fail ∷ [])) (listed (LastCall entry_of_p both)) (LastCallSum entry_of_p (pass 3 1 ∷ []) difference)
passes_sum-last =
    calls_last (Integer 1 (pos 1)) (Arithmetic Subtract 2 0 1) (Call (procedure 0) (2 ∷ 3 ∷ [])) (Fail ∷ []) (Do (Integer 1 (pos 1))) (Do (Arithmetic Subtract 2 0 1)) (FailOp ∷ []) entry_of_p both (pass 3 1 ∷ []) difference
    leaves_out-example (no_variable 2 []) taken-example

-- The variable is not read behind the call.

abbrev IsUnread : Code → Op → Type 0
IsUnread (first ∷ second ∷ call ∷ rest) (CallSum called passes sum) = MayReadVariable two None sum.variable rest → ⊥
IsUnread (first ∷ second ∷ call ∷ rest) (LastCallSum called passes sum) = MayReadVariable two None sum.variable rest → ⊥
IsUnread code op = Unit {0}

unread-is : (code : Code) (ops : List Op) (op : Op) → PassesSum two None code ops op → IsUnread code op
unread-is _ _ _ (calls _ _ _ _ _ _ _ _ _ _ _ _ leaves unread taken) = unread
unread-is _ _ _ (calls_last _ _ _ _ _ _ _ _ _ _ _ leaves unread taken) = unread

answered-not : (ops : List Op) (passes : List Pass) → PassesSum two None (calls_p (Answer (2 ∷ []) ∷ [])) ops (CallSum entry_of_p passes difference) → ⊥
answered-not ops passes is = unread-is _ _ _ is (here _ _ refl)

answered_last-not : (ops : List Op) (passes : List Pass) → PassesSum two None (calls_p (Answer (2 ∷ []) ∷ [])) ops (LastCallSum entry_of_p passes difference) → ⊥
answered_last-not ops passes is = unread-is _ _ _ is (here _ _ refl)

-- It is a call of the same kind and of the same procedure, and the variable is taken out of what it passes.

abbrev Agrees : List Op → Op → Type 0
Agrees (first ∷ second ∷ CallOp place inputs outputs ∷ ops) (CallSum called passes sum) = (called ≡ place) × IsTakenOut sum.variable sum.to inputs passes
Agrees (first ∷ second ∷ LastCall place inputs ∷ ops) (LastCallSum called passes sum) = (called ≡ place) × IsTakenOut sum.variable sum.to inputs passes
Agrees (first ∷ second ∷ CallOp place inputs outputs ∷ ops) (LastCallSum called passes sum) = ⊥
Agrees (first ∷ second ∷ LastCall place inputs ∷ ops) (CallSum called passes sum) = ⊥
Agrees ops op = Unit {0}

agrees-is : (code : Code) (ops : List Op) (op : Op) → PassesSum two None code ops op → Agrees ops op
agrees-is _ _ _ (calls _ _ _ _ _ _ _ _ _ _ _ _ leaves unread taken) = (refl, taken)
agrees-is _ _ _ (calls_last _ _ _ _ _ _ _ _ _ _ _ leaves unread taken) = (refl, taken)

passes_twice-not : (code : Code) (outputs : List ℕ) (passes : List Pass) → PassesSum two None code (listed (CallOp entry_of_p (pass 2 0 ∷ pass 2 1 ∷ []) outputs)) (CallSum entry_of_p passes difference) → ⊥
passes_twice-not code outputs passes is = passed_twice-not 0 passes (agrees-is _ _ _ is).1

passes_twice_last-not : (code : Code) (passes : List Pass) → PassesSum two None code (listed (LastCall entry_of_p (pass 2 0 ∷ pass 2 1 ∷ []))) (LastCallSum entry_of_p passes difference) → ⊥
passes_twice_last-not code passes is = passed_twice-not 0 passes (agrees-is _ _ _ is).1

-- A call that comes back is no last one.
comes_back-not : (code : Code) (inputs passes : List Pass) (outputs : List ℕ) → PassesSum two None code (listed (CallOp entry_of_p inputs outputs)) (LastCallSum entry_of_p passes difference) → ⊥
comes_back-not code inputs passes outputs is = agrees-is _ _ _ is

-- It passes the sum that the code computes, with the same number and of the same variable.

abbrev Sums : Op → Code → Type 0
Sums (CallSum called passes sum) code = agrees (SumNumber sum.variable sum.from sum.number) code
Sums (LastCallSum called passes sum) code = agrees (SumNumber sum.variable sum.from sum.number) code
Sums op code = Unit {0}

sums-is : (code : Code) (ops : List Op) (op : Op) → PassesSum two None code ops op → Sums op code
sums-is _ _ _ (calls _ _ _ _ _ _ _ _ _ _ _ _ leaves unread taken) = left_out-agrees _ _ leaves
sums-is _ _ _ (calls_last _ _ _ _ _ _ _ _ _ _ _ leaves unread taken) = left_out-agrees _ _ leaves

-- not that with the number which is taken away
abbrev other_number : Sum
other_number = record { variable = 2; from = 0; number = pos 1; to = 0 }

other_number-not : (ops : List Op) (passes : List Pass) → PassesSum two None (calls_p (Fail ∷ [])) ops (CallSum entry_of_p passes other_number) → ⊥
other_number-not ops passes is = let e : pos 1 ≡ negsuc 0 = (sums-is _ _ _ is).0 refl in absurd cc

other_number_last-not : (ops : List Op) (passes : List Pass) → PassesSum two None (calls_p (Fail ∷ [])) ops (LastCallSum entry_of_p passes other_number) → ⊥
other_number_last-not ops passes is = let e : pos 1 ≡ negsuc 0 = (sums-is _ _ _ is).0 refl in absurd cc

-- not that of another variable
abbrev other_operand : Sum
other_operand = record { variable = 2; from = 3; number = negsuc 0; to = 0 }

other_operand-not : (ops : List Op) (passes : List Pass) → PassesSum two None (calls_p (Fail ∷ [])) ops (CallSum entry_of_p passes other_operand) → ⊥
other_operand-not ops passes is = let e : 3 ≡ 0 = (sums-is _ _ _ is).2 in absurd (omega (arith, e))

other_operand_last-not : (ops : List Op) (passes : List Pass) → PassesSum two None (calls_p (Fail ∷ [])) ops (LastCallSum entry_of_p passes other_operand) → ⊥
other_operand_last-not ops passes is = let e : 3 ≡ 0 = (sums-is _ _ _ is).2 in absurd (omega (arith, e))

unread_behind-example : IsUnreadBehind two None (calls_p (Fail ∷ [])) 2
unread_behind-example = record {
  first = Integer 1 (pos 1);
  second = Arithmetic Subtract 2 0 1;
  third = Call (procedure 0) (2 ∷ 3 ∷ []);
  rest = Fail ∷ [];
  whole = refl;
  unread = no_variable 2 [];
}

-- It is answered there ..

answered : (first second third : Instruction) (rest : Code) → calls_p (Answer (2 ∷ []) ∷ []) ≡ first ∷ second ∷ third ∷ rest → MayReadVariable two None 2 rest
answered first second third rest whole =
    let e : Answer (2 ∷ []) ∷ [] ≡ rest = cc in
    subst (MayReadVariable two None 2) e (here _ _ refl)

unread_behind-not : IsUnreadBehind two None (calls_p (Answer (2 ∷ []) ∷ [])) 2 → ⊥
unread_behind-not is = is.unread (answered is.first is.second is.third is.rest is.whole)

-- .. or there are too few instructions.
too_few-not : (variable : ℕ) → IsUnreadBehind two None (Fail ∷ []) variable → ⊥
too_few-not variable is = let n : 1 ≡ length (is.first ∷ is.second ∷ is.third ∷ is.rest) = ap length is.whole in absurd (omega (arith, n))

abbrev pub found : Found
found = record { leaving_out = Some (SumNumber 2 0 (negsuc 0)); unread = Some 2 }

abbrev pub found_nothing : Found
found_nothing = record { leaving_out = None; unread = None }

found-example : IsFound two None (calls_p (Fail ∷ [])) found
found-example = record { leaves_out = leaves_out-example; unread = unread_behind-example }

pub nothing-example : (codes : Codes) (code : Code) → IsFound codes None code found_nothing
nothing-example codes code = record { leaves_out = tt; unread = tt }

found-not : IsFound two None (calls_p (Answer (2 ∷ []) ∷ [])) found → ⊥
found-not is = unread_behind-not is.unread

-- Nothing has to be found for the last places.
are_found-example : AreFound two None (calls_p (Fail ∷ [])) (found ∷ found_nothing ∷ [])
are_found-example = (found-example, (nothing-example two _, tt))

-- At the place behind stands another instruction.
are_found-not : AreFound two None (calls_p (Fail ∷ [])) (found_nothing ∷ found ∷ []) → ⊥
are_found-not are = begins_code-is two None (Arithmetic Subtract 2 0 1 ∷ call_of (Fail ∷ [])) (SumNumber 2 0 (negsuc 0)) are.1.0.leaves_out
