-- What the functions do that an instruction is made of.
use Rattle.std.specs.List.{All}
use Rattle.std.proofs.Common.{◌≡◌, ℕ, zero, suc, ◌+◌, ◌<◌, List, [], ◌∷◌, pos, Some, None, true, false, slice_get, slice_set, refl, sym, ap, subst, ◌∙◌, arith}
use Rattle.std.proofs.lemmas.List.Elements.{All-nil, All-cons}
use Rattle.merc_base.specs.Names.{division_by_zero_name}
use Rattle.merc_value.specs.Value.{Int, Con, none, more}
use Rattle.merc_value.specs.declared.word.Word.TheVariants.{Int as IntWord, Text as TextWord, Cell as CellWord}
use Rattle.merc_goal_tree.specs.declared.goal.Symbol.TheVariants.{Constructor, Integer as IntegerSymbol}
use Rattle.merc_goal_tree.specs.declared.goal.Operation.TheVariants.{Add, Div}
use Rattle.merc_goal_tree.specs.declared.goal.Comparison.TheVariants.{Less}
use Rattle.merc_meaning.specs.Trace.{Env}
use Rattle.merc_meaning.specs.Steps.{bound, value_at}
use Rattle.merc_meaning.specs.Arithmetic.{comparison_of}
use Rattle.merc_code.specs.declared.instruction.Instruction.{Instruction}
use Rattle.merc_code.specs.declared.instruction.Instruction.TheVariants.{Integer, Arithmetic, Compare}
use Rattle.merc_code.specs.Steps.{Effect, Fails, Raises, compares, operates}
use Rattle.merc_layout.specs.Frames.{FitsInstruction}
use Rattle.merc_layout.specs.FramesExamples.{fits}
use Rattle.merc_frames.specs.declared.slot.Slot.{Slot}
use Rattle.merc_frames.specs.declared.slot.Slot.TheVariants.{Empty, Int as IntSlot, Text as TextSlot, Cell as CellSlot, Mark}
use Rattle.merc_store.specs.Data.{StoreData, with_current}
use Rattle.merc_store.specs.Fitting.{FitsFrame, slot_mark, slot_value}
use Rattle.merc_store.specs.FittingExamples.{frame, frame-example}
use Rattle.merc_store.specs.Effects.{compares_number, operates_number, effect_of_both, Performs, effect_of_all, Grows, PerformsAll}
use Rattle.merc_store.specs.Performing.{word_at, words_at, integer_at, text_in, head_of, stored, tested, DoesBoth, DoesEffect, DoesAll, TellsSum}
use Rattle.merc_store.specs.declared.store.Done.TheVariants.{Bound, Raised, Failed}

word_at-example : word_at (Empty ∷ CellSlot 3 ∷ []) 1 ≡ Some (CellWord 3)
word_at-example = refl

-- a mark, and a slot that is not there
word_at-none : (word_at (Mark 3 ∷ []) 0 ≡ None) × (word_at (Mark 3 ∷ []) 1 ≡ None)
word_at-none = (refl, refl)

words_at-example : words_at (IntSlot (pos 7) ∷ CellSlot 3 ∷ []) (1 ∷ 0 ∷ 1 ∷ []) ≡ Some (CellWord 3 ∷ IntWord (pos 7) ∷ CellWord 3 ∷ [])
words_at-example = refl

words_at-none : words_at (IntSlot (pos 7) ∷ Empty ∷ []) (0 ∷ 1 ∷ []) ≡ None
words_at-none = refl

integer_at-example : integer_at (IntSlot (pos 7) ∷ []) 0 ≡ Some (pos 7)
integer_at-example = refl

integer_at-none : integer_at (TextSlot 7 ∷ []) 0 ≡ None
integer_at-none = refl

text_in-example : text_in (TextWord 7) ≡ Some 7
text_in-example = refl

text_in-none : text_in (IntWord (pos 7)) ≡ None
text_in-none = refl

head_of-example : (head_of (Con 4 (more (Int (pos 7)) none)) ≡ Constructor 4 1) × (head_of (Int (pos 7)) ≡ IntegerSymbol (pos 7))
head_of-example = (refl, refl)

-- another number of arguments
head_of-not : head_of (Con 4 none) ≡ Constructor 4 1 → ⊥
head_of-not same = absurd (cc)

-- the last word for a variable that stands twice; what has no word keeps what it held
stored-example : stored (1 ∷ 1 ∷ 0 ∷ []) (IntWord (pos 7) ∷ CellWord 3 ∷ []) (Empty ∷ Empty ∷ []) ≡ Empty ∷ CellSlot 3 ∷ []
stored-example = refl

stored-not : stored (1 ∷ []) (IntWord (pos 7) ∷ []) (Empty ∷ Empty ∷ []) ≡ IntSlot (pos 7) ∷ Empty ∷ [] → ⊥
stored-not same = absurd (cc)

-- the first variable has the value 7
abbrev pub store : StoreData
store = record { cells = []; stacks = record { current = frame; callers = []; choices = [] } }

raised_effect : (effect : Effect) → Some (Raises division_by_zero_name) ≡ Some effect → Raises division_by_zero_name ≡ effect
raised_effect effect is = cc

raised_over : (variables : ℕ) (env : Env) (marks : List ℕ) (effect : Effect) → value_at env 0 ≡ Some (Int (pos 7))
    → effect_of_both (Integer 1 (pos 0)) (Arithmetic Div 1 0 1) env ≡ Some effect → Performs store store variables marks effect (Raised division_by_zero_name)
raised_over variables [] marks effect is found = absurd (cc)
raised_over variables (first ∷ []) marks effect is found =
    subst (λ e. Performs store store variables marks e (Raised division_by_zero_name))
    (raised_effect effect (sym (ap (λ v. Some (operates (v ∷ Some (Int (pos 0)) ∷ []) Div 1 v (Some (Int (pos 0))))) is) ∙ found)) (refl, refl)
raised_over variables (first ∷ second ∷ env) marks effect is found =
    subst (λ e. Performs store store variables marks e (Raised division_by_zero_name))
    (raised_effect effect (sym (ap (λ v. Some (operates (v ∷ Some (Int (pos 0)) ∷ env) Div 1 v (Some (Int (pos 0))))) is) ∙ found)) (refl, refl)

-- 7 div 0 raises an exception, and the constant is given no value
does_both-example : DoesBoth store store (Integer 1 (pos 0)) (Arithmetic Div 1 0 1) (Raised division_by_zero_name)
does_both-example = record { performs = λ variables env marks effect fits within within' found. raised_over variables env marks effect (fits.values 0 (within'.read_variables_are_there 0 0 (omega arith))) found }

integer_fits : FitsInstruction 2 3 (Integer 1 (pos 9))
integer_fits = fits 2 3 (Integer 1 (pos 9)) (omega arith, tt) tt tt tt

compare_fits : FitsInstruction 2 3 (Compare Less 0 1)
compare_fits = fits 2 3 (Compare Less 0 1) tt tt (omega arith, (omega arith, tt)) tt

-- 7 < 9 holds, and then the constant does not stay without a value
does_both-not : DoesBoth store store (Integer 1 (pos 9)) (Compare Less 0 1) Bound → ⊥
does_both-not does =
    let done = does.performs 2 (Some (Int (pos 7)) ∷ []) (3 ∷ []) _ frame-example integer_fits compare_fits refl in
    let same : Some (Int (pos 9)) ≡ None = done.1.values 1 (omega arith) in
    absurd (cc)

pub store-grows : Grows store store
store-grows = record { room = refl; callers = refl; choices = refl; cells = ([], refl) }

tested-holds : tested true ≡ Bound
tested-holds = refl

tested-fails : tested false ≡ Failed
tested-fails = refl

passed_over : (variables : ℕ) (env : Env) (marks : List ℕ) → FitsFrame store.cells variables store.stacks.current env marks → 0 < variables
    → Performs store store variables marks (compares_number Less 0 (pos 9) env) Bound
passed_over variables env marks fits within =
    subst (λ v. Performs store store variables marks (compares env (comparison_of Less) v (Some (Int (pos 9)))) Bound) (sym (fits.values 0 within)) (store-grows, fits)

-- 7 < 9 holds, and nothing is given a value
does_effect-example : DoesEffect store store (0 ∷ []) (compares_number Less 0 (pos 9)) Bound
does_effect-example = record { performs = λ variables env marks fits within. passed_over variables env marks fits (within 0 0 (omega arith)) }

-- it does not fail
does_effect-not : DoesEffect store store (0 ∷ []) (compares_number Less 0 (pos 9)) Failed → ⊥
does_effect-not does = does.performs 2 (Some (Int (pos 7)) ∷ []) (3 ∷ []) frame-example (All-cons (λ (variable : ℕ). variable < 2) 0 [] (omega arith) (All-nil (λ (variable : ℕ). variable < 2)))

-- the frame with the second variable's value too
abbrev frame_with_sum : List Slot
frame_with_sum = slice_set frame 1 (IntSlot (pos 9))

value_kept : (env : Env) (variable : ℕ) → (variable ≡ 1 → ⊥) → value_at (bound env 1 (Int (pos 9))) variable ≡ value_at env variable
value_kept [] zero apart = refl
value_kept [] (suc zero) apart = absurd (apart refl)
value_kept [] (suc (suc variable)) apart = refl
value_kept (first ∷ env) zero apart = refl
value_kept (first ∷ env) (suc zero) apart = absurd (apart refl)
value_kept (first ∷ []) (suc (suc variable)) apart = refl
value_kept (first ∷ second ∷ env) (suc (suc variable)) apart = refl

sum_bound : (env : Env) → value_at (bound env 1 (Int (pos 9))) 1 ≡ Some (Int (pos 9))
sum_bound [] = refl
sum_bound (first ∷ []) = refl
sum_bound (first ∷ second ∷ env) = refl

sum_values : (variables : ℕ) (env : Env) (marks : List ℕ) → FitsFrame [] variables frame env marks → (variable : ℕ) → variable < variables
    → value_at (bound env 1 (Int (pos 9))) variable ≡ slot_value [] (slice_get frame_with_sum variable)
sum_values variables env marks fits zero within = value_kept env zero (λ same. absurd (omega (arith, same))) ∙ fits.values zero within
sum_values variables env marks fits (suc zero) within = sum_bound env
sum_values variables env marks fits (suc (suc variable)) within = value_kept env (suc (suc variable)) (λ same. absurd (omega (arith, same))) ∙ fits.values (suc (suc variable)) within

mark_kept : (place : ℕ) → 1 < place → slot_mark (slice_get frame place) ≡ slot_mark (slice_get frame_with_sum place)
mark_kept zero past = absurd (omega (arith, past))
mark_kept (suc zero) past = absurd (omega (arith, past))
mark_kept (suc (suc place)) past = refl

summed_over : (variables : ℕ) (env : Env) (marks : List ℕ) → FitsFrame [] variables frame env marks → 1 < variables
    → Performs store (with_current store frame_with_sum) variables marks (operates_number Add 1 0 (pos 2) env) Bound
summed_over variables env marks fits within =
    let new : FitsFrame [] variables frame_with_sum (bound env 1 (Int (pos 9))) marks = record {
      room = fits.room;
      values = sum_values variables env marks fits;
      others = λ variable past. value_kept env variable (λ same. absurd (omega (arith, same, past, within))) ∙ fits.others variable past;
      numbers = λ mark. fits.numbers mark ∙ mark_kept (variables + mark) (omega (arith, within));
    } in
    subst (λ v. Performs store (with_current store frame_with_sum) variables marks (operates env Add 1 v (Some (Int (pos 2)))) Bound) (sym (fits.values 0 (omega (arith, within))))
    (record { room = refl; callers = refl; choices = refl; cells = ([], refl) }, new)

-- 7 + 2
tells_sum-example : TellsSum store 1 0 (pos 2) (Some (pos 9))
tells_sum-example = record { performs = λ variables env marks fits within. summed_over variables env marks fits (within 0 1 (omega arith)) }

are_there : (one other : ℕ) → one < 2 → other < 2 → All (λ (variable : ℕ). variable < 2) (one ∷ other ∷ [])
are_there one other within within' = All-cons (λ (variable : ℕ). variable < 2) one (other ∷ []) within (All-cons (λ (variable : ℕ). variable < 2) other [] within' (All-nil (λ (variable : ℕ). variable < 2)))

-- it is no other integer
tells_sum-not : TellsSum store 1 0 (pos 2) (Some (pos 8)) → ⊥
tells_sum-not tells =
    let done = tells.performs 2 (Some (Int (pos 7)) ∷ []) (3 ∷ []) frame-example (are_there 1 0 (omega arith) (omega arith)) in
    let same : Some (Int (pos 9)) ≡ Some (Int (pos 8)) = done.1.values 1 (omega arith) in
    absurd (cc)

-- The first variable has an integer, and then there is a sum.
tells_sum-missing : TellsSum store 1 0 (pos 2) None → ⊥
tells_sum-missing tells = tells.performs 2 (Some (Int (pos 7)) ∷ []) (3 ∷ []) frame-example (are_there 1 0 (omega arith) (omega arith))

lacks_over : (variables : ℕ) (env : Env) (marks : List ℕ) → FitsFrame [] variables frame env marks → 1 < variables → Performs store store variables marks (operates_number Add 0 1 (pos 2) env) Failed
lacks_over variables env marks fits within = subst (λ v. Performs store store variables marks (operates env Add 0 v (Some (Int (pos 2)))) Failed) (sym (fits.values 1 within)) refl

-- The second variable has no value, and then there is no sum.
tells_sum-none : TellsSum store 0 1 (pos 2) None
tells_sum-none = record { performs = λ variables env marks fits within. lacks_over variables env marks fits (within 1 1 (omega arith)) }

-- It does not count as nought.
tells_sum-none-not : TellsSum store 0 1 (pos 2) (Some (pos 2)) → ⊥
tells_sum-none-not tells = tells.performs 2 (Some (Int (pos 7)) ∷ []) (3 ∷ []) frame-example (are_there 0 1 (omega arith) (omega arith))

pub store-fits : FitsFrame store.cells 2 store.stacks.current (Some (Int (pos 7)) ∷ []) (3 ∷ [])
store-fits = frame-example

-- 9 < 7 does not hold
abbrev tests : List Instruction
tests = Integer 1 (pos 9) ∷ Compare Less 1 0 ∷ []

failed_effect : (effect : Effect) → Some Fails ≡ Some effect → Fails ≡ effect
failed_effect effect is = cc

failed_over : (variables : ℕ) (env : Env) (marks : List ℕ) (effect : Effect) → FitsFrame store.cells variables store.stacks.current env marks → value_at env 0 ≡ Some (Int (pos 7))
    → effect_of_all tests env ≡ Some effect → PerformsAll store store variables env marks effect Failed
failed_over variables [] marks effect fits is found = absurd (cc)
failed_over variables (first ∷ []) marks effect fits is found =
    let e : Some Fails ≡ effect_of_all tests (first ∷ []) = ap (λ v. effect_of_all tests (v ∷ [])) (sym is) in
    subst (λ e. PerformsAll store store variables (first ∷ []) marks e Failed) (failed_effect effect (e ∙ found)) (store-grows, fits)
failed_over variables (first ∷ second ∷ env) marks effect fits is found =
    let e : Some Fails ≡ effect_of_all tests (first ∷ second ∷ env) = ap (λ v. effect_of_all tests (v ∷ second ∷ env)) (sym is) in
    subst (λ e. PerformsAll store store variables (first ∷ second ∷ env) marks e Failed) (failed_effect effect (e ∙ found)) (store-grows, fits)

-- The variable that the first instruction gives a value has none again.
does_all-example : DoesAll store store tests (1 ∷ []) Failed
does_all-example = record {
  performs = λ variables env marks effect fits within are found. failed_over variables env marks effect fits
      (fits.values 0 (let there = (within 0 (Integer 1 (pos 9)) (omega arith)).written_variables_are_there 0 0 (omega arith) in omega (arith, there))) found;
}

compare_back_fits : FitsInstruction 2 3 (Compare Less 1 0)
compare_back_fits = fits 2 3 (Compare Less 1 0) tt tt (omega arith, (omega arith, tt)) tt

tests_fit : All (FitsInstruction 2 3) tests
tests_fit = All-cons (FitsInstruction 2 3) (Integer 1 (pos 9)) (Compare Less 1 0 ∷ []) integer_fits (All-cons (FitsInstruction 2 3) (Compare Less 1 0) [] compare_back_fits (All-nil (FitsInstruction 2 3)))

-- where it keeps the value, they do not do what the instructions do
does_all-not : DoesAll store (with_current store (IntSlot (pos 7) ∷ IntSlot (pos 9) ∷ Mark 3 ∷ [])) tests (1 ∷ []) Failed → ⊥
does_all-not does =
    let done = does.performs 2 (Some (Int (pos 7)) ∷ []) (3 ∷ []) Fails frame-example tests_fit refl refl in
    let same : None ≡ Some (Int (pos 9)) = done.1.values 1 (omega arith) in
    absurd (cc)
