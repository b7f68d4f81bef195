-- Worked examples of truth by stages. `is(in)` is true of the text 7, `loop` calls itself, `outer(in)` calls `is`, and the body of `own(in)` is a negation
-- with a variable of its own.
use Rattle.std.specs.Prelude.{◌≡◌, ℕ, zero, suc, pos, negsuc, true, false, [], ◌∷◌, slice_get, refl}
use Rattle.std.proofs.Common.{inl, inr, sym, ◌∙◌}
use Rattle.merc_base.specs.declared.category.Category.TheVariants.{Semidet, Erroneous, Failure}
use Rattle.merc_tree.specs.declared.declarations.Arg.TheVariants.{Input}
use Rattle.merc_value.specs.Value.{Value, IsValue, Int, Text, Con, none, more}
use Rattle.merc_goal_tree.specs.declared.goal.Comparison.TheVariants.{Less}
use Rattle.merc_goal_tree.specs.declared.goal.Operation.TheVariants.{Subtract, Quotient}
use Rattle.merc_goal_tree.specs.declared.goal.Symbol.TheVariants.{Constructor, Text as TextSymbol}
use Rattle.merc_graded_tree.specs.declared.basic.BasicGoal.{BasicGoal}
use Rattle.merc_graded_tree.specs.declared.basic.BasicGoal.TheVariants.{True, Fail, Assign, Test, Build, Split, Arithmetic, Compare, Raise, Call, Wait, Signal}
use Rattle.merc_graded_tree.specs.declared.entries.Running.TheVariants.{Sequential}
use Rattle.merc_graded_tree.specs.Nodes.{Node, Basic, Conjunction, Disjunction, Switch, Conditional, Negation, Quantified, no_nodes, nodes_of, no_arms, more_arms}
use Rattle.merc_graded_tree.specs.Variables.{among, in_node, in_nodes}
use Rattle.merc_meaning.specs.Runs.{Program, ProcedureBody}
use Rattle.merc_meaning.specs.Truth.{Assignment, IsAssignment, Outside, with, is_argument, AgreeOn, IsEntered, YesBasic, NoBasic, YesCall, NoCall, YesAt, NoAt}
use Rattle.merc_meaning.specs.RunExamples.{goal, graded, basic, procedure, truth, failure}

abbrev x : ℕ
x = 0

abbrev is : ℕ → Node
is text = basic (Build x (TextSymbol text) []) []

abbrev is_body : ProcedureBody
is_body = record { places = Input ∷ []; body = is 7 }

abbrev loop : Node
loop = basic (Call (procedure 1) []) []

abbrev loop_body : ProcedureBody
loop_body = record { places = []; body = loop }

abbrev called : Node
called = basic (Call (procedure 0) (x ∷ [])) []

abbrev outer_body : ProcedureBody
outer_body = record { places = Input ∷ []; body = called }

abbrev own_body : ProcedureBody
own_body = record { places = Input ∷ []; body = goal (Negation (basic (Build 1 (TextSymbol 8) []) [])) [] }

abbrev program : Program
program called = slice_get (is_body ∷ loop_body ∷ outer_body ∷ own_body ∷ []) called.predicate

abbrev texts : ℕ → Assignment
texts text = λ variable. Text text

texts-are_values : (text : ℕ) → IsAssignment (texts text)
texts-are_values text variable = tt

-- all variables occur outside, and none
abbrev all : Outside
all variable = true

abbrev nothing : Outside
nothing variable = false

-- goals that hold no others; the variables 0 to 3 have the integers 7, 9, -2 and 0

abbrev numbers : Assignment
numbers zero = Int (pos 7)
numbers (suc zero) = Int (pos 9)
numbers (suc (suc zero)) = Int (negsuc 1)
numbers (suc (suc (suc variable))) = Int (pos 0)

abbrev YesOf : BasicGoal → Assignment → Type 0
YesOf whole values = YesBasic (YesCall program 0) (NoCall program 0) whole values

abbrev NoOf : BasicGoal → Assignment → Type 0
NoOf whole values = NoBasic (YesCall program 0) (NoCall program 0) whole values

true-yes : YesOf True numbers
true-yes = tt

true-not_no : NoOf True numbers → ⊥
true-not_no holds = holds

fail-no : NoOf Fail numbers
fail-no = tt

fail-not_yes : YesOf Fail numbers → ⊥
fail-not_yes holds = holds

assign-yes : YesOf (Assign 0 1) (texts 7)
assign-yes = refl

assign-no : NoOf (Assign 0 1) numbers
assign-no = λ equal. cc

assign-not_yes : YesOf (Assign 0 1) numbers → ⊥
assign-not_yes equal = cc

test-yes : YesOf (Test 0 1) (texts 7)
test-yes = refl

test-no : NoOf (Test 0 1) numbers
test-no = λ equal. cc

test-not_yes : YesOf (Test 0 1) numbers → ⊥
test-not_yes equal = cc

arithmetic-yes : YesOf (Arithmetic Subtract 2 0 1) numbers
arithmetic-yes = refl

-- 9 - 7 is not -2
arithmetic-no : NoOf (Arithmetic Subtract 2 1 0) numbers
arithmetic-no = λ equal. cc

arithmetic-zero_divisor : NoOf (Arithmetic Quotient 3 0 3) numbers
arithmetic-zero_divisor = λ equal. cc

compare-yes : YesOf (Compare Less 0 1) numbers
compare-yes = refl

compare-no : NoOf (Compare Less 1 0) numbers
compare-no = λ holds. cc

-- a variable with a value of two arguments, and behind it these
abbrev parts : Assignment
parts zero = Con 200 (more (Text 1) (more (Text 2) none))
parts (suc variable) = Text (suc variable)

build-yes : YesOf (Build 0 (Constructor 200 2) (1 ∷ 2 ∷ [])) parts
build-yes = refl

build-no : NoOf (Build 0 (Constructor 200 2) (2 ∷ 1 ∷ [])) parts
build-no = λ equal. cc

split-yes : YesOf (Split 0 (Constructor 200 2) (1 ∷ 2 ∷ [])) parts
split-yes = refl

split-no : NoOf (Split 0 (Constructor 200 2) (2 ∷ 1 ∷ [])) parts
split-no = λ equal. cc

raise-not_yes : YesOf (Raise 0) (texts 7) → ⊥
raise-not_yes holds = holds

wait-yes : YesOf (Wait 0 1) (texts 7)
wait-yes = tt

wait-not_no : NoOf (Wait 0 1) (texts 7) → ⊥
wait-not_no holds = holds

signal-yes : YesOf (Signal 0 1) (texts 7)
signal-yes = tt

signal-not_no : NoOf (Signal 0 1) (texts 7) → ⊥
signal-not_no holds = holds

-- a unification is equality

unification-yes : YesAt program 0 all (is 7) (texts 7)
unification-yes = ((λ h. h), (texts 7, texts-are_values 7, (λ variable outside. refl), refl))

unification-no : NoAt program 0 all (is 8) (texts 7)
unification-no = inr (λ others are agree equal. let here = agree x refl in cc)

-- a goal's own variables have some value

own-yes : YesAt program 0 nothing (is 8) (texts 7)
own-yes = ((λ h. h), (texts 8, texts-are_values 8, (λ variable outside. absurd cc), refl))

-- a goal with a maximum of 0 is no, whatever it says

no_solution-no : NoAt program 0 all (graded Failure (Basic True) []) (texts 7)
no_solution-no = inl refl

no_solution-not_yes : YesAt program 0 all (graded Failure (Basic True) []) (texts 7) → ⊥
no_solution-not_yes yes_at = yes_at.0 refl

no_solution-erroneous : NoAt program 0 all (graded Erroneous (Basic True) []) (texts 7)
no_solution-erroneous = inl refl

-- one that can fail may be yes
semidet-yes : YesAt program 0 all (graded Semidet (Basic True) []) (texts 7)
semidet-yes = ((λ is_zero. cc), (texts 7, texts-are_values 7, (λ variable outside. refl), tt))

raise-no : NoAt program 0 all (basic (Raise x) []) (texts 7)
raise-no = inr (λ others are agree. tt)

seven : (outside : Outside) → YesAt program 0 outside (is 7) (texts 7)
seven outside = ((λ h. h), (texts 7, texts-are_values 7, (λ variable is_outside. refl), refl))

-- where x has the text 7 and occurs outside, it has no other text

other_is_no : (text : ℕ) → (Text 7 ≡ Text text → ⊥) → (outside : Outside) (values : Assignment) → outside x ≡ true → values x ≡ Text 7 → NoAt program 0 outside (is text) values
other_is_no text apart outside values occurs is_seven = inr (λ others are agree equal. apart (sym is_seven ∙ sym (agree x occurs) ∙ equal))

other_not_yes : (text : ℕ) → (Text 7 ≡ Text text → ⊥) → (outside : Outside) → outside x ≡ true → YesAt program 0 outside (is text) (texts 7) → ⊥
other_not_yes text apart outside occurs yes_at = apart (sym (yes_at.1.2 x occurs) ∙ yes_at.1.3)

abbrev is_not : ℕ → Node
is_not text = goal (Negation (is text)) []

unlike_is_yes : (text : ℕ) → (Text 7 ≡ Text text → ⊥) → (outside : Outside) → outside x ≡ true → YesAt program 0 outside (is_not text) (texts 7)
unlike_is_yes text apart outside occurs =
    ((λ h. h), (texts 7, texts-are_values 7, (λ variable is_outside. refl), other_is_no text apart outside (texts 7) occurs refl))

unlike_not_no : (text : ℕ) → (Text 7 ≡ Text text → ⊥) → (outside : Outside) → outside x ≡ true → NoAt program 0 outside (is_not text) (texts 7) → ⊥
unlike_not_no text apart outside occurs (inl no_solution) = no_solution
unlike_not_no text apart outside occurs (inr every) =
    other_not_yes text apart outside occurs (every (texts 7) (texts-are_values 7) (λ variable is_outside. refl))

-- what occurs outside a part: in the whole nothing, but in these parts beside it

abbrev beside : Node → Outside
beside part = with nothing (in_node part)

abbrev beside_both : Node → Node → Outside
beside_both part other = with nothing (with (in_node part) (in_node other))

-- a negation exchanges yes and no

negation-yes : YesAt program 0 all (goal (Negation (is 8)) []) (texts 7)
negation-yes = ((λ h. h), (texts 7, texts-are_values 7, (λ variable outside. refl), unification-no))

-- its own variables are "there is" inside it
negation-own : NoAt program 0 nothing (goal (Negation (is 8)) []) (texts 7)
negation-own = inr (λ others are agree. ((λ h. h), (texts 8, texts-are_values 8, (λ variable outside. absurd cc), refl)))

quantified-yes : YesAt program 0 nothing (goal (Quantified (x ∷ []) (is 8)) []) (texts 7)
quantified-yes = ((λ h. h), (texts 8, texts-are_values 8, (λ variable outside. absurd cc), ((λ h. h), (texts 8, texts-are_values 8, (λ variable outside. absurd cc), refl))))

quantified-no : NoAt program 0 all (goal (Quantified [] (is 8)) []) (texts 7)
quantified-no = inr (λ others are agree. other_is_no 8 (λ equal. cc) all others refl (agree x refl))

-- all members of a conjunction are yes, or one is no; they share their variables

abbrev both : ℕ → ℕ → Node
both text other = goal (Conjunction Sequential (nodes_of (is text ∷ is other ∷ []))) []

conjunction-yes : YesAt program 0 all (both 7 7) (texts 7)
conjunction-yes = ((λ h. h), (texts 7, texts-are_values 7, (λ variable outside. refl), (seven _, (seven _, tt))))

conjunction-no : NoAt program 0 all (both 7 8) (texts 7)
conjunction-no = inr (λ others are agree. inr (inl (inr (λ own are_own same_outside equal. let outer = agree x refl in let here = same_outside x refl in cc))))

conjunction-shares : YesAt program 0 nothing (both 7 8) (texts 7) → ⊥
conjunction-shares yes_at =
    let first = yes_at.1.3.0.1 in
    let second = yes_at.1.3.1.0.1 in
    let here : first.0 x ≡ yes_at.1.0 x = first.2 x refl in
    let there : second.0 x ≡ yes_at.1.0 x = second.2 x refl in
    let is_first : first.0 x ≡ Text 7 = first.3 in
    let is_second : second.0 x ≡ Text 8 = second.3 in
    absurd cc

-- `X \= 8, X \= 9`: there is one value for both

abbrev neither : Node
neither = goal (Conjunction Sequential (nodes_of (is_not 8 ∷ is_not 9 ∷ []))) []

abbrev before_nine : Outside
before_nine = with nothing (in_nodes (nodes_of (is_not 9 ∷ [])))

abbrev behind_eight : Outside
behind_eight = with (beside (is_not 8)) (in_nodes no_nodes)

conjunction-shares_yes : YesAt program 0 nothing neither (texts 5)
conjunction-shares_yes =
    ((λ h. h), (texts 7, texts-are_values 7, (λ variable outside. absurd cc), (unlike_is_yes 8 (λ equal. cc) before_nine refl, (unlike_is_yes 9 (λ equal. cc) behind_eight refl, tt))))

conjunction-shares_not_no : NoAt program 0 nothing neither (texts 5) → ⊥
conjunction-shares_not_no (inl no_solution) = no_solution
conjunction-shares_not_no (inr every) = elim (every (texts 7) (texts-are_values 7) (λ variable outside. absurd cc)) as (λ _. ⊥) [
  | inl first ↦ unlike_not_no 8 (λ equal. cc) before_nine refl first
  | inr others ↦ elim others as (λ _. ⊥) [ inl second ↦ unlike_not_no 9 (λ equal. cc) behind_eight refl second | inr impossible ↦ impossible ]
]

-- a switch is as its arms are, and its variable occurs outside them

switch-yes : YesAt program 0 all (goal (Switch x (more_arms (TextSymbol 8) (is 8) (more_arms (TextSymbol 7) (is 7) no_arms))) []) (texts 7)
switch-yes = ((λ h. h), (texts 7, texts-are_values 7, (λ variable outside. refl), inr (inl (seven _))))

switch-no : NoAt program 0 all (goal (Switch x (more_arms (TextSymbol 8) (is 8) no_arms)) []) (texts 7)
switch-no = inr (λ others are agree. (inr (λ own are_own same_outside equal. let outer = agree x refl in let here = same_outside x refl in cc), tt))

abbrev switched : Node
switched = goal (Switch x (more_arms (TextSymbol 7) (is_not 8) no_arms)) []

abbrev in_arm : Outside
in_arm = with nothing (among (x ∷ []))

switch-shares_yes : YesAt program 0 nothing switched (texts 5)
switch-shares_yes = ((λ h. h), (texts 7, texts-are_values 7, (λ variable outside. absurd cc), inl (unlike_is_yes 8 (λ equal. cc) in_arm refl)))

switch-shares_not_no : NoAt program 0 nothing switched (texts 5) → ⊥
switch-shares_not_no (inl no_solution) = no_solution
switch-shares_not_no (inr every) =
    let arms = every (texts 7) (texts-are_values 7) (λ variable outside. absurd cc) in
    unlike_not_no 8 (λ equal. cc) in_arm refl arms.0

-- one arm that is yes is enough, and all have to be no

disjunction-yes : YesAt program 0 all (goal (Disjunction (nodes_of (is 8 ∷ is 7 ∷ []))) []) (texts 7)
disjunction-yes = ((λ h. h), (texts 7, texts-are_values 7, (λ variable outside. refl), inr (inl unification-yes)))

disjunction-no : NoAt program 0 all (goal (Disjunction (nodes_of (is 8 ∷ is 9 ∷ []))) []) (texts 7)
disjunction-no = inr (λ others are agree. (other_is_no 8 (λ equal. cc) all others refl (agree x refl), (other_is_no 9 (λ equal. cc) all others refl (agree x refl), tt)))

-- a goal that is no, with x
abbrev never : Node
never = graded Failure (Basic (Build x (TextSymbol 8) [])) []

-- the x of an arm is not that of another
disjunction-own : NoAt program 0 nothing (goal (Disjunction (nodes_of (is_not 8 ∷ never ∷ []))) []) (texts 7)
disjunction-own = inr (λ others are agree. (inr (λ own are_own same. ((λ h. h), (texts 8, texts-are_values 8, (λ variable outside. absurd cc), refl))), (inl refl, tt)))

-- the else part, where the condition has no solution

conditional-yes : YesAt program 0 all (goal (Conditional (is 8) (basic Fail []) (is 7)) []) (texts 7)
conditional-yes = (
  (λ h. h),
  (
    texts 7,
    texts-are_values 7,
    (λ variable outside. refl),
    inr (seven _, inr (λ others are agree equal. let here = agree x refl in cc)),
  ),
)

-- `( if X \= 8 then X \= 9 else fail )`: the condition and the then part share x

abbrev then_shares : Node
then_shares = goal (Conditional (is_not 8) (is_not 9) failure) []

conditional-then_yes : YesAt program 0 nothing then_shares (texts 5)
conditional-then_yes =
    ((λ h. h), (texts 7, texts-are_values 7, (λ variable outside. absurd cc), inl (unlike_is_yes 8 (λ equal. cc) (beside_both (is_not 9) failure) refl, unlike_is_yes 9 (λ equal. cc) (beside_both (is_not 8) failure) refl)))

conditional-then_not_no : NoAt program 0 nothing then_shares (texts 5) → ⊥
conditional-then_not_no (inl no_solution) = no_solution
conditional-then_not_no (inr every) = let parts = every (texts 7) (texts-are_values 7) (λ variable outside. absurd cc) in elim parts.0 as (λ _. ⊥) [
  | inl condition ↦ unlike_not_no 8 (λ equal. cc) (beside_both (is_not 9) failure) refl condition
  | inr then_part ↦ unlike_not_no 9 (λ equal. cc) (beside_both (is_not 8) failure) refl then_part
]

-- `( if X = 8 then fail else X \= 9 )`: x occurs outside the condition

abbrev else_shares : Node
else_shares = goal (Conditional (is 8) failure (is_not 9)) []

conditional-else_yes : YesAt program 0 nothing else_shares (texts 5)
conditional-else_yes = (
  (λ h. h),
  (
    texts 7,
    texts-are_values 7,
    (λ variable outside. absurd cc),
    inr (unlike_is_yes 9 (λ equal. cc) (beside_both (is 8) failure) refl, other_is_no 8 (λ equal. cc) (beside (is_not 9)) (texts 7) refl refl),
  ),
)

conditional-else_not_no : NoAt program 0 nothing else_shares (texts 5) → ⊥
conditional-else_not_no (inl no_solution) = no_solution
conditional-else_not_no (inr every) = let parts = every (texts 7) (texts-are_values 7) (λ variable outside. absurd cc) in elim parts.1 as (λ _. ⊥) [
  | inl else_part ↦ unlike_not_no 9 (λ equal. cc) (beside_both (is 8) failure) refl else_part
  | inr condition ↦ other_not_yes 8 (λ equal. cc) (beside (is_not 9)) refl condition
]

-- x in two of the three parts occurs outside each of them

truth_is_yes : (outside : Outside) → YesAt program 0 outside truth (texts 7)
truth_is_yes outside = ((λ h. h), (texts 7, texts-are_values 7, (λ variable is_outside. refl), tt))

truth_not_no : (outside : Outside) → NoAt program 0 outside truth (texts 7) → ⊥
truth_not_no outside (inl no_solution) = no_solution
truth_not_no outside (inr every) = every (texts 7) (texts-are_values 7) (λ variable is_outside. refl)

-- `( if X \= 8 then true else X \= 9 )`
abbrev condition_and_else : Node
condition_and_else = goal (Conditional (is_not 8) truth (is_not 9)) []

condition_and_else-yes : YesAt program 0 nothing condition_and_else (texts 5)
condition_and_else-yes = (
  (λ h. h),
  (
    texts 7,
    texts-are_values 7,
    (λ variable outside. absurd cc),
    inl (unlike_is_yes 8 (λ equal. cc) (beside_both truth (is_not 9)) refl, truth_is_yes (beside_both (is_not 8) (is_not 9))),
  ),
)

condition_and_else-not_no : NoAt program 0 nothing condition_and_else (texts 5) → ⊥
condition_and_else-not_no (inl no_solution) = no_solution
condition_and_else-not_no (inr every) = let parts = every (texts 7) (texts-are_values 7) (λ variable outside. absurd cc) in elim parts.0 as (λ _. ⊥) [
  | inl condition ↦ unlike_not_no 8 (λ equal. cc) (beside_both truth (is_not 9)) refl condition
  | inr then_part ↦ truth_not_no (beside_both (is_not 8) (is_not 9)) then_part
]

-- `( if true then X \= 8 else X \= 9 )`
abbrev then_and_else : Node
then_and_else = goal (Conditional truth (is_not 8) (is_not 9)) []

then_and_else-yes : YesAt program 0 nothing then_and_else (texts 5)
then_and_else-yes = (
  (λ h. h),
  (
    texts 7,
    texts-are_values 7,
    (λ variable outside. absurd cc),
    inl (truth_is_yes (beside_both (is_not 8) (is_not 9)), unlike_is_yes 8 (λ equal. cc) (beside_both truth (is_not 9)) refl),
  ),
)

then_and_else-not_no : NoAt program 0 nothing then_and_else (texts 5) → ⊥
then_and_else-not_no (inl no_solution) = no_solution
then_and_else-not_no (inr every) = let parts = every (texts 7) (texts-are_values 7) (λ variable outside. absurd cc) in elim parts.0 as (λ _. ⊥) [
  | inl condition ↦ truth_not_no (beside_both (is_not 8) (is_not 9)) condition
  | inr then_part ↦ unlike_not_no 8 (λ equal. cc) (beside_both truth (is_not 9)) refl then_part
]

-- `( if fail then X \= 8 else X \= 9 )`
abbrev else_and_then : Node
else_and_then = goal (Conditional failure (is_not 8) (is_not 9)) []

else_and_then-yes : YesAt program 0 nothing else_and_then (texts 5)
else_and_then-yes = (
  (λ h. h),
  (
    texts 7,
    texts-are_values 7,
    (λ variable outside. absurd cc),
    inr (unlike_is_yes 9 (λ equal. cc) (beside_both failure (is_not 8)) refl, inr (λ others are agree. tt)),
  ),
)

else_and_then-not_no : NoAt program 0 nothing else_and_then (texts 5) → ⊥
else_and_then-not_no (inl no_solution) = no_solution
else_and_then-not_no (inr every) = let parts = every (texts 7) (texts-are_values 7) (λ variable outside. absurd cc) in elim parts.1 as (λ _. ⊥) [
  | inl else_part ↦ unlike_not_no 9 (λ equal. cc) (beside_both failure (is_not 8)) refl else_part
  | inr condition ↦ condition.1.3
]

-- `( if X = 8 then X = 8, fail else true )`: the condition has a solution, whatever x the then part has

abbrev then_own : Node
then_own = goal (Conditional (is 8) never truth) []

conditional-own_no : NoAt program 0 nothing then_own (texts 5)
conditional-own_no = inr (λ others are agree. (inr (inl refl), inr ((λ h. h), (texts 8, texts-are_values 8, (λ variable outside. absurd cc), refl))))

conditional-own_not_yes : YesAt program 0 nothing then_own (texts 5) → ⊥
conditional-own_not_yes yes_at = elim yes_at.1.3 as (λ _. ⊥) [
  | inl then_part ↦ then_part.1.0 refl
  | inr else_part ↦ elim else_part.1 as (λ _. ⊥) [ inl no_solution ↦ no_solution | inr every ↦ every (texts 8) (texts-are_values 8) (λ variable outside. absurd cc) refl ]
]

-- each argument goes to a variable of its own

abbrev turned : Assignment
turned zero = Int (pos 9)
turned (suc variable) = Int (pos 7)

entered-order : IsEntered (1 ∷ 0 ∷ []) numbers turned
entered-order = (refl, (refl, tt))

-- calls are open at stage 0, and decided as their bodies are at the stage before

call-not_yes : YesAt program 0 all called (texts 7) → ⊥
call-not_yes yes_at = yes_at.1.3

call-not_no : NoAt program 0 all called (texts 7) → ⊥
call-not_no (inl no_solution) = no_solution
call-not_no (inr each) = each (texts 7) (texts-are_values 7) (λ variable outside. refl)

call-yes : YesAt program 1 all called (texts 7)
call-yes = (
  (λ h. h),
  (
    texts 7,
    texts-are_values 7,
    (λ variable outside. refl),
    (texts 7, texts-are_values 7, (refl, tt), ((λ h. h), (texts 7, texts-are_values 7, (λ variable outside. refl), refl))),
  ),
)

call-no : NoAt program 1 all called (texts 8)
call-no = inr (λ others are agree inner values entered. inr (λ own are_own same_outside equal.
    let outer = agree x refl in
    let head = entered.0 in
    let here = same_outside x refl in
    cc))

-- a body that calls

seven_is : YesCall program 1 (procedure 0) (x ∷ []) (texts 7)
seven_is = (texts 7, texts-are_values 7, (refl, tt), ((λ h. h), (texts 7, texts-are_values 7, (λ variable outside. refl), refl)))

abbrev outer : Node
outer = basic (Call (procedure 2) (x ∷ [])) []

outer-yes : YesAt program 2 all outer (texts 7)
outer-yes = (
  (λ h. h),
  (
    texts 7,
    texts-are_values 7,
    (λ variable outside. refl),
    (texts 7, texts-are_values 7, (refl, tt), ((λ h. h), (texts 7, texts-are_values 7, (λ variable outside. refl), seven_is))),
  ),
)

outer-no : NoAt program 2 all outer (texts 8)
outer-no = inr (λ others are agree inner are_inner entered. inr (λ own are_own same innermost are_innermost entered_again. inr (λ last are_last same_last equal.
    let first = agree x refl in
    let second = entered.0 in
    let third = same x refl in
    let fourth = entered_again.0 in
    let fifth = same_last x refl in
    cc)))

-- at the first stage it is open
outer-not_yes : YesAt program 1 all outer (texts 7) → ⊥
outer-not_yes yes_at = yes_at.1.3.3.1.3

-- A body's other variables are its own: `own(X) :- not V = 8.` is no, since there is such a V.

abbrev eight_behind : Value → Assignment
eight_behind first zero = first
eight_behind first (suc variable) = Text 8

eight_behind-are_values : (first : Value) → IsValue first → IsAssignment (eight_behind first)
eight_behind-are_values first is_value zero = is_value
eight_behind-are_values first is_value (suc variable) = tt

eight_behind-agrees : (values : Assignment) → AgreeOn (is_argument (Input ∷ [])) values (eight_behind (values zero))
eight_behind-agrees values zero occurs = refl
eight_behind-agrees values (suc variable) occurs = absurd cc

own-no : NoAt program 1 all (basic (Call (procedure 3) (x ∷ [])) []) (texts 7)
own-no = inr (λ others are agree inner are_inner entered. inr (λ own are_own same.
    ((λ h. h), (eight_behind (own zero), eight_behind-are_values (own zero) (are_own zero), eight_behind-agrees own, refl))))

-- a procedure that is not there is neither

abbrev absent : Node
absent = basic (Call (procedure 9) []) []

absent-not_yes : YesAt program 1 all absent (texts 7) → ⊥
absent-not_yes yes_at = yes_at.1.3

absent-not_no : NoAt program 1 all absent (texts 7) → ⊥
absent-not_no (inl no_solution) = no_solution
absent-not_no (inr every) = every (texts 7) (texts-are_values 7) (λ variable outside. refl)

-- what calls itself is open at stage 2 too

loop-not_yes : YesAt program 2 all loop (texts 7) → ⊥
loop-not_yes yes_at = yes_at.1.3.3.1.3.3.1.3

loop-not_no : NoAt program 1 all loop (texts 7) → ⊥
loop-not_no (inl no_solution) = no_solution
loop-not_no (inr each) = call-open (each (texts 7) (texts-are_values 7) (λ variable outside. refl) (texts 7) (texts-are_values 7) tt)
  where
    call-open : NoAt program 0 nothing loop (texts 7) → ⊥
    call-open (inl no_solution) = no_solution
    call-open (inr own) = own (texts 7) (texts-are_values 7) (λ variable outside. refl)
