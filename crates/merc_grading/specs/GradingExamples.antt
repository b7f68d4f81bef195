-- Worked examples of categories, over the types `color ---> red ; green`, `box ---> box(int)` and `int`, and a predicate with a mode of each category.
use Rattle.std.specs.Prelude.{◌≡◌, ℕ, ◌+◌, true, false, ◌==◌, List, [], ◌∷◌, pos, Some, None, refl, if◌then◌else◌}
use Rattle.merc_base.specs.declared.category.Category.{Category}
use Rattle.merc_base.specs.declared.category.Category.TheVariants.{Det, Semidet, Multi, Nondet, Erroneous, Failure}
use Rattle.merc_base.specs.declared.place.Span.{Span}
use Rattle.merc_tree.specs.Types.{TypeExpr, TypeVariable, IntType, TextType, TypeApplication, no_types}
use Rattle.merc_tree.specs.declared.declarations.ModeDecl.{ModeDecl}
use Rattle.merc_tree.specs.declared.declarations.TypeDef.{TypeDef}
use Rattle.merc_goal_tree.specs.declared.goal.Comparison.TheVariants.{Less}
use Rattle.merc_goal_tree.specs.declared.goal.Operation.TheVariants.{Add}
use Rattle.merc_goal_tree.specs.declared.goal.Symbol.{Symbol}
use Rattle.merc_goal_tree.specs.declared.goal.Symbol.TheVariants.{Constructor, Integer, Text}
use Rattle.merc_graded_tree.specs.declared.basic.BasicGoal.{BasicGoal}
use Rattle.merc_graded_tree.specs.declared.basic.BasicGoal.TheVariants.{True, Fail, Assign, Test, Build, Split, Arithmetic, Compare, Raise, Call, Wait, Signal}
use Rattle.merc_graded_tree.specs.declared.entries.Running.{Running}
use Rattle.merc_graded_tree.specs.declared.entries.Running.TheVariants.{Sequential, Parallel}
use Rattle.merc_graded_tree.specs.Nodes.{Node, node, Goal, Basic, Conjunction, Disjunction, Switch, Conditional, Negation, Quantified, nodes_of, list_of, no_arms, more_arms}
use Rattle.merc_grading.specs.Known.{same_symbol, symbols_of_type, are_complete, is_single, known_behind_basic}
use Rattle.merc_grading.specs.Grading.{basic_category, category_at, categories, handed_on, category_from, graded, graded_all}

abbrev pub at : ℕ → Span
at byte = record { first = byte; past = byte + 1; line = 1 }

-- Names, variables and their types.

abbrev pub color : ℕ
color = 50

abbrev pub red : Symbol
red = Constructor 51 0

abbrev pub green : Symbol
green = Constructor 52 0

abbrev box_type : ℕ
box_type = 53

abbrev pub box : Symbol
box = Constructor 54 1

abbrev pub one : Symbol
one = Integer (pos 1)

abbrev pub declared : List TypeDef
declared =
    record { name = color; params = []; constructors = record { name = 51; args = [] } ∷ record { name = 52; args = [] } ∷ []; unit = None }
    ∷ record { name = box_type; params = []; constructors = record { name = 54; args = IntType ∷ [] } ∷ []; unit = None } ∷ []

-- variables of `color`, of `box` and of `int`

abbrev pub c : ℕ
c = 0

abbrev pub d : ℕ
d = 1

abbrev pub b : ℕ
b = 2

abbrev pub n : ℕ
n = 3

abbrev pub m : ℕ
m = 4

abbrev pub types : ℕ → TypeExpr
types variable =
    if variable == c then TypeApplication color no_types else if variable == d then TypeApplication color no_types
    else if variable == b then TypeApplication box_type no_types else IntType

abbrev mode : Category → ModeDecl
mode category = record { args = []; category = category; span = at 0 }

abbrev pub modes : ℕ → List ModeDecl
modes predicate = mode Det ∷ mode Semidet ∷ mode Multi ∷ mode Nondet ∷ mode Erroneous ∷ mode Failure ∷ []

-- Goals.

abbrev pub with_outputs : List ℕ → Goal → Node
with_outputs outputs goal = node goal outputs None (at 10)

-- with an output, so that nothing is capped
abbrev pub of : Goal → Node
of goal = with_outputs (9 ∷ []) goal

abbrev pub basic : BasicGoal → Node
basic goal = of (Basic goal)

abbrev call : ℕ → Node
call category = basic (Call (record { predicate = 7; mode = category }) [])

abbrev pub both : List Node → Node
both goals = of (Conjunction Sequential (nodes_of goals))

abbrev pub is_red : ℕ → Node
is_red variable = basic (Split variable red [])

abbrev pub is_green : ℕ → Node
is_green variable = basic (Split variable green [])

abbrev gives : Node → Category
gives = category_from declared modes types

-- Goals that hold no others.

truth : gives (basic True) ≡ Det
truth = refl

failing : gives (basic Fail) ≡ Failure
failing = refl

assignment : gives (basic (Assign c d)) ≡ Det
assignment = refl

construction : gives (basic (Build c red [])) ≡ Det
construction = refl

arithmetic : gives (basic (Arithmetic Add 5 n m)) ≡ Det
arithmetic = refl

raised : gives (basic (Raise 6)) ≡ Erroneous
raised = refl

comparison : gives (basic (Compare Less n m)) ≡ Semidet
comparison = refl

test : gives (basic (Test n m)) ≡ Semidet
test = refl

waits : gives (basic (Wait n 1)) ≡ Det
waits = refl

signals : gives (basic (Signal n 1)) ≡ Det
signals = refl

calls_det : gives (call 0) ≡ Det
calls_det = refl

calls_semidet : gives (call 1) ≡ Semidet
calls_semidet = refl

calls_multi : gives (call 2) ≡ Multi
calls_multi = refl

calls_nondet : gives (call 3) ≡ Nondet
calls_nondet = refl

calls_erroneous : gives (call 4) ≡ Erroneous
calls_erroneous = refl

calls_failure : gives (call 5) ≡ Failure
calls_failure = refl

-- a mode that is not there
calls_nothing : gives (call 6) ≡ Nondet
calls_nothing = refl

-- the modes are those of the predicate that is called
abbrev modes_of_seven : ℕ → List ModeDecl
modes_of_seven predicate = if predicate == 7 then mode Det ∷ [] else mode Failure ∷ []

calls_its_own : basic_category declared modes_of_seven types [] (Call (record { predicate = 7; mode = 0 }) []) ≡ Det
calls_its_own = refl

calls_the_other : basic_category declared modes_of_seven types [] (Call (record { predicate = 8; mode = 0 }) []) ≡ Det → ⊥
calls_the_other wrong = cc

-- a goal that has no category yet
no_category : category_at (basic True) ≡ Nondet
no_category = refl

no_category_is_no_det : category_at (basic True) ≡ Det → ⊥
no_category_is_no_det wrong = cc

split : gives (is_red c) ≡ Semidet
split = refl

split_of_single : gives (basic (Split b box (n ∷ []))) ≡ Det
split_of_single = refl

literal : gives (basic (Split n one [])) ≡ Semidet
literal = refl

-- Symbols that are known.

built_before : gives (both (basic (Build c red []) ∷ is_red c ∷ [])) ≡ Det
built_before = refl

built_other : gives (both (basic (Build c green []) ∷ is_red c ∷ [])) ≡ Failure
built_other = refl

split_before : gives (both (is_red c ∷ is_red c ∷ [])) ≡ Semidet
split_before = refl

split_other : gives (both (is_red c ∷ is_green c ∷ [])) ≡ Failure
split_other = refl

other_variable : gives (both (basic (Build c red []) ∷ is_red d ∷ [])) ≡ Semidet
other_variable = refl

literal_known : gives (both (basic (Build n one []) ∷ basic (Split n one []) ∷ [])) ≡ Det
literal_known = refl

other_literal : gives (both (basic (Build n one []) ∷ basic (Split n (Integer (pos 2)) []) ∷ [])) ≡ Failure
other_literal = refl

assigned : gives (both (basic (Build c red []) ∷ basic (Assign d c) ∷ is_red d ∷ [])) ≡ Det
assigned = refl

-- an assignment hands on what is known at it, and nothing later or back

learned_later : gives (both (basic (Assign d c) ∷ is_red c ∷ is_green d ∷ [])) ≡ Semidet
learned_later = refl

learned_back : gives (both (basic (Assign d c) ∷ is_red d ∷ is_green c ∷ [])) ≡ Semidet
learned_back = refl

-- a test hands on nothing
tested : gives (both (basic (Build c red []) ∷ basic (Test d c) ∷ is_green d ∷ [])) ≡ Semidet
tested = refl

tested_back : gives (both (basic (Build c red []) ∷ basic (Test c d) ∷ is_green d ∷ [])) ≡ Semidet
tested_back = refl

-- the last symbol counts
last_in_front : known_behind_basic (Split c green []) ((c, red) ∷ []) ≡ (c, green) ∷ (c, red) ∷ []
last_in_front = refl

beside : gives (of (Conjunction (Parallel None) (nodes_of (basic (Build c red []) ∷ is_red c ∷ [])))) ≡ Det
beside = refl

-- `( error(..), C = red ) & C = red`: the second runs beside the first, which has no solution, so that C may be green there

abbrev parts_of : Running → List Node → List Category
parts_of running goals = categories (list_of (graded_all declared modes types running [] (nodes_of goals)))

abbrev red_behind : BasicGoal → Node
red_behind goal = both (basic goal ∷ basic (Build c red []) ∷ [])

beside_error : parts_of (Parallel None) (red_behind (Raise 6) ∷ is_red c ∷ []) ≡ Erroneous ∷ Semidet ∷ []
beside_error = refl

beside_error_is_not_det : parts_of (Parallel None) (red_behind (Raise 6) ∷ is_red c ∷ []) ≡ Erroneous ∷ Det ∷ [] → ⊥
beside_error_is_not_det wrong = cc

beside_failure : parts_of (Parallel None) (red_behind Fail ∷ is_red c ∷ []) ≡ Failure ∷ Semidet ∷ []
beside_failure = refl

-- one that has a solution hands on what it tells
beside_answer : parts_of (Parallel None) (red_behind True ∷ is_red c ∷ []) ≡ Det ∷ Det ∷ []
beside_answer = refl

-- what was known before one that has no solution stays known
beside_both : parts_of (Parallel None) (basic (Build c red []) ∷ both (basic Fail ∷ is_green c ∷ []) ∷ is_red c ∷ []) ≡ Det ∷ Failure ∷ Det ∷ []
beside_both = refl

-- `( error(..), C = red ), C = red`: no goal runs behind an error
behind_error : parts_of Sequential (red_behind (Raise 6) ∷ is_red c ∷ []) ≡ Erroneous ∷ Det ∷ []
behind_error = refl

-- behind the whole `&` all is known
behind_parallel : parts_of Sequential (of (Conjunction (Parallel None) (nodes_of (red_behind (Raise 6) ∷ []))) ∷ is_red c ∷ []) ≡ Erroneous ∷ Det ∷ []
behind_parallel = refl

handed_on_beside : handed_on (Parallel None) Failure ((c, green) ∷ (c, red) ∷ []) ((c, red) ∷ []) ≡ (c, red) ∷ []
handed_on_beside = refl

handed_on_in_turn : handed_on Sequential Failure ((c, green) ∷ (c, red) ∷ []) ((c, red) ∷ []) ≡ (c, green) ∷ (c, red) ∷ []
handed_on_in_turn = refl

out_of_conjunction : gives (both (both (basic (Build c red []) ∷ []) ∷ is_red c ∷ [])) ≡ Det
out_of_conjunction = refl

out_of_parallel : gives (both (of (Conjunction (Parallel None) (nodes_of (basic (Build c red []) ∷ []))) ∷ is_red c ∷ [])) ≡ Det
out_of_parallel = refl

out_of_quantified : gives (both (of (Quantified (8 ∷ []) (basic (Build c red []))) ∷ is_red c ∷ [])) ≡ Det
out_of_quantified = refl

-- all that the goals of a conjunction tell, in their order
all_out_of_conjunction : gives (both (both (basic (Build c red []) ∷ basic (Assign d c) ∷ []) ∷ is_red d ∷ [])) ≡ Det
all_out_of_conjunction = refl

learned_later_inside : gives (both (both (basic (Assign d c) ∷ basic (Build c red []) ∷ []) ∷ is_red d ∷ [])) ≡ Semidet
learned_later_inside = refl

into_negation : gives (both (basic (Build c red []) ∷ of (Negation (is_red c)) ∷ [])) ≡ Failure
into_negation = refl

into_conjunction : gives (both (basic (Build c red []) ∷ both (is_red c ∷ []) ∷ [])) ≡ Det
into_conjunction = refl

into_quantified : gives (both (basic (Build c red []) ∷ of (Quantified (8 ∷ []) (is_red c)) ∷ [])) ≡ Det
into_quantified = refl

into_condition : gives (both (basic (Build c red []) ∷ of (Conditional (is_red c) (basic True) (basic Fail)) ∷ [])) ≡ Det
into_condition = refl

into_then : gives (both (basic (Build c red []) ∷ of (Conditional (is_red d) (is_red c) (basic True)) ∷ [])) ≡ Det
into_then = refl

into_else : gives (both (basic (Build c red []) ∷ of (Conditional (is_red d) (basic True) (is_red c)) ∷ [])) ≡ Det
into_else = refl

into_arms : gives (both (basic (Build d red []) ∷ of (Switch c (more_arms red (is_red d) (more_arms green (is_red d) no_arms))) ∷ [])) ≡ Det
into_arms = refl

into_disjuncts : gives (both (basic (Build c red []) ∷ of (Disjunction (nodes_of (is_red c ∷ is_green c ∷ []))) ∷ [])) ≡ Det
into_disjuncts = refl

-- `( C = red -> C = red ; C = green )`: known in the then part, and not in the else part
condition_then : gives (of (Conditional (is_red c) (is_red c) (basic True))) ≡ Det
condition_then = refl

condition_else : gives (of (Conditional (is_red c) (basic True) (is_green c))) ≡ Semidet
condition_else = refl

-- it leaves no disjunction, switch, negation or if-then-else

out_of_disjunction : gives (both (of (Disjunction (nodes_of (basic (Build c red []) ∷ []))) ∷ is_red c ∷ [])) ≡ Semidet
out_of_disjunction = refl

out_of_switch : gives (both (of (Switch d (more_arms red (basic (Build c red [])) (more_arms green (basic (Build c red [])) no_arms))) ∷ is_red c ∷ [])) ≡ Semidet
out_of_switch = refl

out_of_negation : gives (both (of (Negation (is_red c)) ∷ is_red c ∷ [])) ≡ Semidet
out_of_negation = refl

out_of_conditional : gives (both (of (Conditional (basic True) (basic (Build c red [])) (basic (Build c red []))) ∷ is_red c ∷ [])) ≡ Semidet
out_of_conditional = refl

out_of_condition : gives (both (of (Conditional (is_red c) (basic True) (basic True)) ∷ is_red c ∷ [])) ≡ Semidet
out_of_condition = refl

disjuncts_apart : gives (of (Disjunction (nodes_of (basic (Build c red []) ∷ is_red c ∷ [])))) ≡ Multi
disjuncts_apart = refl

-- Switches.

abbrev on_color : Node → Node → Node
on_color first second = of (Switch c (more_arms red first (more_arms green second no_arms)))

complete : gives (on_color (is_red c) (is_green c)) ≡ Det
complete = refl

arm_can_fail : gives (on_color (is_red c) (both (is_green c ∷ is_red d ∷ []))) ≡ Semidet
arm_can_fail = refl

arm_fails : gives (on_color (is_red c) (is_red c)) ≡ Semidet
arm_fails = refl

greatest_arm : gives (on_color (call 2) (call 0)) ≡ Multi
greatest_arm = refl

-- what one arm tells is not known in the next
arms_apart : gives (on_color (basic (Build d red [])) (is_red d)) ≡ Semidet
arms_apart = refl

lacks_green : gives (of (Switch c (more_arms red (is_red c) no_arms))) ≡ Semidet
lacks_green = refl

never_complete : gives (of (Switch n (more_arms one (basic (Split n one [])) no_arms))) ≡ Semidet
never_complete = refl

text_is_endless : are_complete (symbols_of_type declared TextType) (Text 60 ∷ []) ≡ false
text_is_endless = refl

variable_type_is_endless : are_complete (symbols_of_type declared (TypeVariable 60)) [] ≡ false
variable_type_is_endless = refl

-- The type `box/0` is not the type `box/1`, which is of the same name and is declared before it.
told_apart : symbols_of_type (record { name = box_type; params = 9 ∷ []; constructors = record { name = 55; args = [] } ∷ []; unit = None } ∷ declared) (TypeApplication box_type no_types)
    ≡ Some (box ∷ [])
told_apart = refl

other_arity : same_symbol (Constructor 51 0) (Constructor 51 1) ≡ false
other_arity = refl

-- Symbols of different kinds are never the same.

same_text : same_symbol (Text 60) (Text 60) ≡ true
same_text = refl

other_text : same_symbol (Text 60) (Text 61) ≡ false
other_text = refl

integer_and_text : same_symbol (Integer (pos 60)) (Text 60) ≡ false
integer_and_text = refl

text_and_integer : same_symbol (Text 60) (Integer (pos 60)) ≡ false
text_and_integer = refl

text_and_constructor : same_symbol (Text 60) (Constructor 60 0) ≡ false
text_and_constructor = refl

constructor_and_text : same_symbol (Constructor 60 0) (Text 60) ≡ false
constructor_and_text = refl

integer_and_constructor : same_symbol (Integer (pos 60)) (Constructor 60 0) ≡ false
integer_and_constructor = refl

constructor_and_integer : same_symbol (Constructor 60 0) (Integer (pos 60)) ≡ false
constructor_and_integer = refl

-- a type without symbols
none_is_not_single : is_single (Some []) ≡ false
none_is_not_single = refl

none_is_not_single_symbol : is_single (Some []) ≡ true → ⊥
none_is_not_single_symbol wrong = cc

-- The others that join goals: with their parts' categories.

conjunction : gives (both (call 2 ∷ call 1 ∷ [])) ≡ Nondet
conjunction = refl

disjunction : gives (of (Disjunction (nodes_of (call 0 ∷ call 0 ∷ [])))) ≡ Multi
disjunction = refl

conditional : gives (of (Conditional (call 3) (call 0) (call 1))) ≡ Nondet
conditional = refl

negation : gives (of (Negation (call 3))) ≡ Semidet
negation = refl

quantified : gives (of (Quantified (8 ∷ []) (call 3))) ≡ Nondet
quantified = refl

-- A goal without outputs.

no_outputs : gives (with_outputs [] (Disjunction (nodes_of (call 0 ∷ call 0 ∷ [])))) ≡ Det
no_outputs = refl

quantified_without : gives (with_outputs [] (Quantified (8 ∷ []) (call 3))) ≡ Semidet
quantified_without = refl

never_answers : gives (with_outputs [] (Conjunction Sequential (nodes_of (call 3 ∷ basic Fail ∷ [])))) ≡ Failure
never_answers = refl

-- `q(1)` over a predicate with the mode `q(out) is multi`
multi_and_test : gives (with_outputs [] (Conjunction Sequential (nodes_of (call 2 ∷ basic (Test n m) ∷ [])))) ≡ Semidet
multi_and_test = refl

int_switch_is_not_complete : gives (of (Switch n (more_arms one (basic True) no_arms))) ≡ Det → ⊥
int_switch_is_not_complete wrong = cc

unseen_symbol_is_not_known : gives (is_red c) ≡ Det → ⊥
unseen_symbol_is_not_known wrong = cc

-- each part has its category
parts : graded declared modes types [] (both (basic (Build c red []) ∷ is_red c ∷ []))
    ≡ node (Conjunction Sequential (nodes_of (
    node (Basic (Build c red [])) (9 ∷ []) (Some Det) (at 10)
    ∷ node (Basic (Split c red [])) (9 ∷ []) (Some Det) (at 10) ∷ []))) (9 ∷ []) (Some Det) (at 10)
parts = refl
