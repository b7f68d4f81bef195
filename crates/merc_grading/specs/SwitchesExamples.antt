-- Worked examples of switches, over the types and goals of the examples of categories. The variable 8 is an output of each disjunction.
use Rattle.std.specs.Prelude.{◌≡◌, ℕ, List, [], ◌∷◌, pos, Some, None, refl}
use Rattle.merc_base.specs.declared.category.Category.TheVariants.{Semidet}
use Rattle.merc_goal_tree.specs.declared.goal.Comparison.TheVariants.{Less}
use Rattle.merc_goal_tree.specs.declared.goal.Operation.TheVariants.{Add}
use Rattle.merc_goal_tree.specs.declared.goal.Symbol.{Symbol}
use Rattle.merc_goal_tree.specs.declared.goal.Symbol.TheVariants.{Constructor, Integer}
use Rattle.merc_graded_tree.specs.declared.basic.BasicGoal.TheVariants.{True, Fail, Assign, Test, Build, Split, Arithmetic, Compare, Raise, Call, Wait, Signal}
use Rattle.merc_graded_tree.specs.declared.entries.Running.TheVariants.{Sequential, Parallel}
use Rattle.merc_graded_tree.specs.Nodes.{Node, node, Goal, Basic, Conjunction, Disjunction, Switch, Conditional, Negation, Quantified, nodes_of, no_arms, more_arms}
use Rattle.merc_order.specs.Bound.{among}
use Rattle.merc_grading.specs.Switches.{find, find_goal, choice}
use Rattle.merc_grading.specs.GradingExamples.{at, red, green, box, one, declared, c, d, b, n, m, types, of, with_outputs, basic, both, is_red, is_green}

abbrev found : List ℕ → Goal → Goal
found bound goal = find_goal declared types (among bound) (8 ∷ []) (at 20) goal

abbrev one_of : List Node → Goal
one_of disjuncts = Disjunction (nodes_of disjuncts)

-- a switch with the arms `red` and `green`
abbrev on : ℕ → Node → Node → Goal
on variable first second = Switch variable (more_arms red first (more_arms green second no_arms))

-- a disjunction in an arm, in which the variable 8 does not occur
abbrev inner : Goal → Node
inner goal = node goal [] None (at 20)

abbrev two : Symbol
two = Integer (pos 2)

-- A switch on a variable that is bound before.

switch : found (c ∷ []) (one_of (is_red c ∷ is_green c ∷ [])) ≡ on c (is_red c) (is_green c)
switch = refl

not_bound : found (d ∷ []) (one_of (is_red c ∷ is_green c ∷ [])) ≡ one_of (is_red c ∷ is_green c ∷ [])
not_bound = refl

literals : found (n ∷ []) (one_of (basic (Split n one []) ∷ basic (Split n two []) ∷ []))
    ≡ Switch n (more_arms one (basic (Split n one [])) (more_arms two (basic (Split n two [])) no_arms))
literals = refl

-- arms stand in the order in which their symbols come first
green_first : found (c ∷ []) (one_of (is_green c ∷ is_red c ∷ [])) ≡ Switch c (more_arms green (is_green c) (more_arms red (is_red c) no_arms))
green_first = refl

-- partial switches are not formed
one_without : found (c ∷ []) (one_of (is_red c ∷ is_green c ∷ basic True ∷ [])) ≡ one_of (is_red c ∷ is_green c ∷ basic True ∷ [])
one_without = refl

-- a symbol of the type may lack
red_alone : found (c ∷ []) (one_of (is_red c ∷ both (is_red c ∷ basic Fail ∷ []) ∷ []))
    ≡ Switch c (more_arms red (inner (one_of (is_red c ∷ both (is_red c ∷ basic Fail ∷ []) ∷ []))) no_arms)
red_alone = refl

-- What a disjunct begins with: `first, C = red`, of which the other disjunct is `C = green`.

abbrev behind : Node → Node
behind first = both (first ∷ is_red c ∷ [])

abbrev starting : Node → Goal
starting first = found (c ∷ []) (one_of (behind first ∷ is_green c ∷ []))

abbrev IsSwitchBehind : Node → Type 0
IsSwitchBehind first = starting first ≡ on c (behind first) (is_green c)

abbrev IsNoneBehind : Node → Type 0
IsNoneBehind first = starting first ≡ one_of (behind first ∷ is_green c ∷ [])

behind_assignment : IsSwitchBehind (basic (Assign 5 n))
behind_assignment = refl

behind_test : IsSwitchBehind (basic (Test n m))
behind_test = refl

behind_construction : IsSwitchBehind (basic (Build 5 box (n ∷ [])))
behind_construction = refl

behind_split : IsSwitchBehind (basic (Split b box (5 ∷ [])))
behind_split = refl

-- a split with its test
behind_group : IsSwitchBehind (both (basic (Split b box (5 ∷ [])) ∷ basic (Test 5 n) ∷ []))
behind_group = refl

-- a group that ends otherwise than with a unification
behind_group_with_truth : IsNoneBehind (both (basic (Test n m) ∷ basic True ∷ []))
behind_group_with_truth = refl

behind_truth : IsNoneBehind (basic True)
behind_truth = refl

behind_failure : IsNoneBehind (basic Fail)
behind_failure = refl

behind_arithmetic : IsNoneBehind (basic (Arithmetic Add 5 n m))
behind_arithmetic = refl

behind_comparison : IsNoneBehind (basic (Compare Less n m))
behind_comparison = refl

behind_exception : IsNoneBehind (basic (Raise 6))
behind_exception = refl

behind_wait : IsNoneBehind (basic (Wait n 1))
behind_wait = refl

behind_signal : IsNoneBehind (basic (Signal n 1))
behind_signal = refl

behind_call : IsNoneBehind (basic (Call (record { predicate = 7; mode = 0 }) []))
behind_call = refl

-- a call with its test
behind_tested_call : IsNoneBehind (both (basic (Call (record { predicate = 7; mode = 0 }) (5 ∷ [])) ∷ basic (Test 5 n) ∷ []))
behind_tested_call = refl

behind_quantified : IsNoneBehind (of (Quantified [] (basic (Test n m))))
behind_quantified = refl

behind_negation : IsNoneBehind (of (Negation (basic (Test n m))))
behind_negation = refl

behind_parallel : IsNoneBehind (of (Conjunction (Parallel None) (nodes_of (basic (Test n m) ∷ []))))
behind_parallel = refl

behind_disjunction : IsNoneBehind (of (one_of (basic (Test n m) ∷ [])))
behind_disjunction = refl

behind_conditional : IsNoneBehind (of (Conditional (basic (Test n m)) (basic True) (basic True)))
behind_conditional = refl

-- a split in a quantified goal is none at the beginning
in_quantified : found (c ∷ []) (one_of (of (Quantified [] (is_red c)) ∷ is_green c ∷ [])) ≡ one_of (of (Quantified [] (is_red c)) ∷ is_green c ∷ [])
in_quantified = refl

-- a split of a copy is none of the variable
of_copy : found (c ∷ []) (one_of (both (basic (Assign d c) ∷ is_red d ∷ []) ∷ is_green c ∷ [])) ≡ one_of (both (basic (Assign d c) ∷ is_red d ∷ []) ∷ is_green c ∷ [])
of_copy = refl

-- The choice among several variables.

-- `D` has all symbols, and `C`, which comes first, has not
complete_first : choice declared types (among (c ∷ d ∷ [])) [] (both (is_red c ∷ is_red d ∷ []) ∷ both (is_red c ∷ is_green d ∷ []) ∷ []) ≡ Some d
complete_first = refl

-- both have all, and `D` is split before
first_in_text : choice declared types (among (c ∷ d ∷ [])) [] (both (is_red d ∷ is_red c ∷ []) ∷ both (is_green d ∷ is_green c ∷ []) ∷ []) ≡ Some c
first_in_text = refl

-- neither has all
first_of_literals : choice declared types (among (n ∷ m ∷ [])) [] (both (basic (Split m one []) ∷ basic (Split n one []) ∷ []) ∷ []) ≡ Some n
first_of_literals = refl

-- an endless type is never complete
complete_before_literal : choice declared types (among (d ∷ n ∷ [])) [] (both (basic (Split n one []) ∷ is_red d ∷ []) ∷ both (basic (Split n two []) ∷ is_green d ∷ []) ∷ []) ≡ Some d
complete_before_literal = refl

-- one that is split in each disjunct
in_each : choice declared types (among (c ∷ d ∷ [])) [] (both (is_red c ∷ is_red d ∷ []) ∷ is_green d ∷ []) ≡ Some d
in_each = refl

not_used : choice declared types (among (c ∷ [])) (c ∷ []) (is_red c ∷ is_green c ∷ []) ≡ None
not_used = refl

no_disjuncts : choice declared types (among (c ∷ [])) [] [] ≡ None
no_disjuncts = refl

-- Disjuncts with one symbol form one arm, in their order.

abbrev red_and_first : Node
red_and_first = both (is_red c ∷ basic (Split n one []) ∷ [])

abbrev red_and_last : Node
red_and_last = both (is_red c ∷ basic (Raise 6) ∷ [])

one_arm : found (c ∷ []) (one_of (red_and_first ∷ is_green c ∷ red_and_last ∷ [])) ≡ on c (inner (one_of (red_and_first ∷ red_and_last ∷ []))) (is_green c)
one_arm = refl

-- which is judged again, here on `D`
abbrev red_red : Node
red_red = both (is_red c ∷ is_red d ∷ [])

abbrev red_green : Node
red_green = both (is_red c ∷ is_green d ∷ [])

again : found (c ∷ d ∷ []) (one_of (red_red ∷ is_green c ∷ red_green ∷ [])) ≡ on c (inner (on d red_red red_green)) (is_green c)
again = refl

-- and once more, on `N`
abbrev red_red_with : Symbol → Node
red_red_with number = both (is_red c ∷ is_red d ∷ basic (Split n number []) ∷ [])

abbrev by_number : Goal
by_number = Switch n (more_arms one (red_red_with one) (more_arms two (red_red_with two) no_arms))

once_more : found (c ∷ d ∷ n ∷ []) (one_of (red_red_with one ∷ red_green ∷ is_green c ∷ red_red_with two ∷ []))
    ≡ on c (inner (on d (inner by_number) red_green)) (is_green c)
once_more = refl

-- two disjuncts come together by as many variables as they have
by_all : found (c ∷ d ∷ n ∷ []) (one_of (red_red_with one ∷ red_red_with two ∷ []))
    ≡ Switch c (more_arms red (inner (Switch d (more_arms red (inner by_number) no_arms))) no_arms)
by_all = refl

-- the first symbol of a variable counts
first_symbol : found (c ∷ []) (one_of (both (is_red c ∷ is_green c ∷ []) ∷ is_green c ∷ [])) ≡ on c (both (is_red c ∷ is_green c ∷ [])) (is_green c)
first_symbol = refl

-- The outputs of such a disjunction are those that occur in it.
inner_outputs : find_goal declared types (among (c ∷ [])) (n ∷ m ∷ []) (at 20) (one_of (red_and_first ∷ is_green c ∷ red_and_last ∷ []))
    ≡ on c (node (one_of (red_and_first ∷ red_and_last ∷ [])) (n ∷ []) None (at 20)) (is_green c)
inner_outputs = refl

-- Common splits are not taken out: `p([], 0). p([_], 1). p([_, _ | _], 2).` with the list bound.

abbrev empty : Symbol
empty = Constructor 60 0

abbrev cons : Symbol
cons = Constructor 61 2

abbrev of_none : Node
of_none = both (basic (Split b empty []) ∷ basic (Build n (Integer (pos 0)) []) ∷ [])

abbrev of_one : Node
of_one = both (basic (Split b cons (10 ∷ 11 ∷ [])) ∷ basic (Split 11 empty []) ∷ basic (Build n one []) ∷ [])

abbrev of_more : Node
of_more = both (basic (Split b cons (12 ∷ 13 ∷ [])) ∷ basic (Split 13 cons (14 ∷ 15 ∷ [])) ∷ basic (Build n two []) ∷ [])

not_taken_out : found (b ∷ []) (one_of (of_none ∷ of_one ∷ of_more ∷ []))
    ≡ Switch b (more_arms empty of_none (more_arms cons (inner (one_of (of_one ∷ of_more ∷ []))) no_arms))
not_taken_out = refl

-- A disjunction within a disjunction is one disjunct: `p(X) :- ( X = red ; X = green ). p(X) :- X = red.`
within : found (c ∷ []) (one_of (of (one_of (is_red c ∷ is_green c ∷ [])) ∷ is_red c ∷ [])) ≡ one_of (of (on c (is_red c) (is_green c)) ∷ is_red c ∷ [])
within = refl

-- What is bound, in each place of a tree.

abbrev colors : Node
colors = of (one_of (is_red c ∷ is_green c ∷ []))

abbrev switched_colors : Node
switched_colors = of (on c (is_red c) (is_green c))

-- a goal with the output `C`
abbrev gives_c : Node
gives_c = with_outputs (c ∷ []) (Basic (Call (record { predicate = 7; mode = 0 }) (c ∷ [])))

behind_output : found [] (Conjunction Sequential (nodes_of (gives_c ∷ colors ∷ []))) ≡ Conjunction Sequential (nodes_of (gives_c ∷ switched_colors ∷ []))
behind_output = refl

behind_parallel_output : found [] (Conjunction (Parallel None) (nodes_of (gives_c ∷ colors ∷ []))) ≡ Conjunction (Parallel None) (nodes_of (gives_c ∷ switched_colors ∷ []))
behind_parallel_output = refl

before_output : found [] (Conjunction Sequential (nodes_of (colors ∷ gives_c ∷ []))) ≡ Conjunction Sequential (nodes_of (colors ∷ gives_c ∷ []))
before_output = refl

from_condition : found [] (Conditional gives_c colors colors) ≡ Conditional gives_c switched_colors colors
from_condition = refl

in_condition : found (c ∷ []) (Conditional colors colors colors) ≡ Conditional switched_colors switched_colors switched_colors
in_condition = refl

not_from_disjunct : found [] (one_of (gives_c ∷ colors ∷ [])) ≡ one_of (gives_c ∷ colors ∷ [])
not_from_disjunct = refl

in_negation : found (c ∷ []) (Negation colors) ≡ Negation switched_colors
in_negation = refl

in_quantified_goal : found (c ∷ []) (Quantified (5 ∷ []) colors) ≡ Quantified (5 ∷ []) switched_colors
in_quantified_goal = refl

in_arm : found (c ∷ d ∷ []) (one_of (both (is_red d ∷ colors ∷ []) ∷ is_green d ∷ [])) ≡ on d (both (is_red d ∷ switched_colors ∷ [])) (is_green d)
in_arm = refl

-- Of what a goal has besides, nothing changes.

abbrev truth_with : List ℕ → Node
truth_with outputs = node (Basic True) outputs (Some Semidet) (at 30)

kept : find declared types (among []) (truth_with (n ∷ [])) ≡ truth_with (n ∷ [])
kept = refl

kept_not : find declared types (among []) (truth_with (n ∷ [])) ≡ truth_with [] → ⊥
kept_not wrong = cc

not_bound_is_no_switch : found [] (one_of (is_red c ∷ is_green c ∷ [])) ≡ on c (is_red c) (is_green c) → ⊥
not_bound_is_no_switch wrong = cc

not_split_first : choice declared types (among (c ∷ d ∷ [])) [] (both (is_red d ∷ is_red c ∷ []) ∷ both (is_green d ∷ is_green c ∷ []) ∷ []) ≡ Some d → ⊥
not_split_first wrong = cc
