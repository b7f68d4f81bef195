-- Goals that are good, and others that are not: one for each thing that a good one keeps to. Variables and predicates are those of the examples of
-- orders, and seven is fresh.
use Rattle.std.specs.Prelude.{◌≡◌, ◌⊎◌, ℕ, Bool, true, false, ◌==◌, ◌||◌, List, [], ◌∷◌, None, pos, refl}
use Rattle.std.proofs.Common.{inl, inr}
use Rattle.merc_goal_tree.specs.declared.goal.Comparison.TheVariants.{Less}
use Rattle.merc_goal_tree.specs.declared.goal.Operation.TheVariants.{Add}
use Rattle.merc_goal_tree.specs.declared.goal.Symbol.{Symbol}
use Rattle.merc_goal_tree.specs.declared.goal.Symbol.TheVariants.{Integer}
use Rattle.merc_graded_tree.specs.declared.basic.BasicGoal.{BasicGoal}
use Rattle.merc_graded_tree.specs.declared.basic.BasicGoal.TheVariants.{True, Fail, Assign, Test, Build, Split, Arithmetic, Compare, Raise, Call, Wait, Signal}
use Rattle.merc_graded_tree.specs.declared.entries.Running.TheVariants.{Sequential, Parallel}
use Rattle.merc_graded_tree.specs.Nodes.{Node, node, Goal, Basic, Conjunction, Disjunction, Switch, Conditional, Negation, Quantified, nodes_of, Arms, no_arms, more_arms}
use Rattle.merc_order.specs.Bound.{among}
use Rattle.merc_order.specs.OrderExamples.{at, modes, f, p, append, x, y, z, one, pair}
use Rattle.merc_order_laws.specs.GoodTree.{node_ends, GoodNode}

abbrev pub goal_at : Goal → List ℕ → Node
goal_at goal outputs = node goal outputs None (at 10)

abbrev pub basic_at : BasicGoal → List ℕ → Node
basic_at goal outputs = goal_at (Basic goal) outputs

-- a goal with these outputs, where these variables occur outside and these are bound
abbrev pub IsGood : List ℕ → List ℕ → Goal → List ℕ → Type 0
IsGood outside bound goal outputs = GoodNode modes (among outside) (among bound) (goal_at goal outputs)

abbrev pub IsGoodBasic : List ℕ → List ℕ → BasicGoal → List ℕ → Type 0
IsGoodBasic outside bound goal outputs = IsGood outside bound (Basic goal) outputs

abbrev call : ℕ → ℕ → List ℕ → BasicGoal
call predicate mode arguments = Call (record { predicate = predicate; mode = mode }) arguments

abbrev two : Symbol
two = Integer (pos 2)

abbrev arms : Node → Node → Arms
arms first second = more_arms one first (more_arms two second no_arms)

abbrev built : ℕ → List ℕ → Node
built variable outputs = basic_at (Build variable one []) outputs

-- what an arm owes whose end can be reached
owed : {A : Type 0} → (true ≡ false) ⊎ A → A
owed (inl e) = absurd (cc e)
owed (inr owes) = owes

-- Good goals

-- `append(X, Y, Z)` with all three bound: the call writes a fresh variable, which is tested behind it
with_test : IsGood (x ∷ y ∷ z ∷ []) (x ∷ y ∷ z ∷ []) (Conjunction Sequential (nodes_of (basic_at (call append 0 (x ∷ y ∷ 7 ∷ [])) (7 ∷ []) ∷ basic_at (Test 7 z) [] ∷ []))) []
with_test = (
  λ v h. cc,
  tt,
  (
    (
      (λ v h. seventh (v == x) (v == y) (v == 7) h, (refl, refl, tt), (refl, (refl, (refl, tt)), (refl, refl, tt), λ v h o. refl)),
      ((λ v h. cc, tt, (refl, refl)), tt),
    ),
    λ v h o. occurs_outside (v == x) (v == y) (v == z) (v == 7) o,
  ),
) where
  seventh : (a b c : Bool) → (c || false) ≡ true → (a || (b || (c || false))) ≡ true
  seventh true b c h = refl
  seventh false true c h = refl
  seventh false false c h = h

  occurs_outside : (a b c d : Bool) → (a || (b || (c || false))) ≡ true → (((a || (b || (c || false))) || (d || false)) || false) ≡ ((a || (b || (c || false))) || false)
  occurs_outside true b c d h = refl
  occurs_outside false true c d h = refl
  occurs_outside false false true d h = refl
  occurs_outside false false false d h = cc

-- a switch on X, where one arm gives Y its value and the end of the other cannot be reached
switch : IsGood (x ∷ y ∷ []) (x ∷ []) (Switch x (arms (built y (y ∷ [])) (basic_at Fail []))) (y ∷ [])
switch = (
  λ v h. second (v == x) (v == y) h,
  (refl, refl, tt),
  (
    refl,
    ((λ v h. h, (refl, refl, tt), (tt, refl, λ v h o. refl)), ((λ v h. cc, tt, tt), tt)),
    (inr (λ v h o. refl), (inl refl, tt)),
  ),
) where
  second : (a b : Bool) → (b || false) ≡ true → (a || ((b || false) || (false || false))) ≡ true
  second true b h = refl
  second false true h = refl
  second false false h = h

-- `( Y = 1 ; Y = 1 )` where Y is in no other place: each disjunct has a Y of its own
own_in_each : IsGood [] [] (Disjunction (nodes_of (built y [] ∷ built y [] ∷ []))) []
own_in_each = (
  λ v h. cc,
  tt,
  (
    ((λ v h. cc, tt, (tt, refl, λ v h o. cc)), ((λ v h. cc, tt, (tt, refl, λ v h o. cc)), tt)),
    (inr (λ v h o. refl), (inr (λ v h o. refl), tt)),
  ),
)

-- Outputs that do not occur in the goal, are bound already, or stand twice

no_such_output : IsGoodBasic [] [] True (x ∷ []) → ⊥
no_such_output h = cc (h.0 x refl)

bound_output : IsGoodBasic [] (x ∷ y ∷ []) (Test x y) (x ∷ []) → ⊥
bound_output h = cc h.1.0

double_output : IsGoodBasic [] [] (Build x one []) (x ∷ x ∷ []) → ⊥
double_output h = cc h.1.1

-- Goals that hold no others: an input that is not bound, a variable that is written and bound, an output that is left out

assign_from_free : IsGoodBasic [] [] (Assign x y) [] → ⊥
assign_from_free h = cc h.2.0

assign_to_bound : IsGoodBasic [] (x ∷ y ∷ []) (Assign x y) [] → ⊥
assign_to_bound h = cc h.2.1

assign_no_output : IsGoodBasic (x ∷ []) (y ∷ []) (Assign x y) [] → ⊥
assign_no_output h = cc (h.2.2 x refl refl)

test_left : IsGoodBasic [] (y ∷ []) (Test x y) [] → ⊥
test_left h = cc h.2.0

test_right : IsGoodBasic [] (x ∷ []) (Test x y) [] → ⊥
test_right h = cc h.2.1

build_of_free : IsGoodBasic [] (y ∷ []) (Build x pair (y ∷ z ∷ [])) [] → ⊥
build_of_free h = cc h.2.0.1.0

build_bound : IsGoodBasic [] (x ∷ []) (Build x one []) [] → ⊥
build_bound h = cc h.2.1

build_no_output : IsGoodBasic (x ∷ []) [] (Build x one []) [] → ⊥
build_no_output h = cc (h.2.2 x refl refl)

split_free : IsGoodBasic [] [] (Split x pair (y ∷ z ∷ [])) [] → ⊥
split_free h = cc h.2.0

split_into_bound : IsGoodBasic [] (x ∷ y ∷ []) (Split x pair (y ∷ z ∷ [])) [] → ⊥
split_into_bound h = cc h.2.1.0

split_into_bound_later : IsGoodBasic [] (x ∷ z ∷ []) (Split x pair (y ∷ z ∷ [])) [] → ⊥
split_into_bound_later h = cc h.2.1.2.0

split_twice : IsGoodBasic [] (x ∷ []) (Split x pair (y ∷ y ∷ [])) [] → ⊥
split_twice h = cc h.2.1.1

split_no_output : IsGoodBasic (y ∷ []) (x ∷ []) (Split x pair (y ∷ z ∷ [])) [] → ⊥
split_no_output h = cc (h.2.2 y refl refl)

sum_of_free_left : IsGoodBasic [] (z ∷ []) (Arithmetic Add x y z) [] → ⊥
sum_of_free_left h = cc h.2.0

sum_of_free_right : IsGoodBasic [] (y ∷ []) (Arithmetic Add x y z) [] → ⊥
sum_of_free_right h = cc h.2.1

sum_into_bound : IsGoodBasic [] (x ∷ y ∷ z ∷ []) (Arithmetic Add x y z) [] → ⊥
sum_into_bound h = cc h.2.2

sum_no_output : IsGoodBasic (x ∷ []) (y ∷ z ∷ []) (Arithmetic Add x y z) [] → ⊥
sum_no_output h = cc (h.2.3 x refl refl)

compare_left : IsGoodBasic [] (y ∷ []) (Compare Less x y) [] → ⊥
compare_left h = cc h.2.0

compare_right : IsGoodBasic [] (x ∷ []) (Compare Less x y) [] → ⊥
compare_right h = cc h.2.1

raise_free : IsGoodBasic [] [] (Raise x) [] → ⊥
raise_free h = cc h.2

wait_not_yet : IsGoodBasic [] [] (Wait x 0) [] → ⊥
wait_not_yet h = h.2

signal_not_yet : IsGoodBasic [] (x ∷ []) (Signal x 0) [] → ⊥
signal_not_yet h = h.2

-- Calls: no such mode, an argument too many, an input that is not bound, an output that is bound or stands twice

no_such_mode : IsGoodBasic [] (x ∷ []) (call f 1 (x ∷ y ∷ [])) [] → ⊥
no_such_mode h = h.2

argument_too_many : IsGoodBasic [] (x ∷ y ∷ []) (call p 0 (x ∷ y ∷ [])) [] → ⊥
argument_too_many h = cc h.2.0

call_of_free : IsGoodBasic [] [] (call f 0 (x ∷ y ∷ [])) [] → ⊥
call_of_free h = cc h.2.1.0

call_into_bound : IsGoodBasic [] (x ∷ y ∷ []) (call f 0 (x ∷ y ∷ [])) [] → ⊥
call_into_bound h = cc h.2.2.0

call_twice : IsGoodBasic [] (z ∷ []) (call append 1 (x ∷ x ∷ z ∷ [])) [] → ⊥
call_twice h = cc h.2.2.1

call_no_output : IsGoodBasic (y ∷ []) (x ∷ []) (call f 0 (x ∷ y ∷ [])) [] → ⊥
call_no_output h = cc (h.2.3 y refl refl)

-- Goals that go one after the other

abbrev call_f : List ℕ → Node
call_f outputs = basic_at (call f 0 (x ∷ y ∷ [])) outputs

-- `X = 1, fail`, as a disjunct: X occurs, and need not be bound
abbrev owes_nothing : Node
owes_nothing = goal_at (Disjunction (nodes_of (goal_at (Conjunction Sequential (nodes_of (built x (x ∷ []) ∷ basic_at Fail [] ∷ []))) (x ∷ []) ∷ []))) []

wrong_order : IsGood [] [] (Conjunction Sequential (nodes_of (call_f (y ∷ []) ∷ built x (x ∷ []) ∷ []))) [] → ⊥
wrong_order h = cc h.2.0.0.2.1.0

wrong_order_beside : IsGood [] [] (Conjunction (Parallel None) (nodes_of (call_f (y ∷ []) ∷ built x (x ∷ []) ∷ []))) [] → ⊥
wrong_order_beside h = cc h.2.0.0.2.1.0

inner_output_missing : IsGood [] [] (Conjunction Sequential (nodes_of (built x [] ∷ call_f [] ∷ []))) [] → ⊥
inner_output_missing h = cc (h.2.0.0.2.2 x refl refl)

later_output_missing : IsGood [] [] (Conjunction Sequential (nodes_of (owes_nothing ∷ built x [] ∷ []))) [] → ⊥
later_output_missing h = cc (h.2.0.1.0.2.2 x refl refl)

sequence_no_output : IsGood (x ∷ []) [] (Conjunction Sequential (nodes_of (built x (x ∷ []) ∷ []))) [] → ⊥
sequence_no_output h = cc (h.2.1 x refl refl)

-- Disjuncts and arms: one that is not good, and two that bind different variables; a switch on a free variable

abbrev no_goal : Node
no_goal = basic_at (Raise x) []

abbrev true_goal : Node
true_goal = basic_at True []

disjunct_not_good : IsGood [] [] (Disjunction (nodes_of (no_goal ∷ []))) [] → ⊥
disjunct_not_good h = cc h.2.0.0.2

later_disjunct_not_good : IsGood [] [] (Disjunction (nodes_of (true_goal ∷ no_goal ∷ []))) [] → ⊥
later_disjunct_not_good h = cc h.2.0.1.0.2

disjuncts_differ : IsGood (x ∷ []) [] (Disjunction (nodes_of (built x (x ∷ []) ∷ true_goal ∷ []))) (x ∷ []) → ⊥
disjuncts_differ h = cc (owed h.2.1.1.0 x refl refl)

switch_on_free : IsGood [] [] (Switch x no_arms) [] → ⊥
switch_on_free h = cc h.2.0

arm_not_good : IsGood [] (y ∷ []) (Switch y (arms true_goal no_goal)) [] → ⊥
arm_not_good h = cc h.2.1.1.0.2

arms_differ : IsGood (y ∷ []) (x ∷ []) (Switch x (arms (built y (y ∷ [])) true_goal)) (y ∷ []) → ⊥
arms_differ h = cc (owed h.2.2.1.0 y refl refl)

-- The end of a switch can be reached where that of some arm can.

some_arm : node_ends modes (goal_at (Switch x (arms (basic_at Fail []) true_goal)) []) ≡ true
some_arm = refl

no_arm : node_ends modes (goal_at (Switch x (arms (basic_at Fail []) no_goal)) []) ≡ false
no_arm = refl

-- Goals with parts: a part that is not good; a condition, or a negated goal, that binds what occurs outside it; an output that is left out

condition_not_good : IsGood [] [] (Conditional no_goal true_goal true_goal) [] → ⊥
condition_not_good h = cc h.2.0.2

condition_binds_outer : IsGood (x ∷ []) [] (Conditional (built x (x ∷ [])) true_goal (built x (x ∷ []))) (x ∷ []) → ⊥
condition_binds_outer h = cc (h.2.1 x refl)

condition_binds_in_else : IsGood [] [] (Conditional (built x (x ∷ [])) true_goal (built x (x ∷ []))) [] → ⊥
condition_binds_in_else h = cc (h.2.1 x refl)

then_part_not_good : IsGood [] [] (Conditional true_goal no_goal true_goal) [] → ⊥
then_part_not_good h = cc h.2.2.2

then_part_binds : IsGood (x ∷ []) [] (Conditional true_goal (built x (x ∷ [])) true_goal) [] → ⊥
then_part_binds h = cc (owed h.2.3 x refl refl)

else_part_not_good : IsGood [] [] (Conditional true_goal true_goal no_goal) [] → ⊥
else_part_not_good h = cc h.2.4.2

else_part_binds : IsGood (x ∷ []) [] (Conditional true_goal true_goal (built x (x ∷ []))) [] → ⊥
else_part_binds h = cc (owed h.2.5 x refl refl)

negated_not_good : IsGood [] [] (Negation no_goal) [] → ⊥
negated_not_good h = cc h.2.0.2

negation_binds_outer : IsGood (x ∷ []) [] (Negation (built x (x ∷ []))) [] → ⊥
negation_binds_outer h = cc (h.2.1 x refl)

output_of_negation : IsGood (x ∷ []) [] (Negation owes_nothing) (x ∷ []) → ⊥
output_of_negation h = cc (h.2.2 x refl refl)

quantified_not_good : IsGood [] [] (Quantified (x ∷ []) no_goal) [] → ⊥
quantified_not_good h = cc h.2.0.2

quantified_no_output : IsGood (x ∷ []) [] (Quantified [] (built x (x ∷ []))) [] → ⊥
quantified_no_output h = cc (h.2.1 x refl refl)
