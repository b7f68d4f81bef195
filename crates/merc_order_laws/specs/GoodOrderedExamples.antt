-- Ordered goals that are good, and others that are not: one for each thing that a good one keeps to. Variables, predicates and goals are those of the
-- examples of orders.
use Rattle.std.specs.Prelude.{◌≡◌, ◌⊎◌, ℕ, Bool, true, false, ◌==◌, ◌||◌, List, [], ◌∷◌, refl}
use Rattle.std.proofs.Common.{inl, inr}
use Rattle.merc_goal_tree.specs.declared.goal.Comparison.TheVariants.{Less}
use Rattle.merc_goal_tree.specs.declared.goal.Operation.TheVariants.{Add}
use Rattle.merc_order.specs.Bound.{among}
use Rattle.merc_order.specs.Ordered.{Ordered, Step, put, Truth, Failure, Assign, Test, Build, Split, Computed, Compared, Raised, Called, Sequence, Beside, Choice, Decision, Denial, Within}
use Rattle.merc_order.specs.OrderExamples.{at, modes, f, p, append, x, y, z, one, pair, ordereds, built}
use Rattle.merc_order_laws.specs.GoodOrdered.{Good}

-- a goal with these outputs, where these variables occur outside and these are bound
abbrev pub IsGood : List ℕ → List ℕ → Step → List ℕ → Type 0
IsGood outside bound step outputs = Good modes (among outside) (among bound) (put step outputs (at 10))

abbrev pub call_f : List ℕ → Ordered
call_f outputs = put (Called f 0 (x ∷ y ∷ []) (false ∷ false ∷ [])) outputs (at 20)

abbrev pub fails : Ordered
fails = put Failure [] (at 30)

-- what an arm owes whose end can be reached
owed : {A : Type 0} → (true ≡ false) ⊎ A → A
owed (inl e) = absurd (cc e)
owed (inr owes) = owes

-- Good goals

-- `X = 1, f(X, Y)`, asked for both
in_order : IsGood (x ∷ y ∷ []) [] (Sequence (ordereds (built x (x ∷ []) 10 ∷ call_f (y ∷ []) ∷ []))) (x ∷ y ∷ [])
in_order = (
  λ v h. occurs (v == x) (v == y) h,
  (refl, refl, (refl, refl, tt)),
  (
    (
      (λ v h. h, (refl, refl, tt), (tt, refl, λ v h o. refl)),
      ((λ v h. or_right (v == x) (v == y) h, (refl, refl, tt), ((tt), (refl, tt), ((refl, refl, tt), tt, λ v h o. refl))), tt),
    ),
    λ v h o. together (v == x) (v == y),
  ),
) where
  occurs : (a b : Bool) → (a || (b || false)) ≡ true → ((a || false) || ((a || (b || false)) || false)) ≡ true
  occurs true b h = refl
  occurs false true h = refl
  occurs false false h = h

  or_right : (a b : Bool) → (b || false) ≡ true → (a || (b || false)) ≡ true
  or_right true b h = refl
  or_right false b h = h

  together : (a b : Bool) → ((a || false) || (b || false)) ≡ (a || (b || false))
  together true b = refl
  together false b = refl

-- `append(X, Y, Z)` with all three bound: the last is a test
with_test : IsGood (x ∷ y ∷ z ∷ []) (x ∷ y ∷ z ∷ []) (Called append 0 (x ∷ y ∷ z ∷ []) (false ∷ false ∷ true ∷ [])) []
with_test = (λ v h. cc, tt, (tt, (refl, (refl, tt)), (tt, (refl, tt), λ v h o. refl)))

-- `( X = 1 ; fail )`: an arm whose end cannot be reached owes nothing
unreachable_arm : IsGood (x ∷ []) [] (Choice (ordereds (built x (x ∷ []) 10 ∷ fails ∷ []))) (x ∷ [])
unreachable_arm = (
  λ v h. first (v == x) h,
  (refl, refl, tt),
  (
    ((λ v h. h, (refl, refl, tt), (tt, refl, λ v h o. refl)), ((λ v h. cc, tt, tt), tt)),
    (inr (λ v h o. refl), (inl refl, tt)),
  ),
) where
  first : (a : Bool) → (a || false) ≡ true → ((a || false) || false) ≡ true
  first true h = refl
  first false h = h

-- `( Y = 1 ; Y = 1 )` where Y is in no other place: each disjunct has a Y of its own
own_in_each : IsGood [] [] (Choice (ordereds (built y [] 10 ∷ built y [] 20 ∷ []))) []
own_in_each = (
  λ v h. cc,
  tt,
  (
    ((λ v h. cc, tt, (tt, refl, λ v h o. cc)), ((λ v h. cc, tt, (tt, refl, λ v h o. cc)), tt)),
    (inr (λ v h o. refl), (inr (λ v h o. refl), tt)),
  ),
)

-- `( X = 1 -> p(X) ; true )` where X is in no other place
condition : IsGood [] [] (Decision (built x (x ∷ []) 10) (put (Called p 0 (x ∷ []) (false ∷ [])) [] (at 20)) (put Truth [] (at 30))) []
condition = (
  λ v h. cc,
  tt,
  (
    (λ v h. h, (refl, refl, tt), (tt, refl, λ v h o. refl)),
    λ v h. cc,
    (λ v h. cc, tt, (tt, (refl, tt), (tt, tt, λ v h o. right_false (v == x)))),
    inr (λ v h o. cc),
    (λ v h. cc, tt, tt),
    inr (λ v h o. cc),
  ),
) where
  right_false : (a : Bool) → ((false || (a || false)) || false) ≡ ((false || (a || false)) || false)
  right_false a = refl

-- Outputs that do not occur in the goal, are bound already, or stand twice

no_such_output : IsGood [] [] Truth (x ∷ []) → ⊥
no_such_output h = cc (h.0 x refl)

bound_output : IsGood [] (x ∷ y ∷ []) (Test x y) (x ∷ []) → ⊥
bound_output h = cc h.1.0

double_output : IsGood [] [] (Build x one []) (x ∷ x ∷ []) → ⊥
double_output h = cc h.1.1

-- Goals that hold no others: an input that is not bound, a variable that is written and bound, an output that is left out

assign_from_free : IsGood [] [] (Assign x y) [] → ⊥
assign_from_free h = cc h.2.0

assign_to_bound : IsGood [] (x ∷ y ∷ []) (Assign x y) [] → ⊥
assign_to_bound h = cc h.2.1

assign_no_output : IsGood (x ∷ []) (y ∷ []) (Assign x y) [] → ⊥
assign_no_output h = cc (h.2.2 x refl refl)

test_left : IsGood [] (y ∷ []) (Test x y) [] → ⊥
test_left h = cc h.2.0

test_right : IsGood [] (x ∷ []) (Test x y) [] → ⊥
test_right h = cc h.2.1

build_of_free : IsGood [] (y ∷ []) (Build x pair (y ∷ z ∷ [])) [] → ⊥
build_of_free h = cc h.2.0.1.0

build_bound : IsGood [] (x ∷ []) (Build x one []) [] → ⊥
build_bound h = cc h.2.1

build_no_output : IsGood (x ∷ []) [] (Build x one []) [] → ⊥
build_no_output h = cc (h.2.2 x refl refl)

split_free : IsGood [] [] (Split x pair (y ∷ z ∷ []) (false ∷ false ∷ [])) [] → ⊥
split_free h = cc h.2.0

split_into_bound : IsGood [] (x ∷ y ∷ []) (Split x pair (y ∷ z ∷ []) (false ∷ false ∷ [])) [] → ⊥
split_into_bound h = cc h.2.1.0.0

split_into_bound_later : IsGood [] (x ∷ z ∷ []) (Split x pair (y ∷ z ∷ []) (false ∷ false ∷ [])) [] → ⊥
split_into_bound_later h = cc h.2.1.0.2.0

split_twice : IsGood [] (x ∷ []) (Split x pair (y ∷ y ∷ []) (false ∷ false ∷ [])) [] → ⊥
split_twice h = cc h.2.1.0.1

split_test_of_free : IsGood [] (x ∷ []) (Split x pair (y ∷ z ∷ []) (false ∷ true ∷ [])) [] → ⊥
split_test_of_free h = cc h.2.1.1.0

split_no_output : IsGood (y ∷ []) (x ∷ []) (Split x pair (y ∷ z ∷ []) (false ∷ false ∷ [])) (z ∷ []) → ⊥
split_no_output h = cc (h.2.1.2 y refl refl)

sum_of_free : IsGood [] (y ∷ []) (Computed Add x y z (false ∷ [])) [] → ⊥
sum_of_free h = cc h.2.1

sum_of_free_left : IsGood [] (z ∷ []) (Computed Add x y z (false ∷ [])) [] → ⊥
sum_of_free_left h = cc h.2.0

sum_into_bound : IsGood [] (x ∷ y ∷ z ∷ []) (Computed Add x y z (false ∷ [])) [] → ⊥
sum_into_bound h = cc h.2.2.0.0

compare_left : IsGood [] (y ∷ []) (Compared Less x y) [] → ⊥
compare_left h = cc h.2.0

compare_right : IsGood [] (x ∷ []) (Compared Less x y) [] → ⊥
compare_right h = cc h.2.1

raise_free : IsGood [] [] (Raised x) [] → ⊥
raise_free h = cc h.2

-- Calls: no such mode, an input that is not bound, a test at an input, a test too few, an output that is bound

no_such_mode : IsGood [] (x ∷ y ∷ []) (Called f 1 (x ∷ y ∷ []) (false ∷ true ∷ [])) [] → ⊥
no_such_mode h = h.2

call_of_free : IsGood [] [] (Called f 0 (x ∷ y ∷ []) (false ∷ false ∷ [])) [] → ⊥
call_of_free h = cc h.2.1.0

test_at_input : IsGood [] (x ∷ []) (Called f 0 (x ∷ y ∷ []) (true ∷ false ∷ [])) [] → ⊥
test_at_input h = h.2.0

test_too_few : IsGood [] (x ∷ []) (Called f 0 (x ∷ y ∷ []) (false ∷ [])) [] → ⊥
test_too_few h = h.2.0

argument_too_many : IsGood [] (x ∷ y ∷ []) (Called p 0 (x ∷ y ∷ []) (false ∷ [])) [] → ⊥
argument_too_many h = h.2.0

call_into_bound : IsGood [] (x ∷ y ∷ []) (Called f 0 (x ∷ y ∷ []) (false ∷ false ∷ [])) [] → ⊥
call_into_bound h = cc h.2.2.0.0

call_test_of_free : IsGood [] (x ∷ []) (Called f 0 (x ∷ y ∷ []) (false ∷ true ∷ [])) [] → ⊥
call_test_of_free h = cc h.2.2.1.0

call_no_output : IsGood (y ∷ []) (x ∷ []) (Called f 0 (x ∷ y ∷ []) (false ∷ false ∷ [])) [] → ⊥
call_no_output h = cc (h.2.2.2 y refl refl)

-- Goals that go one after the other: `f(X, Y), X = 1` as it is written; an inner output, and one of the whole, that is left out

wrong_order : IsGood [] [] (Sequence (ordereds (call_f (y ∷ []) ∷ built x (x ∷ []) 10 ∷ []))) [] → ⊥
wrong_order h = cc h.2.0.0.2.1.0

wrong_order_beside : IsGood [] [] (Beside (ordereds (call_f (y ∷ []) ∷ built x (x ∷ []) 10 ∷ []))) [] → ⊥
wrong_order_beside h = cc h.2.0.0.2.1.0

inner_output_missing : IsGood [] [] (Sequence (ordereds (built x [] 10 ∷ call_f [] ∷ []))) [] → ⊥
inner_output_missing h = cc (h.2.0.0.2.2 x refl refl)

sequence_no_output : IsGood (x ∷ []) [] (Sequence (ordereds (built x (x ∷ []) 10 ∷ []))) [] → ⊥
sequence_no_output h = cc (h.2.1 x refl refl)

beside_no_output : IsGood (x ∷ []) [] (Beside (ordereds (built x (x ∷ []) 10 ∷ []))) [] → ⊥
beside_no_output h = cc (h.2.1 x refl refl)

-- Arms that bind different variables: `( X = 1 ; true )`, and an arm that is not good

arms_differ : IsGood (x ∷ []) [] (Choice (ordereds (built x (x ∷ []) 10 ∷ put Truth [] (at 20) ∷ []))) (x ∷ []) → ⊥
arms_differ h = cc (owed h.2.1.1.0 x refl refl)

arm_not_good : IsGood [] [] (Choice (ordereds (put (Raised x) [] (at 10) ∷ []))) [] → ⊥
arm_not_good h = cc h.2.0.0.2

-- Goals with parts: a part that is not good; a condition, or a negated goal, that binds what occurs outside it; an output that is left out

abbrev no_goal : Ordered
no_goal = put (Raised x) [] (at 10)

abbrev true_goal : Ordered
true_goal = put Truth [] (at 20)

-- `X = 1, fail`, as an arm: X occurs, and need not be bound
abbrev owes_nothing : Ordered
owes_nothing = put (Choice (ordereds (put (Sequence (ordereds (built x (x ∷ []) 10 ∷ fails ∷ []))) (x ∷ []) (at 10) ∷ []))) [] (at 10)

condition_not_good : IsGood [] [] (Decision no_goal true_goal true_goal) [] → ⊥
condition_not_good h = cc h.2.0.2

condition_binds_outer : IsGood (x ∷ []) [] (Decision (built x (x ∷ []) 10) true_goal (built x (x ∷ []) 30)) (x ∷ []) → ⊥
condition_binds_outer h = cc (h.2.1 x refl)

condition_binds_in_else : IsGood [] [] (Decision (built x (x ∷ []) 10) true_goal (built x (x ∷ []) 30)) [] → ⊥
condition_binds_in_else h = cc (h.2.1 x refl)

then_part_not_good : IsGood [] [] (Decision true_goal no_goal true_goal) [] → ⊥
then_part_not_good h = cc h.2.2.2

else_part_not_good : IsGood [] [] (Decision true_goal true_goal no_goal) [] → ⊥
else_part_not_good h = cc h.2.4.2

then_part_binds : IsGood (x ∷ []) [] (Decision true_goal (built x (x ∷ []) 10) true_goal) [] → ⊥
then_part_binds h = cc (owed h.2.3 x refl refl)

else_part_binds : IsGood (x ∷ []) [] (Decision true_goal true_goal (built x (x ∷ []) 10)) [] → ⊥
else_part_binds h = cc (owed h.2.5 x refl refl)

negated_not_good : IsGood [] [] (Denial no_goal) [] → ⊥
negated_not_good h = cc h.2.0.2

negation_binds_outer : IsGood (x ∷ []) [] (Denial (built x (x ∷ []) 10)) [] → ⊥
negation_binds_outer h = cc (h.2.1 x refl)

output_of_negation : IsGood (x ∷ []) [] (Denial owes_nothing) (x ∷ []) → ⊥
output_of_negation h = cc (h.2.2 x refl refl)

quantified_not_good : IsGood [] [] (Within (x ∷ []) no_goal) [] → ⊥
quantified_not_good h = cc h.2.0.2

quantified_no_output : IsGood (x ∷ []) [] (Within [] (built x (x ∷ []) 10)) [] → ⊥
quantified_no_output h = cc (h.2.1 x refl refl)

-- X occurs in the goal before
later_output_missing : IsGood [] [] (Sequence (ordereds (owes_nothing ∷ built x [] 20 ∷ []))) [] → ⊥
later_output_missing h = cc (h.2.0.1.0.2.2 x refl refl)

later_arm_not_good : IsGood [] [] (Choice (ordereds (true_goal ∷ no_goal ∷ []))) [] → ⊥
later_arm_not_good h = cc h.2.0.1.0.2
