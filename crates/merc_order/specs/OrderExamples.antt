-- Worked examples of orders, over `f(in, out)`, `p(in)`, `append` with the modes `(in, in, out)` and `(out, out, in)`, `stop(in)`, which is erroneous, and
-- `either(out)`, whose other mode `either(in)` is a failure. Numbers of bytes tell the goals apart.
use Rattle.std.specs.Prelude.{◌≡◌, ℕ, ◌+◌, Bool, true, false, ◌==◌, ◌||◌, List, [], ◌∷◌, pos, refl, if◌then◌else◌}
use Rattle.std.proofs.Common.{sym, subst}
use Rattle.merc_base.specs.declared.category.Category.{Category}
use Rattle.merc_base.specs.declared.category.Category.TheVariants.{Det, Semidet, Multi, Erroneous, Failure as FailureCategory}
use Rattle.merc_base.specs.declared.place.Span.{Span}
use Rattle.merc_base.specs.declared.refusal.Refusal.{Refusal}
use Rattle.merc_base.specs.declared.refusal.Rule.TheVariants.{NeverReady}
use Rattle.merc_base.specs.declared.refusal.Detail.TheVariants.{Pair}
use Rattle.merc_tree.specs.declared.declarations.Arg.{Arg}
use Rattle.merc_tree.specs.declared.declarations.Arg.TheVariants.{Input, Output}
use Rattle.merc_tree.specs.declared.declarations.ModeDecl.{ModeDecl}
use Rattle.merc_goal_tree.specs.declared.goal.Comparison.TheVariants.{Less}
use Rattle.merc_goal_tree.specs.declared.goal.Operation.TheVariants.{Add}
use Rattle.merc_goal_tree.specs.declared.goal.SimpleGoal.TheVariants.{True, Fail, Same, Shape, Arithmetic, Compare, Raise, Call}
use Rattle.merc_goal_tree.specs.declared.goal.Symbol.{Symbol}
use Rattle.merc_goal_tree.specs.declared.goal.Symbol.TheVariants.{Constructor, Integer}
use Rattle.merc_goal_tree.specs.Nodes.{Node, Nodes, Simple, Conjunction, Parallel, Disjunction, Conditional, Negation, Quantified, nodes_of}
use Rattle.merc_goal_tree.specs.Variables.{variables, count}
use Rattle.merc_order.specs.Bound.{Bound, nothing, with, among}
use Rattle.merc_order.specs.CallModes.{can_succeed}
use Rattle.merc_order.specs.Faults.{never_ready, binds_outer, unbound_output}
use Rattle.merc_order.specs.Marks.{Marked, no_marks, more_marks, IsSound}
use Rattle.merc_order.specs.Moves.{Move}
use Rattle.merc_order.specs.Ordered.{Ordered, Ordereds, no_goals, more_goals, put, Truth, Failure, Assign, Test, Build, Split, Computed, Compared, Raised, Called, Sequence, Beside, Choice, Decision, Denial, Within, Outcome, Ready, Stuck, is_ready}
use Rattle.merc_order.specs.Order.{from, reached, binds}
use Rattle.merc_order.specs.Ways.{Removed, here, later, CanAll, none as all_gone, take, IsSequence, none_left, goes, Went, start, went, NoneReady}

abbrev pub at : ℕ → Span
at byte = record { first = byte; past = byte + 1; line = 1 }

abbrev pub mode : List Arg → Category → ModeDecl
mode args category = record { args = args; category = category; span = at 0 }

abbrev pub f : ℕ
f = 0

abbrev pub p : ℕ
p = 1

abbrev pub append : ℕ
append = 2

abbrev pub stop : ℕ
stop = 3

abbrev pub either : ℕ
either = 4

abbrev pub modes : ℕ → List ModeDecl
modes predicate =
    if predicate == f then mode (Input ∷ Output ∷ []) Det ∷ []
    else if predicate == p then mode (Input ∷ []) Semidet ∷ []
    else if predicate == append then mode (Input ∷ Input ∷ Output ∷ []) Det ∷ mode (Output ∷ Output ∷ Input ∷ []) Multi ∷ []
    else if predicate == stop then mode (Input ∷ []) Erroneous ∷ []
    else mode (Output ∷ []) Det ∷ mode (Input ∷ []) FailureCategory ∷ []

-- a goal that is asked for these variables
abbrev pub query : List ℕ → Node → Outcome
query answers goal = from (λ variable. count variable (variables goal) + count variable answers) modes goal nothing

-- the same where these variables are bound before
abbrev behind : Bound → List ℕ → Node → Outcome
behind bound answers goal = from (λ variable. count variable (variables goal) + count variable answers) modes goal bound

-- the first variables, by their usual names

abbrev pub x : ℕ
x = 0

abbrev pub y : ℕ
y = 1

abbrev pub z : ℕ
z = 2

abbrev pub one : Symbol
one = Integer (pos 1)

-- a unification with 1
abbrev pub is_one : ℕ → ℕ → Node
is_one variable byte = Simple (Shape variable one []) (at byte)

abbrev pub call : ℕ → List ℕ → ℕ → Node
call predicate arguments byte = Simple (Call predicate arguments) (at byte)

abbrev pub both : Node → Node → Nodes
both first second = nodes_of (first ∷ second ∷ [])

abbrev pub ordereds : List Ordered → Ordereds
ordereds [] = no_goals
ordereds (first ∷ rest) = more_goals first (ordereds rest)

abbrev pub built : ℕ → List ℕ → ℕ → Ordered
built variable outputs byte = put (Build variable one []) outputs (at byte)

-- `f(X, Y), X = 1`: the second goes first
delayed : query (x ∷ y ∷ []) (Conjunction (both (call f (x ∷ y ∷ []) 10) (is_one x 20)) (at 10))
    ≡ Ready (put (Sequence (ordereds (built x (x ∷ []) 20 ∷ put (Called f 0 (x ∷ y ∷ []) (false ∷ false ∷ [])) (y ∷ []) (at 10) ∷ []))) (x ∷ y ∷ []) (at 10))
delayed = refl

-- not the one that is ready and stands last
rightmost_first : query (x ∷ y ∷ []) (Conjunction (both (is_one x 10) (is_one y 20)) (at 10))
    ≡ Ready (put (Sequence (ordereds (built y (y ∷ []) 20 ∷ built x (x ∷ []) 10 ∷ []))) (x ∷ y ∷ []) (at 10)) → ⊥
rightmost_first wrong = cc

-- `f(X, Y), f(X, Z), X = 1, U = 1`: those that wait go as soon as they are ready, in their order
waiting_in_order : query (x ∷ y ∷ z ∷ 3 ∷ []) (Conjunction (nodes_of (call f (x ∷ y ∷ []) 10 ∷ call f (x ∷ z ∷ []) 20 ∷ is_one x 30 ∷ is_one 3 40 ∷ [])) (at 10))
    ≡ Ready (put (Sequence (ordereds (
    built x (x ∷ []) 30
    ∷ put (Called f 0 (x ∷ y ∷ []) (false ∷ false ∷ [])) (y ∷ []) (at 10)
    ∷ put (Called f 0 (x ∷ z ∷ []) (false ∷ false ∷ [])) (z ∷ []) (at 20)
    ∷ built 3 (3 ∷ []) 40 ∷ []))) (x ∷ y ∷ z ∷ 3 ∷ []) (at 10))
waiting_in_order = refl

-- `p(X), Z = 1, p(Y)`: the first that is left tells why
first_left : query (x ∷ y ∷ z ∷ []) (Conjunction (nodes_of (call p (x ∷ []) 10 ∷ is_one z 20 ∷ call p (y ∷ []) 30 ∷ [])) (at 10)) ≡ Stuck (never_ready (at 10))
first_left = refl

-- `not p(X), X = 1`: the negation is delayed
negation_delayed : query (x ∷ []) (Conjunction (both (Negation (call p (x ∷ []) 14) (at 10)) (is_one x 20)) (at 10))
    ≡ Ready (put (Sequence (ordereds (built x (x ∷ []) 20 ∷ put (Denial (put (Called p 0 (x ∷ []) (false ∷ [])) [] (at 14))) [] (at 10) ∷ []))) (x ∷ []) (at 10))
negation_delayed = refl

-- a variable that only this goal has is none of its outputs
own_variable : query [] (call f (x ∷ y ∷ []) 10) ≡ Stuck (never_ready (at 10))
own_variable = refl

no_output : query [] (is_one x 10) ≡ Ready (built x [] 10)
no_output = refl

-- Unifications of two variables

test : query [] (Conjunction (nodes_of (is_one x 10 ∷ is_one y 20 ∷ Simple (Same x y) (at 30) ∷ [])) (at 10))
    ≡ Ready (put (Sequence (ordereds (built x (x ∷ []) 10 ∷ built y (y ∷ []) 20 ∷ put (Test x y) [] (at 30) ∷ []))) [] (at 10))
test = refl

assignment : query (y ∷ []) (Conjunction (both (is_one x 10) (Simple (Same x y) (at 20))) (at 10))
    ≡ Ready (put (Sequence (ordereds (built x (x ∷ []) 10 ∷ put (Assign y x) (y ∷ []) (at 20) ∷ []))) (y ∷ []) (at 10))
assignment = refl

assignment_left : query (x ∷ []) (Conjunction (both (is_one y 10) (Simple (Same x y) (at 20))) (at 10))
    ≡ Ready (put (Sequence (ordereds (built y (y ∷ []) 10 ∷ put (Assign x y) (x ∷ []) (at 20) ∷ []))) (x ∷ []) (at 10))
assignment_left = refl

-- `X = X`, with X free and with X bound
free_with_itself : query (x ∷ []) (Simple (Same x x) (at 10)) ≡ Stuck (never_ready (at 10))
free_with_itself = refl

bound_with_itself : query (x ∷ []) (Conjunction (both (Simple (Same x x) (at 10)) (is_one x 20)) (at 10))
    ≡ Ready (put (Sequence (ordereds (built x (x ∷ []) 20 ∷ put (Test x x) [] (at 10) ∷ []))) (x ∷ []) (at 10))
bound_with_itself = refl

-- Splits, constructions and tests

abbrev pub pair : Symbol
pair = Constructor 200 2

-- `X = pair(Y, Z)` behind `f(.., X)`: of a split's places those that are bound become tests, a second place of one variable too
split : from (λ variable. 9) modes (Simple (Shape x pair (y ∷ z ∷ y ∷ [])) (at 10)) (λ variable. (variable == x))
    ≡ Ready (put (Split x pair (y ∷ z ∷ y ∷ []) (false ∷ false ∷ true ∷ [])) (y ∷ z ∷ []) (at 10))
split = refl

split_bound : from (λ variable. 9) modes (Simple (Shape x pair (y ∷ z ∷ [])) (at 10)) (λ variable. (variable == x) || (variable == z))
    ≡ Ready (put (Split x pair (y ∷ z ∷ []) (false ∷ true ∷ [])) (y ∷ []) (at 10))
split_bound = refl

construction : from (λ variable. 9) modes (Simple (Shape x pair (y ∷ z ∷ [])) (at 10)) (λ variable. (variable == y) || (variable == z))
    ≡ Ready (put (Build x pair (y ∷ z ∷ [])) (x ∷ []) (at 10))
construction = refl

-- all arguments have to be bound
part_built : from (λ variable. 9) modes (Simple (Shape x pair (y ∷ z ∷ [])) (at 10)) (λ variable. (variable == y)) ≡ Stuck (never_ready (at 10))
part_built = refl

-- `X = Y + Z` with X free, with X bound, and with Z free
arithmetic : from (λ variable. 9) modes (Simple (Arithmetic Add x y z) (at 10)) (λ variable. (variable == y) || (variable == z))
    ≡ Ready (put (Computed Add x y z (false ∷ [])) (x ∷ []) (at 10))
arithmetic = refl

arithmetic_test : from (λ variable. 9) modes (Simple (Arithmetic Add x y z) (at 10)) (λ variable. true)
    ≡ Ready (put (Computed Add x y z (true ∷ [])) [] (at 10))
arithmetic_test = refl

arithmetic_free : from (λ variable. 9) modes (Simple (Arithmetic Add x y z) (at 10)) (λ variable. (variable == x) || (variable == y)) ≡ Stuck (never_ready (at 10))
arithmetic_free = refl

comparison_free : from (λ variable. 9) modes (Simple (Compare Less x y) (at 10)) (λ variable. (variable == x)) ≡ Stuck (never_ready (at 10))
comparison_free = refl

comparison : from (λ variable. 9) modes (Simple (Compare Less x y) (at 10)) (λ variable. true) ≡ Ready (put (Compared Less x y) [] (at 10))
comparison = refl

raised : from (λ variable. 9) modes (Simple (Raise x) (at 10)) (λ variable. (variable == x)) ≡ Ready (put (Raised x) [] (at 10))
raised = refl

raised_free : from (λ variable. 9) modes (Simple (Raise x) (at 10)) (λ variable. (variable == y)) ≡ Stuck (never_ready (at 10))
raised_free = refl

-- Calls

-- with all three bound: the mode with the most inputs, and a test of its output
implied_mode : from (λ variable. 9) modes (call append (x ∷ y ∷ z ∷ []) 10) (λ variable. true)
    ≡ Ready (put (Called append 0 (x ∷ y ∷ z ∷ []) (false ∷ false ∷ true ∷ [])) [] (at 10))
implied_mode = refl

-- with the last bound: the second mode; a variable at both outputs is a test at the second
second_mode : from (λ variable. 9) modes (call append (x ∷ x ∷ z ∷ []) 10) (λ variable. (variable == z))
    ≡ Ready (put (Called append 1 (x ∷ x ∷ z ∷ []) (false ∷ true ∷ false ∷ [])) (x ∷ []) (at 10))
second_mode = refl

no_mode : from (λ variable. 9) modes (call append (x ∷ y ∷ z ∷ []) 10) (λ variable. (variable == x)) ≡ Stuck (never_ready (at 10))
no_mode = refl

-- A call takes its mode when it goes: `X = 1, Y = 1, append(X, Y, Z)` with Z bound, where `append` is ready from the first.
mode_when_it_goes : from (λ variable. 9) modes (Conjunction (nodes_of (is_one x 10 ∷ is_one y 20 ∷ call append (x ∷ y ∷ z ∷ []) 30 ∷ [])) (at 10)) (λ variable. (variable == z))
    ≡ Ready (put (Sequence (ordereds (built x (x ∷ []) 10 ∷ built y (y ∷ []) 20 ∷ put (Called append 0 (x ∷ y ∷ z ∷ []) (false ∷ false ∷ true ∷ [])) [] (at 30) ∷ []))) (x ∷ y ∷ []) (at 10))
mode_when_it_goes = refl

-- of two modes with as many inputs the first
first_mode : from (λ variable. 9) modes (call either (x ∷ []) 10) nothing ≡ Ready (put (Called either 0 (x ∷ []) (false ∷ [])) (x ∷ []) (at 10))
first_mode = refl

-- the mode with the most inputs, though another is ready and declared before it
widest_mode : from (λ variable. 9) modes (call either (x ∷ []) 10) (λ variable. true) ≡ Ready (put (Called either 1 (x ∷ []) (false ∷ [])) [] (at 10))
widest_mode = refl

abbrev twice_in : ℕ → List ModeDecl
twice_in predicate = mode (Input ∷ Output ∷ []) Det ∷ mode (Output ∷ Input ∷ []) Det ∷ []

first_of_equal_modes : from (λ variable. 9) twice_in (call f (x ∷ y ∷ []) 10) (λ variable. true) ≡ Ready (put (Called f 0 (x ∷ y ∷ []) (false ∷ true ∷ [])) [] (at 10))
first_of_equal_modes = refl

-- Negations and conditions bind nothing outside

-- `not X = 1`
binds_outer_variable : query (x ∷ []) (Negation (is_one x 14) (at 10)) ≡ Stuck (binds_outer (at 10))
binds_outer_variable = refl

binds_own_variable : query [] (Negation (is_one x 14) (at 10)) ≡ Ready (put (Denial (built x [] 14)) [] (at 10))
binds_own_variable = refl

-- `( X = 1 -> p(X) ; true )` with X in no other place
condition_binds : query [] (Conditional (is_one x 12) (call p (x ∷ []) 20) (Simple True (at 30)) (at 10))
    ≡ Ready (put (Decision (built x (x ∷ []) 12) (put (Called p 0 (x ∷ []) (false ∷ [])) [] (at 20)) (put Truth [] (at 30))) [] (at 10))
condition_binds = refl

-- `( X = 1 -> true ; true )` where X is asked for; the place is the condition's, and what cannot be ordered in the then part is not looked at
condition_binds_outer : query (x ∷ []) (Conditional (is_one x 12) (call p (y ∷ []) 20) (Simple True (at 30)) (at 10)) ≡ Stuck (binds_outer (at 12))
condition_binds_outer = refl

-- a quantified variable in the else part occurs outside the condition
condition_shares : query [] (Conditional (is_one x 12) (Simple True (at 20)) (Conjunction (both (is_one x 30) (call p (x ∷ []) 35)) (at 30)) (at 10)) ≡ Stuck (binds_outer (at 12))
condition_shares = refl

-- Arms

-- `( X = 1 ; p(X) )`: what an arm binds is not bound in the next
arms_apart : query (x ∷ []) (Disjunction (both (is_one x 10) (call p (x ∷ []) 20)) (at 10)) ≡ Stuck (never_ready (at 20))
arms_apart = refl

-- `( Y = 1, f(Y, X), p(Z) ; X = 1 )` with Z bound before, and Y in no other place: the arms differ on neither
own_in_arm : behind (λ variable. (variable == z)) (x ∷ z ∷ [])
    (Disjunction (both (Conjunction (nodes_of (is_one y 10 ∷ call f (y ∷ x ∷ []) 12 ∷ call p (z ∷ []) 14 ∷ [])) (at 10)) (is_one x 20)) (at 10))
    ≡ Ready (put (Choice (ordereds (
    put (Sequence (ordereds (
    built y (y ∷ []) 10
    ∷ put (Called f 0 (y ∷ x ∷ []) (false ∷ false ∷ [])) (x ∷ []) (at 12)
    ∷ put (Called p 0 (z ∷ []) (false ∷ [])) [] (at 14) ∷ []))) (x ∷ []) (at 10)
    ∷ built x (x ∷ []) 20 ∷ []))) (x ∷ []) (at 10))
own_in_arm = refl

-- `( p(X) -> Y = 1 ; Y = 1 )`, `( p(X) -> Y = 1 ; true )` and `( p(X) -> Y = 1 ; fail )` with X bound

abbrev decided : Node → Outcome
decided else_part = behind (λ variable. (variable == x)) (x ∷ y ∷ []) (Conditional (call p (x ∷ []) 12) (is_one y 20) else_part (at 10))

abbrev decides : Ordered → Outcome
decides else_part = Ready (put (Decision (put (Called p 0 (x ∷ []) (false ∷ [])) [] (at 12)) (built y (y ∷ []) 20) else_part) (y ∷ []) (at 10))

conditional_binds : decided (is_one y 30) ≡ decides (built y (y ∷ []) 30)
conditional_binds = refl

conditional_differs : decided (Simple True (at 30)) ≡ Stuck (unbound_output (at 10))
conditional_differs = refl

conditional_fails : decided (Simple Fail (at 30)) ≡ decides (put Failure [] (at 30))
conditional_fails = refl

-- `( p(X) -> fail ; Y = 1 )`: the end of the then part cannot be reached, so the else part alone says what is bound
then_not_reached : behind (λ variable. (variable == x)) (x ∷ y ∷ []) (Conditional (call p (x ∷ []) 12) (Simple Fail (at 20)) (is_one y 30) (at 10))
    ≡ Ready (put (Decision (put (Called p 0 (x ∷ []) (false ∷ [])) [] (at 12)) (put Failure [] (at 20)) (built y (y ∷ []) 30)) (y ∷ []) (at 10))
then_not_reached = refl

-- `( p(X) -> true ; Y = 1 )`: here it can
then_reached : behind (λ variable. (variable == x)) (x ∷ y ∷ []) (Conditional (call p (x ∷ []) 12) (Simple True (at 20)) (is_one y 30) (at 10)) ≡ Stuck (unbound_output (at 10))
then_reached = refl

-- `( true -> p(Y) ; p(Z) )`
then_before_else : query (y ∷ z ∷ []) (Conditional (Simple True (at 12)) (call p (y ∷ []) 20) (call p (z ∷ []) 30) (at 10)) ≡ Stuck (never_ready (at 20))
then_before_else = refl

-- `X = 1 ; Y = 1`
arms_differ : query (x ∷ y ∷ []) (Disjunction (both (is_one x 10) (is_one y 20)) (at 10)) ≡ Stuck (unbound_output (at 10))
arms_differ = refl

-- `( X = 1 ; Y = 1, fail )`: the second arm owes nothing
arm_owes_nothing : query (x ∷ []) (Disjunction (both (is_one x 10) (Conjunction (both (is_one y 20) (Simple Fail (at 30))) (at 20))) (at 10))
    ≡ Ready (put (Choice (ordereds (built x (x ∷ []) 10 ∷ put (Sequence (ordereds (built y [] 20 ∷ put Failure [] (at 30) ∷ []))) [] (at 20) ∷ []))) (x ∷ []) (at 10))
arm_owes_nothing = refl

-- `( X = 1 ; Y = 1, error(Y) )`
arm_raises : reached (λ variable. 9) modes (Conjunction (both (is_one y 20) (Simple (Raise y) (at 30))) (at 20)) ≡ false
arm_raises = refl

-- The end of a call is out of reach where all its modes are declared `failure` or `erroneous`, not where one is.
call_stops : reached (λ variable. 9) modes (call stop (x ∷ []) 10) ≡ false
call_stops = refl

call_may_answer : reached (λ variable. 9) modes (call either (x ∷ []) 10) ≡ true
call_may_answer = refl

call_fails : can_succeed (mode [] FailureCategory ∷ mode [] Erroneous ∷ []) ≡ false
call_fails = refl

call_answers_often : can_succeed (mode [] FailureCategory ∷ mode [] Multi ∷ []) ≡ true
call_answers_often = refl

-- whether the ends of goals that join others can be reached

abbrev is_reached : Node → Bool
is_reached goal = reached (λ variable. 9) modes goal

abbrev holds : Node
holds = Simple True (at 30)

abbrev fails : Node
fails = Simple Fail (at 40)

some_arm : is_reached (Disjunction (both fails holds) (at 10)) ≡ true
some_arm = refl

no_arm : is_reached (Disjunction (both fails fails) (at 10)) ≡ false
no_arm = refl

each_conjunct : is_reached (Parallel (both holds fails) (at 10)) ≡ false
each_conjunct = refl

-- from a condition to its then part
condition_fails : is_reached (Conditional fails holds fails (at 10)) ≡ false
condition_fails = refl

then_fails : is_reached (Conditional holds fails holds (at 10)) ≡ true
then_fails = refl

else_fails : is_reached (Conditional holds holds fails (at 10)) ≡ true
else_fails = refl

both_fail : is_reached (Conditional holds fails fails (at 10)) ≡ false
both_fail = refl

-- the end of a negation always is
negation_reached : is_reached (Negation fails (at 10)) ≡ true
negation_reached = refl

negation_of_truth : is_reached (Negation holds (at 10)) ≡ true
negation_of_truth = refl

quantified_fails : is_reached (Quantified (x ∷ []) fails (at 10)) ≡ false
quantified_fails = refl

-- a goal behind `fail` must be ready too
behind_fail : query [] (Conjunction (both (Simple Fail (at 10)) (call p (x ∷ []) 20)) (at 10)) ≡ Stuck (never_ready (at 20))
behind_fail = refl

-- where no arm's end can be reached, what all bind is bound
none_reached : binds (λ variable. 9) modes (Disjunction (both (Conjunction (both (is_one x 10) (Simple Fail (at 12))) (at 10)) (Conjunction (nodes_of (is_one x 20 ∷ is_one y 22 ∷ Simple Fail (at 24) ∷ [])) (at 20))) (at 10)) x ≡ true
none_reached = refl

none_reached_other : binds (λ variable. 9) modes (Disjunction (both (Conjunction (both (is_one x 10) (Simple Fail (at 12))) (at 10)) (Conjunction (nodes_of (is_one x 20 ∷ is_one y 22 ∷ Simple Fail (at 24) ∷ [])) (at 20))) (at 10)) y ≡ false
none_reached_other = refl

-- A negation binds nothing, and other goals that join some bind none of their own variables. What a condition binds counts for the arm of its then part.

negation_binds_none : binds (λ variable. 9) modes (Negation (is_one x 14) (at 10)) x ≡ false
negation_binds_none = refl

quantified_own : binds (λ variable. 1) modes (Quantified (x ∷ []) (is_one x 15) (at 10)) x ≡ false
quantified_own = refl

own_in_arms : binds (λ variable. 2) modes (Disjunction (both (is_one x 10) (is_one x 20)) (at 10)) x ≡ false
own_in_arms = refl

arms_bind_both : binds (λ variable. 3) modes (Disjunction (both (is_one x 10) (is_one x 20)) (at 10)) x ≡ true
arms_bind_both = refl

bound_by_condition : binds (λ variable. 9) modes (Conditional (is_one x 12) holds fails (at 10)) x ≡ true
bound_by_condition = refl

-- `( X = 1, fail ; fail )`: such arms do not differ, and X is not bound behind them
none_reached_differ : query (x ∷ []) (Disjunction (both (Conjunction (both (is_one x 10) (Simple Fail (at 12))) (at 10)) (Simple Fail (at 20))) (at 10))
    ≡ Ready (put (Choice (ordereds (
    put (Sequence (ordereds (built x (x ∷ []) 10 ∷ put Failure [] (at 12) ∷ []))) (x ∷ []) (at 10)
    ∷ put Failure [] (at 20) ∷ []))) [] (at 10))
none_reached_differ = refl

-- the first arm that cannot be ordered tells why
first_arm : query (x ∷ []) (Disjunction (both (call p (y ∷ []) 10) (call p (z ∷ []) 20)) (at 10)) ≡ Stuck (never_ready (at 10))
first_arm = refl

-- Parallel conjunctions

abbrev pub needing : ℕ → ℕ → ℕ → Refusal
needing number other byte = record { rule = NeverReady; place = record { byte = byte; line = 1 }; detail = Pair number other }

-- `f(Y, X) & Y = 1`
needs_the_second : query (x ∷ y ∷ []) (Parallel (both (call f (y ∷ x ∷ []) 10) (is_one y 20)) (at 10)) ≡ Stuck (needing 1 2 10)
needs_the_second = refl

-- `f(Y, X) & f(Z, Y) & Z = 1`: the second is not ready before the first, and behind the third the first is not
needs_none : query (x ∷ y ∷ z ∷ []) (Parallel (nodes_of (call f (y ∷ x ∷ []) 10 ∷ call f (z ∷ y ∷ []) 20 ∷ is_one z 30 ∷ [])) (at 10)) ≡ Stuck (never_ready (at 10))
needs_none = refl

-- `X = 1 & f(Y, Z) & U = 1 & f(X, Y) & Y = 1`: the first that is ready behind those before, and behind which it is ready
needs_the_fourth : query (x ∷ y ∷ z ∷ 3 ∷ []) (Parallel (nodes_of (is_one x 10 ∷ call f (y ∷ z ∷ []) 20 ∷ is_one 3 30 ∷ call f (x ∷ y ∷ []) 40 ∷ is_one y 50 ∷ [])) (at 10))
    ≡ Stuck (needing 2 4 20)
needs_the_fourth = refl

-- `true & ( p(X), p(Y) ) & X = 1`: the place is the conjunct's, the text the inner fault's
inner_fault : query (x ∷ y ∷ []) (Parallel (nodes_of (Simple True (at 10) ∷ Conjunction (both (call p (x ∷ []) 20) (call p (y ∷ []) 25)) (at 19) ∷ is_one x 30 ∷ [])) (at 10)) ≡ Stuck (never_ready (at 19))
inner_fault = refl

-- `not X = 1 & X = 1`: only where the inner fault is that a goal is never ready is another conjunct looked for
inner_rule : query (x ∷ []) (Parallel (both (Negation (is_one x 14) (at 10)) (is_one x 20)) (at 10)) ≡ Stuck (binds_outer (at 10))
inner_rule = refl

-- what an inner parallel conjunction needs is told by its own numbers
inner_text : query (x ∷ y ∷ []) (Parallel (both (Simple True (at 10)) (Parallel (both (call f (y ∷ x ∷ []) 20) (is_one y 30)) (at 19))) (at 10)) ≡ Stuck (needing 1 2 19)
inner_text = refl

-- the conjuncts stay in their order
beside : query (x ∷ y ∷ []) (Parallel (both (is_one x 10) (call f (x ∷ y ∷ []) 20)) (at 10))
    ≡ Ready (put (Beside (ordereds (built x (x ∷ []) 10 ∷ put (Called f 0 (x ∷ y ∷ []) (false ∷ false ∷ [])) (y ∷ []) (at 20) ∷ []))) (x ∷ y ∷ []) (at 10))
beside = refl

-- `some [X] X = 1`
quantified : query [] (Quantified (x ∷ []) (is_one x 15) (at 10)) ≡ Ready (put (Within (x ∷ []) (built x [] 15)) [] (at 10))
quantified = refl

-- `some [X] ( X = 1, f(X, Y) )`
quantified_output : query (y ∷ []) (Quantified (x ∷ []) (Conjunction (both (is_one x 15) (call f (x ∷ y ∷ []) 20)) (at 15)) (at 10))
    ≡ Ready (put (Within (x ∷ []) (put (Sequence (ordereds (built x (x ∷ []) 15 ∷ put (Called f 0 (x ∷ y ∷ []) (false ∷ false ∷ [])) (y ∷ []) (at 20) ∷ []))) (y ∷ []) (at 15))) (y ∷ []) (at 10))
quantified_output = refl

-- Ways to go, of a goal that asks for X and one that binds it

abbrev asks : Move
asks = record { binds = among (y ∷ []); span = at 10; from = λ bound. if bound x then Ready (built y (y ∷ []) 10) else Stuck (never_ready (at 10)) }

abbrev gives : Move
gives = record { binds = among (x ∷ []); span = at 20; from = λ bound. Ready (built x (x ∷ []) 20) }

second_removed : Removed gives (asks ∷ gives ∷ []) (asks ∷ [])
second_removed = later asks gives (gives ∷ []) [] (here gives [])

can_all : CanAll (asks ∷ gives ∷ []) nothing
can_all = take gives (asks ∷ gives ∷ []) (asks ∷ []) nothing second_removed refl (take asks (asks ∷ []) [] (with nothing gives.binds) (here asks []) refl (all_gone (with (with nothing gives.binds) asks.binds)))

in_sequence : IsSequence (asks ∷ gives ∷ []) nothing (ordereds (built x (x ∷ []) 20 ∷ built y (y ∷ []) 10 ∷ []))
in_sequence = goes (asks ∷ []) [] gives nothing (built x (x ∷ []) 20) (ordereds (built y (y ∷ []) 10 ∷ [])) (refl, tt) refl
    (goes [] [] asks (with nothing gives.binds) (built y (y ∷ []) 10) no_goals tt refl (none_left (with (with nothing gives.binds) asks.binds)))

second_went : Went (asks ∷ gives ∷ []) nothing (asks ∷ []) (with nothing gives.binds)
second_went = went (asks ∷ gives ∷ []) (asks ∷ gives ∷ []) (asks ∷ []) nothing nothing gives (start (asks ∷ gives ∷ []) nothing) second_removed refl

-- what asks for X cannot go alone

only_one : (only move : Move) (others : List Move) → Removed move (only ∷ []) others → only ≡ move
only_one only move others (here one rest) = refl
only_one only move others (later first one all left deeper) = elim deeper [ ]

none_ready : NoneReady (asks ∷ []) nothing
none_ready move others removed ready = let wrong : is_ready (asks.from nothing) ≡ true = subst (λ (one : Move). is_ready (one.from nothing) ≡ true) (sym (only_one asks move others removed)) ready in cc

cannot_go : CanAll (asks ∷ []) nothing → ⊥
cannot_go (take move all others bound removed ready rest) = none_ready move others removed ready

-- Marks of parts that went, where nothing was bound before the whole

abbrev Sound : Node → Marked → Type 0
Sound goal marks = IsSound (λ variable. 9) modes goal marks nothing

abbrev one_mark : Bool → Marked → Marked
one_mark gone rest = more_marks gone no_marks rest

abbrev both_went : Marked
both_went = one_mark true (one_mark true no_marks)

abbrev three_went : Marked
three_went = one_mark true both_went

unmarked : Sound (Negation (call p (x ∷ []) 14) (at 10)) (one_mark false no_marks)
unmarked = tt

marked_not : Sound (Negation (call p (x ∷ []) 14) (at 10)) (one_mark true no_marks) → ⊥
marked_not sound = let wrong : false ≡ true = sound in cc

-- `( X = 1 -> p(X) ; true )` and `( X = 1 -> true ; p(X) )`: a then part goes behind the condition, an else part does not

then_marked : Sound (Conditional (is_one x 12) (call p (x ∷ []) 20) (Simple True (at 30)) (at 10)) three_went
then_marked = (refl, refl, refl)

else_marked_not : Sound (Conditional (is_one x 12) (Simple True (at 20)) (call p (x ∷ []) 30) (at 10)) three_went → ⊥
else_marked_not sound = let wrong : false ≡ true = sound.2 in cc

-- `X = 1 & p(X)` and `( X = 1 ; p(X) )`

beside_marked : Sound (Parallel (both (is_one x 10) (call p (x ∷ []) 20)) (at 10)) both_went
beside_marked = (refl, (refl, tt))

arm_marked_not : Sound (Disjunction (both (is_one x 10) (call p (x ∷ []) 20)) (at 10)) both_went → ⊥
arm_marked_not sound = let wrong : false ≡ true = sound.1.0 in cc
