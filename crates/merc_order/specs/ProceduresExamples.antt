-- Procedures with their order, and what is wrong with others. The goals and predicates are those of the examples of orders.
use Rattle.std.specs.Prelude.{◌≡◌, ℕ, true, false, List, [], ◌∷◌, Some, None, refl}
use Rattle.merc_base.specs.declared.category.Category.TheVariants.{Det, Semidet}
use Rattle.merc_tree.specs.Types.{IntType}
use Rattle.merc_tree.specs.declared.declarations.Arg.TheVariants.{Input, Output}
use Rattle.merc_tree.specs.declared.declarations.ModeDecl.{ModeDecl}
use Rattle.merc_tree.specs.declared.declarations.PredDecl.{PredDecl}
use Rattle.merc_goal_tree.specs.declared.goal.Comparison.TheVariants.{Less}
use Rattle.merc_goal_tree.specs.declared.goal.Operation.TheVariants.{Add}
use Rattle.merc_goal_tree.specs.declared.goal.SimpleGoal.TheVariants.{True, Fail, Same}
use Rattle.merc_goal_tree.specs.Nodes.{Node, Simple, Parallel, nodes_of}
use Rattle.merc_graded_tree.specs.declared.basic.BasicGoal.{BasicGoal}
use Rattle.merc_graded_tree.specs.declared.basic.BasicGoal.TheVariants.{True as TrueGoal, Fail as FailGoal, Assign as AssignGoal, Test as TestGoal, Build as BuildGoal, Split as SplitGoal, Arithmetic as ArithmeticGoal, Compare as CompareGoal, Raise as RaiseGoal, Call as CallGoal}
use Rattle.merc_graded_tree.specs.declared.entries.Running.TheVariants.{Sequential, Parallel as InParallel}
use Rattle.merc_graded_tree.specs.Nodes.{Node as OrderedNode, node, Basic, Conjunction as OrderedConjunction, Disjunction as OrderedDisjunction, Conditional as OrderedConditional, Negation as OrderedNegation, Quantified as OrderedQuantified, nodes_of as ordered_nodes}
use Rattle.merc_order.specs.Faults.{never_ready, unbound_output}
use Rattle.merc_order.specs.Ordered.{Ordered, put, Truth, Failure, Assign, Test, Build, Split, Computed, Compared, Raised, Called, Sequence, Beside, Choice, Decision, Denial, Within, no_goals, more_goals, Ready, Stuck}
use Rattle.merc_order.specs.OrderExamples.{at, mode, modes, f, append, x, y, z, one, pair, is_one, call, ordereds, needing}
use Rattle.merc_order.specs.Spelt.{spelt, twins}
use Rattle.merc_order.specs.Procedures.{bound_at, numbers_below, procedure_from, query_from, order_fault, first_fresh, tree_of, procedure_trees, IsProcedure}

inputs : bound_at (Output ∷ Input ∷ []) 1 ≡ true
inputs = refl

no_input : bound_at (Output ∷ Input ∷ []) 0 ≡ false
no_input = refl

not_argument : bound_at (Output ∷ Input ∷ []) 2 ≡ false
not_argument = refl

arguments : numbers_below 3 ≡ 0 ∷ 1 ∷ 2 ∷ []
arguments = refl

-- `q(X, Y) :- f(X, Y).` in the modes `(in, out)` and `(out, in)`

abbrev body : Node
body = call f (x ∷ y ∷ []) 10

forward : procedure_from modes 2 (mode (Input ∷ Output ∷ []) Det) body ≡ Ready (put (Called f 0 (x ∷ y ∷ []) (false ∷ false ∷ [])) (y ∷ []) (at 10))
forward = refl

backward : procedure_from modes 2 (mode (Output ∷ Input ∷ []) Det) body ≡ Stuck (never_ready (at 10))
backward = refl

-- `q(X) :- true.` in the mode `(out)`: the fault stands at the mode's declaration
unbound : procedure_from modes 1 (record { args = Output ∷ []; category = Det; span = at 3 }) (Simple True (at 10)) ≡ Stuck (unbound_output (at 3))
unbound = refl

-- `q(X, Y) :- X = 1.` in the mode `(out, out)`
second_unbound : procedure_from modes 2 (record { args = Output ∷ Output ∷ []; category = Det; span = at 3 }) (is_one x 10) ≡ Stuck (unbound_output (at 3))
second_unbound = refl

-- `q(X) :- fail.` has no end that can be reached
not_reached : procedure_from modes 1 (mode (Output ∷ []) Det) (Simple Fail (at 10)) ≡ Ready (put Failure [] (at 10))
not_reached = refl

-- a goal that is asked: at its first token
asked_unbound : query_from modes (x ∷ []) (Simple True (at 10)) ≡ Stuck (unbound_output (at 10))
asked_unbound = refl

-- Fresh variables and tests: `append(X, Y, Z)` with all three bound, an answer of none

abbrev tested_call : Ordered
tested_call = put (Called append 0 (x ∷ y ∷ z ∷ []) (false ∷ false ∷ true ∷ [])) [] (at 10)

call_and_test : spelt modes 7 tested_call ≡ node (OrderedConjunction Sequential (ordered_nodes (
    node (Basic (CallGoal (record { predicate = append; mode = 0 }) (x ∷ y ∷ 7 ∷ []))) (7 ∷ []) None (at 10)
    ∷ node (Basic (TestGoal 7 z)) [] None (at 10) ∷ []))) [] None (at 10)
call_and_test = refl

stands_for : twins tested_call ≡ z ∷ []
stands_for = refl

-- A split with one variable at two places: the first is written and tested against the second. What occurs in no other place is no output.
split_and_test : spelt modes 7 (put (Split x pair (y ∷ z ∷ y ∷ []) (false ∷ false ∷ true ∷ [])) [] (at 10)) ≡ node (OrderedConjunction Sequential (ordered_nodes (
    node (Basic (SplitGoal x pair (y ∷ z ∷ 7 ∷ []))) (y ∷ 7 ∷ []) None (at 10)
    ∷ node (Basic (TestGoal 7 y)) [] None (at 10) ∷ []))) [] None (at 10)
split_and_test = refl

-- `q(X, X, Y)` over three `out` places, with Y bound
abbrev three_out : ℕ → List ModeDecl
three_out predicate = mode (Output ∷ Output ∷ Output ∷ []) Det ∷ []

two_tests : spelt three_out 7 (put (Called f 0 (x ∷ x ∷ y ∷ []) (false ∷ true ∷ true ∷ [])) (x ∷ []) (at 10)) ≡ node (OrderedConjunction Sequential (ordered_nodes (
    node (Basic (CallGoal (record { predicate = f; mode = 0 }) (x ∷ 7 ∷ 8 ∷ []))) (x ∷ 7 ∷ 8 ∷ []) None (at 10)
    ∷ node (Basic (TestGoal 7 x)) [] None (at 10)
    ∷ node (Basic (TestGoal 8 y)) [] None (at 10) ∷ []))) (x ∷ []) None (at 10)
two_tests = refl

-- `X = Y + Z` with X bound
sum_and_test : spelt modes 7 (put (Computed Add x y z (true ∷ [])) [] (at 10)) ≡ node (OrderedConjunction Sequential (ordered_nodes (
    node (Basic (ArithmeticGoal Add 7 y z)) (7 ∷ []) None (at 10)
    ∷ node (Basic (TestGoal 7 x)) [] None (at 10) ∷ []))) [] None (at 10)
sum_and_test = refl

-- no test without need
plain_call : spelt modes 7 (put (Called f 0 (x ∷ y ∷ []) (false ∷ false ∷ [])) (y ∷ []) (at 10))
    ≡ node (Basic (CallGoal (record { predicate = f; mode = 0 }) (x ∷ y ∷ []))) (y ∷ []) None (at 10)
plain_call = refl

-- fresh variables have numbers of their own
numbered_on : spelt modes 7 (put (Sequence (more_goals tested_call (more_goals tested_call no_goals))) [] (at 10)) ≡ node (OrderedConjunction Sequential (ordered_nodes (
    spelt modes 7 tested_call ∷ spelt modes 8 tested_call ∷ []))) [] None (at 10)
numbered_on = refl

-- in each part, in the order of the parts
numbered_in_parts : spelt modes 7 (put (Sequence (ordereds (
    put (Decision tested_call tested_call tested_call) [] (at 20)
    ∷ put (Denial tested_call) [] (at 21)
    ∷ put (Within (x ∷ []) tested_call) [] (at 22)
    ∷ put (Beside (ordereds (tested_call ∷ []))) [] (at 23)
    ∷ put (Choice (ordereds (tested_call ∷ []))) [] (at 24)
    ∷ tested_call ∷ []))) [] (at 10)) ≡ node (OrderedConjunction Sequential (ordered_nodes (
    node (OrderedConditional (spelt modes 7 tested_call) (spelt modes 8 tested_call) (spelt modes 9 tested_call)) [] None (at 20)
    ∷ node (OrderedNegation (spelt modes 10 tested_call)) [] None (at 21)
    ∷ node (OrderedQuantified (x ∷ []) (spelt modes 11 tested_call)) [] None (at 22)
    ∷ node (OrderedConjunction (InParallel None) (ordered_nodes (spelt modes 12 tested_call ∷ []))) [] None (at 23)
    ∷ node (OrderedDisjunction (ordered_nodes (spelt modes 13 tested_call ∷ []))) [] None (at 24)
    ∷ spelt modes 14 tested_call ∷ []))) [] None (at 10)
numbered_in_parts = refl

-- in the same order they stand for others
stand_in_order : twins (put (Decision tested_call (put (Computed Add x y z (true ∷ [])) [] (at 20)) (put (Split x pair (y ∷ y ∷ []) (false ∷ true ∷ [])) [] (at 30))) [] (at 10))
    ≡ z ∷ x ∷ y ∷ []
stand_in_order = refl

-- goals without tests

abbrev plain : BasicGoal → List ℕ → ℕ → OrderedNode
plain goal outputs byte = node (Basic goal) outputs None (at byte)

each_kind : spelt modes 7 (put (Sequence (ordereds (
    put Truth [] (at 11)
    ∷ put Failure [] (at 12)
    ∷ put (Assign y x) (y ∷ []) (at 13)
    ∷ put (Test x y) [] (at 14)
    ∷ put (Build z pair (x ∷ y ∷ [])) (z ∷ []) (at 15)
    ∷ put (Compared Less x y) [] (at 16)
    ∷ put (Raised x) [] (at 17) ∷ []))) (y ∷ z ∷ []) (at 10)) ≡ node (OrderedConjunction Sequential (ordered_nodes (
    plain TrueGoal [] 11
    ∷ plain FailGoal [] 12
    ∷ plain (AssignGoal y x) (y ∷ []) 13
    ∷ plain (TestGoal x y) [] 14
    ∷ plain (BuildGoal z pair (x ∷ y ∷ [])) (z ∷ []) 15
    ∷ plain (CompareGoal Less x y) [] 16
    ∷ plain (RaiseGoal x) [] 17 ∷ []))) (y ∷ z ∷ []) None (at 10)
each_kind = refl

behind_all : first_fresh (numbers_below 2) (call f (4 ∷ 1 ∷ []) 10) ≡ 5
behind_all = refl

behind_arguments : first_fresh (numbers_below 2) (Simple True (at 10)) ≡ 2
behind_arguments = refl

forward_tree : IsProcedure modes 2 (mode (Input ∷ Output ∷ []) Det) body (node (Basic (CallGoal (record { predicate = f; mode = 0 }) (x ∷ y ∷ []))) (y ∷ []) None (at 10))
forward_tree = (put (Called f 0 (x ∷ y ∷ []) (false ∷ false ∷ [])) (y ∷ []) (at 10), refl, refl)

no_backward_tree : (tree : OrderedNode) → IsProcedure modes 2 (mode (Output ∷ Input ∷ []) Det) body tree → ⊥
no_backward_tree tree is_procedure = let ready = is_procedure.1 in cc

-- in the mode `(in, in)`: the fresh variable stands behind the arguments
tree_with_test : tree_of modes (numbers_below 2) body (procedure_from modes 2 (mode (Input ∷ Input ∷ []) Semidet) body)
    ≡ node (OrderedConjunction Sequential (ordered_nodes (
    node (Basic (CallGoal (record { predicate = f; mode = 0 }) (x ∷ 2 ∷ []))) (2 ∷ []) None (at 10)
    ∷ node (Basic (TestGoal 2 y)) [] None (at 10) ∷ []))) [] None (at 10) ∷ []
tree_with_test = refl

-- The fault of a module: the least place decides, and at one place the mode declared first.

abbrev declared : List ModeDecl → ℕ → PredDecl
declared own byte = record { name = 100; args = IntType ∷ []; modes = own; span = at byte; unit = None }

abbrev out_at : ℕ → ModeDecl
out_at byte = record { args = Output ∷ []; category = Det; span = at byte }

abbrev in_at : ℕ → ModeDecl
in_at byte = record { args = Input ∷ []; category = Det; span = at byte }

-- `q(X) :- q(X).` in the mode `(out)`, behind one that is declared later and whose body stands before
least_place : order_fault (declared (out_at 30 ∷ []) 30 ∷ declared (out_at 5 ∷ []) 5 ∷ []) (Simple True (at 40) ∷ Simple (Same 0 0) (at 20) ∷ []) ≡ Some (never_ready (at 20))
least_place = refl

no_fault : order_fault (declared (in_at 5 ∷ []) 5 ∷ []) (Simple True (at 20) ∷ []) ≡ None
no_fault = refl

each_mode : order_fault (declared (in_at 5 ∷ out_at 6 ∷ []) 5 ∷ []) (Simple True (at 20) ∷ []) ≡ Some (unbound_output (at 6))
each_mode = refl

-- `q(X, Y) :- append(X, Y, Z) & X = 1 & Y = 1.` in the modes `(in, out)` and `(out, in)`: they need different conjuncts, and the mode declared first counts

abbrev of_two : List ModeDecl → PredDecl
of_two own = record { name = 101; args = IntType ∷ IntType ∷ []; modes = own; span = at 5; unit = None }

abbrev appended : PredDecl
appended = record { name = 102; args = IntType ∷ IntType ∷ IntType ∷ []; modes = modes append; span = at 6; unit = None }

abbrev joining : Node
joining = Parallel (nodes_of (call 1 (x ∷ y ∷ z ∷ []) 20 ∷ is_one x 30 ∷ is_one y 40 ∷ [])) (at 20)

first_mode : order_fault (of_two (mode (Input ∷ Output ∷ []) Det ∷ mode (Output ∷ Input ∷ []) Det ∷ []) ∷ appended ∷ []) (joining ∷ []) ≡ Some (needing 1 3 20)
first_mode = refl

first_mode_again : order_fault (of_two (mode (Output ∷ Input ∷ []) Det ∷ mode (Input ∷ Output ∷ []) Det ∷ []) ∷ appended ∷ []) (joining ∷ []) ≡ Some (needing 1 2 20)
first_mode_again = refl

-- Trees: none of a body that cannot be ordered.

forward_alone : tree_of modes (numbers_below 2) body (procedure_from modes 2 (mode (Input ∷ Output ∷ []) Det) body)
    ≡ node (Basic (CallGoal (record { predicate = f; mode = 0 }) (x ∷ y ∷ []))) (y ∷ []) None (at 10) ∷ []
forward_alone = refl

none_backward : tree_of modes (numbers_below 2) body (procedure_from modes 2 (mode (Output ∷ Input ∷ []) Det) body) ≡ []
none_backward = refl

-- `q(X) :- X = 1.` in the modes `(in)` and `(out)`: the first splits, the second builds
tree_of_each : procedure_trees modes (declared (in_at 5 ∷ out_at 6 ∷ []) 5 ∷ []) (is_one x 20 ∷ [])
    ≡ node (Basic (SplitGoal x one [])) [] None (at 20) ∷ node (Basic (BuildGoal x one [])) (x ∷ []) None (at 20) ∷ []
tree_of_each = refl

-- `q(X) :- true.` in the same modes: the second leaves the argument unbound
first_alone : procedure_trees modes (declared (in_at 5 ∷ out_at 6 ∷ []) 5 ∷ []) (Simple True (at 20) ∷ []) ≡ node (Basic TrueGoal) [] None (at 20) ∷ []
first_alone = refl

-- each predicate has its own body
trees_of_two : procedure_trees modes (declared (in_at 5 ∷ []) 5 ∷ declared (out_at 6 ∷ []) 6 ∷ []) (is_one x 20 ∷ is_one x 30 ∷ [])
    ≡ node (Basic (SplitGoal x one [])) [] None (at 20) ∷ node (Basic (BuildGoal x one [])) (x ∷ []) None (at 30) ∷ []
trees_of_two = refl
