-- Small goals with their split trees, each worked out by hand from the rules of the language. `use(in)`, `both(in, in)`, `f(in, out)` and `two(out, out)` are
-- det, `test(in)` is semidet. V is bound before, to `red` or `green`; E is a text. The other variables occur nowhere else, but for those that are said to be
-- used behind. A goal with waits before it, or waits and signals behind it, is one conjunction with them, in its place.
use Rattle.std.specs.Prelude.{◌≡◌, ℕ, pos, List, [], ◌∷◌, Some, None, refl}
use Rattle.std.proofs.Common.{◌∙◌, sym}
use Rattle.merc_base.specs.declared.category.Category.{Category}
use Rattle.merc_base.specs.declared.category.Category.TheVariants.{Det, Semidet, Erroneous, Failure}
use Rattle.merc_base.specs.declared.place.Span.{Span}
use Rattle.merc_goal_tree.specs.declared.goal.Symbol.{Symbol}
use Rattle.merc_goal_tree.specs.declared.goal.Symbol.TheVariants.{Constructor, Integer}
use Rattle.merc_graded_tree.specs.declared.basic.BasicGoal.TheVariants.{Fail, Assign, Build, Split, Raise, Call, Wait, Signal}
use Rattle.merc_graded_tree.specs.declared.entries.Running.TheVariants.{Sequential, Parallel}
use Rattle.merc_graded_tree.specs.Nodes.{Node, node, Goal, Basic, Conjunction, Disjunction, Switch, Conditional, Negation, Quantified, nodes_of, no_arms, more_arms}
use Rattle.merc_par_split.specs.Split.{split, all_split}

abbrev nowhere : Span
nowhere = record { first = 0; past = 0; line = 1 }

abbrev of : Category → List ℕ → Goal → Node
of category outputs goal = node goal outputs (Some category) nowhere

-- the variables, and what is bound before
abbrev x : ℕ
x = 0

abbrev y : ℕ
y = 1

abbrev a : ℕ
a = 2

abbrev b : ℕ
b = 3

abbrev v : ℕ
v = 8

abbrev e : ℕ
e = 9

abbrev red : Symbol
red = Constructor 200 0

abbrev green : Symbol
green = Constructor 201 0

-- goals that hold no others

abbrev call : Category → List ℕ → ℕ → List ℕ → Node
call category outputs number arguments = of category outputs (Basic (Call (record { predicate = number; mode = 0 }) arguments))

abbrev is_one : ℕ → Node
is_one variable = of Det (variable ∷ []) (Basic (Build variable (Integer (pos 1)) []))

abbrev copy : ℕ → ℕ → Node
copy to from = of Det (to ∷ []) (Basic (Assign to from))

abbrev uses : ℕ → Node
uses variable = call Det [] 0 (variable ∷ [])

abbrev both : ℕ → ℕ → Node
both one other = call Det [] 1 (one ∷ other ∷ [])

abbrev f : ℕ → ℕ → Node
f from to = call Det (to ∷ []) 2 (from ∷ to ∷ [])

abbrev two : ℕ → ℕ → Node
two one other = call Det (one ∷ other ∷ []) 3 (one ∷ other ∷ [])

abbrev test : ℕ → Node
test variable = call Semidet [] 4 (variable ∷ [])

abbrev is_symbol : ℕ → Symbol → Node
is_symbol variable symbol = of Det [] (Basic (Split variable symbol []))

abbrev fails : Node
fails = of Failure [] (Basic Fail)

abbrev raises : Node
raises = of Erroneous [] (Basic (Raise e))

abbrev wait : ℕ → ℕ → Node
wait variable conjunct = of Det [] (Basic (Wait variable conjunct))

abbrev signal : ℕ → ℕ → Node
signal variable conjunct = of Det [] (Basic (Signal variable conjunct))

-- goals that join others

abbrev seq : List ℕ → List Node → Node
seq outputs goals = of Det outputs (Conjunction Sequential (nodes_of goals))

abbrev seq_of : Category → List ℕ → List Node → Node
seq_of category outputs goals = of category outputs (Conjunction Sequential (nodes_of goals))

abbrev beside : List ℕ → List Node → Node
beside outputs goals = of Det outputs (Conjunction (Parallel None) (nodes_of goals))

abbrev fork : ℕ → List ℕ → List Node → Node
fork site outputs goals = of Det outputs (Conjunction (Parallel (Some (record { number = site }))) (nodes_of goals))

abbrev either : List ℕ → List Node → Node
either outputs goals = of Det outputs (Disjunction (nodes_of goals))

-- a switch on a variable, with its arm for `red` and that for `green`
abbrev switch : ℕ → List ℕ → Node → Node → Node
switch variable outputs one other = of Det outputs (Switch variable (more_arms red one (more_arms green other no_arms)))

abbrev if_test : List ℕ → ℕ → Node → Node → Node
if_test outputs variable then_part else_part = of Det outputs (Conditional (test variable) then_part else_part)

abbrev denied : Node → Node
denied goal = of Det [] (Negation goal)

abbrev some : List ℕ → List ℕ → Node → Node
some own outputs goal = of Det outputs (Quantified own goal)

-- parts that come often: `X = 1` with a signal for each of these conjuncts, and `use(X)` with the wait of this one
abbrev one_for : ℕ → List Node → Node
one_for variable signals = seq (variable ∷ []) (is_one variable ∷ signals)

abbrev waits_and_uses : ℕ → ℕ → Node
waits_and_uses variable conjunct = seq [] (wait variable conjunct ∷ uses variable ∷ [])

-- where there are cells

-- `X = 1, use(X)`: no `&`, nothing changes
no_fork : split 0 (seq [] (is_one x ∷ uses x ∷ [])) ≡ seq [] (is_one x ∷ uses x ∷ [])
no_fork = refl

-- `use(V) & use(V)`: what is bound before has no cell
bound_before : split 0 (beside [] (uses v ∷ uses v ∷ [])) ≡ fork 0 [] (uses v ∷ uses v ∷ [])
bound_before = refl

-- `X = 1 & use(X)`: a cell for the conjunct that uses X
one_user : split 0 (beside [] (is_one x ∷ uses x ∷ [])) ≡ fork 0 [] (one_for x (signal x 2 ∷ []) ∷ waits_and_uses x 2 ∷ [])
one_user = refl

-- `X = 1 & use(V)`, and X is used behind: a cell with the number 0, for which the parent waits directly behind the `&`
used_behind : split 0 (beside (x ∷ []) (is_one x ∷ uses v ∷ [])) ≡ seq (x ∷ []) (fork 0 (x ∷ []) (one_for x (signal x 0 ∷ []) ∷ uses v ∷ []) ∷ wait x 0 ∷ [])
used_behind = refl

-- `X = 1 & use(X) & use(X)`: a cell for each conjunct that uses X
two_users : split 0 (beside [] (is_one x ∷ uses x ∷ uses x ∷ []))
    ≡ fork 0 [] (one_for x (signal x 2 ∷ signal x 3 ∷ []) ∷ waits_and_uses x 2 ∷ waits_and_uses x 3 ∷ [])
two_users = refl

-- `X = 1 & use(V) & use(X)`: the number is that of the conjunct
third_uses : split 0 (beside [] (is_one x ∷ uses v ∷ uses x ∷ [])) ≡ fork 0 [] (one_for x (signal x 3 ∷ []) ∷ uses v ∷ waits_and_uses x 3 ∷ [])
third_uses = refl

-- `X = 1 & f(X, A) & f(X, B)`, and X, A and B are used behind: 0 is the last number; a call has its wait before it and its signal behind it
users_and_behind : split 0 (beside (x ∷ a ∷ b ∷ []) (is_one x ∷ f x a ∷ f x b ∷ []))
    ≡ seq (x ∷ a ∷ b ∷ []) (fork 0 (x ∷ a ∷ b ∷ []) (one_for x (signal x 2 ∷ signal x 3 ∷ signal x 0 ∷ [])
    ∷ seq (a ∷ []) (wait x 2 ∷ f x a ∷ signal a 0 ∷ []) ∷ seq (b ∷ []) (wait x 3 ∷ f x b ∷ signal b 0 ∷ []) ∷ []) ∷ wait x 0 ∷ wait a 0 ∷ wait b 0 ∷ [])
users_and_behind = refl

-- `X = 1 & Y = X & use(Y)`: a conjunct waits for one and signals another
chain : split 0 (beside [] (is_one x ∷ copy y x ∷ uses y ∷ []))
    ≡ fork 0 [] (one_for x (signal x 2 ∷ []) ∷ seq (y ∷ []) (wait x 2 ∷ copy y x ∷ signal y 3 ∷ []) ∷ waits_and_uses y 3 ∷ [])
chain = refl

-- `two(X, Y) & use(Y) & use(X)`: one goal binds both, and signals them in the order of the cells
two_bound : split 0 (beside [] (two x y ∷ uses y ∷ uses x ∷ []))
    ≡ fork 0 [] (seq (x ∷ y ∷ []) (two x y ∷ signal x 3 ∷ signal y 2 ∷ []) ∷ waits_and_uses y 2 ∷ waits_and_uses x 3 ∷ [])
two_bound = refl

-- `X = 1 & Y = 1 & both(Y, X)`: two waits before one goal, X first, since it occurs first
two_awaited : split 0 (beside [] (is_one x ∷ is_one y ∷ both y x ∷ []))
    ≡ fork 0 [] (one_for x (signal x 3 ∷ []) ∷ one_for y (signal y 3 ∷ []) ∷ seq [] (wait x 3 ∷ wait y 3 ∷ both y x ∷ []) ∷ [])
two_awaited = refl

-- `error(E) & X = 1`, and X is used behind: an erroneous conjunct changes nothing
erroneous_conjunct : split 0 (of Erroneous (x ∷ []) (Conjunction (Parallel None) (nodes_of (raises ∷ is_one x ∷ []))))
    ≡ seq_of Erroneous (x ∷ []) (of Erroneous (x ∷ []) (Conjunction (Parallel (Some (record { number = 0 }))) (nodes_of (raises ∷ one_for x (signal x 0 ∷ []) ∷ []))) ∷ wait x 0 ∷ [])
erroneous_conjunct = refl

-- `( X = 1 & Y = 1 ), both(X, Y)`: the waits with the number 0 stand behind the `&`, not before the goal that uses the variables
behind_in_turn : split 0 (seq [] (beside (x ∷ y ∷ []) (is_one x ∷ is_one y ∷ []) ∷ both x y ∷ []))
    ≡ seq [] (seq (x ∷ y ∷ []) (fork 0 (x ∷ y ∷ []) (one_for x (signal x 0 ∷ []) ∷ one_for y (signal y 0 ∷ []) ∷ []) ∷ wait x 0 ∷ wait y 0 ∷ []) ∷ both x y ∷ [])
behind_in_turn = refl

-- in conjunctions and quantifiers

-- `X = 1 & ( use(V), use(X), use(X) )`: the wait stands before the first goal that uses X, and nowhere else
first_user_waits : split 0 (beside [] (is_one x ∷ seq [] (uses v ∷ uses x ∷ uses x ∷ []) ∷ []))
    ≡ fork 0 [] (one_for x (signal x 2 ∷ []) ∷ seq [] (uses v ∷ waits_and_uses x 2 ∷ uses x ∷ []) ∷ [])
first_user_waits = refl

-- `X = 1 & Y = 1 & ( use(Y), use(X) )`: each wait before the goal that uses its variable
apart_waits : split 0 (beside [] (is_one x ∷ is_one y ∷ seq [] (uses y ∷ uses x ∷ []) ∷ []))
    ≡ fork 0 [] (one_for x (signal x 3 ∷ []) ∷ one_for y (signal y 3 ∷ []) ∷ seq [] (waits_and_uses y 3 ∷ waits_and_uses x 3 ∷ []) ∷ [])
apart_waits = refl

-- `( X = 1, use(V) ) & use(X)`: the signal stands directly behind the goal that binds X
early_signal : split 0 (beside [] (seq (x ∷ []) (is_one x ∷ uses v ∷ []) ∷ uses x ∷ []))
    ≡ fork 0 [] (seq (x ∷ []) (one_for x (signal x 2 ∷ []) ∷ uses v ∷ []) ∷ waits_and_uses x 2 ∷ [])
early_signal = refl

-- `( Y = 1, X = Y ) & use(X)`: behind `X = Y`; Y is the conjunct's own and has no cell
own_variable : split 0 (beside [] (seq (x ∷ []) (is_one y ∷ copy x y ∷ []) ∷ uses x ∷ []))
    ≡ fork 0 [] (seq (x ∷ []) (is_one y ∷ seq (x ∷ []) (copy x y ∷ signal x 2 ∷ []) ∷ []) ∷ waits_and_uses x 2 ∷ [])
own_variable = refl

-- `( X = 1, Y = X ) & both(X, Y)`: each signal behind the goal that binds its variable
apart_signals : split 0 (beside [] (seq (x ∷ y ∷ []) (is_one x ∷ copy y x ∷ []) ∷ both x y ∷ []))
    ≡ fork 0 [] (seq (x ∷ y ∷ []) (one_for x (signal x 2 ∷ []) ∷ seq (y ∷ []) (copy y x ∷ signal y 2 ∷ []) ∷ []) ∷ seq [] (wait x 2 ∷ wait y 2 ∷ both x y ∷ []) ∷ [])
apart_signals = refl

-- `some [Y] ( Y = 1, X = Y ) & use(X)`: a signal goes into a quantifier
signal_in_some : split 0 (beside [] (some (y ∷ []) (x ∷ []) (seq (x ∷ []) (is_one y ∷ copy x y ∷ [])) ∷ uses x ∷ []))
    ≡ fork 0 [] (some (y ∷ []) (x ∷ []) (seq (x ∷ []) (is_one y ∷ seq (x ∷ []) (copy x y ∷ signal x 2 ∷ []) ∷ [])) ∷ waits_and_uses x 2 ∷ [])
signal_in_some = refl

-- `X = 1 & some [Y] ( Y = 1, both(X, Y) )`: and so does a wait
wait_in_some : split 0 (beside [] (is_one x ∷ some (y ∷ []) [] (seq [] (is_one y ∷ both x y ∷ [])) ∷ []))
    ≡ fork 0 [] (one_for x (signal x 2 ∷ []) ∷ some (y ∷ []) [] (seq [] (is_one y ∷ seq [] (wait x 2 ∷ both x y ∷ []) ∷ [])) ∷ [])
wait_in_some = refl

-- `some [X] ( X = 1 & use(X) )`: an `&` inside a quantifier
fork_in_some : split 0 (some (x ∷ []) [] (beside [] (is_one x ∷ uses x ∷ []))) ≡ some (x ∷ []) [] (fork 0 [] (one_for x (signal x 2 ∷ []) ∷ waits_and_uses x 2 ∷ []))
fork_in_some = refl

-- at disjunctions that are no switches, and at negations

-- `( X = 1, fail ; X = 1 ) & use(X)`: the signal stands behind the whole disjunction
signal_behind_disjunction : split 0 (beside [] (either (x ∷ []) (seq_of Failure (x ∷ []) (is_one x ∷ fails ∷ []) ∷ is_one x ∷ []) ∷ uses x ∷ []))
    ≡ fork 0 [] (seq (x ∷ []) (either (x ∷ []) (seq_of Failure (x ∷ []) (is_one x ∷ fails ∷ []) ∷ is_one x ∷ []) ∷ signal x 2 ∷ []) ∷ waits_and_uses x 2 ∷ [])
signal_behind_disjunction = refl

-- not inside it
signal_in_no_disjunction : split 0 (beside [] (either (x ∷ []) (seq_of Failure (x ∷ []) (is_one x ∷ fails ∷ []) ∷ is_one x ∷ []) ∷ uses x ∷ []))
    ≡ fork 0 [] (either (x ∷ []) (seq_of Failure (x ∷ []) (one_for x (signal x 2 ∷ []) ∷ fails ∷ []) ∷ one_for x (signal x 2 ∷ []) ∷ []) ∷ waits_and_uses x 2 ∷ []) → ⊥
signal_in_no_disjunction wrong = cc

-- `X = 1 & ( use(V), fail ; use(X) )`: the wait stands before the disjunction, though its first disjunct does not use X
wait_before_disjunction : split 0 (beside [] (is_one x ∷ either [] (seq_of Failure [] (uses v ∷ fails ∷ []) ∷ uses x ∷ []) ∷ []))
    ≡ fork 0 [] (one_for x (signal x 2 ∷ []) ∷ seq [] (wait x 2 ∷ either [] (seq_of Failure [] (uses v ∷ fails ∷ []) ∷ uses x ∷ []) ∷ []) ∷ [])
wait_before_disjunction = refl

-- `X = 1 & ( ( use(V), fail ; use(V) ), use(X) )`: behind a disjunction that does not use X
wait_behind_disjunction : split 0 (beside [] (is_one x ∷ seq [] (either [] (seq_of Failure [] (uses v ∷ fails ∷ []) ∷ uses v ∷ []) ∷ uses x ∷ []) ∷ []))
    ≡ fork 0 [] (one_for x (signal x 2 ∷ []) ∷ seq [] (either [] (seq_of Failure [] (uses v ∷ fails ∷ []) ∷ uses v ∷ []) ∷ waits_and_uses x 2 ∷ []) ∷ [])
wait_behind_disjunction = refl

-- `X = 1 & ( ( use(X), fail ; use(V) ), use(X) )`: before the disjunction, and not again before the goal behind it
wait_once : split 0 (beside [] (is_one x ∷ seq [] (either [] (seq_of Failure [] (uses x ∷ fails ∷ []) ∷ uses v ∷ []) ∷ uses x ∷ []) ∷ []))
    ≡ fork 0 [] (one_for x (signal x 2 ∷ []) ∷ seq [] (seq [] (wait x 2 ∷ either [] (seq_of Failure [] (uses x ∷ fails ∷ []) ∷ uses v ∷ []) ∷ []) ∷ uses x ∷ []) ∷ [])
wait_once = refl

-- `( ( X = 1 & use(X) ), fail ; use(V) )`: an `&` inside a disjunct
fork_in_disjunction : split 0 (either [] (seq_of Failure [] (beside [] (is_one x ∷ uses x ∷ []) ∷ fails ∷ []) ∷ uses v ∷ []))
    ≡ either [] (seq_of Failure [] (fork 0 [] (one_for x (signal x 2 ∷ []) ∷ waits_and_uses x 2 ∷ []) ∷ fails ∷ []) ∷ uses v ∷ [])
fork_in_disjunction = refl

-- `X = 1 & ( ( use(X) & use(V) ), fail ; use(V) )`: the wait stands before the disjunction, so no right moves into the `&`
no_right_in_disjunction : split 0 (beside [] (is_one x ∷ either [] (seq_of Failure [] (beside [] (uses x ∷ uses v ∷ []) ∷ fails ∷ []) ∷ uses v ∷ []) ∷ []))
    ≡ fork 0 [] (one_for x (signal x 2 ∷ []) ∷ seq [] (wait x 2 ∷ either [] (seq_of Failure [] (fork 1 [] (uses x ∷ uses v ∷ []) ∷ fails ∷ []) ∷ uses v ∷ []) ∷ []) ∷ [])
no_right_in_disjunction = refl

-- `X = 1 & not ( use(X), fail )`: the wait stands before the negation
wait_before_negation : split 0 (beside [] (is_one x ∷ denied (seq_of Failure [] (uses x ∷ fails ∷ [])) ∷ []))
    ≡ fork 0 [] (one_for x (signal x 2 ∷ []) ∷ seq [] (wait x 2 ∷ denied (seq_of Failure [] (uses x ∷ fails ∷ [])) ∷ []) ∷ [])
wait_before_negation = refl

-- `not ( ( X = 1 & use(X) ), fail )`: an `&` inside a negation
fork_in_negation : split 0 (denied (seq_of Failure [] (beside [] (is_one x ∷ uses x ∷ []) ∷ fails ∷ [])))
    ≡ denied (seq_of Failure [] (fork 0 [] (one_for x (signal x 2 ∷ []) ∷ waits_and_uses x 2 ∷ []) ∷ fails ∷ []))
fork_in_negation = refl

-- in switches

-- `( V = red, X = 1 ; V = green, Y = 1, X = Y ) & use(X)`: the signal goes into each arm, directly behind the goal that binds X there
signal_in_arms : split 0 (beside [] (switch v (x ∷ []) (seq (x ∷ []) (is_symbol v red ∷ is_one x ∷ [])) (seq (x ∷ []) (is_symbol v green ∷ is_one y ∷ copy x y ∷ [])) ∷ uses x ∷ []))
    ≡ fork 0 [] (switch v (x ∷ []) (seq (x ∷ []) (is_symbol v red ∷ one_for x (signal x 2 ∷ []) ∷ []))
    (seq (x ∷ []) (is_symbol v green ∷ is_one y ∷ seq (x ∷ []) (copy x y ∷ signal x 2 ∷ []) ∷ [])) ∷ waits_and_uses x 2 ∷ [])
signal_in_arms = refl

-- `( V = red, X = 1 ; V = green, error(E) ) & use(X)`: an arm that does not bind X has no signal
no_signal_in_arm : split 0 (beside [] (switch v (x ∷ []) (seq (x ∷ []) (is_symbol v red ∷ is_one x ∷ [])) (seq_of Erroneous [] (is_symbol v green ∷ raises ∷ [])) ∷ uses x ∷ []))
    ≡ fork 0 [] (switch v (x ∷ []) (seq (x ∷ []) (is_symbol v red ∷ one_for x (signal x 2 ∷ []) ∷ [])) (seq_of Erroneous [] (is_symbol v green ∷ raises ∷ [])) ∷ waits_and_uses x 2 ∷ [])
no_signal_in_arm = refl

-- `X = 1 & ( V = red, use(X) ; V = green, use(V) )`: the wait goes into the arm that uses X; the other one does not wait
wait_in_arm : split 0 (beside [] (is_one x ∷ switch v [] (seq [] (is_symbol v red ∷ uses x ∷ [])) (seq [] (is_symbol v green ∷ uses v ∷ [])) ∷ []))
    ≡ fork 0 [] (one_for x (signal x 2 ∷ []) ∷ switch v [] (seq [] (is_symbol v red ∷ waits_and_uses x 2 ∷ [])) (seq [] (is_symbol v green ∷ uses v ∷ [])) ∷ [])
wait_in_arm = refl

-- `X = 1 & ( V = red, use(X) ; V = green, use(V) ), use(X)`: X is used behind the switch too, so the other arm waits at its end
wait_at_end_of_arm : split 0 (beside [] (is_one x ∷ seq [] (switch v [] (seq [] (is_symbol v red ∷ uses x ∷ [])) (seq [] (is_symbol v green ∷ uses v ∷ [])) ∷ uses x ∷ []) ∷ []))
    ≡ fork 0 [] (one_for x (signal x 2 ∷ []) ∷ seq [] (switch v [] (seq [] (is_symbol v red ∷ waits_and_uses x 2 ∷ []))
    (seq [] (seq [] (is_symbol v green ∷ uses v ∷ []) ∷ wait x 2 ∷ [])) ∷ uses x ∷ []) ∷ [])
wait_at_end_of_arm = refl

-- `X = 1 & ( ( V = red, use(V) ; V = green, use(V) ), use(X) )`: a switch that does not use X
wait_behind_switch : split 0 (beside [] (is_one x ∷ seq [] (switch v [] (seq [] (is_symbol v red ∷ uses v ∷ [])) (seq [] (is_symbol v green ∷ uses v ∷ [])) ∷ uses x ∷ []) ∷ []))
    ≡ fork 0 [] (one_for x (signal x 2 ∷ []) ∷ seq [] (switch v [] (seq [] (is_symbol v red ∷ uses v ∷ [])) (seq [] (is_symbol v green ∷ uses v ∷ [])) ∷ waits_and_uses x 2 ∷ []) ∷ [])
wait_behind_switch = refl

-- `f(V, X) & ( X = red, use(X) ; X = green, use(V) )`: a switch on X waits before it
wait_before_switch : split 0 (beside [] (f v x ∷ switch x [] (seq [] (is_symbol x red ∷ uses x ∷ [])) (seq [] (is_symbol x green ∷ uses v ∷ [])) ∷ []))
    ≡ fork 0 [] (seq (x ∷ []) (f v x ∷ signal x 2 ∷ []) ∷ seq [] (wait x 2 ∷ switch x [] (seq [] (is_symbol x red ∷ uses x ∷ [])) (seq [] (is_symbol x green ∷ uses v ∷ [])) ∷ []) ∷ [])
wait_before_switch = refl

-- `f(V, X) & Y = 1 & ( X = red, use(Y) ; X = green, use(V) )`: for X before the switch, for Y in the arm
waits_before_and_in_arm : split 0 (beside [] (f v x ∷ is_one y ∷ switch x [] (seq [] (is_symbol x red ∷ uses y ∷ [])) (seq [] (is_symbol x green ∷ uses v ∷ [])) ∷ []))
    ≡ fork 0 [] (seq (x ∷ []) (f v x ∷ signal x 3 ∷ []) ∷ one_for y (signal y 3 ∷ [])
    ∷ seq [] (wait x 3 ∷ switch x [] (seq [] (is_symbol x red ∷ waits_and_uses y 3 ∷ [])) (seq [] (is_symbol x green ∷ uses v ∷ [])) ∷ []) ∷ [])
waits_before_and_in_arm = refl

-- `X = 1 & Y = 1 & ( V = red, use(Y) ; V = green, both(X, Y) )`: each arm waits for what it uses
arms_wait_apart : split 0 (beside [] (is_one x ∷ is_one y ∷ switch v [] (seq [] (is_symbol v red ∷ uses y ∷ [])) (seq [] (is_symbol v green ∷ both x y ∷ [])) ∷ []))
    ≡ fork 0 [] (one_for x (signal x 3 ∷ []) ∷ one_for y (signal y 3 ∷ [])
    ∷ switch v [] (seq [] (is_symbol v red ∷ waits_and_uses y 3 ∷ [])) (seq [] (is_symbol v green ∷ seq [] (wait x 3 ∷ wait y 3 ∷ both x y ∷ []) ∷ [])) ∷ [])
arms_wait_apart = refl

-- in conditionals

-- `( if test(V) then X = 1 else ( Y = 1, X = Y ) ) & use(X)`: the signal goes into the then part and into the else part
signal_in_parts : split 0 (beside [] (if_test (x ∷ []) v (is_one x) (seq (x ∷ []) (is_one y ∷ copy x y ∷ [])) ∷ uses x ∷ []))
    ≡ fork 0 [] (if_test (x ∷ []) v (one_for x (signal x 2 ∷ [])) (seq (x ∷ []) (is_one y ∷ seq (x ∷ []) (copy x y ∷ signal x 2 ∷ []) ∷ [])) ∷ waits_and_uses x 2 ∷ [])
signal_in_parts = refl

-- `( error(E), ( if test(V) then X = 1 else ( X = 1, test(V) ) ) ) & use(X)`: no signal goes into a goal that can fail
signal_behind_failing : split 0 (beside [] (seq_of Erroneous (x ∷ []) (raises ∷ of Semidet (x ∷ []) (Conditional (test v) (is_one x) (seq_of Semidet (x ∷ []) (is_one x ∷ test v ∷ []))) ∷ [])
    ∷ uses x ∷ []))
    ≡ fork 0 [] (seq_of Erroneous (x ∷ []) (raises ∷ seq_of Semidet (x ∷ []) (of Semidet (x ∷ []) (Conditional (test v) (is_one x) (seq_of Semidet (x ∷ []) (is_one x ∷ test v ∷ [])))
    ∷ signal x 2 ∷ []) ∷ []) ∷ waits_and_uses x 2 ∷ [])
signal_behind_failing = refl

-- `X = 1 & ( if test(V) then use(X) else use(V) )`: the wait goes into the then part; the else part does not wait
wait_in_then_part : split 0 (beside [] (is_one x ∷ if_test [] v (uses x) (uses v) ∷ [])) ≡ fork 0 [] (one_for x (signal x 2 ∷ []) ∷ if_test [] v (waits_and_uses x 2) (uses v) ∷ [])
wait_in_then_part = refl

-- `X = 1 & ( if test(V) then use(V) else use(X) )`: the same of the else part
wait_in_else_part : split 0 (beside [] (is_one x ∷ if_test [] v (uses v) (uses x) ∷ [])) ≡ fork 0 [] (one_for x (signal x 2 ∷ []) ∷ if_test [] v (uses v) (waits_and_uses x 2) ∷ [])
wait_in_else_part = refl

-- `X = 1 & ( if test(V) then use(X) else use(V) ), use(X)`: X is used behind too, so the else part waits at its end
wait_at_end_of_else_part : split 0 (beside [] (is_one x ∷ seq [] (if_test [] v (uses x) (uses v) ∷ uses x ∷ []) ∷ []))
    ≡ fork 0 [] (one_for x (signal x 2 ∷ []) ∷ seq [] (if_test [] v (waits_and_uses x 2) (seq [] (uses v ∷ wait x 2 ∷ [])) ∷ uses x ∷ []) ∷ [])
wait_at_end_of_else_part = refl

-- not before the conditional
parts_or_before : fork 0 [] (one_for x (signal x 2 ∷ []) ∷ seq [] (if_test [] v (waits_and_uses x 2) (seq [] (uses v ∷ wait x 2 ∷ [])) ∷ uses x ∷ []) ∷ [])
    ≡ fork 0 [] (one_for x (signal x 2 ∷ []) ∷ seq [] (seq [] (wait x 2 ∷ if_test [] v (uses x) (uses v) ∷ []) ∷ uses x ∷ []) ∷ []) → ⊥
parts_or_before same = cc

no_wait_before_conditional : split 0 (beside [] (is_one x ∷ seq [] (if_test [] v (uses x) (uses v) ∷ uses x ∷ []) ∷ []))
    ≡ fork 0 [] (one_for x (signal x 2 ∷ []) ∷ seq [] (seq [] (wait x 2 ∷ if_test [] v (uses x) (uses v) ∷ []) ∷ uses x ∷ []) ∷ []) → ⊥
no_wait_before_conditional wrong = parts_or_before (sym wait_at_end_of_else_part ∙ wrong)

-- `X = 1 & ( if test(V) then error(E) else use(X) ), use(X)`: so does a part whose end is never reached
wait_at_end_of_erroneous_part : split 0 (beside [] (is_one x ∷ seq [] (if_test [] v raises (uses x) ∷ uses x ∷ []) ∷ []))
    ≡ fork 0 [] (one_for x (signal x 2 ∷ []) ∷ seq [] (if_test [] v (seq_of Erroneous [] (raises ∷ wait x 2 ∷ [])) (waits_and_uses x 2) ∷ uses x ∷ []) ∷ [])
wait_at_end_of_erroneous_part = refl

-- `X = 1 & ( if test(X) then use(X) else use(V) )`: the condition uses X, so the wait stands before the whole
wait_before_condition : split 0 (beside [] (is_one x ∷ if_test [] x (uses x) (uses v) ∷ [])) ≡ fork 0 [] (one_for x (signal x 2 ∷ []) ∷ seq [] (wait x 2 ∷ if_test [] x (uses x) (uses v) ∷ []) ∷ [])
wait_before_condition = refl

-- `X = 1 & Y = 1 & ( if test(X) then use(Y) else use(V) )`: for X before the whole, for Y in the then part
waits_before_and_in_part : split 0 (beside [] (is_one x ∷ is_one y ∷ if_test [] x (uses y) (uses v) ∷ []))
    ≡ fork 0 [] (one_for x (signal x 3 ∷ []) ∷ one_for y (signal y 3 ∷ []) ∷ seq [] (wait x 3 ∷ if_test [] x (waits_and_uses y 3) (uses v) ∷ []) ∷ [])
waits_before_and_in_part = refl

-- `X = 1 & ( if test(V) then ( if test(V) then use(X) else use(V) ) else use(V) ), use(X)`: each way waits exactly once
wait_on_each_way : split 0 (beside [] (is_one x ∷ seq [] (if_test [] v (if_test [] v (uses x) (uses v)) (uses v) ∷ uses x ∷ []) ∷ []))
    ≡ fork 0 [] (one_for x (signal x 2 ∷ []) ∷ seq [] (if_test [] v (if_test [] v (waits_and_uses x 2) (seq [] (uses v ∷ wait x 2 ∷ []))) (seq [] (uses v ∷ wait x 2 ∷ [])) ∷ uses x ∷ []) ∷ [])
wait_on_each_way = refl

-- `X = 1 & some [Y] ( V = red, Y = 1, both(X, Y) ; V = green, use(V) ), use(X)`: through a quantifier into an arm, and at the end of the other
wait_through_some : split 0 (beside [] (is_one x ∷ seq [] (some (y ∷ []) [] (switch v [] (seq [] (is_symbol v red ∷ is_one y ∷ both x y ∷ [])) (seq [] (is_symbol v green ∷ uses v ∷ [])))
    ∷ uses x ∷ []) ∷ []))
    ≡ fork 0 [] (one_for x (signal x 2 ∷ []) ∷ seq [] (some (y ∷ []) [] (switch v [] (seq [] (is_symbol v red ∷ is_one y ∷ seq [] (wait x 2 ∷ both x y ∷ []) ∷ []))
    (seq [] (seq [] (is_symbol v green ∷ uses v ∷ []) ∷ wait x 2 ∷ []))) ∷ uses x ∷ []) ∷ [])
wait_through_some = refl

-- `( if ( X = 1 & use(X) ), test(V) then use(V) else use(V) )`: an `&` inside a condition
fork_in_condition : split 0 (of Det [] (Conditional (seq_of Semidet [] (beside [] (is_one x ∷ uses x ∷ []) ∷ test v ∷ [])) (uses v) (uses v)))
    ≡ of Det [] (Conditional (seq_of Semidet [] (fork 0 [] (one_for x (signal x 2 ∷ []) ∷ waits_and_uses x 2 ∷ []) ∷ test v ∷ [])) (uses v) (uses v))
fork_in_condition = refl

-- rights to wait, where a conjunct has an `&` of its own

-- `X = 1 & ( use(X) & use(V) )`: the right moves into the one conjunct that uses X; the number stays that of the outer conjunct
wait_moves : split 0 (beside [] (is_one x ∷ beside [] (uses x ∷ uses v ∷ []) ∷ [])) ≡ fork 0 [] (one_for x (signal x 2 ∷ []) ∷ fork 1 [] (waits_and_uses x 2 ∷ uses v ∷ []) ∷ [])
wait_moves = refl

-- `X = 1 & ( use(X) & use(X) )`: two conjuncts use X, so the wait stands before the inner `&`
wait_stays_for_two : split 0 (beside [] (is_one x ∷ beside [] (uses x ∷ uses x ∷ []) ∷ []))
    ≡ fork 0 [] (one_for x (signal x 2 ∷ []) ∷ seq [] (wait x 2 ∷ fork 1 [] (uses x ∷ uses x ∷ []) ∷ []) ∷ [])
wait_stays_for_two = refl

-- `X = 1 & ( ( use(X) & use(V) ), use(X) )`: X is used later, so the wait stands before the inner `&`
wait_stays_for_later : split 0 (beside [] (is_one x ∷ seq [] (beside [] (uses x ∷ uses v ∷ []) ∷ uses x ∷ []) ∷ []))
    ≡ fork 0 [] (one_for x (signal x 2 ∷ []) ∷ seq [] (seq [] (wait x 2 ∷ fork 1 [] (uses x ∷ uses v ∷ []) ∷ []) ∷ uses x ∷ []) ∷ [])
wait_stays_for_later = refl

-- `X = 1 & ( use(X), ( use(X) & use(V) ) )`: what is waited for has its value behind the wait, in an `&` too
waited_before : split 0 (beside [] (is_one x ∷ seq [] (uses x ∷ beside [] (uses x ∷ uses v ∷ []) ∷ []) ∷ []))
    ≡ fork 0 [] (one_for x (signal x 2 ∷ []) ∷ seq [] (waits_and_uses x 2 ∷ fork 1 [] (uses x ∷ uses v ∷ []) ∷ []) ∷ [])
waited_before = refl

-- `X = 1 & ( use(V) & ( use(X) & use(V) ) )`: the right moves on into the next `&`
wait_moves_twice : split 0 (beside [] (is_one x ∷ beside [] (uses v ∷ beside [] (uses x ∷ uses v ∷ []) ∷ []) ∷ []))
    ≡ fork 0 [] (one_for x (signal x 2 ∷ []) ∷ fork 1 [] (uses v ∷ fork 2 [] (waits_and_uses x 2 ∷ uses v ∷ []) ∷ []) ∷ [])
wait_moves_twice = refl

-- `X = 1 & ( Y = 1 & both(X, Y) )`: for the cell of the inner `&` first, then for what moved in
own_before_moved : split 0 (beside [] (is_one x ∷ beside [] (is_one y ∷ both x y ∷ []) ∷ []))
    ≡ fork 0 [] (one_for x (signal x 2 ∷ []) ∷ fork 1 [] (one_for y (signal y 2 ∷ []) ∷ seq [] (wait y 2 ∷ wait x 2 ∷ both x y ∷ []) ∷ []) ∷ [])
own_before_moved = refl

-- `X = 1 & Y = 1 & ( both(X, Y) & use(Y) )`: the right to wait for X moves, that for Y stays
one_moves_one_stays : split 0 (beside [] (is_one x ∷ is_one y ∷ beside [] (both x y ∷ uses y ∷ []) ∷ []))
    ≡ fork 0 [] (one_for x (signal x 3 ∷ []) ∷ one_for y (signal y 3 ∷ []) ∷ seq [] (wait y 3 ∷ fork 1 [] (seq [] (wait x 3 ∷ both x y ∷ []) ∷ uses y ∷ []) ∷ []) ∷ [])
one_moves_one_stays = refl

-- `X = 1 & ( if test(V) then ( use(X) & use(V) ) else ( use(X) & use(X) ) )`: it moves in the one part and stays in the other
wait_moves_in_part : split 0 (beside [] (is_one x ∷ if_test [] v (beside [] (uses x ∷ uses v ∷ [])) (beside [] (uses x ∷ uses x ∷ [])) ∷ []))
    ≡ fork 0 [] (one_for x (signal x 2 ∷ []) ∷ if_test [] v (fork 1 [] (waits_and_uses x 2 ∷ uses v ∷ [])) (seq [] (wait x 2 ∷ fork 2 [] (uses x ∷ uses x ∷ []) ∷ [])) ∷ [])
wait_moves_in_part = refl

-- `X = 1 & ( if test(V) then ( use(X) & use(V) ) else use(V) ), use(X)`: X is used behind, so the wait stands before the inner `&` and at the other's end
wait_stays_in_part : split 0 (beside [] (is_one x ∷ seq [] (if_test [] v (beside [] (uses x ∷ uses v ∷ [])) (uses v) ∷ uses x ∷ []) ∷ []))
    ≡ fork 0 [] (one_for x (signal x 2 ∷ []) ∷ seq [] (if_test [] v (seq [] (wait x 2 ∷ fork 1 [] (uses x ∷ uses v ∷ []) ∷ [])) (seq [] (uses v ∷ wait x 2 ∷ [])) ∷ uses x ∷ []) ∷ [])
wait_stays_in_part = refl

-- rights to signal, where a conjunct has an `&` of its own

-- `( X = 1 & use(V) ) & use(X)`: the right moves into the conjunct that binds X. X is an output of the inner `&`, whose parent waits for it.
signal_moves : split 0 (beside [] (beside (x ∷ []) (is_one x ∷ uses v ∷ []) ∷ uses x ∷ []))
    ≡ fork 0 [] (seq (x ∷ []) (fork 1 (x ∷ []) (one_for x (signal x 2 ∷ signal x 0 ∷ []) ∷ uses v ∷ []) ∷ wait x 0 ∷ []) ∷ waits_and_uses x 2 ∷ [])
signal_moves = refl

-- `( X = 1 & use(X) ) & use(X)`: two cells with the number 2, that of the inner `&` first
own_signal_first : split 0 (beside [] (beside (x ∷ []) (is_one x ∷ uses x ∷ []) ∷ uses x ∷ []))
    ≡ fork 0 [] (seq (x ∷ []) (fork 1 (x ∷ []) (one_for x (signal x 2 ∷ signal x 2 ∷ signal x 0 ∷ []) ∷ waits_and_uses x 2 ∷ []) ∷ wait x 0 ∷ []) ∷ waits_and_uses x 2 ∷ [])
own_signal_first = refl

-- `( X = 1 & use(V) & use(X) ) & use(X)`: in the order of the numbers, so what moved in with 2 stands before the own one with 3
numbers_in_order : split 0 (beside [] (beside (x ∷ []) (is_one x ∷ uses v ∷ uses x ∷ []) ∷ uses x ∷ []))
    ≡ fork 0 [] (seq (x ∷ []) (fork 1 (x ∷ []) (one_for x (signal x 2 ∷ signal x 3 ∷ signal x 0 ∷ []) ∷ uses v ∷ waits_and_uses x 3 ∷ []) ∷ wait x 0 ∷ []) ∷ waits_and_uses x 2 ∷ [])
numbers_in_order = refl

-- `( X = 1 & use(X) & use(X) ) & use(V) & use(X)`: own 2 and 3, moved 3, own 0
numbers_meet : split 0 (beside [] (beside (x ∷ []) (is_one x ∷ uses x ∷ uses x ∷ []) ∷ uses v ∷ uses x ∷ []))
    ≡ fork 0 [] (seq (x ∷ []) (fork 1 (x ∷ []) (one_for x (signal x 2 ∷ signal x 3 ∷ signal x 3 ∷ signal x 0 ∷ []) ∷ waits_and_uses x 2 ∷ waits_and_uses x 3 ∷ []) ∷ wait x 0 ∷ [])
    ∷ uses v ∷ waits_and_uses x 3 ∷ [])
numbers_meet = refl

-- `( X = 1 & use(X) ) & use(X)`, and X is used behind: both cells with the number 0 are the last ones
behind_comes_last : split 0 (beside (x ∷ []) (beside (x ∷ []) (is_one x ∷ uses x ∷ []) ∷ uses x ∷ []))
    ≡ seq (x ∷ []) (fork 0 (x ∷ []) (seq (x ∷ []) (fork 1 (x ∷ []) (one_for x (signal x 2 ∷ signal x 2 ∷ signal x 0 ∷ signal x 0 ∷ []) ∷ waits_and_uses x 2 ∷ []) ∷ wait x 0 ∷ [])
    ∷ waits_and_uses x 2 ∷ []) ∷ wait x 0 ∷ [])
behind_comes_last = refl

-- `( X = 1 & Y = 1 ) & both(X, Y)`: each right moves into the conjunct that binds its variable
signals_move_apart : split 0 (beside [] (beside (x ∷ y ∷ []) (is_one x ∷ is_one y ∷ []) ∷ both x y ∷ []))
    ≡ fork 0 [] (seq (x ∷ y ∷ []) (fork 1 (x ∷ y ∷ []) (one_for x (signal x 2 ∷ signal x 0 ∷ []) ∷ one_for y (signal y 2 ∷ signal y 0 ∷ []) ∷ []) ∷ wait x 0 ∷ wait y 0 ∷ [])
    ∷ seq [] (wait x 2 ∷ wait y 2 ∷ both x y ∷ []) ∷ [])
signals_move_apart = refl

-- `( two(X, Y) & use(X) ) & use(Y)`: X is no output of the inner `&` and has its own cell alone
inner_variable : split 0 (beside [] (beside (y ∷ []) (two x y ∷ uses x ∷ []) ∷ uses y ∷ []))
    ≡ fork 0 [] (seq (y ∷ []) (fork 1 (y ∷ []) (seq (x ∷ y ∷ []) (two x y ∷ signal x 2 ∷ signal y 2 ∷ signal y 0 ∷ []) ∷ waits_and_uses x 2 ∷ []) ∷ wait y 0 ∷ []) ∷ waits_and_uses y 2 ∷ [])
inner_variable = refl

-- `( ( X = 1 & use(V) ) & use(V) ) & use(X)`: the right to signal to the outermost moves twice; the two parents behind wait each for its own 0
signal_moves_twice : split 0 (beside [] (beside (x ∷ []) (beside (x ∷ []) (is_one x ∷ uses v ∷ []) ∷ uses v ∷ []) ∷ uses x ∷ []))
    ≡ fork 0 [] (seq (x ∷ []) (fork 1 (x ∷ []) (seq (x ∷ []) (fork 2 (x ∷ []) (one_for x (signal x 2 ∷ signal x 0 ∷ signal x 0 ∷ []) ∷ uses v ∷ []) ∷ wait x 0 ∷ []) ∷ uses v ∷ []) ∷ wait x 0 ∷ [])
    ∷ waits_and_uses x 2 ∷ [])
signal_moves_twice = refl

-- `( if test(V) then ( X = 1 & use(V) ) else X = 1 ) & use(X)`: into the `&` of the one part, and behind the goal of the other
signal_moves_in_part : split 0 (beside [] (if_test (x ∷ []) v (beside (x ∷ []) (is_one x ∷ uses v ∷ [])) (is_one x) ∷ uses x ∷ []))
    ≡ fork 0 [] (if_test (x ∷ []) v (seq (x ∷ []) (fork 1 (x ∷ []) (one_for x (signal x 2 ∷ signal x 0 ∷ []) ∷ uses v ∷ []) ∷ wait x 0 ∷ [])) (one_for x (signal x 2 ∷ []))
    ∷ waits_and_uses x 2 ∷ [])
signal_moves_in_part = refl

-- `X = 1 & ( Y = X & use(V) ) & use(Y)`: the inner conjunct waits for what moved in, and signals to the outer one and to its parent
both_move : split 0 (beside [] (is_one x ∷ beside (y ∷ []) (copy y x ∷ uses v ∷ []) ∷ uses y ∷ []))
    ≡ fork 0 [] (one_for x (signal x 2 ∷ []) ∷ seq (y ∷ []) (fork 1 (y ∷ []) (seq (y ∷ []) (wait x 2 ∷ copy y x ∷ signal y 3 ∷ signal y 0 ∷ []) ∷ uses v ∷ []) ∷ wait y 0 ∷ [])
    ∷ waits_and_uses y 3 ∷ [])
both_move = refl

-- sites

-- `( use(V) & use(V) ), ( use(V) & use(V) )`: in the order of the text
sites_in_turn : split 5 (seq [] (beside [] (uses v ∷ uses v ∷ []) ∷ beside [] (uses v ∷ uses v ∷ []) ∷ [])) ≡ seq [] (fork 5 [] (uses v ∷ uses v ∷ []) ∷ fork 6 [] (uses v ∷ uses v ∷ []) ∷ [])
sites_in_turn = refl

-- `( use(V) & use(V) ) & ( use(V) & use(V) )`: the outer one before those inside it
outer_site_first : split 0 (beside [] (beside [] (uses v ∷ uses v ∷ []) ∷ beside [] (uses v ∷ uses v ∷ []) ∷ []))
    ≡ fork 0 [] (fork 1 [] (uses v ∷ uses v ∷ []) ∷ fork 2 [] (uses v ∷ uses v ∷ []) ∷ [])
outer_site_first = refl

-- a condition, then and else part, each with an `&`, and then one behind them
sites_of_parts : split 0 (seq [] (of Det [] (Conditional (seq_of Semidet [] (beside [] (uses v ∷ uses v ∷ []) ∷ test v ∷ [])) (beside [] (uses v ∷ uses v ∷ [])) (beside [] (uses v ∷ uses v ∷ [])))
    ∷ beside [] (uses v ∷ uses v ∷ []) ∷ []))
    ≡ seq [] (of Det [] (Conditional (seq_of Semidet [] (fork 0 [] (uses v ∷ uses v ∷ []) ∷ test v ∷ [])) (fork 1 [] (uses v ∷ uses v ∷ [])) (fork 2 [] (uses v ∷ uses v ∷ [])))
    ∷ fork 3 [] (uses v ∷ uses v ∷ []) ∷ [])
sites_of_parts = refl

-- the trees of a program, one after the other
sites_of_program : all_split 0 (beside [] (uses v ∷ uses v ∷ []) ∷ uses v ∷ beside [] (uses v ∷ uses v ∷ []) ∷ [])
    ≡ fork 0 [] (uses v ∷ uses v ∷ []) ∷ uses v ∷ fork 1 [] (uses v ∷ uses v ∷ []) ∷ []
sites_of_program = refl

-- an `&` does not stay without a site
never_without_site : split 0 (beside [] (uses v ∷ uses v ∷ [])) ≡ beside [] (uses v ∷ uses v ∷ []) → ⊥
never_without_site wrong = cc
