-- The variables of a few ordered goals.
use Rattle.std.specs.Prelude.{◌≡◌, ℕ, true, [], ◌∷◌, refl, None}
use Rattle.merc_tree.specs.Term.{no_span}
use Rattle.merc_goal_tree.specs.declared.goal.Comparison.TheVariants.{Less}
use Rattle.merc_goal_tree.specs.declared.goal.Operation.TheVariants.{Add}
use Rattle.merc_goal_tree.specs.declared.goal.Symbol.TheVariants.{Constructor}
use Rattle.merc_graded_tree.specs.declared.basic.BasicGoal.TheVariants.{Assign, Test, Build, Split, Arithmetic, Compare, Raise, Call, Wait, Signal}
use Rattle.merc_graded_tree.specs.declared.entries.Running.TheVariants.{Sequential}
use Rattle.merc_graded_tree.specs.Nodes.{Node, node, Goal, Basic, Conjunction, Disjunction, Switch, Conditional, Negation, Quantified, nodes_of, no_arms, more_arms}
use Rattle.merc_graded_tree.specs.Variables.{variables_of, among, in_goal, in_node}

assign : variables_of (Assign 1 2) ≡ 1 ∷ 2 ∷ []
assign = refl

test : variables_of (Test 1 2) ≡ 1 ∷ 2 ∷ []
test = refl

build : variables_of (Build 1 (Constructor 200 2) (2 ∷ 3 ∷ [])) ≡ 1 ∷ 2 ∷ 3 ∷ []
build = refl

split : variables_of (Split 1 (Constructor 200 2) (2 ∷ 3 ∷ [])) ≡ 1 ∷ 2 ∷ 3 ∷ []
split = refl

arithmetic : variables_of (Arithmetic Add 1 2 3) ≡ 1 ∷ 2 ∷ 3 ∷ []
arithmetic = refl

comparison : variables_of (Compare Less 1 2) ≡ 1 ∷ 2 ∷ []
comparison = refl

raised : variables_of (Raise 1) ≡ 1 ∷ []
raised = refl

called : variables_of (Call (record { predicate = 7; mode = 8 }) (1 ∷ 2 ∷ [])) ≡ 1 ∷ 2 ∷ []
called = refl

waited : variables_of (Wait 1 2) ≡ 1 ∷ []
waited = refl

signalled : variables_of (Signal 1 2) ≡ 1 ∷ []
signalled = refl

procedure_is_none : variables_of (Call (record { predicate = 7; mode = 8 }) (1 ∷ [])) ≡ 7 ∷ 1 ∷ [] → ⊥
procedure_is_none wrong = cc

is_among : among (1 ∷ 2 ∷ []) 2 ≡ true
is_among = refl

is_not_among : among (1 ∷ 2 ∷ []) 3 ≡ true → ⊥
is_not_among wrong = cc

abbrev of : Goal → Node
of goal = node goal (9 ∷ []) None no_span

abbrev raise : ℕ → Node
raise variable = of (Basic (Raise variable))

-- `( not r(1) -> r(2) ; r(3) )`, in a switch on 4, and in it `some [8] r(5)`
abbrev whole : Goal
whole = Switch 4 (more_arms (Constructor 200 0) (of (Conditional (of (Negation (raise 1))) (raise 2) (raise 3)))
    (more_arms (Constructor 201 0) (of (Disjunction (nodes_of (of (Conjunction Sequential (nodes_of (raise 6 ∷ raise 7 ∷ []))) ∷ of (Quantified (8 ∷ []) (raise 5)) ∷ [])))) no_arms))

in_negation : in_goal whole 1 ≡ true
in_negation = refl

in_then_part : in_goal whole 2 ≡ true
in_then_part = refl

in_else_part : in_goal whole 3 ≡ true
in_else_part = refl

switched : in_goal whole 4 ≡ true
switched = refl

in_quantified : in_goal whole 5 ≡ true
in_quantified = refl

in_conjunction : in_goal whole 6 ≡ true
in_conjunction = refl

in_last_conjunct : in_goal whole 7 ≡ true
in_last_conjunct = refl

list_is_none : in_goal whole 8 ≡ true → ⊥
list_is_none wrong = cc

outputs_are_none : in_node (raise 1) 9 ≡ true → ⊥
outputs_are_none wrong = cc
