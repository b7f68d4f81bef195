-- The variables of a few ordered goals, and environments with no others.
use Rattle.std.specs.Prelude.{◌≡◌, ℕ, [], ◌∷◌, None, refl}
use Rattle.merc_tree.specs.Term.{no_span}
use Rattle.merc_goal_tree.specs.declared.goal.Symbol.TheVariants.{Constructor}
use Rattle.merc_graded_tree.specs.declared.basic.BasicGoal.TheVariants.{Raise, Assign, Wait, Signal}
use Rattle.merc_graded_tree.specs.declared.entries.Running.TheVariants.{Sequential, Parallel}
use Rattle.merc_graded_tree.specs.Nodes.{Node, node, Goal, Basic, Conjunction, Disjunction, Switch, Conditional, Negation, Quantified, nodes_of, no_arms, more_arms}
use Rattle.merc_course.specs.Variables.{goal_variables, node_variables, all_variables, arms_variables, only}
use Rattle.merc_course.specs.CourseExamples.{int}

abbrev of : Goal → Node
of goal = node goal (9 ∷ []) None no_span

abbrev raise : ℕ → Node
raise variable = of (Basic (Raise variable))

basic : goal_variables (Basic (Assign 1 2)) ≡ 1 ∷ 2 ∷ []
basic = refl

-- of what is waited for and handed on too
meeting : all_variables (nodes_of (of (Basic (Wait 3 2)) ∷ of (Basic (Signal 4 0)) ∷ [])) ≡ 3 ∷ 4 ∷ []
meeting = refl

conjunction : goal_variables (Conjunction Sequential (nodes_of (raise 1 ∷ raise 2 ∷ raise 1 ∷ []))) ≡ 1 ∷ 2 ∷ 1 ∷ []
conjunction = refl

beside : goal_variables (Conjunction (Parallel None) (nodes_of (raise 1 ∷ raise 2 ∷ []))) ≡ 1 ∷ 2 ∷ []
beside = refl

disjunction : goal_variables (Disjunction (nodes_of (raise 1 ∷ raise 2 ∷ []))) ≡ 1 ∷ 2 ∷ []
disjunction = refl

switch : goal_variables (Switch 4 (more_arms (Constructor 200 0) (raise 1) (more_arms (Constructor 201 0) (raise 2) no_arms))) ≡ 4 ∷ 1 ∷ 2 ∷ []
switch = refl

arms : arms_variables (more_arms (Constructor 200 0) (raise 1) no_arms) ≡ 1 ∷ []
arms = refl

conditional : goal_variables (Conditional (raise 1) (raise 2) (raise 3)) ≡ 1 ∷ 2 ∷ 3 ∷ []
conditional = refl

negation : goal_variables (Negation (raise 1)) ≡ 1 ∷ []
negation = refl

quantified : node_variables (of (Quantified (8 ∷ []) (raise 5))) ≡ 5 ∷ []
quantified = refl

list_is_none : node_variables (of (Quantified (8 ∷ []) (raise 5))) ≡ 8 ∷ 5 ∷ [] → ⊥
list_is_none wrong = cc

only-example : only (2 ∷ 0 ∷ []) (int 4 ∷ int 5 ∷ int 6 ∷ int 7 ∷ []) ≡ int 4 ∷ None ∷ int 6 ∷ []
only-example = refl

-- a variable without a value has none there either
only-unbound : only (1 ∷ []) (int 4 ∷ []) ≡ None ∷ None ∷ []
only-unbound = refl

only-not : only (2 ∷ 0 ∷ []) (int 4 ∷ int 5 ∷ int 6 ∷ []) ≡ int 4 ∷ int 5 ∷ int 6 ∷ [] → ⊥
only-not all_of_them = cc
