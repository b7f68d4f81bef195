-- The goals that hold no others in a goal, as it is written and as it is ordered.
use Rattle.std.specs.Prelude.{List, [], ◌∷◌, ◌++◌}
use Rattle.merc_goal_tree.specs.declared.goal.SimpleGoal.{SimpleGoal}
use Rattle.merc_goal_tree.specs.declared.goal.SimpleGoal.TheVariants.{True, Fail, Same, Shape, Arithmetic, Compare, Raise, Call}
use Rattle.merc_goal_tree.specs.Nodes.{Node, Nodes, Simple, Conjunction, Parallel, Disjunction, Conditional, Negation, Quantified, no_nodes, more_nodes}
use Rattle.merc_graded_tree.specs.declared.basic.BasicGoal.{BasicGoal}
use Rattle.merc_graded_tree.specs.declared.basic.BasicGoal.TheVariants.{True as TrueBasic, Fail as FailBasic, Assign, Test, Build, Split, Arithmetic as ArithmeticBasic, Compare as CompareBasic, Raise as RaiseBasic, Call as CallBasic, Wait, Signal}
use Rattle.merc_graded_tree.specs.Nodes.{Node as OrderedNode, node, Goal, Basic, Conjunction as OrderedConjunction, Disjunction as OrderedDisjunction, Switch, Conditional as OrderedConditional, Negation as OrderedNegation, Quantified as OrderedQuantified, Nodes as OrderedNodes, no_nodes as no_ordered, more_nodes as more_ordered, Arms, no_arms, more_arms}

abbrev mutual
  pub simple_goals : Node → List SimpleGoal
  simple_goals (Simple goal span) = goal ∷ []
  simple_goals (Conjunction goals span) = all_simple_goals goals
  simple_goals (Parallel goals span) = all_simple_goals goals
  simple_goals (Disjunction goals span) = all_simple_goals goals
  simple_goals (Conditional condition then_part else_part span) = simple_goals condition ++ (simple_goals then_part ++ simple_goals else_part)
  simple_goals (Negation goal span) = simple_goals goal
  simple_goals (Quantified own goal span) = simple_goals goal

  pub all_simple_goals : Nodes → List SimpleGoal
  all_simple_goals no_nodes = []
  all_simple_goals (more_nodes first rest) = simple_goals first ++ all_simple_goals rest

abbrev mutual
  pub basic_goals : OrderedNode → List BasicGoal
  basic_goals (node goal outputs category span) = basic_goals_in goal

  pub basic_goals_in : Goal → List BasicGoal
  basic_goals_in (Basic goal) = goal ∷ []
  basic_goals_in (OrderedConjunction running goals) = all_basic_goals goals
  basic_goals_in (OrderedDisjunction goals) = all_basic_goals goals
  basic_goals_in (Switch variable arms) = arm_basic_goals arms
  basic_goals_in (OrderedConditional condition then_part else_part) = basic_goals condition ++ (basic_goals then_part ++ basic_goals else_part)
  basic_goals_in (OrderedNegation goal) = basic_goals goal
  basic_goals_in (OrderedQuantified own goal) = basic_goals goal

  pub all_basic_goals : OrderedNodes → List BasicGoal
  all_basic_goals no_ordered = []
  all_basic_goals (more_ordered first rest) = basic_goals first ++ all_basic_goals rest

  pub arm_basic_goals : Arms → List BasicGoal
  arm_basic_goals no_arms = []
  arm_basic_goals (more_arms symbol body rest) = basic_goals body ++ arm_basic_goals rest

-- An ordered goal as it would be written: an assignment and a test are unifications of two variables, a construction and a split one with a symbol, and a
-- call has no mode. Waits and signals are not written.
abbrev pub written_goal : BasicGoal → SimpleGoal
written_goal TrueBasic = True
written_goal FailBasic = Fail
written_goal (Assign to from) = Same to from
written_goal (Test one other) = Same one other
written_goal (Build whole symbol arguments) = Shape whole symbol arguments
written_goal (Split whole symbol arguments) = Shape whole symbol arguments
written_goal (ArithmeticBasic operation result left right) = Arithmetic operation result left right
written_goal (CompareBasic comparison left right) = Compare comparison left right
written_goal (RaiseBasic text) = Raise text
written_goal (CallBasic procedure arguments) = Call procedure.predicate arguments
written_goal (Wait variable conjunct) = True
written_goal (Signal variable conjunct) = True
