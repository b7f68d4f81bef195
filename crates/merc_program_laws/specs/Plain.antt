-- Goals in flat form read as ordered goals: a unification is an equality, which has no direction yet, and a call has no mode yet.
use Rattle.std.specs.Prelude.{[], None}
use Rattle.merc_goal_tree.specs.declared.goal.SimpleGoal.{SimpleGoal}
use Rattle.merc_goal_tree.specs.declared.goal.SimpleGoal.TheVariants.{True, Fail, Same, Shape, Arithmetic, Compare, Raise, Call}
use Rattle.merc_goal_tree.specs.Nodes.{Node, Nodes, Simple, Conjunction, Parallel, Disjunction, Conditional, Negation, Quantified, no_nodes, more_nodes}
use Rattle.merc_graded_tree.specs.declared.basic.BasicGoal.{BasicGoal}
use Rattle.merc_graded_tree.specs.declared.basic.BasicGoal.TheVariants.{True as TrueGoal, Fail as FailGoal, Test, Split, Arithmetic as ArithmeticGoal, Compare as CompareGoal, Raise as RaiseGoal, Call as CallGoal}
use Rattle.merc_graded_tree.specs.declared.entries.Running.TheVariants.{Sequential, Parallel as Beside}
use Rattle.merc_graded_tree.specs.Nodes.{Node as OrderedNode, node, Nodes as OrderedNodes, Basic, Conjunction as OrderedConjunction, Disjunction as OrderedDisjunction, Conditional as OrderedConditional, Negation as OrderedNegation, Quantified as OrderedQuantified, no_nodes as no_ordered, more_nodes as more_ordered}

-- a call has the mode 0 until it has its own
abbrev pub plain_goal : SimpleGoal → BasicGoal
plain_goal True = TrueGoal
plain_goal Fail = FailGoal
plain_goal (Same one other) = Test one other
plain_goal (Shape whole symbol arguments) = Split whole symbol arguments
plain_goal (Arithmetic operation result left right) = ArithmeticGoal operation result left right
plain_goal (Compare comparison left right) = CompareGoal comparison left right
plain_goal (Raise text) = RaiseGoal text
plain_goal (Call predicate arguments) = CallGoal (record { predicate = predicate; mode = 0 }) arguments

-- outputs and categories are not known yet; truth asks for neither
abbrev mutual
  pub plain : Node → OrderedNode
  plain (Simple goal span) = node (Basic (plain_goal goal)) [] None span
  plain (Conjunction goals span) = node (OrderedConjunction Sequential (plain_all goals)) [] None span
  plain (Parallel goals span) = node (OrderedConjunction (Beside None) (plain_all goals)) [] None span
  plain (Disjunction goals span) = node (OrderedDisjunction (plain_all goals)) [] None span
  plain (Conditional condition then_part else_part span) = node (OrderedConditional (plain condition) (plain then_part) (plain else_part)) [] None span
  plain (Negation goal span) = node (OrderedNegation (plain goal)) [] None span
  plain (Quantified own goal span) = node (OrderedQuantified own (plain goal)) [] None span

  pub plain_all : Nodes → OrderedNodes
  plain_all no_nodes = no_ordered
  plain_all (more_nodes first rest) = more_ordered (plain first) (plain_all rest)
