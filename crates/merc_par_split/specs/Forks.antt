-- How many parallel conjunctions a goal has.
use Rattle.std.specs.Prelude.{ℕ, suc, ◌+◌}
use Rattle.merc_graded_tree.specs.declared.entries.Running.TheVariants.{Sequential, Parallel}
use Rattle.merc_graded_tree.specs.Nodes.{Node, node, Goal, Basic, Conjunction, Disjunction, Switch, Conditional, Negation, Quantified, Nodes, no_nodes, more_nodes, Arms, no_arms, more_arms}

abbrev mutual
  pub forks : Node → ℕ
  forks (node goal outputs category span) = goal_forks goal

  pub goal_forks : Goal → ℕ
  goal_forks (Basic goal) = 0
  goal_forks (Conjunction Sequential goals) = all_forks goals
  goal_forks (Conjunction (Parallel site) goals) = suc (all_forks goals)
  goal_forks (Disjunction goals) = all_forks goals
  goal_forks (Switch variable arms) = arm_forks arms
  goal_forks (Conditional condition then_part else_part) = forks condition + (forks then_part + forks else_part)
  goal_forks (Negation goal) = forks goal
  goal_forks (Quantified own goal) = forks goal

  pub all_forks : Nodes → ℕ
  all_forks no_nodes = 0
  all_forks (more_nodes first rest) = forks first + all_forks rest

  pub arm_forks : Arms → ℕ
  arm_forks no_arms = 0
  arm_forks (more_arms symbol body rest) = forks body + arm_forks rest
