-- The variables of ordered goals as lists, and environments with no others.
use Rattle.std.specs.Prelude.{ℕ, List, [], ◌∷◌, ◌++◌}
use Rattle.merc_graded_tree.specs.Nodes.{Node, node, Goal, Basic, Conjunction, Disjunction, Switch, Conditional, Negation, Quantified, Nodes, no_nodes, more_nodes, Arms, no_arms, more_arms}
use Rattle.merc_graded_tree.specs.Variables.{variables_of}
use Rattle.merc_meaning.specs.Trace.{Env}
use Rattle.merc_meaning.specs.Steps.{value_at, with_entry}

-- the variables that occur in a goal, each as often as it does; a quantifier's list is no occurrence
abbrev mutual
  pub goal_variables : Goal → List ℕ
  goal_variables (Basic goal) = variables_of goal
  goal_variables (Conjunction running goals) = all_variables goals
  goal_variables (Disjunction goals) = all_variables goals
  goal_variables (Switch variable arms) = variable ∷ arms_variables arms
  goal_variables (Conditional condition then_part else_part) = node_variables condition ++ (node_variables then_part ++ node_variables else_part)
  goal_variables (Negation goal) = node_variables goal
  goal_variables (Quantified own goal) = node_variables goal

  pub node_variables : Node → List ℕ
  node_variables (node goal outputs category span) = goal_variables goal

  pub all_variables : Nodes → List ℕ
  all_variables no_nodes = []
  all_variables (more_nodes first rest) = node_variables first ++ all_variables rest

  pub arms_variables : Arms → List ℕ
  arms_variables no_arms = []
  arms_variables (more_arms symbol body rest) = node_variables body ++ arms_variables rest

-- the environment with the entries of these variables alone
abbrev pub only : List ℕ → Env → Env
only [] env = []
only (variable ∷ variables) env = with_entry (only variables env) variable (value_at env variable)
