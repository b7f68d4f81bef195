-- How many tasks a goal's code takes at most.
use Rattle.std.specs.Prelude.{ℕ, suc, ◌+◌, List, [], ◌∷◌}
use Rattle.merc_graded_tree.specs.Nodes.{Node, node, Goal, Basic, Conjunction, Disjunction, Switch, Conditional, Negation, Quantified, Nodes, no_nodes, more_nodes, Arms, no_arms, more_arms}

-- A goal takes its own turn, those of the goals that it joins, and up to three for each of these.
abbrev mutual
  pub node_turns : Node → ℕ
  node_turns (node goal outputs category span) = suc (suc (goal_turns goal))

  pub goal_turns : Goal → ℕ
  goal_turns (Basic goal) = 0
  goal_turns (Conjunction running goals) = suc (joined_turns goals)
  goal_turns (Disjunction goals) = joined_turns goals
  goal_turns (Switch variable arms) = arms_turns arms
  goal_turns (Conditional condition then_part else_part) = suc (suc (suc (suc (suc (node_turns condition + (node_turns then_part + node_turns else_part))))))
  goal_turns (Negation goal) = suc (node_turns goal)
  goal_turns (Quantified own goal) = suc (suc (suc (node_turns goal)))

  pub joined_turns : Nodes → ℕ
  joined_turns no_nodes = 0
  joined_turns (more_nodes first rest) = suc (suc (suc (node_turns first + joined_turns rest)))

  pub arms_turns : Arms → ℕ
  arms_turns no_arms = 0
  arms_turns (more_arms symbol body rest) = suc (suc (suc (node_turns body + arms_turns rest)))

-- the same of goals in a list
abbrev pub list_turns : List Node → ℕ
list_turns [] = 0
list_turns (first ∷ rest) = suc (suc (suc (node_turns first + list_turns rest)))
