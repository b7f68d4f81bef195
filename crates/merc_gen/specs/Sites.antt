-- The conjuncts that are forked at the sites of goals.
use Rattle.std.specs.Prelude.{ℕ, List, [], ◌∷◌, ◌++◌, slice_get, Option, Some, None}
use Rattle.merc_graded_tree.specs.declared.entries.Running.TheVariants.{Sequential, Parallel}
use Rattle.merc_graded_tree.specs.Nodes.{Node, node, Goal, Basic, Conjunction, Disjunction, Switch, Conditional, Negation, Quantified, Nodes, no_nodes, more_nodes, Arms, no_arms, more_arms, nodes_of}

-- the conjuncts of each site, by its number
abbrev pub Sites : Type 0
Sites = ℕ → Nodes

-- the conjuncts of each parallel conjunction of a goal that has a site, in the order of the text
abbrev mutual
  pub forked_in : Node → List Nodes
  forked_in (node goal outputs category span) = forked_in_goal goal

  pub forked_in_goal : Goal → List Nodes
  forked_in_goal (Basic goal) = []
  forked_in_goal (Conjunction Sequential goals) = forked_in_all goals
  forked_in_goal (Conjunction (Parallel None) goals) = forked_in_all goals
  forked_in_goal (Conjunction (Parallel (Some site)) goals) = goals ∷ forked_in_all goals
  forked_in_goal (Disjunction goals) = forked_in_all goals
  forked_in_goal (Switch variable arms) = forked_in_arms arms
  forked_in_goal (Conditional condition then_part else_part) = forked_in condition ++ (forked_in then_part ++ forked_in else_part)
  forked_in_goal (Negation goal) = forked_in goal
  forked_in_goal (Quantified own goal) = forked_in goal

  pub forked_in_all : Nodes → List Nodes
  forked_in_all no_nodes = []
  forked_in_all (more_nodes first rest) = forked_in first ++ forked_in_all rest

  pub forked_in_arms : Arms → List Nodes
  forked_in_arms no_arms = []
  forked_in_arms (more_arms symbol body rest) = forked_in body ++ forked_in_arms rest

-- those of the trees of procedures, and of a goal that is asked behind them
abbrev pub forked_with : List Node → Node → List Nodes
forked_with trees goal = forked_in_all (nodes_of trees) ++ forked_in goal

-- Sites are numbered one after the other: by a site's number these are its conjuncts. At a site that is not there nothing is forked.

abbrev pub nodes_there : Option Nodes → Nodes
nodes_there None = no_nodes
nodes_there (Some goals) = goals

abbrev pub conjuncts_at : List Nodes → Sites
conjuncts_at forked site = nodes_there (slice_get forked site)
