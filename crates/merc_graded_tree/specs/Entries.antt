-- How goals lie in a list of entries: the goals that are joined one after the other, then the one that joins them.
use Rattle.std.specs.Prelude.{◌≡◌, ℕ, suc, ◌+◌, List, [], ◌∷◌, ◌++◌, length, map}
use Rattle.merc_graded_tree.specs.declared.entries.Entry.{Entry}
use Rattle.merc_graded_tree.specs.declared.entries.Label.{Label}
use Rattle.merc_graded_tree.specs.Nodes.{Node, node, Goal, Basic, Conjunction, Disjunction, Switch, Conditional, Negation, Quantified, Nodes, no_nodes, more_nodes, Arms, no_arms, more_arms}
use Rattle.merc_graded_tree.specs.Roots.{label_of, goal_at}
use Rattle.merc_graded_tree.specs.Labels.{built}

-- the labels of entries, in order
abbrev pub labels_in : List Entry → List Label
labels_in entries = map (λ entry. entry.label) entries

-- the goals that entries stand for, and the one
abbrev pub nodes_from : List Entry → List Node
nodes_from entries = built (labels_in entries) []

abbrev pub node_from : List Entry → Node
node_from entries = goal_at (nodes_from entries) 0

-- a label behind the entries of the goals that it joins
abbrev pub closed : Label → List Entry → List Entry
closed label inner = inner ++ record { label = label; size = suc (length inner) } ∷ []

-- the entries of a goal, and of the goals that it joins
abbrev mutual
  pub entries_of : Node → List Entry
  entries_of (node goal outputs category span) = closed (label_of (node goal outputs category span)) (inner_entries goal)

  pub inner_entries : Goal → List Entry
  inner_entries (Basic goal) = []
  inner_entries (Conjunction running goals) = joined_entries goals
  inner_entries (Disjunction goals) = joined_entries goals
  inner_entries (Switch variable arms) = arm_entries arms
  inner_entries (Conditional condition then_part else_part) = entries_of condition ++ (entries_of then_part ++ entries_of else_part)
  inner_entries (Negation goal) = entries_of goal
  inner_entries (Quantified own goal) = entries_of goal

  pub joined_entries : Nodes → List Entry
  joined_entries no_nodes = []
  joined_entries (more_nodes first rest) = entries_of first ++ joined_entries rest

  pub arm_entries : Arms → List Entry
  arm_entries no_arms = []
  arm_entries (more_arms symbol body rest) = entries_of body ++ arm_entries rest

abbrev pub all_entries : List Node → List Entry
all_entries [] = []
all_entries (first ∷ rest) = entries_of first ++ all_entries rest

-- where each goal's entries start, from this index on
abbrev pub starts_from : ℕ → List Node → List ℕ
starts_from start [] = []
starts_from start (first ∷ rest) = start ∷ starts_from (start + length (entries_of first)) rest

-- Entries are as those of the one goal that they stand for, or of goals.
abbrev pub IsNode : List Entry → Type 0
IsNode entries = entries_of (node_from entries) ≡ entries

abbrev pub AreNodes : List Entry → Type 0
AreNodes entries = all_entries (nodes_from entries) ≡ entries
