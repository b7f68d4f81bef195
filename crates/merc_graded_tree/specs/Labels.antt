-- The parts of a goal, each by its label, those of the goals that it joins before its own.
use Rattle.std.specs.Prelude.{ℕ, zero, suc, List, [], ◌∷◌, ◌++◌, Some}
use Rattle.merc_base.specs.declared.category.Category.{Category}
use Rattle.merc_graded_tree.specs.declared.entries.Label.{Label}
use Rattle.merc_graded_tree.specs.Nodes.{Node, node, Goal, Basic, Conjunction, Disjunction, Switch, Conditional, Negation, Quantified, Nodes, no_nodes, more_nodes, Arms, no_arms, more_arms}
use Rattle.merc_graded_tree.specs.Roots.{label_of, last_joined}

abbrev mutual
  pub labels_of : Node → List Label
  labels_of (node goal outputs category span) = inner_labels goal ++ label_of (node goal outputs category span) ∷ []

  -- those of the goals that a goal joins
  pub inner_labels : Goal → List Label
  inner_labels (Basic goal) = []
  inner_labels (Conjunction running goals) = joined_labels goals
  inner_labels (Disjunction goals) = joined_labels goals
  inner_labels (Switch variable arms) = arm_labels arms
  inner_labels (Conditional condition then_part else_part) = labels_of condition ++ (labels_of then_part ++ labels_of else_part)
  inner_labels (Negation goal) = labels_of goal
  inner_labels (Quantified own goal) = labels_of goal

  pub joined_labels : Nodes → List Label
  joined_labels no_nodes = []
  joined_labels (more_nodes first rest) = labels_of first ++ joined_labels rest

  pub arm_labels : Arms → List Label
  arm_labels no_arms = []
  arm_labels (more_arms symbol body rest) = labels_of body ++ arm_labels rest

-- those of goals in order
abbrev pub all_labels : List Node → List Label
all_labels [] = []
all_labels (first ∷ rest) = labels_of first ++ all_labels rest

-- what goals become where the parts with these labels come behind them
abbrev pub built : List Label → List Node → List Node
built [] goals = goals
built (label ∷ labels) goals = built labels (last_joined label goals)

-- the part at an index has this category, and the others stay as they are
abbrev pub graded : ℕ → Category → List Label → List Label
graded index category [] = []
graded zero category (first ∷ rest) = record { root = first.root; outputs = first.outputs; category = Some category; span = first.span } ∷ rest
graded (suc index) category (first ∷ rest) = first ∷ graded index category rest
