-- The variables of ordered goals.
use Rattle.std.specs.Prelude.{ℕ, Bool, false, ◌==◌, ◌||◌, List, [], ◌∷◌}
use Rattle.std.specs.List.{list_any}
use Rattle.merc_graded_tree.specs.declared.basic.BasicGoal.{BasicGoal}
use Rattle.merc_graded_tree.specs.declared.basic.BasicGoal.TheVariants.{True, Fail, Assign, Test, Build, Split, Arithmetic, Compare, Raise, Call, Wait, Signal}
use Rattle.merc_graded_tree.specs.Nodes.{Node, node, Goal, Basic, Conjunction, Disjunction, Switch, Conditional, Negation, Quantified, Nodes, no_nodes, more_nodes, Arms, no_arms, more_arms}

abbrev pub variables_of : BasicGoal → List ℕ
variables_of True = []
variables_of Fail = []
variables_of (Assign to from) = to ∷ from ∷ []
variables_of (Test one other) = one ∷ other ∷ []
variables_of (Build whole symbol arguments) = whole ∷ arguments
variables_of (Split whole symbol arguments) = whole ∷ arguments
variables_of (Arithmetic operation result left right) = result ∷ left ∷ right ∷ []
variables_of (Compare comparison left right) = left ∷ right ∷ []
variables_of (Raise text) = text ∷ []
variables_of (Call procedure arguments) = arguments
variables_of (Wait variable conjunct) = variable ∷ []
variables_of (Signal variable conjunct) = variable ∷ []

-- a variable is among these
abbrev pub among : List ℕ → ℕ → Bool
among variables variable = list_any (λ other. variable == other) variables

-- whether a variable occurs in a goal; a quantifier's list is no occurrence
abbrev mutual
  pub in_goal : Goal → ℕ → Bool
  in_goal (Basic goal) variable = among (variables_of goal) variable
  in_goal (Conjunction running goals) variable = in_nodes goals variable
  in_goal (Disjunction goals) variable = in_nodes goals variable
  in_goal (Switch whole arms) variable = (variable == whole) || in_arms arms variable
  in_goal (Conditional condition then_part else_part) variable = in_node condition variable || (in_node then_part variable || in_node else_part variable)
  in_goal (Negation goal) variable = in_node goal variable
  in_goal (Quantified own goal) variable = in_node goal variable

  pub in_node : Node → ℕ → Bool
  in_node (node goal outputs category span) variable = in_goal goal variable

  pub in_nodes : Nodes → ℕ → Bool
  in_nodes no_nodes variable = false
  in_nodes (more_nodes first rest) variable = in_node first variable || in_nodes rest variable

  pub in_arms : Arms → ℕ → Bool
  in_arms no_arms variable = false
  in_arms (more_arms symbol body rest) variable = in_node body variable || in_arms rest variable
