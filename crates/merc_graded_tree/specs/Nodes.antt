-- Goals whose parts stand in the order in which they go.
use Rattle.std.specs.Prelude.{ℕ, List, [], ◌∷◌, Option}
use Rattle.merc_base.specs.declared.category.Category.{Category}
use Rattle.merc_base.specs.declared.place.Span.{Span}
use Rattle.merc_goal_tree.specs.declared.goal.Symbol.{Symbol}
use Rattle.merc_graded_tree.specs.declared.basic.BasicGoal.{BasicGoal}
use Rattle.merc_graded_tree.specs.declared.entries.Running.{Running}

-- A goal has its outputs: the variables that are free before it, bound behind it, and occur outside it. It has a category once categories are known, and the
-- span of the goal as it is written.
mutual
  pub data Node : Type 0 where
    node : (goal : Goal) (outputs : List ℕ) (category : Option Category) (span : Span) → Node

  pub data Goal : Type 0 where
    Basic : (goal : BasicGoal) → Goal
    Conjunction : (running : Running) (goals : Nodes) → Goal
    Disjunction : (goals : Nodes) → Goal
    Switch : (variable : ℕ) (arms : Arms) → Goal
    Conditional : (condition then_part else_part : Node) → Goal
    Negation : (goal : Node) → Goal
    Quantified : (own : List ℕ) (goal : Node) → Goal

  pub data Nodes : Type 0 where
    no_nodes : Nodes
    more_nodes : (first : Node) (rest : Nodes) → Nodes

  -- the arms of a switch, each with the symbol of its variable
  pub data Arms : Type 0 where
    no_arms : Arms
    more_arms : (symbol : Symbol) (body : Node) (rest : Arms) → Arms

-- a list of goals as the goals that are joined, and back
abbrev pub nodes_of : List Node → Nodes
nodes_of [] = no_nodes
nodes_of (first ∷ rest) = more_nodes first (nodes_of rest)

abbrev pub list_of : Nodes → List Node
list_of no_nodes = []
list_of (more_nodes first rest) = first ∷ list_of rest

abbrev pub goal_of : Node → Goal
goal_of (node goal outputs category span) = goal

abbrev pub outputs_of : Node → List ℕ
outputs_of (node goal outputs category span) = outputs

abbrev pub category_of : Node → Option Category
category_of (node goal outputs category span) = category

abbrev pub span_of : Node → Span
span_of (node goal outputs category span) = span
