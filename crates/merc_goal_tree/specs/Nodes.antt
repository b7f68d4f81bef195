-- Goals in flat form.
use Rattle.std.specs.Prelude.{ℕ, List, [], ◌∷◌}
use Rattle.merc_base.specs.declared.place.Span.{Span}
use Rattle.merc_goal_tree.specs.declared.goal.SimpleGoal.{SimpleGoal}

-- A goal is one that holds no others, or joins others. Each has the span of the goal as it is written.
mutual
  pub data Node : Type 0 where
    Simple : (goal : SimpleGoal) (span : Span) → Node
    Conjunction : (goals : Nodes) (span : Span) → Node
    Parallel : (goals : Nodes) (span : Span) → Node
    Disjunction : (goals : Nodes) (span : Span) → Node
    Conditional : (condition then_part else_part : Node) (span : Span) → Node
    Negation : (goal : Node) (span : Span) → Node
    Quantified : (variables : List ℕ) (goal : Node) (span : Span) → Node

  pub data Nodes : Type 0 where
    no_nodes : Nodes
    more_nodes : (first : Node) (rest : Nodes) → Nodes

-- a list of goals as the goals that are joined, and back
abbrev pub nodes_of : List Node → Nodes
nodes_of [] = no_nodes
nodes_of (first ∷ rest) = more_nodes first (nodes_of rest)

abbrev pub list_of : Nodes → List Node
list_of no_nodes = []
list_of (more_nodes first rest) = first ∷ list_of rest

-- the span of the goal as it is written
abbrev pub span_of : Node → Span
span_of (Simple goal span) = span
span_of (Conjunction goals span) = span
span_of (Parallel goals span) = span
span_of (Disjunction goals span) = span
span_of (Conditional condition then_part else_part span) = span
span_of (Negation goal span) = span
span_of (Quantified variables goal span) = span
