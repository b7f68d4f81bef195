-- What is seen of a goal.
use Rattle.merc_base.specs.declared.place.Span.{Span}
use Rattle.merc_goal_tree.specs.declared.node_ref.NodeView.{NodeView}
use Rattle.merc_goal_tree.specs.declared.node_ref.NodeView.TheVariants.{Simple as SimpleView, Conjunction as ConjunctionView, Parallel as ParallelView, Disjunction as DisjunctionView, Conditional as ConditionalView, Negation as NegationView, Quantified as QuantifiedView}
use Rattle.merc_goal_tree.specs.Nodes.{Node, Simple, Conjunction, Parallel, Disjunction, Conditional, Negation, Quantified, nodes_of}

-- the goal that is seen so, with this span
abbrev pub viewed : NodeView → Span → Node
viewed (SimpleView goal) span = Simple goal.now span
viewed (ConjunctionView goals) span = Conjunction (nodes_of goals) span
viewed (ParallelView goals) span = Parallel (nodes_of goals) span
viewed (DisjunctionView goals) span = Disjunction (nodes_of goals) span
viewed (ConditionalView condition then_part else_part) span = Conditional condition then_part else_part span
viewed (NegationView goal) span = Negation goal span
viewed (QuantifiedView variables goal) span = Quantified variables.now goal span
