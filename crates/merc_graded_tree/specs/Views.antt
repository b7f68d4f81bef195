-- What is seen of a goal.
use Rattle.merc_graded_tree.specs.declared.node_ref.NodeView.{NodeView}
use Rattle.merc_graded_tree.specs.declared.node_ref.NodeView.TheVariants.{Basic as BasicView, Conjunction as ConjunctionView, Disjunction as DisjunctionView, Switch as SwitchView, Conditional as ConditionalView, Negation as NegationView, Quantified as QuantifiedView}
use Rattle.merc_graded_tree.specs.Nodes.{Goal, Basic, Conjunction, Disjunction, Switch, Conditional, Negation, Quantified, nodes_of}
use Rattle.merc_graded_tree.specs.Roots.{arms_of}

-- the goal that is seen so
abbrev pub viewed : NodeView → Goal
viewed (BasicView goal) = Basic goal.now
viewed (ConjunctionView running goals) = Conjunction running (nodes_of goals)
viewed (DisjunctionView goals) = Disjunction (nodes_of goals)
viewed (SwitchView variable symbols arms) = Switch variable (arms_of symbols.now arms)
viewed (ConditionalView condition then_part else_part) = Conditional condition then_part else_part
viewed (NegationView goal) = Negation goal
viewed (QuantifiedView own goal) = Quantified own.now goal
