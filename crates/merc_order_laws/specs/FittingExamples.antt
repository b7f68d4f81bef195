-- Goals with switches and without.
use Rattle.std.specs.Prelude.{[], ◌∷◌, None}
use Rattle.merc_tree.specs.Term.{no_span}
use Rattle.merc_goal_tree.specs.declared.goal.Symbol.TheVariants.{Constructor}
use Rattle.merc_graded_tree.specs.declared.basic.BasicGoal.TheVariants.{Fail, Split, True}
use Rattle.merc_graded_tree.specs.Nodes.{Node, node, Goal, Basic, Disjunction, Negation, Switch, nodes_of, no_arms, more_arms}
use Rattle.merc_order_laws.specs.Fitting.{HasNoSwitch}

abbrev of : Goal → Node
of goal = node goal [] None no_span

-- `not ( X = red ; fail )`
without : HasNoSwitch (of (Negation (of (Disjunction (nodes_of (of (Basic (Split 0 (Constructor 60 0) [])) ∷ of (Basic Fail) ∷ []))))))
without = (tt, (tt, tt))

-- a switch on X in a negation
within : HasNoSwitch (of (Negation (of (Switch 0 (more_arms (Constructor 60 0) (of (Basic True)) no_arms))))) → ⊥
within none = none
