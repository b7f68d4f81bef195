-- The arms of switches: each is for a symbol of its own, and fails where the variable has another.
use Rattle.std.specs.Prelude.{◌≡◌, ◌⊎◌, ℕ, false}
use Rattle.merc_goal_tree.specs.declared.goal.Symbol.{Symbol}
use Rattle.merc_graded_tree.specs.declared.basic.BasicGoal.{BasicGoal}
use Rattle.merc_graded_tree.specs.declared.basic.BasicGoal.TheVariants.{Split}
use Rattle.merc_graded_tree.specs.Nodes.{Node, node, Goal, Basic, Conjunction, Disjunction, Switch, Conditional, Negation, Quantified, Nodes, no_nodes, more_nodes, Arms, no_arms, more_arms}
use Rattle.merc_graded_tree.specs.Roots.{symbols_of}
use Rattle.merc_grading.specs.Known.{has_symbol}

abbrev pub GuardsBasic : ℕ → Symbol → BasicGoal → Type 0
GuardsBasic variable symbol (Split whole other arguments) = (whole ≡ variable) × (other ≡ symbol)
GuardsBasic variable symbol other = ⊥

abbrev mutual
  -- A goal fails where the variable has another symbol than this one: it splits the variable by the symbol, or one of its conjuncts does, or each of its
  -- disjuncts or arms.
  pub Guards : ℕ → Symbol → Node → Type 0
  Guards variable symbol (node goal outputs category span) = GuardsGoal variable symbol goal

  pub GuardsGoal : ℕ → Symbol → Goal → Type 0
  GuardsGoal variable symbol (Basic goal) = GuardsBasic variable symbol goal
  GuardsGoal variable symbol (Conjunction running goals) = OneGuards variable symbol goals
  GuardsGoal variable symbol (Disjunction goals) = EachGuards variable symbol goals
  GuardsGoal variable symbol (Switch other arms) = EachArmGuards variable symbol arms
  GuardsGoal variable symbol other = ⊥

  pub OneGuards : ℕ → Symbol → Nodes → Type 0
  OneGuards variable symbol no_nodes = ⊥
  OneGuards variable symbol (more_nodes first rest) = Guards variable symbol first ⊎ OneGuards variable symbol rest

  pub EachGuards : ℕ → Symbol → Nodes → Type 0
  EachGuards variable symbol no_nodes = Unit {0}
  EachGuards variable symbol (more_nodes first rest) = Guards variable symbol first × EachGuards variable symbol rest

  pub EachArmGuards : ℕ → Symbol → Arms → Type 0
  EachArmGuards variable symbol no_arms = Unit {0}
  EachArmGuards variable symbol (more_arms other body rest) = Guards variable symbol body × EachArmGuards variable symbol rest

abbrev mutual
  -- in each switch of a goal the arms have different symbols, and each guards its own
  pub HasGuards : Node → Type 0
  HasGuards (node goal outputs category span) = GoalHasGuards goal

  pub GoalHasGuards : Goal → Type 0
  GoalHasGuards (Basic goal) = Unit {0}
  GoalHasGuards (Conjunction running goals) = AllHaveGuards goals
  GoalHasGuards (Disjunction goals) = AllHaveGuards goals
  GoalHasGuards (Switch variable arms) = ArmsHaveGuards variable arms
  GoalHasGuards (Conditional condition then_part else_part) = HasGuards condition × HasGuards then_part × HasGuards else_part
  GoalHasGuards (Negation goal) = HasGuards goal
  GoalHasGuards (Quantified own goal) = HasGuards goal

  pub AllHaveGuards : Nodes → Type 0
  AllHaveGuards no_nodes = Unit {0}
  AllHaveGuards (more_nodes first rest) = HasGuards first × AllHaveGuards rest

  pub ArmsHaveGuards : ℕ → Arms → Type 0
  ArmsHaveGuards variable no_arms = Unit {0}
  ArmsHaveGuards variable (more_arms symbol body rest) =
      Guards variable symbol body × (has_symbol (symbols_of rest) symbol ≡ false) × HasGuards body × ArmsHaveGuards variable rest
