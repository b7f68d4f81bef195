-- Goals with other variables.
use Rattle.std.specs.Prelude.{ℕ, map}
use Rattle.merc_goal_tree.specs.declared.goal.SimpleGoal.{SimpleGoal}
use Rattle.merc_goal_tree.specs.declared.goal.SimpleGoal.TheVariants.{True, Fail, Same, Shape, Arithmetic, Compare, Raise, Call}
use Rattle.merc_goal_tree.specs.Nodes.{Node, Nodes, Simple, Conjunction, Parallel, Disjunction, Conditional, Negation, Quantified, no_nodes, more_nodes}

-- each variable of a goal that holds no others replaced by another
abbrev pub renamed_goal : (ℕ → ℕ) → SimpleGoal → SimpleGoal
renamed_goal new True = True
renamed_goal new Fail = Fail
renamed_goal new (Same one other) = Same (new one) (new other)
renamed_goal new (Shape variable symbol arguments) = Shape (new variable) symbol (map new arguments)
renamed_goal new (Arithmetic operation result left right) = Arithmetic operation (new result) (new left) (new right)
renamed_goal new (Compare comparison left right) = Compare comparison (new left) (new right)
renamed_goal new (Raise text) = Raise (new text)
renamed_goal new (Call predicate arguments) = Call predicate (map new arguments)

-- the same of any goal
abbrev mutual
  pub renamed : (ℕ → ℕ) → Node → Node
  renamed new (Simple goal span) = Simple (renamed_goal new goal) span
  renamed new (Conjunction goals span) = Conjunction (all_renamed new goals) span
  renamed new (Parallel goals span) = Parallel (all_renamed new goals) span
  renamed new (Disjunction goals span) = Disjunction (all_renamed new goals) span
  renamed new (Conditional condition then_part else_part span) = Conditional (renamed new condition) (renamed new then_part) (renamed new else_part) span
  renamed new (Negation goal span) = Negation (renamed new goal) span
  renamed new (Quantified own goal span) = Quantified (map new own) (renamed new goal) span

  pub all_renamed : (ℕ → ℕ) → Nodes → Nodes
  all_renamed new no_nodes = no_nodes
  all_renamed new (more_nodes first rest) = more_nodes (renamed new first) (all_renamed new rest)
