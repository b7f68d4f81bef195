-- The symbols by which a disjunct splits variables at its beginning, as they are kept.
use Rattle.std.specs.Prelude.{◌≡◌, ℕ, nat_eq, length}
use Rattle.indexmap.specs.IndexMap.{IndexMap, get}
use Rattle.merc_goal_tree.specs.declared.goal.Symbol.{Symbol}
use Rattle.merc_graded_tree.specs.Nodes.{Node}
use Rattle.merc_grading.specs.Switches.{beginning, symbol_at}

-- The count is that of the splits at the goal's beginning, and each variable's symbol is its first one there.
pub record Knows {S : Type 0} (goal : Node) (count : ℕ) (symbols : IndexMap ℕ Symbol S) : Type 0 where
  pub count_is : count ≡ length (beginning goal).splits
  pub symbols_are : (variable : ℕ) → get nat_eq symbols variable ≡ symbol_at variable goal
