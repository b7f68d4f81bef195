-- How far the search for what a goal begins with has come. The last of the goals that are left comes first.
use Rattle.std.specs.Prelude.{◌≡◌, ◌<◌, ℕ, List, [], ◌∷◌, ◌++◌, length, reverse}
use Rattle.merc_goal_tree.specs.declared.goal.Symbol.{Symbol}
use Rattle.merc_graded_tree.specs.declared.entries.Running.{Running}
use Rattle.merc_graded_tree.specs.declared.entries.Running.TheVariants.{Sequential, Parallel}
use Rattle.merc_graded_tree.specs.Nodes.{Node, nodes_of}
use Rattle.merc_graded_tree.specs.Labels.{all_labels}
use Rattle.merc_grading.specs.Switches.{all_beginning}

-- the splits once all of these goals are gone through, behind those that are known
abbrev pub splits_with : List (ℕ × Symbol) → List Node → List (ℕ × Symbol)
splits_with splits rest = splits ++ (all_beginning (nodes_of (reverse rest))).splits

-- what is left where the goals of a conjunction come next
abbrev pub left_with : Running → List Node → List Node → List Node
left_with Sequential goals rest = rest ++ reverse goals
left_with (Parallel site) goals rest = []

-- The next goal is gone through. In the end the splits are the same, and fewer parts are left.
pub record Begins (next : Node) (rest : List Node) (splits : List (ℕ × Symbol)) (rest' : List Node) (splits' : List (ℕ × Symbol)) : Type 0 where
  pub same : splits_with splits' rest' ≡ splits_with splits (rest ++ next ∷ [])
  pub smaller : length (all_labels rest') < length (all_labels (rest ++ next ∷ []))
