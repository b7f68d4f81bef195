-- Where the goals of a conjunction stand: the marks of their parts, and the places of their variables.
use Rattle.std.specs.Prelude.{◌≡◌, ◌≤◌, ◌+◌, ℕ, List, length, take, drop}
use Rattle.merc_tree.specs.declared.declarations.ModeDecl.{ModeDecl}
use Rattle.merc_goal_tree.specs.Nodes.{Node, Nodes, more_nodes, nodes_of}
use Rattle.merc_goal_tree.specs.Parts.{all_parts}
use Rattle.merc_goal_tree.specs.Variables.{variables, all_variables}
use Rattle.merc_goal_facts.specs.Facts.{all_subgoals}
use Rattle.merc_goal_facts.specs.declared.facts.Facts.{Facts}
use Rattle.merc_readiness.specs.Sweeps.{AreKnownFrom}

-- The parts of the goal of this index stand from there on; behind the last goal stand none.
abbrev pub IsAt : List Node → ℕ → ℕ → Type 0
IsAt goals index at = (index ≤ length goals) × (at + length (all_parts (nodes_of (drop index goals))) ≡ length (all_parts (nodes_of goals)))

-- the variables of the goals before the one of this index
abbrev pub variables_before : List Node → ℕ → List ℕ
variables_before goals index = all_variables (nodes_of (take index goals))

-- The variables of the goal of this index occur from this place on, where those of the first occur from `start` on.
abbrev pub IsPlaced : ℕ → List Node → ℕ → ℕ → Type 0
IsPlaced start goals index place = place ≡ start + length (variables_before goals index)

-- the place behind the variables of a goal
abbrev pub IsNext : Node → List Facts → List ℕ → ℕ → ℕ → ℕ → Type 0
IsNext goal facts all at place next =
    (total : ℕ → ℕ) (modes : ℕ → List ModeDecl) (rest : Nodes) → AreKnownFrom total modes (all_subgoals (more_nodes goal rest)) facts at
    → place + length (variables goal) ≤ length all → next ≡ place + length (variables goal)
