-- Goals that are still to be looked at, for whether a goal leaves a choice point behind.
use Rattle.std.specs.Prelude.{◌≡◌, ◌≤◌, ◌+◌, Bool, true, ◌&&◌, List, [], ◌∷◌}
use Rattle.merc_graded_tree.specs.declared.basic.Procedure.{Procedure}
use Rattle.merc_graded_tree.specs.Nodes.{Node, Goal}
use Rattle.merc_gen.specs.Generated.{quiet, node_quiet}
use Rattle.merc_gen.specs.Turns.{node_turns, goal_turns, list_turns}

module _ (single : Procedure → Bool) where
  abbrev pub are_quiet : List Node → Bool
  are_quiet [] = true
  are_quiet (first ∷ rest) = node_quiet single first && are_quiet rest

  -- A goal is among those that are looked at, or others in its place, of which the same is asked where nothing speaks against it.
  pub record Spreads (goal : Goal) (passes : Bool) (before after : List Node) : Type 0 where
    pub same : passes && are_quiet after ≡ quiet single goal && are_quiet before
    pub fewer : list_turns after ≤ goal_turns goal + list_turns before

  pub record Looks (goal : Node) (passes : Bool) (before after : List Node) : Type 0 where
    pub looked : passes && are_quiet after ≡ node_quiet single goal && are_quiet before
    pub less : list_turns after ≤ node_turns goal + list_turns before
