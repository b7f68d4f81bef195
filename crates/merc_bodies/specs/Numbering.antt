-- New numbers as the code keeps them.
use Rattle.std.specs.Prelude.{◌≡◌, ℕ, ◌≤◌, List, ◌++◌, length, drop}
use Rattle.std.specs.List.Sorted.{IsStrictlyIncreasing}
use Rattle.merc_goal_tree.specs.Nodes.{Node}
use Rattle.merc_bodies.specs.Bodies.{numbered, own_variables}
use Rattle.merc_bodies.specs.declared.numbering.Numbering.{Numbering}

-- the own variables of the clause in hand
abbrev pub own_of : Numbering → List ℕ
own_of numbering = drop numbering.at numbering.variables.items

abbrev pub new_number : Numbering → ℕ → ℕ
new_number numbering variable = numbered numbering.arity numbering.at (own_of numbering) variable

pub record IsInHand (numbering : Numbering) : Type 0 where
  pub starts : numbering.at ≤ length numbering.variables.items
  pub rises : IsStrictlyIncreasing (own_of numbering)

-- a clause of this form is taken in hand behind others
pub record GoesOn (before : Numbering) (form : Node) (after : Numbering) : Type 0 where
  pub same : after.arity ≡ before.arity
  pub starts_behind : after.at ≡ length before.variables.items
  pub with_own : after.variables.items ≡ before.variables.items ++ own_variables before.arity form
