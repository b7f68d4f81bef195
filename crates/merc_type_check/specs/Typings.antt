-- The typings of a goal, as what solves equations.
use Rattle.std.specs.Prelude.{◌≡◌, ℕ, ◌<◌, List, length, Option}
use Rattle.std.specs.Option.{IfSome}
use Rattle.std.specs.Ordering.{nat_cmp}
use Rattle.std.specs.BTreeMap.{get}
use Rattle.merc_tree.specs.Types.{TypeExpr}
use Rattle.merc_tree.specs.declared.declarations.Module.{Module}
use Rattle.merc_goal_tree.specs.Nodes.{Node}
use Rattle.merc_type_graph.specs.Solutions.{Entry, Solves}
use Rattle.merc_type_check.specs.declared.typings.Typing.{Typing}
use Rattle.merc_type_check.specs.Typing.{IsTyped}

-- Given are equations between types at places, and the places of the types of variables, by their numbers.
module _ (equations : List Entry) (place_of : ℕ → Option ℕ) where
  -- Types at all places that solve the equations, and types of variables: where a variable has a place, the one that stands there.
  pub record IsSolution (places types : ℕ → TypeExpr) : Type 0 where
    pub solved : Solves equations places
    pub variables : (number : ℕ) → IfSome (place_of number) (λ place. places place ≡ types number)

  -- There is a solution; the types of variables in each solution type the goal; and all types that type the goal are those of a solution.
  pub record AreTypings (known : Module) (arguments : List TypeExpr) (goal : Node) : Type 0 where
    pub there : (number : ℕ) → IfSome (place_of number) (λ place. place < length equations)
    pub solvable : (places : ℕ → TypeExpr) × Solves equations places
    pub sound : (places types : ℕ → TypeExpr) → IsSolution places types → IsTyped known types arguments goal
    pub complete : (types : ℕ → TypeExpr) → IsTyped known types arguments goal → (places : ℕ → TypeExpr) × IsSolution places types

-- The solutions of a typing's equations are exactly the typings of a goal.
abbrev pub IsTypingOf : Typing → Module → List TypeExpr → Node → Type 0
IsTypingOf typing known arguments goal = AreTypings typing.graph.entries (get nat_cmp typing.variables) known arguments goal
