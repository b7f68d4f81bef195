-- Laws of the order of goals.
use Rattle.std.specs.Prelude.{◌≡◌, ◌↔◌, ℕ, true, List, length}
use Rattle.merc_tree.specs.declared.declarations.ModeDecl.{ModeDecl}
use Rattle.merc_goal_tree.specs.Nodes.{Node, Nodes}
use Rattle.merc_order.specs.Bound.{Bound, Holds}
use Rattle.merc_order.specs.Moves.{settled}
use Rattle.merc_order.specs.Order.{from, moves}
use Rattle.merc_order.specs.Ordered.{Ordereds, AllReady, is_ready, are_ready}
use Rattle.merc_order.specs.Ways.{CanAll, IsSequence}

-- a goal that can be ordered can be ordered where more is bound
abbrev pub StaysReady : Type 0
StaysReady = (total : ℕ → ℕ) (modes : ℕ → List ModeDecl) (goal : Node) (bound more : Bound) → Holds bound more
    → is_ready (from total modes goal bound) ≡ true → is_ready (from total modes goal more) ≡ true

-- The goals of a conjunction can be ordered exactly where they can go in some order.
abbrev pub AnyWay : Type 0
AnyWay = (total : ℕ → ℕ) (modes : ℕ → List ModeDecl) (goals : Nodes) (bound : Bound)
    → (are_ready (settled (length (moves total modes goals)) (moves total modes goals) bound) ≡ true) ↔ CanAll (moves total modes goals) bound

-- Their order is that in which each is the leftmost of those left that is ready behind those before it.
abbrev pub LeftmostFirst : Type 0
LeftmostFirst = (total : ℕ → ℕ) (modes : ℕ → List ModeDecl) (goals : Nodes) (bound : Bound) (ordered : Ordereds)
    → settled (length (moves total modes goals)) (moves total modes goals) bound ≡ AllReady ordered → IsSequence (moves total modes goals) bound ordered
