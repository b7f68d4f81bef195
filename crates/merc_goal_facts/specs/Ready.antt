-- When a goal that holds no others can go, and when the condition and the then part of an if-then-else are ready.
use Rattle.std.specs.Prelude.{ℕ, Bool, true, ◌&&◌, ◌||◌, List, ◌++◌, is_some}
use Rattle.merc_tree.specs.declared.declarations.ModeDecl.{ModeDecl}
use Rattle.merc_goal_tree.specs.declared.goal.SimpleGoal.{SimpleGoal}
use Rattle.merc_goal_tree.specs.declared.goal.SimpleGoal.TheVariants.{True, Fail, Same, Shape, Arithmetic, Compare, Raise, Call}
use Rattle.merc_goal_tree.specs.Nodes.{Node}
use Rattle.merc_goal_tree.specs.Variables.{variables}
use Rattle.merc_order.specs.Bound.{Bound, are_bound, with}
use Rattle.merc_order.specs.CallModes.{taken_from}
use Rattle.merc_order.specs.Order.{binds, binds_inside, from}
use Rattle.merc_order.specs.Ordered.{is_ready}

-- whether a goal that holds no others can go
abbrev pub can_go : (ℕ → List ModeDecl) → SimpleGoal → Bound → Bool
can_go modes True bound = true
can_go modes Fail bound = true
can_go modes (Same one other) bound = bound one || bound other
can_go modes (Shape whole symbol arguments) bound = bound whole || are_bound bound arguments
can_go modes (Arithmetic operation result left right) bound = bound left && bound right
can_go modes (Compare comparison left right) bound = bound left && bound right
can_go modes (Raise text) bound = bound text
can_go modes (Call predicate arguments) bound = is_some (taken_from 0 bound arguments (modes predicate))

-- Given are how often each variable occurs in the whole, and the modes of each predicate.
module _ (total : ℕ → ℕ) (modes : ℕ → List ModeDecl) where
  -- A condition is ready, binds nothing that occurs outside, and the then part is ready behind it.
  abbrev pub is_arm_ready : Node → Node → Bound → Bool
  is_arm_ready condition then_part bound =
      is_ready (from total modes condition bound)
      && (binds_inside total modes bound (variables condition ++ variables then_part) (variables condition) (binds total modes condition)
      && is_ready (from total modes then_part (with bound (binds total modes condition))))
