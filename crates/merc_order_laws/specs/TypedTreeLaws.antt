-- What typed goals keep when they are ordered.
use Rattle.std.specs.Prelude.{ℕ, List}
use Rattle.merc_tree.specs.Types.{TypeExpr}
use Rattle.merc_tree.specs.declared.declarations.Module.{Module}
use Rattle.merc_goal_tree.specs.Nodes.{Node}
use Rattle.merc_graded_tree.specs.Nodes.{Node as OrderedNode}
use Rattle.merc_order.specs.Procedures.{modes_of}
use Rattle.merc_type_check.specs.Typing.{IsTyped}
use Rattle.merc_order_laws.specs.Laws.{Sized}
use Rattle.merc_order_laws.specs.MadeOf.{IsMadeOf}
use Rattle.merc_order_laws.specs.TypedTree.{IsTypedTree, ModesFit}

-- A tree that is made of a typed goal is typed, where each variable has the type of the one that it stands for.
abbrev pub TreeIsTyped : Type 0
TreeIsTyped = (known : Module) (types : ℕ → TypeExpr) (arguments : List TypeExpr) (goal : Node) (new : ℕ → ℕ) (tree : OrderedNode) → IsTyped known types arguments goal
    → IsMadeOf goal new tree → IsTypedTree known (λ variable. types (new variable)) tree

-- Each call of a typed goal has as many arguments as each mode of its predicate has places.
abbrev pub TypedIsSized : Type 0
TypedIsSized = (known : Module) (types : ℕ → TypeExpr) (arguments : List TypeExpr) (goal : Node) → ModesFit known.preds → IsTyped known types arguments goal → Sized (modes_of known.preds) goal
