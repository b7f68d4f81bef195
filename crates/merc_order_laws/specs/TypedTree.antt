-- When an ordered goal is typed.
use Rattle.std.specs.Prelude.{◌≡◌, ℕ, List, length}
use Rattle.std.specs.List.{AllByRecursion}
use Rattle.merc_tree.specs.Types.{TypeExpr}
use Rattle.merc_tree.specs.declared.declarations.PredDecl.{PredDecl}
use Rattle.merc_tree.specs.declared.declarations.Module.{Module}
use Rattle.merc_graded_tree.specs.Nodes.{Node as OrderedNode}
use Rattle.merc_type_check.specs.Typing.{IsTypedGoal}
use Rattle.merc_order_laws.specs.WrittenGoals.{basic_goals, written_goal}

-- Given are a module and a type for each variable, by its number: each part that holds no others is typed as the goal is that would be written for it.
abbrev pub IsTypedTree : Module → (ℕ → TypeExpr) → OrderedNode → Type 0
IsTypedTree known types tree = AllByRecursion (λ basic. IsTypedGoal known types (written_goal basic)) (basic_goals tree)

-- each mode of each predicate has a place for each of its arguments
abbrev pub ModesFit : List PredDecl → Type 0
ModesFit predicates = AllByRecursion (λ declared. AllByRecursion (λ mode. length mode.args ≡ length declared.args) declared.modes) predicates
