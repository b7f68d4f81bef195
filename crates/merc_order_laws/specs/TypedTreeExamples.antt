-- Ordered goals that are typed or not, over a module with the predicate `p(T, T)`.
use Rattle.std.specs.Prelude.{ℕ, zero, suc, List, [], ◌∷◌, None, refl}
use Rattle.merc_tree.specs.Term.{no_span}
use Rattle.merc_tree.specs.Types.{TypeExpr, TypeVariable, IntType, TextType}
use Rattle.merc_tree.specs.declared.declarations.Arg.{Arg}
use Rattle.merc_tree.specs.declared.declarations.Arg.TheVariants.{Input, Output}
use Rattle.merc_tree.specs.declared.declarations.PredDecl.{PredDecl}
use Rattle.merc_tree.specs.declared.declarations.Module.{Module}
use Rattle.merc_base.specs.declared.category.Category.TheVariants.{Det}
use Rattle.merc_graded_tree.specs.declared.basic.BasicGoal.TheVariants.{Call, Test}
use Rattle.merc_graded_tree.specs.declared.entries.Running.TheVariants.{Sequential}
use Rattle.merc_graded_tree.specs.Nodes.{Node, node, Basic, Conjunction, nodes_of}
use Rattle.merc_order_laws.specs.TypedTree.{IsTypedTree, ModesFit}

abbrev example : Module
example = record {
  name = 99;
  units = [];
  types = [];
  preds = record { name = 104; args = TypeVariable 105 ∷ TypeVariable 105 ∷ []; modes = []; span = no_span; unit = None } ∷ [];
  own = 0;
  clauses = [];
}

-- `p(X, Y)` with Y bound: a call with a fresh variable, and its test against Y
abbrev call_and_test : Node
call_and_test = node (Conjunction Sequential (nodes_of (
    node (Basic (Call (record { predicate = 0; mode = 0 }) (0 ∷ 2 ∷ []))) (2 ∷ []) None no_span ∷ node (Basic (Test 2 1)) [] None no_span ∷ []))) [] None no_span

typed : IsTypedTree example (λ variable. IntType) call_and_test
typed = (((λ name. IntType), (refl, (refl, tt))), (refl, tt))

-- where the fresh variable has another type
abbrev other_type : ℕ → TypeExpr
other_type zero = IntType
other_type (suc zero) = IntType
other_type (suc (suc variable)) = TextType

untyped : IsTypedTree example other_type call_and_test → ⊥
untyped h = cc h.1.0

abbrev declared : List Arg → PredDecl
declared places = record { name = 104; args = IntType ∷ []; modes = record { args = places; category = Det; span = no_span } ∷ []; span = no_span; unit = None }

fits : ModesFit (declared (Input ∷ []) ∷ [])
fits = ((refl, tt), tt)

too_long : ModesFit (declared (Input ∷ Output ∷ []) ∷ []) → ⊥
too_long h = cc h.0.0
