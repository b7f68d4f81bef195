-- A type `m(T) ---> none ; some(T)`, a predicate `p(T, T)`, and goals over them that are typed or not.
use Rattle.std.specs.Prelude.{◌≡◌, ℕ, zero, suc, pos, [], ◌∷◌, None, refl}
use Rattle.std.proofs.Common.{ap, sym, ◌∙◌, arith}
use Rattle.merc_tree.specs.Term.{no_span}
use Rattle.merc_tree.specs.Types.{TypeExpr, TypeVariable, IntType, TextType, TypeApplication, no_types, more_types}
use Rattle.merc_tree.specs.declared.declarations.Module.{Module}
use Rattle.merc_goal_tree.specs.declared.goal.SimpleGoal.TheVariants.{Shape, Raise, Call}
use Rattle.merc_goal_tree.specs.declared.goal.Symbol.TheVariants.{Constructor as ConstructorSymbol, Integer as IntegerSymbol}
use Rattle.merc_goal_tree.specs.Nodes.{Node, Simple, Conjunction, no_nodes, more_nodes}
use Rattle.merc_type_check.specs.Typing.{HasTyping}

abbrev example : Module
example = record {
  name = 99;
  units = [];
  types = record {
    name = 100;
    params = 101 ∷ [];
    constructors = record { name = 102; args = [] } ∷ record { name = 103; args = TypeVariable 101 ∷ [] } ∷ [];
    unit = None;
  } ∷ [];
  preds = record { name = 104; args = TypeVariable 105 ∷ TypeVariable 105 ∷ []; modes = []; span = no_span; unit = None } ∷ [];
  own = 1;
  clauses = [];
}

abbrev maybe : TypeExpr → TypeExpr
maybe type = TypeApplication 100 (more_types type no_types)

-- `X = some(Y), Y = 3`
abbrev some_three : Node
some_three = Conjunction (more_nodes (Simple (Shape 0 (ConstructorSymbol 103 1) (1 ∷ [])) no_span) (more_nodes (Simple (Shape 1 (IntegerSymbol (pos 3)) []) no_span) no_nodes)) no_span

some_three_types : ℕ → TypeExpr
some_three_types zero = maybe IntType
some_three_types (suc number) = IntType

typed : HasTyping example (maybe IntType ∷ []) some_three
unfolding some_three_types
typed = (
  some_three_types,
  record {
    head = (refl, tt);
    parts = (((λ name. IntType), (refl, (refl, tt))), (refl, (tt, tt)));
  },
)

-- X holds no text
untyped : HasTyping example (maybe TextType ∷ []) some_three → ⊥
untyped typing =
    let types : ℕ → TypeExpr = typing.0 in
    let head : types 0 ≡ maybe TextType = typing.1.head.0 in
    let first = typing.1.parts.0 in
    let whole : types 0 ≡ maybe (first.0 101) = first.1.0 in
    let inner : types 1 ≡ first.0 101 = first.1.1.0 in
    let three : types 1 ≡ IntType = typing.1.parts.1.0 in
    cc

-- `p(X, X), p(Y, Y)`, where X is 3 and Y a text: each call has types of its own
abbrev two_calls : Node
two_calls =
    Conjunction (more_nodes (Simple (Call 0 (0 ∷ 0 ∷ [])) no_span) (more_nodes (Simple (Call 0 (1 ∷ 1 ∷ [])) no_span)
    (more_nodes (Simple (Shape 0 (IntegerSymbol (pos 3)) []) no_span) (more_nodes (Simple (Raise 1) no_span) no_nodes)))) no_span

two_types : ℕ → TypeExpr
two_types zero = IntType
two_types (suc number) = TextType

two_calls_typed : HasTyping example [] two_calls
unfolding two_types
two_calls_typed = (
  two_types,
  record {
    head = tt;
    parts = (((λ name. IntType), (refl, (refl, tt))), (((λ name. TextType), (refl, (refl, tt))), (refl, (refl, (tt, tt)))));
  },
)

-- within one call a type variable stands for one type
abbrev one_call : Node
one_call =
    Conjunction (more_nodes (Simple (Call 0 (0 ∷ 1 ∷ [])) no_span)
    (more_nodes (Simple (Shape 0 (IntegerSymbol (pos 3)) []) no_span) (more_nodes (Simple (Raise 1) no_span) no_nodes))) no_span

one_call_untyped : HasTyping example [] one_call → ⊥
one_call_untyped typing =
    let types : ℕ → TypeExpr = typing.0 in
    let call = typing.1.parts.0 in
    let first : types 0 ≡ call.0 105 = call.1.0 in
    let second : types 1 ≡ call.0 105 = call.1.1.0 in
    let three : types 0 ≡ IntType = typing.1.parts.1.0 in
    let text : types 1 ≡ TextType = typing.1.parts.1.1.0 in
    cc

-- a type variable of the head stands for itself alone
own_untyped : HasTyping example (TypeVariable 7 ∷ []) (Simple (Shape 0 (IntegerSymbol (pos 3)) []) no_span) → ⊥
own_untyped typing =
    let types : ℕ → TypeExpr = typing.0 in
    let head : types 0 ≡ TypeVariable 7 = typing.1.head.0 in
    let three : types 0 ≡ IntType = typing.1.parts.0 in
    cc

-- no type is a part of itself
depth : TypeExpr → ℕ
depth (TypeApplication name (more_types first rest)) = suc (depth first)
depth (TypeApplication name no_types) = 0
depth (TypeVariable name) = 0
depth IntType = 0
depth TextType = 0

pub apart : (type : TypeExpr) → type ≡ maybe type → ⊥
unfolding depth
apart type same = let e : depth type ≡ suc (depth type) = ap depth same in omega arith

-- `X = some(X)`
circle_untyped : HasTyping example [] (Simple (Shape 0 (ConstructorSymbol 103 1) (0 ∷ [])) no_span) → ⊥
circle_untyped typing =
    let types : ℕ → TypeExpr = typing.0 in
    let goal = typing.1.parts.0 in
    let whole : types 0 ≡ maybe (goal.0 101) = goal.1.0 in
    let inner : types 0 ≡ goal.0 101 = goal.1.1.0 in
    apart (types 0) (whole ∙ ap maybe (sym inner))
