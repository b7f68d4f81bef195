-- A tree that is made of a typed goal is typed.
use Rattle.std.proofs.Common.{◌≡◌, ℕ, zero, suc, ◌<◌, List, [], ◌∷◌, ◌++◌, length, map, Option, Some, None, slice_get, refl, ap, sym, subst, ◌∙◌, arith}
use Rattle.std.specs.List.{AllByRecursion, slice_index_or}
use Rattle.merc_base.specs.declared.place.Span.{Span}
use Rattle.merc_tree.specs.Types.{TypeExpr}
use Rattle.merc_tree.specs.declared.declarations.Constructor.{Constructor}
use Rattle.merc_tree.specs.declared.declarations.TypeDef.{TypeDef}
use Rattle.merc_tree.specs.declared.declarations.ModeDecl.{ModeDecl}
use Rattle.merc_tree.specs.declared.declarations.PredDecl.{PredDecl}
use Rattle.merc_tree.specs.declared.declarations.Module.{Module}
use Rattle.merc_goal_tree.specs.declared.entries.Root.{Root}
use Rattle.merc_goal_tree.specs.declared.entries.Root.TheVariants.{Conjunction as ConjunctionRoot, Parallel as ParallelRoot, Disjunction as DisjunctionRoot, Conditional as ConditionalRoot, Negation as NegationRoot, Quantified as QuantifiedRoot}
use Rattle.merc_goal_tree.specs.declared.goal.SimpleGoal.{SimpleGoal}
use Rattle.merc_goal_tree.specs.declared.goal.SimpleGoal.TheVariants.{True, Fail, Same, Shape, Arithmetic, Compare, Raise, Call}
use Rattle.merc_goal_tree.specs.declared.goal.Symbol.{Symbol}
use Rattle.merc_goal_tree.specs.declared.goal.Symbol.TheVariants.{Constructor as ConstructorSymbol, Integer as IntegerSymbol, Text as TextSymbol}
use Rattle.merc_goal_tree.specs.Nodes.{Node, Nodes, Simple, Conjunction, Parallel, Disjunction, Conditional, Negation, Quantified, no_nodes, more_nodes, list_of}
use Rattle.merc_goal_tree.specs.Parts.{parts_of, all_parts}
use Rattle.merc_graded_tree.specs.declared.basic.BasicGoal.{BasicGoal}
use Rattle.merc_name_resolution.specs.Known.{constructor_in}
use Rattle.merc_type_check.specs.Typing.{HaveTypes, IsConstructed, IsCalled, HasSymbol, IsTypedGoal, IsTypedPart}
use Rattle.merc_order.specs.Procedures.{modes_in, modes_of}
use Rattle.merc_order_laws.specs.Laws.{SizedSimple, Sized, AllSized}
use Rattle.merc_order_laws.specs.TypedTree.{ModesFit}
use Rattle.merc_order_laws.specs.TypedTreeLaws.{TreeIsTyped, TypedIsSized}
use Rattle.merc_order_laws.specs.WrittenGoals.{simple_goals, all_simple_goals, basic_goals, written_goal}
use Rattle.merc_order_laws.specs.MadeOf.{renamed, StandsFor, as_written, turned_round, with_itself}
use Rattle.merc_order_laws.proofs.Written.{all_left, all_right, all_joined}

pub all_at : (P : SimpleGoal → Type 0) (xs : List SimpleGoal) → AllByRecursion P xs → (place : ℕ) (g : SimpleGoal) → place < length xs → slice_index_or xs place g ≡ g → P g
all_at P [] h place g l e = absurd (omega (arith, l))
all_at P (x ∷ xs) h zero g l e = subst (λ (z : SimpleGoal). P z) e h.0
all_at P (x ∷ xs) h (suc place) g l e = all_at P xs h.1 place g (omega (arith, l)) e

all_mapped : (P Q : BasicGoal → Type 0) → ((g : BasicGoal) → P g → Q g) → (xs : List BasicGoal) → AllByRecursion P xs → AllByRecursion Q xs
all_mapped P Q f [] h = tt
all_mapped P Q f (x ∷ xs) h = (f x h.0, all_mapped P Q f xs h.1)

module _ (known : Module) (types : ℕ → TypeExpr) where
  abbrev Parts : List (Root × Span) → Type 0
  Parts parts = AllByRecursion (IsTypedPart known types) parts

  abbrev Goals : List SimpleGoal → Type 0
  Goals goals = AllByRecursion (IsTypedGoal known types) goals

  mutual
    parts_typed : (m : Node) → Parts (parts_of m) → Goals (simple_goals m)
    parts_typed (Simple goal span) h = (h.0, tt)
    parts_typed (Conjunction goals span) h = all_parts_typed goals (all_left (IsTypedPart known types) (all_parts goals) ((ConjunctionRoot (length (list_of goals)), span) ∷ []) h)
    parts_typed (Parallel goals span) h = all_parts_typed goals (all_left (IsTypedPart known types) (all_parts goals) ((ParallelRoot (length (list_of goals)), span) ∷ []) h)
    parts_typed (Disjunction goals span) h = all_parts_typed goals (all_left (IsTypedPart known types) (all_parts goals) ((DisjunctionRoot (length (list_of goals)), span) ∷ []) h)
    parts_typed (Conditional c t e span) h =
        let three : Parts ((parts_of c ++ parts_of t) ++ parts_of e) = all_left (IsTypedPart known types) ((parts_of c ++ parts_of t) ++ parts_of e) ((ConditionalRoot, span) ∷ []) h in
        let two : Parts (parts_of c ++ parts_of t) = all_left (IsTypedPart known types) (parts_of c ++ parts_of t) (parts_of e) three in
        all_joined (IsTypedGoal known types) (simple_goals c) (simple_goals t ++ simple_goals e) (parts_typed c (all_left (IsTypedPart known types) (parts_of c) (parts_of t) two))
        (all_joined (IsTypedGoal known types) (simple_goals t) (simple_goals e) (parts_typed t (all_right (IsTypedPart known types) (parts_of c) (parts_of t) two))
        (parts_typed e (all_right (IsTypedPart known types) (parts_of c ++ parts_of t) (parts_of e) three)))
    parts_typed (Negation goal span) h = parts_typed goal (all_left (IsTypedPart known types) (parts_of goal) ((NegationRoot, span) ∷ []) h)
    parts_typed (Quantified own goal span) h = parts_typed goal (all_left (IsTypedPart known types) (parts_of goal) ((QuantifiedRoot own, span) ∷ []) h)

    all_parts_typed : (ms : Nodes) → Parts (all_parts ms) → Goals (all_simple_goals ms)
    all_parts_typed no_nodes h = tt
    all_parts_typed (more_nodes first rest) h =
        all_joined (IsTypedGoal known types) (simple_goals first) (all_simple_goals rest) (parts_typed first (all_left (IsTypedPart known types) (parts_of first) (all_parts rest) h))
        (all_parts_typed rest (all_right (IsTypedPart known types) (parts_of first) (all_parts rest) h))

  stand_typed : (goals : List SimpleGoal) → Goals goals → (g : SimpleGoal) → StandsFor goals g → IsTypedGoal known types g
  stand_typed goals h g (as_written k c) = all_at (IsTypedGoal known types) goals h c.0 k c.1 c.2
  stand_typed goals h g (turned_round a b c) = sym (all_at (IsTypedGoal known types) goals h c.0 (Same a b) c.1 c.2)
  stand_typed goals h g (with_itself v) = refl

  -- A goal is typed under the types of the variables that stand in the place of its own.
  module _ (new : ℕ → ℕ) where
    abbrev Behind : ℕ → TypeExpr
    Behind v = types (new v)

    have_types : (instance : ℕ → TypeExpr) (ys : List ℕ) (ts : List TypeExpr) → HaveTypes known types instance (map new ys) ts → HaveTypes known Behind instance ys ts
    have_types instance [] [] h = h
    have_types instance [] (t ∷ ts) h = h
    have_types instance (y ∷ ys) [] h = h
    have_types instance (y ∷ ys) (t ∷ ts) h = (h.0, have_types instance ys ts h.1)

    constructed : (found : Option (TypeDef × Constructor)) (whole : ℕ) (ys : List ℕ) → IsConstructed known types (new whole) found (map new ys) → IsConstructed known Behind whole found ys
    constructed None whole ys h = h
    constructed (Some found) whole ys (instance, h) = (instance, (h.0, have_types instance ys found.1.args h.1))

    symbol_typed : (symbol : Symbol) (whole : ℕ) (ys : List ℕ) → HasSymbol known types (new whole) symbol (map new ys) → HasSymbol known Behind whole symbol ys
    symbol_typed (ConstructorSymbol name arity) whole ys h = constructed (constructor_in known.types name arity) whole ys h
    symbol_typed (IntegerSymbol value) whole ys h = h
    symbol_typed (TextSymbol text) whole ys h = h

    called : (found : Option PredDecl) (ys : List ℕ) → IsCalled known types found (map new ys) → IsCalled known Behind found ys
    called None ys h = h
    called (Some declared) ys (instance, h) = (instance, have_types instance ys declared.args h)

    goal_typed : (g : SimpleGoal) → IsTypedGoal known types (renamed new g) → IsTypedGoal known Behind g
    goal_typed True h = h
    goal_typed Fail h = h
    goal_typed (Same one other) h = h
    goal_typed (Shape whole symbol ys) h = symbol_typed symbol whole ys h
    goal_typed (Arithmetic operation result left right) h = h
    goal_typed (Compare comparison left right) h = h
    goal_typed (Raise text) h = h
    goal_typed (Call predicate ys) h = called (slice_get known.preds predicate) ys h

pub tree_is_typed : TreeIsTyped
tree_is_typed known types arguments goal new tree typed made =
    all_mapped (λ basic. StandsFor (simple_goals goal) (renamed new (written_goal basic))) (λ basic. IsTypedGoal known (λ v. types (new v)) (written_goal basic))
    (λ basic h. goal_typed known types new (written_goal basic) (stand_typed known types (simple_goals goal) (parts_typed known types goal typed.parts) (renamed new (written_goal basic)) h))
    (basic_goals tree) made

-- Each call of a typed goal has as many arguments as each mode has places.

types_length : (known : Module) (types : ℕ → TypeExpr) (instance : ℕ → TypeExpr) (ys : List ℕ) (ts : List TypeExpr) → HaveTypes known types instance ys ts → length ts ≡ length ys
types_length known types instance [] [] h = refl
types_length known types instance [] (t ∷ ts) h = absurd h
types_length known types instance (y ∷ ys) [] h = absurd h
types_length known types instance (y ∷ ys) (t ∷ ts) h = ap suc (types_length known types instance ys ts h.1)

modes_length : (count other : ℕ) (ms : List ModeDecl) → count ≡ other → AllByRecursion (λ mode. length mode.args ≡ count) ms → AllByRecursion (λ mode. length mode.args ≡ other) ms
modes_length count other [] e h = tt
modes_length count other (m ∷ ms) e h = (h.0 ∙ e, modes_length count other ms e h.1)

call_sized : (known : Module) (types : ℕ → TypeExpr) (preds : List PredDecl) (number : ℕ) (ys : List ℕ) → ModesFit preds → IsCalled known types (slice_get preds number) ys
    → AllByRecursion (λ mode. length mode.args ≡ length ys) (modes_in (slice_get preds number))
call_sized known types [] number ys fit h = absurd h
call_sized known types (p ∷ ps) zero ys fit (instance, h) = modes_length (length p.args) (length ys) p.modes (types_length known types instance ys p.args h) fit.0
call_sized known types (p ∷ ps) (suc number) ys fit h = call_sized known types ps number ys fit.1 h

goal_sized : (known : Module) (types : ℕ → TypeExpr) → ModesFit known.preds → (g : SimpleGoal) → IsTypedGoal known types g → SizedSimple (modes_of known.preds) g
goal_sized known types fit True h = tt
goal_sized known types fit Fail h = tt
goal_sized known types fit (Same one other) h = tt
goal_sized known types fit (Shape whole symbol ys) h = tt
goal_sized known types fit (Arithmetic operation result left right) h = tt
goal_sized known types fit (Compare comparison left right) h = tt
goal_sized known types fit (Raise text) h = tt
goal_sized known types fit (Call predicate ys) h = call_sized known types known.preds predicate ys fit h

module _ (known : Module) (types : ℕ → TypeExpr) (fit : ModesFit known.preds) where
  mutual
    sized : (m : Node) → Goals known types (simple_goals m) → Sized (modes_of known.preds) m
    sized (Simple goal span) h = goal_sized known types fit goal h.0
    sized (Conjunction goals span) h = all_sized goals h
    sized (Parallel goals span) h = all_sized goals h
    sized (Disjunction goals span) h = all_sized goals h
    sized (Conditional c t e span) h =
        let rest : Goals known types (simple_goals t ++ simple_goals e) = all_right (IsTypedGoal known types) (simple_goals c) (simple_goals t ++ simple_goals e) h in (
          sized c (all_left (IsTypedGoal known types) (simple_goals c) (simple_goals t ++ simple_goals e) h),
          sized t (all_left (IsTypedGoal known types) (simple_goals t) (simple_goals e) rest),
          sized e (all_right (IsTypedGoal known types) (simple_goals t) (simple_goals e) rest),
        )
    sized (Negation goal span) h = sized goal h
    sized (Quantified own goal span) h = sized goal h

    all_sized : (ms : Nodes) → Goals known types (all_simple_goals ms) → AllSized (modes_of known.preds) ms
    all_sized no_nodes h = tt
    all_sized (more_nodes first rest) h = (
      sized first (all_left (IsTypedGoal known types) (simple_goals first) (all_simple_goals rest) h),
      all_sized rest (all_right (IsTypedGoal known types) (simple_goals first) (all_simple_goals rest) h),
    )

pub typed_is_sized : TypedIsSized
typed_is_sized known types arguments goal fit typed = sized known types fit goal (parts_typed known types goal typed.parts)
