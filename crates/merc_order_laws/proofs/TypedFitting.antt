-- The symbols in typed goals fit the types of their variables.
use Rattle.std.proofs.Common.{◌≡◌, ◌⊎◌, inl, inr, ℕ, Bool, true, false, ◌==◌, ◌&&◌, ◌||◌, List, [], ◌∷◌, ◌++◌, length, map, find, Option, Some, None, option_map, if◌then◌else◌, refl, ap, sym, ◌∙◌, arith}
use Rattle.std.proofs.lemmas.Bool.Decides.{nat_tests}
use Rattle.std.proofs.lemmas.List.{length-map}
use Rattle.std.proofs.lemmas.Option.{same_Some}
use Rattle.std.specs.List.{list_any, AllByRecursion}
use Rattle.merc_tree.specs.Types.{TypeExpr, types_of, type_list}
use Rattle.merc_tree.specs.declared.declarations.Constructor.{Constructor}
use Rattle.merc_tree.specs.declared.declarations.TypeDef.{TypeDef}
use Rattle.merc_tree.specs.declared.declarations.Module.{Module}
use Rattle.merc_goal_tree.specs.declared.goal.Symbol.{Symbol}
use Rattle.merc_goal_tree.specs.declared.goal.Symbol.TheVariants.{Constructor as ConstructorSymbol, Integer as IntegerSymbol, Text as TextSymbol}
use Rattle.merc_graded_tree.specs.declared.basic.BasicGoal.{BasicGoal}
use Rattle.merc_graded_tree.specs.declared.basic.BasicGoal.TheVariants.{True, Fail, Assign, Test, Build, Split, Arithmetic, Compare, Raise, Call, Wait, Signal}
use Rattle.merc_graded_tree.specs.Nodes.{Node, node, Goal, Basic, Conjunction, Disjunction, Switch, Conditional, Negation, Quantified, Nodes, no_nodes, more_nodes}
use Rattle.merc_name_resolution.specs.Known.{constructor_in, has_name}
use Rattle.merc_grading.specs.Fitting.{are_alike, AreToldApart, FitsSymbol, FitsBasic, Fits, FitsGoal, FitsAll}
use Rattle.merc_grading.specs.Known.{symbol_of, symbols_named, symbols_of_type}
use Rattle.merc_type_check.specs.Typing.{IsConstructed, HasSymbol, IsTypedGoal}
use Rattle.merc_order_laws.specs.WrittenGoals.{basic_goals, basic_goals_in, all_basic_goals, written_goal}
use Rattle.merc_order_laws.proofs.Written.{all_left, all_right}
use Rattle.merc_order_laws.specs.Fitting.{HasNoSwitch, HasNoSwitchIn, HaveNoSwitch, TypedFits}

-- The declared type of a constructor is the first one of its name with so many parameters.

abbrev IsAmong : TypeDef → List TypeDef → Type 0
IsAmong one [] = ⊥
IsAmong one (first ∷ rest) = (one ≡ first) ⊎ IsAmong one rest

type_is : (first : TypeDef) (constructor : Option Constructor) (found : TypeDef × Constructor) → option_map (λ constructor. (first, constructor)) constructor ≡ Some found → found.0 ≡ first
type_is first None found is = absurd cc
type_is first (Some constructor) found is = sym (ap (λ (pair : TypeDef × Constructor). pair.0) (same_Some _ _ is))

found_among : (declared : List TypeDef) (name arity : ℕ) (found : TypeDef × Constructor) → constructor_in declared name arity ≡ Some found → IsAmong found.0 declared
found_among [] name arity found is = absurd cc
found_among (first ∷ rest) name arity found is = by (list_any (has_name name arity) first.constructors) (found_among rest name arity found) is
  where
    by : (b : Bool) → (constructor_in rest name arity ≡ Some found → IsAmong found.0 rest)
        → (if b then option_map (λ constructor. (first, constructor)) (find (has_name name arity) first.constructors) else constructor_in rest name arity) ≡ Some found
        → IsAmong found.0 (first ∷ rest)
    by true inner is = inl (type_is first (find (has_name name arity) first.constructors) found is)
    by false inner is = inr (inner is)

equal_self : (a : ℕ) → (a == a) ≡ true
equal_self a = grind (arith, nat_tests)

equal_turned : (a b : ℕ) → (a == b) ≡ (b == a)
equal_turned a b = grind (arith, nat_tests)

none_alike : (first : TypeDef) (rest : List TypeDef) (one : TypeDef) → list_any (are_alike first) rest ≡ false → IsAmong one rest → are_alike first one ≡ false
none_alike first [] one apart among = absurd among
none_alike first (next ∷ rest) one apart among = by (are_alike first next) refl (none_alike first rest one) apart among
  where
    by : (b : Bool) → are_alike first next ≡ b → (list_any (are_alike first) rest ≡ false → IsAmong one rest → are_alike first one ≡ false) → (b || list_any (are_alike first) rest) ≡ false
        → IsAmong one (next ∷ rest) → are_alike first one ≡ false
    by true is inner apart among = absurd cc
    by false is inner apart (inl same) = ap (are_alike first) same ∙ is
    by false is inner apart (inr among) = inner apart among

symbols_are : (declared : List TypeDef) (one : TypeDef) → AreToldApart declared → IsAmong one declared → symbols_named declared one.name (length one.params) ≡ Some (map symbol_of one.constructors)
symbols_are [] one apart among = absurd among
symbols_are (first ∷ rest) one apart (inl same) =
    ap (λ (d : TypeDef). symbols_named (first ∷ rest) d.name (length d.params)) same
    ∙ ap (λ (b : Bool). if b && (length first.params == length first.params) then Some (map symbol_of first.constructors) else symbols_named rest first.name (length first.params)) (equal_self first.name)
    ∙ ap (λ (b : Bool). if b then Some (map symbol_of first.constructors) else symbols_named rest first.name (length first.params)) (equal_self (length first.params))
    ∙ ap (λ (d : TypeDef). Some (map symbol_of d.constructors)) (sym same)
symbols_are (first ∷ rest) one apart (inr among) =
    ap (λ (b : Bool). if b && (length first.params == length one.params) then Some (map symbol_of first.constructors) else symbols_named rest one.name (length one.params)) (equal_turned first.name one.name)
    ∙ ap (λ (b : Bool). if (one.name == first.name) && b then Some (map symbol_of first.constructors) else symbols_named rest one.name (length one.params)) (equal_turned (length first.params) (length one.params))
    ∙ ap (λ (b : Bool). if b then Some (map symbol_of first.constructors) else symbols_named rest one.name (length one.params)) (none_alike first rest one apart.0 among)
    ∙ symbols_are rest one apart.1 among

type_list-types_of : (all : List TypeExpr) → type_list (types_of all) ≡ all
type_list-types_of [] = refl
type_list-types_of (first ∷ rest) = ap (λ (l : List TypeExpr). first ∷ l) (type_list-types_of rest)

-- Given are a module whose types are told apart, and a type for each variable.
module _ (known : Module) (types : ℕ → TypeExpr) (apart : AreToldApart known.types) where
  constructor_fits : (name arity whole : ℕ) (arguments : List ℕ) (found : Option (TypeDef × Constructor)) → constructor_in known.types name arity ≡ found → IsConstructed known types whole found arguments
      → symbols_of_type known.types (types whole) ≡ option_map (λ found. map symbol_of found.0.constructors) found
  constructor_fits name arity whole arguments None is typed = absurd typed
  constructor_fits name arity whole arguments (Some found) is (instance, typed) =
      ap (symbols_of_type known.types) typed.0
      ∙ ap (λ (l : List TypeExpr). symbols_named known.types found.0.name (length l)) (type_list-types_of (map instance found.0.params))
      ∙ ap (symbols_named known.types found.0.name) (length-map found.0.params instance)
      ∙ symbols_are known.types found.0 apart (found_among known.types name arity found is)

  symbol_fits : (symbol : Symbol) (whole : ℕ) (arguments : List ℕ) → HasSymbol known types whole symbol arguments → FitsSymbol known.types types whole symbol
  symbol_fits (ConstructorSymbol name arity) whole arguments typed = constructor_fits name arity whole arguments (constructor_in known.types name arity) refl typed
  symbol_fits (IntegerSymbol value) whole arguments typed = ap (symbols_of_type known.types) typed
  symbol_fits (TextSymbol text) whole arguments typed = ap (symbols_of_type known.types) typed

  basic_fits : (basic : BasicGoal) → IsTypedGoal known types (written_goal basic) → FitsBasic known.types types basic
  basic_fits True typed = tt
  basic_fits Fail typed = tt
  basic_fits (Assign to from) typed = tt
  basic_fits (Test one other) typed = tt
  basic_fits (Build whole symbol arguments) typed = tt
  basic_fits (Split whole symbol arguments) typed = symbol_fits symbol whole arguments typed
  basic_fits (Arithmetic operation result left right) typed = tt
  basic_fits (Compare comparison left right) typed = tt
  basic_fits (Raise text) typed = tt
  basic_fits (Call procedure arguments) typed = tt
  basic_fits (Wait variable conjunct) typed = tt
  basic_fits (Signal variable conjunct) typed = tt

  abbrev IsTypedBasic : BasicGoal → Type 0
  IsTypedBasic basic = IsTypedGoal known types (written_goal basic)

  abbrev AreTyped : List BasicGoal → Type 0
  AreTyped goals = AllByRecursion IsTypedBasic goals

  mutual
    fits : (tree : Node) → HasNoSwitch tree → AreTyped (basic_goals tree) → Fits known.types types tree
    fits (node goal outputs category span) none typed = goal_fits goal none typed

    goal_fits : (goal : Goal) → HasNoSwitchIn goal → AreTyped (basic_goals_in goal) → FitsGoal known.types types goal
    goal_fits (Basic goal) none typed = basic_fits goal typed.0
    goal_fits (Conjunction running goals) none typed = all_fit goals none typed
    goal_fits (Disjunction goals) none typed = all_fit goals none typed
    goal_fits (Switch variable arms) none typed = absurd none
    goal_fits (Conditional condition then_part else_part) none typed =
        let rest : AreTyped (basic_goals then_part ++ basic_goals else_part) = all_right IsTypedBasic (basic_goals condition) (basic_goals then_part ++ basic_goals else_part) typed in (
          fits condition none.0 (all_left IsTypedBasic (basic_goals condition) (basic_goals then_part ++ basic_goals else_part) typed),
          fits then_part none.1 (all_left IsTypedBasic (basic_goals then_part) (basic_goals else_part) rest),
          fits else_part none.2 (all_right IsTypedBasic (basic_goals then_part) (basic_goals else_part) rest),
        )
    goal_fits (Negation goal) none typed = fits goal none typed
    goal_fits (Quantified own goal) none typed = fits goal none typed

    all_fit : (goals : Nodes) → HaveNoSwitch goals → AreTyped (all_basic_goals goals) → FitsAll known.types types goals
    all_fit no_nodes none typed = tt
    all_fit (more_nodes first rest) none typed = (
      fits first none.0 (all_left IsTypedBasic (basic_goals first) (all_basic_goals rest) typed),
      all_fit rest none.1 (all_right IsTypedBasic (basic_goals first) (all_basic_goals rest) typed),
    )

pub typed_fits : TypedFits
typed_fits known types tree apart none typed = fits known types apart tree none typed
