-- When a goal in flat form is typed.
use Rattle.std.specs.Prelude.{◌≡◌, ℕ, ◌+◌, List, [], ◌∷◌, map, Option, Some, None, slice_get}
use Rattle.std.specs.List.{AllByRecursion}
use Rattle.merc_base.specs.declared.place.Span.{Span}
use Rattle.merc_tree.specs.Types.{TypeExpr, IntType, TextType, TypeApplication, types_of, replaced}
use Rattle.merc_tree.specs.declared.declarations.Constructor.{Constructor}
use Rattle.merc_tree.specs.declared.declarations.TypeDef.{TypeDef}
use Rattle.merc_tree.specs.declared.declarations.PredDecl.{PredDecl}
use Rattle.merc_tree.specs.declared.declarations.Module.{Module}
use Rattle.merc_goal_tree.specs.declared.entries.Root.{Root}
use Rattle.merc_goal_tree.specs.declared.entries.Root.TheVariants.{Simple}
use Rattle.merc_goal_tree.specs.declared.goal.SimpleGoal.{SimpleGoal}
use Rattle.merc_goal_tree.specs.declared.goal.SimpleGoal.TheVariants.{True, Fail, Same, Shape, Arithmetic, Compare, Raise, Call}
use Rattle.merc_goal_tree.specs.declared.goal.Symbol.{Symbol}
use Rattle.merc_goal_tree.specs.declared.goal.Symbol.TheVariants.{Constructor as ConstructorSymbol, Integer as IntegerSymbol, Text as TextSymbol}
use Rattle.merc_goal_tree.specs.Nodes.{Node}
use Rattle.merc_goal_tree.specs.Parts.{parts_of}
use Rattle.merc_name_resolution.specs.Known.{constructor_in}

-- Given are a module and a type for each variable, by its number.
module _ (known : Module) (types : ℕ → TypeExpr) where
  -- variables have declared types, whose type variables stand for these types
  abbrev pub HaveTypes : (ℕ → TypeExpr) → List ℕ → List TypeExpr → Type 0
  HaveTypes instance [] [] = Unit {0}
  HaveTypes instance [] (declared ∷ others) = ⊥
  HaveTypes instance (variable ∷ variables) [] = ⊥
  HaveTypes instance (variable ∷ variables) (declared ∷ others) = (types variable ≡ replaced instance declared) × HaveTypes instance variables others

  -- a variable has a type of this declaration, and the arguments of its constructor have theirs
  abbrev pub HasConstructor : (ℕ → TypeExpr) → ℕ → TypeDef → Constructor → List ℕ → Type 0
  HasConstructor instance variable declared constructor arguments =
      (types variable ≡ TypeApplication declared.name (types_of (map instance declared.params))) × HaveTypes instance arguments constructor.args

  -- Each constructor and each call takes an instance of its own of the declared types: types for their type variables.
  abbrev pub IsConstructed : ℕ → Option (TypeDef × Constructor) → List ℕ → Type 0
  IsConstructed variable None arguments = ⊥
  IsConstructed variable (Some found) arguments = (instance : ℕ → TypeExpr) × HasConstructor instance variable found.0 found.1 arguments

  abbrev pub IsCalled : Option PredDecl → List ℕ → Type 0
  IsCalled None arguments = ⊥
  IsCalled (Some declared) arguments = (instance : ℕ → TypeExpr) × HaveTypes instance arguments declared.args

  abbrev pub HasSymbol : ℕ → Symbol → List ℕ → Type 0
  HasSymbol variable (ConstructorSymbol name arity) arguments = IsConstructed variable (constructor_in known.types name arity) arguments
  HasSymbol variable (IntegerSymbol value) arguments = types variable ≡ IntType
  HasSymbol variable (TextSymbol text) arguments = types variable ≡ TextType

  abbrev pub IsTypedGoal : SimpleGoal → Type 0
  IsTypedGoal True = Unit {0}
  IsTypedGoal Fail = Unit {0}
  IsTypedGoal (Same one other) = types one ≡ types other
  IsTypedGoal (Shape variable symbol arguments) = HasSymbol variable symbol arguments
  IsTypedGoal (Arithmetic operation result left right) = (types result ≡ IntType) × (types left ≡ IntType) × (types right ≡ IntType)
  IsTypedGoal (Compare comparison left right) = (types left ≡ IntType) × (types right ≡ IntType)
  IsTypedGoal (Raise text) = types text ≡ TextType
  IsTypedGoal (Call number arguments) = IsCalled (slice_get known.preds number) arguments

  -- a goal that joins others is typed where they are
  abbrev pub IsTypedPart : Root × Span → Type 0
  IsTypedPart (Simple goal, span) = IsTypedGoal goal
  IsTypedPart (other, span) = Unit {0}

  -- the variables from this number on have these types
  abbrev pub AreArguments : ℕ → List TypeExpr → Type 0
  AreArguments number [] = Unit {0}
  AreArguments number (declared ∷ others) = (types number ≡ declared) × AreArguments (number + 1) others

  -- each part of a goal is typed, and the predicate's arguments have their declared types, whose type variables stand for themselves
  pub record IsTyped (arguments : List TypeExpr) (goal : Node) : Type 0 where
    pub head : AreArguments 0 arguments
    pub parts : AllByRecursion IsTypedPart (parts_of goal)

-- There are types for the variables.
abbrev pub HasTyping : Module → List TypeExpr → Node → Type 0
HasTyping known arguments goal = (types : ℕ → TypeExpr) × IsTyped known types arguments goal
