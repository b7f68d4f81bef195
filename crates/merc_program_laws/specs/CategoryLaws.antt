-- What holds of the traces of a good program.
use Rattle.std.specs.Prelude.{◌≡◌, ℕ, ◌<◌, true, is_some, List, [], length, Some, slice_get}
use Rattle.merc_base.specs.declared.category.Category.TheVariants.{Erroneous}
use Rattle.merc_tree.specs.Types.{TypeExpr, replaced}
use Rattle.merc_tree.specs.declared.declarations.Arg.{Arg}
use Rattle.merc_tree.specs.declared.declarations.ModeDecl.{ModeDecl}
use Rattle.merc_tree.specs.declared.declarations.PredDecl.{PredDecl}
use Rattle.merc_tree.specs.declared.declarations.TypeDef.{TypeDef}
use Rattle.merc_tree.specs.declared.declarations.Module.{Module}
use Rattle.merc_graded_tree.specs.declared.basic.Procedure.{Procedure}
use Rattle.merc_order.specs.Bound.{among}
use Rattle.merc_order.specs.Procedures.{bound_at}
use Rattle.merc_grading.specs.Grading.{category_at}
use Rattle.merc_grading.specs.Faults.{Body}
use Rattle.merc_value.specs.Value.{Value}
use Rattle.merc_meaning.specs.Trace.{Env, Trace}
use Rattle.merc_meaning.specs.Steps.{value_at}
use Rattle.merc_meaning.specs.Runs.{node_trace, call_trace}
use Rattle.merc_program_laws.specs.ValueTypes.{HasType}
use Rattle.merc_program_laws.specs.Answers.{Each, IsDone, KeepsTo}
use Rattle.merc_program_laws.specs.GoodPrograms.{IsGoodProgram, IsGoodQuery, program_of}

-- Given are the declared types, and what type variables stand for.
module _ (declared : List TypeDef) (instance : ℕ → TypeExpr) where
  -- The values of a body's first variables, which are its arguments, are of the arguments' types.
  abbrev pub AreTyped : List TypeExpr → Env → Type 0
  AreTyped arguments env = (variable : ℕ) (type : TypeExpr) (value : Value) → slice_get arguments variable ≡ Some type → value_at env variable ≡ Some value
      → HasType declared value (replaced instance type)

  -- before a body: the inputs, and nothing else, have values, and these are of their types
  pub record Enters (places : List Arg) (arguments : List TypeExpr) (env : Env) : Type 0 where
    pub bindings : (variable : ℕ) → is_some (value_at env variable) ≡ bound_at places variable
    pub typed : AreTyped arguments env

  -- at an answer: all arguments have values of their types, and those that were bound before have kept theirs
  pub record Leaves (arguments : List TypeExpr) (env answer : Env) : Type 0 where
    pub keeps : (variable : ℕ) (value : Value) → value_at env variable ≡ Some value → value_at answer variable ≡ Some value
    pub bindings : (variable : ℕ) → variable < length arguments → is_some (value_at answer variable) ≡ true
    pub typed : AreTyped arguments answer

-- a predicate of a module in one of its modes
pub record IsProcedure (known : Module) (procedure : Procedure) (declared : PredDecl) (mode : ModeDecl) : Type 0 where
  pub predicate : slice_get known.preds procedure.predicate ≡ Some declared
  pub mode_there : slice_get declared.modes procedure.mode ≡ Some mode

-- what holds of each call of a good program, whatever the depth and whatever the type variables of the predicate's arguments stand for, where its inputs are
-- well typed
abbrev pub OfEachCall : (PredDecl → ModeDecl → (ℕ → TypeExpr) → Module → Env → Trace → Type 0) → Type 0
OfEachCall Holds =
    (known : Module) (bodies : List Body) → IsGoodProgram known bodies
    → (procedure : Procedure) (declared : PredDecl) (mode : ModeDecl) → IsProcedure known procedure declared mode
    → (instance : (ℕ → TypeExpr)) (env : Env) → Enters known.types instance mode.args declared.args env
    → (depth : ℕ) → Holds declared mode instance known env (call_trace (program_of known.preds bodies) depth procedure env)

-- Each call has as many answers as its mode's category allows.
abbrev pub CategoryLaw : Type 0
CategoryLaw = OfEachCall (λ declared mode instance known env trace. KeepsTo mode.category trace)

-- No call that is declared `erroneous` ends Done.
abbrev pub ErroneousLaw : Type 0
ErroneousLaw = OfEachCall (λ declared mode instance known env trace. mode.category ≡ Erroneous → IsDone trace → ⊥)

-- Each answer gives all arguments values of their types.
abbrev pub TypeLaw : Type 0
TypeLaw = OfEachCall (λ declared mode instance known env trace. Each (Leaves known.types instance declared.args env) trace)

-- Goals that are asked.

-- each of these variables has a value of its type
abbrev pub GivesAll : List TypeDef → (ℕ → TypeExpr) → (ℕ → TypeExpr) → List ℕ → Env → Type 0
GivesAll declared instance types answers env = (variable : ℕ) → among answers variable ≡ true
    → (value : Value) × (value_at env variable ≡ Some value) × HasType declared value (replaced instance (types variable))

-- what holds of each good goal over a good program, whatever the depth of calls and whatever type variables stand for
abbrev pub OfEachQuery : (List ℕ → Body → (ℕ → TypeExpr) → Module → Trace → Type 0) → Type 0
OfEachQuery Holds =
    (known : Module) (bodies : List Body) → IsGoodProgram known bodies → (answers : List ℕ) (query : Body) → IsGoodQuery known answers query → (instance : (ℕ → TypeExpr)) (depth : ℕ)
    → Holds answers query instance known (node_trace (program_of known.preds bodies) (call_trace (program_of known.preds bodies) depth) query.tree [])

-- A goal has as many answers as its category allows, and each gives all answer variables values of their types.

abbrev pub QueryCategoryLaw : Type 0
QueryCategoryLaw = OfEachQuery (λ answers query instance known trace. KeepsTo (category_at query.tree) trace)

abbrev pub QueryTypeLaw : Type 0
QueryTypeLaw = OfEachQuery (λ answers query instance known trace. Each (GivesAll known.types instance query.types answers) trace)
