-- What the passes establish of a program.
use Rattle.std.specs.Prelude.{◌≡◌, ℕ, true, FitsSigned, List, [], ◌∷◌, length, map}
use Rattle.std.specs.Int.{w64}
use Rattle.std.specs.List.{AllByRecursion}
use Rattle.merc_tree.specs.Types.{TypeExpr, TypeVariable, IntType, TextType, TypeApplication, TypeExprs, no_types, more_types}
use Rattle.merc_tree.specs.declared.declarations.ModeDecl.{ModeDecl}
use Rattle.merc_tree.specs.declared.declarations.PredDecl.{PredDecl}
use Rattle.merc_tree.specs.declared.declarations.TypeDef.{TypeDef}
use Rattle.merc_tree.specs.declared.declarations.Module.{Module}
use Rattle.merc_goal_tree.specs.declared.goal.Symbol.{Symbol}
use Rattle.merc_goal_tree.specs.declared.goal.Symbol.TheVariants.{Constructor, Integer, Text}
use Rattle.merc_graded_tree.specs.declared.basic.BasicGoal.{BasicGoal}
use Rattle.merc_graded_tree.specs.declared.basic.BasicGoal.TheVariants.{Build, Split}
use Rattle.merc_graded_tree.specs.Nodes.{Node}
use Rattle.merc_order.specs.Bound.{nothing, among}
use Rattle.merc_order.specs.Procedures.{bound_at, numbers_below, modes_of}
use Rattle.merc_type_check.specs.Typing.{AreArguments}
use Rattle.merc_grading.specs.Grading.{category_at, graded}
use Rattle.merc_grading.specs.Fitting.{AreToldApart}
use Rattle.merc_grading.specs.Faults.{allows, Procedure, Body, procedures_of}
use Rattle.merc_order_laws.specs.GoodTree.{GoodNode}
use Rattle.merc_order_laws.specs.Laws.{BindsHeads}
use Rattle.merc_order_laws.specs.TypedTree.{IsTypedTree}
use Rattle.merc_order_laws.specs.WrittenGoals.{basic_goals}
use Rattle.merc_meaning.specs.Runs.{Program}
use Rattle.merc_meaning.specs.Programs.{body_of}
use Rattle.merc_program_laws.specs.Guarding.{HasGuards}

-- Declared types.

abbrev mutual
  -- a type mentions none but these parameters
  pub MentionsOnly : List ℕ → TypeExpr → Type 0
  MentionsOnly parameters (TypeVariable name) = among parameters name ≡ true
  MentionsOnly parameters IntType = Unit {0}
  MentionsOnly parameters TextType = Unit {0}
  MentionsOnly parameters (TypeApplication name arguments) = AllMentionOnly parameters arguments

  pub AllMentionOnly : List ℕ → TypeExprs → Type 0
  AllMentionOnly parameters no_types = Unit {0}
  AllMentionOnly parameters (more_types first rest) = MentionsOnly parameters first × AllMentionOnly parameters rest

-- the arguments of a type's constructors mention none but its parameters
abbrev pub IsScoped : TypeDef → Type 0
IsScoped declared = AllByRecursion (λ constructor. AllByRecursion (MentionsOnly declared.params) constructor.args) declared.constructors

-- types are told apart, and their constructors mention none but their parameters
pub record AreGoodTypes (declared : List TypeDef) : Type 0 where
  pub apart : AreToldApart declared
  pub scoped : AllByRecursion IsScoped declared

-- Trees.

-- an integer or a text has no arguments, and an integer is one of 64 bits
abbrev pub FitsArguments : Symbol → List ℕ → Type 0
FitsArguments (Constructor name arity) arguments = Unit {0}
FitsArguments (Integer value) arguments = FitsSigned w64 value × (arguments ≡ [])
FitsArguments (Text text) arguments = arguments ≡ []

abbrev pub HasLiteral : BasicGoal → Type 0
HasLiteral (Build whole symbol arguments) = FitsArguments symbol arguments
HasLiteral (Split whole symbol arguments) = FitsArguments symbol arguments
HasLiteral other = Unit {0}

abbrev pub HasLiterals : Node → Type 0
HasLiterals tree = AllByRecursion HasLiteral (basic_goals tree)

-- A tree is some tree with all categories, where no symbol is known before.
abbrev pub IsGraded : Module → (ℕ → TypeExpr) → Node → Type 0
IsGraded known types tree = (without : Node) × (tree ≡ graded known.types (modes_of known.preds) types [] without)

-- The body of a predicate in a mode is typed, with the predicate's arguments as its first variables. Where the mode's inputs are bound before, what each
-- part writes is free and what it reads is bound, and all arguments are bound at its end, if that can be reached. Switches are guarded. Each part has its
-- category, and the mode's category allows the body's.
pub record IsGoodProcedure (known : Module) (declared : PredDecl) (mode : ModeDecl) (body : Body) : Type 0 where
  pub arity : length mode.args ≡ length declared.args
  pub head : AreArguments known body.types 0 declared.args
  pub typed : IsTypedTree known body.types body.tree
  pub literals : HasLiterals body.tree
  pub binds : GoodNode (modes_of known.preds) (among (numbers_below (length declared.args))) (bound_at mode.args) body.tree
  pub binds_head : BindsHeads (modes_of known.preds) (numbers_below (length declared.args)) (bound_at mode.args) body.tree
  pub guarded : HasGuards body.tree
  pub is_graded : IsGraded known body.types body.tree
  pub allowed : allows mode.category (category_at body.tree) ≡ true

-- The same of a goal that is asked, with its answer variables, where nothing is bound before.
pub record IsGoodQuery (known : Module) (answers : List ℕ) (body : Body) : Type 0 where
  pub typed : IsTypedTree known body.types body.tree
  pub literals : HasLiterals body.tree
  pub binds : GoodNode (modes_of known.preds) (among answers) nothing body.tree
  pub binds_answers : BindsHeads (modes_of known.preds) answers nothing body.tree
  pub guarded : HasGuards body.tree
  pub is_graded : IsGraded known body.types body.tree

-- Programs.

-- each of these procedures has its body, and that is good
abbrev pub AreGoodProcedures : Module → List Procedure → List Body → Type 0
AreGoodProcedures known [] [] = Unit {0}
AreGoodProcedures known [] (body ∷ bodies) = ⊥
AreGoodProcedures known (procedure ∷ procedures) [] = ⊥
AreGoodProcedures known (procedure ∷ procedures) (body ∷ bodies) =
    IsGoodProcedure known procedure.predicate procedure.mode body × AreGoodProcedures known procedures bodies

-- a module's predicates in their modes have these bodies, in their order
pub record IsGoodProgram (known : Module) (bodies : List Body) : Type 0 where
  pub good_types : AreGoodTypes known.types
  pub procedures : AreGoodProcedures known (procedures_of known.preds) bodies

-- the program of predicates whose modes have these bodies
abbrev pub program_of : List PredDecl → List Body → Program
program_of predicates bodies procedure = body_of predicates (map (λ (body : Body). body.tree) bodies) procedure.predicate procedure.mode
