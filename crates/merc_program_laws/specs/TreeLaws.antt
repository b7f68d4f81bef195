-- What trees keep when they are given their switches, and then their categories.
use Rattle.std.specs.Prelude.{◌≡◌, ℕ, true, List}
use Rattle.merc_tree.specs.Types.{TypeExpr}
use Rattle.merc_tree.specs.declared.declarations.ModeDecl.{ModeDecl}
use Rattle.merc_tree.specs.declared.declarations.PredDecl.{PredDecl}
use Rattle.merc_tree.specs.declared.declarations.TypeDef.{TypeDef}
use Rattle.merc_tree.specs.declared.declarations.Module.{Module}
use Rattle.merc_graded_tree.specs.Nodes.{Node, outputs_of}
use Rattle.merc_graded_tree.specs.Variables.{in_node}
use Rattle.merc_order.specs.Bound.{Bound, Holds, nothing}
use Rattle.merc_order.specs.Ordered.{Ordered}
use Rattle.merc_order.specs.Procedures.{bound_at}
use Rattle.merc_order.specs.Spelt.{spelt}
use Rattle.merc_grading.specs.Known.{Known}
use Rattle.merc_grading.specs.Switches.{find}
use Rattle.merc_grading.specs.Grading.{category_at, graded}
use Rattle.merc_grading.specs.Faults.{Body, allows}
use Rattle.merc_order_laws.specs.Bindings.{Variables}
use Rattle.merc_order_laws.specs.GoodTree.{node_ends, GoodNode}
use Rattle.merc_order_laws.specs.TypedTree.{IsTypedTree}
use Rattle.merc_program_laws.specs.Guarding.{HasGuards}
use Rattle.merc_program_laws.specs.GoodPrograms.{HasLiterals, IsGoodProcedure, IsGoodQuery}
use Rattle.merc_program_laws.specs.OrderedBodies.{IsOrderedProcedure, IsOrderedQuery, finished_body}

-- A good goal, outside which all that is bound before it occurs, is good with its switches.
abbrev pub FoundIsGood : Type 0
FoundIsGood = (declared : List TypeDef) (types : ℕ → TypeExpr) (modes : ℕ → List ModeDecl) (outside : Variables) (bound : Bound) (tree : Node) → Holds bound outside
    → GoodNode modes outside bound tree → GoodNode modes outside bound (find declared types bound tree)

-- With its switches a goal's end can be reached where it could before, and it has the same outputs and the same variables.

abbrev pub FoundEnds : Type 0
FoundEnds = (declared : List TypeDef) (types : ℕ → TypeExpr) (modes : ℕ → List ModeDecl) (bound : Bound) (tree : Node) → node_ends modes (find declared types bound tree) ≡ node_ends modes tree

abbrev pub FoundOutputs : Type 0
FoundOutputs = (declared : List TypeDef) (types : ℕ → TypeExpr) (bound : Bound) (tree : Node) → outputs_of (find declared types bound tree) ≡ outputs_of tree

abbrev pub FoundVariables : Type 0
FoundVariables = (declared : List TypeDef) (types : ℕ → TypeExpr) (bound : Bound) (tree : Node) (variable : ℕ) → in_node (find declared types bound tree) variable ≡ in_node tree variable

-- The switches that are found are guarded, where those that were there are.
abbrev pub FoundHasGuards : Type 0
FoundHasGuards = (declared : List TypeDef) (types : ℕ → TypeExpr) (bound : Bound) (tree : Node) → HasGuards tree → HasGuards (find declared types bound tree)

-- An ordered goal with its tests written out has no switch that is not guarded.
abbrev pub SpeltHasGuards : Type 0
SpeltHasGuards = (modes : ℕ → List ModeDecl) (number : ℕ) (ordered : Ordered) → HasGuards (spelt modes number ordered)

-- The parts that hold no others stay typed, and their literals stay as they are.

abbrev pub FoundIsTyped : Type 0
FoundIsTyped = (known : Module) (types : ℕ → TypeExpr) (bound : Bound) (tree : Node) → IsTypedTree known types tree → IsTypedTree known types (find known.types types bound tree)

abbrev pub FoundHasLiterals : Type 0
FoundHasLiterals = (declared : List TypeDef) (types : ℕ → TypeExpr) (bound : Bound) (tree : Node) → HasLiterals tree → HasLiterals (find declared types bound tree)

-- Categories change nothing of this, whatever symbols are known before.

abbrev pub GradedIsGood : Type 0
GradedIsGood = (declared : List TypeDef) (types : ℕ → TypeExpr) (modes : ℕ → List ModeDecl) (seen : Known) (outside : Variables) (bound : Bound) (tree : Node)
    → GoodNode modes outside bound tree → GoodNode modes outside bound (graded declared modes types seen tree)

abbrev pub GradedEnds : Type 0
GradedEnds = (declared : List TypeDef) (types : ℕ → TypeExpr) (modes : ℕ → List ModeDecl) (seen : Known) (tree : Node) → node_ends modes (graded declared modes types seen tree) ≡ node_ends modes tree

abbrev pub GradedOutputs : Type 0
GradedOutputs = (declared : List TypeDef) (types : ℕ → TypeExpr) (modes : ℕ → List ModeDecl) (seen : Known) (tree : Node) → outputs_of (graded declared modes types seen tree) ≡ outputs_of tree

abbrev pub GradedVariables : Type 0
GradedVariables = (declared : List TypeDef) (types : ℕ → TypeExpr) (modes : ℕ → List ModeDecl) (seen : Known) (tree : Node) (variable : ℕ)
    → in_node (graded declared modes types seen tree) variable ≡ in_node tree variable

abbrev pub GradedHasGuards : Type 0
GradedHasGuards = (declared : List TypeDef) (types : ℕ → TypeExpr) (modes : ℕ → List ModeDecl) (seen : Known) (tree : Node) → HasGuards tree → HasGuards (graded declared modes types seen tree)

abbrev pub GradedIsTyped : Type 0
GradedIsTyped = (known : Module) (types : ℕ → TypeExpr) (modes : ℕ → List ModeDecl) (seen : Known) (tree : Node)
    → IsTypedTree known types tree → IsTypedTree known types (graded known.types modes types seen tree)

abbrev pub GradedHasLiterals : Type 0
GradedHasLiterals = (declared : List TypeDef) (types : ℕ → TypeExpr) (modes : ℕ → List ModeDecl) (seen : Known) (tree : Node) → HasLiterals tree → HasLiterals (graded declared modes types seen tree)

-- An ordered body becomes a good one with its switches and categories, where the mode's category allows the one that it has then.
abbrev pub ProcedureBecomesGood : Type 0
ProcedureBecomesGood = (known : Module) (declared : PredDecl) (mode : ModeDecl) (body : Body) → IsOrderedProcedure known declared mode body
    → allows mode.category (category_at (finished_body known (bound_at mode.args) body).tree) ≡ true
    → IsGoodProcedure known declared mode (finished_body known (bound_at mode.args) body)

-- A goal that is asked becomes a good one.
abbrev pub QueryBecomesGood : Type 0
QueryBecomesGood = (known : Module) (answers : List ℕ) (body : Body) → IsOrderedQuery known answers body → IsGoodQuery known answers (finished_body known nothing body)
