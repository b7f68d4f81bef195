-- From typed goals to good programs.
use Rattle.std.specs.Prelude.{◌≡◌, ℕ, List, [], length, None}
use Rattle.merc_tree.specs.Types.{TypeExpr}
use Rattle.merc_tree.specs.declared.declarations.ModeDecl.{ModeDecl}
use Rattle.merc_tree.specs.declared.declarations.PredDecl.{PredDecl}
use Rattle.merc_tree.specs.declared.declarations.Module.{Module}
use Rattle.merc_goal_tree.specs.Nodes.{Node}
use Rattle.merc_graded_tree.specs.Nodes.{Node as OrderedNode}
use Rattle.merc_order.specs.Procedures.{modes_of, IsProcedure, IsQuery}
use Rattle.merc_type_check.specs.Typing.{IsTyped}
use Rattle.merc_grading.specs.Faults.{Body, procedures_of, category_fault}
use Rattle.merc_order_laws.specs.TypedTree.{ModesFit}
use Rattle.merc_program_laws.specs.GoodPrograms.{AreGoodTypes, IsGoodProgram}
use Rattle.merc_program_laws.specs.OrderedBodies.{IsOrderedProcedure, IsOrderedQuery}
use Rattle.merc_program_laws.specs.ProgramBodies.{HasWrittenLiterals, AreOrderedProcedures, finished_bodies, UnitsAllow}

-- there are types with which a tree is a body
abbrev pub HasTypes : (Body → Type 0) → OrderedNode → Type 0
HasTypes IsBody tree = (types : ℕ → TypeExpr) × IsBody (record { types = types; tree = tree })

-- The order of a typed goal, as the body of a predicate in a mode, is an ordered body. Each mode has a place for each argument of its predicate.
abbrev pub ProcedureIsOrdered : Type 0
ProcedureIsOrdered = (known : Module) (declared : PredDecl) (mode : ModeDecl) (types : ℕ → TypeExpr) (goal : Node) (tree : OrderedNode) → ModesFit known.preds
    → length mode.args ≡ length declared.args → IsTyped known types declared.args goal → HasWrittenLiterals goal
    → IsProcedure (modes_of known.preds) (length declared.args) mode goal tree → HasTypes (IsOrderedProcedure known declared mode) tree

-- The same of a goal that is asked.
abbrev pub QueryIsOrdered : Type 0
QueryIsOrdered = (known : Module) (answers : List ℕ) (types : ℕ → TypeExpr) (goal : Node) (tree : OrderedNode) → ModesFit known.preds
    → IsTyped known types [] goal → HasWrittenLiterals goal → IsQuery (modes_of known.preds) answers goal tree → HasTypes (IsOrderedQuery known answers) tree

-- A module whose procedures have no fault of categories is a good program, where its types are good and its procedures have ordered bodies. The categories
-- that library units declare are taken as they are, so these have to allow those of the bodies.
abbrev pub ProgramBecomesGood : Type 0
ProgramBecomesGood = (known : Module) (bodies : List Body) → AreGoodTypes known.types → AreOrderedProcedures known (procedures_of known.preds) bodies
    → UnitsAllow known (procedures_of known.preds) bodies → category_fault known.types known.preds bodies ≡ None → IsGoodProgram known (finished_bodies known (procedures_of known.preds) bodies)
