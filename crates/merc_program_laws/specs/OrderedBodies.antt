-- Ordered bodies, before they have their switches and categories.
use Rattle.std.specs.Prelude.{◌≡◌, ℕ, List, length}
use Rattle.merc_tree.specs.declared.declarations.ModeDecl.{ModeDecl}
use Rattle.merc_tree.specs.declared.declarations.PredDecl.{PredDecl}
use Rattle.merc_tree.specs.declared.declarations.Module.{Module}
use Rattle.merc_order.specs.Bound.{Bound, nothing, among}
use Rattle.merc_order.specs.Procedures.{bound_at, numbers_below, modes_of}
use Rattle.merc_type_check.specs.Typing.{AreArguments}
use Rattle.merc_grading.specs.Faults.{Body, finished}
use Rattle.merc_order_laws.specs.GoodTree.{GoodNode}
use Rattle.merc_order_laws.specs.Laws.{BindsHeads}
use Rattle.merc_order_laws.specs.TypedTree.{IsTypedTree}
use Rattle.merc_program_laws.specs.Guarding.{HasGuards}
use Rattle.merc_program_laws.specs.GoodPrograms.{HasLiterals}

-- The body of a predicate in a mode is typed, with the predicate's arguments as its first variables. Where the mode's inputs are bound before, what each
-- part writes is free and what it reads is bound, and all arguments are bound at its end, if that can be reached. Switches, if it has any, are guarded.
pub record IsOrderedProcedure (known : Module) (declared : PredDecl) (mode : ModeDecl) (body : Body) : Type 0 where
  pub arity : length mode.args ≡ length declared.args
  pub head : AreArguments known body.types 0 declared.args
  pub typed : IsTypedTree known body.types body.tree
  pub literals : HasLiterals body.tree
  pub binds : GoodNode (modes_of known.preds) (among (numbers_below (length declared.args))) (bound_at mode.args) body.tree
  pub binds_head : BindsHeads (modes_of known.preds) (numbers_below (length declared.args)) (bound_at mode.args) body.tree
  pub guarded : HasGuards body.tree

-- The same of a goal that is asked, with its answer variables, where nothing is bound before.
pub record IsOrderedQuery (known : Module) (answers : List ℕ) (body : Body) : Type 0 where
  pub typed : IsTypedTree known body.types body.tree
  pub literals : HasLiterals body.tree
  pub binds : GoodNode (modes_of known.preds) (among answers) nothing body.tree
  pub binds_answers : BindsHeads (modes_of known.preds) answers nothing body.tree
  pub guarded : HasGuards body.tree

-- a body with its switches and categories, from what is bound before it
abbrev pub finished_body : Module → Bound → Body → Body
finished_body known bound body = record { types = body.types; tree = finished known.types known.preds bound body }
