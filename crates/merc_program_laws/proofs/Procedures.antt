-- What holds before the body of a procedure, where its arguments are outside.
use Rattle.std.proofs.Common.{◌<◌, [], length, sym, ◌∙◌, subst, arith}
use Rattle.merc_tree.specs.Types.{TypeExpr, replaced}
use Rattle.merc_tree.specs.declared.declarations.ModeDecl.{ModeDecl}
use Rattle.merc_tree.specs.declared.declarations.PredDecl.{PredDecl}
use Rattle.merc_tree.specs.declared.declarations.Module.{Module}
use Rattle.merc_graded_tree.specs.Variables.{in_node}
use Rattle.merc_order.specs.Bound.{among}
use Rattle.merc_order.specs.Procedures.{bound_at, numbers_below, modes_of}
use Rattle.merc_order_laws.specs.GoodTree.{GoodNode}
use Rattle.merc_order_laws.proofs.Bodies.{below_are}
use Rattle.merc_grading.specs.Faults.{Body}
use Rattle.merc_meaning.specs.Trace.{Env}
use Rattle.merc_meaning.specs.Steps.{value_at}
use Rattle.merc_meaning.specs.Truth.{is_argument}
use Rattle.merc_program_laws.specs.ValueTypes.{HasType}
use Rattle.merc_program_laws.specs.GoodPrograms.{IsGoodProcedure}
use Rattle.merc_program_laws.specs.CategoryLaws.{Enters}
use Rattle.merc_program_laws.proofs.Values.{Instance, none_not, is_some_of}
use Rattle.merc_program_laws.proofs.Lawful.{Fits}
use Rattle.merc_program_laws.proofs.NumberedBodies.{type_below, type_of}
use Rattle.merc_program_laws.proofs.Fewer.{node_fewer}
use Rattle.merc_program_laws.proofs.OrderTruth.{argument_below, inputs_are}

-- Given is a procedure with a good body.
module _ (known : Module) (declared : PredDecl) (mode : ModeDecl) (body : Body) (good : IsGoodProcedure known declared mode body) where
  -- it is good with its arguments outside
  pub body_good : GoodNode (modes_of known.preds) (is_argument mode.args) (bound_at mode.args) body.tree
  body_good = node_fewer (modes_of known.preds) body.tree (is_argument mode.args) (among (numbers_below (length declared.args))) (bound_at mode.args)
      (λ x h. below_are (length declared.args) x (omega (arith, argument_below mode.args x h, good.arity))) good.binds

  -- what holds before the body
  pub body_fits : (i : Instance) (env : Env) → Enters known.types i mode.args declared.args env → Fits known body.types i (is_argument mode.args) (bound_at mode.args) (in_node body.tree) [] env
  body_fits i env h = record {
    bounds = λ x o. h.bindings x;
    outer = λ x o e. inputs_are mode.args x e;
    typed = λ x v e.
        let below : x < length mode.args = argument_below mode.args x (inputs_are mode.args x (sym (h.bindings x) ∙ is_some_of (value_at env x) v e)) in
        let t = type_below declared.args x (omega (arith, below, good.arity)) in
        subst (λ (u : TypeExpr). HasType known.types v (replaced i u)) (sym (type_of known declared mode body good x t.0 t.1)) (h.typed x t.0 v t.1 e);
    knows = λ x s e. absurd (none_not e);
  }
