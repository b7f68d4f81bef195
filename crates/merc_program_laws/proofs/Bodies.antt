-- Ordered bodies with their switches and categories are good.
use Rattle.std.proofs.Common.{inl, inr, ℕ, ◌||◌, List, [], length, refl, ap, subst, ◌∙◌}
use Rattle.merc_tree.specs.declared.declarations.ModeDecl.{ModeDecl}
use Rattle.merc_tree.specs.declared.declarations.Module.{Module}
use Rattle.merc_graded_tree.specs.Nodes.{Node}
use Rattle.merc_order.specs.Bound.{Bound, Holds, nothing, among}
use Rattle.merc_order.specs.Procedures.{bound_at, numbers_below, modes_of}
use Rattle.merc_grading.specs.Switches.{find}
use Rattle.merc_grading.specs.Faults.{Body}
use Rattle.merc_order_laws.specs.Bindings.{Variables}
use Rattle.merc_order_laws.specs.GoodTree.{GoodNode}
use Rattle.merc_order_laws.specs.Laws.{BindsHeads}
use Rattle.merc_order_laws.specs.TypedTree.{IsTypedTree}
use Rattle.merc_order_laws.proofs.Facts.{clash}
use Rattle.merc_program_laws.specs.Guarding.{HasGuards}
use Rattle.merc_program_laws.specs.GoodPrograms.{HasLiterals}
use Rattle.merc_program_laws.specs.TreeLaws.{ProcedureBecomesGood, QueryBecomesGood}
use Rattle.merc_program_laws.specs.OrderedBodies.{finished_body}
use Rattle.merc_program_laws.proofs.Numbers.{inputs_below}
use Rattle.merc_program_laws.proofs.Regrouped.{found_ends, found_outputs}
use Rattle.merc_program_laws.proofs.FoundGood.{found_is_good}
use Rattle.merc_program_laws.proofs.FoundGuards.{found_has_guards}
use Rattle.merc_program_laws.proofs.FoundBasics.{found_is_typed, found_has_literals}
use Rattle.merc_program_laws.proofs.GradedSights.{graded_ends, graded_outputs, graded_is_typed, graded_has_literals}
use Rattle.merc_program_laws.proofs.GradedGood.{graded_is_good, graded_has_guards}

module _ (known : Module) (body : Body) where
  abbrev modes : ℕ → List ModeDecl
  modes = modes_of known.preds

  abbrev found : Bound → Node
  found bound = find known.types body.types bound body.tree

  abbrev finished_tree : Bound → Node
  finished_tree bound = (finished_body known bound body).tree

  finished_good : (outside : Variables) (bound : Bound) → Holds bound outside → GoodNode modes outside bound body.tree → GoodNode modes outside bound (finished_tree bound)
  finished_good outside bound held good =
      graded_is_good known.types body.types modes [] outside bound (found bound) (found_is_good known.types body.types modes outside bound body.tree held good)

  finished_typed : (bound : Bound) → IsTypedTree known body.types body.tree → IsTypedTree known body.types (finished_tree bound)
  finished_typed bound h = graded_is_typed known body.types modes [] (found bound) (found_is_typed known body.types bound body.tree h)

  finished_literals : (bound : Bound) → HasLiterals body.tree → HasLiterals (finished_tree bound)
  finished_literals bound h = graded_has_literals known.types body.types modes [] (found bound) (found_has_literals known.types body.types bound body.tree h)

  finished_guards : (bound : Bound) → HasGuards body.tree → HasGuards (finished_tree bound)
  finished_guards bound h = graded_has_guards known.types body.types modes [] (found bound) (found_has_guards known.types body.types bound body.tree h)

  finished_heads : (heads : List ℕ) (bound : Bound) → BindsHeads modes heads bound body.tree → BindsHeads modes heads bound (finished_tree bound)
  finished_heads heads bound (inl h) = inl (graded_ends known.types body.types modes [] (found bound) ∙ found_ends known.types body.types modes bound body.tree ∙ h)
  finished_heads heads bound (inr f) = inr (λ v h.
      ap (λ (l : List ℕ). bound v || among l v) (graded_outputs known.types body.types modes [] (found bound) ∙ found_outputs known.types body.types bound body.tree) ∙ f v h)

pub procedure_becomes_good : ProcedureBecomesGood
procedure_becomes_good known declared mode body ordered allowed =
    let bound = bound_at mode.args in
    record {
      arity = ordered.arity;
      head = ordered.head;
      typed = finished_typed known body bound ordered.typed;
      literals = finished_literals known body bound ordered.literals;
      binds = finished_good known body (among (numbers_below (length declared.args))) bound (subst (λ (n : ℕ). Holds bound (among (numbers_below n))) ordered.arity (inputs_below mode.args)) ordered.binds;
      binds_head = finished_heads known body (numbers_below (length declared.args)) bound ordered.binds_head;
      guarded = finished_guards known body bound ordered.guarded;
      is_graded = (find known.types body.types bound body.tree, refl);
      allowed = allowed;
    }

pub query_becomes_good : QueryBecomesGood
query_becomes_good known answers body ordered = record {
  typed = finished_typed known body nothing ordered.typed;
  literals = finished_literals known body nothing ordered.literals;
  binds = finished_good known body (among answers) nothing (λ v h. clash h refl) ordered.binds;
  binds_answers = finished_heads known body answers nothing ordered.binds_answers;
  guarded = finished_guards known body nothing ordered.guarded;
  is_graded = (find known.types body.types nothing body.tree, refl);
}
