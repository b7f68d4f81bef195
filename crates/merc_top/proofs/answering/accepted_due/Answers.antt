-- The lines are those of the module and the trees.
use Rattle.std.proofs.Common.{◌≡◌, ◌≤◌, subst, refl, List, length}
use Rattle.merc_tree.specs.declared.declarations.Module.{Module}
use Rattle.merc_graded_tree.specs.Nodes.{Node}
use Rattle.merc_grading.specs.Faults.{procedures_of}
use Rattle.merc_top.specs.Checking.{check_lines}
use Rattle.merc_top.proofs.answering.accepted_due.Goals as goal

pub returns : goal.returns
returns c =
    let names = c.args.names.now in
    let checked = c.args.checked.now in
    let lines = c.in_ok-check_lines.field-0 in (
      subst (λ (found : Module). length (procedures_of found.preds) ≤ length checked.trees → lines ≡ check_lines names found checked.trees) c.module.ensures
          (subst (λ (trees : List Node). length (procedures_of c.module.result.now.preds) ≤ length trees → lines ≡ check_lines names c.module.result.now trees) c.trees.ensures
          c.in_ok-check_lines.ensures),
      refl,
    )
