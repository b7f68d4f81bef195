use Rattle.std.proofs.Common.{ap, ◌∙◌}
use Rattle.merc_tree.specs.declared.declarations.Module.{Module}
use Rattle.merc_categories.proofs.Steps.{enough_left}
use Rattle.merc_categories.proofs.checking.check_categories.Goals as goal

pub check_modes-requires-clause-enough : goal.check_modes-requires-clause-enough
check_modes-requires-clause-enough c =
    enough_left c.args.known.now c.args.trees.now c.as_slice-declared-items.result.now c.loop-declared.declared-index c.declared-item.result c.loop-declared.progress
    (c.as_slice-declared-items.ensures ∙ ap (λ (m : Module). m.preds) c.module.ensures) c.loop-declared-test.true c.declared-item.is c.requires c.loop-declared.invariant
