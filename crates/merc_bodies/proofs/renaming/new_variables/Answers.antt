use Rattle.std.proofs.Common.{ℕ, ◌∷◌, [], ◌++◌, ap, ◌∙◌}
use Rattle.merc_bodies.specs.Numbering.{new_number}
use Rattle.merc_bodies.proofs.Parts.{item_left, one_mapped}
use Rattle.merc_bodies.proofs.renaming.new_variables.Goals as goal

pub loop-variable-preserved : goal.loop-variable-preserved
loop-variable-preserved c =
    one_mapped (new_number c.args.numbering.now) c.variable-item.result _ _ c.loop-variable.new _ _
    (item_left c.args.variables.now c.loop-variable.variable-index c.variable-item.result c.loop-variable-test.true c.variable-item.is)
    (c.in_ok-push.ensures.ok ∙ ap (λ (n : ℕ). c.loop-variable.new ++ n ∷ []) c.of.ensures)
    c.loop-variable.invariant
