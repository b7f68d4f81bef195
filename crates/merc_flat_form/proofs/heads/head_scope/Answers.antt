use Rattle.std.proofs.Common.{ap, ◌∙◌}
use Rattle.merc_value.specs.Text.{is_blank}
use Rattle.merc_flat_form.specs.HeadTasks.{head_parts}
use Rattle.merc_flat_form.specs.Numbering.{numbered_arguments}
use Rattle.merc_flat_form.proofs.HeadLaws.{scope-end, scope-named}
use Rattle.merc_flat_form.proofs.heads.head_scope.Goals as goal

pub returns : goal.returns
returns c =
    scope-end (is_blank c.args.names.now) c.deref-argument-items.result.now c.loop-number.number c.loop-number.found.items c.loop-number-test.false c.loop-number.invariant
    ∙ ap (head_parts (is_blank c.args.names.now) 0) c.deref-argument-items.ensures.value
    ∙ scope-named (is_blank c.args.names.now) c.args.at c.args.head.now c.copy.result c.in_ok-arguments.arguments.items c.copy.ensures (c.in_ok-arguments.ensures ∙ ap numbered_arguments c.first-whole.ensures)
