use Rattle.std.proofs.Common.{ap, ◌∙◌}
use Rattle.merc_item_forms.specs.Parameters.{has_equal_neighbors}
use Rattle.merc_item_forms.proofs.RepeatedNames.{repeats_sorted}
use Rattle.merc_item_forms.proofs.parameters.repeats.Goals as goal

pub returns : goal.returns
returns c =
    c.has_equal_neighbors-repeats.ensures
    ∙ ap has_equal_neighbors c.deref.ensures.value
    ∙ repeats_sorted c.args.names.now c.args.parameters.now c.in_ok-variables.variables.items _ c.in_ok-variables.ensures c.sort_unstable.ensures.permutation c.sort_unstable.ensures.sorted
