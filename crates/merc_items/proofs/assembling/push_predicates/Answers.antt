use Rattle.std.proofs.Common.{◌++◌, ap, ◌∙◌}
use Rattle.std.proofs.lemmas.Result.{on_ok_weaker}
use Rattle.merc_entries.specs.EntryValue.{entry_values}
use Rattle.merc_items.proofs.Assembled.{part_preds}
use Rattle.merc_items.proofs.assembling.push_predicates.Goals as goal

pub returns : goal.returns
returns c =
    on_ok_weaker c.push_with_modes-pushed.result
    (λ made. made ∙ ap (λ l. c.args.preds.now ++ l) (part_preds c.args.names.now c.args.part c.in_ok-table.table (entry_values c.args.entries.now) c.in_ok-table.ensures))
    c.push_with_modes-pushed.ensures
