use Rattle.std.proofs.Common.{ap, sym, ◌∙◌}
use Rattle.merc_entries.specs.EntryValue.{entry_values}
use Rattle.merc_entries.specs.Units.{items_of}
use Rattle.merc_entries.proofs.Joined.{item_step, item_past}
use Rattle.merc_entries.proofs.joining.push_items.Goals as goal
use Rattle.merc_entries.proofs.joining.push_items.Goals.{in-Some+in_ok-push_item, in_default}

pub loop-index-preserved : goal.loop-index-preserved
loop-index-preserved c =
    let items = items_of c.args.units.now in
    elim c.match-get.branch [
      | in-Some+in_ok-push_item w ↦
          item_step items c.args.terms.now c.loop-index.index w.in-Some.term c.loop-index.seen c.match-get.seen (entry_values c.loop-index.entries.items) (entry_values c.match-get.entries.items) _
          (sym w.in-Some.ensures)
          (ap (λ e. entry_values e.items) w.entries-is ∙ w.in_ok-push_item.ensures.entries)
          (w.seen-is ∙ w.in_ok-push_item.ensures.seen)
          c.loop-index.invariant
      | in_default w ↦
          item_past items c.args.terms.now c.loop-index.index c.loop-index.seen c.match-get.seen (entry_values c.loop-index.entries.items) (entry_values c.match-get.entries.items) _
          (sym w.in_default.ensures)
          (ap (λ e. entry_values e.items) w.entries-is)
          w.seen-is
          c.loop-index.invariant
    ]
