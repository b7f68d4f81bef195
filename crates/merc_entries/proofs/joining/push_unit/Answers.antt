use Rattle.std.proofs.Common.{ap, sym, ◌∙◌}
use Rattle.merc_entries.specs.EntryValue.{entry_values}
use Rattle.merc_entries.specs.Joining.{unit_entry}
use Rattle.merc_entries.proofs.Joined.{mapped_step, mapped_past, pushed}
use Rattle.merc_entries.proofs.joining.push_unit.Goals as goal
use Rattle.merc_entries.proofs.joining.push_unit.Goals.{in-Some-get+in_ok-push, in_default}

pub loop-index-preserved : goal.loop-index-preserved
loop-index-preserved c =
    let made = unit_entry c.args.place c.args.unit in
    elim c.match-get.branch [
      | in-Some-get+in_ok-push w ↦
          mapped_step made _ c.loop-index.index w.in-Some-get.term (entry_values c.loop-index.entries.items) (entry_values c.match-get.entries.items) _
          (sym w.in-Some-get.ensures)
          (ap (λ e. entry_values e.items) w.entries-is
          ∙ ap entry_values w.in_ok-push.ensures.items
          ∙ pushed c.loop-index.entries.items _ _ c.args.place c.args.unit w.in-Some-get.term w.item_of.ensures w.span.ensures)
          c.loop-index.invariant
      | in_default w ↦
          mapped_past made _ c.loop-index.index (entry_values c.loop-index.entries.items) (entry_values c.match-get.entries.items) _
          (sym w.in_default.ensures)
          (ap (λ e. entry_values e.items) w.entries-is)
          c.loop-index.invariant
    ]
