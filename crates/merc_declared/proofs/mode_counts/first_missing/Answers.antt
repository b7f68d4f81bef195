use Rattle.std.proofs.Common.{◌≡◌, true, false, ap, sym, ◌∙◌, ◌&&◌, Bool}
use Rattle.merc_entries.specs.EntryValue.{entry_value, entry_values}
use Rattle.merc_item_forms.specs.ItemValue.{item_value}
use Rattle.merc_entries.specs.Entries.{is_own}
use Rattle.merc_declared.specs.ModeFaults.{lacks_mode_here}
use Rattle.merc_declared.proofs.EntryLaws.{first-here, first-later}
use Rattle.merc_declared.proofs.ModeLaws.{lacks_agrees}
use Rattle.merc_declared.proofs.mode_counts.first_missing.Goals as goal

pub returns-then-is_lacking : goal.returns-then-is_lacking
returns-then-is_lacking c =
    let entry = c.entry-item.result in
    let entries = entry_values c.args.entries.now in
    let passes : lacks_mode_here entries (entry_value entry) ≡ true =
    ap (λ (lacks : Bool). is_own (entry_value entry) && lacks) (sym (lacks_agrees entries c.args.counts.now (item_value entry.item) c.requires)) ∙ sym c.is_lacking.ensures ∙ c.if-is_lacking.true in
    first-here (lacks_mode_here entries) c.args.entries.now c.loop-entry.entry-index entry c.loop-entry-test.true c.entry-item.is passes c.loop-entry.invariant

pub loop-entry-preserved : goal.loop-entry-preserved
loop-entry-preserved c =
    let entry = c.entry-item.result in
    let entries = entry_values c.args.entries.now in
    let fails : lacks_mode_here entries (entry_value entry) ≡ false =
    ap (λ (lacks : Bool). is_own (entry_value entry) && lacks) (sym (lacks_agrees entries c.args.counts.now (item_value entry.item) c.requires)) ∙ sym c.is_lacking.ensures ∙ c.if-is_lacking.false in
    first-later (lacks_mode_here entries) c.args.entries.now c.loop-entry.entry-index entry c.loop-entry-test.true c.entry-item.is fails c.loop-entry.invariant
