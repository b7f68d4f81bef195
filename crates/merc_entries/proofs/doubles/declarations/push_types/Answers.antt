use Rattle.std.proofs.Common.{map, ◌++◌, ap, ◌∙◌}
use Rattle.merc_entries.specs.Entries.{types_of}
use Rattle.merc_entries.specs.EntryValue.{entry_values}
use Rattle.merc_entries.specs.FirstPlaces.{declared_value, declared_at}
use Rattle.merc_entries.specs.DoubleFaults.{type_keys}
use Rattle.merc_entries.proofs.DeclarationSteps.{declared_step}
use Rattle.merc_entries.proofs.doubles.declarations.push_types.Goals as goal

pub loop-entry-preserved : goal.loop-entry-preserved
loop-entry-preserved c =
    let before = map (declared_value (λ key. key)) c.loop-entry.types.items in
    declared_step types_of c.args.entries.now c.loop-entry.entry-index c.entry-item.result before
    (map (declared_value (λ key. key)) c.push_key.new.declared.items)
    (type_keys (entry_values c.args.entries.now))
    c.loop-entry-test.true c.entry-item.is
    (c.in_ok-push_key.ensures ∙ ap (λ keys. before ++ declared_at c.entry-item.result.place keys) c.type_key.ensures) c.loop-entry.invariant
