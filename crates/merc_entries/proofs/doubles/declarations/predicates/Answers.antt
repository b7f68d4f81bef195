use Rattle.std.proofs.Common.{map, ◌++◌, ap, ◌∙◌}
use Rattle.merc_entries.specs.Entries.{predicates_of, declared_by}
use Rattle.merc_entries.specs.EntryValue.{entry_values}
use Rattle.merc_entries.specs.FirstPlaces.{declared_value, declared_at}
use Rattle.merc_entries.proofs.DeclarationSteps.{declared_step}
use Rattle.merc_entries.proofs.doubles.declarations.predicates.Goals as goal

pub loop-entry-preserved : goal.loop-entry-preserved
loop-entry-preserved c =
    let before = map (declared_value (λ key. key)) c.loop-entry.predicates.items in
    declared_step predicates_of c.args.entries.now c.loop-entry.entry-index c.entry-item.result before
    (map (declared_value (λ key. key)) c.push_key.new.declared.items)
    (declared_by predicates_of (entry_values c.args.entries.now))
    c.loop-entry-test.true c.entry-item.is
    (c.in_ok-push_key.ensures ∙ ap (λ keys. before ++ declared_at c.entry-item.result.place keys) c.predicate_key.ensures) c.loop-entry.invariant
