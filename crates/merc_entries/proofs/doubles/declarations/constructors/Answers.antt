use Rattle.std.proofs.Common.{map}
use Rattle.merc_entries.specs.Entries.{constructors_of, declared_by}
use Rattle.merc_entries.specs.EntryValue.{entry_values}
use Rattle.merc_entries.specs.FirstPlaces.{declared_value}
use Rattle.merc_entries.proofs.DeclarationSteps.{declared_step}
use Rattle.merc_entries.proofs.doubles.declarations.constructors.Goals as goal

pub loop-entry-preserved : goal.loop-entry-preserved
loop-entry-preserved c =
    declared_step constructors_of c.args.entries.now c.loop-entry.entry-index c.entry-item.result
    (map (declared_value (λ key. key)) c.loop-entry.constructors.items)
    (map (declared_value (λ key. key)) c.push_constructors.new.constructors.items)
    (declared_by constructors_of (entry_values c.args.entries.now))
    c.loop-entry-test.true c.entry-item.is c.in_ok-push_constructors.ensures c.loop-entry.invariant
