use Rattle.merc_entries.specs.EntryValue.{entry_values}
use Rattle.merc_entries.specs.Units.{items_of}
use Rattle.merc_entries.proofs.Joined.{unit_step, seen_step}
use Rattle.merc_entries.proofs.joining.push_units.Goals as goal

pub loop-unit-preserved : goal.loop-unit-preserved
loop-unit-preserved c = record {
  entries = unit_step (items_of c.args.units.now) c.args.place c.args.imported.now c.loop-unit.unit-index c.unit-item.result c.loop-unit.seen c.push_new.new.seen
      (entry_values c.loop-unit.entries.items) (entry_values c.push_new.new.entries.items) _
      c.loop-unit-test.true c.unit-item.is c.in_ok-push_new.ensures.entries c.in_ok-push_new.ensures.seen c.loop-unit.invariant.entries;
  seen = seen_step c.args.imported.now c.loop-unit.unit-index c.unit-item.result c.loop-unit.seen c.push_new.new.seen _
      c.loop-unit-test.true c.unit-item.is c.in_ok-push_new.ensures.seen c.loop-unit.invariant.seen;
}
