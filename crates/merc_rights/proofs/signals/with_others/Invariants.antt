use Rattle.std.proofs.Common.{◌≡◌}
use Rattle.std.specs.Vec.Iter.{into_iter_items}
use Rattle.merc_rights.specs.Groups.{all_rights, rights_in, AllFor}
use Rattle.merc_rights.specs.Rights.{with_rights}
use Rattle.merc_rights.proofs.signals.with_others.Given as goal

abbrev pub invariant-loop-other : goal.invariant-loop-other
invariant-loop-other l = record {
  same : l.group.variable ≡ l.fn.own.variable;
  left : AllFor l.fn.own.variable l.fn.others
      → AllFor l.fn.own.variable (all_rights (into_iter_items l.other-iterator))
      × (with_rights (all_rights (into_iter_items l.other-iterator)) (rights_in l.group) ≡ with_rights l.fn.others (rights_in l.fn.own));
}
