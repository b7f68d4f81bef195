-- The Forks that are counted, with those still to come, are all; and there are no more than items.
use Rattle.std.proofs.Common.{◌≡◌, ◌+◌, ◌≤◌, drop}
use Rattle.merc_core.specs.Mirror.{joins_made}
use Rattle.merc_core.specs.Starting.{made_among}
use Rattle.merc_core.proofs.making.count_forks.Given as goal

abbrev pub invariant-loop-item : goal.invariant-loop-item
invariant-loop-item l = record {
  whole : l.forks + made_among joins_made (drop l.item-index l.items) ≡ made_among joins_made l.items;
  few : l.forks ≤ l.item-index;
}
