-- The nodes that are there, with those still to come, are all.
use Rattle.std.proofs.Common.{◌≡◌, ◌+◌, ◌<◌, ◌^◌, length, drop}
use Rattle.merc_core.specs.Mirror.{branches_made, rights_made}
use Rattle.merc_core.specs.Starting.{made_among}
use Rattle.merc_core.proofs.making.take_spare.Given as goal

abbrev pub invariant-loop-item : goal.invariant-loop-item
invariant-loop-item l = record {
  branches : length l.spare.branches + made_among branches_made (drop l.item-index l.items) ≡ made_among branches_made l.items;
  outcomes : length l.spare.outcomes + made_among branches_made (drop l.item-index l.items) ≡ made_among branches_made l.items;
  rights : length l.spare.rights + made_among rights_made (drop l.item-index l.items) ≡ made_among rights_made l.items;
  few : length l.spare.rights < 2 ^ 63;
}
