use Rattle.std.proofs.Common.{◌≡◌, ◌++◌}
use Rattle.std.specs.Vec.Iter.{into_iter_items}
use Rattle.merc_rights.specs.Groups.{groups_of}
use Rattle.merc_rights.proofs.signals.signals_of.Given as goal

abbrev pub invariant-loop-item : goal.invariant-loop-item
invariant-loop-item l = l.found.items ++ groups_of l.number (into_iter_items l.item-iterator) ≡ groups_of l.number l.fn.groups.items
