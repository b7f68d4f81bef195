use Rattle.std.proofs.Common.{◌≡◌, ◌++◌}
use Rattle.std.specs.Vec.Iter.{into_iter_items}
use Rattle.merc_rights.specs.Groups.{all_rights}
use Rattle.merc_rights.proofs.signals.Signals.listed.Given as goal

abbrev pub invariant-loop-group : goal.invariant-loop-group
invariant-loop-group l = l.rights ++ all_rights (into_iter_items l.group-iterator) ≡ l.fn.self
