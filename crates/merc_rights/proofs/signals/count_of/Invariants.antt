use Rattle.std.proofs.Common.{◌≡◌, length, take}
use Rattle.merc_rights.specs.Groups.{all_rights}
use Rattle.merc_rights.proofs.signals.count_of.Given as goal

abbrev pub invariant-loop-group : goal.invariant-loop-group
invariant-loop-group l = l.count ≡ length (all_rights (take l.group-index l.groups))
