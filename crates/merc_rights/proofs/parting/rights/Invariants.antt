use Rattle.std.proofs.Common.{◌≡◌, take}
use Rattle.merc_rights.specs.Waits.{rights_of}
use Rattle.merc_rights.proofs.parting.rights.Given as goal

abbrev pub invariant-loop-wait : goal.invariant-loop-wait
invariant-loop-wait l = l.rights ≡ rights_of (take l.wait-index l.waits)
