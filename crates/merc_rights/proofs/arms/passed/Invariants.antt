use Rattle.std.proofs.Common.{◌≡◌, take}
use Rattle.std.specs.List.{flat_map}
use Rattle.merc_rights.specs.Members.{pass_shares}
use Rattle.merc_rights.proofs.arms.passed.Given as goal

abbrev pub invariant-loop-wait : goal.invariant-loop-wait
invariant-loop-wait l = l.found.items ≡ flat_map (pass_shares l.members.goals.items) (take l.wait-index l.waits)
