use Rattle.std.proofs.Common.{◌≡◌, take}
use Rattle.std.specs.List.{flat_map}
use Rattle.merc_rights.specs.Members.{turn_wait}
use Rattle.merc_rights.proofs.turns.waits_in_turn.Given as goal

abbrev pub invariant-loop-wait : goal.invariant-loop-wait
invariant-loop-wait l = l.found.items ≡ flat_map (turn_wait l.members.goals.items) (take l.wait-index l.waits)
