use Rattle.std.proofs.Common.{◌≡◌, ◌++◌}
use Rattle.std.specs.List.{flat_map}
use Rattle.std.specs.Vec.Iter.{into_iter_items}
use Rattle.merc_rights.specs.Groups.{all_rights, numbered}
use Rattle.merc_rights.specs.Members.{turn_signal}
use Rattle.merc_rights.proofs.turns.signals_in_turn.Given as goal

abbrev pub invariant-loop-group : goal.invariant-loop-group
invariant-loop-group l = numbered l.found.items ++ flat_map (turn_signal l.members.goals.items) (all_rights (into_iter_items l.group-iterator)) ≡ flat_map (turn_signal l.members.goals.items) l.fn.signals
