use Rattle.std.proofs.Common.{[], map, take}
use Rattle.merc_rights.specs.Members.{move_of, Adds}
use Rattle.merc_rights.proofs.conjuncts.put_moved.Given as goal

abbrev pub invariant-loop-pair : goal.invariant-loop-pair
invariant-loop-pair l = Adds [] l.fn.found l.found [] (map move_of (take l.pair-index l.pair-items)) (take l.pair-index l.pair-items) []
