use Rattle.std.proofs.Common.{◌≡◌, suc, map, take}
use Rattle.merc_rights.proofs.conjuncts.consumers.Given as goal

abbrev pub invariant-loop-user : goal.invariant-loop-user
invariant-loop-user l = l.consumers.items ≡ map suc (take l.user-index l.users)
