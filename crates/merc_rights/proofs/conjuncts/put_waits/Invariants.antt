use Rattle.std.proofs.Common.{◌≡◌, ◌++◌, suc, map, take}
use Rattle.merc_rights.specs.Waits.{fresh}
use Rattle.merc_rights.specs.Rights.{right_to}
use Rattle.merc_rights.proofs.conjuncts.put_waits.Given as goal

abbrev pub invariant-loop-user : goal.invariant-loop-user
invariant-loop-user l = l.waits.items ≡ l.fn.waits.items ++ map (λ user. (user, fresh (right_to (suc user) l.variable))) (take l.user-index l.users)
