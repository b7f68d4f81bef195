use Rattle.std.proofs.Common.{◌≡◌, ◌++◌, map, take}
use Rattle.merc_rights.proofs.arms.put_share.Given as goal

abbrev pub invariant-loop-user : goal.invariant-loop-user
invariant-loop-user l = l.found.items ≡ l.fn.found.items ++ map (λ number. (number, l.wait)) (take l.user-index l.users)
