use Rattle.std.proofs.Common.{◌≡◌, ◌++◌, map, take}
use Rattle.merc_rights.specs.Rights.{wait_at}
use Rattle.merc_par_split.proofs.splitting.put_waits.Given as goal

abbrev pub invariant-loop-right : goal.invariant-loop-right
invariant-loop-right l = l.nodes ≡ l.fn.nodes ++ map (wait_at l.span) (take l.right-index l.rights)
