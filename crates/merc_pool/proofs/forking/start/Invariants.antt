use Rattle.merc_pool.specs.Forking.{AreChildren}
use Rattle.merc_pool.proofs.forking.start.Given as goal

abbrev pub invariant-loop-number : goal.invariant-loop-number
invariant-loop-number g l = AreChildren g.M.Engine (g.M.Engine.seen l.machine) l.site l.number l.loads.items
