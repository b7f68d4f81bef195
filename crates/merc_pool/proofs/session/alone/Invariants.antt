use Rattle.std.proofs.Common.{◌≡◌}
use Rattle.merc_carried.specs.Plain.{IsPlain}
use Rattle.merc_pool.specs.Carrying.{made_by}
use Rattle.merc_pool.specs.Hands.{IsRooted}
use Rattle.merc_pool.specs.Sessions.{IsTallied, RootHand}
use Rattle.merc_pool.proofs.session.alone.Given as goal

abbrev pub invariant-loop : goal.invariant-loop
invariant-loop g l =
    (goal.iterator-loop g).can_next l.iterator' × (goal.iterator-loop g).is_finite l.iterator'
    × ((board : _) (seat : _) → RootHand g.M.Engine g.N.Asked g.B.Board board seat l.fn.hand → IsRooted g.M.Engine g.N.Asked g.B.Board board seat l.branch.value)
    × (IsPlain g.N.Asked.root → IsTallied g.M.Engine l.fn.hand → l.branch.value.load.ticks ≡ made_by (g.M.Engine.seen l.branch.value.load.progress.machine))
