use Rattle.merc_board.specs.declared.fork.Handover.{Handover}
use Rattle.merc_rights.specs.declared.sites.Moved.{Moved}
use Rattle.merc_pool.proofs.Mapped.{mapped-on}
use Rattle.merc_pool.proofs.shares.given_of.Goals as goal

pub loop-one-preserved : goal.loop-one-preserved
loop-one-preserved c =
    let handover : Moved → Handover = λ one. record { variable = one.variable; child = one.child; signal = one.signal } in
    mapped-on handover c.args.moves.now c.loop-one.one-index c.one-item.result c.loop-one.given.items _ _ c.loop-one-test.true c.one-item.is c.in_ok-push.ensures.items c.loop-one.invariant
