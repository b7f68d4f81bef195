use Rattle.std.proofs.Common.{◌<◌, true, length, arith}
use Rattle.merc_core.specs.Rights.{moved_to}
use Rattle.merc_core.proofs.ForkParts.{nodes-left, moved-some}
use Rattle.merc_core.proofs.forking.put_moved.Goals as goal

pub put_last-requires-clause-some : goal.put_last-requires-clause-some
put_last-requires-clause-some c =
    let some : 0 < length (moved_to c.args.child true c.loop-rest.rest.now) = moved-some c.args.child c.loop-rest.rest.now c.first-item.result (record { cell = c.first.inside.cell; child = c.first.inside.child; signal = c.first.inside.signal }) c.in-len1-up.len_at_least c.first-item.is c.first.view_is c.if-first-child.true c.if-first.true in
    let few = nodes-left c.loop-rest.rights (moved_to c.args.child true c.loop-rest.rest.now) c.args.rights.now (moved_to c.args.child true c.args.moves.now) (length c.loop-rest.spare) (length c.args.spare.now)
    c.loop-rest.invariant.same c.loop-rest.invariant.nodes c.requires.some in
    omega (arith, some, few)

pub put_last-requires-clause-room : goal.put_last-requires-clause-room
put_last-requires-clause-room c =
    let some : 0 < length (moved_to c.args.child true c.loop-rest.rest.now) = moved-some c.args.child c.loop-rest.rest.now c.first-item.result (record { cell = c.first.inside.cell; child = c.first.inside.child; signal = c.first.inside.signal }) c.in-len1-up.len_at_least c.first-item.is c.first.view_is c.if-first-child.true c.if-first.true in
    let few = nodes-left c.loop-rest.rights (moved_to c.args.child true c.loop-rest.rest.now) c.args.rights.now (moved_to c.args.child true c.args.moves.now) (length c.loop-rest.spare) (length c.args.spare.now)
    c.loop-rest.invariant.same c.loop-rest.invariant.nodes c.requires.some in
    omega (arith, some, few, c.loop-rest.invariant.nodes, c.requires.room)
