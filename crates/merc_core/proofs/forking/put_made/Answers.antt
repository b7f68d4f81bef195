use Rattle.std.proofs.Common.{◌<◌, length, arith}
use Rattle.merc_core.specs.Rights.{made_by}
use Rattle.merc_core.proofs.ForkParts.{nodes-left, made-some}
use Rattle.merc_core.proofs.forking.put_made.Goals as goal

pub put_last-requires-clause-some : goal.put_last-requires-clause-some
put_last-requires-clause-some c =
    let some : 0 < length (made_by c.args.child c.loop-rest.rest.now) = made-some c.args.child c.loop-rest.rest.now c.first-item.result c.producer.result c.in-len1-up.len_at_least c.first-item.is c.producer.ensures c.if-producer-child.true in
    let few = nodes-left c.loop-rest.rights (made_by c.args.child c.loop-rest.rest.now) c.args.rights.now (made_by c.args.child c.args.cells.now) (length c.loop-rest.spare) (length c.args.spare.now)
    c.loop-rest.invariant.same c.loop-rest.invariant.nodes c.requires.some in
    omega (arith, some, few)

pub put_last-requires-clause-room : goal.put_last-requires-clause-room
put_last-requires-clause-room c =
    let some : 0 < length (made_by c.args.child c.loop-rest.rest.now) = made-some c.args.child c.loop-rest.rest.now c.first-item.result c.producer.result c.in-len1-up.len_at_least c.first-item.is c.producer.ensures c.if-producer-child.true in
    let few = nodes-left c.loop-rest.rights (made_by c.args.child c.loop-rest.rest.now) c.args.rights.now (made_by c.args.child c.args.cells.now) (length c.loop-rest.spare) (length c.args.spare.now)
    c.loop-rest.invariant.same c.loop-rest.invariant.nodes c.requires.some in
    omega (arith, some, few, c.loop-rest.invariant.nodes, c.requires.room)
