use Rattle.std.proofs.Common.{arith}
use Rattle.merc_rights.proofs.FoundLaws.{producer_more, all_found}
use Rattle.merc_rights.proofs.conjuncts.found_without.Goals as goal

pub loop-producer-preserved : goal.loop-producer-preserved
loop-producer-preserved c variables held moved are =
    let goals = c.args.members.now.goals.items in
    let list = c.args.outputs.now in
    producer_more goals list moved c.loop-producer.producer c.loop-producer.found c.put_producer.new.found (omega (arith, c.loop-producer-test.true, c.len-producer-end.ensures))
    (c.loop-producer.invariant variables held moved are) (λ d. c.in_ok-put_producer.ensures list variables c.in_ok-outputs.ensures held moved are d)

pub returns : goal.returns
returns c variables held moved are =
    all_found c.args.members.now.goals.items c.args.outputs.now moved c.loop-producer.producer c.loop-producer.found (omega (arith, c.loop-producer-test.false, c.len-producer-end.ensures))
    (c.loop-producer.invariant variables held moved are)
