use Rattle.std.proofs.Common.{[]}
use Rattle.merc_rights.proofs.Indexes.{map_more, map_all}
use Rattle.merc_rights.proofs.parting.rights.Goals as goal

pub loop-wait-preserved : goal.loop-wait-preserved
loop-wait-preserved c =
    map_more (λ wait. wait.right) c.args.waits.now c.loop-wait.wait-index c.wait-item.result [] c.loop-wait.rights c.push.new.self
    c.wait-item.is c.loop-wait-test.true c.loop-wait.invariant c.in_ok-push.ensures.ok

pub returns : goal.returns
returns c = map_all (λ wait. wait.right) c.args.waits.now c.loop-wait.wait-index [] c.loop-wait.rights c.loop-wait-test.false c.loop-wait.invariant
