use Rattle.merc_rights.proofs.Indexes.{map_more_at, map_all}
use Rattle.merc_rights.proofs.arms.put_share.Goals as goal

pub loop-user-preserved : goal.loop-user-preserved
loop-user-preserved c =
    map_more_at (λ number. (number, c.args.wait.now)) c.args.users.now c.loop-user.user-index 0 c.args.found.now.items c.loop-user.found.items c.push.new.self.items
    c.loop-user-test.true c.loop-user.invariant c.in_ok-push.ensures.items

pub returns : goal.returns
returns c = map_all (λ number. (number, c.args.wait.now)) c.args.users.now c.loop-user.user-index c.args.found.now.items c.loop-user.found.items c.loop-user-test.false c.loop-user.invariant
