use Rattle.merc_rights.proofs.Indexes.{map_more_at, map_all}
use Rattle.merc_rights.proofs.arms.put_right_share.Goals as goal

pub loop-number-preserved : goal.loop-number-preserved
loop-number-preserved c =
    map_more_at (λ number. (number, c.args.right.now)) c.args.numbers.now c.loop-number.number-index 0 c.args.found.now.items c.loop-number.found.items c.push.new.self.items
    c.loop-number-test.true c.loop-number.invariant c.in_ok-push.ensures.items

pub returns : goal.returns
returns c = map_all (λ number. (number, c.args.right.now)) c.args.numbers.now c.loop-number.number-index c.args.found.now.items c.loop-number.found.items c.loop-number-test.false c.loop-number.invariant
