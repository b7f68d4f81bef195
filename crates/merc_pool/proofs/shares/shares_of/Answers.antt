use Rattle.std.proofs.Common.{◌∙◌}
use Rattle.merc_pool.proofs.SharesMade.{all-made, share-made}
use Rattle.merc_pool.proofs.shares.shares_of.Goals as goal

pub loop-info-preserved : goal.loop-info-preserved
loop-info-preserved c =
    share-made c.args.plan.now c.loop-info.shares.items c.push.new.self.items c.len.result c.in-Some.info.now c.in_ok-share.share (c.len.ensures ∙ c.loop-info.shares.ok.0) c.in-Some.ensures
    c.in_ok-share.ensures c.in_ok-push.ensures.items c.loop-info.invariant.1

pub returns : goal.returns
returns c = all-made c.args.plan.now c.loop-info.shares.items c.len.result (c.len.ensures ∙ c.loop-info.shares.ok.0) c.in_default.ensures c.loop-info.invariant.0 c.loop-info.invariant.1
