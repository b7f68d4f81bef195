use Rattle.merc_rights.proofs.SignalLaws.{count_more}
use Rattle.merc_rights.proofs.signals.count_of.Goals as goal

pub loop-group-preserved : goal.loop-group-preserved
loop-group-preserved c =
    count_more c.args.groups.now c.loop-group.group-index c.group-item.result c.loop-group.count c.len.result c.in_ok-count.count
    c.group-item.is c.loop-group-test.true (cc (c.group-item.result.conjuncts.ok.0, c.len.ensures)) c.loop-group.invariant c.in_ok-count.ensures
