use Rattle.std.proofs.Common.{◌≤◌, arith, subst}
use Rattle.merc_layout.proofs.Lent.{AreBelow, used_below-all, used_below-more}
use Rattle.merc_layout.proofs.sizes.above_used.Goals as goal

pub loop-conjunct-preserved : goal.loop-conjunct-preserved
loop-conjunct-preserved c =
    let most = c.max-most.ensures in
    let before : c.loop-conjunct.most ≤ c.max-most.result = omega (arith, most) in
    let here : c.in_ok-above_all.field-0 ≤ c.max-most.result = omega (arith, most) in
    used_below-more c.args.conjuncts.now c.loop-conjunct.conjunct-index c.conjunct-item.result c.loop-conjunct.most c.in_ok-above_all.field-0 c.max-most.result c.loop-conjunct-test.true c.conjunct-item.is before here
    c.loop-conjunct.invariant (subst (AreBelow c.in_ok-above_all.field-0) c.as_slice.ensures c.in_ok-above_all.ensures)

pub returns : goal.returns
returns c = used_below-all c.args.conjuncts.now c.loop-conjunct.conjunct-index c.loop-conjunct.most c.loop-conjunct-test.false c.loop-conjunct.invariant
