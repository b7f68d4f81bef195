use Rattle.std.proofs.Common.{◌-◌, arith}
use Rattle.merc_det.proofs.Joining.{one_more}
use Rattle.merc_det.proofs.folding.joined_category.Goals as goal

pub loop-index-preserved : goal.loop-index-preserved
loop-index-preserved c = record {
  above = omega (arith, c.loop-index-test.true);
  within = omega (arith, c.loop-index.invariant.within);
  same = one_more c.args.joint c.args.graded.now (c.loop-index.index - 1) c.loop-index.index c.loop-index.category c.category_at.result c.one_more_joined-category.result
      (omega (arith, c.loop-index-test.true)) c.loop-index.invariant.within c.loop-index.invariant.same c.category_at.ensures c.one_more_joined-category.ensures;
}
