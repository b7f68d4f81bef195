use Rattle.merc_bodies.proofs.Pairs.{one_more}
use Rattle.merc_bodies.proofs.Parts.{item_left}
use Rattle.merc_bodies.proofs.grouping.grouped.Goals as goal

pub loop-index-preserved : goal.loop-index-preserved
loop-index-preserved c = λ declared.
    one_more declared c.get.result c.index-clauses-index.result _ _ c.args.forms.now c.loop-index.index _ _ _ c.get.ensures
    (item_left c.args.clauses.now c.loop-index.index c.index-clauses-index.result c.loop-index-test.true c.index-clauses-index.is)
    (c.in_ok-add_clause.ensures declared)
    (c.loop-index.invariant declared)
