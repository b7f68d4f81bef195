use Rattle.merc_terms.proofs.BuiltLaws.{cell_made}
use Rattle.merc_terms.proofs.built.Built.apply_cells.Goals as goal

pub loop-left-preserved : goal.loop-left-preserved
loop-left-preserved c = cell_made _ _ _ _ _ _ c.loop-left-test.true c.loop-left.invariant c.in_ok-apply.ensures
