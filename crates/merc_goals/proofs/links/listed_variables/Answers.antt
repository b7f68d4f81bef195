use Rattle.merc_goals.proofs.Lists.{cell_step, cell_smaller}
use Rattle.merc_goals.proofs.links.listed_variables.Goals as goal

pub loop-cell-smaller : goal.loop-cell-smaller
loop-cell-smaller c = cell_smaller c.loop-cell.rest c.in-Some.cell c.in-Some.ensures

pub loop-cell-preserved : goal.loop-cell-preserved
loop-cell-preserved c =
    cell_step c.loop-cell.names c.push.new.self c.loop-cell.rest c.in-Some.cell _ c.in_ok-push.ensures.ok c.in-Some.ensures c.loop-cell.invariant
