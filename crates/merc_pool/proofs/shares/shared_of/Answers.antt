use Rattle.merc_board.specs.declared.fork.SharedCell.{SharedCell}
use Rattle.merc_rights.specs.declared.sites.CellInfo.{CellInfo}
use Rattle.merc_pool.proofs.Mapped.{mapped-on}
use Rattle.merc_pool.proofs.shares.shared_of.Goals as goal

pub loop-one-preserved : goal.loop-one-preserved
loop-one-preserved c =
    let shared_cell : CellInfo → SharedCell = λ one. record { variable = one.variable; producer = one.producer; consumer = one.consumer } in
    mapped-on shared_cell c.args.cells.now c.loop-one.one-index c.one-item.result c.loop-one.shared.items _ _ c.loop-one-test.true c.one-item.is c.in_ok-push.ensures.items c.loop-one.invariant
