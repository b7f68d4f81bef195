use Rattle.std.proofs.Common.{◌∙◌, []}
use Rattle.merc_rights.proofs.Indexes.{map_more, map_all}
use Rattle.merc_rights.proofs.rows.Rows.listed.Goals as goal

pub loop-item-preserved : goal.loop-item-preserved
loop-item-preserved g c =
    map_more (λ item. item.1) c.row-item-items.result.now c.loop-item.item-index c.item-item.result [] c.loop-item.list c.push.new.self
    c.item-item.is c.loop-item-test.true c.loop-item.invariant c.in_ok-push.ensures.ok

pub returns : goal.returns
returns g c = map_all (λ item. item.1) c.row-item-items.result.now c.loop-item.item-index [] c.loop-item.list c.loop-item-test.false c.loop-item.invariant ∙ c.row-item-items.ensures
