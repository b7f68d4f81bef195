use Rattle.std.specs.Ordering.{nat_cmp}
use Rattle.std.specs.BTreeMap.{get}
use Rattle.merc_core.proofs.Spoiling.{roomy-room, poisons}
use Rattle.merc_core.proofs.ending.poison.Goals as goal

pub spoil-requires : goal.spoil-requires
spoil-requires c = roomy-room (λ cell. get nat_cmp c.loop-cell.cells cell) c.loop-cell.list c.loop-cell.invariant.roomy c.in-Some.cell

pub loop-cell-preserved : goal.loop-cell-preserved
loop-cell-preserved c =
    let p = poisons c.loop-cell.signals c.pop_front.new.self c.in-Some.cell (λ cell. get nat_cmp c.loop-cell.cells cell) (λ cell. get nat_cmp c.spoil.new.cells cell) c.loop-cell.list c.spoil.new.list _ _
    c.in-Some.ensures.items c.loop-cell.invariant.cells c.loop-cell.invariant.list c.loop-cell.invariant.roomy c.spoil.ensures.cells c.spoil.ensures.list in
    record { cells = p.cells_same; list = p.list_same; roomy = p.roomy }
