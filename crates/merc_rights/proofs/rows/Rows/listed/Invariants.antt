use Rattle.std.proofs.Common.{◌≡◌, map, take}
use Rattle.merc_rights.proofs.rows.Rows.listed.Given as goal

abbrev pub invariant-loop-item : goal.invariant-loop-item
invariant-loop-item g l = l.list ≡ map (λ item. item.1) (take l.item-index l.item-items)
