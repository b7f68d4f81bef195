use Rattle.std.proofs.Common.{◌≡◌, ◌∷◌, [], map, take}
use Rattle.merc_rights.specs.Rows.{pairs_from}
use Rattle.merc_rights.proofs.conjuncts.places.Given as goal

abbrev pub invariant-loop-place : goal.invariant-loop-place
invariant-loop-place l = l.pairs.items ≡ pairs_from 0 (map (λ item. item.group.variable ∷ []) (take l.place l.groups))
