use Rattle.std.proofs.Common.{◌≡◌, length}
use Rattle.std.specs.List.{All}
use Rattle.std.specs.Arc.{arc_value}
use Rattle.merc_join.proofs.making.other_owners.Given as goal

abbrev pub invariant-loop-i : goal.invariant-loop-i
invariant-loop-i g l = (length l.owners.items ≡ l.i) × All (λ owner. arc_value owner ≡ arc_value l.table) l.owners.items
