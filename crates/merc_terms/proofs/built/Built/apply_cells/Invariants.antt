use Rattle.merc_terms.proofs.BuiltLaws.{CellsLeft}
use Rattle.merc_terms.proofs.built.Built.apply_cells.Given as goal

abbrev pub invariant-loop-left : goal.invariant-loop-left
invariant-loop-left l = CellsLeft l.fn.self l.count l.left l.span l.self

abbrev pub decreases-loop-left : goal.decreases-loop-left
decreases-loop-left l = l.left
