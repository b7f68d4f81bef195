use Rattle.std.proofs.Common.{◌∷◌, reverse}
use Rattle.merc_type_table.specs.Frames.{frames_work}
use Rattle.merc_type_table.proofs.Framed.{IsUnderWay}
use Rattle.merc_type_table.proofs.numbering.TypeNumbering.number.Given as goal

abbrev pub invariant-loop-last : goal.invariant-loop-last
invariant-loop-last l = IsUnderWay l.fn.self l.self l.top (reverse l.below.items) l.declared

abbrev pub decreases-loop-last : goal.decreases-loop-last
decreases-loop-last l = frames_work (l.top ∷ reverse l.below.items)
