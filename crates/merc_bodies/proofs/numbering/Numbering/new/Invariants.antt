use Rattle.std.proofs.Common.{◌≡◌, length}
use Rattle.merc_bodies.proofs.numbering.Numbering.new.Given as goal

abbrev pub invariant-loop-number : goal.invariant-loop-number
invariant-loop-number l = length l.variables.items ≡ l.number
