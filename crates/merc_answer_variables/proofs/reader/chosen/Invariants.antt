use Rattle.std.proofs.Common.{◌≡◌, ◌++◌, reverse, length}
use Rattle.merc_answer_variables.specs.Reading.{status, chosen}
use Rattle.merc_answer_variables.proofs.reader.chosen.Given as goal

abbrev pub invariant-loop-first : goal.invariant-loop-first
invariant-loop-first l = l.found.items ++ chosen l.names (status l.variables) (reverse l.trail.items) ≡ chosen l.names (status l.variables) (reverse l.fn.trail.items)

abbrev pub decreases-loop-first : goal.decreases-loop-first
decreases-loop-first l = length l.trail.items
