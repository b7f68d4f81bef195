use Rattle.std.proofs.Common.{◌≡◌, take}
use Rattle.merc_rights.specs.Rows.{pairs_from}
use Rattle.merc_rights.specs.Uses.{uses_of}
use Rattle.merc_rights.proofs.occurrences.part_pairs.Given as goal

abbrev pub invariant-loop-index : goal.invariant-loop-index
invariant-loop-index l = l.pairs.items ≡ pairs_from 0 (take l.index (uses_of l.goal))
