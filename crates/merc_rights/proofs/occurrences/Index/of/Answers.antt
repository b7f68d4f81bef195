use Rattle.std.proofs.Common.{subst, sym}
use Rattle.std.specs.List.Sorted.{IsNonDecreasing}
use Rattle.merc_rights.proofs.occurrences.Index.of.Goals as goal

pub invariant_of-result : goal.invariant_of-result
invariant_of-result c = λ variable. subst IsNonDecreasing (sym (c.in_ok-of.ensures variable)) (c.requires variable)
