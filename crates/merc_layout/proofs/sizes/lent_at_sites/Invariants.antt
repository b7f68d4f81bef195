use Rattle.std.proofs.Common.{take}
use Rattle.merc_layout.specs.Entries.{Each}
use Rattle.merc_layout.proofs.Lent.{IsAbove}
use Rattle.merc_layout.proofs.sizes.lent_at_sites.Given as goal

abbrev pub invariant-loop-those : goal.invariant-loop-those
invariant-loop-those l = Each IsAbove l.lent (take l.those-index l.conjuncts)
