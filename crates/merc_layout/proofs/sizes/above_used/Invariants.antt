use Rattle.std.proofs.Common.{ℕ, ◌<◌, take}
use Rattle.std.specs.List.{All}
use Rattle.merc_live.specs.Reads.{used_by}
use Rattle.merc_layout.proofs.sizes.above_used.Given as goal

abbrev pub invariant-loop-conjunct : goal.invariant-loop-conjunct
invariant-loop-conjunct l = All (λ (variable : ℕ). variable < l.most) (used_by (take l.conjunct-index l.conjuncts))
