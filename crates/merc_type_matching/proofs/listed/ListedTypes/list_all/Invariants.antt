use Rattle.std.proofs.Common.{◌≡◌}
use Rattle.merc_type_matching.proofs.listed.ListedTypes.list_all.Given as goal

abbrev pub invariant-loop-number : goal.invariant-loop-number
invariant-loop-number l = l.self ≡ l.fn.self
