use Rattle.std.proofs.Common.{◌≡◌}
use Rattle.merc_type_check.proofs.declared.list_predicates.Given as goal

abbrev pub invariant-loop-numbers : goal.invariant-loop-numbers
invariant-loop-numbers l = l.listed ≡ l.fn.listed
