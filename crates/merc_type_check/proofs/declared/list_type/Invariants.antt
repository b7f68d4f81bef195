use Rattle.std.proofs.Common.{◌≡◌}
use Rattle.merc_type_check.proofs.declared.list_type.Given as goal

abbrev pub invariant-loop-constructor : goal.invariant-loop-constructor
invariant-loop-constructor l = l.listed ≡ l.fn.listed
