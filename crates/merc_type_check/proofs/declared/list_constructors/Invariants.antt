use Rattle.std.proofs.Common.{◌≡◌}
use Rattle.merc_type_check.proofs.declared.list_constructors.Given as goal

abbrev pub invariant-loop-declared : goal.invariant-loop-declared
invariant-loop-declared l = l.listed ≡ l.fn.listed
