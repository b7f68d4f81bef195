use Rattle.std.proofs.Common.{take}
use Rattle.merc_type_check.specs.TypeNumbers.{Renumbers}
use Rattle.merc_type_check.proofs.Numbers.{all_constructors}
use Rattle.merc_type_check.proofs.declared.number_constructors.Given as goal

abbrev pub invariant-loop-declared : goal.invariant-loop-declared
invariant-loop-declared l = Renumbers l.fn.numbering l.numbering l.initial.constructors l.constructors (all_constructors (take l.declared-index l.types))
