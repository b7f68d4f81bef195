use Rattle.std.proofs.Common.{take}
use Rattle.merc_type_check.specs.TypeNumbers.{Renumbers}
use Rattle.merc_type_check.proofs.declared.number_type.Given as goal

abbrev pub invariant-loop-constructor : goal.invariant-loop-constructor
invariant-loop-constructor l = Renumbers l.fn.numbering l.numbering l.fn.constructors l.constructors (take l.constructor-index l.declared.constructors)
