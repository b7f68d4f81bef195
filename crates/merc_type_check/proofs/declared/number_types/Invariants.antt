use Rattle.std.proofs.Common.{take}
use Rattle.merc_type_check.specs.TypeNumbers.{Numbered}
use Rattle.merc_type_check.proofs.declared.number_types.Given as goal

abbrev pub invariant-loop-index : goal.invariant-loop-index
invariant-loop-index l = Numbered l.fn.numbering l.numbering l.numbers (take l.index l.declared)
