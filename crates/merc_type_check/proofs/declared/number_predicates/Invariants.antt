use Rattle.std.proofs.Common.{take}
use Rattle.merc_type_check.specs.TypeNumbers.{NumbersPredicates}
use Rattle.merc_type_check.proofs.declared.number_predicates.Given as goal

abbrev pub invariant-loop-declared : goal.invariant-loop-declared
invariant-loop-declared l = NumbersPredicates l.fn.numbering l.numbering l.predicates.items (take l.declared-index l.preds)
