use Rattle.std.proofs.Common.{◌≡◌, drop, Some}
use Rattle.std.specs.List.{AllByRecursion}
use Rattle.merc_grading.specs.Switches.{symbol_at}
use Rattle.merc_switch.proofs.judging.all_have.Given as goal

abbrev pub invariant-loop-disjunct : goal.invariant-loop-disjunct
invariant-loop-disjunct l =
    AllByRecursion (λ disjunct. symbol_at l.variable disjunct ≡ Some l.symbol) (drop l.disjunct-index l.disjuncts) → AllByRecursion (λ disjunct. symbol_at l.variable disjunct ≡ Some l.symbol) l.disjuncts
