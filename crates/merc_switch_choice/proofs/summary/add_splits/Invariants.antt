use Rattle.std.proofs.Common.{◌≡◌, ◌+◌, ℕ, drop}
use Rattle.merc_switch_choice.specs.Counting.{count_of, splitting}
use Rattle.merc_switch_choice.proofs.summary.add_splits.Given as goal

abbrev pub invariant-loop-disjunct : goal.invariant-loop-disjunct
invariant-loop-disjunct l = (variable : ℕ) → count_of l.counts variable + splitting (drop l.disjunct-index l.disjuncts) variable ≡ splitting l.disjuncts variable
