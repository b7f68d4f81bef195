use Rattle.std.proofs.Common.{◌≡◌, ◌||◌, ◌&&◌, ℕ, drop}
use Rattle.std.specs.Prelude.{nat_lt}
use Rattle.merc_order.specs.Bound.{among}
use Rattle.merc_switch_choice.specs.Counting.{count_of}
use Rattle.merc_switch_choice.proofs.counts.VarCounts.add_counted.Given as goal

abbrev pub invariant-loop-number : goal.invariant-loop-number
invariant-loop-number l =
    (variable : ℕ) → (among l.variables variable || (among (drop l.number-index l.number-items) variable && nat_lt 0 (count_of l.self variable))) ≡ nat_lt 0 (count_of l.self variable)
