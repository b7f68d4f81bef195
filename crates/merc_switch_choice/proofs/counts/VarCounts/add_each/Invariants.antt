use Rattle.std.proofs.Common.{◌≡◌, ◌+◌, ℕ, drop}
use Rattle.merc_switch_choice.specs.Counting.{count_of, occurrences}
use Rattle.merc_switch_choice.proofs.counts.VarCounts.add_each.Given as goal

abbrev pub invariant-loop-number : goal.invariant-loop-number
invariant-loop-number l = (variable : ℕ) → count_of l.self variable + occurrences (drop l.number-index l.numbers) variable ≡ count_of l.fn.self variable + occurrences l.numbers variable
