use Rattle.std.proofs.Common.{◌≡◌, ◌++◌, drop, filter}
use Rattle.std.specs.Prelude.{nat_lt}
use Rattle.merc_switch_choice.specs.Counting.{count_of}
use Rattle.merc_switch.proofs.counting.those_counted.Given as goal

abbrev pub invariant-loop-output : goal.invariant-loop-output
invariant-loop-output l = l.kept ++ filter (λ output. nat_lt 0 (count_of l.counts output)) (drop l.output-index l.outputs) ≡ filter (λ output. nat_lt 0 (count_of l.counts output)) l.outputs
