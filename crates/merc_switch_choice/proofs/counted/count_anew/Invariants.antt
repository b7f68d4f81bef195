use Rattle.std.proofs.Common.{◌≡◌, ◌-◌, ◌++◌, ℕ, length}
use Rattle.std.specs.Prelude.{reverse}
use Rattle.merc_switch_choice.specs.Counting.{count_of, all_splitting}
use Rattle.merc_switch_choice.proofs.counted.count_anew.Given as goal

abbrev pub invariant-loop-last : goal.invariant-loop-last
invariant-loop-last l = record {
  groups : l.counted.items ++ reverse l.groups.items ≡ reverse l.fn.groups.items;
  counts : (variable : ℕ) → count_of l.counts variable - all_splitting l.groups.items variable ≡ count_of l.fn.counts variable - all_splitting l.fn.groups.items variable;
}

abbrev pub decreases-loop-last : goal.decreases-loop-last
decreases-loop-last l = length l.groups.items
