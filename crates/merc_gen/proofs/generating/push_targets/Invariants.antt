use Rattle.std.proofs.Common.{◌≡◌, ◌++◌, length, reverse}
use Rattle.merc_gen.specs.Tasks.{targets_at}
use Rattle.merc_gen.proofs.generating.push_targets.Given as goal

abbrev pub invariant-loop-left : goal.invariant-loop-left
invariant-loop-left l = l.targets ++ targets_at l.left (reverse l.starts.items) l.first ≡ targets_at l.fn.symbols (reverse l.fn.starts.items) l.fn.first

abbrev pub decreases-loop-left : goal.decreases-loop-left
decreases-loop-left l = length l.left
