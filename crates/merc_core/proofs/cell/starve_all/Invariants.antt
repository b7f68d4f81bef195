use Rattle.std.proofs.Common.{◌≡◌, ◌++◌, length}
use Rattle.std.specs.Prelude.{map}
use Rattle.merc_core.specs.Queues.{starved}
use Rattle.merc_core.proofs.cell.starve_all.Given as goal

abbrev pub invariant-loop-branches : goal.invariant-loop-branches
invariant-loop-branches l = l.list ++ map starved l.branches ≡ l.fn.list ++ map starved l.fn.branches

abbrev pub decreases-loop-branches : goal.decreases-loop-branches
decreases-loop-branches l = length l.branches
