use Rattle.std.proofs.Common.{◌≡◌, ◌++◌, drop}
use Rattle.merc_carried.specs.Sharing.{cells_shared}
use Rattle.merc_pool.proofs.shares.shared_of.Given as goal

abbrev pub invariant-loop-one : goal.invariant-loop-one
invariant-loop-one l = l.shared.items ++ cells_shared (drop l.one-index l.cells) ≡ cells_shared l.cells
