use Rattle.std.specs.Prelude.{◌≤◌, ◌-◌, length}
use Rattle.merc_pool.proofs.SharesMade.{EachIs}
use Rattle.merc_pool.proofs.shares.shares_of.Given as goal

abbrev pub invariant-loop-info : goal.invariant-loop-info
invariant-loop-info l = (length l.shares.items ≤ length l.plan) × EachIs l.plan l.shares.items

abbrev pub decreases-loop-info : goal.decreases-loop-info
decreases-loop-info l = length l.plan - length l.shares.items
