-- The places so far lie above those that are pending, the highest of which is next.
use Rattle.std.proofs.Common.{◌-◌, length, reverse}
use Rattle.merc_segments.proofs.ReachLemmas.{IsReaching}
use Rattle.merc_segments.proofs.reaching.reached_places.Given as goal

abbrev pub invariant-loop-place : goal.invariant-loop-place
invariant-loop-place l = IsReaching l.heap l.words l.pending (reverse l.places.items)

abbrev pub decreases-loop-place : goal.decreases-loop-place
decreases-loop-place l = length l.heap - length l.places.items
