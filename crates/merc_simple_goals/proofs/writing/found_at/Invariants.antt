use Rattle.std.proofs.Common.{◌≡◌, ◌++◌, drop}
use Rattle.merc_order.specs.Bound.{among}
use Rattle.merc_simple_goals.specs.Outputs.{found_at}
use Rattle.merc_simple_goals.proofs.writing.found_at.Given as goal

abbrev pub invariant-loop-place : goal.invariant-loop-place
invariant-loop-place l = l.found ++ found_at l.start (among l.seen) l.all (drop l.place-index l.places) ≡ found_at l.start (among l.seen) l.all l.places
