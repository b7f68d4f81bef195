use Rattle.std.proofs.Common.{take}
use Rattle.merc_simple_goals.specs.Places.{TellsPlaces}
use Rattle.merc_simple_goals.proofs.places.by_variable.Given as goal

abbrev pub invariant-loop-place : goal.invariant-loop-place
invariant-loop-place l = TellsPlaces l.table.items (take l.place l.all)
