-- The turn that is found in the rest is that of the whole.
use Rattle.std.proofs.Common.{◌≡◌, ◌+◌, ◌<◌, length}
use Rattle.std.specs.Prelude.{Option}
use Rattle.std.specs.List.{AllByRecursion}
use Rattle.merc_core.specs.declared.event.Event.{Event}
use Rattle.merc_core.specs.Replaying.{IsFirstTurn}
use Rattle.merc_core.proofs.readying.first_turn.Given as goal

abbrev pub invariant-loop-rest : goal.invariant-loop-rest
invariant-loop-rest l = record {
  count : l.number + length l.rest ≡ length l.workers;
  same : (found : Option Event) → IsFirstTurn l.course.items.items l.number l.rest found → IsFirstTurn l.course.items.items 0 l.workers found;
  within : AllByRecursion (λ k. AllByRecursion (λ b. b.at < length l.course.items.items) k.hand) l.rest;
}

abbrev pub decreases-loop-rest : goal.decreases-loop-rest
decreases-loop-rest l = length l.rest
