use Rattle.std.proofs.Common.{◌≡◌, ◌+◌, List, length, reverse}
use Rattle.merc_scopes.specs.declared.occurrence.Occurrence.{Occurrence}
use Rattle.merc_scopes.specs.FirstPlaces.{place_in, IsInStep}
use Rattle.merc_scopes.specs.Standing.{AllHold}
use Rattle.merc_scopes.proofs.Standings.{IsJoining}
use Rattle.merc_scopes.proofs.introducing.join_first.Given as goal

abbrev pub invariant-loop : goal.invariant-loop
invariant-loop l = record {
  step : IsInStep l.shared;
  enough : length l.stack.items + l.counter ≡ length l.fn.stack.items;
  joined : (lists : List (List Occurrence)) → AllHold (reverse l.fn.stack.items) lists → IsJoining l.stack.items (place_in l.places) (place_in l.shared.places) l.counter lists;
}
