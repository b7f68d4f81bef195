-- The text goes on with the places before this one.
use Rattle.std.proofs.Common.{◌≡◌, ◌++◌, map, take}
use Rattle.merc_top.specs.Checking.{place_text}
use Rattle.merc_top.proofs.CheckingLemmas.{opened, before_at}
use Rattle.merc_top.proofs.checking.push_places.Given as goal

abbrev pub invariant-loop-place : goal.invariant-loop-place
invariant-loop-place l = record {
  line : l.line ≡ l.fn.line ++ opened (map place_text (take l.place-index l.places));
  before : l.before ≡ before_at l.place-index;
}
