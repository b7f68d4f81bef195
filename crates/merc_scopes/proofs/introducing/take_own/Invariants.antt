use Rattle.std.proofs.Common.{List, take, drop}
use Rattle.merc_scopes.specs.declared.occurrence.Occurrence.{Occurrence}
use Rattle.merc_scopes.specs.Scopes.{own}
use Rattle.merc_scopes.specs.FirstPlaces.{Holds, place_in}
use Rattle.merc_scopes.proofs.Owning.{IsTaking}
use Rattle.merc_scopes.proofs.introducing.take_own.Given as goal

abbrev pub invariant-loop-name : goal.invariant-loop-name
invariant-loop-name l = (found : List Occurrence) → Holds l.fn.places found
    → IsTaking (place_in l.places) l.own (take l.name-index l.variables) (drop l.name-index l.variables) found (own l.variables found)
