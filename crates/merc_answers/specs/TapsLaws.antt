-- What a tap has seen adds up: events that are told one behind the other are seen as if they were told at once.
use Rattle.std.specs.Prelude.{◌≡◌, false, List, [], ◌++◌}
use Rattle.merc_base.specs.declared.outside.TapEvent.{TapEvent}
use Rattle.merc_answers.specs.Taps.{TapState, Saw}

-- before the first event a tap is as it was
abbrev pub SeesNothing : Type 0
SeesNothing = (tap : TapState) → Saw [] tap tap

-- behind some events and then others it has seen what it should of all of these
abbrev pub SeesBoth : Type 0
SeesBoth = (events more : List TapEvent) (old between new : TapState) → Saw events old between → Saw more between new → Saw (events ++ more) old new

-- a tap that is not over was not over before either, and has not failed meanwhile
abbrev pub FailsLast : Type 0
FailsLast = (events : List TapEvent) (old new : TapState) → Saw events old new → new.is_over ≡ false → (old.is_over ≡ false) × (new.faults ≡ old.faults)
