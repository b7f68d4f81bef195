-- A history of a script with Ticks.
use Rattle.std.proofs.Common.{◌≡◌, List, [], ◌∷◌, Some, None, refl, pos}
use Rattle.std.specs.Prelude.{Option, Ok, Err}
use Rattle.merc_value.specs.Value.{Int}
use Rattle.merc_script.specs.declared.outcome.Outcome.{Outcome}
use Rattle.merc_script.specs.declared.outcome.Outcome.TheVariants.{Ok as Fine}
use Rattle.merc_script.specs.Script.{Script, Ends, TickThen, WaitThen, SignalThen, ForkThen, NoChild, Child}
use Rattle.merc_core.specs.declared.event.Event.{Event}
use Rattle.merc_core.specs.declared.event.Event.TheVariants.{Tick, Fork, Pop, Steal, Signal, Wait, End, Resume, Lost}
use Rattle.merc_core.specs.World.{start, outcome}
use Rattle.merc_core.specs.Events.{Answer, run}
use Rattle.merc_core.specs.History.{replay, without_ticks}
use Rattle.merc_core.specs.Ready.{ready}

abbrev root : Script
root = TickThen (TickThen (ForkThen 9 [] [] (Child (TickThen (Ends (Fine 1))) NoChild) (TickThen (Ends (Fine 4)))))

abbrev outcome_of : Answer → Option (Option Outcome)
outcome_of (Ok w) = Some (outcome w)
outcome_of (Err refused) = None

abbrev history : List Event
history = Fork 0 ∷ End 0 ∷ Resume 0 ∷ End 0 ∷ []

abbrev events : List Event
events = Tick 0 ∷ Tick 0 ∷ Fork 0 ∷ Tick 0 ∷ End 0 ∷ Resume 0 ∷ Tick 0 ∷ End 0 ∷ []

same : without_ticks events ≡ history
same = refl

-- it leads where the events lead
whole : replay history (Ok (start root 1)) ≡ run events (Ok (start root 1))
whole = refl

ends : outcome_of (replay history (Ok (start root 1))) ≡ Some (Some (Fine 4))
ends = refl

-- as events it is refused
refused : outcome_of (run history (Ok (start root 1))) ≡ None
refused = refl

-- the events that are named as ready are these, one after the other
abbrev ready_after : Answer → Option (Option Event)
ready_after (Ok w) = Some (ready w)
ready_after (Err refused') = None

ready-first : ready_after (Ok (start root 1)) ≡ Some (Some (Tick 0))
ready-first = refl

ready-resume : ready_after (run (Tick 0 ∷ Tick 0 ∷ Fork 0 ∷ Tick 0 ∷ End 0 ∷ []) (Ok (start root 1))) ≡ Some (Some (Resume 0))
ready-resume = refl

ready-none : ready_after (run events (Ok (start root 1))) ≡ Some None
ready-none = refl

-- A value that is handed on: child 1 signals cell 5 behind a Tick, and child 2 waits for it behind a Tick.
abbrev handing : Script
handing = ForkThen 9 ((record { cell = 5; producer = 1; consumer = 2; value = Some (Int (pos 7)) }) ∷ []) []
    (Child (TickThen (SignalThen 5 (Ends (Fine 1)))) (Child (TickThen (WaitThen 5 (TickThen (Ends (Fine 2))))) NoChild)) (Ends (Fine 3))

handing-full : outcome_of (replay (Fork 0 ∷ Signal 0 ∷ End 0 ∷ Pop 0 ∷ Wait 0 ∷ End 0 ∷ Resume 0 ∷ End 0 ∷ []) (Ok (start handing 1))) ≡ Some (Some (Fine 3))
handing-full = refl

-- .. or child 2 is there first, and is woken
handing-parked : outcome_of (replay (Fork 0 ∷ Steal 1 0 ∷ Wait 1 ∷ Signal 0 ∷ End 0 ∷ Pop 0 ∷ End 0 ∷ Resume 0 ∷ End 0 ∷ []) (Ok (start handing 2))) ≡ Some (Some (Fine 3))
handing-parked = refl

-- no event is a Tick but one
ticks-each : without_ticks (Tick 0 ∷ Fork 0 ∷ Pop 0 ∷ Steal 1 0 ∷ Signal 0 ∷ Wait 0 ∷ End 0 ∷ Resume 0 ∷ Lost 0 ∷ [])
    ≡ Fork 0 ∷ Pop 0 ∷ Steal 1 0 ∷ Signal 0 ∷ Wait 0 ∷ End 0 ∷ Resume 0 ∷ Lost 0 ∷ []
ticks-each = refl
