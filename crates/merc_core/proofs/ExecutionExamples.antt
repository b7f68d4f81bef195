-- Executions of the script in which the first child hands a value to the second, by two workers.
use Rattle.std.proofs.Common.{◌≡◌, List, [], ◌∷◌, Some, None, refl}
use Rattle.std.specs.Prelude.{Ok, Err}
use Rattle.std.specs.List.{AllByRecursion}
use Rattle.merc_script.specs.declared.outcome.Outcome.TheVariants.{Ok as Fine, Raise, Limit}
use Rattle.merc_core.specs.declared.event.Event.{Event}
use Rattle.merc_core.specs.declared.event.Event.TheVariants.{Tick, Fork, Pop, Steal, Signal, Wait, End, Resume, Lost}
use Rattle.merc_core.specs.declared.event.NotNow.TheVariants.{Idle, ListEmpty, SameWorker}
use Rattle.merc_core.specs.WellFormed.{most_workers, most_children, most_steps}
use Rattle.merc_core.specs.Laws.{IsCutEnd, IsKept}
use Rattle.merc_core.specs.Execution.{Execution, state_of, with_event, told, outcome_of, IsAccepted}
use Rattle.merc_core.proofs.CoreExamples.{root, whole_run}

abbrev after : List Event → Execution
after events = record { root = root; workers = 2; events = events }

-- the whole: its outcome is there after the last event, and not before
whole-accepted : IsAccepted (after whole_run)
whole-accepted = (_, refl)

whole-outcome : outcome_of (state_of (after whole_run)) ≡ Some (Fine 2)
whole-outcome = refl

not-before : outcome_of (state_of (after (Fork 0 ∷ Steal 1 0 ∷ Wait 1 ∷ Tick 0 ∷ Signal 0 ∷ End 0 ∷ Pop 0 ∷ Tick 0 ∷ End 0 ∷ Resume 0 ∷ []))) ≡ None
not-before = refl

-- the event goes behind those before it, and is the one that is answered
abbrev three : Execution
three = after (Fork 0 ∷ Steal 1 0 ∷ Wait 1 ∷ [])

one-more : with_event (Tick 0) three ≡ after (Fork 0 ∷ Steal 1 0 ∷ Wait 1 ∷ Tick 0 ∷ [])
one-more = refl

told-tick : told (state_of (with_event (Tick 0) three)) ≡ Ok tt
told-tick = refl

told-pop : told (state_of (with_event (Pop 1) three)) ≡ Err ListEmpty
told-pop = refl

told-idle : told (state_of (with_event (Tick 1) three)) ≡ Err Idle
told-idle = refl

told-same : told (state_of (with_event (Steal 1 1) three)) ≡ Err SameWorker
told-same = refl

not-accepted : IsAccepted (with_event (Tick 1) three) → ⊥
not-accepted accepted = absurd (let is = accepted.1 in cc)

-- ends of branches for want of memory, or for want of one who found some, and no others
not-cut-fine : IsCutEnd (Fine 2) → ⊥
not-cut-fine cut = cut

not-cut-raise : IsCutEnd (Raise 40 2) → ⊥
not-cut-raise cut = cut

not-cut-limit : IsCutEnd Limit → ⊥
not-cut-limit cut = cut

not-kept : IsKept (Lost 0) → ⊥
not-kept kept = kept

-- no other event ends a branch so, of whichever kind it is
whole-kept : AllByRecursion IsKept whole_run
whole-kept = (tt, (tt, (tt, (tt, (tt, (tt, (tt, (tt, (tt, (tt, (tt, tt)))))))))))

-- the numbers
workers-most : most_workers ≡ 64
workers-most = refl

children-most : most_children ≡ 64
children-most = refl

steps-most : most_steps ≡ 1000000000
steps-most = refl
