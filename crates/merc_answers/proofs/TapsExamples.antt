-- Worked examples of what taps have seen: what holds, and what does not.
use Rattle.std.proofs.Common.{◌≡◌, ℕ, ◌<◌, true, false, List, [], ◌∷◌, ◌++◌, Option, Some, None, codes, refl, ap, arith}
use Rattle.merc_base.specs.declared.outside.TapEvent.{TapEvent}
use Rattle.merc_base.specs.declared.outside.TapEvent.TheVariants.{Answer, Finish}
use Rattle.merc_base.specs.declared.outside.TapAnswer.TheVariants.{Keep, Done, Failed, NoMemory}
use Rattle.merc_answers.specs.Taps.{answers_behind, run_events, TapState, with_seen, EndsBehind, Saw, was_over, kept_all, ended, TapSaw, TapsSaw}

abbrev first_answer : TapEvent
first_answer = Answer 1 (codes "X = []")

abbrev second_answer : TapEvent
second_answer = Answer 2 (codes "X = [1]")

abbrev finish : TapEvent
finish = Finish 0 2

pub answers_behind-example : answers_behind 1 (codes "X = [1]" ∷ []) ≡ second_answer ∷ []
answers_behind-example = refl

-- a number is from 1
pub answers_behind-counterexample : answers_behind 0 (codes "X = [1]" ∷ []) ≡ Answer 0 (codes "X = [1]") ∷ [] → ⊥
answers_behind-counterexample same = cc

-- two solutions and the end line
pub run_events-example : run_events (codes "X = []" ∷ codes "X = [1]" ∷ []) (Some 0) ≡ first_answer ∷ second_answer ∷ finish ∷ []
run_events-example = refl

-- the write of the end line failed
pub run_events-cut : run_events (codes "X = []" ∷ codes "X = [1]" ∷ []) None ≡ first_answer ∷ second_answer ∷ []
run_events-cut = refl

-- the end is no answer
pub run_events-counterexample : run_events [] (Some 1) ≡ [] → ⊥
run_events-counterexample same = cc

-- a tap that tells all, has seen these events and was told so
abbrev tap_with : List TapEvent → ℕ → TapState
tap_with events count = record { seen = Some events; count = Some count; is_over = false; faults = 0 }

abbrev over : TapState → TapState
over tap = record tap { is_over = true }

pub TapState-example : TapState
TapState-example = tap_with [] 0

pub with_seen-example : with_seen (second_answer ∷ []) (tap_with (first_answer ∷ []) 1) ≡ tap_with (first_answer ∷ second_answer ∷ []) 2
with_seen-example = refl

-- a tap that tells nothing goes on to tell nothing
pub with_seen-untold : with_seen (first_answer ∷ []) (record { seen = None; count = None; is_over = false; faults = 3 }) ≡ record { seen = None; count = None; is_over = false; faults = 3 }
with_seen-untold = refl

-- the newest event is the last
pub with_seen-counterexample : with_seen (second_answer ∷ []) (tap_with (first_answer ∷ []) 1) ≡ tap_with (second_answer ∷ first_answer ∷ []) 2 → ⊥
with_seen-counterexample same = let seen : ◌≡◌ {A = Option (List TapEvent)} (Some (first_answer ∷ second_answer ∷ [])) (Some (second_answer ∷ first_answer ∷ [])) = ap (λ (tap : TapState). tap.seen) same in cc

pub EndsBehind-done : EndsBehind first_answer Done (tap_with [] 0) (over (tap_with (first_answer ∷ []) 1))
EndsBehind-done = refl

-- where memory was refused the event is not seen
pub EndsBehind-no_memory : EndsBehind first_answer NoMemory (tap_with [] 0) (over (tap_with [] 0))
EndsBehind-no_memory = refl

-- a failure is counted
pub EndsBehind-uncounted : EndsBehind first_answer Failed (tap_with [] 0) (over (tap_with (first_answer ∷ []) 1)) → ⊥
EndsBehind-uncounted ends = let rose : 0 < 0 = ends.0 in omega (arith, rose)

-- a tap that keeps an event goes on
pub EndsBehind-keep : EndsBehind first_answer Keep (tap_with [] 0) (over (tap_with (first_answer ∷ []) 1)) → ⊥
EndsBehind-keep ends = ends

-- all three were kept
pub Saw-all : Saw (first_answer ∷ second_answer ∷ finish ∷ []) (tap_with [] 0) (tap_with (first_answer ∷ second_answer ∷ finish ∷ []) 3)
Saw-all = kept_all refl refl

-- the first was answered with Done, and no other was told
pub Saw-done : Saw (first_answer ∷ second_answer ∷ finish ∷ []) (tap_with [] 0) (over (tap_with (first_answer ∷ []) 1))
Saw-done = ended [] first_answer (second_answer ∷ finish ∷ []) Done refl refl refl

-- at the second memory was refused
pub Saw-no_memory : Saw (first_answer ∷ second_answer ∷ finish ∷ []) (tap_with [] 0) (over (tap_with (first_answer ∷ []) 1))
Saw-no_memory = ended (first_answer ∷ []) second_answer (finish ∷ []) NoMemory refl refl refl

-- a tap that was over sees nothing
pub Saw-over : Saw (first_answer ∷ []) (over (tap_with [] 0)) (over (tap_with [] 0))
Saw-over = was_over refl refl

Saw-over-finish : Saw (finish ∷ []) (over (tap_with [] 0)) (over (tap_with [] 0))
Saw-over-finish = was_over refl refl

-- a tap that is not over is told
pub Saw-untold : Saw (first_answer ∷ []) (tap_with [] 0) (tap_with [] 0) → ⊥
Saw-untold (was_over is_over same) = cc
Saw-untold (kept_all listens same) = let seen : ◌≡◌ {A = Option (List TapEvent)} (Some []) (Some (first_answer ∷ [])) = ap (λ (tap : TapState). tap.seen) same in cc
Saw-untold (ended kept last rest Keep whole listens ends) = ends
Saw-untold (ended kept last rest Done whole listens ends) = let is_over : false ≡ true = ap (λ (tap : TapState). tap.is_over) ends in cc
Saw-untold (ended kept last rest Failed whole listens ends) = let is_over : false ≡ true = ap (λ (tap : TapState). tap.is_over) ends.1 in cc
Saw-untold (ended kept last rest NoMemory whole listens ends) = let is_over : false ≡ true = ap (λ (tap : TapState). tap.is_over) ends in cc

-- a tap is told no event behind one that it answered with Done
pub Saw-behind_done : Saw (first_answer ∷ second_answer ∷ []) (over (tap_with (first_answer ∷ []) 1)) (over (tap_with (first_answer ∷ second_answer ∷ []) 2)) → ⊥
Saw-behind_done (was_over is_over same) = let seen : ◌≡◌ {A = Option (List TapEvent)} (Some (first_answer ∷ second_answer ∷ [])) (Some (first_answer ∷ [])) = ap (λ (tap : TapState). tap.seen) same in cc
Saw-behind_done (kept_all listens same) = cc
Saw-behind_done (ended kept last rest answer whole listens ends) = cc

-- taps that are seen as what is told of them, all of one kind
abbrev kind_of : TapState → ℕ
kind_of tap = 0

abbrev state_of : TapState → TapState
state_of tap = tap

pub TapSaw-over : TapSaw kind_of state_of (finish ∷ []) (over (tap_with [] 0)) (over (tap_with [] 0))
TapSaw-over = record { same_kind = refl; saw = Saw-over-finish; left_alone = λ is_over. refl }

-- a tap that was over and is not any more
pub TapSaw-counterexample : TapSaw kind_of state_of [] (over (tap_with [] 0)) (tap_with [] 0) → ⊥
TapSaw-counterexample told = let is_over : false ≡ true = ap (λ (tap : TapState). tap.is_over) (told.left_alone refl) in cc

-- of two taps the first was over, and the second keeps the event
pub TapsSaw-example : TapsSaw kind_of state_of (finish ∷ []) (over (tap_with [] 0) ∷ tap_with [] 0 ∷ []) (over (tap_with [] 0) ∷ tap_with (finish ∷ []) 1 ∷ [])
TapsSaw-example = (TapSaw-over, (record { same_kind = refl; saw = kept_all refl refl; left_alone = λ is_over. absurd (cc) }, tt))

-- none is lost
pub TapsSaw-counterexample : TapsSaw kind_of state_of [] (tap_with [] 0 ∷ []) [] → ⊥
TapsSaw-counterexample told = told
