-- Worked examples of what the taps see and answer.
use Rattle.std.proofs.Common.{◌≡◌, ℕ, true, false, List, [], ◌∷◌, Option, Some, None, slice_index, codes, refl, ap, arith}
use Rattle.std.specs.Fmt.{digits}
use Rattle.merc_base.specs.declared.outside.TapEvent.{TapEvent}
use Rattle.merc_base.specs.declared.outside.TapEvent.TheVariants.{Answer, Finish}
use Rattle.merc_base.specs.declared.outside.TapAnswer.TheVariants.{Keep, Done, Failed, NoMemory}
use Rattle.merc_io.specs.declared.list_tap.LastEvent.TheVariants.{Never, DoneAt, FailsAt}
use Rattle.merc_io.specs.Taps.{ListTapState, answer_at, list_tap_after, TallyTapState, tally_text}

abbrev first_answer : TapEvent
first_answer = Answer 1 (codes "X = 1")

abbrev finish : TapEvent
finish = Finish 0 12

-- a tap that has seen an answer, and fails at the next event
pub ListTapState-example : ListTapState
ListTapState-example = record { events = first_answer ∷ []; last = FailsAt 2; is_over = false; faults = 0 }

pub answer_at-done : answer_at (DoneAt 1) 1 ≡ Done
answer_at-done = refl

pub answer_at-failed : answer_at (FailsAt 2) 2 ≡ Failed
answer_at-failed = refl

-- an event before the last is kept
pub answer_at-counterexample : answer_at (FailsAt 2) 1 ≡ Failed → ⊥
answer_at-counterexample same = cc

-- a tap without a last event keeps each
pub answer_at-never : answer_at Never 0 ≡ Done → ⊥
answer_at-never same = cc

-- the event at which it fails is seen, and the failure is counted
pub list_tap_after-failed : list_tap_after finish Failed ListTapState-example ≡ record { events = first_answer ∷ finish ∷ []; last = FailsAt 2; is_over = true; faults = 1 }
unfolding ListTapState-example
list_tap_after-failed = refl

-- an event for which there was no memory is not seen
pub list_tap_after-no_memory : list_tap_after finish NoMemory ListTapState-example ≡ record { events = first_answer ∷ finish ∷ []; last = FailsAt 2; is_over = true; faults = 0 } → ⊥
unfolding ListTapState-example
list_tap_after-no_memory same =
    let events : ◌≡◌ {A = List TapEvent} (first_answer ∷ []) (first_answer ∷ finish ∷ []) = ap (λ (tap : ListTapState). tap.events) same in cc

-- a tap over a writer that does not tell its bytes, behind an event
pub TallyTapState-example : TallyTapState
TallyTapState-example = record { contents = None; count = 1; is_over = false; faults = 0 }

pub tally_text-finish : tally_text finish ≡ codes "answers 12\n"
unfolding digits
tally_text-finish = refl

-- nothing is said of an answer
pub tally_text-answer : tally_text first_answer ≡ []
tally_text-answer = refl

-- the status is no number of answers
pub tally_text-counterexample : tally_text finish ≡ codes "answers 0\n" → ⊥
unfolding digits
tally_text-counterexample same = let first : ◌≡◌ {A = ℕ} 49 48 = ap (λ (text : List ℕ). slice_index text 8) same in omega (arith, first)
