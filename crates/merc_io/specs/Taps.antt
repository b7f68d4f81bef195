-- What the taps of this crate have seen, and how they answer.
use Rattle.std.specs.Prelude.{ℕ, ◌+◌, Bool, true, List, [], ◌∷◌, ◌++◌, length, Option, ◌==◌, if◌then◌else◌, codes}
use Rattle.std.specs.Fmt.{decimal}
use Rattle.merc_base.specs.declared.outside.TapEvent.{TapEvent}
use Rattle.merc_base.specs.declared.outside.TapEvent.TheVariants.{Answer, Finish}
use Rattle.merc_base.specs.declared.outside.TapAnswer.{TapAnswer}
use Rattle.merc_base.specs.declared.outside.TapAnswer.TheVariants.{Keep, Done, Failed, NoMemory}
use Rattle.merc_io.specs.declared.list_tap.LastEvent.{LastEvent}
use Rattle.merc_io.specs.declared.list_tap.LastEvent.TheVariants.{Never, DoneAt, FailsAt}

-- the events that a tap keeps, which is its last, whether it is over, and how often it has failed
pub record ListTapState : Type 0 where
  pub events : List TapEvent
  pub last : LastEvent
  pub is_over : Bool
  pub faults : ℕ

-- the answer to the event of this number, from 1, where there is memory for it
abbrev pub answer_at : LastEvent → ℕ → TapAnswer
answer_at Never number = Keep
answer_at (DoneAt last) number = if number == last then Done else Keep
answer_at (FailsAt last) number = if number == last then Failed else Keep

-- the tap after this event, by its answer
abbrev pub list_tap_after : TapEvent → TapAnswer → ListTapState → ListTapState
list_tap_after event Keep tap = record tap { events = tap.events ++ event ∷ [] }
list_tap_after event Done tap = record tap { events = tap.events ++ event ∷ []; is_over = true }
list_tap_after event Failed tap = record tap { events = tap.events ++ event ∷ []; is_over = true; faults = tap.faults + 1 }
list_tap_after event NoMemory tap = record tap { is_over = true }

-- the bytes of the writer that a tap has, if they are told, how many events it has seen, whether it is over, and how often a write has failed
pub record TallyTapState : Type 0 where
  pub contents : Option (List ℕ)
  pub count : ℕ
  pub is_over : Bool
  pub faults : ℕ

-- what is written at an event
abbrev pub tally_text : TapEvent → List ℕ
tally_text (Answer number line) = []
tally_text (Finish status answers) = codes "answers " ++ decimal answers ++ codes "\n"
