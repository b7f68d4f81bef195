-- What taps have seen of the events of a run.
use Rattle.std.specs.Prelude.{◌≡◌, ℕ, suc, ◌+◌, ◌<◌, Bool, true, false, List, [], ◌∷◌, ◌++◌, length, Option, Some, None}
use Rattle.std.specs.List.{AllZip}
use Rattle.std.specs.Option.{option_map}
use Rattle.merc_base.specs.Outside.{appended}
use Rattle.merc_base.specs.declared.outside.TapEvent.{TapEvent}
use Rattle.merc_base.specs.declared.outside.TapEvent.TheVariants.{Answer, Finish}
use Rattle.merc_base.specs.declared.outside.TapAnswer.{TapAnswer}
use Rattle.merc_base.specs.declared.outside.TapAnswer.TheVariants.{Keep, Done, Failed, NoMemory}

-- the events of solutions with these lines, without line ends, behind so many others
abbrev pub answers_behind : ℕ → List (List ℕ) → List TapEvent
answers_behind before [] = []
answers_behind before (line ∷ lines) = Answer (suc before) line ∷ answers_behind (suc before) lines

-- The events of a run whose solutions have these lines, as far as they were wholly written; and last the one of its end with this status, where the end line was.
abbrev pub run_events : List (List ℕ) → Option ℕ → List TapEvent
run_events lines None = answers_behind 0 lines
run_events lines (Some status) = answers_behind 0 lines ++ Finish status (length lines) ∷ []

-- What is told of a tap: the events that it has seen and how many these are, as far as it tells that; whether it wants no further one; and how often it has failed.
pub record TapState : Type 0 where
  pub seen : Option (List TapEvent)
  pub count : Option ℕ
  pub is_over : Bool
  pub faults : ℕ

-- a tap that has seen these events too
abbrev pub with_seen : List TapEvent → TapState → TapState
with_seen events tap = record tap { seen = appended tap.seen events; count = option_map (λ (count : ℕ). count + length events) tap.count }

-- A tap is over behind an event that it answered so. It has seen this event too, unless memory was refused, and it has failed once more where it says so.
abbrev pub EndsBehind : TapEvent → TapAnswer → TapState → TapState → Type 0
EndsBehind event Keep old new = ⊥
EndsBehind event Done old new = new ≡ record (with_seen (event ∷ []) old) { is_over = true }
EndsBehind event Failed old new = (old.faults < new.faults) × (new ≡ record (with_seen (event ∷ []) old) { is_over = true; faults = new.faults })
EndsBehind event NoMemory old new = new ≡ record old { is_over = true }

-- What a tap has seen of these events: nothing, where it was over before; all of them, where it kept each; or those up to the first that it answered otherwise.
pub data Saw (events : List TapEvent) (old new : TapState) : Type 0 where
  was_over : old.is_over ≡ true → new ≡ old → Saw events old new
  kept_all : old.is_over ≡ false → new ≡ with_seen events old → Saw events old new
  ended : (kept : List TapEvent) (last : TapEvent) (rest : List TapEvent) (answer : TapAnswer) → events ≡ kept ++ last ∷ rest → old.is_over ≡ false → EndsBehind last answer (with_seen kept old) new → Saw events old new

-- One tap, of this kind and with this told of it, before and after these events: it is the same one, saw what it should, and was left alone where it was over.
pub record TapSaw {T K : Type 0} (kind : T → K) (state : T → TapState) (events : List TapEvent) (old new : T) : Type 0 where
  pub same_kind : kind new ≡ kind old
  pub saw : Saw events (state old) (state new)
  pub left_alone : (state old).is_over ≡ true → new ≡ old

-- the same of each of a list of taps, which keep their order
abbrev pub TapsSaw : {T K : Type 0} → (T → K) → (T → TapState) → List TapEvent → List T → List T → Type 0
TapsSaw kind state events olds news = AllZip (λ old new. TapSaw kind state events old new) olds news
