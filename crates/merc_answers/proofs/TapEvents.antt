-- What a tap has seen of an event that it took, and of events behind others.
use Rattle.std.proofs.Common.{◌≡◌, ◌∙◌, ℕ, ◌+◌, ◌<◌, Bool, true, false, List, [], ◌∷◌, ◌++◌, length, Option, Some, None, arith, append_assoc, append-nil, length-append, refl, ap, sym, subst}
use Rattle.std.specs.Option.{option_map}
use Rattle.merc_base.specs.Outside.{appended, seen_after, count_after, AnswersTake}
use Rattle.merc_base.specs.declared.outside.TapEvent.{TapEvent}
use Rattle.merc_base.specs.declared.outside.TapAnswer.{TapAnswer}
use Rattle.merc_base.specs.declared.outside.TapAnswer.TheVariants.{Keep, Done, Failed, NoMemory}
use Rattle.merc_answers.specs.Taps.{TapState, with_seen, EndsBehind, Saw, was_over, kept_all, ended}

seen_one : (seen : Option (List TapEvent)) (event : TapEvent) → seen_after seen event ≡ appended seen (event ∷ [])
seen_one None event = refl
seen_one (Some events) event = refl

count_one : (count : Option ℕ) → count_after count ≡ option_map (λ (n : ℕ). n + 1) count
count_one None = refl
count_one (Some n) = refl

pub same_state : (seen seen' : Option (List TapEvent)) (count count' : Option ℕ) (is_over is_over' : Bool) (faults faults' : ℕ) → seen ≡ seen' → count ≡ count' → is_over ≡ is_over' → faults ≡ faults'
    → ◌≡◌ {A = TapState} (record { seen = seen; count = count; is_over = is_over; faults = faults }) (record { seen = seen'; count = count'; is_over = is_over'; faults = faults' })
same_state seen seen' count count' is_over is_over' faults faults' s c o f = cc

appended-none : (seen : Option (List TapEvent)) → appended seen [] ≡ seen
appended-none None = refl
appended-none (Some events) = ap (λ (all : List TapEvent). Some all) (append-nil events)

counted-none : (count : Option ℕ) → option_map (λ (n : ℕ). n + 0) count ≡ count
counted-none None = refl
counted-none (Some n) = ap (λ (all : ℕ). Some all) (omega arith)

-- a tap that has seen no further event is as it was
pub with_none : (tap : TapState) → with_seen [] tap ≡ tap
with_none tap = same_state (appended tap.seen []) tap.seen (option_map (λ (n : ℕ). n + 0) tap.count) tap.count tap.is_over tap.is_over tap.faults tap.faults (appended-none tap.seen) (counted-none tap.count) refl refl

-- a tap that took an event has seen it, unless memory was refused
took_one : (event : TapEvent) (old new : TapState) (is_over : Bool) (faults : ℕ) → new.seen ≡ seen_after old.seen event → new.count ≡ count_after old.count → new.is_over ≡ is_over → new.faults ≡ faults
    → new ≡ record (with_seen (event ∷ []) old) { is_over = is_over; faults = faults }
took_one event old new is_over faults seen count over failed =
    same_state new.seen (appended old.seen (event ∷ [])) new.count (option_map (λ (n : ℕ). n + 1) old.count) new.is_over is_over new.faults faults (seen ∙ seen_one old.seen event) (count ∙ count_one old.count) over failed

ends_behind : (event : TapEvent) (old new : TapState) (answer : TapAnswer) → (answer ≡ Keep → ⊥) → AnswersTake event old.seen new.seen old.count new.count new.is_over old.faults new.faults answer
    → EndsBehind event answer old new
ends_behind event old new Keep other takes = other refl
ends_behind event old new Done other takes = took_one event old new true old.faults takes.0 takes.1 takes.2 takes.3
ends_behind event old new Failed other takes = (takes.3, took_one event old new true new.faults takes.0 takes.1 takes.2 refl)
ends_behind event old new NoMemory other takes = same_state new.seen old.seen new.count old.count new.is_over true new.faults old.faults takes.0 takes.1 takes.2 takes.3

saw_last : (event : TapEvent) (old new : TapState) (answer : TapAnswer) → (answer ≡ Keep → ⊥) → old.is_over ≡ false
    → AnswersTake event old.seen new.seen old.count new.count new.is_over old.faults new.faults answer → Saw (event ∷ []) old new
saw_last event old new answer other listens takes =
    ended [] event [] answer refl listens (subst (λ (tap : TapState). EndsBehind event answer tap new) (sym (with_none old)) (ends_behind event old new answer other takes))

-- A tap that is not over and takes an event has seen what it should.
pub take_saw : (event : TapEvent) (old new : TapState) (answer : TapAnswer) → old.is_over ≡ false
    → AnswersTake event old.seen new.seen old.count new.count new.is_over old.faults new.faults answer → Saw (event ∷ []) old new
take_saw event old new Keep listens takes = kept_all listens (took_one event old new old.is_over old.faults takes.0 takes.1 (takes.2 ∙ sym listens) takes.3)
take_saw event old new Done listens takes = saw_last event old new Done (λ same. cc) listens takes
take_saw event old new Failed listens takes = saw_last event old new Failed (λ same. cc) listens takes
take_saw event old new NoMemory listens takes = saw_last event old new NoMemory (λ same. cc) listens takes
