-- What taps have seen of events that were told one behind the other.
use Rattle.std.proofs.Common.{◌≡◌, ◌∙◌, ℕ, ◌+◌, ◌<◌, true, false, All, List, [], ◌∷◌, ◌++◌, length, get_or, Bool, Option, Some, None, arith, append_assoc, length-append, refl, ap, sym, subst}
use Rattle.std.specs.List.{AllZip}
use Rattle.std.specs.Option.{option_map}
use Rattle.std.proofs.lemmas.List.Elements.{AllZip-get_or}
use Rattle.std.proofs.lemmas.Slice.Zip.{AllZip-long}
use Rattle.merc_base.specs.Outside.{appended}
use Rattle.merc_base.specs.declared.outside.TapEvent.{TapEvent}
use Rattle.merc_base.specs.declared.outside.TapAnswer.{TapAnswer}
use Rattle.merc_base.specs.declared.outside.TapAnswer.TheVariants.{Keep, Done, Failed, NoMemory}
use Rattle.merc_answers.specs.Taps.{TapState, with_seen, EndsBehind, Saw, was_over, kept_all, ended, TapSaw, TapsSaw}
use Rattle.merc_answers.specs.TapsLaws.{SeesNothing, SeesBoth, FailsLast}
use Rattle.merc_answers.proofs.TapEvents.{same_state, with_none}

-- ---- what is told of one tap

appended-both : (seen : Option (List TapEvent)) (events more : List TapEvent) → appended (appended seen events) more ≡ appended seen (events ++ more)
appended-both None events more = refl
appended-both (Some old) events more = ap (λ (all : List TapEvent). Some all) (append_assoc old events more)

counted-both : (count : Option ℕ) (events more : List TapEvent)
    → option_map (λ (n : ℕ). n + length more) (option_map (λ (n : ℕ). n + length events) count) ≡ option_map (λ (n : ℕ). n + length (events ++ more)) count
counted-both None events more = refl
counted-both (Some n) events more = ap (λ (all : ℕ). Some all) (omega (arith, length-append events more))

with_both : (tap : TapState) (events more : List TapEvent) → with_seen more (with_seen events tap) ≡ with_seen (events ++ more) tap
with_both tap events more =
    same_state (appended (appended tap.seen events) more) (appended tap.seen (events ++ more))
    (option_map (λ (n : ℕ). n + length more) (option_map (λ (n : ℕ). n + length events) tap.count)) (option_map (λ (n : ℕ). n + length (events ++ more)) tap.count)
    tap.is_over tap.is_over tap.faults tap.faults (appended-both tap.seen events more) (counted-both tap.count events more) refl refl

-- behind its last event a tap is over
ends_over : (event : TapEvent) (answer : TapAnswer) (old new : TapState) → EndsBehind event answer old new → new.is_over ≡ true
ends_over event Keep old new ends = absurd ends
ends_over event Done old new ends = ap (λ (tap : TapState). tap.is_over) ends
ends_over event Failed old new ends = ap (λ (tap : TapState). tap.is_over) ends.1
ends_over event NoMemory old new ends = ap (λ (tap : TapState). tap.is_over) ends

-- a tap that is over stays as it was
over_stays : (events : List TapEvent) (old new : TapState) → old.is_over ≡ true → Saw events old new → new ≡ old
over_stays events old new over (was_over is_over same) = same
over_stays events old new over (kept_all listens same) = absurd (cc)
over_stays events old new over (ended kept last rest answer whole listens ends) = absurd (cc)

unseen : (tap : TapState) → (over : Bool) → tap.is_over ≡ over → Saw [] tap tap
unseen tap true is = was_over is refl
unseen tap false is = kept_all is (sym (with_none tap))

pub saw_none : SeesNothing
saw_none tap = unseen tap tap.is_over refl

pub saw_both : SeesBoth
saw_both events more old between new (was_over over same) second =
    was_over over (over_stays more between new (ap (λ (tap : TapState). tap.is_over) same ∙ over) second ∙ same)
saw_both events more old between new (kept_all listens same) (was_over over same') =
    let open_still : between.is_over ≡ false = ap (λ (tap : TapState). tap.is_over) same ∙ listens in absurd (cc)
saw_both events more old between new (kept_all listens same) (kept_all listens' same') =
    kept_all listens (same' ∙ ap (λ (tap : TapState). with_seen more tap) same ∙ with_both old events more)
saw_both events more old between new (kept_all listens same) (ended kept last rest answer whole listens' ends) =
    ended (events ++ kept) last rest answer (ap (λ (all : List TapEvent). events ++ all) whole ∙ sym (append_assoc events kept (last ∷ rest))) listens
    (subst (λ (tap : TapState). EndsBehind last answer tap new) (ap (λ (tap : TapState). with_seen kept tap) same ∙ with_both old events kept) ends)
saw_both events more old between new (ended kept last rest answer whole listens ends) second =
    ended kept last (rest ++ more) answer (ap (λ (all : List TapEvent). all ++ more) whole ∙ append_assoc kept (last ∷ rest) more) listens
    (subst (λ (tap : TapState). EndsBehind last answer (with_seen kept old) tap)
    (sym (over_stays more between new (ends_over last answer (with_seen kept old) between ends) second)) ends)

pub fails_last : FailsLast
fails_last events old new (was_over over same) still = let over_still : new.is_over ≡ true = ap (λ (tap : TapState). tap.is_over) same ∙ over in absurd (cc)
fails_last events old new (kept_all listens same) still = (listens, ap (λ (tap : TapState). tap.faults) same)
fails_last events old new (ended kept last rest answer whole listens ends) still = let over = ends_over last answer (with_seen kept old) new ends in absurd (cc)

-- ---- lists of taps

module _ {T K : Type 0} (kind : T → K) (state : T → TapState) where
  tap_both : (events more : List TapEvent) (old between new : T) → TapSaw kind state events old between → TapSaw kind state more between new → TapSaw kind state (events ++ more) old new
  tap_both events more old between new first second = record {
    same_kind = second.same_kind ∙ first.same_kind;
    saw = saw_both events more (state old) (state between) (state new) first.saw second.saw;
    left_alone =
        λ over.
        let same = first.left_alone over in second.left_alone (ap (λ (tap : T). (state tap).is_over) same ∙ over) ∙ same;
  }

-- before the first event taps are as they were
pub taps_none : {T K : Type 0} (kind : T → K) (state : T → TapState) (taps : List T) → TapsSaw kind state [] taps taps
taps_none kind state [] = tt
taps_none kind state (tap ∷ taps) = (record { same_kind = refl; saw = saw_none (state tap); left_alone = λ over. refl }, taps_none kind state taps)

-- behind some events and then others they have seen what they should of all of these
pub taps_both : {T K : Type 0} (kind : T → K) (state : T → TapState) (events more : List TapEvent) (olds between news : List T) → TapsSaw kind state events olds between → TapsSaw kind state more between news
    → TapsSaw kind state (events ++ more) olds news
taps_both kind state events more [] [] [] first second = tt
taps_both kind state events more [] [] (new ∷ news) first second = absurd second
taps_both kind state events more [] (middle ∷ between) news first second = absurd first
taps_both kind state events more (old ∷ olds) [] news first second = absurd first
taps_both kind state events more (old ∷ olds) (middle ∷ between) [] first second = absurd second
taps_both kind state events more (old ∷ olds) (middle ∷ between) (new ∷ news) first second =
    (tap_both kind state events more old middle new first.0 second.0, taps_both kind state events more olds between news first.1 second.1)

-- and those that are not over can still fail
pub room_stays : {T K : Type 0} (kind : T → K) (state : T → TapState) (events : List TapEvent) (olds news : List T) (limit : ℕ) → TapsSaw kind state events olds news
    → All (λ (tap : T). (state tap).is_over ≡ false → (state tap).faults < limit) olds → All (λ (tap : T). (state tap).is_over ≡ false → (state tap).faults < limit) news
room_stays kind state events olds news limit saw few =
    λ place other below still.
    let within : place < length olds = omega (arith, below, AllZip-long (λ old new. TapSaw kind state events old new) olds news saw) in
    let told = AllZip-get_or (λ old new. TapSaw kind state events old new) olds news place other other saw within in
    let kept = fails_last events (state (get_or olds place other)) (state (get_or news place other)) told.saw still in
    let room = few place other within kept.0 in
    omega (arith, room, kept.1)

-- the same events in other words
pub taps_same : {T K : Type 0} (kind : T → K) (state : T → TapState) (events others : List TapEvent) (olds news : List T) → events ≡ others → TapsSaw kind state events olds news
    → TapsSaw kind state others olds news
taps_same kind state events others olds news same saw = subst (λ (all : List TapEvent). TapsSaw kind state all olds news) same saw
