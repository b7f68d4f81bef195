-- The variables of goals on a stack.
use Rattle.std.proofs.Common.{◌≡◌, ℕ, suc, ◌+◌, List, [], ◌∷◌, ◌++◌, Option, length, reverse, take, drop, refl, ap, sym, subst, ◌∙◌}
use Rattle.std.specs.Option.{option_or, option_and}
use Rattle.std.proofs.lemmas.List.{reverse-append}
use Rattle.merc_scopes.specs.declared.first_places.FirstPlaces.{FirstPlaces}
use Rattle.merc_scopes.specs.declared.occurrence.Occurrence.{Occurrence}
use Rattle.merc_scopes.specs.Scopes.{at_of, shared}
use Rattle.merc_scopes.specs.FirstPlaces.{place_in, Holds}
use Rattle.merc_scopes.specs.Standing.{AllHold, IsJoined, together}
use Rattle.merc_scopes.proofs.Begins.{take-begins, drop-begins}
use Rattle.merc_scopes.proofs.PlaceLaws.{at_of-append}
use Rattle.merc_scopes.proofs.Sharing.{together-push, shared-push}

pub AllHold-length : (standing : List FirstPlaces) (lists : List (List Occurrence)) → AllHold standing lists → length standing ≡ length lists
AllHold-length [] [] hold = refl
AllHold-length [] (list ∷ lists) hold = absurd hold
AllHold-length (places ∷ rest) [] hold = absurd hold
AllHold-length (places ∷ rest) (list ∷ lists) hold = ap suc (AllHold-length rest lists hold.1)

-- the top of a stack

top_first : {X : Type 0} (under whole : List X) (top : X) → whole ≡ under ++ top ∷ [] → reverse whole ≡ top ∷ reverse under
top_first under whole top is = ap reverse is ∙ reverse-append under (top ∷ [])

-- the first list of those that a stack holds
pub record TopHolds (places : FirstPlaces) (standing : List FirstPlaces) (lists : List (List Occurrence)) : Type 0 where
  pub list : List Occurrence
  pub rest : List (List Occurrence)
  pub are : lists ≡ list ∷ rest
  pub top : Holds places list
  pub others : AllHold standing rest

pub top_holds : (places : FirstPlaces) (standing : List FirstPlaces) (lists : List (List Occurrence)) → AllHold (places ∷ standing) lists → TopHolds places standing lists
top_holds places standing [] hold = absurd hold
top_holds places standing (first ∷ others) hold = record { list = first; rest = others; are = refl; top = hold.0; others = hold.1 }

pub popped : (old new : List FirstPlaces) (top : FirstPlaces) (lists : List (List Occurrence)) → old ≡ new ++ top ∷ [] → AllHold (reverse old) lists → TopHolds top (reverse new) lists
popped old new top lists pop hold =
    let P : List FirstPlaces → Type 0 = λ l. AllHold l lists in
    top_holds top (reverse new) lists (subst P (top_first new old top pop) hold)

pub popped_first : (old new : List FirstPlaces) (top : FirstPlaces) (list : List Occurrence) (lists : List (List Occurrence)) → old ≡ new ++ top ∷ [] → AllHold (reverse old) (list ∷ lists)
    → Holds top list × AllHold (reverse new) lists
popped_first old new top list lists pop hold = let P : List FirstPlaces → Type 0 = λ l. AllHold l (list ∷ lists) in subst P (top_first new old top pop) hold

pub pushed : (old new : List FirstPlaces) (top : FirstPlaces) (list : List Occurrence) (lists : List (List Occurrence)) → new ≡ old ++ top ∷ [] → Holds top list → AllHold (reverse old) lists
    → AllHold (reverse new) (list ∷ lists)
pushed old new top list lists push holds others =
    let P : List FirstPlaces → Type 0 = λ l. AllHold l (list ∷ lists) in
    subst P (sym (top_first old new top push)) (holds, others)

-- so many first lists are joined
abbrev pub IsJoining : List FirstPlaces → (ℕ → Option ℕ) → (ℕ → Option ℕ) → ℕ → List (List Occurrence) → Type 0
IsJoining standing places twice count lists =
    AllHold (reverse standing) (drop count lists)
    × ((name : ℕ) → places name ≡ at_of name (together (take count lists)))
    × ((name : ℕ) → twice name ≡ at_of name (shared (take count lists)))

-- one list more is joined
pub join_step : (old new : List FirstPlaces) (top : FirstPlaces) (before after twice twice_after : ℕ → Option ℕ) (count : ℕ) (lists : List (List Occurrence)) → old ≡ new ++ top ∷ []
    → ((name : ℕ) → after name ≡ option_or (before name) (place_in top name)) → ((name : ℕ) → twice_after name ≡ option_or (twice name) (option_and (place_in top name) (before name)))
    → IsJoining old before twice count lists → IsJoining new after twice_after (count + 1) lists
join_step old new top before after twice twice_after count lists pop joined shares so_far =
    let P : List (List Occurrence) → Type 0 = λ l. AllHold (reverse new) l in
    let first = popped old new top (drop count lists) pop so_far.0 in
    let front = take count lists in (
      subst P (sym (drop-begins count lists first.list first.rest first.are)) first.others,
      (λ name.
          joined name
          ∙ ap (λ (o : Option ℕ). option_or o (place_in top name)) (so_far.1 name)
          ∙ ap (option_or (at_of name (together front))) (first.top name)
          ∙ sym (at_of-append name (together front) first.list)
          ∙ ap (at_of name) (sym (together-push front first.list))
          ∙ ap (λ l. at_of name (together l)) (sym (take-begins count lists first.list first.rest first.are))),
      (λ name.
          shares name
          ∙ ap (λ (o : Option ℕ). option_or o (option_and (place_in top name) (before name))) (so_far.2 name)
          ∙ ap (λ (o : Option ℕ). option_or (at_of name (shared front)) (option_and o (before name))) (first.top name)
          ∙ ap (λ (o : Option ℕ). option_or (at_of name (shared front)) (option_and (at_of name first.list) o)) (so_far.1 name)
          ∙ sym (shared-push name front first.list)
          ∙ ap (λ l. at_of name (shared l)) (sym (take-begins count lists first.list first.rest first.are))),
    )

-- all lists are joined
pub join_all : (old new : List FirstPlaces) (top : FirstPlaces) (twice : ℕ → Option ℕ) (shares : List Occurrence) (index count : ℕ) (lists : List (List Occurrence)) → index ≡ count
    → new ≡ old ++ top ∷ [] → ((name : ℕ) → at_of name shares ≡ twice name) → IsJoining old (place_in top) twice index lists → IsJoined count new lists shares
join_all old new top twice shares index count lists end push step joined =
    let P : ℕ → Type 0 = λ n. IsJoined n new lists shares in
    subst P end (pushed old new top (together (take index lists)) (drop index lists) push joined.1 joined.0, (λ name. step name ∙ joined.2 name))
