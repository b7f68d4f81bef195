-- Which goals are to be asked, and where they begin.
use Rattle.std.specs.Prelude.{◌≡◌, ◌<◌, ◌+◌, ◌-◌, ◌||◌, ◌==◌, ◌⊎◌, nat_le, ℕ, zero, suc, Bool, true, false, List, [], ◌∷◌, length, refl}
use Rattle.std.specs.Ordering.{nat_cmp}
use Rattle.std.specs.BTreeMap.{is_at}
use Rattle.std.specs.BTreeSet.{contains}
use Rattle.std.specs.Cmp.{unsigned_ties}
use Rattle.std.specs.declared.alloc.Global.{Global}
use Rattle.std.specs.declared.vec.Vec.{Vec}
use Rattle.std.proofs.Common.{arith, ap, sym, subst, ◌∙◌, inl, inr}
use Rattle.std.proofs.lemmas.Bool.{eqb-true}
use Rattle.std.proofs.lemmas.Bool.Decides.{nat_tests}
use Rattle.merc_goal_tree.specs.Nodes.{Node}
use Rattle.merc_order.specs.Bound.{among}
use Rattle.merc_goal_order.specs.Agenda.{start_at, StandAt, ArePlaced, Ascends, Holds, inside, awaits, awaited_count, IsSound, IsTaken, AwaitsPlaces, AwaitsAgain}
use Rattle.merc_goal_order.specs.Positions.{IsAt}
use Rattle.merc_goal_order.specs.GoalsExamples.{no_modes, body, in_body, truth, unready, true_facts, true_known, no_stretch}
use Rattle.merc_goal_order.specs.declared.agenda.Agenda.{Agenda}
use Rattle.merc_goal_order.specs.declared.agenda.Start.{Start}

-- `true, X = Y, true`, whose variables occur from the place 5 on

abbrev goals : List Node
goals = truth ∷ unready ∷ truth ∷ []

abbrev at_place : ℕ → ℕ → Start
at_place at place = record { at = at; place = place }

abbrev starts : List Start
starts = at_place 0 5 ∷ at_place 1 5 ∷ at_place 2 7 ∷ at_place 3 7 ∷ []

third : start_at starts 2 ≡ at_place 2 7
third = refl

stand : StandAt (truth ∷ []) (at_place 0 5 ∷ at_place 1 5 ∷ [])
stand = (refl, by)
  where
    by : (index : ℕ) → index < 2 → IsAt (truth ∷ []) index (start_at (at_place 0 5 ∷ at_place 1 5 ∷ []) index).at
    by zero h = (omega arith, refl)
    by (suc zero) h = (omega arith, refl)
    by (suc (suc index)) h = absurd (omega (arith, h))

stand_not : StandAt (truth ∷ []) (at_place 0 5 ∷ []) → ⊥
stand_not wrong = let long = wrong.0 in cc

placed : ArePlaced 0 (truth ∷ []) (true_facts ∷ []) body (at_place 0 0 ∷ [])
placed total modes known stretch zero h = refl
placed total modes known stretch (suc index) h = absurd (omega (arith, h))

placed_not : ArePlaced 0 (truth ∷ []) (true_facts ∷ []) body (at_place 0 1 ∷ []) → ⊥
placed_not wrong = let place = wrong in_body no_modes (true_known, tt) no_stretch 0 (omega arith) in cc

ascend : Ascends (at_place 0 5 ∷ [])
ascend zero zero h less = omega arith
ascend (suc index) zero h less = absurd (omega (arith, h))
ascend index (suc other) h less = absurd (omega (arith, less))

ascend_not : Ascends (at_place 0 7 ∷ at_place 1 5 ∷ []) → ⊥
ascend_not wrong = omega (arith, wrong 0 1 (omega arith) (omega arith))

-- the second goal has two occurrences, the first has none

holds : Holds starts 1 6
holds = (omega arith, omega arith)

holds_not : Holds starts 0 5 → ⊥
holds_not (from, to) = omega (arith, to)

inside_second : inside (9 ∷ 9 ∷ 9 ∷ 9 ∷ 9 ∷ 1 ∷ 2 ∷ []) starts 1 ≡ 1 ∷ 2 ∷ []
inside_second = refl

inside_first : inside (9 ∷ 9 ∷ 9 ∷ 9 ∷ 9 ∷ 1 ∷ 2 ∷ []) starts 0 ≡ []
inside_first = refl

-- The second goal is taken where it alone of the first two is awaited.

later_is : (index : ℕ) → nat_le 2 (suc (suc index)) ≡ true
later_is index = grind (arith, nat_tests)

abbrev with_second : ℕ → Bool
with_second index = nat_le 2 index || (index == 1)

taken : IsTaken 1 with_second (λ index. nat_le 2 index)
taken = record { first = first; others = others }
  where
    first : (other : ℕ) → other < 1 → with_second other ≡ false
    first zero h = refl
    first (suc other) h = absurd (omega (arith, h))

    others : (other : ℕ) → nat_le 2 other ≡ false → (other ≡ 1) ⊎ (with_second other ≡ false)
    others zero not = inr refl
    others (suc zero) not = inl refl
    others (suc (suc other)) not = absurd (let no : true ≡ false = sym (later_is other) ∙ not in cc)

-- it is not the first that is awaited
later_taken : IsTaken 2 with_second (λ index. nat_le 3 index || (index == 1)) → ⊥
later_taken wrong = let first : true ≡ false = wrong.first 1 (omega arith) in cc

-- two are taken at once
two_taken : IsTaken 1 with_second (λ index. nat_le 3 index) → ⊥
two_taken wrong = by (wrong.others 2 refl)
  where
    by : (◌≡◌ {A = ℕ} 2 1) ⊎ (true ≡ false) → ⊥
    by (inl same) = omega (arith, same)
    by (inr not) = cc

-- Two goals were asked: the first is to be asked again, or the second, or the third as if it had been asked, or none.

ascends : Ascends starts
ascends zero zero h less = omega arith
ascends zero (suc zero) h less = omega arith
ascends zero (suc (suc zero)) h less = omega arith
ascends zero (suc (suc (suc zero))) h less = omega arith
ascends (suc zero) (suc zero) h less = omega arith
ascends (suc zero) (suc (suc zero)) h less = omega arith
ascends (suc zero) (suc (suc (suc zero))) h less = omega arith
ascends (suc (suc zero)) (suc (suc zero)) h less = omega arith
ascends (suc (suc zero)) (suc (suc (suc zero))) h less = omega arith
ascends (suc (suc (suc zero))) (suc (suc (suc zero))) h less = omega arith
ascends (suc index) zero h less = absurd (omega (arith, h))
ascends (suc (suc index)) (suc zero) h less = absurd (omega (arith, h))
ascends (suc (suc (suc index))) (suc (suc zero)) h less = absurd (omega (arith, h))
ascends (suc (suc (suc (suc index)))) (suc (suc (suc zero))) h less = absurd (omega (arith, h))
ascends index (suc (suc (suc (suc other)))) h less = absurd (omega (arith, less))

not_one : (◌≡◌ {A = ℕ} 1 0) ⊎ (false ≡ true) → ⊥
not_one (inl is) = omega (arith, is)
not_one (inr is) = cc

or_none : (same : Bool) → (same || false) ≡ true → same ≡ true
or_none true is = refl
or_none false is = is

abbrev occurring : List ℕ
occurring = 9 ∷ 9 ∷ 9 ∷ 9 ∷ 9 ∷ 1 ∷ 2 ∷ []

module _ (list : Vec Start Global) (list_is : list.items ≡ starts) where
  abbrev asked_two : List ℕ → Agenda
  asked_two again = record { starts = list; asked = 2; again = record { keys = again } }

  first_again : awaits (asked_two (0 ∷ [])) 0 ≡ true
  first_again = refl

  second_asked : awaits (asked_two (0 ∷ [])) 1 ≡ false
  second_asked = refl

  third_never : awaits (asked_two (0 ∷ [])) 2 ≡ true
  third_never = refl

  later_awaited : (again : List ℕ) (index : ℕ) → awaits (asked_two again) (suc (suc index)) ≡ true
  later_awaited again index = ap (λ b. b || contains nat_cmp (asked_two again).again (suc (suc index))) (later_is index)

  two_awaited : awaited_count (asked_two (0 ∷ [])) ≡ 2
  two_awaited = ap (λ l. (length l - 3) + 1) list_is

  long : length list.items ≡ 4
  long = ap length list_is

  sound : IsSound (asked_two (1 ∷ []))
  sound = record { room = omega (arith, long); below = below }
    where
      below : (index : ℕ) → contains nat_cmp (asked_two (1 ∷ [])).again index ≡ true → index < 2
      below zero h = omega arith
      below (suc zero) h = omega arith
      below (suc (suc index)) h =
          let same : suc (suc index) ≡ 1 = eqb-true (suc (suc index)) 1 (unsigned_ties (suc (suc index)) 1 ∙ or_none (is_at (nat_cmp (suc (suc index))) 1) h) in
          absurd (omega (arith, same))

  -- the third was not asked, so it is not asked again
  not_sound : IsSound (asked_two (2 ∷ [])) → ⊥
  not_sound wrong = omega (arith, wrong.below 2 refl)

  no_room : IsSound (record { starts = list; asked = 4; again = record { keys = [] } }) → ⊥
  no_room wrong = omega (arith, wrong.room, long)

  -- To the second goal belongs the place 6, where the variable 2 occurs. What the first binds has the second asked again; what itself binds has not.

  same_starts : (index : ℕ) → start_at list.items index ≡ start_at starts index
  same_starts index = ap (λ l. start_at l index) list_is

  places_again : AwaitsPlaces 0 (6 ∷ []) (asked_two []) (asked_two (1 ∷ []))
  places_again = record { more = more; each = λ up. each }
    where
      more : (index : ℕ) → awaits (asked_two []) index ≡ true → awaits (asked_two (1 ∷ [])) index ≡ true
      more zero h = cc
      more (suc zero) h = refl
      more (suc (suc index)) h = later_awaited (1 ∷ []) index

      each : (index place : ℕ) → among (6 ∷ []) place ≡ true → Holds list.items index place → (index ≡ 0) ⊎ (awaits (asked_two (1 ∷ [])) index ≡ true)
      each zero place there lies = inl refl
      each (suc zero) place there lies = inr refl
      each (suc (suc index)) place there lies = inr (later_awaited (1 ∷ []) index)

  places_forgotten : AwaitsPlaces 0 (6 ∷ []) (asked_two []) (asked_two []) → ⊥
  places_forgotten wrong =
      not_one (wrong.each (subst Ascends (sym list_is) ascends) 1 6 refl (subst (λ l. Holds l 1 6) (sym list_is) holds))

  places_own : AwaitsPlaces 1 (6 ∷ []) (asked_two []) (asked_two [])
  places_own = record { more = λ index h. h; each = λ up. each }
    where
      each : (index place : ℕ) → among (6 ∷ []) place ≡ true → Holds list.items index place → (index ≡ 1) ⊎ (awaits (asked_two []) index ≡ true)
      each zero place there (from, to) =
          let six : place ≡ 6 = eqb-true place 6 (or_none (place == 6) there) in
          let end = ap (λ (s : Start). s.place) (same_starts 1) in
          absurd (omega (arith, six, end, to))
      each (suc zero) place there lies = inl refl
      each (suc (suc index)) place there lies = inr (later_awaited [] index)

  -- the first is not awaited any more
  places_lost : AwaitsPlaces 0 [] (asked_two (0 ∷ [])) (asked_two []) → ⊥
  places_lost wrong = let lost : false ≡ true = wrong.more 0 refl in cc

  all_again : AwaitsAgain occurring 0 (2 ∷ []) (asked_two []) (asked_two (1 ∷ []))
  all_again = record { more = places_again.more; each = λ up. each }
    where
      each : (index variable : ℕ) → among (2 ∷ []) variable ≡ true → among (inside occurring list.items index) variable ≡ true → (index ≡ 0) ⊎ (awaits (asked_two (1 ∷ [])) index ≡ true)
      each zero variable there inner = inl refl
      each (suc zero) variable there inner = inr refl
      each (suc (suc index)) variable there inner = inr (later_awaited (1 ∷ []) index)

  all_forgotten : AwaitsAgain occurring 0 (2 ∷ []) (asked_two []) (asked_two []) → ⊥
  all_forgotten wrong =
      not_one (wrong.each (subst Ascends (sym list_is) ascends) 1 2 refl (ap (λ l. among (inside occurring l 1) 2) list_is))

  -- in the first goal no variable occurs
  all_own : AwaitsAgain occurring 1 (2 ∷ []) (asked_two []) (asked_two [])
  all_own = record { more = λ index h. h; each = λ up. each }
    where
      each : (index variable : ℕ) → among (2 ∷ []) variable ≡ true → among (inside occurring list.items index) variable ≡ true → (index ≡ 1) ⊎ (awaits (asked_two []) index ≡ true)
      each zero variable there inner = let none : false ≡ true = sym (ap (λ l. among (inside occurring l 0) variable) list_is) ∙ inner in cc
      each (suc zero) variable there inner = inl refl
      each (suc (suc index)) variable there inner = inr (later_awaited [] index)

  all_lost : AwaitsAgain occurring 0 [] (asked_two (0 ∷ [])) (asked_two []) → ⊥
  all_lost wrong = let lost : false ≡ true = wrong.more 0 refl in cc
