-- The table of reaches and the list of occurrences tell the same.
use Rattle.std.specs.Prelude.{◌≡◌, ◌<◌, ◌≤◌, ◌==◌, ◌||◌, ◌-◌, ◌+◌, nat_lt, ℕ, zero, suc, Bool, true, false, List, [], ◌∷◌, ◌++◌, length, take, drop, slice_get, Option, Some, None, refl}
use Rattle.std.specs.List.{slice_index_or}
use Rattle.std.proofs.Common.{◌∙◌, ◌≢◌, ◌⊎◌, ap, sym, subst, arith, set, inl, inr}
use Rattle.std.proofs.lemmas.Bool.{cases_eq, cases_lt, eqb-true}
use Rattle.std.proofs.lemmas.Bool.Decides.{nat_tests}
use Rattle.std.proofs.lemmas.List.{get_or-set_same, get_or-set_other, get_or_at, get_or_append_left, take_at, take-append-le, length-append}
use Rattle.merc_order.specs.Bound.{among}
use Rattle.merc_goal_facts.specs.declared.occurrences.Reach.{Reach}
use Rattle.merc_goal_facts.specs.Reaches.{starts_before, ends_behind, reaching, end_of, TellsReaches, TellsEarlier}
use Rattle.merc_goal_facts.proofs.Bounds.{or_assoc, among-append}

same_is : (variable : ℕ) → (variable == variable) ≡ true
same_is variable = grind (arith, nat_tests)

other_is : (one other : ℕ) → one ≢ other → (one == other) ≡ false
other_is one other apart = grind (arith, nat_tests)

or_true : (a : Bool) → (a || true) ≡ true
or_true true = refl
or_true false = refl

-- a table that is longer by one
pub longer_reaches : (table : List (Option Reach)) (variable : ℕ) → slice_index_or (table ++ None ∷ []) variable None ≡ slice_index_or table variable None
longer_reaches [] zero = refl
longer_reaches [] (suc variable) = refl
longer_reaches (reach ∷ reaches) zero = refl
longer_reaches (reach ∷ reaches) (suc variable) = longer_reaches reaches variable

-- the front and the back of a list with one more at its end

front_other : (all : List ℕ) (variable other place : ℕ) → (other == variable) ≡ false → among (take place (all ++ variable ∷ [])) other ≡ among (take place all) other
front_other [] variable other zero apart = refl
front_other [] variable other (suc zero) apart = ap (λ b. b || false) apart
front_other [] variable other (suc (suc place)) apart = ap (λ b. b || false) apart
front_other (first ∷ rest) variable other zero apart = refl
front_other (first ∷ rest) variable other (suc place) apart = ap (λ b. (other == first) || b) (front_other rest variable other place apart)

back_other : (all : List ℕ) (variable other place : ℕ) → (other == variable) ≡ false → among (drop place (all ++ variable ∷ [])) other ≡ among (drop place all) other
back_other [] variable other zero apart = ap (λ b. b || false) apart
back_other [] variable other (suc zero) apart = refl
back_other [] variable other (suc (suc place)) apart = refl
back_other (first ∷ rest) variable other zero apart = ap (λ b. (other == first) || b) (back_other rest variable other zero apart)
back_other (first ∷ rest) variable other (suc place) apart = back_other rest variable other place apart

lt_suc : (one other : ℕ) → nat_lt one other ≡ nat_lt (suc one) (suc other)
lt_suc one other = grind (arith, nat_tests)

lt_more : (other : ℕ) → nat_lt zero (suc other) ≡ true
lt_more other = grind (arith, nat_tests)

lt_none : (one : ℕ) → nat_lt one zero ≡ false
lt_none one = grind (arith, nat_tests)

lt_one : (one : ℕ) → nat_lt (suc one) 1 ≡ false
lt_one one = grind (arith, nat_tests)

front_same : (all : List ℕ) (variable place : ℕ) → among (take place (all ++ variable ∷ [])) variable ≡ (among (take place all) variable || nat_lt (length all) place)
front_same [] variable zero = sym (lt_none 0)
front_same [] variable (suc zero) = ap (λ b. b || false) (same_is variable) ∙ sym (lt_more 0)
front_same [] variable (suc (suc place)) = ap (λ b. b || false) (same_is variable) ∙ sym (lt_more (suc place))
front_same (first ∷ rest) variable zero = sym (lt_none (suc (length rest)))
front_same (first ∷ rest) variable (suc place) =
    ap (λ b. (variable == first) || b) (front_same rest variable place ∙ ap (λ b. among (take place rest) variable || b) (lt_suc (length rest) place))
    ∙ sym (or_assoc (variable == first) (among (take place rest) variable) (nat_lt (suc (length rest)) (suc place)))

among_last : (all : List ℕ) (variable : ℕ) → among (all ++ variable ∷ []) variable ≡ true
among_last all variable = among-append all (variable ∷ []) variable ∙ ap (λ b. among all variable || (b || false)) (same_is variable) ∙ or_true (among all variable)

back_same : (all : List ℕ) (variable place : ℕ) → among (drop place (all ++ variable ∷ [])) variable ≡ nat_lt place (suc (length all))
back_same [] variable zero = ap (λ b. b || false) (same_is variable) ∙ sym (lt_more 0)
back_same [] variable (suc zero) = sym (lt_one 0)
back_same [] variable (suc (suc place)) = sym (lt_one (suc place))
back_same (first ∷ rest) variable zero = among_last (first ∷ rest) variable ∙ sym (lt_more (suc (length rest)))
back_same (first ∷ rest) variable (suc place) = back_same rest variable place ∙ lt_suc place (suc (length rest))

-- where a variable occurs that occurs already, it occurs before all further places
past_all : (all : List ℕ) (place : ℕ) → nat_lt (length all) place ≡ true → take place all ≡ all
past_all [] zero past = refl
past_all [] (suc place) past = refl
past_all (first ∷ rest) zero past = let h = sym (lt_none (suc (length rest))) ∙ past in cc
past_all (first ∷ rest) (suc place) past = ap (λ l. first ∷ l) (past_all rest place (lt_suc (length rest) place ∙ past))

by_cases : (known past : Bool) → (past ≡ true → known ≡ true) → known ≡ (known || past)
by_cases true past h = refl
by_cases false true h = h refl
by_cases false false h = refl

further : (all : List ℕ) (variable : ℕ) (reach : Reach) → ((place : ℕ) → nat_lt reach.first place ≡ among (take place all) variable)
    → (place : ℕ) → nat_lt (length all) place ≡ true → nat_lt reach.first place ≡ true
further all variable reach told place past =
    let far = suc (reach.first + length all) in
    let beyond : nat_lt (length all) far ≡ true = grind (arith, nat_tests) in
    let known : nat_lt reach.first far ≡ true = grind (arith, nat_tests) in
    told place ∙ ap (λ l. among l variable) (past_all all place past ∙ sym (past_all all far beyond)) ∙ sym (told far) ∙ known

starts_more : (reach : Option Reach) (all : List ℕ) (variable : ℕ) → ((place : ℕ) → starts_before reach place ≡ among (take place all) variable)
    → (place : ℕ) → starts_before (Some (reaching reach (suc (length all)))) place ≡ among (take place (all ++ variable ∷ [])) variable
starts_more None all variable told place =
    let one_less : suc (length all) - 1 ≡ length all = omega arith in
    ap (λ n. nat_lt n place) one_less ∙ ap (λ b. b || nat_lt (length all) place) (told place) ∙ sym (front_same all variable place)
starts_more (Some reach) all variable told place =
    by_cases (nat_lt reach.first place) (nat_lt (length all) place) (further all variable reach told place)
    ∙ ap (λ b. b || nat_lt (length all) place) (told place) ∙ sym (front_same all variable place)

ends_more : (reach : Option Reach) (all : List ℕ) (variable place : ℕ)
    → ends_behind (Some (reaching reach (suc (length all)))) place ≡ among (drop place (all ++ variable ∷ [])) variable
ends_more None all variable place = sym (back_same all variable place)
ends_more (Some reach) all variable place = sym (back_same all variable place)

-- one occurrence more
pub tells-occurrence : (table : List (Option Reach)) (all : List ℕ) (variable : ℕ) → variable < length table → TellsReaches table all
    → TellsReaches (set table variable (Some (reaching (slice_index_or table variable None) (suc (length all))))) (all ++ variable ∷ [])
tells-occurrence table all variable room tells =
    let new = Some (reaching (slice_index_or table variable None) (suc (length all))) in
    record {
      before = λ other place. elim (cases_eq other variable) as (λ _. starts_before (slice_index_or (set table variable new) other None) place ≡ among (take place (all ++ variable ∷ [])) other) [
        | inl same ↦ subst (λ v. starts_before (slice_index_or (set table variable new) v None) place ≡ among (take place (all ++ variable ∷ [])) v) (sym same)
            (ap (λ r. starts_before r place) (get_or-set_same table variable new None room)
            ∙ starts_more (slice_index_or table variable None) all variable (tells.before variable) place)
        | inr apart ↦ ap (λ r. starts_before r place) (get_or-set_other table variable other new None apart)
            ∙ tells.before other place ∙ sym (front_other all variable other place (other_is other variable apart))
      ];
      behind = λ other place. elim (cases_eq other variable) as (λ _. ends_behind (slice_index_or (set table variable new) other None) place ≡ among (drop place (all ++ variable ∷ [])) other) [
        | inl same ↦ subst (λ v. ends_behind (slice_index_or (set table variable new) v None) place ≡ among (drop place (all ++ variable ∷ [])) v) (sym same)
            (ap (λ r. ends_behind r place) (get_or-set_same table variable new None room)
            ∙ ends_more (slice_index_or table variable None) all variable place)
        | inr apart ↦ ap (λ r. ends_behind r place) (get_or-set_other table variable other new None apart)
            ∙ tells.behind other place ∙ sym (back_other all variable other place (other_is other variable apart))
      ];
    }

pub occurrence_more : (before after : List (Option Reach)) (old new : List ℕ) (variable number end : ℕ) (reach : Option Reach) → number ≡ variable → new ≡ old ++ variable ∷ []
    → ((other : ℕ) → slice_index_or after other None ≡ slice_index_or before other None) → number < length after → reach ≡ slice_index_or after number None → end ≡ suc (length old)
    → TellsReaches before old → TellsReaches (set after number (Some (reaching reach end))) new
occurrence_more before after old new variable number end reach n e same room r last tells =
    let kept : TellsReaches after old = record {
      before = λ other place. ap (λ s. starts_before s place) (same other) ∙ tells.before other place;
      behind = λ other place. ap (λ s. ends_behind s place) (same other) ∙ tells.behind other place;
    } in
    subst (λ l. TellsReaches (set after number (Some (reaching reach end))) l) (ap (λ v. old ++ v ∷ []) n ∙ sym e)
    (subst (λ k. TellsReaches (set after number (Some (reaching reach k))) (old ++ number ∷ [])) (sym last)
    (subst (λ s. TellsReaches (set after number (Some (reaching s (suc (length old))))) (old ++ number ∷ [])) (sym r)
    (tells-occurrence after old number room kept)))

-- what occurs where, told by the table
pub outside_is : (table : List (Option Reach)) (all : List ℕ) (variable start end : ℕ) (reach : Option Reach) → reach ≡ slice_index_or table variable None → TellsReaches table all
    → (starts_before reach start || ends_behind reach end) ≡ (among (take start all) variable || among (drop end all) variable)
outside_is table all variable start end reach r tells =
    ap (λ s. starts_before s start || ends_behind s end) r ∙ ap (λ b. b || ends_behind (slice_index_or table variable None) end) (tells.before variable start)
    ∙ ap (λ b. among (take start all) variable || b) (tells.behind variable end)

-- The occurrence before one.

get_short : (all back : List ℕ) (place : ℕ) → place < length all → slice_get (all ++ back) place ≡ slice_get all place
get_short [] back place short = absurd (omega arith)
get_short (first ∷ rest) back zero short = refl
get_short (first ∷ rest) back (suc place) short = get_short rest back place (omega (arith, short))

get_last : (all : List ℕ) (variable : ℕ) → slice_get (all ++ variable ∷ []) (length all) ≡ Some variable
get_last [] variable = refl
get_last (first ∷ rest) variable = get_last rest variable

get_past : (all : List ℕ) (place : ℕ) → length all ≤ place → slice_get all place ≡ None
get_past [] zero past = refl
get_past [] (suc place) past = refl
get_past (first ∷ rest) zero past = absurd (omega arith)
get_past (first ∷ rest) (suc place) past = get_past rest place (omega (arith, past))

end_behind : (reach : Option Reach) (place : ℕ) → nat_lt place (end_of reach) ≡ ends_behind reach place
end_behind None place = let h : nat_lt place 0 ≡ false = grind (arith, nat_tests) in h
end_behind (Some reach) place = refl

same_value : (one other : ℕ) → Some one ≡ Some other → one ≡ other
same_value one other same = cc

earlier_last : (table : List ℕ) (all : List ℕ) (variable end start other : ℕ) → length table ≡ length all → ((place : ℕ) → nat_lt place end ≡ among (drop place all) variable)
    → slice_get (all ++ variable ∷ []) (length all) ≡ Some other → nat_lt start (slice_index_or (table ++ end ∷ []) (length all) 0) ≡ among (drop start (take (length all) (all ++ variable ∷ []))) other
earlier_last table all variable end start other long told there =
    ap (λ n. nat_lt start n) (get_or_at table end [] 0 (length all) long) ∙ told start
    ∙ ap (λ l. among (drop start l) variable) (sym (take_at all (variable ∷ []) (length all) refl))
    ∙ ap (λ v. among (drop start (take (length all) (all ++ variable ∷ []))) v) (same_value variable other (sym (get_last all variable) ∙ there))

earlier_short : (table : List ℕ) (all : List ℕ) (variable end start place other : ℕ) → TellsEarlier table all → place < length all
    → slice_get (all ++ variable ∷ []) place ≡ Some other → nat_lt start (slice_index_or (table ++ end ∷ []) place 0) ≡ among (drop start (take place (all ++ variable ∷ []))) other
earlier_short table all variable end start place other tells short there =
    ap (λ n. nat_lt start n) (get_or_append_left table (end ∷ []) 0 place (let l = tells.long in omega arith))
    ∙ tells.earlier start place other (sym (get_short all (variable ∷ []) place short) ∙ there)
    ∙ ap (λ l. among (drop start l) other) (sym (take-append-le place all (variable ∷ []) (omega arith)))

pub earlier_more : (table : List ℕ) (old new : List ℕ) (variable : ℕ) (reach : Option Reach) → TellsEarlier table old → new ≡ old ++ variable ∷ []
    → ((place : ℕ) → ends_behind reach place ≡ among (drop place old) variable) → TellsEarlier (table ++ end_of reach ∷ []) new
earlier_more table old new variable reach tells same told =
    subst (λ l. TellsEarlier (table ++ end_of reach ∷ []) l) (sym same) (record {
      long = length-append table (end_of reach ∷ []) ∙ ap (λ n. n + 1) tells.long ∙ sym (length-append old (variable ∷ []));
      earlier = λ start place other there. elim (cases_lt place (length old)) as (λ _. nat_lt start (slice_index_or (table ++ end_of reach ∷ []) place 0) ≡ among (drop start (take place (old ++ variable ∷ []))) other) [
        | inl short ↦ earlier_short table old variable (end_of reach) start place other tells short there
        | inr past ↦ by_place start place other there past (cases_lt (length old) place)
      ];
    })
  where
    by_place : (start place other : ℕ) → slice_get (old ++ variable ∷ []) place ≡ Some other → length old ≤ place → (length old < place) ⊎ (place ≤ length old)
        → nat_lt start (slice_index_or (table ++ end_of reach ∷ []) place 0) ≡ among (drop start (take place (old ++ variable ∷ []))) other
    by_place start place other there past (inl far) =
        let none : slice_get (old ++ variable ∷ []) place ≡ None = get_past (old ++ variable ∷ []) place (let n = length-append old (variable ∷ []) in omega arith) in
        let wrong = sym none ∙ there in cc
    by_place start place other there past (inr near) =
        let here : length old ≡ place = omega arith in
        subst (λ p. nat_lt start (slice_index_or (table ++ end_of reach ∷ []) p 0) ≡ among (drop start (take p (old ++ variable ∷ []))) other) here
        (earlier_last table old variable (end_of reach) start other tells.long (λ p. end_behind reach p ∙ told p)
        (subst (λ p. slice_get (old ++ variable ∷ []) p ≡ Some other) (sym here) there))

pub earlier_pushed : (reaches : List (Option Reach)) (before after : List ℕ) (old new : List ℕ) (variable : ℕ) (reach : Option Reach) (end : ℕ) → TellsReaches reaches old × TellsEarlier before old
    → new ≡ old ++ variable ∷ [] → after ≡ before ++ end ∷ [] → end ≡ end_of reach → reach ≡ slice_index_or reaches variable None → TellsEarlier after new
earlier_pushed reaches before after old new variable reach end (tells, kept) n a e r =
    subst (λ t. TellsEarlier t new) (sym (a ∙ ap (λ i. before ++ i ∷ []) e))
    (earlier_more before old new variable reach kept n (λ place. ap (λ o. ends_behind o place) r ∙ tells.behind variable place))

-- From one occurrence to the one before it.

not_under : (start end : ℕ) → nat_lt start end ≡ false → end ≤ start
not_under start end h = grind (arith, nat_tests)

among_none : (all : List ℕ) (place variable : ℕ) → among (drop place (take place all)) variable ≡ false
among_none [] zero variable = refl
among_none [] (suc place) variable = refl
among_none (first ∷ rest) zero variable = refl
among_none (first ∷ rest) (suc place) variable = among_none rest place variable

-- it lies before
earlier_less : (table : List ℕ) (all : List ℕ) (place variable : ℕ) → TellsEarlier table all → slice_get all place ≡ Some variable → slice_index_or table place 0 ≤ place
earlier_less table all place variable tells there = not_under place (slice_index_or table place 0) (tells.earlier place place variable there ∙ among_none all place variable)

-- where a variable is among those up to a place and not among those behind, it is at the place
at_seam : (all : List ℕ) (at place variable : ℕ) → among (drop at (take place all)) variable ≡ true → among (drop (suc at) (take place all)) variable ≡ false → slice_get all at ≡ Some variable
at_seam [] zero zero variable there not = cc
at_seam [] zero (suc place) variable there not = cc
at_seam [] (suc at) zero variable there not = cc
at_seam [] (suc at) (suc place) variable there not = cc
at_seam (first ∷ rest) zero zero variable there not = cc
at_seam (first ∷ rest) zero (suc place) variable there not = first_is (variable == first) (among (take place rest) variable) refl there not
  where
    first_is : (same later : Bool) → (variable == first) ≡ same → (same || later) ≡ true → later ≡ false → Some first ≡ Some variable
    first_is true later is t n = ap Some (sym (eqb-true variable first is))
    first_is false later is t n = cc
at_seam (first ∷ rest) (suc at) zero variable there not = cc
at_seam (first ∷ rest) (suc at) (suc place) variable there not = at_seam rest at place variable there not

get_within : (table : List ℕ) (all : List ℕ) (place : ℕ) → length table ≡ length all → 0 < slice_index_or table place 0 → (variable : ℕ) × (slice_get all place ≡ Some variable)
get_within [] [] zero long some = absurd (omega arith)
get_within [] [] (suc place) long some = absurd (omega arith)
get_within [] (first ∷ rest) place long some = cc
get_within (one ∷ others) [] place long some = cc
get_within (one ∷ others) (first ∷ rest) zero long some = (first, refl)
get_within (one ∷ others) (first ∷ rest) (suc place) long some = get_within others rest place (omega (arith, long)) some

pub earlier_step : (table : List ℕ) (all : List ℕ) (start place variable end : ℕ) → TellsEarlier table all → end ≡ slice_index_or table place 0 → start < end
    → slice_get all place ≡ Some variable → slice_get all (end - 1) ≡ Some variable
earlier_step table all start place variable end tells is more there =
    let e : suc (end - 1) ≡ end = omega (arith, more) in
    let before : nat_lt (end - 1) end ≡ true = grind (arith, nat_tests, more) in
    let behind : nat_lt end end ≡ false = grind (arith, nat_tests) in
    let one : among (drop (end - 1) (take place all)) variable ≡ true = sym (tells.earlier (end - 1) place variable there) ∙ ap (λ n. nat_lt (end - 1) n) (sym is) ∙ before in
    let two : among (drop end (take place all)) variable ≡ false = sym (tells.earlier end place variable there) ∙ ap (λ n. nat_lt end n) (sym is) ∙ behind in
    at_seam all (end - 1) place variable one (ap (λ n. among (drop n (take place all)) variable) e ∙ two)

pub earlier_before : (table : List ℕ) (all : List ℕ) (start place end : ℕ) → TellsEarlier table all → end ≡ slice_index_or table place 0 → start < end → end ≤ place
earlier_before table all start place end tells is more =
    let v = get_within table all place tells.long (omega (arith, is, more)) in
    omega (arith, is, earlier_less table all place v.0 tells v.1)

pub earlier_none : (table : List ℕ) (all : List ℕ) (start place variable end : ℕ) → TellsEarlier table all → end ≡ slice_index_or table place 0 → end ≤ start
    → slice_get all place ≡ Some variable → among (drop start (take place all)) variable ≡ false
earlier_none table all start place variable end tells is less there =
    let none : nat_lt start end ≡ false = grind (arith, nat_tests, less) in
    sym (tells.earlier start place variable there) ∙ ap (λ n. nat_lt start n) (sym is) ∙ none
