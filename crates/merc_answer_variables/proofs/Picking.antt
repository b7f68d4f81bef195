-- The occurrences whose places are those that the statuses have are the first ones of their names.
use Rattle.std.proofs.Common.{◌≡◌, ℕ, suc, ◌<◌, ◌≤◌, Bool, true, false, cond, ◌==◌, ◌&&◌, ◌||◌, not, List, [], ◌∷◌, Option, Some, None, is_some, length, if◌then◌else◌, refl, ap, sym, subst, ◌∙◌, arith}
use Rattle.std.specs.List.{filter, list_any}
use Rattle.std.proofs.lemmas.Bool.{eqb-true, eq-eqb, ne_eqb}
use Rattle.merc_goals.specs.Written.{Written}
use Rattle.merc_scopes.specs.declared.occurrence.Occurrence.{Occurrence}
use Rattle.merc_value.specs.Text.{text_at, is_blank}
use Rattle.merc_answer_variables.specs.AnswerVariables.{begins_with_underscore, firsts, count_in, is_hidden, is_answer, answer_variables}
use Rattle.merc_answer_variables.specs.Statuses.{Status, all_before, status_of}
use Rattle.merc_answer_variables.specs.Reading.{is_place, is_chosen, chosen}
use Rattle.merc_answer_variables.proofs.MapLaws.{flipped}
use Rattle.merc_answer_variables.proofs.Marks.{Mark, place_in, found_in, Within, done, skip, take, free_marks, within-free, found-free, place-free}
use Rattle.merc_answer_variables.proofs.Shown.{shown-free}

-- a place at or behind the beginning of a list with so many occurrences
abbrev IsPast : Option ℕ → ℕ → Type 0
IsPast None count = Unit {0}
IsPast (Some place) count = count ≤ place

abbrev IsBelow : Option ℕ → ℕ → Type 0
IsBelow None count = Unit {0}
IsBelow (Some place) count = place < count

past-less : (place : Option ℕ) (count : ℕ) → IsPast place (suc count) → IsPast place count
past-less None count past = tt
past-less (Some place) count past = omega (arith, past)

past-not : (place : Option ℕ) (count : ℕ) → IsPast place (suc count) → is_place place count ≡ false
past-not None count past = refl
past-not (Some place) count past = ne_eqb place count (λ same. omega (arith, same, past))

below-not : (place : Option ℕ) (count : ℕ) → IsBelow place count → is_place place count ≡ false
below-not None count below = refl
below-not (Some place) count below = ne_eqb place count (λ same. omega (arith, same, below))

below-more : (place : Option ℕ) (count : ℕ) → IsBelow place count → IsBelow place (suc count)
below-more None count below = tt
below-more (Some place) count below = omega (arith, below)

below-if : (is : Bool) (place : Option ℕ) (count : ℕ) → IsBelow place count → IsBelow (if is then Some count else place) (suc count)
below-if true place count below = omega arith
below-if false place count below = below-more place count below

place-below : (name : ℕ) (marks : List Mark) (all : List Occurrence) → Within [] marks all → IsBelow (place_in name marks) (length all)
place-below name marks all done = tt
place-below name marks all (skip one inside rest inner) = below-more (place_in name inside) (length rest) (place-below name inside rest inner)
place-below name marks all (take one inside rest inner) = below-if (one.name == name) (place_in name inside) (length rest) (place-below name inside rest inner)

-- what is known of a name's place, where it has been found already and where not
abbrev Knows : Bool → Option ℕ → Option ℕ → ℕ → Type 0
Knows true place first count = IsPast place count
Knows false place first count = place ≡ first

knows-skip : (seen : Bool) (place first : Option ℕ) (count : ℕ) → Knows seen place first (suc count) → Knows seen place first count
knows-skip true place first count known = past-less place count known
knows-skip false place first count known = known

-- not the first one of its name
knows-not : (seen : Bool) (place first : Option ℕ) (count : ℕ) → IsBelow first count → Knows seen place first (suc count) → is_place place count ≡ false
knows-not true place first count below known = past-not place count known
knows-not false place first count below known = ap (λ o. is_place o count) known ∙ below-not first count below

abbrev is_seen : ℕ → List ℕ → Bool
is_seen name seen = list_any (λ other. name == other) seen

-- another name than that of a mark
knows-other : (seen : Bool) (name : ℕ) (one : Occurrence) (place first : Option ℕ) (count : ℕ) → (seen ≡ false → (one.name == name) ≡ false)
    → Knows seen place (if one.name == name then Some count else first) (suc count) → Knows seen place first count
knows-other true name one place first count other known = past-less place count known
knows-other false name one place first count other known = known ∙ ap (λ (b : Bool). if b then Some count else first) (other refl)

-- the mark's name has been found now
knows-found : (is seen : Bool) (place first : Option ℕ) (count : ℕ) → (is ≡ true → place ≡ Some count) → Knows seen place (if is then Some count else first) (suc count)
    → Knows (is || seen) place first count
knows-found true seen place first count found known = subst (λ (o : Option ℕ). IsPast o count) (sym (found refl)) (omega arith)
knows-found false true place first count found known = past-less place count known
knows-found false false place first count found known = known

chosen-if : (test : Bool) (one : Occurrence) (rest : List Occurrence) → test ≡ false → (if test then one ∷ rest else rest) ≡ rest
chosen-if test one rest is = rw is refl

module _ (names : List (List ℕ)) (statuses : ℕ → Status) (hidden : ℕ → Bool)
    (shown : (name : ℕ) → (statuses name).shown ≡ (is_some (statuses name).place && not (hidden name))) where
  abbrev is_wanted : ℕ → Bool
  is_wanted name = not (begins_with_underscore (text_at names name)) && not (hidden name)

  and_false : (b : Bool) → (b && false) ≡ false
  and_false true = refl
  and_false false = refl

  and_true : (b : Bool) → (b && true) ≡ b
  and_true true = refl
  and_true false = refl

  chosen_bools : (named some hid : Bool) (place : Option ℕ) (count : ℕ) → some ≡ is_some place → (named && (is_place place count && (some && not hid))) ≡ ((named && not hid) && is_place place count)
  chosen_bools true some true None count same = refl
  chosen_bools true some false None count same = refl
  chosen_bools false some hid place count same = refl
  chosen_bools true some true (Some place) count same = rw same (and_false (place == count))
  chosen_bools true some false (Some place) count same = rw same (and_true (place == count))

  chosen-is : (one : Occurrence) (count : ℕ) → is_chosen names statuses one count ≡ (is_wanted one.name && is_place (statuses one.name).place count)
  chosen-is one count =
      ap (λ (b : Bool). not (begins_with_underscore (text_at names one.name)) && (is_place (statuses one.name).place count && b)) (shown one.name)
      ∙ chosen_bools (not (begins_with_underscore (text_at names one.name))) (is_some (statuses one.name).place) (hidden one.name) (statuses one.name).place count refl

  neither : (a b : Bool) → (a ≡ true → b ≡ false) → (a && b) ≡ false
  neither true b never = never refl
  neither false b never = refl

  -- an occurrence whose name is not wanted, or which is not the first, is not chosen
  not-chosen : (one : Occurrence) (count : ℕ) → (is_wanted one.name ≡ true → is_place (statuses one.name).place count ≡ false) → is_chosen names statuses one count ≡ false
  not-chosen one count never = chosen-is one count ∙ neither (is_wanted one.name) (is_place (statuses one.name).place count) never

  abbrev Known : List ℕ → List Mark → ℕ → Type 0
  Known seen marks count = (name : ℕ) → is_wanted name ≡ true → Knows (is_seen name seen) (statuses name).place (place_in name marks) count

  abbrev wanted : List Mark → List Occurrence
  wanted marks = filter (λ one. is_wanted one.name) (found_in marks)

  -- one mark, by whether its name is wanted and whether it has been found already
  take_by : (want seen_it : Bool) (seen : List ℕ) (one : Occurrence) (marks : List Mark) (all : List Occurrence)
      → is_wanted one.name ≡ want → is_seen one.name seen ≡ seen_it → Known seen ((length all, one) ∷ marks) (suc (length all))
      → ((others : List ℕ) → Known others marks (length all) → chosen names statuses all ≡ firsts others (wanted marks))
      → (if is_chosen names statuses one (length all) then one ∷ chosen names statuses all else chosen names statuses all)
      ≡ firsts seen (cond want (one ∷ wanted marks) (wanted marks))
  take_by false seen_it seen one marks all wants sees known inner =
      chosen-if (is_chosen names statuses one (length all)) one (chosen names statuses all) (not-chosen one (length all) (λ is. absurd (let e = sym wants ∙ is in cc)))
      ∙ inner seen (λ name want. knows-other (is_seen name seen) name one (statuses name).place (place_in name marks) (length all)
      (λ unseen. ne_eqb one.name name (λ same. let e = sym want ∙ ap is_wanted (sym same) ∙ wants in absurd (cc))) (known name want))
  take_by true true seen one marks all wants sees known inner =
      chosen-if (is_chosen names statuses one (length all)) one (chosen names statuses all)
      (not-chosen one (length all) (λ is. past-not (statuses one.name).place (length all)
      (subst (λ (b : Bool). Knows b (statuses one.name).place (place_in one.name ((length all, one) ∷ marks)) (suc (length all))) sees (known one.name wants))))
      ∙ inner seen (λ name want. knows-other (is_seen name seen) name one (statuses name).place (place_in name marks) (length all)
      (λ unseen. ne_eqb one.name name (λ same. let e = sym sees ∙ ap (λ (n : ℕ). is_seen n seen) same ∙ unseen in absurd (cc))) (known name want))
      ∙ ap (λ (b : Bool). if b then firsts seen (wanted marks) else one ∷ firsts (one.name ∷ seen) (wanted marks)) (sym sees)
  take_by true false seen one marks all wants sees known inner =
      let here : (statuses one.name).place ≡ Some (length all) =
      subst (λ (b : Bool). Knows b (statuses one.name).place (place_in one.name ((length all, one) ∷ marks)) (suc (length all))) sees (known one.name wants)
      ∙ ap (λ (b : Bool). if b then Some (length all) else place_in one.name marks) (eq-eqb one.name one.name refl) in
      let picks : is_chosen names statuses one (length all) ≡ true =
      chosen-is one (length all) ∙ ap (λ (b : Bool). b && is_place (statuses one.name).place (length all)) wants ∙ ap (λ (o : Option ℕ). is_place o (length all)) here
      ∙ eq-eqb (length all) (length all) refl in
      ap (λ (b : Bool). if b then one ∷ chosen names statuses all else chosen names statuses all) picks
      ∙ ap (λ (l : List Occurrence). one ∷ l) (inner (one.name ∷ seen) (λ name want.
      subst (λ (b : Bool). Knows (b || is_seen name seen) (statuses name).place (place_in name marks) (length all)) (flipped one.name name)
      (knows-found (one.name == name) (is_seen name seen) (statuses name).place (place_in name marks) (length all)
      (λ is. ap (λ (n : ℕ). (statuses n).place) (sym (eqb-true one.name name is)) ∙ here) (known name want))))
      ∙ ap (λ (b : Bool). if b then firsts seen (wanted marks) else one ∷ firsts (one.name ∷ seen) (wanted marks)) (sym sees)

  picked : (seen : List ℕ) (marks : List Mark) (all : List Occurrence) → Within [] marks all → Known seen marks (length all) → chosen names statuses all ≡ firsts seen (wanted marks)
  picked seen marks all done known = refl
  picked seen marks all (skip one inside rest inner) known =
      chosen-if (is_chosen names statuses one (length rest)) one (chosen names statuses rest)
      (not-chosen one (length rest) (λ is. knows-not (is_seen one.name seen) (statuses one.name).place (place_in one.name inside) (length rest) (place-below one.name inside rest inner) (known one.name is)))
      ∙ picked seen inside rest inner (λ name want. knows-skip (is_seen name seen) (statuses name).place (place_in name inside) (length rest) (known name want))
  picked seen marks all (take one inside rest inner) known =
      take_by (is_wanted one.name) (is_seen one.name seen) seen one inside rest refl refl known (λ others more. picked others inside rest inner more)

-- the answers that the reader finds
pub answers_found : (names : List (List ℕ)) (goal : Written) (statuses : ℕ → Status) (all : List Occurrence)
    → ((name : ℕ) → statuses name ≡ status_of (is_blank names) name goal []) → all ≡ all_before (is_blank names) goal []
    → chosen names statuses all ≡ answer_variables names goal
answers_found names goal statuses all same is =
    ap (chosen names statuses) is
    ∙ picked names statuses (λ name. is_hidden names name (count_in names name goal) goal)
    (λ name. ap (λ (s : Status). s.shown) (same name) ∙ shown-free names name goal []
    ∙ ap (λ (s : Status). is_some s.place && not (is_hidden names name (count_in names name goal) goal)) (sym (same name)))
    [] (free_marks (is_blank names) goal []) (all_before (is_blank names) goal []) (within-free (is_blank names) goal [])
    (λ name want. ap (λ (s : Status). s.place) (same name) ∙ place-free (is_blank names) name goal [])
    ∙ ap (λ (l : List Occurrence). firsts [] (filter (is_answer names goal) l)) (found-free (is_blank names) goal [])
