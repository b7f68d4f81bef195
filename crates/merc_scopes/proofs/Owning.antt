-- The variables that a quantifier takes away, one by one.
use Rattle.std.proofs.Common.{◌≡◌, ℕ, suc, ◌+◌, ◌≤◌, ◌<◌, ◌==◌, Bool, true, false, List, [], ◌∷◌, ◌++◌, Option, Some, None, length, get_or, take, drop, if◌then◌else◌, refl, ap, sym, subst, ◌∙◌, add-one, drop_of_length-le}
use Rattle.std.proofs.Math.Seq.{drop-cons}
use Rattle.std.proofs.lemmas.List.{append_assoc, append-nil, take_all as every_one}
use Rattle.merc_scopes.specs.declared.occurrence.Occurrence.{Occurrence}
use Rattle.merc_scopes.specs.Scopes.{at_of, first_of, occurrence, own, without}
use Rattle.merc_scopes.proofs.PlaceLaws.{same_number}
use Rattle.merc_scopes.proofs.Filtering.{at_of-without, without-none, without-push}
use Rattle.merc_scopes.proofs.Begins.{take-begins}

abbrev pub listed : ℕ → Option ℕ → List Occurrence
listed name None = []
listed name (Some at) = occurrence name at ∷ []

first_by : (name : ℕ) (first : Occurrence) (rest : List Occurrence) → first_of name rest ≡ listed name (at_of name rest) → (test : Bool) → (first.name == name) ≡ test
    → (if test then first ∷ [] else first_of name rest) ≡ listed name (if test then Some first.at else at_of name rest)
first_by name first rest more true test = ap (λ n. occurrence n first.at ∷ []) (same_number first.name name test)
first_by name first rest more false test = more

first_of-at : (name : ℕ) (found : List Occurrence) → first_of name found ≡ listed name (at_of name found)
first_of-at name [] = refl
first_of-at name (first ∷ rest) = first_by name first rest (first_of-at name rest) (first.name == name) refl

-- what places, seen as a function of the name, have of occurrences, and what is listed so far, where these names are taken and those are to be taken
abbrev pub IsTaking : (ℕ → Option ℕ) → List Occurrence → List ℕ → List ℕ → List Occurrence → List Occurrence → Type 0
IsTaking places list taken left found whole = ((name : ℕ) → places name ≡ at_of name (without taken found)) × (list ++ own left (without taken found) ≡ whole)

-- one name more is taken
pub take_step : (places after : ℕ → Option ℕ) (list longer : List Occurrence) (taken left : List ℕ) (name : ℕ) (found whole : List Occurrence) → longer ≡ list ++ listed name (places name)
    → ((other : ℕ) → after other ≡ (if other == name then None else places other)) → IsTaking places list taken (name ∷ left) found whole → IsTaking after longer (taken ++ name ∷ []) left found whole
take_step places after list longer taken left name found whole pushed removed so_far = (
  (λ other.
      removed other
      ∙ ap (λ (o : Option ℕ). if other == name then None else o) (so_far.0 other)
      ∙ sym (at_of-without name other (without taken found))
      ∙ ap (at_of other) (sym (without-push taken name found))),
  ap (λ l. l ++ own left (without (taken ++ name ∷ []) found)) pushed
      ∙ append_assoc list (listed name (places name)) (own left (without (taken ++ name ∷ []) found))
      ∙ ap (λ l. list ++ (listed name (places name) ++ own left l)) (without-push taken name found)
      ∙ ap (λ l. list ++ (l ++ own left (without (name ∷ []) (without taken found)))) (ap (listed name) (so_far.0 name) ∙ sym (first_of-at name (without taken found)))
      ∙ so_far.1,
)

-- the loop over the names: its start, its step and its end

pub take_none : (places : ℕ → Option ℕ) (list : List Occurrence) (names : List ℕ) (found : List Occurrence) → list ≡ [] → ((name : ℕ) → places name ≡ at_of name found)
    → IsTaking places list [] names found (own names found)
take_none places list names found empty holds = (
  (λ name. holds name ∙ ap (at_of name) (sym (without-none found))),
  ap (λ l. l ++ own names (without [] found)) empty ∙ ap (own names) (without-none found),
)

pub take_more : (places after : ℕ → Option ℕ) (list longer : List Occurrence) (names : List ℕ) (index name : ℕ) (found whole : List Occurrence) → index < length names → name ≡ get_or names index name
    → longer ≡ list ++ listed name (places name) → ((other : ℕ) → after other ≡ (if other == name then None else places other))
    → IsTaking places list (take index names) (drop index names) found whole → IsTaking after longer (take (index + 1) names) (drop (index + 1) names) found whole
take_more places after list longer names index name found whole less is pushed removed so_far =
    let begins : drop index names ≡ name ∷ drop (index + 1) names = rw add-one (drop-cons names index name less ∙ ap (λ n. n ∷ drop (suc index) names) (sym is)) in
    let P : List ℕ → Type 0 = λ l. IsTaking places list (take index names) l found whole in
    let Q : List ℕ → Type 0 = λ l. IsTaking after longer l (drop (index + 1) names) found whole in
    subst Q (sym (take-begins index names name (drop (index + 1) names) begins))
    (take_step places after list longer (take index names) (drop (index + 1) names) name found whole pushed removed (subst P begins so_far))

pub take_all : (places : ℕ → Option ℕ) (list : List Occurrence) (names : List ℕ) (index : ℕ) (found whole : List Occurrence) → length names ≤ index
    → IsTaking places list (take index names) (drop index names) found whole → (list ≡ whole) × ((name : ℕ) → places name ≡ at_of name (without names found))
take_all places list names index found whole past so_far =
    let all = every_one index names past in
    let none : drop index names ≡ [] = drop_of_length-le names past in (
      sym (append-nil list) ∙ ap (λ l. list ++ own l (without (take index names) found)) (sym none) ∙ so_far.1,
      (λ name. so_far.0 name ∙ ap (λ l. at_of name (without l found)) all),
    )
