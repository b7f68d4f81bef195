-- Which occurrences stay of some that are left out by their names.
use Rattle.std.proofs.Common.{◌≡◌, ℕ, ◌==◌, Bool, true, false, not, ◌&&◌, ◌||◌, List, [], ◌∷◌, ◌++◌, Option, Some, None, if◌then◌else◌, refl, ap, sym, ◌∙◌}
use Rattle.std.specs.List.{filter, list_any}
use Rattle.std.specs.Option.{is_some}
use Rattle.std.proofs.lemmas.List.Folds.{list_any-append}
use Rattle.merc_scopes.specs.declared.occurrence.Occurrence.{Occurrence}
use Rattle.merc_scopes.specs.Scopes.{at_of, has_name, without}
use Rattle.merc_scopes.proofs.PlaceLaws.{same_number}

has_name_by : (name : ℕ) (first : Occurrence) (rest : List Occurrence) (test : Bool) → has_name name rest ≡ is_some (at_of name rest)
    → (test || has_name name rest) ≡ is_some (if test then Some first.at else at_of name rest)
has_name_by name first rest true more = refl
has_name_by name first rest false more = more

pub has_name-at_of : (name : ℕ) (found : List Occurrence) → has_name name found ≡ is_some (at_of name found)
has_name-at_of name [] = refl
has_name-at_of name (first ∷ rest) = has_name_by name first rest (first.name == name) (has_name-at_of name rest)

-- a test on names leaves out all occurrences of a name, or none

pub either_way : (test : Bool) (found : Option ℕ) → (if test then found else found) ≡ found
either_way true found = refl
either_way false found = refl

module _ (keeps : ℕ → Bool) (name : ℕ) where
  abbrev kept : List Occurrence → List Occurrence
  kept found = filter (λ one. keeps one.name) found

  kept_by : (first : Occurrence) (rest : List Occurrence) → at_of name (kept rest) ≡ (if keeps name then at_of name rest else None)
      → (keep same : Bool) → keeps first.name ≡ keep → (first.name == name) ≡ same
      → at_of name (kept (first ∷ rest)) ≡ (if keeps name then at_of name (first ∷ rest) else None)
  kept_by first rest more true true keep same =
      let e : keeps name ≡ true = ap keeps (sym (same_number first.name name same)) ∙ keep in
      rw (keep, e, same) refl
  kept_by first rest more true false keep same = rw (keep, same) more
  kept_by first rest more false true keep same =
      let e : keeps name ≡ false = ap keeps (sym (same_number first.name name same)) ∙ keep in
      rw (keep, e) (more ∙ rw e refl)
  kept_by first rest more false false keep same = rw (keep, same) more

  pub at_of-kept : (found : List Occurrence) → at_of name (filter (λ one. keeps one.name) found) ≡ (if keeps name then at_of name found else None)
  at_of-kept [] = sym (either_way (keeps name) None)
  at_of-kept (first ∷ rest) = kept_by first rest (at_of-kept rest) _ _ refl refl

left_out : (test : Bool) (found : Option ℕ) → (if not (test || false) then found else None) ≡ (if test then None else found)
left_out true found = refl
left_out false found = refl

-- one name is left out
pub at_of-without : (name other : ℕ) (found : List Occurrence) → at_of other (without (name ∷ []) found) ≡ (if other == name then None else at_of other found)
at_of-without name other found =
    at_of-kept (λ n. not (list_any (λ m. n == m) (name ∷ []))) other found ∙ left_out (other == name) (at_of other found)

-- names are left out one after the other

filter_step : {X : Type 0} (p q r : X → Bool) → ((x : X) → r x ≡ (p x && q x)) → (x : X) (xs : List X) → filter r xs ≡ filter q (filter p xs)
    → (a b : Bool) → p x ≡ a → q x ≡ b → filter r (x ∷ xs) ≡ filter q (filter p (x ∷ xs))
filter_step p q r split x xs more true true a b = rw (split x, a, b) (ap (λ l. x ∷ l) more)
filter_step p q r split x xs more true false a b = rw (split x, a, b) more
filter_step p q r split x xs more false b a other = rw (split x, a) more

filter_twice : {X : Type 0} (p q r : X → Bool) → ((x : X) → r x ≡ (p x && q x)) → (xs : List X) → filter r xs ≡ filter q (filter p xs)
filter_twice p q r split [] = refl
filter_twice p q r split (x ∷ xs) = filter_step p q r split x xs (filter_twice p q r split xs) _ _ refl refl

neither : (a b : Bool) → not (a || b) ≡ (not a && not b)
neither true b = refl
neither false b = refl

pub without-push : (names : List ℕ) (name : ℕ) (found : List Occurrence) → without (names ++ name ∷ []) found ≡ without (name ∷ []) (without names found)
without-push names name found =
    filter_twice (λ one. not (list_any (λ n. one.name == n) names)) (λ one. not (list_any (λ n. one.name == n) (name ∷ []))) _
    (λ one. ap not (list_any-append (λ n. one.name == n) names (name ∷ [])) ∙ neither (list_any (λ n. one.name == n) names) (list_any (λ n. one.name == n) (name ∷ [])))
    found

pub without-none : (found : List Occurrence) → without [] found ≡ found
without-none [] = refl
without-none (first ∷ rest) = ap (λ l. first ∷ l) (without-none rest)
