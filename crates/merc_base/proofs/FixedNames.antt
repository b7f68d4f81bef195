-- Laws of the constants of a table of names.
use Rattle.std.proofs.Common.{◌≡◌, ℕ, zero, suc, ◌+◌, Bool, true, false, List, [], ◌∷◌, Option, Some, None, MatchOption, map, find, cond, slice_get, refl, sym, ap, subst, ◌∙◌, arith, ◌||◌}
use Rattle.std.specs.Borrow.{Bor}
use Rattle.std.specs.List.{enumerate_from}
use Rattle.std.specs.Option.{option_map}
use Rattle.std.specs.Str.{bytes_eq}
use Rattle.std.proofs.lemmas.Option.{slice_get-map}
use Rattle.std.proofs.lemmas.Slice.Eq.{bytes_eq-Decides}
use Rattle.merc_base.specs.Names.{fixed_names}
use Rattle.merc_base.specs.Texts.{is_among}

-- An entry of the code's table, as a number and a text.
abbrev pub plain_entry : ℕ × Bor (List ℕ) → ℕ × List ℕ
plain_entry entry = (entry.0, entry.1.now)

find-plain_entry : (text : List ℕ) (table : List (ℕ × Bor (List ℕ)))
    → option_map (λ entry. entry.0) (find (λ entry. bytes_eq text entry.1.now) table) ≡ option_map (λ entry. entry.0) (find (λ entry. bytes_eq text entry.1) (map plain_entry table))
find-plain_entry text [] = refl
find-plain_entry text (entry ∷ table) =
    elim (bytes_eq text entry.1.now) as (λ b. option_map (λ entry. entry.0) (cond b (Some entry) (find (λ entry. bytes_eq text entry.1.now) table))
    ≡ option_map (λ entry. entry.0) (cond b (Some (plain_entry entry)) (find (λ entry. bytes_eq text entry.1) (map plain_entry table))))
    [ true ↦ refl | false ↦ find-plain_entry text table ]

-- what a search by text in numbered names answers: no number where the text is not among them
abbrev Finds : List ℕ → List (List ℕ) → ℕ → Option ℕ → Type 0
Finds text names first result =
    MatchOption result (is_among text names ≡ false) (λ number. (i : ℕ) × (number ≡ first + i) × (slice_get names i ≡ Some text))

found_numbered : (text : List ℕ) (names : List (List ℕ)) (first : ℕ) → Finds text names first (option_map (λ entry. entry.0) (find (λ entry. bytes_eq text entry.1) (enumerate_from first names)))
found_numbered text [] first = refl
found_numbered text (name ∷ names) first = by (bytes_eq text name) refl (found_numbered text names (first + 1))
  where
    later : (result : Option ℕ) → Finds text names (first + 1) result
        → MatchOption result (is_among text names ≡ false) (λ number. (i : ℕ) × (number ≡ first + i) × (slice_get (name ∷ names) i ≡ Some text))
    later None h = h
    later (Some number) h = (suc h.0, omega (arith, h.1), h.2)

    by : (b : Bool) → bytes_eq text name ≡ b → Finds text names (first + 1) (option_map (λ entry. entry.0) (find (λ entry. bytes_eq text entry.1) (enumerate_from (first + 1) names)))
        → MatchOption (option_map (λ entry. entry.0) (cond b (Some (first, name)) (find (λ entry. bytes_eq text entry.1) (enumerate_from (first + 1) names)))) ((b || is_among text names) ≡ false) (λ number. (i : ℕ) × (number ≡ first + i) × (slice_get (name ∷ names) i ≡ Some text))
    by true e h = (0, omega arith, ap Some (sym ((bytes_eq-Decides text name).0 e)))
    by false e h = later _ h

-- What a search by text finds in a table of the constants.
pub found_fixed : (text : List ℕ) (table : List (ℕ × Bor (List ℕ))) (result : Option ℕ)
    → map plain_entry table ≡ enumerate_from 0 fixed_names
    → result ≡ option_map (λ entry. entry.0) (find (λ entry. bytes_eq text entry.1.now) table)
    → MatchOption result (is_among text fixed_names ≡ false) (λ number. slice_get fixed_names number ≡ Some text)
found_fixed text table result numbered e =
    let searched : option_map (λ entry. entry.0) (find (λ entry. bytes_eq text entry.1) (enumerate_from 0 fixed_names)) ≡ result =
    sym (e ∙ find-plain_entry text table ∙ ap (λ (entries : List (ℕ × List ℕ)). option_map (λ entry. entry.0) (find (λ entry. bytes_eq text entry.1) entries)) numbered) in
    from_zero result (subst (Finds text fixed_names 0) searched (found_numbered text fixed_names 0))
  where
    from_zero : (r : Option ℕ) → Finds text fixed_names 0 r → MatchOption r (is_among text fixed_names ≡ false) (λ number. slice_get fixed_names number ≡ Some text)
    from_zero None h = h
    from_zero (Some number) h = let same : number ≡ h.0 = omega (arith, h.1) in ap (slice_get fixed_names) same ∙ h.2

slice_get-enumerate_from : (names : List (List ℕ)) (first number : ℕ) → option_map (λ entry. entry.1) (slice_get (enumerate_from first names) number) ≡ slice_get names number
slice_get-enumerate_from [] first number = refl
slice_get-enumerate_from (name ∷ names) first zero = refl
slice_get-enumerate_from (name ∷ names) first (suc number) = slice_get-enumerate_from names (first + 1) number

option_map-plain_entry : (o : Option (ℕ × Bor (List ℕ))) → option_map (λ entry. entry.1.now) o ≡ option_map (λ entry. entry.1) (option_map plain_entry o)
option_map-plain_entry None = refl
option_map-plain_entry (Some entry) = refl

-- The text at a place of a table of the constants.
pub slice_get-fixed : (table : List (ℕ × Bor (List ℕ))) (number : ℕ) → map plain_entry table ≡ enumerate_from 0 fixed_names
    → option_map (λ entry. entry.1.now) (slice_get table number) ≡ slice_get fixed_names number
slice_get-fixed table number numbered =
    option_map-plain_entry (slice_get table number)
    ∙ ap (option_map (λ entry. entry.1)) (sym (slice_get-map plain_entry table number) ∙ ap (λ (entries : List (ℕ × List ℕ)). slice_get entries number) numbered)
    ∙ slice_get-enumerate_from fixed_names 0 number
