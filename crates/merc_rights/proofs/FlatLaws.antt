-- What each item gives, in rows.
use Rattle.std.specs.Prelude.{◌≡◌, ◌==◌, ◌<◌, ◌+◌, ◌&&◌, nat_le, ℕ, suc, Bool, true, false, List, [], ◌∷◌, ◌++◌, length, map, refl, if◌then◌else◌}
use Rattle.std.specs.List.{flat_map}
use Rattle.std.proofs.Common.{◌∙◌, ap, sym, arith}
use Rattle.std.proofs.lemmas.Bool.Decides.{nat_tests}
use Rattle.std.proofs.lemmas.List.{append_assoc}
use Rattle.merc_rights.specs.Rows.{row_of, numbers_from}
use Rattle.merc_rights.proofs.Indexes.{row-append}

pub row-flat : {A X : Type 0} (number : ℕ) (f : A → List (ℕ × X)) (list : List A) → row_of number (flat_map f list) ≡ flat_map (λ a. row_of number (f a)) list
row-flat number f [] = refl
row-flat number f (first ∷ rest) = row-append number (f first) (flat_map f rest) ∙ ap (λ r. row_of number (f first) ++ r) (row-flat number f rest)

pub flat-same : {A X : Type 0} (f g : A → List X) (same : (a : A) → f a ≡ g a) (list : List A) → flat_map f list ≡ flat_map g list
flat-same f g same [] = refl
flat-same f g same (first ∷ rest) = ap (λ r. r ++ flat_map f rest) (same first) ∙ ap (λ r. g first ++ r) (flat-same f g same rest)

pub flat-append : {A X : Type 0} (f : A → List X) (one other : List A) → flat_map f (one ++ other) ≡ flat_map f one ++ flat_map f other
flat-append f [] other = refl
flat-append f (first ∷ rest) other = ap (λ r. f first ++ r) (flat-append f rest other) ∙ sym (append_assoc (f first) (flat_map f rest) (flat_map f other))

pub flat-none : {A X : Type 0} (f : A → List X) (none : (a : A) → f a ≡ []) (list : List A) → flat_map f list ≡ []
flat-none f none [] = refl
flat-none f none (first ∷ rest) = ap (λ r. r ++ flat_map f rest) (none first) ∙ flat-none f none rest

-- the numbers of such items, in rows

module _ {Y : Type 0} (f : ℕ → Y) where
  abbrev paired : List ℕ → List (ℕ × Y)
  paired numbers = map (λ n. (n, f n)) numbers

  skip : (number start : ℕ) (b : Bool) (list : List ℕ) → (start == number) ≡ false → row_of number (paired (if b then start ∷ list else list)) ≡ row_of number (paired list)
  skip number start true list other = ap (λ b. if b then f start ∷ row_of number (paired list) else row_of number (paired list)) other
  skip number start false list other = refl

  here : (number : ℕ) (b : Bool) (list : List ℕ) → row_of number (paired list) ≡ [] → row_of number (paired (if b then number ∷ list else list)) ≡ (if b then f number ∷ [] else [])
  here number true list none =
      let e : (number == number) ≡ true = grind (arith, nat_tests) in
      ap (λ b. if b then f number ∷ row_of number (paired list) else row_of number (paired list)) e ∙ ap (λ r. f number ∷ r) none
  here number false list none = none

  module _ {X : Type 0} (such : X → Bool) (from : ℕ) where
    rows-none : (number start : ℕ) (items : List X) → number < start → row_of number (paired (numbers_from such from start items)) ≡ []
    rows-none number start [] less = refl
    rows-none number start (first ∷ rest) less =
        skip number start (nat_le from start && such first) (numbers_from such from (suc start) rest) (grind (arith, nat_tests, less)) ∙ rows-none number (suc start) rest (omega (arith, less))

    pub row-at : (number start : ℕ) (front : List X) (first : X) (rest : List X) → start + length front ≡ number
        → row_of number (paired (numbers_from such from start (front ++ first ∷ rest))) ≡ (if nat_le from number && such first then f number ∷ [] else [])
    row-at number start [] first rest is =
        let e : start ≡ number = omega (arith, is) in
        ap (λ n. row_of number (paired (numbers_from such from n (first ∷ rest)))) e
        ∙ here number (nat_le from number && such first) (numbers_from such from (suc number) rest) (rows-none number (suc number) rest (omega arith))
    row-at number start (next ∷ front) first rest is =
        let less : start < number = omega (arith, is) in
        skip number start (nat_le from start && such next) (numbers_from such from (suc start) (front ++ first ∷ rest)) (grind (arith, nat_tests, less))
        ∙ row-at number (suc start) front first rest (omega (arith, is))
