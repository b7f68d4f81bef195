-- Items by number, and the numbers of such items of a list.
use Rattle.std.specs.Prelude.{◌≡◌, ◌==◌, ◌&&◌, nat_le, ℕ, suc, Bool, List, [], ◌∷◌, ◌++◌, map, Option, Some, None, if◌then◌else◌}

-- the items of a number, in order
abbrev pub row_of : {X : Type 0} → ℕ → List (ℕ × X) → List X
row_of number [] = []
row_of number (first ∷ rest) = if first.0 == number then first.1 ∷ row_of number rest else row_of number rest

-- the first such item from a number on, where the first of these has a number, and all of them
abbrev pub next_from : {X : Type 0} → (X → Bool) → ℕ → ℕ → List X → Option ℕ
next_from such from number [] = None
next_from such from number (first ∷ rest) = if nat_le from number && such first then Some number else next_from such from (suc number) rest

abbrev pub numbers_from : {X : Type 0} → (X → Bool) → ℕ → ℕ → List X → List ℕ
numbers_from such from number [] = []
numbers_from such from number (first ∷ rest) =
    if nat_le from number && such first then number ∷ numbers_from such from (suc number) rest else numbers_from such from (suc number) rest

-- what each item gives at its number, where the first one has this number
abbrev pub each_from : {X Y : Type 0} → (ℕ → X → List Y) → ℕ → List X → List Y
each_from f number [] = []
each_from f number (first ∷ rest) = f number first ++ each_from f (suc number) rest

-- the variables of lists, each with the number of its list
abbrev pub pairs_from : ℕ → List (List ℕ) → List (ℕ × ℕ)
pairs_from number lists = each_from (λ n list. map (λ variable. (variable, n)) list) number lists

-- The pairs tell for each variable which of the lists it is among.
abbrev pub Tells : List (ℕ × ℕ) → List (List ℕ) → Type 0
Tells pairs lists = (variable : ℕ) → row_of variable pairs ≡ row_of variable (pairs_from 0 lists)
