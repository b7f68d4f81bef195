-- Which variables are bound.
use Rattle.std.specs.Prelude.{◌≡◌, ℕ, Bool, true, false, not, ◌==◌, ◌||◌, List, [], ◌∷◌}
use Rattle.std.specs.List.{filter, list_all, list_any}

abbrev pub Bound : Type 0
Bound = ℕ → Bool

abbrev pub nothing : Bound
nothing variable = false

-- those of both
abbrev pub with : Bound → Bound → Bound
with bound more variable = bound variable || more variable

-- all that is bound in the one is bound in the other
abbrev pub Holds : Bound → Bound → Type 0
Holds bound more = (variable : ℕ) → bound variable ≡ true → more variable ≡ true

-- a variable is among these
abbrev pub among : List ℕ → Bound
among variables variable = list_any (λ other. variable == other) variables

abbrev pub are_bound : Bound → List ℕ → Bool
are_bound bound variables = list_all (λ variable. bound variable) variables

-- these, each where it stands first
abbrev pub each_once : List ℕ → List ℕ
each_once [] = []
each_once (first ∷ rest) = first ∷ filter (λ other. not (other == first)) (each_once rest)
