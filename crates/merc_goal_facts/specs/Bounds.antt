-- The variables that are bound, in the order in which they were bound, and the table that tells them.
use Rattle.std.specs.Prelude.{◌≡◌, ℕ, Bool, false, List, [], ◌∷◌, ◌++◌, if◌then◌else◌}
use Rattle.std.specs.List.{slice_index_or}
use Rattle.merc_order.specs.Bound.{among}

-- one more behind these, unless it is among them
abbrev pub behind : List ℕ → ℕ → List ℕ
behind bound variable = if among bound variable then bound else bound ++ variable ∷ []

-- the same of several
abbrev pub all_behind : List ℕ → List ℕ → List ℕ
all_behind bound [] = bound
all_behind bound (first ∷ rest) = all_behind (behind bound first) rest

-- A table tells of each variable whether it is among these.
abbrev pub Tells : List Bool → List ℕ → Type 0
Tells table variables = (variable : ℕ) → slice_index_or table variable false ≡ among variables variable

-- None of these stands twice.
abbrev pub AreApart : List ℕ → Type 0
AreApart [] = Unit {0}
AreApart (first ∷ rest) = (among rest first ≡ false) × AreApart rest
