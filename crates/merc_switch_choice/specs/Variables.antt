-- Sets of variables as lists, in the order in which they came.
use Rattle.std.specs.Prelude.{ℕ, List, [], ◌∷◌, ◌++◌, if◌then◌else◌}
use Rattle.merc_order.specs.Bound.{among}

-- one more behind these, unless it is among them
abbrev pub behind : List ℕ → ℕ → List ℕ
behind variables variable = if among variables variable then variables else variables ++ variable ∷ []

-- the same of several
abbrev pub all_behind : List ℕ → List ℕ → List ℕ
all_behind variables [] = variables
all_behind variables (first ∷ rest) = all_behind (behind variables first) rest
