-- The outputs of a goal that are among some variables, by their places.
use Rattle.std.specs.Prelude.{ℕ, zero, suc, Bool, false, List, [], ◌∷◌}
use Rattle.merc_order.specs.Bound.{among}

-- whether the output at a place is among the variables
abbrev pub is_kept : List ℕ → List ℕ → ℕ → Bool
is_kept variables [] place = false
is_kept variables (first ∷ rest) zero = among variables first
is_kept variables (first ∷ rest) (suc place) = is_kept variables rest place
