-- The outputs of a goal, by the places of its occurrences.
use Rattle.std.specs.Prelude.{ℕ, Bool, not, ◌&&◌, List, [], ◌∷◌, ◌++◌, Option, Some, None, if◌then◌else◌}
use Rattle.std.specs.Option.{option_to_list}
use Rattle.merc_order.specs.Bound.{Bound}
use Rattle.merc_goal_facts.specs.Outside.{occurs_outside}
use Rattle.merc_goal_facts.specs.Reaches.{first_since}

-- a variable that is not bound and occurs outside the stretch from one place to another
abbrev pub is_output : Bound → List ℕ → ℕ → ℕ → ℕ → Bool
is_output bound all start end variable = not (bound variable) && occurs_outside all start end variable

-- a variable, if it passes the test
abbrev pub kept : Bound → Option ℕ → Option ℕ
kept test None = None
kept test (Some variable) = if test variable then Some variable else None

-- the variables at these places that pass the test, if they occur nowhere from the start on before them
abbrev pub found_at : ℕ → Bound → List ℕ → List ℕ → List ℕ
found_at start test all [] = []
found_at start test all (place ∷ places) = option_to_list (kept test (first_since start all place)) ++ found_at start test all places
