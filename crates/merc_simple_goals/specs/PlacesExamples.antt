-- Where variables occur, and which of them are outputs.
use Rattle.std.specs.Prelude.{◌≡◌, true, false, List, [], ◌∷◌, ℕ, refl}
use Rattle.std.proofs.Common.{arith}
use Rattle.merc_order.specs.Bound.{nothing, among}
use Rattle.merc_simple_goals.specs.Outputs.{is_output, found_at}
use Rattle.merc_simple_goals.specs.Places.{places_from, places_within, AreFirstPlaces}

-- `X = Y, Z = X, X = Z`
abbrev some : List ℕ
some = 0 ∷ 1 ∷ 2 ∷ 0 ∷ 0 ∷ 2 ∷ []

all_of_first : places_from 0 0 some ≡ 0 ∷ 3 ∷ 4 ∷ []
all_of_first = refl

-- in the goal in the middle
within_middle : places_within 2 4 0 some ≡ 3 ∷ []
within_middle = refl

not_in_middle : places_within 2 4 1 some ≡ []
not_in_middle = refl

-- the first place counts, and the one behind the last does not
from_the_first : places_within 3 5 0 some ≡ 3 ∷ 4 ∷ []
from_the_first = refl

up_to_the_last : places_within 0 4 0 some ≡ 0 ∷ 3 ∷ []
up_to_the_last = refl

-- The first place from there on may not lack, and none may stand behind.

lacks_first : AreFirstPlaces 2 6 (0 ∷ []) some [] → ⊥
lacks_first are = let found = are.complete 3 0 (omega arith) (omega arith) refl refl in absurd (omega (arith, found.1))

stands_behind : AreFirstPlaces 2 4 (0 ∷ []) some (3 ∷ 4 ∷ []) → ⊥
stands_behind are = let within = are.between 1 0 (omega arith) in absurd (omega (arith, within.1))

-- An output is not bound, and occurs before the goal or behind it.

occurs_before : is_output nothing some 2 4 1 ≡ true
occurs_before = refl

occurs_behind : is_output nothing some 0 4 0 ≡ true
occurs_behind = refl

occurs_inside_alone : is_output nothing some 0 5 0 ≡ false
occurs_inside_alone = refl

is_bound : is_output (among (1 ∷ [])) some 2 4 1 ≡ false
is_bound = refl

-- of the variables at these places those that pass, each where it stands first
each_once : found_at 1 (among (0 ∷ 2 ∷ [])) some (1 ∷ 2 ∷ 3 ∷ 4 ∷ 5 ∷ []) ≡ 2 ∷ 0 ∷ []
each_once = refl

-- the places before the goal do not count, its first does
from_the_goal_on : found_at 3 (among (0 ∷ 2 ∷ [])) some (3 ∷ 4 ∷ 5 ∷ []) ≡ 0 ∷ 2 ∷ []
from_the_goal_on = refl

from_the_start_on : found_at 0 (among (0 ∷ 2 ∷ [])) some (3 ∷ 5 ∷ []) ≡ []
from_the_start_on = refl
