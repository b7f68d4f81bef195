-- At which places the variables of a body occur in it.
use Rattle.std.specs.Prelude.{◌≡◌, ◌≤◌, ◌<◌, ◌==◌, ◌&&◌, nat_le, nat_lt, ℕ, suc, true, List, [], ◌∷◌, slice_get, Option, Some, None, if◌then◌else◌}
use Rattle.std.specs.List.{filter, All, Contains}
use Rattle.std.specs.List.Sorted.{IsStrictlyIncreasing}
use Rattle.std.specs.declared.alloc.Global.{Global}
use Rattle.std.specs.declared.vec.Vec.{Vec}
use Rattle.merc_order.specs.Bound.{among}
use Rattle.merc_goal_facts.specs.Reaches.{first_since}

-- the places of a variable among these, of which the first stands at this place
abbrev pub places_from : ℕ → ℕ → List ℕ → List ℕ
places_from place variable [] = []
places_from place variable (first ∷ rest) = if variable == first then place ∷ places_from (suc place) variable rest else places_from (suc place) variable rest

-- the places of a variable from one place on and before another
abbrev pub places_within : ℕ → ℕ → ℕ → List ℕ → List ℕ
places_within start end variable all = filter (λ place. nat_le start place && nat_lt place end) (places_from 0 variable all)

-- what a table has for a variable; those past its end have nothing
abbrev pub row_of : Option (Vec ℕ Global) → List ℕ
row_of None = []
row_of (Some row) = row.items

abbrev pub table_at : List (Vec ℕ Global) → ℕ → List ℕ
table_at table variable = row_of (slice_get table variable)

-- A table tells of each variable at which places it occurs.
abbrev pub TellsPlaces : List (Vec ℕ Global) → List ℕ → Type 0
TellsPlaces table all = (variable : ℕ) → table_at table variable ≡ places_from 0 variable all

-- These places rise and lie from one place on and before another, and the first from there on at which one of these variables occurs is among them.
pub record AreFirstPlaces (start end : ℕ) (variables all places : List ℕ) : Type 0 where
  pub rise : IsStrictlyIncreasing places
  pub between : All (λ place. (start ≤ place) × (place < end)) places
  pub complete : (place variable : ℕ) → start ≤ place → place < end → first_since start all place ≡ Some variable → among variables variable ≡ true → Contains places place
