-- From where to where each variable occurs.
use Rattle.std.specs.Prelude.{◌≡◌, ℕ, Bool, false, nat_lt, ◌-◌, List, length, take, drop, slice_get, Option, Some, None, if◌then◌else◌}
use Rattle.std.specs.List.{slice_index_or}
use Rattle.merc_order.specs.Bound.{among}
use Rattle.merc_goal_facts.specs.declared.occurrences.Reach.{Reach}

-- a variable that reaches so occurs before this place
abbrev pub starts_before : Option Reach → ℕ → Bool
starts_before None place = false
starts_before (Some reach) place = nat_lt reach.first place

-- it occurs at this place or behind it
abbrev pub ends_behind : Option Reach → ℕ → Bool
ends_behind None place = false
ends_behind (Some reach) place = nat_lt place reach.end

-- how a variable reaches that occurs once more, at the last place before this one
abbrev pub reaching : Option Reach → ℕ → Reach
reaching None end = record { first = end - 1; end = end }
reaching (Some reach) end = record { first = reach.first; end = end }

-- A table tells of each variable whether it occurs before a place, and at it or behind it.
pub record TellsReaches (table : List (Option Reach)) (all : List ℕ) : Type 0 where
  pub before : (variable place : ℕ) → starts_before (slice_index_or table variable None) place ≡ among (take place all) variable
  pub behind : (variable place : ℕ) → ends_behind (slice_index_or table variable None) place ≡ among (drop place all) variable

-- the place behind that where a variable that reaches so occurs last, 0 where it does not occur
abbrev pub end_of : Option Reach → ℕ
end_of None = 0
end_of (Some reach) = reach.end

-- A table tells of each place behind which place its variable occurs last before it, 0 where it does not.
pub record TellsEarlier (table : List ℕ) (all : List ℕ) : Type 0 where
  pub long : length table ≡ length all
  pub earlier : (start place variable : ℕ) → slice_get all place ≡ Some variable → nat_lt start (slice_index_or table place 0) ≡ among (drop start (take place all)) variable

-- a variable that is not among those before it
abbrev pub new_among : List ℕ → Option ℕ → Option ℕ
new_among before None = None
new_among before (Some variable) = if among before variable then None else Some variable

-- the variable at a place, if it does not occur from the start on before that place
abbrev pub first_since : ℕ → List ℕ → ℕ → Option ℕ
first_since start all place = new_among (drop start (take place all)) (slice_get all place)
