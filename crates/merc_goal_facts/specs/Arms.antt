-- Which arms count.
use Rattle.std.specs.Prelude.{ℕ, Bool, true, ◌||◌, not, List, [], Option, Some, None, if◌then◌else◌}
use Rattle.std.specs.List.{filter}
use Rattle.merc_order.specs.Bound.{Bound, among}
use Rattle.merc_goal_facts.specs.declared.facts.Facts.{Facts}
use Rattle.merc_goal_facts.specs.Bounds.{all_behind}

-- An arm counts whose end can be reached, and any where there is none.
abbrev pub counts : Bool → Bool → Bool
counts any_reached reached = reached || not any_reached

-- what an arm binds behind others, each once, if it counts
abbrev pub bound_with : Bool → List ℕ → Facts → List ℕ
bound_with any_reached bound arm = if counts any_reached arm.reached then all_behind bound arm.binds else bound

-- a variable is among what all arms bind; where there are no arms each is
abbrev pub among_all : Option (List ℕ) → Bound
among_all None variable = true
among_all (Some variables) variable = among variables variable

-- the same as a list, where these are those that some arm binds
abbrev pub all_of : List ℕ → Option (List ℕ) → List ℕ
all_of some None = some
all_of some (Some variables) = variables

-- What is bound behind arms: what some bind where the end of one can be reached, else what all bind.
abbrev pub those_bound : Bool → List ℕ → List ℕ → List ℕ
those_bound reached some every = if reached then some else filter (λ variable. among every variable) some

-- What has to be bound before them: what some bind and not all, where the end of one can be reached.
abbrev pub those_owed : Bool → List ℕ → List ℕ → List ℕ
those_owed reached some every = if reached then filter (λ variable. not (among every variable)) some else []
