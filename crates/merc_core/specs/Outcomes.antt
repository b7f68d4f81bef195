-- The outcomes that are stored at a join of the core.
use Rattle.std.specs.Prelude.{ℕ, List, [], ◌∷◌, Option, Some, None}
use Rattle.merc_script.specs.declared.outcome.Outcome.{Outcome}
use Rattle.merc_script.specs.Joining.{joined, joined_with}
use Rattle.merc_core.specs.declared.join.Join.{Join}

-- an outcome in front of others, if both are there
abbrev pub with_first : Option Outcome → Option (List Outcome) → Option (List Outcome)
with_first None others = None
with_first (Some first) None = None
with_first (Some first) (Some others) = Some (first ∷ others)

-- the outcomes, if all are stored
abbrev pub all_stored : List (Option Outcome) → Option (List Outcome)
all_stored [] = Some []
all_stored (first ∷ rest) = with_first first (all_stored rest)

abbrev pub joined_if : ℕ → Option (List Outcome) → Option Outcome
joined_if limit None = None
joined_if limit (Some outcomes) = Some (joined limit outcomes)

-- what the join gives its parent, once all are stored
abbrev pub joined_at : Join → Option Outcome
joined_at join = joined_if join.limit (all_stored join.outcomes)

-- outcomes, if all are stored, joined behind those before
abbrev pub joined_on : ℕ → Outcome → List (Option Outcome) → Option Outcome
joined_on limit before [] = Some before
joined_on limit before (None ∷ rest) = None
joined_on limit before (Some next ∷ rest) = joined_on limit (joined_with limit before next) rest

-- what is stored for the first child, and for that of the first join
abbrev pub stored_first : List (Option Outcome) → Option Outcome
stored_first [] = None
stored_first (first ∷ rest) = first

abbrev pub outermost_outcome : List Join → Option Outcome
outermost_outcome [] = None
outermost_outcome (first ∷ rest) = stored_first first.outcomes
