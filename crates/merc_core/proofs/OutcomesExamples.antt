-- What the definitions of outcomes that are stored at a join say.
use Rattle.std.proofs.Common.{◌≡◌, ℕ, List, [], ◌∷◌, Option, Some, None, refl}
use Rattle.merc_script.specs.declared.outcome.Outcome.{Outcome}
use Rattle.merc_script.specs.declared.outcome.Outcome.TheVariants.{Ok as Fine, Raise, Limit}
use Rattle.merc_core.specs.declared.join.Join.{Join}
use Rattle.merc_core.specs.Outcomes.{with_first, all_stored, joined_if, joined_at, joined_on, stored_first, outermost_outcome}

abbrev join : ℕ → List (Option Outcome) → Join
join limit outcomes = record { limit = limit; outcomes = outcomes; parent = [] }

with_first-each : (with_first (Some Limit) (Some (Fine 1 ∷ [])) ≡ Some (Limit ∷ Fine 1 ∷ [])) × (with_first None (Some []) ≡ None) × (with_first (Some Limit) None ≡ None)
with_first-each = (refl, refl, refl)

all_stored-each : (all_stored (Some (Fine 1) ∷ Some Limit ∷ []) ≡ Some (Fine 1 ∷ Limit ∷ [])) × (all_stored (None ∷ Some Limit ∷ []) ≡ None) × (all_stored (Some (Fine 1) ∷ None ∷ []) ≡ None) × (all_stored [] ≡ Some [])
all_stored-each = (refl, refl, refl, refl)

joined_if-each : (joined_if 9 (Some (Fine 4 ∷ Fine 5 ∷ [])) ≡ Some (Fine 9)) × (joined_if 9 None ≡ None)
joined_if-each = (refl, refl)

-- the steps are summed up, and may come to the limit, which one more passes
joined_at-each : (joined_at (join 9 (Some (Fine 4) ∷ Some (Fine 5) ∷ [])) ≡ Some (Fine 9)) × (joined_at (join 8 (Some (Fine 4) ∷ Some (Fine 5) ∷ [])) ≡ Some Limit)
joined_at-each = (refl, refl)

-- a child has not ended, though an exception to the left of it is sure to decide
joined_at-early : joined_at (join 9 (Some (Raise 7 1) ∷ None ∷ [])) ≡ None
joined_at-early = refl

joined_on-each : (joined_on 9 (Fine 1) (Some (Fine 4) ∷ []) ≡ Some (Fine 5)) × (joined_on 9 (Fine 1) [] ≡ Some (Fine 1)) × (joined_on 9 (Fine 1) (None ∷ []) ≡ None)
joined_on-each = (refl, refl, refl)

stored_first-each : (stored_first (Some (Fine 1) ∷ Some Limit ∷ []) ≡ Some (Fine 1)) × (stored_first (None ∷ Some Limit ∷ []) ≡ None) × (stored_first [] ≡ None)
stored_first-each = (refl, refl, refl)

-- that of the first join
outermost_outcome-each : (outermost_outcome (join 9 (Some (Fine 1) ∷ []) ∷ join 9 (Some Limit ∷ []) ∷ []) ≡ Some (Fine 1)) × (outermost_outcome [] ≡ None)
outermost_outcome-each = (refl, refl)
