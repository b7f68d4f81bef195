-- Entries of environments.
use Rattle.std.proofs.Common.{◌≡◌, ℕ, zero, suc, [], ◌∷◌, Option, refl, ap}
use Rattle.merc_value.specs.Value.{Value}
use Rattle.merc_meaning.specs.Trace.{Env}
use Rattle.merc_meaning.specs.Steps.{value_at, with_entry}

pub entry_same : (env : Env) (variable : ℕ) (entry : Option Value) → value_at (with_entry env variable entry) variable ≡ entry
entry_same [] zero entry = refl
entry_same [] (suc variable) entry = entry_same [] variable entry
entry_same (first ∷ env) zero entry = refl
entry_same (first ∷ env) (suc variable) entry = entry_same env variable entry

pub entry_other : (env : Env) (variable other : ℕ) (entry : Option Value) → (other ≡ variable → ⊥) → value_at (with_entry env variable entry) other ≡ value_at env other
entry_other [] zero zero entry h = absurd (h refl)
entry_other [] zero (suc other) entry h = refl
entry_other [] (suc variable) zero entry h = refl
entry_other [] (suc variable) (suc other) entry h = entry_other [] variable other entry (λ e. h (ap suc e))
entry_other (first ∷ env) zero zero entry h = absurd (h refl)
entry_other (first ∷ env) zero (suc other) entry h = refl
entry_other (first ∷ env) (suc variable) zero entry h = refl
entry_other (first ∷ env) (suc variable) (suc other) entry h = entry_other env variable other entry (λ e. h (ap suc e))
