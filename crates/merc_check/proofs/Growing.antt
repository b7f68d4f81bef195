-- A table that grew twice has grown.
use Rattle.std.proofs.Common.{◌≡◌, ℕ, List, ◌++◌, append_assoc, ap, ◌∙◌}

pub grows_on : (first second third : List (List ℕ)) → ((more : List (List ℕ)) × (second ≡ first ++ more)) → ((more : List (List ℕ)) × (third ≡ second ++ more))
    → (more : List (List ℕ)) × (third ≡ first ++ more)
grows_on first second third grew again = (
  grew.0 ++ again.0,
  again.1 ∙ ap (λ (names : List (List ℕ)). names ++ again.0) grew.1 ∙ append_assoc first grew.0 again.0,
)
