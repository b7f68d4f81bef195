-- Outcomes that are joined as they are stored are joined as a whole.
use Rattle.std.proofs.Common.{◌≡◌, ℕ, List, [], ◌∷◌, refl, ap, ◌∙◌}
use Rattle.std.specs.Prelude.{Option, Some, None}
use Rattle.merc_script.specs.declared.outcome.Outcome.{Outcome}
use Rattle.merc_script.specs.declared.outcome.Outcome.TheVariants.{Ok as Fine}
use Rattle.merc_script.specs.Joining.{joined_with, joined_behind}
use Rattle.merc_script.proofs.JoiningLaws.{joined-in-order}
use Rattle.merc_core.specs.Outcomes.{with_first, all_stored, joined_if, joined_on}

behind_if : ℕ → Outcome → Option (List Outcome) → Option Outcome
behind_if limit before None = None
behind_if limit before (Some outcomes) = Some (joined_behind limit before outcomes)

behind_first : (limit : ℕ) (before next : Outcome) (rest : Option (List Outcome)) → behind_if limit (joined_with limit before next) rest ≡ behind_if limit before (with_first (Some next) rest)
unfolding behind_if
behind_first limit before next None = refl
behind_first limit before next (Some outcomes) = refl

joined_on-is : (limit : ℕ) (before : Outcome) (stored : List (Option Outcome)) → joined_on limit before stored ≡ behind_if limit before (all_stored stored)
unfolding behind_if
joined_on-is limit before [] = refl
joined_on-is limit before (None ∷ rest) = refl
joined_on-is limit before (Some next ∷ rest) = joined_on-is limit (joined_with limit before next) rest ∙ behind_first limit before next (all_stored rest)

behind_all : (limit : ℕ) (all : Option (List Outcome)) → behind_if limit (Fine 0) all ≡ joined_if limit all
unfolding behind_if
behind_all limit None = refl
behind_all limit (Some outcomes) = ap (λ o. Some o) (joined-in-order limit outcomes)

pub joined_on-all : (limit : ℕ) (stored : List (Option Outcome)) → joined_on limit (Fine 0) stored ≡ joined_if limit (all_stored stored)
joined_on-all limit stored = joined_on-is limit (Fine 0) stored ∙ behind_all limit (all_stored stored)
