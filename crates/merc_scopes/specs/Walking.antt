-- Terms that are still to be walked, with their numbers.
use Rattle.std.specs.Prelude.{ℕ, Bool, List, [], ◌∷◌, ◌++◌}
use Rattle.merc_goals.specs.Numbers.{NumberedTerm}
use Rattle.merc_scopes.specs.declared.occurrence.Occurrence.{Occurrence}
use Rattle.merc_scopes.specs.Scopes.{occurrences}

-- the variables of the terms on a stack, those of the last of them first
abbrev pub stacked : (ℕ → Bool) → List NumberedTerm → List Occurrence
stacked blank [] = []
stacked blank (numbered ∷ rest) = stacked blank rest ++ occurrences blank numbered.at numbered.term
