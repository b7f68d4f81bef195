-- What is kept of the variables that goals bring with them.
use Rattle.std.specs.Prelude.{◌≡◌, ℕ, Bool, List, [], ◌∷◌}
use Rattle.merc_goals.specs.Written.{Written, Quantified}
use Rattle.merc_goals.specs.Entries.{first_goal, goals_in}
use Rattle.merc_goals.specs.Entries.{GoalEntry}
use Rattle.merc_scopes.specs.declared.occurrence.Occurrence.{Occurrence}
use Rattle.merc_scopes.specs.Scopes.{at_of, free, introduced, own}

-- Of what a goal brings these are each name's first occurrence; for a quantifier exactly those of its variables.
abbrev pub Gives : (ℕ → Bool) → Written → List Occurrence → Type 0
Gives blank (Quantified variables goal span) found = found ≡ own variables (free blank goal)
Gives blank other found = (name : ℕ) → at_of name found ≡ at_of name (introduced blank other)

-- such a list for each of a goal's entries
abbrev pub AreBindings : (ℕ → Bool) → List GoalEntry → List (List Occurrence) → Type 0
AreBindings blank [] [] = Unit {0}
AreBindings blank [] (found ∷ rest) = ⊥
AreBindings blank (entry ∷ entries) [] = ⊥
AreBindings blank (entry ∷ entries) (found ∷ rest) = Gives blank (first_goal (goals_in (entry ∷ entries))) found × AreBindings blank entries rest
