-- The variables of goals on a stack, those of the first goal on top.
use Rattle.std.specs.Prelude.{◌≡◌, ℕ, Bool, List, [], ◌∷◌, reverse, map, take, drop}
use Rattle.std.specs.List.{flat_map}
use Rattle.merc_goals.specs.Written.{Written}
use Rattle.merc_goals.specs.Entries.{first_goal}
use Rattle.merc_goals.specs.declared.goal.Form.{Form}
use Rattle.merc_goals.specs.declared.goal.Form.TheVariants.{Conjunction as ConjunctionForm, Parallel as ParallelForm, Disjunction as DisjunctionForm, Conditional as ConditionalForm, Negated as NegatedForm, Quantified as QuantifiedForm}
use Rattle.merc_scopes.specs.declared.first_places.FirstPlaces.{FirstPlaces}
use Rattle.merc_scopes.specs.declared.occurrence.Occurrence.{Occurrence}
use Rattle.merc_scopes.specs.Scopes.{at_of, free, shared}
use Rattle.merc_scopes.specs.Bindings.{Gives}
use Rattle.merc_scopes.specs.FirstPlaces.{Holds}

-- places are those of these lists, one by one
abbrev pub AllHold : List FirstPlaces → List (List Occurrence) → Type 0
AllHold [] [] = Unit {0}
AllHold [] (list ∷ lists) = ⊥
AllHold (places ∷ rest) [] = ⊥
AllHold (places ∷ rest) (list ∷ lists) = Holds places list × AllHold rest lists

-- A stack stands for goals.
abbrev pub Stands : (ℕ → Bool) → List FirstPlaces → List Written → Type 0
Stands blank standing goals = AllHold (reverse standing) (map (free blank) goals)

-- the occurrences of some lists, one after the other
abbrev pub together : List (List Occurrence) → List Occurrence
together lists = flat_map (λ list. list) lists

-- So many first lists are joined on a stack, and those that two of them share are found.
abbrev pub IsJoined : ℕ → List FirstPlaces → List (List Occurrence) → List Occurrence → Type 0
IsJoined count standing lists found =
    AllHold (reverse standing) (together (take count lists) ∷ drop count lists) × ((name : ℕ) → at_of name found ≡ at_of name (shared (take count lists)))

-- A stack stands for goals, of which the first brings these variables with it.
abbrev pub GoesOn : (ℕ → Bool) → List FirstPlaces → List Written → List Occurrence → Type 0
GoesOn blank standing goals found = Stands blank standing goals × Gives blank (first_goal goals) found

-- how many goals an entry has as its sub-goals
abbrev pub needs : Form → ℕ
needs (ConjunctionForm count) = count
needs (ParallelForm count) = count
needs (DisjunctionForm count) = count
needs ConditionalForm = 3
needs NegatedForm = 1
needs (QuantifiedForm variables) = 1
needs other = 0
