-- Goals built anew from their parts, with new variables.
use Rattle.std.specs.Prelude.{ℕ, ◌+◌, ◌-◌, ◌≤◌, List, [], ◌∷◌, map}
use Rattle.merc_base.specs.declared.place.Span.{Span}
use Rattle.merc_goal_tree.specs.declared.entries.Root.{Root}
use Rattle.merc_goal_tree.specs.declared.entries.Root.TheVariants.{Simple, Conjunction, Parallel, Disjunction, Conditional, Negation, Quantified}
use Rattle.merc_goal_tree.specs.Nodes.{Node}
use Rattle.merc_goal_tree.specs.Roots.{arity_of, joined}
use Rattle.merc_bodies.specs.Renamed.{renamed_goal}

abbrev pub renamed_root : (ℕ → ℕ) → Root → Root
renamed_root new (Simple goal) = Simple (renamed_goal new goal)
renamed_root new (Conjunction count) = Conjunction count
renamed_root new (Parallel count) = Parallel count
renamed_root new (Disjunction count) = Disjunction count
renamed_root new Conditional = Conditional
renamed_root new Negation = Negation
renamed_root new (Quantified own) = Quantified (map new own)

-- what goals become where these parts, with new variables, are put behind them one after the other
abbrev pub rebuilt : (ℕ → ℕ) → List (Root × Span) → List Node → List Node
rebuilt new [] goals = goals
rebuilt new (part ∷ parts) goals = rebuilt new parts (joined (renamed_root new part.0) part.1 goals)

-- each part finds as many goals as it joins, where there are so many at first
abbrev pub AreFound : List (Root × Span) → ℕ → Type 0
AreFound [] count = Unit {0}
AreFound (part ∷ parts) count = (arity_of part.0 ≤ count) × AreFound parts (count - arity_of part.0 + 1)
