-- The variables of the parts of a goal.
use Rattle.std.specs.Prelude.{ℕ, List, []}
use Rattle.std.specs.List.{flat_map}
use Rattle.merc_base.specs.declared.place.Span.{Span}
use Rattle.merc_goal_tree.specs.declared.entries.Root.{Root}
use Rattle.merc_goal_tree.specs.declared.entries.Root.TheVariants.{Simple}
use Rattle.merc_goal_tree.specs.Variables.{variables_of}

-- a part's own, beside those of the goals that it joins
abbrev pub root_variables : Root → List ℕ
root_variables (Simple goal) = variables_of goal
root_variables other = []

abbrev pub parts_variables : List (Root × Span) → List ℕ
parts_variables parts = flat_map (λ part. root_variables part.0) parts
