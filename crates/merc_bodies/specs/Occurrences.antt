-- The variables of goals that are no arguments.
use Rattle.std.specs.Prelude.{ℕ, nat_le, List, []}
use Rattle.std.specs.List.{filter}
use Rattle.merc_base.specs.declared.place.Span.{Span}
use Rattle.merc_goal_tree.specs.declared.entries.Root.{Root}
use Rattle.merc_goal_tree.specs.declared.entries.Root.TheVariants.{Simple}
use Rattle.merc_goal_tree.specs.Nodes.{Node}
use Rattle.merc_goal_tree.specs.Variables.{variables_of, variables}

abbrev pub root_variables : Root → List ℕ
root_variables (Simple goal) = variables_of goal
root_variables other = []

-- those of these that are no arguments, each as often as it is there
abbrev pub own_in : ℕ → List ℕ → List ℕ
own_in arity among = filter (λ variable. nat_le arity variable) among

abbrev pub own_among : ℕ → Node → List ℕ
own_among arity form = own_in arity (variables form)

abbrev pub part_variables : Root × Span → List ℕ
part_variables part = root_variables part.0
