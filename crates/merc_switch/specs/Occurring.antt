-- The variables of a goal itself, without those of the goals that it joins, and which of them are outputs.
use Rattle.std.specs.Prelude.{ℕ, List, [], ◌∷◌, if◌then◌else◌}
use Rattle.merc_graded_tree.specs.declared.entries.Root.{Root}
use Rattle.merc_graded_tree.specs.declared.entries.Root.TheVariants.{Basic, Conjunction, Disjunction, Switch, Conditional, Negation, Quantified}
use Rattle.merc_graded_tree.specs.Variables.{variables_of}
use Rattle.merc_order.specs.Bound.{among}
use Rattle.merc_switch_choice.specs.Variables.{behind}

abbrev pub variables_at : Root → List ℕ
variables_at (Basic goal) = variables_of goal
variables_at (Conjunction running count) = []
variables_at (Disjunction count) = []
variables_at (Switch variable symbols) = variable ∷ []
variables_at Conditional = []
variables_at Negation = []
variables_at (Quantified own) = []

-- those of the variables that are outputs, behind others, each once
abbrev pub outputs_behind : List ℕ → List ℕ → List ℕ → List ℕ
outputs_behind outputs found [] = found
outputs_behind outputs found (first ∷ rest) = outputs_behind outputs (if among outputs first then behind found first else found) rest
