-- The variables that the parts of goals hold.
use Rattle.std.specs.Prelude.{ℕ, List, [], ◌∷◌, map}
use Rattle.merc_graded_tree.specs.declared.entries.Root.{Root}
use Rattle.merc_graded_tree.specs.declared.entries.Root.TheVariants.{Basic, Conjunction, Disjunction, Switch, Conditional, Negation, Quantified}
use Rattle.merc_graded_tree.specs.declared.entries.Label.{Label}
use Rattle.merc_graded_tree.specs.Labels.{labels_of}
use Rattle.merc_graded_tree.specs.Nodes.{Node}
use Rattle.merc_graded_tree.specs.Variables.{variables_of}

-- those of a part by itself
abbrev pub uses : Root → List ℕ
uses (Basic goal) = variables_of goal
uses (Conjunction running count) = []
uses (Disjunction count) = []
uses (Switch variable symbols) = variable ∷ []
uses Conditional = []
uses Negation = []
uses (Quantified own) = []

-- those of the parts with these labels, and those of a goal's parts
abbrev pub uses_in : List Label → List (List ℕ)
uses_in labels = map (λ label. uses label.root) labels

abbrev pub uses_of : Node → List (List ℕ)
uses_of whole = uses_in (labels_of whole)
