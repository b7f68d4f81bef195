-- What a goal has besides what the goals have that it joins.
use Rattle.std.specs.Prelude.{ℕ, List, [], ◌∷◌, Some, None}
use Rattle.merc_graded_tree.specs.declared.entries.Running.TheVariants.{Sequential, Parallel}
use Rattle.merc_graded_tree.specs.Nodes.{Goal, Basic, Conjunction, Disjunction, Switch, Conditional, Negation, Quantified, Nodes}
use Rattle.merc_graded_tree.specs.Variables.{variables_of}

-- its own variables
abbrev pub own_variables : Goal → List ℕ
own_variables (Basic goal) = variables_of goal
own_variables (Conjunction running goals) = []
own_variables (Disjunction goals) = []
own_variables (Switch variable arms) = variable ∷ []
own_variables (Conditional condition then_part else_part) = []
own_variables (Negation goal) = []
own_variables (Quantified own goal) = []

-- the conjuncts that it forks
abbrev pub own_forked : Goal → List Nodes
own_forked (Basic goal) = []
own_forked (Conjunction Sequential goals) = []
own_forked (Conjunction (Parallel None) goals) = []
own_forked (Conjunction (Parallel (Some site)) goals) = goals ∷ []
own_forked (Disjunction goals) = []
own_forked (Switch variable arms) = []
own_forked (Conditional condition then_part else_part) = []
own_forked (Negation goal) = []
own_forked (Quantified own goal) = []
