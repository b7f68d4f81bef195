-- The faults of goals that are still to be looked at. The last of a list of goals comes first.
use Rattle.std.specs.Prelude.{List, [], ◌∷◌, ◌++◌}
use Rattle.merc_base.specs.declared.refusal.Refusal.{Refusal}
use Rattle.merc_graded_tree.specs.declared.entries.Running.TheVariants.{Sequential, Parallel}
use Rattle.merc_graded_tree.specs.Nodes.{Node, Goal, Basic, Conjunction, Disjunction, Switch, Conditional, Negation, Quantified}
use Rattle.merc_grading.specs.Faults.{beside_faults, parallel_faults}

-- those of the conjuncts of a goal, if it is a parallel conjunction
abbrev pub own_goal_faults : Goal → List Refusal
own_goal_faults (Basic goal) = []
own_goal_faults (Conjunction Sequential goals) = []
own_goal_faults (Conjunction (Parallel site) goals) = beside_faults 1 goals
own_goal_faults (Disjunction goals) = []
own_goal_faults (Switch variable arms) = []
own_goal_faults (Conditional condition then_part else_part) = []
own_goal_faults (Negation goal) = []
own_goal_faults (Quantified own goal) = []

-- those of goals and of all that is in them
abbrev pub faults_in : List Node → List Refusal
faults_in [] = []
faults_in (first ∷ rest) = faults_in rest ++ parallel_faults first
