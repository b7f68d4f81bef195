-- Worked examples of what a goal has besides the goals that it joins.
use Rattle.std.specs.Prelude.{◌≡◌, [], ◌∷◌, Some, None, refl}
use Rattle.merc_goal_tree.specs.declared.goal.Symbol.TheVariants.{Constructor}
use Rattle.merc_graded_tree.specs.declared.basic.BasicGoal.TheVariants.{Assign}
use Rattle.merc_graded_tree.specs.declared.entries.Running.TheVariants.{Sequential, Parallel}
use Rattle.merc_graded_tree.specs.Nodes.{Basic, Conjunction, Negation, Switch, nodes_of, more_arms, no_arms}
use Rattle.merc_meaning.specs.RunExamples.{basic}
use Rattle.merc_gen.specs.SitesExamples.{fork, inner, outer}
use Rattle.merc_gen.specs.Walking.{own_variables, own_forked}

variables-basic : own_variables (Basic (Assign 2 3)) ≡ 2 ∷ 3 ∷ []
variables-basic = refl

variables-switch : own_variables (Switch 4 (more_arms (Constructor 200 0) (basic (Assign 2 3) (2 ∷ [])) no_arms)) ≡ 4 ∷ []
variables-switch = refl

variables-negation : own_variables (Negation (basic (Assign 2 3) (2 ∷ []))) ≡ []
variables-negation = refl

forked-example : own_forked (Conjunction (Parallel (Some (record { number = 0 }))) outer) ≡ outer ∷ []
forked-example = refl

forked-without_site : own_forked (Conjunction (Parallel None) outer) ≡ []
forked-without_site = refl

-- those of the goals that it joins are not its own
forked-inner : own_forked (Conjunction Sequential (nodes_of (fork 0 inner ∷ []))) ≡ inner ∷ [] → ⊥
forked-inner are_its_own = cc
