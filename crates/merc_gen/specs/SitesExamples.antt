-- Worked examples of the conjuncts that stand at sites: those of `( one & other ) & one` and of a goal behind it.
use Rattle.std.specs.Prelude.{◌≡◌, ℕ, [], ◌∷◌, Some, None, refl}
use Rattle.merc_goal_tree.specs.declared.goal.Symbol.TheVariants.{Constructor}
use Rattle.merc_graded_tree.specs.declared.entries.Running.TheVariants.{Parallel}
use Rattle.merc_graded_tree.specs.Nodes.{Node, Nodes, Conjunction, Disjunction, Switch, Conditional, Negation, Quantified, nodes_of, no_nodes, more_arms, no_arms}
use Rattle.merc_meaning.specs.RunExamples.{goal, sequence, truth, failure}
use Rattle.merc_gen.specs.Sites.{forked_in, forked_in_goal, forked_with, conjuncts_at}

abbrev pub fork : ℕ → Nodes → Node
fork number goals = goal (Conjunction (Parallel (Some (record { number = number }))) goals) []

abbrev pub inner : Nodes
inner = nodes_of (truth ∷ failure ∷ [])

abbrev pub outer : Nodes
outer = nodes_of (fork 1 inner ∷ truth ∷ [])

abbrev pub behind : Nodes
behind = nodes_of (failure ∷ failure ∷ [])

nested-example : forked_in (fork 0 outer) ≡ outer ∷ inner ∷ []
nested-example = refl

nested-not : forked_in (fork 0 outer) ≡ inner ∷ outer ∷ [] → ⊥
nested-not begins_with_the_inner = cc

sequence-example : forked_in (sequence (fork 0 behind ∷ fork 1 inner ∷ []) []) ≡ behind ∷ inner ∷ []
sequence-example = refl

without_site : forked_in (goal (Conjunction (Parallel None) outer) []) ≡ inner ∷ []
without_site = refl

disjunction-example : forked_in_goal (Disjunction (nodes_of (truth ∷ fork 0 inner ∷ []))) ≡ inner ∷ []
disjunction-example = refl

switch-example : forked_in_goal (Switch 0 (more_arms (Constructor 200 0) (fork 0 inner) (more_arms (Constructor 201 0) (fork 1 behind) no_arms))) ≡ inner ∷ behind ∷ []
switch-example = refl

conditional-example : forked_in_goal (Conditional (fork 0 behind) (fork 1 inner) (fork 2 behind)) ≡ behind ∷ inner ∷ behind ∷ []
conditional-example = refl

negation-example : forked_in_goal (Negation (goal (Quantified [] (fork 0 inner)) [])) ≡ inner ∷ []
negation-example = refl

-- a goal stands behind the trees
with-example : forked_with (fork 0 outer ∷ truth ∷ []) (fork 2 behind) ≡ outer ∷ inner ∷ behind ∷ []
with-example = refl

with-not : forked_with (truth ∷ []) (fork 0 inner) ≡ [] → ⊥
with-not leaves_the_goal_out = cc

at-example : conjuncts_at (outer ∷ inner ∷ behind ∷ []) 1 ≡ inner
at-example = refl

at-past : conjuncts_at (outer ∷ inner ∷ behind ∷ []) 3 ≡ no_nodes
at-past = refl

at-not : conjuncts_at (outer ∷ inner ∷ behind ∷ []) 1 ≡ outer → ⊥
at-not counts_from_one = cc
