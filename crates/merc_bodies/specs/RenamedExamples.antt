-- A goal of every kind with other variables.
use Rattle.std.specs.Prelude.{◌≡◌, ℕ, ◌+◌, pos, List, [], ◌∷◌, refl}
use Rattle.merc_tree.specs.Term.{no_span}
use Rattle.merc_goal_tree.specs.Nodes.{Node, Simple, Conjunction, Parallel, Disjunction, Conditional, Negation, Quantified, nodes_of}
use Rattle.merc_goal_tree.specs.declared.goal.SimpleGoal.{SimpleGoal}
use Rattle.merc_goal_tree.specs.declared.goal.SimpleGoal.TheVariants.{True, Fail, Same, Shape, Arithmetic, Compare, Raise, Call}
use Rattle.merc_goal_tree.specs.declared.goal.Symbol.TheVariants.{Constructor, Integer, Text}
use Rattle.merc_goal_tree.specs.declared.goal.Operation.TheVariants.{Subtract}
use Rattle.merc_goal_tree.specs.declared.goal.Comparison.TheVariants.{AtMost}
use Rattle.merc_bodies.specs.Renamed.{renamed}

abbrev f : ℕ
f = 202

abbrev simple : SimpleGoal → Node
simple goal = Simple goal no_span

-- goals that hold no others, whose variables are numbered from this one on
abbrev each_simple : ℕ → List Node
each_simple at =
    simple True
    ∷ simple Fail
    ∷ simple (Same (at + 1) (at + 2))
    ∷ simple (Shape (at + 3) (Constructor f 2) ((at + 4) ∷ (at + 5) ∷ []))
    ∷ simple (Shape (at + 3) (Integer (pos 7)) [])
    ∷ simple (Shape (at + 3) (Text f) [])
    ∷ simple (Arithmetic Subtract (at + 6) (at + 7) (at + 8))
    ∷ simple (Compare AtMost (at + 1) (at + 7))
    ∷ simple (Raise (at + 9))
    ∷ simple (Call 4 ((at + 2) ∷ (at + 2) ∷ (at + 1) ∷ []))
    ∷ []

abbrev goal : ℕ → Node
goal variable = simple (Raise variable)

abbrev each_kind : ℕ → Node
each_kind at =
    Conjunction (nodes_of (
    Parallel (nodes_of (each_simple at)) no_span
    ∷ Disjunction (nodes_of (goal (at + 1) ∷ goal (at + 2) ∷ [])) no_span
    ∷ Conditional (goal (at + 1)) (goal (at + 2)) (goal (at + 3)) no_span
    ∷ Negation (goal (at + 4)) no_span
    ∷ Quantified ((at + 5) ∷ (at + 6) ∷ []) (goal (at + 5)) no_span
    ∷ []
    )) no_span

every_kind : renamed (λ variable. 50 + variable) (each_kind 0) ≡ each_kind 50
every_kind = refl

-- a quantifier's variables are renamed with its goal
not_the_goal_alone : renamed (λ variable. 50 + variable) (Quantified (5 ∷ []) (goal 5) no_span) ≡ Quantified (5 ∷ []) (goal 55) no_span → ⊥
not_the_goal_alone wrong = cc
