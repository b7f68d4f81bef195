-- The variables of a few goals.
use Rattle.std.specs.Prelude.{◌≡◌, ℕ, List, [], ◌∷◌, refl}
use Rattle.merc_tree.specs.Term.{no_span}
use Rattle.merc_goal_tree.specs.declared.goal.Comparison.TheVariants.{Less}
use Rattle.merc_goal_tree.specs.declared.goal.Operation.TheVariants.{Add}
use Rattle.merc_goal_tree.specs.declared.goal.SimpleGoal.TheVariants.{Same, Shape, Arithmetic, Compare, Raise, Call}
use Rattle.merc_goal_tree.specs.declared.goal.Symbol.TheVariants.{Constructor}
use Rattle.merc_goal_tree.specs.Nodes.{Node, Simple, Conjunction, Conditional, Negation, Quantified, nodes_of}
use Rattle.merc_goal_tree.specs.Variables.{variables_of, variables, count, distinct}

same : variables_of (Same 1 2) ≡ 1 ∷ 2 ∷ []
same = refl

shape : variables_of (Shape 1 (Constructor 200 2) (2 ∷ 3 ∷ [])) ≡ 1 ∷ 2 ∷ 3 ∷ []
shape = refl

arithmetic : variables_of (Arithmetic Add 1 2 3) ≡ 1 ∷ 2 ∷ 3 ∷ []
arithmetic = refl

comparison : variables_of (Compare Less 1 2) ≡ 1 ∷ 2 ∷ []
comparison = refl

raised : variables_of (Raise 1) ≡ 1 ∷ []
raised = refl

abbrev call : List ℕ → Node
call arguments = Simple (Call 0 arguments) no_span

-- `( p(1) -> p(2) ; not p(1) ), some [9] p(3)`
abbrev whole : Node
whole = Conjunction (nodes_of (Conditional (call (1 ∷ [])) (call (2 ∷ [])) (Negation (call (1 ∷ [])) no_span) no_span ∷ Quantified (9 ∷ []) (call (3 ∷ [])) no_span ∷ [])) no_span

in_order : variables whole ≡ 1 ∷ 2 ∷ 1 ∷ 3 ∷ []
in_order = refl

list_is_none : variables whole ≡ 1 ∷ 2 ∷ 1 ∷ 9 ∷ 3 ∷ [] → ⊥
list_is_none wrong = cc

twice : count 1 (variables whole) ≡ 2
twice = refl

never : count 9 (variables whole) ≡ 0
never = refl

once_each : distinct (variables whole) ≡ 2 ∷ 1 ∷ 3 ∷ []
once_each = refl
