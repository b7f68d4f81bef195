-- Clauses of a predicate with one argument: `p(X) :- q(X, Y), q(Y, Z).` and `p(X) :- q(X, Y).`
use Rattle.std.specs.Prelude.{◌≡◌, ℕ, [], ◌∷◌, refl}
use Rattle.merc_tree.specs.Term.{no_span}
use Rattle.merc_goal_tree.specs.Nodes.{Node, Simple, Conjunction, nodes_of}
use Rattle.merc_goal_tree.specs.declared.goal.SimpleGoal.TheVariants.{Call}
use Rattle.merc_order_laws.specs.BodyNumbers.{own_count}

abbrev call : ℕ → ℕ → Node
call one other = Simple (Call 1 (one ∷ other ∷ [])) no_span

abbrev first : Node
first = Conjunction (nodes_of (call 0 1 ∷ call 1 2 ∷ [])) no_span

abbrev second : Node
second = call 0 1

-- Y and Z of the first clause, and Y of the second
three : own_count 1 (first ∷ second ∷ []) ≡ 3
three = refl

-- each clause has a Y of its own
not_shared : own_count 1 (first ∷ second ∷ []) ≡ 2 → ⊥
not_shared wrong = cc

-- of a goal that is asked X is counted too
with_arguments : own_count 0 (first ∷ []) ≡ 3
with_arguments = refl
