-- The numbers of arguments: a mode's inputs are among them, and all are before the fresh variables.
use Rattle.std.proofs.Common.{◌≡◌, inl, inr, ℕ, ◌<◌, true, ◌==◌, List, [], ◌∷◌, ◌++◌, length, refl, ◌∙◌, arith}
use Rattle.std.proofs.lemmas.Bool.Decides.{Decides-eqb}
use Rattle.merc_tree.specs.declared.declarations.Arg.{Arg}
use Rattle.merc_goal_tree.specs.Nodes.{Node}
use Rattle.merc_goal_tree.specs.Variables.{variables}
use Rattle.merc_order.specs.Bound.{Holds, among}
use Rattle.merc_order.specs.Procedures.{bound_at, numbers_below, beyond, first_fresh}
use Rattle.merc_order_laws.proofs.Facts.{clash, or_left, or_cases, among_append}
use Rattle.merc_order_laws.proofs.Bodies.{below_are, inputs_below as input_below}

beyond_all : (xs : List ℕ) (v : ℕ) → among xs v ≡ true → v < beyond xs
beyond_all [] v h = clash h refl
beyond_all (x ∷ xs) v h = elim (or_cases (v == x) (among xs v) h) as (λ _. v < beyond (x ∷ xs)) [
  | inl k ↦ omega (arith, (Decides-eqb v x).0 k)
  | inr k ↦ omega (arith, beyond_all xs v k)
]

pub argument_below : (arity : ℕ) (goal : Node) (v : ℕ) → v < arity → v < first_fresh (numbers_below arity) goal
argument_below arity goal v l =
    beyond_all (numbers_below arity ++ variables goal) v (among_append v (numbers_below arity) (variables goal) ∙ or_left (among (numbers_below arity) v) (among (variables goal) v) (below_are arity v l))

pub inputs_below : (places : List Arg) → Holds (bound_at places) (among (numbers_below (length places)))
inputs_below places v h = below_are (length places) v (input_below places v h)
