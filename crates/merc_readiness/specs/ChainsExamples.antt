-- Chains of if-then-elses, over variables by their numbers.
use Rattle.std.specs.Prelude.{◌≡◌, ℕ, [], ◌∷◌, refl}
use Rattle.merc_goal_tree.specs.declared.goal.SimpleGoal.TheVariants.{True, Raise}
use Rattle.merc_goal_tree.specs.Nodes.{Node, Simple, Conditional}
use Rattle.merc_tree.specs.Term.{no_span}
use Rattle.merc_readiness.specs.Chains.{Links, no_links, more_links, around, ends}

abbrev true_goal : Node
true_goal = Simple True no_span

abbrev raise : ℕ → Node
raise variable = Simple (Raise variable) no_span

-- `(true -> error 1 ; true -> error 2 ; error 3)`, as it is seen from its last else part

abbrev links : Links
links = more_links true_goal (raise 2) no_span (more_links true_goal (raise 1) no_span no_links)

the_first_outermost : around links (raise 3) ≡ Conditional true_goal (raise 1) (Conditional true_goal (raise 2) (raise 3) no_span) no_span
the_first_outermost = refl

the_innermost_first : ends links (raise 3)
    ≡ Conditional true_goal (raise 2) (raise 3) no_span
    ∷ Conditional true_goal (raise 1) (Conditional true_goal (raise 2) (raise 3) no_span) no_span
    ∷ []
the_innermost_first = refl
