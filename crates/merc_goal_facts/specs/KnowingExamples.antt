-- Goals that are complete, of which others become one.
use Rattle.std.specs.Prelude.{◌≡◌, ◌∷◌, [], refl}
use Rattle.std.proofs.Common.{arith}
use Rattle.merc_goal_tree.specs.Nodes.{Node, Simple, Negation}
use Rattle.merc_goal_tree.specs.declared.goal.SimpleGoal.TheVariants.{Same, Raise, True}
use Rattle.merc_tree.specs.Term.{no_span}
use Rattle.merc_goal_facts.specs.declared.complete.Complete.{Complete}
use Rattle.merc_goal_facts.specs.Knowing.{variables_of_all, starts_from, AreThere}

-- `not 3 = 1` and `throw(3)`, behind which `true` stands

abbrev denied : Node
denied = Negation (Simple (Same 3 1) no_span) no_span

abbrev thrown : Node
thrown = Simple (Raise 3) no_span

one_behind_the_other : variables_of_all (denied ∷ thrown ∷ []) ≡ 3 ∷ 1 ∷ 3 ∷ []
one_behind_the_other = refl

-- Two head variables stand before them.
places : starts_from 2 (denied ∷ thrown ∷ Simple True no_span ∷ []) ≡ 2 ∷ 4 ∷ 5 ∷ []
places = refl

not_both_first : starts_from 2 (denied ∷ thrown ∷ []) ≡ 2 ∷ 2 ∷ [] → ⊥
not_both_first same = cc

-- the negation is the second part, the other goal the third

abbrev second : Complete
second = record { part = 1; start = 2 }

abbrev third : Complete
third = record { part = 2; start = 4 }

there : AreThere 3 (second ∷ third ∷ [])
there = (omega arith, (omega arith, tt))

not_there : AreThere 2 (second ∷ third ∷ []) → ⊥
not_there all = absurd (omega (arith, all.1.0))
