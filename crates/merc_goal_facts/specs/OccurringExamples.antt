-- Where variables occur.
use Rattle.std.specs.Prelude.{◌≡◌, true, false, ◌∷◌, [], Some, None, refl}
use Rattle.merc_goal_tree.specs.declared.entries.Root.TheVariants.{Simple, Negation}
use Rattle.merc_goal_tree.specs.declared.goal.SimpleGoal.TheVariants.{Same, Raise}
use Rattle.merc_tree.specs.Term.{no_span}
use Rattle.merc_goal_facts.specs.declared.occurrences.Reach.{Reach}
use Rattle.merc_goal_facts.specs.Occurring.{parts_variables}
use Rattle.merc_goal_facts.specs.Reaches.{starts_before, ends_behind, reaching}

-- a variable at the places 2 and 5

abbrev two_places : Reach
two_places = reaching (Some (reaching None 3)) 6

from_to : two_places ≡ record { first = 2; end = 6 }
from_to = refl

before_third : starts_before (Some two_places) 3 ≡ true
before_third = refl

not_before_second : starts_before (Some two_places) 2 ≡ false
not_before_second = refl

at_fifth : ends_behind (Some two_places) 5 ≡ true
at_fifth = refl

not_behind : ends_behind (Some two_places) 6 ≡ false
not_behind = refl

nowhere : starts_before None 7 ≡ false
nowhere = refl

nowhere_behind : ends_behind None 0 ≡ false
nowhere_behind = refl

-- `not 3 = 1, throw(3)`
of_parts : parts_variables ((Simple (Same 3 1), no_span) ∷ (Negation, no_span) ∷ (Simple (Raise 3), no_span) ∷ []) ≡ 3 ∷ 1 ∷ 3 ∷ []
of_parts = refl
