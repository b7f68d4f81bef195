-- Disjuncts come to the arms of their symbols, over the goals of the examples of categories.
use Rattle.std.specs.Prelude.{◌≡◌, Bool, true, false, List, [], ◌∷◌, map, refl}
use Rattle.std.proofs.Common.{ap}
use Rattle.merc_grading.specs.Known.{same_symbol}
use Rattle.merc_grading.specs.Switches.{Group}
use Rattle.merc_grading.specs.GradingExamples.{red, green, c, is_red, is_green}
use Rattle.merc_switch_choice.specs.Arms.{joined_in}

abbrev one_arm : List Group
one_arm = (red, is_red c ∷ []) ∷ []

same_arm : joined_in red (is_red c) one_arm ≡ (red, is_red c ∷ is_red c ∷ []) ∷ []
same_arm = refl

new_arm : joined_in green (is_green c) one_arm ≡ (red, is_red c ∷ []) ∷ (green, is_green c ∷ []) ∷ []
new_arm = refl

not_in_front : joined_in green (is_green c) one_arm ≡ (green, is_green c ∷ []) ∷ (red, is_red c ∷ []) ∷ [] → ⊥
not_in_front wrong =
    let are_red : ◌≡◌ {A = List Bool} (true ∷ false ∷ []) (false ∷ true ∷ []) = ap (map (λ group. same_symbol red group.0)) wrong in
    cc
