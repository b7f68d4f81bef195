-- When a few disjuncts can be a switch, over the goals of the examples of categories.
use Rattle.std.specs.Prelude.{◌≡◌, ◌≤◌, true, false, List, [], ◌∷◌, refl}
use Rattle.std.proofs.Common.{arith}
use Rattle.merc_graded_tree.specs.Nodes.{Node}
use Rattle.merc_order.specs.Bound.{among}
use Rattle.merc_grading.specs.Choices.{CanSwitch, IsChoice}
use Rattle.merc_grading.specs.GradingExamples.{red, green, declared, types, c, d, both, is_red, is_green}

can_switch : CanSwitch (among (c ∷ [])) [] (is_red c ∷ is_green c ∷ []) c
can_switch = record { is_bound = refl; unused = refl; symbols = ((red, refl), ((green, refl), tt)) }

not_bound : CanSwitch (among (d ∷ [])) [] (is_red c ∷ is_green c ∷ []) c → ⊥
not_bound can = let bound = can.is_bound in cc

used_before : CanSwitch (among (c ∷ [])) (c ∷ []) (is_red c ∷ is_green c ∷ []) c → ⊥
used_before can = let unused = can.unused in cc

not_in_each : CanSwitch (among (c ∷ d ∷ [])) [] (is_red c ∷ is_red d ∷ []) c → ⊥
not_in_each can = let last = can.symbols.1.0.1 in cc

-- Of two variables that both have all symbols it is not the one that is second in the text, though it is split first.

abbrev on_both : List Node
on_both = both (is_red d ∷ is_red c ∷ []) ∷ both (is_green d ∷ is_green c ∷ []) ∷ []

first_can : CanSwitch (among (c ∷ d ∷ [])) [] on_both c
first_can = record { is_bound = refl; unused = refl; symbols = ((red, refl), ((green, refl), tt)) }

second_not : IsChoice declared types (among (c ∷ d ∷ [])) [] on_both d → ⊥
second_not is_choice = let wrong : 1 ≤ 0 = is_choice.first c first_can refl in absurd (omega (arith, wrong))

-- Where the second alone has all symbols it is not the first.

abbrev all_of_second : List Node
all_of_second = both (is_red c ∷ is_red d ∷ []) ∷ both (is_red c ∷ is_green d ∷ []) ∷ []

second_can : CanSwitch (among (c ∷ d ∷ [])) [] all_of_second d
second_can = record { is_bound = refl; unused = refl; symbols = ((red, refl), ((green, refl), tt)) }

first_not : IsChoice declared types (among (c ∷ d ∷ [])) [] all_of_second c → ⊥
first_not is_choice = let wrong : false ≡ true = is_choice.complete d second_can refl in cc
