-- How far a few searches for what a goal begins with have come, over the goals of the examples of categories.
use Rattle.std.specs.Prelude.{◌≡◌, ℕ, List, [], ◌∷◌, length, None, refl}
use Rattle.std.proofs.Common.{arith}
use Rattle.merc_goal_tree.specs.declared.goal.Symbol.{Symbol}
use Rattle.merc_graded_tree.specs.declared.basic.BasicGoal.TheVariants.{True, Test}
use Rattle.merc_graded_tree.specs.declared.entries.Running.TheVariants.{Sequential, Parallel}
use Rattle.merc_graded_tree.specs.Labels.{all_labels}
use Rattle.merc_grading.specs.GradingExamples.{red, green, c, d, n, m, basic, is_red, is_green}
use Rattle.merc_switch_choice.specs.Beginnings.{splits_with, left_with, Begins}

-- `N = M, D = green`, of which the last comes first
behind_test : splits_with ((c, red) ∷ []) (is_green d ∷ basic (Test n m) ∷ []) ≡ (c, red) ∷ (d, green) ∷ []
behind_test = refl

-- `true` is no unification
behind_truth : splits_with [] (is_green d ∷ basic True ∷ []) ≡ (d, green) ∷ [] → ⊥
behind_truth wrong = cc

one_after_the_other : left_with Sequential (is_red c ∷ is_red d ∷ []) (basic True ∷ []) ≡ basic True ∷ is_red d ∷ is_red c ∷ []
one_after_the_other = refl

side_by_side : left_with (Parallel None) (is_red c ∷ is_red d ∷ []) (basic True ∷ []) ≡ []
side_by_side = refl

side_by_side_not : left_with (Parallel None) (is_red c ∷ is_red d ∷ []) (basic True ∷ []) ≡ basic True ∷ [] → ⊥
side_by_side_not wrong = cc

-- `C = red` is gone through
Begins-split : Begins (is_red c) [] [] [] ((c, red) ∷ [])
Begins-split = let one : length (all_labels (is_red c ∷ [])) ≡ 1 = refl in record { same = refl; smaller = omega (arith, one) }

-- its split is lost
Begins-lost : Begins (is_red c) [] [] [] [] → ⊥
Begins-lost begins = let wrong : ◌≡◌ {A = List (ℕ × Symbol)} [] ((c, red) ∷ []) = begins.same in cc
