-- Whether a few symbols are all those of their type, over the types `color ---> red ; green` and `box ---> box(int)`.
use Rattle.std.specs.Prelude.{◌≡◌, true, false, [], ◌∷◌, pos, refl}
use Rattle.merc_goal_tree.specs.declared.goal.Symbol.TheVariants.{Integer}
use Rattle.merc_grading.specs.GradingExamples.{declared, red, green, box}
use Rattle.merc_det.specs.Symbols.{is_complete_by}

both_colors : is_complete_by declared (green ∷ red ∷ []) ≡ true
both_colors = refl

red_alone : is_complete_by declared (red ∷ []) ≡ false
red_alone = refl

red_alone_not : is_complete_by declared (red ∷ []) ≡ true → ⊥
red_alone_not wrong = cc

the_box : is_complete_by declared (box ∷ []) ≡ true
the_box = refl

-- integers have no end
an_integer : is_complete_by declared (Integer (pos 1) ∷ []) ≡ false
an_integer = refl

none : is_complete_by declared [] ≡ false
none = refl
