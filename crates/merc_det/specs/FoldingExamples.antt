-- The category of a few goals that are joined.
use Rattle.std.specs.Prelude.{◌≡◌, [], ◌∷◌, Some, None, refl}
use Rattle.merc_base.specs.declared.category.Category.TheVariants.{Det, Semidet, Multi, Nondet}
use Rattle.merc_grading.specs.GradingExamples.{declared, modes, types, c, is_red}
use Rattle.merc_grading.specs.Grading.{graded}
use Rattle.merc_det.specs.Folding.{joined_category, category_in}
use Rattle.merc_det.specs.declared.folding.Joint.TheVariants.{InTurn, Choice, Arms}

in_turn : joined_category InTurn (Det ∷ Semidet ∷ []) ≡ Semidet
in_turn = refl

choice : joined_category Choice (Det ∷ Det ∷ []) ≡ Multi
choice = refl

choice_is_no_det : joined_category Choice (Det ∷ Det ∷ []) ≡ Det → ⊥
choice_is_no_det wrong = cc

arms : joined_category Arms (Det ∷ Semidet ∷ []) ≡ Semidet
arms = refl

found : category_in (Some (graded declared modes types [] (is_red c))) ≡ Semidet
found = refl

-- one that is not there
not_found : category_in None ≡ Nondet
not_found = refl
