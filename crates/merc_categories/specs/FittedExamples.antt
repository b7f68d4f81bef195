-- Worked examples of bodies that are fitted to trees or not, over the types and variables of the examples of categories.
use Rattle.std.specs.Prelude.{◌≡◌, [], ◌∷◌, Some, None, refl}
use Rattle.merc_grading.specs.GradingExamples.{declared, types, red, green, c, n, is_red}
use Rattle.merc_categories.specs.Fitted.{AreFitted, typed_as}

AreFitted-one : AreFitted declared (typed_as types (is_red c) ∷ []) (is_red c ∷ [])
AreFitted-one = (refl, refl, tt)

-- an integer that is red
AreFitted-not : AreFitted declared (typed_as types (is_red n) ∷ []) (is_red n ∷ []) → ⊥
AreFitted-not fitted = let wrong : None ≡ Some (red ∷ green ∷ []) = fitted.1 in cc

-- one tree more than there are bodies
AreFitted-few : AreFitted declared (typed_as types (is_red c) ∷ []) (is_red c ∷ is_red c ∷ []) → ⊥
AreFitted-few fitted = fitted.2
