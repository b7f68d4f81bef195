-- A number, and none.
use Rattle.std.specs.Prelude.{◌≡◌, pos, Some, None, refl}
use Rattle.merc_goal_tree.specs.declared.goal.Operation.TheVariants.{Add, Div}
use Rattle.merc_meaning.specs.Arithmetic.{arithmetic}
use Rattle.merc_arithmetic.specs.Results.{result_of}

some-example : arithmetic Add (pos 7) (pos 2) ≡ result_of (Some (pos 9))
some-example = refl

none-example : arithmetic Div (pos 7) (pos 0) ≡ result_of None
none-example = refl

some-not : arithmetic Div (pos 7) (pos 0) ≡ result_of (Some (pos 0)) → ⊥
some-not given = cc
