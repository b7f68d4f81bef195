-- The mode that a call takes, by its number and how many inputs it has.
use Rattle.std.specs.Prelude.{◌≡◌, [], ◌∷◌, Some, None, refl}
use Rattle.merc_base.specs.declared.category.Category.TheVariants.{Det}
use Rattle.merc_tree.specs.declared.declarations.Arg.TheVariants.{Input, Output}
use Rattle.merc_order.specs.OrderExamples.{mode}
use Rattle.merc_readiness.specs.CallModeCode.{wider_of, in_short}

more_inputs : wider_of 0 3 (Some (1, 2)) ≡ (0, 3)
more_inputs = refl

fewer_inputs : wider_of 0 2 (Some (1, 3)) ≡ (1, 3)
fewer_inputs = refl

-- the first where they have as many
as_many : wider_of 0 2 (Some (1, 2)) ≡ (0, 2)
as_many = refl

alone : wider_of 0 2 None ≡ (0, 2)
alone = refl

number_and_inputs : in_short (Some (4, mode (Input ∷ Output ∷ Input ∷ []) Det)) ≡ Some (4, 2)
number_and_inputs = refl
