-- Tests on the parts of a term, which look at the shape of each part alone.
use Rattle.std.specs.Prelude.{ℕ, Bool, true, false, ◌==◌, ◌&&◌, ◌||◌, nat_lt, Some, None}
use Rattle.merc_base.specs.Names.{colon_colon_name}
use Rattle.merc_tree.specs.declared.term.Shape.{Shape}
use Rattle.merc_tree.specs.declared.term.Shape.TheVariants.{Variable as VariableShape, Integer as IntegerShape, Text as TextShape, Application as ApplicationShape}
use Rattle.merc_tree.specs.Term.{Term}
use Rattle.merc_item_forms.specs.declared.parts.PartTest.{PartTest}
use Rattle.merc_item_forms.specs.declared.parts.PartTest.TheVariants.{Literal, OutsideType, Moded, Wide}
use Rattle.merc_item_forms.specs.Forms.{arity_limit, is_literal, is_outside_plain, is_outside_applied, is_outside_type, is_moded, is_wide}

-- the test on terms
abbrev pub test_of : PartTest → Term → Bool
test_of Literal = is_literal
test_of OutsideType = is_outside_type
test_of Moded = is_moded
test_of Wide = is_wide

-- the same on shapes

abbrev pub is_literal_shape : Shape → Bool
is_literal_shape (VariableShape name) = false
is_literal_shape (IntegerShape value) = true
is_literal_shape (TextShape text) = true
is_literal_shape (ApplicationShape name qualifier arity) = false

abbrev pub is_outside_name : ℕ → ℕ → Bool
is_outside_name name arity = ((arity == 0) && is_outside_plain name) || is_outside_applied name

abbrev pub is_outside_shape : Shape → Bool
is_outside_shape (VariableShape name) = false
is_outside_shape (IntegerShape value) = false
is_outside_shape (TextShape text) = false
is_outside_shape (ApplicationShape name None arity) = is_outside_name name arity
is_outside_shape (ApplicationShape name (Some qualifier) arity) = false

abbrev pub is_moded_shape : Shape → Bool
is_moded_shape (VariableShape name) = false
is_moded_shape (IntegerShape value) = false
is_moded_shape (TextShape text) = false
is_moded_shape (ApplicationShape name None arity) = (arity == 2) && (name == colon_colon_name)
is_moded_shape (ApplicationShape name (Some qualifier) arity) = false

abbrev pub is_wide_shape : Shape → Bool
is_wide_shape (VariableShape name) = false
is_wide_shape (IntegerShape value) = false
is_wide_shape (TextShape text) = false
is_wide_shape (ApplicationShape name qualifier arity) = nat_lt arity_limit arity

abbrev pub shape_test : PartTest → Shape → Bool
shape_test Literal = is_literal_shape
shape_test OutsideType = is_outside_shape
shape_test Moded = is_moded_shape
shape_test Wide = is_wide_shape
