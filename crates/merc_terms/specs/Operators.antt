-- The operator table.
use Rattle.std.specs.Prelude.{ℕ, ◌-◌, Bool, true, false, ◌==◌, ◌&&◌, not, List, [], ◌∷◌, find, Option, if◌then◌else◌}
use Rattle.merc_base.specs.Names.{all_name, ampersand_name, arrow_name, at_least_name, at_most_name, colon_colon_name, colon_minus_name, comma_name, div_name, else_name, end_module_name, equal_equal_name, equal_name, equivalent_name, func_name, grammar_arrow_name, greater_name, if_name, implies_name, import_module_name, is_name, less_name, minus_name, mod_name, mode_name, module_name, not_equal_name, not_name, not_provable_name, plus_name, pred_name, rem_name, semicolon_name, slash_slash_name, some_name, star_name, then_name, type_arrow_name, type_name}
use Rattle.merc_terms.specs.declared.operators.Fixity.{Fixity}
use Rattle.merc_terms.specs.declared.operators.Fixity.TheVariants.{Xfx, Xfy, Yfx, Fx, Fy, Fxy}
use Rattle.merc_terms.specs.declared.operators.Operator.{Operator}

-- the greatest priority of a whole term, and of an argument or list item
abbrev pub term_most : ℕ
term_most = 1200

abbrev pub argument_most : ℕ
argument_most = 1199

abbrev row : ℕ → Fixity → ℕ → Operator
row priority fixity name = record { name = name; priority = priority; fixity = fixity }

-- Each row has a priority, a fixity and an operator's name.
unfoldable pub operators : List Operator
operators =
    row 1200 Xfx colon_minus_name ∷ row 1200 Fx colon_minus_name ∷ row 1200 Xfx grammar_arrow_name ∷
    row 1199 Fx module_name ∷ row 1199 Fx end_module_name ∷ row 1199 Fx import_module_name ∷ row 1199 Fx mode_name ∷
    row 1180 Fx type_name ∷
    row 1179 Xfy type_arrow_name ∷
    row 1175 Xfx colon_colon_name ∷ row 1175 Xfx equal_equal_name ∷
    row 1170 Xfy else_name ∷
    row 1160 Fx if_name ∷
    row 1150 Xfx then_name ∷
    row 1100 Xfy semicolon_name ∷
    row 1050 Xfy arrow_name ∷
    row 1025 Xfy ampersand_name ∷
    row 1000 Xfy comma_name ∷
    row 950 Fxy some_name ∷ row 950 Fxy all_name ∷
    row 920 Xfy implies_name ∷ row 920 Xfy equivalent_name ∷
    row 900 Fy not_name ∷ row 900 Fy not_provable_name ∷
    row 800 Fx pred_name ∷ row 800 Fx func_name ∷
    row 701 Xfx is_name ∷
    row 700 Xfx equal_name ∷ row 700 Xfx not_equal_name ∷ row 700 Xfx less_name ∷ row 700 Xfx greater_name ∷ row 700 Xfx at_most_name ∷ row 700 Xfx at_least_name ∷
    row 500 Yfx plus_name ∷ row 500 Yfx minus_name ∷
    row 400 Yfx star_name ∷ row 400 Yfx slash_slash_name ∷ row 400 Yfx div_name ∷ row 400 Xfx mod_name ∷ row 400 Xfx rem_name ∷
    row 200 Fx minus_name ∷ []

abbrev pub is_infix : Fixity → Bool
is_infix Xfx = true
is_infix Xfy = true
is_infix Yfx = true
is_infix Fx = false
is_infix Fy = false
is_infix Fxy = false

-- whether the first of two operands may have the operator's priority
abbrev pub begins_y : Fixity → Bool
begins_y Xfx = false
begins_y Xfy = false
begins_y Yfx = true
begins_y Fx = false
begins_y Fy = false
begins_y Fxy = false

-- whether the last operand may have the operator's priority
abbrev pub ends_y : Fixity → Bool
ends_y Xfx = false
ends_y Xfy = true
ends_y Yfx = false
ends_y Fx = false
ends_y Fy = true
ends_y Fxy = true

-- whether a prefix operator takes two operands
abbrev pub takes_two : Fixity → Bool
takes_two Xfx = false
takes_two Xfy = false
takes_two Yfx = false
takes_two Fx = false
takes_two Fy = false
takes_two Fxy = true

-- the infix operator, and the prefix operator, of this name
abbrev pub infix_named : ℕ → Option Operator
infix_named name = find (λ operator. (operator.name == name) && is_infix operator.fixity) operators

abbrev pub prefix_named : ℕ → Option Operator
prefix_named name = find (λ operator. (operator.name == name) && not (is_infix operator.fixity)) operators

-- the greatest priority of the first of two operands
abbrev pub first_most : Operator → ℕ
first_most operator = if begins_y operator.fixity then operator.priority else operator.priority - 1

-- the greatest priority of an operator's last operand, which is its only one where it has one
abbrev pub last_most : Operator → ℕ
last_most operator = if ends_y operator.fixity then operator.priority else operator.priority - 1
