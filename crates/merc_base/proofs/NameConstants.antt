-- Each constant of specs/Names.antt has its text.
use Rattle.std.proofs.Common.{◌≡◌, Some, slice_get, codes, refl}
use Rattle.merc_base.specs.Names.{fixed_names, division_by_zero_name, nil_name, cons_name, braces_name, bang_name, bang_dot_name, bang_colon_name, pragma_name, memo_name, slash_name, colon_minus_name, grammar_arrow_name, module_name, end_module_name, import_module_name, mode_name, type_name, type_arrow_name, colon_colon_name, equal_equal_name, else_name, if_name, then_name, semicolon_name, arrow_name, ampersand_name, comma_name, some_name, all_name, implies_name, equivalent_name, not_name, not_provable_name, pred_name, func_name, is_name, equal_name, not_equal_name, less_name, greater_name, at_most_name, at_least_name, plus_name, minus_name, star_name, slash_slash_name, div_name, mod_name, rem_name, interface_name, implementation_name, true_name, fail_name, false_name, error_name, in_name, out_name, int_name, string_name, list_name, bool_name, maybe_name, require_name, det_name, semidet_name, multi_name, nondet_name, erroneous_name, failure_name, cc_multi_name, cc_nondet_name, char_name, float_name, uint_name, int8_name, int16_name, int32_name, int64_name, uint8_name, uint16_name, uint32_name, uint64_name, no_name, yes_name, append_name, member_name, length_name, reverse_name, list_reverse_onto_name, t_name, a_name, m_name, n_name, x_name, xs_name, ys_name, zs_name, underscore_name}

pub division_by_zero_name-text : slice_get fixed_names division_by_zero_name ≡ Some (codes "division by zero")
unfolding fixed_names
division_by_zero_name-text = refl

pub nil_name-text : slice_get fixed_names nil_name ≡ Some (codes "[]")
unfolding fixed_names
nil_name-text = refl

pub cons_name-text : slice_get fixed_names cons_name ≡ Some (codes "[|]")
unfolding fixed_names
cons_name-text = refl

pub braces_name-text : slice_get fixed_names braces_name ≡ Some (codes "{}")
unfolding fixed_names
braces_name-text = refl

pub bang_name-text : slice_get fixed_names bang_name ≡ Some (codes "!")
unfolding fixed_names
bang_name-text = refl

pub bang_dot_name-text : slice_get fixed_names bang_dot_name ≡ Some (codes "!.")
unfolding fixed_names
bang_dot_name-text = refl

pub bang_colon_name-text : slice_get fixed_names bang_colon_name ≡ Some (codes "!:")
unfolding fixed_names
bang_colon_name-text = refl

pub pragma_name-text : slice_get fixed_names pragma_name ≡ Some (codes "pragma")
unfolding fixed_names
pragma_name-text = refl

pub memo_name-text : slice_get fixed_names memo_name ≡ Some (codes "memo")
unfolding fixed_names
memo_name-text = refl

pub slash_name-text : slice_get fixed_names slash_name ≡ Some (codes "/")
unfolding fixed_names
slash_name-text = refl

pub colon_minus_name-text : slice_get fixed_names colon_minus_name ≡ Some (codes ":-")
unfolding fixed_names
colon_minus_name-text = refl

pub grammar_arrow_name-text : slice_get fixed_names grammar_arrow_name ≡ Some (codes "-->")
unfolding fixed_names
grammar_arrow_name-text = refl

pub module_name-text : slice_get fixed_names module_name ≡ Some (codes "module")
unfolding fixed_names
module_name-text = refl

pub end_module_name-text : slice_get fixed_names end_module_name ≡ Some (codes "end_module")
unfolding fixed_names
end_module_name-text = refl

pub import_module_name-text : slice_get fixed_names import_module_name ≡ Some (codes "import_module")
unfolding fixed_names
import_module_name-text = refl

pub mode_name-text : slice_get fixed_names mode_name ≡ Some (codes "mode")
unfolding fixed_names
mode_name-text = refl

pub type_name-text : slice_get fixed_names type_name ≡ Some (codes "type")
unfolding fixed_names
type_name-text = refl

pub type_arrow_name-text : slice_get fixed_names type_arrow_name ≡ Some (codes "--->")
unfolding fixed_names
type_arrow_name-text = refl

pub colon_colon_name-text : slice_get fixed_names colon_colon_name ≡ Some (codes "::")
unfolding fixed_names
colon_colon_name-text = refl

pub equal_equal_name-text : slice_get fixed_names equal_equal_name ≡ Some (codes "==")
unfolding fixed_names
equal_equal_name-text = refl

pub else_name-text : slice_get fixed_names else_name ≡ Some (codes "else")
unfolding fixed_names
else_name-text = refl

pub if_name-text : slice_get fixed_names if_name ≡ Some (codes "if")
unfolding fixed_names
if_name-text = refl

pub then_name-text : slice_get fixed_names then_name ≡ Some (codes "then")
unfolding fixed_names
then_name-text = refl

pub semicolon_name-text : slice_get fixed_names semicolon_name ≡ Some (codes ";")
unfolding fixed_names
semicolon_name-text = refl

pub arrow_name-text : slice_get fixed_names arrow_name ≡ Some (codes "->")
unfolding fixed_names
arrow_name-text = refl

pub ampersand_name-text : slice_get fixed_names ampersand_name ≡ Some (codes "&")
unfolding fixed_names
ampersand_name-text = refl

pub comma_name-text : slice_get fixed_names comma_name ≡ Some (codes ",")
unfolding fixed_names
comma_name-text = refl

pub some_name-text : slice_get fixed_names some_name ≡ Some (codes "some")
unfolding fixed_names
some_name-text = refl

pub all_name-text : slice_get fixed_names all_name ≡ Some (codes "all")
unfolding fixed_names
all_name-text = refl

pub implies_name-text : slice_get fixed_names implies_name ≡ Some (codes "=>")
unfolding fixed_names
implies_name-text = refl

pub equivalent_name-text : slice_get fixed_names equivalent_name ≡ Some (codes "<=>")
unfolding fixed_names
equivalent_name-text = refl

pub not_name-text : slice_get fixed_names not_name ≡ Some (codes "not")
unfolding fixed_names
not_name-text = refl

pub not_provable_name-text : slice_get fixed_names not_provable_name ≡ Some (codes "\\+")
unfolding fixed_names
not_provable_name-text = refl

pub pred_name-text : slice_get fixed_names pred_name ≡ Some (codes "pred")
unfolding fixed_names
pred_name-text = refl

pub func_name-text : slice_get fixed_names func_name ≡ Some (codes "func")
unfolding fixed_names
func_name-text = refl

pub is_name-text : slice_get fixed_names is_name ≡ Some (codes "is")
unfolding fixed_names
is_name-text = refl

pub equal_name-text : slice_get fixed_names equal_name ≡ Some (codes "=")
unfolding fixed_names
equal_name-text = refl

pub not_equal_name-text : slice_get fixed_names not_equal_name ≡ Some (codes "\\=")
unfolding fixed_names
not_equal_name-text = refl

pub less_name-text : slice_get fixed_names less_name ≡ Some (codes "<")
unfolding fixed_names
less_name-text = refl

pub greater_name-text : slice_get fixed_names greater_name ≡ Some (codes ">")
unfolding fixed_names
greater_name-text = refl

pub at_most_name-text : slice_get fixed_names at_most_name ≡ Some (codes "=<")
unfolding fixed_names
at_most_name-text = refl

pub at_least_name-text : slice_get fixed_names at_least_name ≡ Some (codes ">=")
unfolding fixed_names
at_least_name-text = refl

pub plus_name-text : slice_get fixed_names plus_name ≡ Some (codes "+")
unfolding fixed_names
plus_name-text = refl

pub minus_name-text : slice_get fixed_names minus_name ≡ Some (codes "-")
unfolding fixed_names
minus_name-text = refl

pub star_name-text : slice_get fixed_names star_name ≡ Some (codes "*")
unfolding fixed_names
star_name-text = refl

pub slash_slash_name-text : slice_get fixed_names slash_slash_name ≡ Some (codes "//")
unfolding fixed_names
slash_slash_name-text = refl

pub div_name-text : slice_get fixed_names div_name ≡ Some (codes "div")
unfolding fixed_names
div_name-text = refl

pub mod_name-text : slice_get fixed_names mod_name ≡ Some (codes "mod")
unfolding fixed_names
mod_name-text = refl

pub rem_name-text : slice_get fixed_names rem_name ≡ Some (codes "rem")
unfolding fixed_names
rem_name-text = refl

pub interface_name-text : slice_get fixed_names interface_name ≡ Some (codes "interface")
unfolding fixed_names
interface_name-text = refl

pub implementation_name-text : slice_get fixed_names implementation_name ≡ Some (codes "implementation")
unfolding fixed_names
implementation_name-text = refl

pub true_name-text : slice_get fixed_names true_name ≡ Some (codes "true")
unfolding fixed_names
true_name-text = refl

pub fail_name-text : slice_get fixed_names fail_name ≡ Some (codes "fail")
unfolding fixed_names
fail_name-text = refl

pub false_name-text : slice_get fixed_names false_name ≡ Some (codes "false")
unfolding fixed_names
false_name-text = refl

pub error_name-text : slice_get fixed_names error_name ≡ Some (codes "error")
unfolding fixed_names
error_name-text = refl

pub in_name-text : slice_get fixed_names in_name ≡ Some (codes "in")
unfolding fixed_names
in_name-text = refl

pub out_name-text : slice_get fixed_names out_name ≡ Some (codes "out")
unfolding fixed_names
out_name-text = refl

pub int_name-text : slice_get fixed_names int_name ≡ Some (codes "int")
unfolding fixed_names
int_name-text = refl

pub string_name-text : slice_get fixed_names string_name ≡ Some (codes "string")
unfolding fixed_names
string_name-text = refl

pub list_name-text : slice_get fixed_names list_name ≡ Some (codes "list")
unfolding fixed_names
list_name-text = refl

pub bool_name-text : slice_get fixed_names bool_name ≡ Some (codes "bool")
unfolding fixed_names
bool_name-text = refl

pub maybe_name-text : slice_get fixed_names maybe_name ≡ Some (codes "maybe")
unfolding fixed_names
maybe_name-text = refl

pub require_name-text : slice_get fixed_names require_name ≡ Some (codes "require")
unfolding fixed_names
require_name-text = refl

pub det_name-text : slice_get fixed_names det_name ≡ Some (codes "det")
unfolding fixed_names
det_name-text = refl

pub semidet_name-text : slice_get fixed_names semidet_name ≡ Some (codes "semidet")
unfolding fixed_names
semidet_name-text = refl

pub multi_name-text : slice_get fixed_names multi_name ≡ Some (codes "multi")
unfolding fixed_names
multi_name-text = refl

pub nondet_name-text : slice_get fixed_names nondet_name ≡ Some (codes "nondet")
unfolding fixed_names
nondet_name-text = refl

pub erroneous_name-text : slice_get fixed_names erroneous_name ≡ Some (codes "erroneous")
unfolding fixed_names
erroneous_name-text = refl

pub failure_name-text : slice_get fixed_names failure_name ≡ Some (codes "failure")
unfolding fixed_names
failure_name-text = refl

pub cc_multi_name-text : slice_get fixed_names cc_multi_name ≡ Some (codes "cc_multi")
unfolding fixed_names
cc_multi_name-text = refl

pub cc_nondet_name-text : slice_get fixed_names cc_nondet_name ≡ Some (codes "cc_nondet")
unfolding fixed_names
cc_nondet_name-text = refl

pub char_name-text : slice_get fixed_names char_name ≡ Some (codes "char")
unfolding fixed_names
char_name-text = refl

pub float_name-text : slice_get fixed_names float_name ≡ Some (codes "float")
unfolding fixed_names
float_name-text = refl

pub uint_name-text : slice_get fixed_names uint_name ≡ Some (codes "uint")
unfolding fixed_names
uint_name-text = refl

pub int8_name-text : slice_get fixed_names int8_name ≡ Some (codes "int8")
unfolding fixed_names
int8_name-text = refl

pub int16_name-text : slice_get fixed_names int16_name ≡ Some (codes "int16")
unfolding fixed_names
int16_name-text = refl

pub int32_name-text : slice_get fixed_names int32_name ≡ Some (codes "int32")
unfolding fixed_names
int32_name-text = refl

pub int64_name-text : slice_get fixed_names int64_name ≡ Some (codes "int64")
unfolding fixed_names
int64_name-text = refl

pub uint8_name-text : slice_get fixed_names uint8_name ≡ Some (codes "uint8")
unfolding fixed_names
uint8_name-text = refl

pub uint16_name-text : slice_get fixed_names uint16_name ≡ Some (codes "uint16")
unfolding fixed_names
uint16_name-text = refl

pub uint32_name-text : slice_get fixed_names uint32_name ≡ Some (codes "uint32")
unfolding fixed_names
uint32_name-text = refl

pub uint64_name-text : slice_get fixed_names uint64_name ≡ Some (codes "uint64")
unfolding fixed_names
uint64_name-text = refl

pub no_name-text : slice_get fixed_names no_name ≡ Some (codes "no")
unfolding fixed_names
no_name-text = refl

pub yes_name-text : slice_get fixed_names yes_name ≡ Some (codes "yes")
unfolding fixed_names
yes_name-text = refl

pub append_name-text : slice_get fixed_names append_name ≡ Some (codes "append")
unfolding fixed_names
append_name-text = refl

pub member_name-text : slice_get fixed_names member_name ≡ Some (codes "member")
unfolding fixed_names
member_name-text = refl

pub length_name-text : slice_get fixed_names length_name ≡ Some (codes "length")
unfolding fixed_names
length_name-text = refl

pub reverse_name-text : slice_get fixed_names reverse_name ≡ Some (codes "reverse")
unfolding fixed_names
reverse_name-text = refl

pub list_reverse_onto_name-text : slice_get fixed_names list_reverse_onto_name ≡ Some (codes "list_reverse_onto")
unfolding fixed_names
list_reverse_onto_name-text = refl

pub t_name-text : slice_get fixed_names t_name ≡ Some (codes "T")
unfolding fixed_names
t_name-text = refl

pub a_name-text : slice_get fixed_names a_name ≡ Some (codes "A")
unfolding fixed_names
a_name-text = refl

pub m_name-text : slice_get fixed_names m_name ≡ Some (codes "M")
unfolding fixed_names
m_name-text = refl

pub n_name-text : slice_get fixed_names n_name ≡ Some (codes "N")
unfolding fixed_names
n_name-text = refl

pub x_name-text : slice_get fixed_names x_name ≡ Some (codes "X")
unfolding fixed_names
x_name-text = refl

pub xs_name-text : slice_get fixed_names xs_name ≡ Some (codes "Xs")
unfolding fixed_names
xs_name-text = refl

pub ys_name-text : slice_get fixed_names ys_name ≡ Some (codes "Ys")
unfolding fixed_names
ys_name-text = refl

pub zs_name-text : slice_get fixed_names zs_name ≡ Some (codes "Zs")
unfolding fixed_names
zs_name-text = refl

pub underscore_name-text : slice_get fixed_names underscore_name ≡ Some (codes "_")
unfolding fixed_names
underscore_name-text = refl
