-- A table of names, seen as the list of their texts by number. Each text is there once, so that names are equal
-- where their texts are.
use Rattle.std.specs.Prelude.{◌≡◌, ℕ, List, [], ◌∷◌, Some, slice_get, codes}

-- the texts of the constants, which every table holds from the start: the words of the language, and those of the
-- library units
unfoldable pub fixed_names : List (List ℕ)
fixed_names =
    codes "division by zero" ∷ codes "[]" ∷ codes "[|]" ∷ codes "{}" ∷ codes "!" ∷ codes "!." ∷ codes "!:" ∷
    codes "pragma" ∷ codes "memo" ∷ codes "/" ∷ codes ":-" ∷ codes "-->" ∷ codes "module" ∷ codes "end_module" ∷
    codes "import_module" ∷ codes "mode" ∷ codes "type" ∷ codes "--->" ∷ codes "::" ∷ codes "==" ∷ codes "else" ∷
    codes "if" ∷ codes "then" ∷ codes ";" ∷ codes "->" ∷ codes "&" ∷ codes "," ∷ codes "some" ∷ codes "all" ∷
    codes "=>" ∷ codes "<=>" ∷ codes "not" ∷ codes "\\+" ∷ codes "pred" ∷ codes "func" ∷ codes "is" ∷ codes "=" ∷
    codes "\\=" ∷ codes "<" ∷ codes ">" ∷ codes "=<" ∷ codes ">=" ∷ codes "+" ∷ codes "-" ∷ codes "*" ∷ codes "//" ∷
    codes "div" ∷ codes "mod" ∷ codes "rem" ∷ codes "interface" ∷ codes "implementation" ∷ codes "true" ∷
    codes "fail" ∷ codes "false" ∷ codes "error" ∷ codes "in" ∷ codes "out" ∷ codes "int" ∷ codes "string" ∷
    codes "list" ∷ codes "bool" ∷ codes "maybe" ∷ codes "require" ∷ codes "det" ∷ codes "semidet" ∷ codes "multi" ∷
    codes "nondet" ∷ codes "erroneous" ∷ codes "failure" ∷ codes "cc_multi" ∷ codes "cc_nondet" ∷ codes "char" ∷
    codes "float" ∷ codes "uint" ∷ codes "int8" ∷ codes "int16" ∷ codes "int32" ∷ codes "int64" ∷ codes "uint8" ∷
    codes "uint16" ∷ codes "uint32" ∷ codes "uint64" ∷
    codes "no" ∷ codes "yes" ∷ codes "append" ∷ codes "member" ∷ codes "length" ∷ codes "reverse" ∷
    codes "list_reverse_onto" ∷ codes "T" ∷ codes "A" ∷ codes "M" ∷ codes "N" ∷ codes "X" ∷ codes "Xs" ∷ codes "Ys" ∷
    codes "Zs" ∷ codes "_" ∷ []

-- The number of each constant.
abbrev pub division_by_zero_name : ℕ
division_by_zero_name = 0

abbrev pub nil_name : ℕ
nil_name = 1

abbrev pub cons_name : ℕ
cons_name = 2

abbrev pub braces_name : ℕ
braces_name = 3

abbrev pub bang_name : ℕ
bang_name = 4

abbrev pub bang_dot_name : ℕ
bang_dot_name = 5

abbrev pub bang_colon_name : ℕ
bang_colon_name = 6

abbrev pub pragma_name : ℕ
pragma_name = 7

abbrev pub memo_name : ℕ
memo_name = 8

abbrev pub slash_name : ℕ
slash_name = 9

abbrev pub colon_minus_name : ℕ
colon_minus_name = 10

abbrev pub grammar_arrow_name : ℕ
grammar_arrow_name = 11

abbrev pub module_name : ℕ
module_name = 12

abbrev pub end_module_name : ℕ
end_module_name = 13

abbrev pub import_module_name : ℕ
import_module_name = 14

abbrev pub mode_name : ℕ
mode_name = 15

abbrev pub type_name : ℕ
type_name = 16

abbrev pub type_arrow_name : ℕ
type_arrow_name = 17

abbrev pub colon_colon_name : ℕ
colon_colon_name = 18

abbrev pub equal_equal_name : ℕ
equal_equal_name = 19

abbrev pub else_name : ℕ
else_name = 20

abbrev pub if_name : ℕ
if_name = 21

abbrev pub then_name : ℕ
then_name = 22

abbrev pub semicolon_name : ℕ
semicolon_name = 23

abbrev pub arrow_name : ℕ
arrow_name = 24

abbrev pub ampersand_name : ℕ
ampersand_name = 25

abbrev pub comma_name : ℕ
comma_name = 26

abbrev pub some_name : ℕ
some_name = 27

abbrev pub all_name : ℕ
all_name = 28

abbrev pub implies_name : ℕ
implies_name = 29

abbrev pub equivalent_name : ℕ
equivalent_name = 30

abbrev pub not_name : ℕ
not_name = 31

abbrev pub not_provable_name : ℕ
not_provable_name = 32

abbrev pub pred_name : ℕ
pred_name = 33

abbrev pub func_name : ℕ
func_name = 34

abbrev pub is_name : ℕ
is_name = 35

abbrev pub equal_name : ℕ
equal_name = 36

abbrev pub not_equal_name : ℕ
not_equal_name = 37

abbrev pub less_name : ℕ
less_name = 38

abbrev pub greater_name : ℕ
greater_name = 39

abbrev pub at_most_name : ℕ
at_most_name = 40

abbrev pub at_least_name : ℕ
at_least_name = 41

abbrev pub plus_name : ℕ
plus_name = 42

abbrev pub minus_name : ℕ
minus_name = 43

abbrev pub star_name : ℕ
star_name = 44

abbrev pub slash_slash_name : ℕ
slash_slash_name = 45

abbrev pub div_name : ℕ
div_name = 46

abbrev pub mod_name : ℕ
mod_name = 47

abbrev pub rem_name : ℕ
rem_name = 48

abbrev pub interface_name : ℕ
interface_name = 49

abbrev pub implementation_name : ℕ
implementation_name = 50

abbrev pub true_name : ℕ
true_name = 51

abbrev pub fail_name : ℕ
fail_name = 52

abbrev pub false_name : ℕ
false_name = 53

abbrev pub error_name : ℕ
error_name = 54

abbrev pub in_name : ℕ
in_name = 55

abbrev pub out_name : ℕ
out_name = 56

abbrev pub int_name : ℕ
int_name = 57

abbrev pub string_name : ℕ
string_name = 58

abbrev pub list_name : ℕ
list_name = 59

abbrev pub bool_name : ℕ
bool_name = 60

abbrev pub maybe_name : ℕ
maybe_name = 61

abbrev pub require_name : ℕ
require_name = 62

abbrev pub det_name : ℕ
det_name = 63

abbrev pub semidet_name : ℕ
semidet_name = 64

abbrev pub multi_name : ℕ
multi_name = 65

abbrev pub nondet_name : ℕ
nondet_name = 66

abbrev pub erroneous_name : ℕ
erroneous_name = 67

abbrev pub failure_name : ℕ
failure_name = 68

abbrev pub cc_multi_name : ℕ
cc_multi_name = 69

abbrev pub cc_nondet_name : ℕ
cc_nondet_name = 70

abbrev pub char_name : ℕ
char_name = 71

abbrev pub float_name : ℕ
float_name = 72

abbrev pub uint_name : ℕ
uint_name = 73

abbrev pub int8_name : ℕ
int8_name = 74

abbrev pub int16_name : ℕ
int16_name = 75

abbrev pub int32_name : ℕ
int32_name = 76

abbrev pub int64_name : ℕ
int64_name = 77

abbrev pub uint8_name : ℕ
uint8_name = 78

abbrev pub uint16_name : ℕ
uint16_name = 79

abbrev pub uint32_name : ℕ
uint32_name = 80

abbrev pub uint64_name : ℕ
uint64_name = 81

abbrev pub no_name : ℕ
no_name = 82

abbrev pub yes_name : ℕ
yes_name = 83

abbrev pub append_name : ℕ
append_name = 84

abbrev pub member_name : ℕ
member_name = 85

abbrev pub length_name : ℕ
length_name = 86

abbrev pub reverse_name : ℕ
reverse_name = 87

abbrev pub list_reverse_onto_name : ℕ
list_reverse_onto_name = 88

abbrev pub t_name : ℕ
t_name = 89

abbrev pub a_name : ℕ
a_name = 90

abbrev pub m_name : ℕ
m_name = 91

abbrev pub n_name : ℕ
n_name = 92

abbrev pub x_name : ℕ
x_name = 93

abbrev pub xs_name : ℕ
xs_name = 94

abbrev pub ys_name : ℕ
ys_name = 95

abbrev pub zs_name : ℕ
zs_name = 96

abbrev pub underscore_name : ℕ
underscore_name = 97

-- how many constants there are
abbrev pub constant_count : ℕ
constant_count = 98

-- each constant has its text
pub record HoldsFixed (names : List (List ℕ)) : Type 0 where
  pub text : (number : ℕ) (text : List ℕ) → slice_get fixed_names number ≡ Some text → slice_get names number ≡ Some text
