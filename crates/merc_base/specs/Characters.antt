-- The codes of characters, by which texts are read and written.
use Rattle.std.specs.Prelude.{ℕ}

abbrev pub tab_code : ℕ
tab_code = 9

abbrev pub line_end_code : ℕ
line_end_code = 10

abbrev pub return_code : ℕ
return_code = 13

abbrev pub space_code : ℕ
space_code = 32

abbrev pub bang_code : ℕ
bang_code = 33

abbrev pub double_quote_code : ℕ
double_quote_code = 34

abbrev pub percent_code : ℕ
percent_code = 37

abbrev pub quote_code : ℕ
quote_code = 39

abbrev pub open_code : ℕ
open_code = 40

abbrev pub close_code : ℕ
close_code = 41

abbrev pub star_code : ℕ
star_code = 42

abbrev pub comma_code : ℕ
comma_code = 44

abbrev pub dot_code : ℕ
dot_code = 46

abbrev pub slash_code : ℕ
slash_code = 47

abbrev pub zero_code : ℕ
zero_code = 48

abbrev pub nine_code : ℕ
nine_code = 57

abbrev pub semicolon_code : ℕ
semicolon_code = 59

abbrev pub upper_a_code : ℕ
upper_a_code = 65

abbrev pub upper_f_code : ℕ
upper_f_code = 70

abbrev pub upper_z_code : ℕ
upper_z_code = 90

abbrev pub open_list_code : ℕ
open_list_code = 91

abbrev pub backslash_code : ℕ
backslash_code = 92

abbrev pub close_list_code : ℕ
close_list_code = 93

abbrev pub underscore_code : ℕ
underscore_code = 95

abbrev pub backquote_code : ℕ
backquote_code = 96

abbrev pub lower_a_code : ℕ
lower_a_code = 97

abbrev pub lower_b_code : ℕ
lower_b_code = 98

abbrev pub lower_f_code : ℕ
lower_f_code = 102

abbrev pub lower_n_code : ℕ
lower_n_code = 110

abbrev pub lower_o_code : ℕ
lower_o_code = 111

abbrev pub lower_t_code : ℕ
lower_t_code = 116

abbrev pub lower_x_code : ℕ
lower_x_code = 120

abbrev pub lower_z_code : ℕ
lower_z_code = 122

abbrev pub open_brace_code : ℕ
open_brace_code = 123

abbrev pub bar_code : ℕ
bar_code = 124

abbrev pub close_brace_code : ℕ
close_brace_code = 125
