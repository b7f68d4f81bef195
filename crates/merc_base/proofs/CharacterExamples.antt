-- Each code is that of its character.
use Rattle.std.specs.Prelude.{◌≡◌, [], ◌∷◌, codes, refl}
use Rattle.merc_base.specs.Characters.{tab_code, line_end_code, return_code, space_code, bang_code, double_quote_code, percent_code, quote_code, open_code, close_code, star_code, comma_code, dot_code, slash_code, zero_code, nine_code, semicolon_code, upper_a_code, upper_f_code, upper_z_code, open_list_code, backslash_code, close_list_code, underscore_code, backquote_code, lower_a_code, lower_b_code, lower_f_code, lower_n_code, lower_o_code, lower_t_code, lower_x_code, lower_z_code, open_brace_code, bar_code, close_brace_code}

pub blanks-example : tab_code ∷ line_end_code ∷ return_code ∷ space_code ∷ [] ≡ codes "\t\n\r "
blanks-example = refl

pub quotes-example : double_quote_code ∷ quote_code ∷ backquote_code ∷ backslash_code ∷ [] ≡ codes "\"'`\\"
quotes-example = refl

pub brackets-example : open_code ∷ close_code ∷ open_list_code ∷ close_list_code ∷ open_brace_code ∷ close_brace_code ∷ [] ≡ codes "()[]{}"
brackets-example = refl

pub marks-example : bang_code ∷ percent_code ∷ star_code ∷ comma_code ∷ dot_code ∷ slash_code ∷ semicolon_code ∷ underscore_code ∷ bar_code ∷ [] ≡ codes "!%*,./;_|"
marks-example = refl

pub digits-example : zero_code ∷ nine_code ∷ [] ≡ codes "09"
digits-example = refl

pub upper-example : upper_a_code ∷ upper_f_code ∷ upper_z_code ∷ [] ≡ codes "AFZ"
upper-example = refl

pub lower-example : lower_a_code ∷ lower_b_code ∷ lower_f_code ∷ lower_n_code ∷ lower_o_code ∷ lower_t_code ∷ lower_x_code ∷ lower_z_code ∷ [] ≡ codes "abfnotxz"
lower-example = refl
