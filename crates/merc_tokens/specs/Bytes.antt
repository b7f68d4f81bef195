-- Classes of bytes.
use Rattle.std.specs.Prelude.{ℕ, ◌+◌, ◌-◌, Bool, false, ◌==◌, nat_le, nat_lt, ◌&&◌, ◌||◌, not, List, [], ◌∷◌, if◌then◌else◌, codes}
use Rattle.std.specs.List.{list_any}
use Rattle.merc_base.specs.Characters.{backquote_code, bang_code, bar_code, close_brace_code, close_code, close_list_code, comma_code, double_quote_code, line_end_code, lower_a_code, lower_f_code, lower_z_code, nine_code, open_brace_code, open_code, open_list_code, percent_code, quote_code, return_code, semicolon_code, space_code, tab_code, underscore_code, upper_a_code, upper_f_code, upper_z_code, zero_code}
use Rattle.merc_tokens.specs.declared.bytes.Start.{Start}
use Rattle.merc_tokens.specs.declared.bytes.Start.TheVariants.{Blank, Percent, Lower, Upper, Digit, Quote, DoubleQuote, Semicolon, Open, Close, OpenList, CloseList, Comma, Bar, Outside, Graphic, Other}
use Rattle.merc_tokens.specs.declared.bytes.Class.{Class}
use Rattle.merc_tokens.specs.declared.bytes.Class.TheVariants.{Word, Graphic as GraphicClass, Line, Digits}

-- a blank, a tab, a line end or a carriage return
abbrev pub is_blank : ℕ → Bool
is_blank byte = (byte == space_code) || (byte == tab_code) || (byte == line_end_code) || (byte == return_code)

abbrev pub is_lower : ℕ → Bool
is_lower byte = nat_le lower_a_code byte && nat_le byte lower_z_code

abbrev pub is_upper : ℕ → Bool
is_upper byte = nat_le upper_a_code byte && nat_le byte upper_z_code

abbrev pub is_digit : ℕ → Bool
is_digit byte = nat_le zero_code byte && nat_le byte nine_code

-- a letter or `_`
abbrev pub is_letter : ℕ → Bool
is_letter byte = is_lower byte || is_upper byte || (byte == underscore_code)

-- a letter, a digit or `_`
abbrev pub is_word : ℕ → Bool
is_word byte = is_lower byte || is_upper byte || is_digit byte || (byte == underscore_code)

abbrev pub is_graphic : ℕ → Bool
is_graphic byte = list_any (λ graphic. byte == graphic) (codes "+-*/\\^<>=~:.?@#&$")

abbrev pub is_underscore : ℕ → Bool
is_underscore byte = byte == underscore_code

-- what stands for the value of a byte that is no digit
abbrev pub no_digit : ℕ
no_digit = 255

-- the value of a digit of base 16
abbrev pub digit_of : ℕ → ℕ
digit_of byte =
    if is_digit byte then byte - zero_code
    else if nat_le lower_a_code byte && nat_le byte lower_f_code then byte - lower_a_code + 10
    else if nat_le upper_a_code byte && nat_le byte upper_f_code then byte - upper_a_code + 10
    else no_digit

abbrev pub is_digit_of : ℕ → ℕ → Bool
is_digit_of base byte = nat_lt (digit_of byte) base

-- what a byte may begin
abbrev pub start_of : ℕ → Start
start_of byte =
    if is_blank byte then Blank
    else if byte == percent_code then Percent
    else if is_lower byte then Lower
    else if is_upper byte || (byte == underscore_code) then Upper
    else if is_digit byte then Digit
    else if byte == quote_code then Quote
    else if byte == double_quote_code then DoubleQuote
    else if byte == semicolon_code then Semicolon
    else if byte == open_code then Open
    else if byte == close_code then Close
    else if byte == open_list_code then OpenList
    else if byte == close_list_code then CloseList
    else if byte == comma_code then Comma
    else if byte == bar_code then Bar
    else if (byte == bang_code) || (byte == open_brace_code) || (byte == close_brace_code) || (byte == backquote_code) then Outside
    else if is_graphic byte then Graphic
    else Other

-- whether a byte is of this class
abbrev pub class_test : Class → ℕ → Bool
class_test Word byte = is_word byte
class_test GraphicClass byte = is_graphic byte
class_test Line byte = not (byte == line_end_code)
class_test (Digits base) byte = is_digit_of base byte || (byte == underscore_code)

-- whether the text goes on with such a byte
abbrev pub begins_with : (ℕ → Bool) → List ℕ → Bool
begins_with test [] = false
begins_with test (byte ∷ rest) = test byte

abbrev pub next_is : ℕ → List ℕ → Bool
next_is byte text = begins_with (λ first. first == byte) text
