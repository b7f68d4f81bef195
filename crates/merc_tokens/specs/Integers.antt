-- Integers: which number a text begins with, and how many bytes spell it.
use Rattle.std.specs.Prelude.{ℕ, ◌+◌, ◌-◌, ◌*◌, false, ◌==◌, nat_le, List, [], ◌∷◌, length, take, drop, reverse, slice_get, Option, Some, None, if◌then◌else◌}
use Rattle.std.specs.Option.{option_map}
use Rattle.std.specs.List.{prefix_len}
use Rattle.std.specs.Str.{chars, is_utf8, continuation_len}
use Rattle.merc_base.specs.Characters.{backslash_code, lower_b_code, lower_o_code, lower_x_code, quote_code, underscore_code, zero_code}
use Rattle.merc_tokens.specs.declared.bytes.Class.TheVariants.{Digits}
use Rattle.merc_tokens.specs.declared.integers.Form.{Form}
use Rattle.merc_tokens.specs.declared.integers.Form.TheVariants.{Character, Based, Decimal}
use Rattle.merc_tokens.specs.declared.integers.Integer.{Integer}
use Rattle.merc_tokens.specs.Bytes.{is_digit_of, digit_of, is_underscore, class_test, begins_with}
use Rattle.merc_tokens.specs.Quoted.{is_escape, escaped}

-- the greatest integer
abbrev pub integer_limit : ℕ
integer_limit = 9223372036854775808

-- the number, where it is not above the greatest
abbrev pub within_limit : ℕ → Option ℕ
within_limit value = if nat_le value integer_limit then Some value else None

-- the number that digits of a base spell, with what stands before them; a `_` says nothing
abbrev pub digits_value : ℕ → ℕ → List ℕ → ℕ
digits_value base value [] = value
digits_value base value (byte ∷ rest) =
    if byte == underscore_code then digits_value base value rest else digits_value base (base * value + digit_of byte) rest

-- how many bytes of a text go on with digits: `_` stands between digits, and not behind the last
abbrev pub more_digits_len : ℕ → List ℕ → ℕ
more_digits_len base text =
    let run = take (prefix_len (class_test (Digits base)) text) text in length run - prefix_len is_underscore (reverse run)

-- how many bytes of digits a text has that begins with a digit
abbrev pub digits_len : ℕ → List ℕ → ℕ
digits_len base [] = 0
digits_len base (digit ∷ rest) = 1 + more_digits_len base rest

-- the number that digits spell behind a prefix of so many bytes
abbrev pub based_integer : ℕ → ℕ → List ℕ → Option Integer
based_integer base prefix digits =
    if begins_with (is_digit_of base) digits then
    Some (record {
      value = within_limit (digits_value base 0 (take (digits_len base digits) digits));
      past = prefix + digits_len base digits;
      is_decimal = base == 10;
    })
    else None

-- the code point of the first of the characters that bytes spell, if they are UTF-8
abbrev pub first_character : List ℕ → Option ℕ
first_character bytes = if is_utf8 bytes then slice_get (chars bytes) 0 else None

-- the code point of the character that a text begins with, and how many bytes spell it
abbrev pub front_character : List ℕ → Option (ℕ × ℕ)
front_character [] = None
front_character (byte ∷ rest) =
    let front = take (1 + continuation_len byte) (byte ∷ rest) in
    option_map (λ character. (character, length front)) (first_character front)

abbrev pub front_escape : List ℕ → Option (ℕ × ℕ)
front_escape [] = None
front_escape (byte ∷ rest) = if is_escape byte then Some (escaped byte, 2) else None

-- the same behind `0'`: a `'` is none, and a `\` begins an escape
abbrev pub character_at : List ℕ → Option (ℕ × ℕ)
character_at [] = None
character_at (byte ∷ rest) =
    if byte == quote_code then None else if byte == backslash_code then front_escape rest else front_character (byte ∷ rest)

abbrev pub form_behind_zero : ℕ → Form
form_behind_zero byte =
    if byte == quote_code then Character
    else if byte == lower_b_code then Based 2
    else if byte == lower_o_code then Based 8
    else if byte == lower_x_code then Based 16
    else Decimal

-- the form of an integer, by its first two bytes
abbrev pub form_of : List ℕ → Form
form_of [] = Decimal
form_of (first ∷ []) = Decimal
form_of (first ∷ second ∷ rest) = if first == zero_code then form_behind_zero second else Decimal

abbrev pub character_integer : ℕ × ℕ → Integer
character_integer found = record { value = Some found.0; past = 2 + found.1; is_decimal = false }

abbrev pub integer_of : Form → List ℕ → Option Integer
integer_of Character text = option_map character_integer (character_at (drop 2 text))
integer_of (Based base) text = based_integer base 2 (drop 2 text)
integer_of Decimal text = based_integer 10 0 text

-- the integer that a text begins with; a prefix with no digit or character behind it begins none
abbrev pub integer_at : List ℕ → Option Integer
integer_at text = integer_of (form_of text) text
