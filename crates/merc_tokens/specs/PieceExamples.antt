-- What texts begin with: for each rule a text that reads, and one that does not.
use Rattle.std.specs.Prelude.{◌≡◌, ℕ, true, false, List, [], ◌∷◌, ◌++◌, length, map, codes, refl}
use Rattle.std.proofs.Math.ListN.{replicate}
use Rattle.merc_base.specs.Characters.{lower_a_code, space_code, star_code, upper_a_code}
use Rattle.merc_tokens.specs.declared.bytes.Start.TheVariants.{Lower, Upper, Digit, OpenList as OpenListStart, Outside, Graphic as GraphicStart}
use Rattle.merc_tokens.specs.declared.pieces.Spelling.{Spelling}
use Rattle.merc_tokens.specs.declared.pieces.Spelling.TheVariants.{Name, Quoted, Var, Int, Text, OpenArgs, Open, Close, OpenList, CloseList, Comma, Bar, Dot, Stop}
use Rattle.merc_tokens.specs.declared.pieces.Piece.TheVariants.{Gap, Token}
use Rattle.merc_tokens.specs.Bytes.{is_blank, is_letter, is_word, is_graphic, digit_of, start_of}
use Rattle.merc_tokens.specs.Pieces.{first_piece}

-- the whole text is this token
abbrev IsToken : List ℕ → Spelling → Type 0
IsToken text spelling = first_piece false text ≡ Token spelling (length text)

-- the bytes beside each class, and those at its ends

pub is_blank-example : map is_blank (8 ∷ 9 ∷ 10 ∷ 11 ∷ 12 ∷ 13 ∷ 14 ∷ 31 ∷ 32 ∷ 33 ∷ [])
    ≡ false ∷ true ∷ true ∷ false ∷ false ∷ true ∷ false ∷ false ∷ true ∷ false ∷ []
is_blank-example = refl

pub is_word-example : map is_word (codes "/09:@AZ[^_`az{")
    ≡ false ∷ true ∷ true ∷ false ∷ false ∷ true ∷ true ∷ false ∷ false ∷ true ∷ false ∷ true ∷ true ∷ false ∷ []
is_word-example = refl

-- a digit is no letter
pub is_letter-example : map is_letter (codes "/09:@AZ[^_`az{")
    ≡ false ∷ false ∷ false ∷ false ∷ false ∷ true ∷ true ∷ false ∷ false ∷ true ∷ false ∷ true ∷ true ∷ false ∷ []
is_letter-example = refl

pub start_of-example : map start_of (codes "/09:@AZ[^_`az{")
    ≡ GraphicStart ∷ Digit ∷ Digit ∷ GraphicStart ∷ GraphicStart ∷ Upper ∷ Upper ∷ OpenListStart ∷ GraphicStart ∷ Upper ∷ Outside ∷ Lower ∷ Lower ∷ Outside ∷ []
start_of-example = refl

pub digit_of-example : map digit_of (codes "/09:@AFG`afg") ≡ 255 ∷ 0 ∷ 9 ∷ 255 ∷ 255 ∷ 10 ∷ 15 ∷ 255 ∷ 255 ∷ 10 ∷ 15 ∷ 255 ∷ []
digit_of-example = refl

-- what is no graphic character
pub is_graphic-none : map is_graphic (codes "!\"%'(),;[]_`{|} 09AZaz") ≡ replicate 22 false
is_graphic-none = refl

pub name-example : IsToken (codes "add_1X") (Name (codes "add_1X"))
name-example = refl

-- the longest token is taken, and no shorter one
pub name-counterexample : first_piece false (codes "ab c") ≡ Token (Name (codes "a")) 1 → ⊥
name-counterexample shorter = cc

pub semicolon-example : first_piece false (codes ";;") ≡ Token (Name (codes ";")) 1
semicolon-example = refl

-- each graphic character goes on a run
pub graphic-example : IsToken (codes "+-*/\\^<>=~:.?@#&$") (Name (codes "+-*/\\^<>=~:.?@#&$"))
graphic-example = refl

-- and no other character does
pub graphic_ends-example : first_piece false (codes "=!") ≡ Token (Name (codes "=")) 1
graphic_ends-example = refl

-- the longest run is one name
pub graphic-counterexample : first_piece false (codes "=-1") ≡ Token (Name (codes "=")) 1 → ⊥
graphic-counterexample parts = cc

pub quoted-example : IsToken (codes "'it''s'") (Quoted (codes "it's"))
quoted-example = refl

-- the name without a character, and that of a quote alone
pub quoted_empty-example : IsToken (codes "''") (Quoted [])
quoted_empty-example = refl

pub quoted_quote-example : IsToken (codes "''''") (Quoted (codes "'"))
quoted_quote-example = refl

-- each escape: `\n`, `\t`, `\\`, `\"` and `\'`
pub quoted_escape-example : IsToken (codes "'a\\n\\t\\\\\\\"\\'b'") (Quoted (codes "a\n\t\\\"'b"))
quoted_escape-example = refl

-- a double quote stands for itself in a quoted name, and two of them for two
pub quoted_double-example : IsToken (codes "'\"\"'") (Quoted (codes "\"\""))
quoted_double-example = refl

-- a quote that a second one follows does not close
pub quoted-counterexample : first_piece false (codes "'it''s'") ≡ Token (Quoted (codes "it")) 4 → ⊥
quoted-counterexample closes = cc

pub variable-example : IsToken (codes "_Xs1") (Var (codes "_Xs1"))
variable-example = refl

pub upper_variable-example : IsToken (codes "Az_09Z") (Var (codes "Az_09Z"))
upper_variable-example = refl

pub last_variable-example : IsToken (codes "Zz") (Var (codes "Zz"))
last_variable-example = refl

-- a lower-case letter begins none
pub variable-counterexample : IsToken (codes "xs") (Var (codes "xs")) → ⊥
variable-counterexample reads = cc

pub integer-example : IsToken (codes "1_000") (Int 1000)
integer-example = refl

pub integer_marks-example : IsToken (codes "1__2") (Int 12)
integer_marks-example = refl

pub integer_digits-example : IsToken (codes "1234567890") (Int 1234567890)
integer_digits-example = refl

-- a prefix and a character begin with 0 alone
pub integer_quote-example : first_piece false (codes "1'a'") ≡ Token (Int 1) 1
integer_quote-example = refl

-- a `.` and a letter behind it are no fraction, though the letter is a digit of base 16
pub integer_dot-example : first_piece false (codes "1.a5") ≡ Token (Int 1) 1
integer_dot-example = refl

-- a `_` stands between digits
pub integer-counterexample : IsToken (codes "1_") (Int 1) → ⊥
integer-counterexample reads = cc

pub binary-example : first_piece false (codes "0b12") ≡ Token (Int 1) 3
binary-example = refl

pub binary_marks-example : IsToken (codes "0b1_01") (Int 5)
binary_marks-example = refl

pub octal-example : IsToken (codes "0o1234567") (Int 342391)
octal-example = refl

pub octal_ends-example : first_piece false (codes "0o78") ≡ Token (Int 7) 3
octal_ends-example = refl

-- digits of base 16 in both cases
pub hexadecimal-example : IsToken (codes "0x0123456789abcdef") (Int 81985529216486895)
hexadecimal-example = refl

pub hexadecimal_upper-example : IsToken (codes "0xA_BCDEF") (Int 11259375)
hexadecimal_upper-example = refl

-- no float, since digits of another base stand before the `.`
pub hexadecimal_dot-example : first_piece false (codes "0x1.5") ≡ Token (Int 1) 3
hexadecimal_dot-example = refl

pub greatest_integer-example : IsToken (codes "9223372036854775808") (Int 9223372036854775808)
greatest_integer-example = refl

-- `0'` and each escape
pub character_line_end-example : IsToken (codes "0'\\n") (Int 10)
character_line_end-example = refl

pub character_tab-example : IsToken (codes "0'\\t") (Int 9)
character_tab-example = refl

pub character_backslash-example : IsToken (codes "0'\\\\") (Int 92)
character_backslash-example = refl

pub character_double_quote-example : IsToken (codes "0'\\\"") (Int 34)
character_double_quote-example = refl

pub character_quote-example : IsToken (codes "0'\\'") (Int 39)
character_quote-example = refl

-- no float either
pub character_dot-example : first_piece false (codes "0'\\n.5") ≡ Token (Int 10) 4
character_dot-example = refl

pub string-example : IsToken (codes "\"a\"\"b\"") (Text (codes "a\"b"))
string-example = refl

pub string_escape-example : IsToken (codes "\"\\n\\t\\\\\\\"\\'\"") (Text (codes "\n\t\\\"'"))
string_escape-example = refl

pub string_quotes-example : IsToken (codes "\"''\"") (Text (codes "''"))
string_quotes-example = refl

pub empty_string-example : IsToken (codes "\"\"") (Text [])
empty_string-example = refl

-- a string of any length
pub long_string-example : IsToken (codes "\"" ++ replicate 300 lower_a_code ++ codes "\"") (Text (replicate 300 lower_a_code))
long_string-example = refl

-- a line end stands in no string
pub string-counterexample : IsToken (codes "\"a\n\"") (Text (codes "a\n")) → ⊥
string-counterexample reads = cc

pub open_args-example : first_piece true (codes "(") ≡ Token OpenArgs 1
open_args-example = refl

pub open-example : IsToken (codes "(") Open
open-example = refl

-- directly behind a name it opens arguments
pub open-counterexample : first_piece true (codes "(") ≡ Token Open 1 → ⊥
open-counterexample opens = cc

pub close-example : IsToken (codes ")") Close
close-example = refl

pub open_list-example : IsToken (codes "[") OpenList
open_list-example = refl

pub close_list-example : IsToken (codes "]") CloseList
close_list-example = refl

pub comma-example : IsToken (codes ",") Comma
comma-example = refl

pub bar-example : IsToken (codes "|") Bar
bar-example = refl

-- between a name and a name
pub dot-example : first_piece true (codes ".append") ≡ Token Dot 1
dot-example = refl

pub dot_semicolon-example : first_piece true (codes ".;") ≡ Token Dot 1
dot_semicolon-example = refl

pub dot_quoted-example : first_piece true (codes ".'A'") ≡ Token Dot 1
dot_quoted-example = refl

-- before what is no name it is one itself
pub dot_variable-example : first_piece true (codes ".A") ≡ Token (Name (codes ".")) 1
dot_variable-example = refl

pub dot_integer-example : first_piece true (codes ".5") ≡ Token (Name (codes ".")) 1
dot_integer-example = refl

pub dot_list-example : first_piece true (codes ".[]") ≡ Token (Name (codes ".")) 1
dot_list-example = refl

-- behind anything else it is a name
pub dot_name-example : first_piece false (codes ".5") ≡ Token (Name (codes ".")) 1
dot_name-example = refl

pub dot-counterexample : first_piece false (codes ".append") ≡ Token Dot 1 → ⊥
dot-counterexample marks = cc

pub stop-example : first_piece true (codes ".% end") ≡ Token Stop 1
stop-example = refl

pub stop_blank-example : first_piece true (codes ". a") ≡ Token Stop 1
stop_blank-example = refl

pub stop_tab-example : first_piece true (codes ".\ta") ≡ Token Stop 1
stop_tab-example = refl

pub stop_line_end-example : first_piece true (codes ".\na") ≡ Token Stop 1
stop_line_end-example = refl

pub stop_return-example : first_piece true (codes ".\ra") ≡ Token Stop 1
stop_return-example = refl

-- a comment of the other kind goes on the run
pub stop_comment-example : first_piece true (codes "./* a */") ≡ Token (Name (codes "./*")) 3
stop_comment-example = refl

pub stop_end-example : IsToken (codes ".") Stop
stop_end-example = refl

-- not in a longer run
pub stop-counterexample : first_piece true (codes "+. ") ≡ Token Stop 1 → ⊥
stop-counterexample stops = cc

pub blank-example : first_piece false (codes "  ") ≡ Gap 1
blank-example = refl

pub tab-example : first_piece false (codes "\t") ≡ Gap 1
tab-example = refl

pub line_end-example : first_piece false (codes "\n") ≡ Gap 1
line_end-example = refl

pub return-example : first_piece false (codes "\r") ≡ Gap 1
return-example = refl

-- up to the line end
pub line_comment-example : first_piece false (codes "% a\nb") ≡ Gap 3
line_comment-example = refl

-- a carriage return ends no line
pub line_comment_return-example : first_piece false (codes "% a\rb\nc") ≡ Gap 5
line_comment_return-example = refl

-- the shortest one, and one whose last `*` follows another
pub empty_comment-example : first_piece false (codes "/**/*/") ≡ Gap 4
empty_comment-example = refl

pub stars_comment-example : first_piece false (codes "/***/*/") ≡ Gap 5
stars_comment-example = refl

-- up to the first `*/`, which does not share its `*` with the `/*`
pub comment-example : first_piece false (codes "/*/ a */ */") ≡ Gap 8
comment-example = refl

-- names of 255 bytes
pub longest_name-example : IsToken (replicate 255 lower_a_code) (Name (replicate 255 lower_a_code))
longest_name-example = refl

pub longest_variable-example : IsToken (replicate 255 upper_a_code) (Var (replicate 255 upper_a_code))
longest_variable-example = refl

pub longest_graphic-example : IsToken (replicate 255 star_code) (Name (replicate 255 star_code))
longest_graphic-example = refl

pub longest_quoted-example : IsToken (codes "'" ++ replicate 255 space_code ++ codes "'") (Quoted (replicate 255 space_code))
longest_quoted-example = refl
