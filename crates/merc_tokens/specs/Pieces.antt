-- What a text begins with: a blank, a comment or a token, or a fault.
use Rattle.std.specs.Prelude.{ℕ, ◌+◌, Bool, true, false, ◌==◌, nat_le, ◌≤◌, ◌&&◌, ◌||◌, not, List, [], ◌∷◌, length, take, drop, Option, Some, None, if◌then◌else◌, codes}
use Rattle.std.specs.Option.{option_map}
use Rattle.std.specs.List.{prefix_len}
use Rattle.merc_base.specs.Characters.{dot_code, double_quote_code, percent_code, quote_code, semicolon_code, slash_code, star_code}
use Rattle.merc_base.specs.declared.refusal.Rule.TheVariants.{BadToken, OutsideProfile, LimitPassed}
use Rattle.merc_base.specs.declared.refusal.Construct.TheVariants.{Character, Float, IntegerSuffix}
use Rattle.merc_base.specs.declared.refusal.LimitName.TheVariants.{Name as NameLimit, Integer as IntegerLimit}
use Rattle.merc_base.specs.declared.refusal.Detail.TheVariants.{Plain, Word, Limit}
use Rattle.merc_tokens.specs.declared.bytes.Start.{Start}
use Rattle.merc_tokens.specs.declared.bytes.Start.TheVariants.{Blank, Percent, Lower, Upper, Digit, Quote, DoubleQuote, Semicolon, Open as OpenStart, Close as CloseStart, OpenList as OpenListStart, CloseList as CloseListStart, Comma as CommaStart, Bar as BarStart, Outside, Graphic, Other}
use Rattle.merc_tokens.specs.declared.bytes.Class.{Class}
use Rattle.merc_tokens.specs.declared.bytes.Class.TheVariants.{Word as WordClass, Graphic as GraphicClass, Line}
use Rattle.merc_tokens.specs.declared.integers.Integer.{Integer}
use Rattle.merc_tokens.specs.declared.pieces.Spelling.{Spelling}
use Rattle.merc_tokens.specs.declared.pieces.Spelling.TheVariants.{Name, Quoted, Var, Int, Text, OpenArgs, Open, Close, OpenList, CloseList, Comma, Bar, Dot, Stop}
use Rattle.merc_tokens.specs.declared.pieces.Kind.{Kind}
use Rattle.merc_tokens.specs.declared.pieces.Kind.TheVariants.{Name as KindName, Quoted as KindQuoted, Var as KindVar}
use Rattle.merc_tokens.specs.declared.pieces.Piece.{Piece}
use Rattle.merc_tokens.specs.declared.pieces.Piece.TheVariants.{Gap, Token, Fault}
use Rattle.merc_tokens.specs.Bytes.{is_blank, is_lower, is_digit_of, is_letter, is_graphic, class_test, begins_with, next_is, start_of}
use Rattle.merc_tokens.specs.Integers.{integer_at}
use Rattle.merc_tokens.specs.Quoted.{quoted}

-- a text that begins no piece
abbrev pub bad_token : Piece
bad_token = Fault BadToken Plain

-- the longest run that a text begins with: its first byte with the bytes of a class that follow
abbrev pub run_of : Class → List ℕ → List ℕ
run_of class [] = []
run_of class (byte ∷ rest) = byte ∷ take (prefix_len (class_test class) rest) rest

-- which token a name of this kind is
abbrev pub make_of : Kind → List ℕ → Spelling
make_of KindName name = Name name
make_of KindQuoted name = Quoted name
make_of KindVar name = Var name

-- this holds of a text's first byte and of what stands behind it
abbrev pub IfFirst : List ℕ → (ℕ → List ℕ → Type 0) → Type 0
IfFirst [] P = Unit {0}
IfFirst (byte ∷ rest) P = P byte rest

-- the bytes that a name has at most
abbrev pub name_limit : ℕ
name_limit = 255

-- a token with a name, which is within the limit
abbrev pub named : (List ℕ → Spelling) → List ℕ → ℕ → Piece
named make name len = if nat_le (length name) name_limit then Token (make name) len else Fault LimitPassed (Limit NameLimit)

-- where a comment ends, behind the first `*/`, and so many bytes stand before the text
abbrev pub comment_past : ℕ → List ℕ → Option ℕ
comment_past past [] = None
comment_past past (byte ∷ rest) = if (byte == star_code) && next_is slash_code rest then Some (past + 2) else comment_past (past + 1) rest

abbrev pub comment_piece : Option ℕ → Piece
comment_piece None = bad_token
comment_piece (Some past) = Gap past

-- a blank, tab, line end, carriage return, `%` or the end of the text stands behind a full stop
abbrev pub ends_item : List ℕ → Bool
ends_item [] = true
ends_item (byte ∷ rest) = is_blank byte || (byte == percent_code)

-- a name that begins with a letter, `;` or a quote
abbrev pub begins_name : ℕ → Bool
begins_name byte = is_lower byte || (byte == semicolon_code) || (byte == quote_code)

-- a `.` that stands alone, before this text
abbrev pub dot_of : Bool → List ℕ → Spelling
dot_of after_name rest =
    if ends_item rest then Stop
    else if after_name && begins_with begins_name rest then Dot
    else Name (codes ".")

-- what begins with a graphic character
abbrev pub graphic_piece : Bool → ℕ → List ℕ → Piece
graphic_piece after_name byte rest =
    if (byte == slash_code) && next_is star_code rest then comment_piece (option_map (λ past. 2 + past) (comment_past 0 (drop 1 rest)))
    else if (byte == dot_code) && not (begins_with is_graphic rest) then Token (dot_of after_name rest) 1
    else (let run = run_of GraphicClass (byte ∷ rest) in named Name run (length run))

-- what begins with a quote, the text behind which reads so
abbrev pub quoted_piece : Option (List ℕ × ℕ) → Piece
quoted_piece None = bad_token
quoted_piece (Some found) = named Quoted found.0 (1 + found.1)

abbrev pub string_piece : Option (List ℕ × ℕ) → Piece
string_piece None = bad_token
string_piece (Some found) = Token (Text found.0) (1 + found.1)

-- a `.` and a digit
abbrev pub begins_fraction : List ℕ → Bool
begins_fraction [] = false
begins_fraction (byte ∷ rest) = (byte == dot_code) && begins_with (is_digit_of 10) rest

abbrev pub limited : Option ℕ → ℕ → Piece
limited None past = Fault LimitPassed (Limit IntegerLimit)
limited (Some value) past = Token (Int value) past

-- an integer, and what stands behind it
abbrev pub integer_piece : Option Integer → List ℕ → Piece
integer_piece None text = bad_token
integer_piece (Some integer) text =
    let rest = drop integer.past text in
    if begins_with is_letter rest then Fault OutsideProfile (Word IntegerSuffix)
    else if integer.is_decimal && begins_fraction rest then Fault OutsideProfile (Word Float)
    else limited integer.value integer.past

-- what a text begins with whose first byte may begin this; whether a name stands directly before it is given
abbrev pub piece_of : Start → Bool → ℕ → List ℕ → Piece
piece_of Blank after_name byte rest = Gap 1
piece_of Percent after_name byte rest = Gap (1 + prefix_len (class_test Line) rest)
piece_of Lower after_name byte rest = let run = run_of WordClass (byte ∷ rest) in named Name run (length run)
piece_of Upper after_name byte rest = let run = run_of WordClass (byte ∷ rest) in named Var run (length run)
piece_of Digit after_name byte rest = integer_piece (integer_at (byte ∷ rest)) (byte ∷ rest)
piece_of Quote after_name byte rest = quoted_piece (quoted quote_code [] 0 rest)
piece_of DoubleQuote after_name byte rest = string_piece (quoted double_quote_code [] 0 rest)
piece_of Semicolon after_name byte rest = Token (Name (codes ";")) 1
piece_of OpenStart after_name byte rest = Token (if after_name then OpenArgs else Open) 1
piece_of CloseStart after_name byte rest = Token Close 1
piece_of OpenListStart after_name byte rest = Token OpenList 1
piece_of CloseListStart after_name byte rest = Token CloseList 1
piece_of CommaStart after_name byte rest = Token Comma 1
piece_of BarStart after_name byte rest = Token Bar 1
piece_of Outside after_name byte rest = Fault OutsideProfile (Word Character)
piece_of Graphic after_name byte rest = graphic_piece after_name byte rest
piece_of Other after_name byte rest = bad_token

abbrev pub first_piece : Bool → List ℕ → Piece
first_piece after_name [] = bad_token
first_piece after_name (byte ∷ rest) = piece_of (start_of byte) after_name byte rest

-- a piece has at least one byte, and not more than this
abbrev pub Fits : ℕ → Piece → Type 0
Fits bound (Gap len) = (1 ≤ len) × (len ≤ bound)
Fits bound (Token spelling len) = (1 ≤ len) × (len ≤ bound)
Fits bound (Fault rule detail) = Unit {0}
