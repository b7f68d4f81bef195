-- A token has at least one byte.
use Rattle.std.proofs.Common.{◌≡◌, ℕ, ◌+◌, ◌≤◌, Bool, true, false, ◌==◌, nat_le, ◌&&◌, not, List, [], ◌∷◌, length, drop, Option, Some, None, if◌then◌else◌, subst, arith}
use Rattle.std.specs.Option.{option_map}
use Rattle.merc_base.specs.declared.refusal.Rule.TheVariants.{OutsideProfile, LimitPassed}
use Rattle.merc_base.specs.declared.refusal.Construct.TheVariants.{Float, IntegerSuffix}
use Rattle.merc_base.specs.declared.refusal.LimitName.TheVariants.{Name as NameLimit}
use Rattle.merc_base.specs.declared.refusal.Detail.TheVariants.{Word, Limit}
use Rattle.merc_tokens.specs.declared.bytes.Start.{Start}
use Rattle.merc_tokens.specs.declared.bytes.Start.TheVariants.{Blank, Percent, Lower, Upper, Digit, Quote, DoubleQuote, Semicolon, Open as OpenStart, Close as CloseStart, OpenList as OpenListStart, CloseList as CloseListStart, Comma as CommaStart, Bar as BarStart, Outside, Graphic, Other}
use Rattle.merc_tokens.specs.declared.bytes.Class.TheVariants.{Word as WordClass, Graphic as GraphicClass}
use Rattle.merc_tokens.specs.declared.integers.Form.{Form}
use Rattle.merc_tokens.specs.declared.integers.Form.TheVariants.{Character, Based, Decimal}
use Rattle.merc_tokens.specs.declared.integers.Integer.{Integer}
use Rattle.merc_tokens.specs.declared.pieces.Spelling.{Spelling}
use Rattle.merc_tokens.specs.declared.pieces.Spelling.TheVariants.{Name, Quoted, Var}
use Rattle.merc_tokens.specs.declared.pieces.Piece.{Piece}
use Rattle.merc_tokens.specs.declared.pieces.Piece.TheVariants.{Gap, Token, Fault}
use Rattle.merc_tokens.specs.Bytes.{is_digit_of, is_letter, is_graphic, begins_with, next_is, start_of}
use Rattle.merc_tokens.specs.Integers.{based_integer, character_at, character_integer, form_of, integer_at, integer_of}
use Rattle.merc_tokens.specs.Pieces.{run_of, named, comment_past, comment_piece, dot_of, graphic_piece, quoted_piece, string_piece, begins_fraction, limited, integer_piece, piece_of, first_piece}
use Rattle.merc_tokens.specs.Quoted.{quoted}

abbrev IsLong : Piece → Type 0
IsLong (Gap len) = Unit {0}
IsLong (Token spelling len) = 1 ≤ len
IsLong (Fault rule detail) = Unit {0}

either : (test : Bool) (a b : Piece) → IsLong a → IsLong b → IsLong (if test then a else b)
either true a b long long' = long
either false a b long long' = long'

named-long : (make : List ℕ → Spelling) (name : List ℕ) (len : ℕ) → 1 ≤ len → IsLong (named make name len)
named-long make name len le = either (nat_le (length name) 255) (Token (make name) len) (Fault LimitPassed (Limit NameLimit)) le tt

comment-long : (past : Option ℕ) → IsLong (comment_piece past)
comment-long None = tt
comment-long (Some past) = tt

graphic-long : (after : Bool) (byte : ℕ) (rest : List ℕ) → IsLong (graphic_piece after byte rest)
graphic-long after byte rest =
    let run = run_of GraphicClass (byte ∷ rest) in
    either ((byte == 47) && next_is 42 rest) (comment_piece (option_map (λ (past : ℕ). 2 + past) (comment_past 0 (drop 1 rest))))
    (if (byte == 46) && not (begins_with is_graphic rest) then Token (dot_of after rest) 1 else named Name run (length run))
    (comment-long _)
    (either ((byte == 46) && not (begins_with is_graphic rest)) (Token (dot_of after rest) 1) (named Name run (length run)) (omega arith) (named-long Name run (length run) (omega arith)))

quoted-long : (found : Option (List ℕ × ℕ)) → IsLong (quoted_piece found)
quoted-long None = tt
quoted-long (Some found) = named-long Quoted found.0 (1 + found.1) (omega arith)

string-long : (found : Option (List ℕ × ℕ)) → IsLong (string_piece found)
string-long None = tt
string-long (Some found) = omega arith

abbrev IsWide : Option Integer → Type 0
IsWide None = Unit {0}
IsWide (Some integer) = 1 ≤ integer.past

limited-long : (value : Option ℕ) (past : ℕ) → 1 ≤ past → IsLong (limited value past)
limited-long None past le = tt
limited-long (Some value) past le = le

integer_piece-long : (found : Option Integer) (text : List ℕ) → IsWide found → IsLong (integer_piece found text)
integer_piece-long None text wide = tt
integer_piece-long (Some integer) text wide =
    let rest = drop integer.past text in
    either (begins_with is_letter rest) (Fault OutsideProfile (Word IntegerSuffix))
    (if integer.is_decimal && begins_fraction rest then Fault OutsideProfile (Word Float) else limited integer.value integer.past)
    tt
    (either (integer.is_decimal && begins_fraction rest) (Fault OutsideProfile (Word Float)) (limited integer.value integer.past) tt (limited-long integer.value integer.past wide))

either_wide : (test : Bool) (found : Option Integer) → IsWide found → IsWide (if test then found else None)
either_wide true found wide = wide
either_wide false found wide = tt

based-wide : (base prefix : ℕ) (digits : List ℕ) → 1 ≤ prefix + length digits → IsWide (based_integer base prefix digits)
based-wide base prefix [] le = tt
based-wide base prefix (byte ∷ rest) le = either_wide (begins_with (is_digit_of base) (byte ∷ rest)) (Some _) (omega arith)

character-wide : (found : Option (ℕ × ℕ)) → IsWide (option_map character_integer found)
character-wide None = tt
character-wide (Some found) = omega arith

integer-wide : (form : Form) (byte : ℕ) (rest : List ℕ) → IsWide (integer_of form (byte ∷ rest))
integer-wide Character byte rest = character-wide (character_at (drop 2 (byte ∷ rest)))
integer-wide (Based base) byte rest = based-wide base 2 (drop 2 (byte ∷ rest)) (omega arith)
integer-wide Decimal byte rest = based-wide 10 0 (byte ∷ rest) (omega arith)

piece-long : (start : Start) (after : Bool) (byte : ℕ) (rest : List ℕ) → IsLong (piece_of start after byte rest)
piece-long Blank after byte rest = tt
piece-long Percent after byte rest = tt
piece-long Lower after byte rest = let run = run_of WordClass (byte ∷ rest) in named-long Name run (length run) (omega arith)
piece-long Upper after byte rest = let run = run_of WordClass (byte ∷ rest) in named-long Var run (length run) (omega arith)
piece-long Digit after byte rest = integer_piece-long (integer_at (byte ∷ rest)) (byte ∷ rest) (integer-wide (form_of (byte ∷ rest)) byte rest)
piece-long Quote after byte rest = quoted-long (quoted 39 [] 0 rest)
piece-long DoubleQuote after byte rest = string-long (quoted 34 [] 0 rest)
piece-long Semicolon after byte rest = omega arith
piece-long OpenStart after byte rest = omega arith
piece-long CloseStart after byte rest = omega arith
piece-long OpenListStart after byte rest = omega arith
piece-long CloseListStart after byte rest = omega arith
piece-long CommaStart after byte rest = omega arith
piece-long BarStart after byte rest = omega arith
piece-long Outside after byte rest = tt
piece-long Graphic after byte rest = graphic-long after byte rest
piece-long Other after byte rest = tt

first-long : (after : Bool) (text : List ℕ) → IsLong (first_piece after text)
first-long after [] = tt
first-long after (byte ∷ rest) = piece-long (start_of byte) after byte rest

-- the bytes of a token are at least one
pub token-long : (after : Bool) (text : List ℕ) (spelling : Spelling) (len : ℕ) → first_piece after text ≡ Token spelling len → 1 ≤ len
token-long after text spelling len is = subst IsLong is (first-long after text)
