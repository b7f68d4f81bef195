-- Where a text has no tokens: its faults, and the first of them.
use Rattle.std.specs.Prelude.{◌≡◌, ℕ, ◌+◌, ◌<◌, ◌≤◌, ◌⊎◌, Bool, true, false, ◌==◌, ◌&&◌, List, [], ◌∷◌, length, drop, Some, None}
use Rattle.std.specs.Str.{IsUtf8}
use Rattle.std.specs.Str.Lossy.{utf8_valid_len}
use Rattle.merc_base.specs.Characters.{double_quote_code, quote_code, slash_code, star_code}
use Rattle.merc_base.specs.Refusal.{rule_number}
use Rattle.merc_base.specs.declared.place.Place.{Place}
use Rattle.merc_base.specs.declared.refusal.Fault.{Fault}
use Rattle.merc_base.specs.declared.refusal.Fault.TheVariants.{Refused, NoMemory}
use Rattle.merc_base.specs.declared.refusal.Rule.{Rule}
use Rattle.merc_base.specs.declared.refusal.Rule.TheVariants.{BadToken, OutsideProfile, LimitPassed}
use Rattle.merc_base.specs.declared.refusal.Construct.TheVariants.{Character, Float, IntegerSuffix}
use Rattle.merc_base.specs.declared.refusal.LimitName.TheVariants.{Name as NameLimit, Integer as IntegerLimit}
use Rattle.merc_base.specs.declared.refusal.Detail.{Detail}
use Rattle.merc_base.specs.declared.refusal.Detail.TheVariants.{Plain, Word, Limit}
use Rattle.merc_tokens.specs.declared.bytes.Start.TheVariants.{Lower, Upper, Digit, Quote, DoubleQuote, Outside, Graphic, Other}
use Rattle.merc_tokens.specs.declared.bytes.Class.TheVariants.{Word as WordClass, Graphic as GraphicClass}
use Rattle.merc_tokens.specs.declared.integers.Form.TheVariants.{Character as CharacterForm, Based}
use Rattle.merc_tokens.specs.declared.integers.Integer.{Integer}
use Rattle.merc_tokens.specs.declared.pieces.Spelling.{Spelling}
use Rattle.merc_tokens.specs.declared.pieces.Piece.TheVariants.{Gap, Token as TokenPiece}
use Rattle.merc_tokens.specs.Bytes.{is_digit_of, is_letter, begins_with, next_is, start_of}
use Rattle.merc_tokens.specs.Integers.{character_at, form_of, integer_at}
use Rattle.merc_tokens.specs.Quoted.{quoted}
use Rattle.merc_tokens.specs.Pieces.{name_limit, run_of, comment_past, begins_fraction, first_piece}
use Rattle.merc_tokens.specs.Tokens.{SpelledToken, HasTokens, is_name, line_at}

-- What is wrong where this text stands between tokens: one case for each rule
pub data IsFaulty : List ℕ → Rule → Detail → Type 0 where
  -- a byte that begins nothing
  no_token : (byte : ℕ) (rest : List ℕ) → start_of byte ≡ Other → IsFaulty (byte ∷ rest) BadToken Plain
  -- a `/*` with no `*/` behind it
  open_comment : (byte : ℕ) (rest : List ℕ) → start_of byte ≡ Graphic → (byte == slash_code) && next_is star_code rest ≡ true → comment_past 0 (drop 1 rest) ≡ None → IsFaulty (byte ∷ rest) BadToken Plain
  -- a `'` behind which no quoted name ends: its line or the text ends first, or an unknown escape stands in it
  open_name : (byte : ℕ) (rest : List ℕ) → start_of byte ≡ Quote → quoted quote_code [] 0 rest ≡ None → IsFaulty (byte ∷ rest) BadToken Plain
  -- a `"` behind which no string ends, for one of the same reasons
  open_string : (byte : ℕ) (rest : List ℕ) → start_of byte ≡ DoubleQuote → quoted double_quote_code [] 0 rest ≡ None → IsFaulty (byte ∷ rest) BadToken Plain
  -- a `0'` with no character but `'`, and no escape of one, directly behind it
  no_character : (byte : ℕ) (rest : List ℕ) → start_of byte ≡ Digit → form_of (byte ∷ rest) ≡ CharacterForm → character_at (drop 1 rest) ≡ None → IsFaulty (byte ∷ rest) BadToken Plain
  -- a `0b`, `0o` or `0x` with no digit of its base directly behind it
  no_digit : (byte : ℕ) (rest : List ℕ) (base : ℕ) → start_of byte ≡ Digit → form_of (byte ∷ rest) ≡ Based base → begins_with (is_digit_of base) (drop 1 rest) ≡ false → IsFaulty (byte ∷ rest) BadToken Plain
  -- a character that the supported part of the language does not have
  character : (byte : ℕ) (rest : List ℕ) → start_of byte ≡ Outside → IsFaulty (byte ∷ rest) OutsideProfile (Word Character)
  -- an integer with a letter or `_` directly behind it
  suffix : (byte : ℕ) (rest : List ℕ) (integer : Integer) → start_of byte ≡ Digit → integer_at (byte ∷ rest) ≡ Some integer → begins_with is_letter (drop integer.past (byte ∷ rest)) ≡ true → IsFaulty (byte ∷ rest) OutsideProfile (Word IntegerSuffix)
  -- an integer in decimal with a `.` and a digit directly behind it
  float : (byte : ℕ) (rest : List ℕ) (integer : Integer) → start_of byte ≡ Digit → integer_at (byte ∷ rest) ≡ Some integer → integer.is_decimal ≡ true → begins_fraction (drop integer.past (byte ∷ rest)) ≡ true → IsFaulty (byte ∷ rest) OutsideProfile (Word Float)
  -- an integer above the limit
  great_integer : (byte : ℕ) (rest : List ℕ) (integer : Integer) → start_of byte ≡ Digit → integer_at (byte ∷ rest) ≡ Some integer → integer.value ≡ None → IsFaulty (byte ∷ rest) LimitPassed (Limit IntegerLimit)
  -- a name or a variable of too many bytes
  long_word : (byte : ℕ) (rest : List ℕ) → (start_of byte ≡ Lower) ⊎ (start_of byte ≡ Upper) → name_limit < length (run_of WordClass (byte ∷ rest)) → IsFaulty (byte ∷ rest) LimitPassed (Limit NameLimit)
  -- a graphic name of too many bytes
  long_graphic : (byte : ℕ) (rest : List ℕ) → start_of byte ≡ Graphic → (byte == slash_code) && next_is star_code rest ≡ false → name_limit < length (run_of GraphicClass (byte ∷ rest)) → IsFaulty (byte ∷ rest) LimitPassed (Limit NameLimit)
  -- a quoted name that stands for too many bytes
  long_name : (byte : ℕ) (rest name : List ℕ) (past : ℕ) → start_of byte ≡ Quote → quoted quote_code [] 0 rest ≡ Some (name, past) → name_limit < length name → IsFaulty (byte ∷ rest) LimitPassed (Limit NameLimit)

-- From a place on, directly before which a name stands or not, a text has a fault at this place: there, or behind a
-- blank, a comment or a token.
pub data HasFaultFrom (text : List ℕ) (place : ℕ) (rule : Rule) (detail : Detail) : ℕ → Bool → Type 0 where
  here : (at : ℕ) (after_name : Bool) → at ≡ place → IsFaulty (drop at text) rule detail → HasFaultFrom text place rule detail at after_name
  behind_gap : (at len : ℕ) (after_name : Bool) → first_piece after_name (drop at text) ≡ Gap len → HasFaultFrom text place rule detail (at + len) false → HasFaultFrom text place rule detail at after_name
  behind_token : (at len : ℕ) (after_name : Bool) (spelling : Spelling) → first_piece after_name (drop at text) ≡ TokenPiece spelling len → HasFaultFrom text place rule detail (at + len) (is_name spelling) → HasFaultFrom text place rule detail at after_name

-- the first byte of a text that is not UTF-8
pub record EndsUtf8 (text : List ℕ) (place : ℕ) (rule : Rule) (detail : Detail) : Type 0 where
  pub utf8 : ¬ (IsUtf8 text)
  pub longest : place ≡ utf8_valid_len text
  pub rule_is : rule ≡ BadToken
  pub detail_is : detail ≡ Plain

abbrev pub HasFault : List ℕ → ℕ → Rule → Detail → Type 0
HasFault text place rule detail = HasFaultFrom text place rule detail 0 false ⊎ EndsUtf8 text place rule detail

-- of two faults the one with the lesser place comes first, and at one place the one with the lesser rule
abbrev pub ComesFirst : ℕ → Rule → ℕ → Rule → Type 0
ComesFirst place rule place' rule' = (place < place') ⊎ ((place ≡ place') × (rule_number rule ≤ rule_number rule'))

-- a text has this fault, and none that comes before it
pub record FirstFault (text : List ℕ) (rule : Rule) (place : Place) (detail : Detail) : Type 0 where
  pub fault : HasFault text place.byte rule detail
  pub line : place.line ≡ line_at text place.byte
  pub least : (other : ℕ) (rule' : Rule) (detail' : Detail) → HasFault text other rule' detail' → ComesFirst place.byte rule other rule'

-- the text has no list of tokens
abbrev pub HasNoTokens : List ℕ → Type 0
HasNoTokens text = (tokens : List SpelledToken) → HasTokens text tokens → ⊥

-- a refusal says the first fault of a text that has no tokens
abbrev pub RefusesRightly : List ℕ → Fault → Type 0
RefusesRightly text (Refused refusal) = FirstFault text refusal.rule refusal.place refusal.detail × HasNoTokens text
RefusesRightly text NoMemory = Unit {0}
