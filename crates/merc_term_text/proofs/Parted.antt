-- Which pieces may stand side by side, so that their texts are the tokens that they name; and which terms can be written.
use Rattle.std.specs.Prelude.{◌≡◌, ℕ, ◌≤◌, ◌⊎◌, Bool, true, false, ◌==◌, ◌&&◌, ◌||◌, not, List, [], ◌∷◌, map, length, Option, Some, None, is_some, slice_get, FitsSigned}
use Rattle.std.specs.Int.{w64}
use Rattle.std.specs.List.{list_all}
use Rattle.std.specs.Str.{IsUtf8}
use Rattle.merc_base.specs.Characters.{underscore_code}
use Rattle.merc_base.specs.Names.{comma_name, minus_name}
use Rattle.merc_tokens.specs.Pieces.{name_limit}
use Rattle.merc_tokens.specs.Integers.{integer_limit}
use Rattle.merc_terms.specs.Reading.{is_integer}
use Rattle.merc_value.specs.Text.{text_at, is_plain}
use Rattle.merc_tokens.specs.Bytes.{is_upper, is_word}
use Rattle.merc_tokens.specs.declared.token.Token.{Token as TokenOf}
use Rattle.merc_tokens.specs.declared.token.TokenKind.{TokenKind}
use Rattle.merc_tokens.specs.declared.token.TokenKind.TheVariants.{Name, Quoted, Var, Int, Text as TextToken, OpenArgs, Open, Close, OpenList, CloseList, Comma, Bar, Dot, Stop}
use Rattle.merc_tokens.specs.Tokens.{SpelledToken, HasTokens, with_texts}
use Rattle.merc_tree.specs.Term.{Term, Terms, Variable, Integer, Text, Application, none, more}
use Rattle.merc_terms.specs.Operators.{infix_named, prefix_named}
use Rattle.merc_term_text.specs.Pieces.{Piece, Blank, Token}

-- what may stand directly behind a variable, a literal or a closing bracket
abbrev pub ends_operand : TokenKind → Bool
ends_operand (Name name) = false
ends_operand (Quoted name) = false
ends_operand (Var name) = false
ends_operand (Int value) = false
ends_operand (TextToken name) = false
ends_operand OpenArgs = false
ends_operand Open = false
ends_operand Close = true
ends_operand OpenList = false
ends_operand CloseList = true
ends_operand Comma = true
ends_operand Bar = false
ends_operand Dot = false
ends_operand Stop = true

-- and behind a name
abbrev pub ends_name : TokenKind → Bool
ends_name (Name name) = false
ends_name (Quoted name) = false
ends_name (Var name) = false
ends_name (Int value) = false
ends_name (TextToken name) = false
ends_name OpenArgs = true
ends_name Open = false
ends_name Close = true
ends_name OpenList = false
ends_name CloseList = true
ends_name Comma = true
ends_name Bar = false
ends_name Dot = true
ends_name Stop = true

-- what may stand behind a blank, at the beginning, or directly behind an opening bracket
abbrev pub begins_part : TokenKind → Bool
begins_part (Name name) = true
begins_part (Quoted name) = true
begins_part (Var name) = true
begins_part (Int value) = true
begins_part (TextToken name) = true
begins_part OpenArgs = false
begins_part Open = true
begins_part Close = true
begins_part OpenList = true
begins_part CloseList = true
begins_part Comma = true
begins_part Bar = true
begins_part Dot = false
begins_part Stop = false

-- a plain or quoted name
abbrev pub is_name_kind : List (List ℕ) → TokenKind → Bool
is_name_kind names (Name name) = is_plain (text_at names name)
is_name_kind names (Quoted name) = true
is_name_kind names (Var name) = false
is_name_kind names (Int value) = false
is_name_kind names (TextToken name) = false
is_name_kind names OpenArgs = false
is_name_kind names Open = false
is_name_kind names Close = false
is_name_kind names OpenList = false
is_name_kind names CloseList = false
is_name_kind names Comma = false
is_name_kind names Bar = false
is_name_kind names Dot = false
is_name_kind names Stop = false

-- whether a token may stand directly behind another
abbrev pub touches : List (List ℕ) → TokenKind → TokenKind → Bool
touches names (Name name) next = (is_plain (text_at names name) && ends_name next) || ((name == minus_name) && is_integer next)
touches names (Quoted name) next = ends_name next
touches names (Var name) next = ends_operand next
touches names (Int value) next = ends_operand next
touches names (TextToken name) next = ends_operand next
touches names OpenArgs next = begins_part next
touches names Open next = begins_part next
touches names Close next = ends_operand next
touches names OpenList next = begins_part next
touches names CloseList next = ends_operand next
touches names Comma next = false
touches names Bar next = false
touches names Dot next = is_name_kind names next
touches names Stop next = false

-- whether a blank or the end may stand behind this token or none: behind a qualifier mark it would make that a full stop
abbrev pub may_end : Option TokenKind → Bool
may_end None = true
may_end (Some (Name name)) = true
may_end (Some (Quoted name)) = true
may_end (Some (Var name)) = true
may_end (Some (Int value)) = true
may_end (Some (TextToken name)) = true
may_end (Some OpenArgs) = true
may_end (Some Open) = true
may_end (Some Close) = true
may_end (Some OpenList) = true
may_end (Some CloseList) = true
may_end (Some Comma) = true
may_end (Some Bar) = true
may_end (Some Dot) = false
may_end (Some Stop) = true

-- whether pieces are parted well, directly behind this token or none
abbrev pub parted : List (List ℕ) → Option TokenKind → List Piece → Bool
parted names before [] = may_end before
parted names before (Blank ∷ rest) = may_end before && parted names None rest
parted names None (Token next ∷ rest) = begins_part next && parted names (Some next) rest
parted names (Some before) (Token next ∷ rest) = touches names before next && parted names (Some next) rest

-- the table has a text for this name, of at most 255 bytes
pub record HasName (names : List (List ℕ)) (name : ℕ) : Type 0 where
  pub text : List ℕ
  pub there : slice_get names name ≡ Some text
  pub utf8 : IsUtf8 text
  pub short : length text ≤ name_limit

-- an upper-case letter or `_`, and then letters, digits and `_`
abbrev pub is_variable_text : List ℕ → Bool
is_variable_text [] = false
is_variable_text (byte ∷ rest) = (is_upper byte || (byte == underscore_code)) && list_all is_word rest

-- a name of the operator table but for the comma, which is a token of its own
abbrev pub is_operator : ℕ → Bool
is_operator name = (is_some (infix_named name) || is_some (prefix_named name)) && not (name == comma_name)

-- the table has what a token names, and the token can be spelled so
abbrev pub IsSpelled : List (List ℕ) → TokenKind → Type 0
IsSpelled names (Name name) = HasName names name × ((is_plain (text_at names name) ≡ true) ⊎ (is_operator name ≡ true))
IsSpelled names (Quoted name) = HasName names name
IsSpelled names (Var name) = HasName names name × (is_variable_text (text_at names name) ≡ true)
IsSpelled names (Int value) = value ≤ integer_limit
IsSpelled names (TextToken name) = (text : List ℕ) × (slice_get names name ≡ Some text) × IsUtf8 text
IsSpelled names OpenArgs = Unit {0}
IsSpelled names Open = Unit {0}
IsSpelled names Close = Unit {0}
IsSpelled names OpenList = Unit {0}
IsSpelled names CloseList = Unit {0}
IsSpelled names Comma = Unit {0}
IsSpelled names Bar = Unit {0}
IsSpelled names Dot = Unit {0}
IsSpelled names Stop = Unit {0}

-- the table has what a term names, and each variable can be spelled
abbrev mutual
  pub IsWritable : List (List ℕ) → Term → Type 0
  IsWritable names (Variable name span) = HasName names name × (is_variable_text (text_at names name) ≡ true)
  IsWritable names (Integer value span) = FitsSigned w64 value
  IsWritable names (Text name span) = (text : List ℕ) × (slice_get names name ≡ Some text) × IsUtf8 text
  IsWritable names (Application name None arguments span) = HasName names name × AreWritable names arguments
  IsWritable names (Application name (Some qualifier) arguments span) = HasName names name × HasName names qualifier × AreWritable names arguments

  pub AreWritable : List (List ℕ) → Terms → Type 0
  AreWritable names none = Unit {0}
  AreWritable names (more first rest) = IsWritable names first × AreWritable names rest

-- a text has tokens of these kinds, named in this table
pub record HasKinds (names : List (List ℕ)) (text : List ℕ) (kinds : List TokenKind) : Type 0 where
  pub spelled : List SpelledToken
  pub tokens : List TokenOf
  pub has : HasTokens text spelled
  pub named : map (with_texts names) tokens ≡ map Some spelled
  pub same : map (λ token. token.kind) tokens ≡ kinds
