-- The tokens of a text.
use Rattle.std.specs.Prelude.{◌≡◌, ℕ, ◌+◌, Bool, true, false, ◌==◌, List, [], ◌∷◌, map, fold, take, drop, Option, Some, slice_get}
use Rattle.std.specs.Option.{option_map}
use Rattle.std.specs.List.{count_by, flat_map}
use Rattle.std.specs.Str.{IsUtf8}
use Rattle.merc_base.specs.Characters.{line_end_code}
use Rattle.merc_base.specs.Texts.{with_text}
use Rattle.merc_base.specs.declared.place.Span.{Span}
use Rattle.merc_tokens.specs.declared.token.Token.{Token}
use Rattle.merc_tokens.specs.declared.token.TokenKind.{TokenKind}
use Rattle.merc_tokens.specs.declared.token.TokenKind.TheVariants.{Name as NameKind, Quoted as QuotedKind, Var as VarKind, Int as IntKind, Text as TextKind, OpenArgs as OpenArgsKind, Open as OpenKind, Close as CloseKind, OpenList as OpenListKind, CloseList as CloseListKind, Comma as CommaKind, Bar as BarKind, Dot as DotKind, Stop as StopKind}
use Rattle.merc_tokens.specs.declared.pieces.Spelling.{Spelling}
use Rattle.merc_tokens.specs.declared.pieces.Spelling.TheVariants.{Name, Quoted, Var, Int, Text, OpenArgs, Open, Close, OpenList, CloseList, Comma, Bar, Dot, Stop}
use Rattle.merc_tokens.specs.declared.pieces.Piece.TheVariants.{Gap, Token as TokenPiece}
use Rattle.merc_tokens.specs.Pieces.{first_piece}

-- a token with the text of what it names
pub record SpelledToken : Type 0 where
  pub kind : Spelling
  pub span : Span

-- the line of the byte at a place: lines are counted from 1 and end with a line end
abbrev pub line_at : List ℕ → ℕ → ℕ
line_at text at = 1 + count_by (λ byte. byte == line_end_code) (take at text)

-- the token of so many bytes at this place
abbrev pub token_at : List ℕ → ℕ → ℕ → Spelling → SpelledToken
token_at text at len spelling =
    record { kind = spelling; span = record { first = at; past = at + len; line = line_at text at } }

abbrev pub is_name : Spelling → Bool
is_name (Name name) = true
is_name (Quoted name) = true
is_name (Var name) = false
is_name (Int value) = false
is_name (Text content) = false
is_name OpenArgs = false
is_name Open = false
is_name Close = false
is_name OpenList = false
is_name CloseList = false
is_name Comma = false
is_name Bar = false
is_name Dot = false
is_name Stop = false

-- From a place on, directly before which a name stands or not, a text has these tokens: none at its end, those behind
-- a blank or a comment, or a token and those behind it.
pub data HasTokensFrom (text : List ℕ) : ℕ → Bool → List SpelledToken → Type 0 where
  ends : (at : ℕ) (after_name : Bool) → drop at text ≡ [] → HasTokensFrom text at after_name []
  gap : (at len : ℕ) (after_name : Bool) (tokens : List SpelledToken) → first_piece after_name (drop at text) ≡ Gap len → HasTokensFrom text (at + len) false tokens → HasTokensFrom text at after_name tokens
  token : (at len : ℕ) (after_name : Bool) (spelling : Spelling) (tokens : List SpelledToken) → first_piece after_name (drop at text) ≡ TokenPiece spelling len → HasTokensFrom text (at + len) (is_name spelling) tokens → HasTokensFrom text at after_name (token_at text at len spelling ∷ tokens)

-- the text is UTF-8 and has these tokens
pub record HasTokens (text : List ℕ) (tokens : List SpelledToken) : Type 0 where
  pub utf8 : IsUtf8 text
  pub all : HasTokensFrom text 0 false tokens

-- what a kind of token says, its name looked up among these
abbrev pub spelling_in : List (List ℕ) → TokenKind → Option Spelling
spelling_in names (NameKind name) = option_map Name (slice_get names name)
spelling_in names (QuotedKind name) = option_map Quoted (slice_get names name)
spelling_in names (VarKind name) = option_map Var (slice_get names name)
spelling_in names (IntKind value) = Some (Int value)
spelling_in names (TextKind name) = option_map Text (slice_get names name)
spelling_in names OpenArgsKind = Some OpenArgs
spelling_in names OpenKind = Some Open
spelling_in names CloseKind = Some Close
spelling_in names OpenListKind = Some OpenList
spelling_in names CloseListKind = Some CloseList
spelling_in names CommaKind = Some Comma
spelling_in names BarKind = Some Bar
spelling_in names DotKind = Some Dot
spelling_in names StopKind = Some Stop

-- a token with its text in place of the number of its name, where that name is one of these
abbrev pub with_texts : List (List ℕ) → Token → Option SpelledToken
with_texts names found = option_map (λ kind. record { kind = kind; span = found.span }) (spelling_in names found.kind)

-- the text that a token names
abbrev pub named_text : Spelling → List (List ℕ)
named_text (Name name) = name ∷ []
named_text (Quoted name) = name ∷ []
named_text (Var name) = name ∷ []
named_text (Text content) = content ∷ []
named_text other = []

-- a table of names with those of these tokens put behind it, each where it is new
abbrev pub with_names : List (List ℕ) → List SpelledToken → List (List ℕ)
with_names names spelled = fold with_text names (flat_map (λ token. named_text token.kind) spelled)

-- The tokens of a text, whose names were put into a table that held the first names before and holds the second now.
pub record ReadsTokens (before after : List (List ℕ)) (text : List ℕ) (tokens : List Token) : Type 0 where
  pub spelled : List SpelledToken
  pub has : HasTokens text spelled
  pub named : map (with_texts after) tokens ≡ map Some spelled
  pub table : after ≡ with_names before spelled
