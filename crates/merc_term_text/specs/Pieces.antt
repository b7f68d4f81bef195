-- What the text of a term is put together from.
use Rattle.std.specs.Prelude.{ℕ, List, [], ◌∷◌, if◌then◌else◌, codes}
use Rattle.std.specs.List.{flat_map}
use Rattle.std.specs.Fmt.{decimal}
use Rattle.merc_base.specs.Characters.{double_quote_code, quote_code}
use Rattle.merc_value.specs.Text.{text_at, quoted, is_plain}
use Rattle.merc_tokens.specs.declared.token.TokenKind.{TokenKind}
use Rattle.merc_tokens.specs.declared.token.TokenKind.TheVariants.{Name, Quoted, Var, Int, Text as TextToken, OpenArgs, Open, Close, OpenList, CloseList, Comma, Bar, Dot, Stop}

-- a token, or a blank between two
pub data Piece : Type 0 where
  Blank : Piece
  Token : (kind : TokenKind) → Piece

abbrev pub token_text : List (List ℕ) → TokenKind → List ℕ
token_text names (Name name) = text_at names name
token_text names (Quoted name) = quoted quote_code (text_at names name)
token_text names (Var name) = text_at names name
token_text names (Int value) = decimal value
token_text names (TextToken name) = quoted double_quote_code (text_at names name)
token_text names OpenArgs = codes "("
token_text names Open = codes "("
token_text names Close = codes ")"
token_text names OpenList = codes "["
token_text names CloseList = codes "]"
token_text names Comma = codes ","
token_text names Bar = codes "|"
token_text names Dot = codes "."
token_text names Stop = codes "."

abbrev pub piece_text : List (List ℕ) → Piece → List ℕ
piece_text names Blank = codes " "
piece_text names (Token kind) = token_text names kind

abbrev pub pieces_text : List (List ℕ) → List Piece → List ℕ
pieces_text names pieces = flat_map (piece_text names) pieces

-- the tokens among the pieces
abbrev pub kinds_of : List Piece → List TokenKind
kinds_of [] = []
kinds_of (Blank ∷ rest) = kinds_of rest
kinds_of (Token kind ∷ rest) = kind ∷ kinds_of rest

-- a name, within quotes unless it is plain
abbrev pub name_piece : List (List ℕ) → ℕ → Piece
name_piece names name = if is_plain (text_at names name) then Token (Name name) else Token (Quoted name)
