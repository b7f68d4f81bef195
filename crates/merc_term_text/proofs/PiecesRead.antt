-- The text of well parted pieces has the tokens that they name.
use Rattle.std.proofs.Common.{◌≡◌, ℕ, ◌+◌, Bool, true, false, List, [], ◌∷◌, ◌++◌, length, drop, map, Option, Some, None, slice_get, option_map, codes, refl, sym, ◌∙◌, ap, ap₂, subst, arith, unwrap_or, append_assoc, length-append, IsUtf8}
use Rattle.std.specs.List.{AllByRecursion}
use Rattle.std.proofs.Math.Seq.{drop-append_seam}
use Rattle.std.proofs.lemmas.Bool.{and_parts, and_from}
use Rattle.std.proofs.lemmas.Fmt.{IsAscii-decimal}
use Rattle.std.proofs.lemmas.Str.{IsUtf8-append, IsUtf8-from_ascii, IsUtf8-nil}
use Rattle.merc_base.specs.Characters.{bar_code, close_code, close_list_code, comma_code, dot_code, double_quote_code, open_code, open_list_code, quote_code, space_code}
use Rattle.merc_base.specs.Names.{HoldsFixed}
use Rattle.merc_value.specs.Text.{text_at}
use Rattle.merc_tokens.specs.declared.token.Token.{Token as TokenOf}
use Rattle.merc_tokens.specs.declared.token.TokenKind.{TokenKind}
use Rattle.merc_tokens.specs.declared.token.TokenKind.TheVariants.{Name, Quoted, Var, Int, Text as TextToken, OpenArgs, Open, Close, OpenList, CloseList, Comma, Bar, Dot, Stop}
use Rattle.merc_tokens.specs.declared.pieces.Spelling.{Spelling}
use Rattle.merc_tokens.specs.declared.pieces.Piece.{Piece as PieceFound}
use Rattle.merc_tokens.specs.declared.pieces.Piece.TheVariants.{Gap, Token as TokenFound}
use Rattle.merc_tokens.specs.Pieces.{first_piece}
use Rattle.merc_tokens.specs.Tokens.{SpelledToken, HasTokensFrom, token_at, with_texts}
use Rattle.merc_tokens.specs.Tokens.HasTokensFrom.{ends, gap, token}
use Rattle.merc_term_text.specs.Pieces.{Piece, Blank, Token, token_text, piece_text, pieces_text, kinds_of}
use Rattle.merc_term_text.proofs.Parted.{parted, may_end, begins_part, touches, HasName, HasKinds, IsSpelled}
use Rattle.merc_term_text.proofs.Utf8Parts.{ascii_byte}
use Rattle.merc_term_text.proofs.EscapedReads.{single_quote, double_quote, written_utf8}
use Rattle.merc_term_text.proofs.PiecesBehind.{allowed, after_name, is_name_token, parted-token}
use Rattle.merc_term_text.proofs.TokensRead.{ReadsAsToken, token-reads}

-- the text is UTF-8

module _ (names : List (List ℕ)) where
  text-utf8 : (name : ℕ) (text : List ℕ) → slice_get names name ≡ Some text → IsUtf8 text → IsUtf8 (text_at names name)
  text-utf8 name text there whole = subst IsUtf8 (sym (ap (λ (o : Option (List ℕ)). unwrap_or o []) there)) whole

  name-utf8 : (name : ℕ) → HasName names name → IsUtf8 (text_at names name)
  name-utf8 name has = text-utf8 name has.text has.there has.utf8

  token-utf8 : (kind : TokenKind) → IsSpelled names kind → IsUtf8 (token_text names kind)
  token-utf8 (Name name) spelled = name-utf8 name spelled.0
  token-utf8 (Quoted name) spelled = written_utf8 quote_code single_quote (text_at names name) (name-utf8 name spelled)
  token-utf8 (Var name) spelled = name-utf8 name spelled.0
  token-utf8 (Int value) spelled = IsUtf8-from_ascii _ (IsAscii-decimal value (omega arith))
  token-utf8 (TextToken name) spelled = written_utf8 double_quote_code double_quote (text_at names name) (text-utf8 name spelled.0 spelled.1 spelled.2)
  token-utf8 OpenArgs spelled = ascii_byte open_code (omega arith)
  token-utf8 Open spelled = ascii_byte open_code (omega arith)
  token-utf8 Close spelled = ascii_byte close_code (omega arith)
  token-utf8 OpenList spelled = ascii_byte open_list_code (omega arith)
  token-utf8 CloseList spelled = ascii_byte close_list_code (omega arith)
  token-utf8 Comma spelled = ascii_byte comma_code (omega arith)
  token-utf8 Bar spelled = ascii_byte bar_code (omega arith)
  token-utf8 Dot spelled = ascii_byte dot_code (omega arith)
  token-utf8 Stop spelled = ascii_byte dot_code (omega arith)

  pieces-utf8 : (pieces : List Piece) → AllByRecursion (IsSpelled names) (kinds_of pieces) → IsUtf8 (pieces_text names pieces)
  pieces-utf8 [] spelled = IsUtf8-nil
  pieces-utf8 (Blank ∷ rest) spelled = IsUtf8-append (codes " ") (pieces_text names rest) (ascii_byte space_code (omega arith)) (pieces-utf8 rest spelled)
  pieces-utf8 (Token kind ∷ rest) spelled = IsUtf8-append (token_text names kind) (pieces_text names rest) (token-utf8 kind spelled.0) (pieces-utf8 rest spelled.1)

  -- from a place on a text has tokens of these kinds
  record HasKindsFrom (text : List ℕ) (at : ℕ) (after : Bool) (kinds : List TokenKind) : Type 0 where
    spelled : List SpelledToken
    tokens : List TokenOf
    has : HasTokensFrom text at after spelled
    named : map (with_texts names) tokens ≡ map Some spelled
    same : map (λ (found : TokenOf). found.kind) tokens ≡ kinds

  -- behind a part of the text
  moved : (front part rest : List ℕ) (after : Bool) (spelled : List SpelledToken) → HasTokensFrom ((front ++ part) ++ rest) (length (front ++ part)) after spelled → HasTokensFrom (front ++ (part ++ rest)) (length front + length part) after spelled
  moved front part rest after spelled has =
      subst (λ (n : ℕ). HasTokensFrom (front ++ (part ++ rest)) n after spelled) (length-append front part)
      (subst (λ (t : List ℕ). HasTokensFrom t (length (front ++ part)) after spelled) (append_assoc front part rest) has)

  first-at : (front text : List ℕ) (after : Bool) (piece : PieceFound) → first_piece after text ≡ piece → first_piece after (drop (length front) (front ++ text)) ≡ piece
  first-at front text after piece is = ap (first_piece after) (drop-append_seam front text) ∙ is

  end-kinds : (front : List ℕ) (after : Bool) → HasKindsFrom (front ++ []) (length front) after []
  end-kinds front after = record { spelled = []; tokens = []; has = ends (length front) after (drop-append_seam front []); named = refl; same = refl }

  gap-kinds : (front rest : List ℕ) (after : Bool) (kinds : List TokenKind) → HasKindsFrom ((front ++ 32 ∷ []) ++ rest) (length (front ++ 32 ∷ [])) false kinds → HasKindsFrom (front ++ 32 ∷ rest) (length front) after kinds
  gap-kinds front rest after kinds others = record {
    spelled = others.spelled;
    tokens = others.tokens;
    has = gap (length front) 1 after others.spelled (first-at front (space_code ∷ rest) after (Gap 1) refl) (moved front (32 ∷ []) rest false others.spelled others.has);
    named = others.named;
    same = others.same;
  }

  token-kinds : (front rest : List ℕ) (after : Bool) (kind : TokenKind) (kinds : List TokenKind) → ReadsAsToken names after kind rest
      → HasKindsFrom ((front ++ token_text names kind) ++ rest) (length (front ++ token_text names kind)) (is_name_token kind) kinds
      → HasKindsFrom (front ++ (token_text names kind ++ rest)) (length front) after (kind ∷ kinds)
  token-kinds front rest after kind kinds first others =
      let text : List ℕ = front ++ (token_text names kind ++ rest) in
      let part : List ℕ = token_text names kind in
      let here : SpelledToken = token_at text (length front) (length part) first.spelling in
      record {
        spelled = here ∷ others.spelled;
        tokens = record { kind = kind; span = here.span } ∷ others.tokens;
        has = token (length front) (length part) after first.spelling others.spelled
            (first-at front (part ++ rest) after (TokenFound first.spelling (length part)) first.piece)
            (subst (λ (b : Bool). HasTokensFrom text (length front + length part) b others.spelled) (sym first.name) (moved front part rest (is_name_token kind) others.spelled others.has));
        named = ap₂ (λ (one : Option SpelledToken) (more : List (Option SpelledToken)). one ∷ more) (ap (option_map (λ (spelling : Spelling). record { kind = spelling; span = here.span })) first.looked_up) others.named;
        same = ap (λ (more : List TokenKind). kind ∷ more) others.same;
      }

  module _ (fixed : HoldsFixed names) where
    pieces-from : (pieces : List Piece) (before : Option TokenKind) (front : List ℕ) → parted names before pieces ≡ true → AllByRecursion (IsSpelled names) (kinds_of pieces)
        → HasKindsFrom (front ++ pieces_text names pieces) (length front) (after_name before) (kinds_of pieces)
    pieces-from [] before front well spelled = end-kinds front (after_name before)
    pieces-from (Blank ∷ rest) before front well spelled =
        gap-kinds front (pieces_text names rest) (after_name before) (kinds_of rest)
        (pieces-from rest None (front ++ 32 ∷ []) (and_parts (may_end before) (parted names None rest) well).1 spelled)
    pieces-from (Token kind ∷ rest) before front well spelled =
        let parts = parted-token names before kind rest well in
        token-kinds front (pieces_text names rest) (after_name before) kind (kinds_of rest)
        (token-reads names fixed before kind rest parts.0 parts.1 spelled.0 spelled.1)
        (pieces-from rest (Some kind) (front ++ token_text names kind) parts.1 spelled.1)

-- the text of well parted pieces has the tokens among them
pub pieces_read : (names : List (List ℕ)) (pieces : List Piece) → HoldsFixed names → parted names None pieces ≡ true → AllByRecursion (IsSpelled names) (kinds_of pieces)
    → HasKinds names (pieces_text names pieces) (kinds_of pieces)
pieces_read names pieces fixed well spelled =
    let found = pieces-from names fixed pieces None [] well spelled in record {
      spelled = found.spelled;
      tokens = found.tokens;
      has = record { utf8 = pieces-utf8 names pieces spelled; all = found.has };
      named = found.named;
      same = found.same;
    }

-- the token that pieces end with, behind this one or none: none behind a blank
abbrev pub last_token : Option TokenKind → List Piece → Option TokenKind
last_token before [] = before
last_token before (Blank ∷ rest) = last_token None rest
last_token before (Token kind ∷ rest) = last_token (Some kind) rest

token-parted : (names : List (List ℕ)) (before : Option TokenKind) (next : TokenKind) (rest : List Piece) → allowed names before next ≡ true → parted names (Some next) rest ≡ true → parted names before (Token next ∷ rest) ≡ true
token-parted names None next rest here on = and_from (begins_part next) (parted names (Some next) rest) here on
token-parted names (Some before) next rest here on = and_from (touches names before next) (parted names (Some next) rest) here on

-- pieces behind well parted ones
pub parted-append : (names : List (List ℕ)) (before : Option TokenKind) (front rest : List Piece) → parted names before front ≡ true → parted names (last_token before front) rest ≡ true → parted names before (front ++ rest) ≡ true
parted-append names before [] rest well on = on
parted-append names before (Blank ∷ front) rest well on =
    let parts = and_parts (may_end before) (parted names None front) well in
    and_from (may_end before) (parted names None (front ++ rest)) parts.0 (parted-append names None front rest parts.1 on)
parted-append names before (Token kind ∷ front) rest well on =
    let parts = parted-token names before kind front well in
    token-parted names before kind (front ++ rest) parts.0 (parted-append names (Some kind) front rest parts.1 on)

pub kinds_of-append : (front rest : List Piece) → kinds_of (front ++ rest) ≡ kinds_of front ++ kinds_of rest
kinds_of-append [] rest = refl
kinds_of-append (Blank ∷ front) rest = kinds_of-append front rest
kinds_of-append (Token kind ∷ front) rest = ap (λ (kinds : List TokenKind). kind ∷ kinds) (kinds_of-append front rest)

pub pieces_text-append : (names : List (List ℕ)) (front rest : List Piece) → pieces_text names (front ++ rest) ≡ pieces_text names front ++ pieces_text names rest
pieces_text-append names [] rest = refl
pieces_text-append names (first ∷ front) rest =
    ap (λ (t : List ℕ). piece_text names first ++ t) (pieces_text-append names front rest)
    ∙ sym (append_assoc (piece_text names first) (pieces_text names front) (pieces_text names rest))

spelled-append : (names : List (List ℕ)) (front rest : List TokenKind) → AllByRecursion (IsSpelled names) front → AllByRecursion (IsSpelled names) rest → AllByRecursion (IsSpelled names) (front ++ rest)
spelled-append names [] rest here on = on
spelled-append names (first ∷ front) rest here on = (here.0, spelled-append names front rest here.1 on)

-- and with a full stop behind the last token, where that may stand there
pub pieces_stop : (names : List (List ℕ)) (pieces : List Piece) → HoldsFixed names → parted names None pieces ≡ true → allowed names (last_token None pieces) Stop ≡ true → AllByRecursion (IsSpelled names) (kinds_of pieces)
    → HasKinds names (pieces_text names pieces ++ codes ".") (kinds_of pieces ++ Stop ∷ [])
pieces_stop names pieces fixed well stops spelled =
    let all : List Piece = pieces ++ Token Stop ∷ [] in
    let kinds : kinds_of all ≡ kinds_of pieces ++ Stop ∷ [] = kinds_of-append pieces (Token Stop ∷ []) in
    let found : HasKinds names (pieces_text names all) (kinds_of all) =
    pieces_read names all fixed
    (parted-append names None pieces (Token Stop ∷ []) well (token-parted names (last_token None pieces) Stop [] stops refl))
    (subst (AllByRecursion (IsSpelled names)) (sym kinds) (spelled-append names (kinds_of pieces) (Stop ∷ []) spelled (tt, tt))) in
    subst (HasKinds names (pieces_text names pieces ++ codes ".")) kinds
    (subst (λ (t : List ℕ). HasKinds names t (kinds_of all)) (pieces_text-append names pieces (Token Stop ∷ [])) found)
