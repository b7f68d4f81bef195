-- Each token reads as itself, given what stands before and behind it.
use Rattle.std.proofs.Common.{◌≡◌, ℕ, ◌+◌, ◌≤◌, ◌⊎◌, Bool, true, false, List, [], ◌∷◌, ◌++◌, length, Option, Some, slice_get, option_map, flat_map, codes, refl, sym, ◌∙◌, ap, subst, arith, inl, inr, unwrap_or, append_assoc, length-append, decimal}
use Rattle.std.specs.List.{AllByRecursion}
use Rattle.std.proofs.lemmas.Bool.{cases_Bool, false≢true}
use Rattle.merc_base.specs.Characters.{dot_code, double_quote_code, quote_code, space_code}
use Rattle.merc_base.specs.Names.{HoldsFixed, minus_name}
use Rattle.merc_value.specs.Text.{text_at, is_plain, escape, quoted as written}
use Rattle.merc_tokens.specs.declared.token.TokenKind.{TokenKind}
use Rattle.merc_tokens.specs.declared.token.TokenKind.TheVariants.{Name, Quoted, Var, Int, Text as TextToken, OpenArgs, Open, Close, OpenList, CloseList, Comma, Bar, Dot, Stop}
use Rattle.merc_tokens.specs.declared.pieces.Spelling.{Spelling}
use Rattle.merc_tokens.specs.declared.pieces.Spelling.TheVariants.{Name as NameOf, Quoted as QuotedOf, Var as VarOf, Int as IntOf, Text as TextOf, OpenArgs as OpenArgsOf, Open as OpenOf, Close as CloseOf, OpenList as OpenListOf, CloseList as CloseListOf, Comma as CommaOf, Bar as BarOf, Dot as DotOf, Stop as StopOf}
use Rattle.merc_tokens.specs.declared.pieces.Piece.TheVariants.{Token as TokenFound}
use Rattle.merc_tokens.specs.Bytes.{next_is}
use Rattle.merc_tokens.specs.Quoted.{quoted}
use Rattle.merc_tokens.specs.Pieces.{first_piece, quoted_piece, string_piece, name_limit}
use Rattle.merc_tokens.specs.Tokens.{is_name, spelling_in}
use Rattle.merc_term_text.specs.Pieces.{Piece, token_text, pieces_text, kinds_of}
use Rattle.merc_term_text.proofs.Parted.{parted, HasName, IsSpelled, is_operator, is_variable_text}
use Rattle.merc_term_text.proofs.Behind.{EndsItem, at_end, at_blank, EndsOperand, EndsName, no_single_quote, no_double_quote}
use Rattle.merc_term_text.proofs.EscapedReads.{IsQuote, single_quote, double_quote, reads_escaped}
use Rattle.merc_term_text.proofs.DecimalReads.{decimal-reads, decimal-no_graphic}
use Rattle.merc_term_text.proofs.NamesRead.{named-short, plain-is, name-reads, variable-reads}
use Rattle.merc_term_text.proofs.OperatorsRead.{Reads, operator-reads, minus-reads, minus-fixed}
use Rattle.merc_term_text.proofs.PiecesBehind.{allowed, is_name_token, after_name, open_args-before, dot-before, open-before, stop-behind, operand-behind, name-behind, plain-touches, EndsSymbol, symbol_end, symbol_blank, symbol_sign, symbol-behind, BeginsName, begins, dot-behind}

-- a token of this kind is the first piece of its text with the rest behind it
pub record ReadsAsToken (names : List (List ℕ)) (after : Bool) (kind : TokenKind) (rest : List ℕ) : Type 0 where
  pub spelling : Spelling
  pub looked_up : spelling_in names kind ≡ Some spelling
  pub name : is_name spelling ≡ is_name_token kind
  pub piece : first_piece after (token_text names kind ++ rest) ≡ TokenFound spelling (length (token_text names kind))

text-found : (names : List (List ℕ)) (name : ℕ) (text : List ℕ) → slice_get names name ≡ Some text → text_at names name ≡ text
text-found names name text there = ap (λ (o : Option (List ℕ)). unwrap_or o []) there

-- within quotes
quoted-found : (quote : ℕ) → IsQuote quote → (text rest : List ℕ) → next_is quote rest ≡ false
    → quoted quote [] 0 ((flat_map (escape quote) text ++ quote ∷ []) ++ rest) ≡ Some (text, length (flat_map (escape quote) text) + 1)
quoted-found quote is_quote text rest apart =
    rw (append_assoc (flat_map (escape quote) text) (quote ∷ []) rest)
    (reads_escaped quote is_quote [] text rest 0 apart ∙ ap (λ (n : ℕ). Some (text, n)) (omega arith))

quoted-length : (quote : ℕ) (text : List ℕ) → 1 + (length (flat_map (escape quote) text) + 1) ≡ length (written quote text)
quoted-length quote text = omega (arith, length-append (flat_map (escape quote) text) (quote ∷ []))

quoted-reads : (text rest : List ℕ) (after : Bool) → length text ≤ name_limit → EndsName rest → first_piece after (written quote_code text ++ rest) ≡ TokenFound (QuotedOf text) (length (written quote_code text))
quoted-reads text rest after short ends =
    ap quoted_piece (quoted-found quote_code single_quote text rest (no_single_quote rest ends))
    ∙ named-short QuotedOf text _ short
    ∙ ap (TokenFound (QuotedOf text)) (quoted-length quote_code text)

string-reads : (text rest : List ℕ) (after : Bool) → EndsOperand rest → first_piece after (written double_quote_code text ++ rest) ≡ TokenFound (TextOf text) (length (written double_quote_code text))
string-reads text rest after ends =
    ap string_piece (quoted-found double_quote_code double_quote text rest (no_double_quote rest ends))
    ∙ ap (TokenFound (TextOf text)) (quoted-length double_quote_code text)

-- a token with a name in the table
module _ (names : List (List ℕ)) (after : Bool) (name : ℕ) (rest : List ℕ) where
  plain-token : HasName names name → is_plain (text_at names name) ≡ true → EndsName rest → ReadsAsToken names after (Name name) rest
  plain-token has is ends =
      let same = text-found names name has.text has.there in
      let found = name-reads has.text rest after has.short (plain-is has.text (subst (λ (t : List ℕ). is_plain t ≡ true) same is)) ends in
      record {
        spelling = NameOf has.text;
        looked_up = ap (option_map NameOf) has.there;
        name = refl;
        piece = subst (λ (t : List ℕ). first_piece after (t ++ rest) ≡ TokenFound (NameOf has.text) (length t)) (sym same) found;
      }

  quoted-token : HasName names name → EndsName rest → ReadsAsToken names after (Quoted name) rest
  quoted-token has ends =
      let same = text-found names name has.text has.there in record {
        spelling = QuotedOf has.text;
        looked_up = ap (option_map QuotedOf) has.there;
        name = refl;
        piece = subst (λ (t : List ℕ). first_piece after (written quote_code t ++ rest) ≡ TokenFound (QuotedOf has.text) (length (written quote_code t))) (sym same) (quoted-reads has.text rest after has.short ends);
      }

  variable-token : HasName names name → is_variable_text (text_at names name) ≡ true → EndsOperand rest → ReadsAsToken names after (Var name) rest
  variable-token has is ends =
      let same = text-found names name has.text has.there in
      let found = variable-reads has.text rest after has.short (subst (λ (t : List ℕ). is_variable_text t ≡ true) same is) ends in
      record {
        spelling = VarOf has.text;
        looked_up = ap (option_map VarOf) has.there;
        name = refl;
        piece = subst (λ (t : List ℕ). first_piece after (t ++ rest) ≡ TokenFound (VarOf has.text) (length t)) (sym same) found;
      }

  text-token : (text : List ℕ) → slice_get names name ≡ Some text → EndsOperand rest → ReadsAsToken names after (TextToken name) rest
  text-token text there ends =
      let same = text-found names name text there in record {
        spelling = TextOf text;
        looked_up = ap (option_map TextOf) there;
        name = refl;
        piece = subst (λ (t : List ℕ). first_piece after (written double_quote_code t ++ rest) ≡ TokenFound (TextOf text) (length (written double_quote_code t))) (sym same) (string-reads text rest after ends);
      }

  operator-token : (text : List ℕ) → slice_get names name ≡ Some text → first_piece after (text ++ rest) ≡ TokenFound (NameOf text) (length text) → ReadsAsToken names after (Name name) rest
  operator-token text there found =
      let same = text-found names name text there in record {
        spelling = NameOf text;
        looked_up = ap (option_map NameOf) there;
        name = refl;
        piece = subst (λ (t : List ℕ). first_piece after (t ++ rest) ≡ TokenFound (NameOf text) (length t)) (sym same) found;
      }

-- a token that has no name
fixed-token : (names : List (List ℕ)) (after : Bool) (kind : TokenKind) (rest : List ℕ) (spelling : Spelling) → spelling_in names kind ≡ Some spelling → is_name spelling ≡ is_name_token kind
    → first_piece after (token_text names kind ++ rest) ≡ TokenFound spelling (length (token_text names kind)) → ReadsAsToken names after kind rest
fixed-token names after kind rest spelling looked_up name piece = record { spelling = spelling; looked_up = looked_up; name = name; piece = piece }

qualifier-reads : (rest : List ℕ) → BeginsName rest → first_piece true (dot_code ∷ rest) ≡ TokenFound DotOf 1
qualifier-reads _ (begins byte rest other going name) = rw (other, going, name) refl

stop-reads : (after : Bool) (rest : List ℕ) → EndsItem rest → first_piece after (dot_code ∷ rest) ≡ TokenFound StopOf 1
stop-reads after _ at_end = refl
stop-reads after _ (at_blank rest) = refl

module _ (names : List (List ℕ)) (fixed : HoldsFixed names) where
  -- an operator's symbol
  symbol-reads : (after : Bool) (name : ℕ) (rest : List Piece) → Reads name → EndsSymbol name rest → AllByRecursion (IsSpelled names) (kinds_of rest) → ReadsAsToken names after (Name name) (pieces_text names rest)
  symbol-reads after name _ reads symbol_end others =
      operator-token names after name [] reads.text (fixed.text name reads.text reads.is) (reads.piece after [] at_end)
  symbol-reads after name _ reads (symbol_blank rest) others =
      operator-token names after name (space_code ∷ pieces_text names rest) reads.text (fixed.text name reads.text reads.is) (reads.piece after (space_code ∷ pieces_text names rest) (at_blank (pieces_text names rest)))
  symbol-reads after name _ reads (symbol_sign value rest same) others =
      operator-token names after name (decimal value ++ pieces_text names rest) (codes "-")
      (subst (λ (n : ℕ). slice_get names n ≡ Some (codes "-")) (sym same) (fixed.text minus_name (codes "-") minus-fixed))
      (minus-reads after (decimal value ++ pieces_text names rest) (decimal-no_graphic value (pieces_text names rest) others.0))

  name-token : (after : Bool) (name : ℕ) (rest : List Piece) → parted names (Some (Name name)) rest ≡ true → HasName names name → (is_plain (text_at names name) ≡ true) ⊎ (is_operator name ≡ true)
      → AllByRecursion (IsSpelled names) (kinds_of rest) → ReadsAsToken names after (Name name) (pieces_text names rest)
  name-token after name rest on has either others = elim (cases_Bool (is_plain (text_at names name))) [
    | inl plain ↦ plain-token names after name (pieces_text names rest) has plain (name-behind names (Name name) rest (λ next touch. plain-touches names name next fixed plain touch) on)
    | inr symbol ↦ elim either [
      | inl plain ↦ absurd (false≢true (sym symbol ∙ plain))
      | inr operator ↦ symbol-reads after name rest (operator-reads name operator) (symbol-behind names name rest symbol on) others
    ]
  ]

  -- each token reads as itself where it is parted well
  pub token-reads : (before : Option TokenKind) (kind : TokenKind) (rest : List Piece) → allowed names before kind ≡ true → parted names (Some kind) rest ≡ true → IsSpelled names kind
      → AllByRecursion (IsSpelled names) (kinds_of rest) → ReadsAsToken names (after_name before) kind (pieces_text names rest)
  token-reads before (Name name) rest ok on spelled others = name-token (after_name before) name rest on spelled.0 spelled.1 others
  token-reads before (Quoted name) rest ok on spelled others = quoted-token names (after_name before) name (pieces_text names rest) spelled (name-behind names (Quoted name) rest (λ next touch. touch) on)
  token-reads before (Var name) rest ok on spelled others = variable-token names (after_name before) name (pieces_text names rest) spelled.0 spelled.1 (operand-behind names (Var name) rest (λ next touch. touch) on)
  token-reads before (Int value) rest ok on spelled others =
      fixed-token names (after_name before) (Int value) (pieces_text names rest) (IntOf value) refl refl
      (decimal-reads value (pieces_text names rest) (after_name before) spelled (operand-behind names (Int value) rest (λ next touch. touch) on))
  token-reads before (TextToken name) rest ok on spelled others = text-token names (after_name before) name (pieces_text names rest) spelled.0 spelled.1 (operand-behind names (TextToken name) rest (λ next touch. touch) on)
  token-reads before OpenArgs rest ok on spelled others = fixed-token names (after_name before) OpenArgs (pieces_text names rest) OpenArgsOf refl refl (rw (open_args-before names before ok) refl)
  token-reads before Open rest ok on spelled others = fixed-token names (after_name before) Open (pieces_text names rest) OpenOf refl refl (rw (open-before names before ok) refl)
  token-reads before Close rest ok on spelled others = fixed-token names (after_name before) Close (pieces_text names rest) CloseOf refl refl refl
  token-reads before OpenList rest ok on spelled others = fixed-token names (after_name before) OpenList (pieces_text names rest) OpenListOf refl refl refl
  token-reads before CloseList rest ok on spelled others = fixed-token names (after_name before) CloseList (pieces_text names rest) CloseListOf refl refl refl
  token-reads before Comma rest ok on spelled others = fixed-token names (after_name before) Comma (pieces_text names rest) CommaOf refl refl refl
  token-reads before Bar rest ok on spelled others = fixed-token names (after_name before) Bar (pieces_text names rest) BarOf refl refl refl
  token-reads before Dot rest ok on spelled others =
      fixed-token names (after_name before) Dot (pieces_text names rest) DotOf refl refl
      (rw (dot-before names before ok) (qualifier-reads (pieces_text names rest) (dot-behind names rest on)))
  token-reads before Stop rest ok on spelled others =
      fixed-token names (after_name before) Stop (pieces_text names rest) StopOf refl refl
      (stop-reads (after_name before) (pieces_text names rest) (stop-behind names rest on))
