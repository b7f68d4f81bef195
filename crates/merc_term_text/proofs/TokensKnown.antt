-- What the table has of the tokens that were read from a text.
use Rattle.std.proofs.Common.{◌≡◌, ℕ, ◌+◌, Bool, true, false, List, [], ◌∷◌, take, drop, map, Option, Some, None, slice_get, option_map, refl, sym, ap, subst, unwrap_or, take-append-drop, IsUtf8}
use Rattle.std.specs.List.{AllByRecursion}
use Rattle.merc_base.specs.declared.place.Span.{Span}
use Rattle.merc_value.specs.Text.{text_at}
use Rattle.merc_tokens.specs.declared.token.Token.{Token}
use Rattle.merc_tokens.specs.declared.token.TokenKind.{TokenKind}
use Rattle.merc_tokens.specs.declared.token.TokenKind.TheVariants.{Name, Quoted, Var, Int, Text as TextToken, OpenArgs, Open, Close, OpenList, CloseList, Comma, Bar, Dot, Stop}
use Rattle.merc_tokens.specs.declared.pieces.Spelling.{Spelling}
use Rattle.merc_tokens.specs.declared.pieces.Spelling.TheVariants.{Name as NameOf, Quoted as QuotedOf, Var as VarOf, Text as TextOf}
use Rattle.merc_tokens.specs.Tokens.{SpelledToken, HasTokensFrom, is_name, spelling_in, with_texts}
use Rattle.merc_tokens.specs.Tokens.HasTokensFrom.{ends, gap, token}
use Rattle.merc_term_text.proofs.Parted.{HasName, is_variable_text}
use Rattle.merc_term_text.proofs.PiecesValid.{IsValid, IsNameText, piece-valid}

-- the tokens of a UTF-8 text
pub tokens-valid : (text : List ℕ) (at : ℕ) (after : Bool) (spelled : List SpelledToken) → IsUtf8 text → HasTokensFrom text at after spelled → AllByRecursion (λ (found : SpelledToken). IsValid found.kind) spelled
tokens-valid text at after _ whole (ends _ _ ended) = tt
tokens-valid text at after spelled whole (gap _ len _ _ is on) = tokens-valid text (at + len) false spelled whole on
tokens-valid text at after _ whole (token _ len _ spelling rest is on) = (
  piece-valid after (take at text) (drop at text) spelling len (subst IsUtf8 (sym (take-append-drop at text)) whole) is,
  tokens-valid text (at + len) (is_name spelling) rest whole on,
)

-- what the table has of a token that was read
abbrev pub IsKnown : List (List ℕ) → TokenKind → Type 0
IsKnown names (Name name) = HasName names name
IsKnown names (Quoted name) = HasName names name
IsKnown names (Var name) = HasName names name × (is_variable_text (text_at names name) ≡ true)
IsKnown names (Int value) = Unit {0}
IsKnown names (TextToken name) = (text : List ℕ) × (slice_get names name ≡ Some text) × IsUtf8 text
IsKnown names OpenArgs = Unit {0}
IsKnown names Open = Unit {0}
IsKnown names Close = Unit {0}
IsKnown names OpenList = Unit {0}
IsKnown names CloseList = Unit {0}
IsKnown names Comma = Unit {0}
IsKnown names Bar = Unit {0}
IsKnown names Dot = Unit {0}
IsKnown names Stop = Unit {0}

abbrev pub AreKnown : List (List ℕ) → List Token → Type 0
AreKnown names tokens = AllByRecursion (λ (found : Token). IsKnown names found.kind) tokens

module _ (names : List (List ℕ)) where
  has-name : (name : ℕ) (text : List ℕ) → slice_get names name ≡ Some text → IsNameText text → HasName names name
  has-name name text there valid = record { text = text; there = there; utf8 = valid.utf8; short = valid.short }

  name-known : (name : ℕ) (found : Option (List ℕ)) (spelling : Spelling) → slice_get names name ≡ found → option_map NameOf found ≡ Some spelling → IsValid spelling → HasName names name
  name-known name None spelling there is valid = absurd (cc)
  name-known name (Some text) spelling there is valid =
      let same : spelling ≡ NameOf text = cc in has-name name text there (subst IsValid same valid)

  quoted-known : (name : ℕ) (found : Option (List ℕ)) (spelling : Spelling) → slice_get names name ≡ found → option_map QuotedOf found ≡ Some spelling → IsValid spelling → HasName names name
  quoted-known name None spelling there is valid = absurd (cc)
  quoted-known name (Some text) spelling there is valid =
      let same : spelling ≡ QuotedOf text = cc in has-name name text there (subst IsValid same valid)

  variable-known : (name : ℕ) (found : Option (List ℕ)) (spelling : Spelling) → slice_get names name ≡ found → option_map VarOf found ≡ Some spelling → IsValid spelling → IsKnown names (Var name)
  variable-known name None spelling there is valid = absurd (cc)
  variable-known name (Some text) spelling there is valid =
      let same : spelling ≡ VarOf text = cc in
      let valid' : IsValid (VarOf text) = subst IsValid same valid in
      (has-name name text there valid'.0, subst (λ (t : List ℕ). is_variable_text t ≡ true) (sym (ap (λ (o : Option (List ℕ)). unwrap_or o []) there)) valid'.1)

  text-known : (name : ℕ) (found : Option (List ℕ)) (spelling : Spelling) → slice_get names name ≡ found → option_map TextOf found ≡ Some spelling → IsValid spelling → IsKnown names (TextToken name)
  text-known name None spelling there is valid = absurd (cc)
  text-known name (Some text) spelling there is valid =
      let same : spelling ≡ TextOf text = cc in (text, there, subst IsValid same valid)

  kind-known : (kind : TokenKind) (spelling : Spelling) → spelling_in names kind ≡ Some spelling → IsValid spelling → IsKnown names kind
  kind-known (Name name) spelling is valid = name-known name (slice_get names name) spelling refl is valid
  kind-known (Quoted name) spelling is valid = quoted-known name (slice_get names name) spelling refl is valid
  kind-known (Var name) spelling is valid = variable-known name (slice_get names name) spelling refl is valid
  kind-known (Int value) spelling is valid = tt
  kind-known (TextToken name) spelling is valid = text-known name (slice_get names name) spelling refl is valid
  kind-known OpenArgs spelling is valid = tt
  kind-known Open spelling is valid = tt
  kind-known Close spelling is valid = tt
  kind-known OpenList spelling is valid = tt
  kind-known CloseList spelling is valid = tt
  kind-known Comma spelling is valid = tt
  kind-known Bar spelling is valid = tt
  kind-known Dot spelling is valid = tt
  kind-known Stop spelling is valid = tt

  spelling-found : (span : Span) (found : Option Spelling) (spelled : SpelledToken) → option_map (λ (kind : Spelling). record { kind = kind; span = span }) found ≡ Some spelled → found ≡ Some spelled.kind
  spelling-found span None spelled is = absurd (cc)
  spelling-found span (Some spelling) spelled is = ap (λ (o : Option SpelledToken). Some (unwrap_or o spelled).kind) is

  pub tokens-known : (tokens : List Token) (spelled : List SpelledToken) → map (with_texts names) tokens ≡ map Some spelled → AllByRecursion (λ (found : SpelledToken). IsValid found.kind) spelled → AreKnown names tokens
  tokens-known [] spelled is valid = tt
  tokens-known (first ∷ tokens) [] is valid = absurd (cc)
  tokens-known (first ∷ tokens) (one ∷ spelled) is valid =
      let here : with_texts names first ≡ Some one = cc in
      let others : map (with_texts names) tokens ≡ map Some spelled = cc in (
        kind-known first.kind one.kind (spelling-found first.span (spelling_in names first.kind) one here) valid.0,
        tokens-known tokens spelled others valid.1,
      )
