-- Tokens by their kinds.
use Rattle.std.proofs.Common.{◌≡◌, Bool, false, List, [], ◌∷◌, map, refl, ap}
use Rattle.merc_base.specs.declared.place.Span.{Span}
use Rattle.merc_tokens.specs.declared.token.Token.{Token}
use Rattle.merc_tokens.specs.declared.token.TokenKind.{TokenKind}
use Rattle.merc_terms.specs.Reading.{token, begins_with}

abbrev pub kinds : List Token → List TokenKind
kinds tokens = map (λ (t : Token). t.kind) tokens

-- the first token
pub record Taken (kind : TokenKind) (tokens : List Token) (after : List TokenKind) : Type 0 where
  pub span : Span
  pub rest : List Token
  pub is : tokens ≡ token kind span ∷ rest
  pub left : kinds rest ≡ after

pub take_token : (kind : TokenKind) (tokens : List Token) (after : List TokenKind) → kinds tokens ≡ kind ∷ after → Taken kind tokens after
take_token kind [] after same = absurd (cc)
take_token kind (first ∷ rest) after same = record {
  span = first.span;
  rest = rest;
  is = (let e : first.kind ≡ kind = cc in ap (λ k. token k first.span ∷ rest) e);
  left = cc;
}

-- what the first kind is
abbrev pub begins : (TokenKind → Bool) → List TokenKind → Bool
begins test [] = false
begins test (first ∷ rest) = test first

pub begins_is : (test : TokenKind → Bool) (tokens : List Token) → begins_with test tokens ≡ begins test (kinds tokens)
begins_is test [] = refl
begins_is test (first ∷ rest) = refl
