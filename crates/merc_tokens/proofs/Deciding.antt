-- The tokens of a text are computed.
use Rattle.std.proofs.Common.{◌≡◌, ℕ, zero, suc, ◌+◌, Bool, false, ◌==◌, List, [], ◌∷◌, take, drop, Option, Some, None, cond, refl, sym, ap, subst, ◌∙◌, arith}
use Rattle.std.proofs.lemmas.List.{drop-drop}
use Rattle.std.proofs.lemmas.List.Sums.{sum_by-append}
use Rattle.std.proofs.lemmas.Option.{same_Some}
use Rattle.std.proofs.Math.Seq.{take-add}
use Rattle.std.specs.List.{count_by}
use Rattle.std.specs.Option.{option_map}
use Rattle.merc_base.specs.Characters.{line_end_code}
use Rattle.merc_tokens.specs.declared.pieces.Spelling.{Spelling}
use Rattle.merc_tokens.specs.declared.pieces.Piece.{Piece}
use Rattle.merc_tokens.specs.declared.pieces.Piece.TheVariants.{Gap, Token, Fault}
use Rattle.merc_tokens.specs.Pieces.{first_piece}
use Rattle.merc_tokens.specs.Tokens.{SpelledToken, HasTokensFrom, is_name, line_at}
use Rattle.merc_tokens.specs.Tokens.HasTokensFrom.{ends, gap, token}

-- the tokens of what is left of a text, from a place and a line on, directly behind a name or not
abbrev Rest : Type 0
Rest = ℕ → ℕ → Bool → List ℕ → Option (List SpelledToken)

abbrev newlines : List ℕ → ℕ
newlines text = count_by (λ byte. byte == line_end_code) text

abbrev spelled : ℕ → ℕ → ℕ → Spelling → SpelledToken
spelled at past line spelling = record { kind = spelling; span = record { first = at; past = past; line = line } }

abbrev behind_piece : Rest → ℕ → ℕ → List ℕ → Piece → Option (List SpelledToken)
behind_piece rest at line text (Gap len) = rest (at + len) (line + newlines (take len text)) false (drop len text)
behind_piece rest at line text (Token spelling len) =
    option_map (λ more. spelled at (at + len) line spelling ∷ more) (rest (at + len) (line + newlines (take len text)) (is_name spelling) (drop len text))
behind_piece rest at line text (Fault rule detail) = None

abbrev pieces_of : Rest → Rest
pieces_of rest at line after [] = Some []
pieces_of rest at line after (byte ∷ text) = behind_piece rest at line (byte ∷ text) (first_piece after (byte ∷ text))

abbrev spelled_from : ℕ → Rest
spelled_from zero at line after text = None
spelled_from (suc n) at line after text = pieces_of (spelled_from n) at line after text

-- The tokens of a text, where it has at most so many pieces.
abbrev pub spelled_of : ℕ → List ℕ → Option (List SpelledToken)
spelled_of pieces text = spelled_from (suc pieces) 0 1 false text

further : (text : List ℕ) (at len : ℕ) → line_at text at + newlines (take len (drop at text)) ≡ line_at text (at + len)
further text at len =
    omega (arith, ap newlines (take-add at len text), sum_by-append (λ byte. cond (byte == line_end_code) 1 0) (take at text) (take len (drop at text)))

-- what a bound on the pieces gives is right
abbrev IsRight : List ℕ → Rest → Type 0
IsRight text rest = (at : ℕ) (after : Bool) (tokens : List SpelledToken) → rest at (line_at text at) after (drop at text) ≡ Some tokens → HasTokensFrom text at after tokens

module _ (text : List ℕ) (rest : Rest) (right : IsRight text rest) where
  behind : (at len : ℕ) (after : Bool) (tokens : List SpelledToken) → rest (at + len) (line_at text at + newlines (take len (drop at text))) after (drop len (drop at text)) ≡ Some tokens
      → HasTokensFrom text (at + len) after tokens
  behind at len after tokens is =
      let placed : rest (at + len) (line_at text (at + len)) after (drop (at + len) text) ≡ rest (at + len) (line_at text at + newlines (take len (drop at text))) after (drop len (drop at text)) =
      (λ i. rest (at + len) (sym (further text at len) i) after (sym (drop-drop len at text) i))
      in
      right (at + len) after tokens (placed ∙ is)

  with_token : (at len : ℕ) (after : Bool) (spelling : Spelling) (tokens : List SpelledToken) → first_piece after (drop at text) ≡ Token spelling len → (found : Option (List SpelledToken))
      → rest (at + len) (line_at text at + newlines (take len (drop at text))) (is_name spelling) (drop len (drop at text)) ≡ found
      → option_map (λ more. spelled at (at + len) (line_at text at) spelling ∷ more) found ≡ Some tokens → HasTokensFrom text at after tokens
  with_token at len after spelling tokens piece None is same = absurd cc
  with_token at len after spelling tokens piece (Some more) is same =
      subst (HasTokensFrom text at after) (same_Some _ _ same) (token at len after spelling more piece (behind at len (is_name spelling) more is))

  by_piece : (at : ℕ) (after : Bool) (tokens : List SpelledToken) (piece : Piece) → first_piece after (drop at text) ≡ piece
      → behind_piece rest at (line_at text at) (drop at text) piece ≡ Some tokens → HasTokensFrom text at after tokens
  by_piece at after tokens (Gap len) piece is = gap at len after tokens piece (behind at len false tokens is)
  by_piece at after tokens (Token spelling len) piece is = with_token at len after spelling tokens piece _ refl is
  by_piece at after tokens (Fault rule detail) piece is = absurd cc

  by_rest : (at : ℕ) (after : Bool) (tokens : List SpelledToken) (left : List ℕ) → drop at text ≡ left → pieces_of rest at (line_at text at) after left ≡ Some tokens → HasTokensFrom text at after tokens
  by_rest at after tokens [] left is = subst (HasTokensFrom text at after) (same_Some _ _ is) (ends at after left)
  by_rest at after tokens (byte ∷ more) left is =
      by_piece at after tokens (first_piece after (drop at text)) refl (ap (λ (those : List ℕ). behind_piece rest at (line_at text at) those (first_piece after those)) left ∙ is)

right-from : (text : List ℕ) (n : ℕ) → IsRight text (spelled_from n)
right-from text zero at after tokens is = absurd cc
right-from text (suc n) at after tokens is = by_rest text (spelled_from n) (right-from text n) at after tokens (drop at text) refl is

-- What is computed are the tokens.
pub spelled_of-right : (pieces : ℕ) (text : List ℕ) (tokens : List SpelledToken) → spelled_of pieces text ≡ Some tokens → HasTokensFrom text 0 false tokens
spelled_of-right pieces text tokens is = right-from text (suc pieces) 0 false tokens is
