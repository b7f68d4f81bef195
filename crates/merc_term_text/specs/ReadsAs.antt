-- That a text reads as a term.
use Rattle.std.specs.Prelude.{◌≡◌, ℕ, List, [], ◌∷◌, map, Some}
use Rattle.merc_tokens.specs.declared.token.Token.{Token}
use Rattle.merc_tokens.specs.Tokens.{SpelledToken, HasTokens, with_texts}
use Rattle.merc_tree.specs.Term.{Term, bare}
use Rattle.merc_terms.specs.Items.{HasItems}

-- a text is one item, which is this term with its full stop, spans aside; the term's names have their texts in this table
pub record ReadsAs (names : List (List ℕ)) (text : List ℕ) (term : Term) : Type 0 where
  pub spelled : List SpelledToken
  pub tokens : List Token
  pub found : Term
  pub has : HasTokens text spelled
  pub named : map (with_texts names) tokens ≡ map Some spelled
  pub item : HasItems tokens (found ∷ [])
  pub same : bare found ≡ bare term
