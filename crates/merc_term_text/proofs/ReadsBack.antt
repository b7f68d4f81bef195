-- What is written of a term that was read, and a full stop, read as that term again.
use Rattle.std.proofs.Common.{◌≡◌, ℕ, true, List, [], ◌∷◌, ◌++◌, refl, ap, sym, ◌∙◌, subst, arith, codes}
use Rattle.std.proofs.Math.Bool.{and-false}
use Rattle.merc_base.specs.Names.{HoldsFixed}
use Rattle.merc_tokens.specs.declared.token.Token.{Token as TokenOf}
use Rattle.merc_tokens.specs.declared.token.TokenKind.TheVariants.{Stop}
use Rattle.merc_tree.specs.Term.{Term, bare}
use Rattle.merc_terms.specs.Reading.{token, Spells}
use Rattle.merc_terms.specs.Items.{HasItems, none, item, IsAllowed}
use Rattle.merc_term_text.specs.Pieces.{Piece, Token, kinds_of, pieces_text}
use Rattle.merc_term_text.specs.Written.{part_of, term_text, is_comma_form}
use Rattle.merc_term_text.specs.ReadsAs.{ReadsAs}
use Rattle.merc_term_text.proofs.Parted.{HasKinds}
use Rattle.merc_term_text.proofs.PiecesRead.{pieces_read, pieces_text-append}
use Rattle.merc_term_text.proofs.Writable.{writable}
use Rattle.merc_term_text.proofs.WrittenParted.{written_parted, written_spelled}
use Rattle.merc_term_text.proofs.WrittenSpells.{Reads, reads}
use Rattle.merc_term_text.proofs.TokenKinds.{kinds, take_token}
use Rattle.merc_term_text.proofs.BareTerms.{allowed_same}

allowed_of : (tokens : List TokenOf) (found : Term) (terms : List Term) → HasItems tokens (found ∷ terms) → IsAllowed found
allowed_of tokens found terms (item term others tokens' rest spelled allowed items) = allowed

no_tokens : (tokens : List TokenOf) → kinds tokens ≡ [] → tokens ≡ []
no_tokens [] e = refl
no_tokens (first ∷ rest) e = absurd (cc)

module _ (names : List (List ℕ)) (term : Term) (fixed : HoldsFixed names) where
  -- the tokens of these kinds are the term and its full stop
  one_item : (tokens : List TokenOf) → kinds tokens ≡ kinds_of ((part_of names term).pieces true ++ Token Stop ∷ []) → (known : Term) → IsAllowed known → bare known ≡ bare term
      → (found : Term) × HasItems tokens (found ∷ []) × (bare found ≡ bare term)
  one_item tokens same known allowed as_known =
      let written : Reads names term = reads names fixed term in
      let read = written.whole true tokens (Token Stop ∷ []) (and-false (is_comma_form (part_of names term).form)) same refl in
      let stop = take_token Stop read.rest [] read.left in
      let behind : read.rest ≡ token Stop stop.span ∷ [] = stop.is ∙ ap (λ ts. token Stop stop.span ∷ ts) (no_tokens stop.rest stop.left) in (
        read.found,
        item read.found [] tokens []
            (record { priority = read.priority; stop = stop.span; within = omega (arith, read.within, written.bounded); spelled = subst (λ ts. Spells true read.found read.priority tokens ts) behind read.spells })
            (allowed_same known read.found (as_known ∙ sym read.same) allowed) none,
        read.same,
      )

pub reads_back : (names : List (List ℕ)) (text : List ℕ) (term : Term) → HoldsFixed names → ReadsAs names text term → ReadsAs names (term_text names term ++ codes ".") term
reads_back names text term fixed read =
    let can : _ = writable names text term fixed read in
    let pieces : List Piece = (part_of names term).pieces true ++ Token Stop ∷ [] in
    let found : HasKinds names (pieces_text names pieces) (kinds_of pieces) = pieces_read names pieces fixed (written_parted names fixed term can) (written_spelled names fixed term can) in
    let one = one_item names term fixed found.tokens found.same read.found (allowed_of read.tokens read.found [] read.item) read.same in
    let again : ReadsAs names (pieces_text names pieces) term = record {
      spelled = found.spelled;
      tokens = found.tokens;
      found = one.0;
      has = found.has;
      named = found.named;
      item = one.1;
      same = one.2;
    } in
    subst (λ t. ReadsAs names t term) (pieces_text-append names ((part_of names term).pieces true) (Token Stop ∷ [])) again
