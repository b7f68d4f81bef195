-- The items that tokens are are computed.
use Rattle.std.proofs.Common.{◌≡◌, ℕ, zero, suc, ◌≤◌, Bool, true, false, not, ◌&&◌, nat_lt, ltb-false, List, [], ◌∷◌, ◌++◌, Option, Some, None, refl, sym, ap, subst, ◌∙◌}
use Rattle.std.proofs.lemmas.Bool.{and_parts}
use Rattle.std.proofs.lemmas.Option.{same_Some}
use Rattle.std.specs.Bool.{if◌then◌else◌}
use Rattle.std.specs.List.{list_all}
use Rattle.std.specs.Option.{option_map}
use Rattle.merc_base.specs.declared.place.Span.{Span}
use Rattle.merc_terms.specs.Operators.{term_most}
use Rattle.merc_tokens.specs.declared.token.Token.{Token}
use Rattle.merc_tokens.specs.declared.token.TokenKind.{TokenKind}
use Rattle.merc_tokens.specs.declared.token.TokenKind.TheVariants.{Name, Quoted, Var, Int, Text as TextToken, OpenArgs, Open, Close, OpenList, CloseList, Comma, Bar, Dot, Stop}
use Rattle.merc_tree.specs.Term.{Term}
use Rattle.merc_tree.specs.Nesting.{nesting}
use Rattle.merc_terms.specs.declared.built.Built.{Built}
use Rattle.merc_terms.specs.Reading.{token, Spells}
use Rattle.merc_terms.specs.Items.{IsAllowed, HasItems, none, item, nesting_limit}
use Rattle.merc_terms.specs.Reader.{Read, clipped, is_great, pushed, whole_term}
use Rattle.merc_terms.proofs.WholeTerms.{whole_sound, great_fits}
use Rattle.merc_terms.proofs.Renaming.{built_none}

abbrev is_stop : TokenKind → Bool
is_stop (Name name) = false
is_stop (Quoted name) = false
is_stop (Var name) = false
is_stop (Int value) = false
is_stop (TextToken name) = false
is_stop OpenArgs = false
is_stop Open = false
is_stop Close = false
is_stop OpenList = false
is_stop CloseList = false
is_stop Comma = false
is_stop Bar = false
is_stop Dot = false
is_stop Stop = true

-- the items behind some terms: a full stop comes first
abbrev behind_stop : (List Token → Option (List Term)) → List Term → List Token → Option (List Term)
behind_stop others terms [] = None
behind_stop others terms (first ∷ rest) = if is_stop first.kind then option_map (λ more. terms ++ more) (others rest) else None

-- whether what was built keeps the limits
abbrev keeps_limits : Built → Bool
keeps_limits built = not built.is_great && list_all (λ term. not (nat_lt nesting_limit (nesting term))) built.terms

abbrev read_on : (List Token → Option (List Term)) → Option Read → Option (List Term)
read_on others None = None
read_on others (Some read) = if keeps_limits read.built then behind_stop others read.built.terms read.rest else None

-- The items that tokens are, at most so many; none where they are no items.
abbrev pub items_in : ℕ → List Token → Option (List Term)
items_in n [] = Some []
items_in zero (first ∷ rest) = None
items_in (suc n) (first ∷ rest) = read_on (items_in n) (whole_term built_none (first ∷ rest))

is_false : (b : Bool) → not b ≡ true → b ≡ false
is_false false is = refl
is_false true is = absurd cc

-- a term that was built alone
within_limits : (built : Built) (term : Term) → built ≡ pushed term built_none → keeps_limits built ≡ true → IsAllowed term × (built.terms ≡ term ∷ [])
within_limits built term is keeps =
    let parts = and_parts (not (is_great term)) (not (nat_lt nesting_limit (nesting (clipped term))) && true) (ap keeps_limits (sym is) ∙ keeps) in
    let fits = great_fits term (is_false (is_great term) parts.0) in
    let shallow = (and_parts (not (nat_lt nesting_limit (nesting (clipped term)))) true parts.1).0 in (
      record {
        words = fits.0;
        nested = subst (λ (t : Term). nesting t ≤ nesting_limit) fits.1 (ltb-false nesting_limit (nesting (clipped term)) (is_false (nat_lt nesting_limit (nesting (clipped term))) shallow));
      },
      ap (λ (b : Built). b.terms) is ∙ ap (λ (t : Term). t ∷ []) fits.1,
    )

-- what is computed of the tokens behind an item is right
abbrev IsRight : (List Token → Option (List Term)) → Type 0
IsRight others = (tokens : List Token) (terms : List Term) → others tokens ≡ Some terms → HasItems tokens terms

module _ (others : List Token → Option (List Term)) (right : IsRight others) where
  module _ (tokens : List Token) (term : Term) (priority : ℕ) (within : priority ≤ term_most) (allowed : IsAllowed term) (terms : List Term) where
    with_others : (stop : Span) (rest : List Token) → Spells true term priority tokens (token Stop stop ∷ rest) → (found : Option (List Term)) → others rest ≡ found
        → option_map (λ more. term ∷ more) found ≡ Some terms → HasItems tokens terms
    with_others stop rest spelled None behind is = absurd cc
    with_others stop rest spelled (Some more) behind is =
        subst (HasItems tokens) (same_Some _ _ is) (item term more tokens rest (record { priority = priority; stop = stop; within = within; spelled = spelled }) allowed (right rest more behind))

    stopped : (kind : TokenKind) (span : Span) (rest : List Token) → Spells true term priority tokens (token kind span ∷ rest)
        → (if is_stop kind then option_map (λ more. term ∷ more) (others rest) else None) ≡ Some terms → HasItems tokens terms
    stopped Stop span rest spelled is = with_others span rest spelled (others rest) refl is
    stopped kind span rest spelled is = absurd cc

    ended : (left : List Token) → Spells true term priority tokens left → behind_stop others (term ∷ []) left ≡ Some terms → HasItems tokens terms
    ended [] spelled is = absurd cc
    ended (first ∷ rest) spelled is = stopped first.kind first.span rest spelled is

  limited : (tokens : List Token) (terms : List Term) (read : Read) (keeps : Bool) → whole_term built_none tokens ≡ Some read → keeps_limits read.built ≡ keeps
      → (if keeps then behind_stop others read.built.terms read.rest else None) ≡ Some terms → HasItems tokens terms
  limited tokens terms read false found keeps is = absurd cc
  limited tokens terms read true found keeps is =
      let whole = whole_sound built_none tokens read found in
      let limits = within_limits read.built whole.term whole.built_is keeps in
      ended tokens whole.term read.priority whole.within limits.0 terms read.rest whole.spelled (ap (λ (those : List Term). behind_stop others those read.rest) (sym limits.1) ∙ is)

  first_read : (tokens : List Token) (terms : List Term) (read : Option Read) → whole_term built_none tokens ≡ read → read_on others read ≡ Some terms → HasItems tokens terms
  first_read tokens terms None found is = absurd cc
  first_read tokens terms (Some read) found is = limited tokens terms read (keeps_limits read.built) found refl is

-- What is computed are the items.
pub items_in-right : (n : ℕ) → IsRight (items_in n)
items_in-right n [] terms is = subst (HasItems []) (same_Some _ _ is) none
items_in-right zero (first ∷ rest) terms is = absurd cc
items_in-right (suc n) (first ∷ rest) terms is = first_read (items_in n) (items_in-right n) (first ∷ rest) terms (whole_term built_none (first ∷ rest)) refl is
