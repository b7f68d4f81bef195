-- Pieces that are parted well, and some that are not. A text that reads as a term, and no other.
use Rattle.std.proofs.Common.{◌≡◌, ℕ, true, false, List, [], ◌∷◌, None, codes, refl, ap, sym, ◌∙◌, arith}
use Rattle.std.specs.Char.{encode_utf8}
use Rattle.std.specs.List.{IsDistinct}
use Rattle.std.specs.Str.{bytes_eq}
use Rattle.merc_base.specs.declared.place.Span.{Span}
use Rattle.merc_base.proofs.NameLaws.{fold-distinct}
use Rattle.merc_tokens.specs.declared.token.Token.{Token as TokenOf}
use Rattle.merc_tokens.specs.declared.token.TokenKind.TheVariants.{Name, Var, OpenArgs, Close, Dot, Stop}
use Rattle.merc_tokens.specs.declared.pieces.Spelling.TheVariants.{Comma as CommaOf, Stop as StopOf, Var as VarOf}
use Rattle.merc_tokens.specs.declared.pieces.Piece.TheVariants.{Token as TokenFound}
use Rattle.merc_tokens.specs.Pieces.{first_piece}
use Rattle.merc_tokens.specs.Tokens.{SpelledToken, HasTokens, with_names}
use Rattle.merc_tokens.specs.Tokens.HasTokensFrom.{ends, token as spelled_token}
use Rattle.merc_tokens.proofs.TokenLaws.{HasTokens-unique}
use Rattle.merc_tree.specs.Term.{Variable, Text, bare, no_span}
use Rattle.merc_value.specs.Text.{word_operators}
use Rattle.merc_terms.specs.Operators.{operators}
use Rattle.merc_terms.specs.Reading.{token}
use Rattle.merc_terms.specs.Reading.Spells.{variable}
use Rattle.merc_terms.specs.Items.{HasItems, IsAllowed, none, item}
use Rattle.merc_terms.specs.Texts.{ReadsItems}
use Rattle.merc_terms.proofs.TextLaws.{ReadsItems-unique}
use Rattle.merc_term_text.specs.Pieces.{Blank, Token}
use Rattle.merc_term_text.specs.ReadsAs.{ReadsAs}
use Rattle.merc_term_text.proofs.Parted.{parted, is_operator}

abbrev f_name : ℕ
f_name = 0

abbrev x_name : ℕ
x_name = 1

abbrev two_names : List (List ℕ)
two_names = codes "f" ∷ codes "X" ∷ []

-- `f(X)`
pub parted-example : parted two_names None (Token (Name f_name) ∷ Token OpenArgs ∷ Token (Var x_name) ∷ Token Close ∷ []) ≡ true
unfolding word_operators
parted-example = refl

-- `X(`: a parenthesis directly behind a variable opens no arguments
pub parted-counterexample : parted two_names None (Token (Var x_name) ∷ Token OpenArgs ∷ []) ≡ false
parted-counterexample = refl

-- `f.` and the end, or a blank: the mark is a full stop there
pub qualifier-counterexample : parted two_names None (Token (Name f_name) ∷ Token Dot ∷ []) ≡ false
unfolding word_operators
qualifier-counterexample = refl

pub qualifier_blank-counterexample : parted two_names None (Token (Name f_name) ∷ Token Dot ∷ Blank ∷ Token (Name f_name) ∷ []) ≡ false
unfolding word_operators
qualifier_blank-counterexample = refl

pub stop-example : first_piece true (codes ".") ≡ TokenFound StopOf 1
stop-example = refl

-- a comma is a token of its own, and no operator's name
pub comma-counterexample : is_operator 26 ≡ false
unfolding operators
comma-counterexample = refl

pub comma-example : first_piece false (codes ",") ≡ TokenFound CommaOf 1
comma-example = refl

-- `-` is one
pub minus-example : is_operator 43 ≡ true
unfolding operators
minus-example = refl

-- `X.` reads as the variable X, wherever that stands

abbrev x_names : List (List ℕ)
x_names = codes "X" ∷ []

abbrev here : Span
here = record { first = 0; past = 1; line = 1 }

abbrev stop : Span
stop = record { first = 1; past = 2; line = 1 }

abbrev x_spelled : List SpelledToken
x_spelled = record { kind = VarOf (codes "X"); span = here } ∷ record { kind = StopOf; span = stop } ∷ []

abbrev x_tokens : List TokenOf
x_tokens = token (Var 0) here ∷ token Stop stop ∷ []

x_has : HasTokens (codes "X.") x_spelled
unfolding encode_utf8
x_has = record { utf8 = (codes "X.", (refl, refl)); all = spelled_token 0 1 false (VarOf (codes "X")) _ refl (spelled_token 1 1 false StopOf [] refl (ends 2 false refl)) }

x_allowed : IsAllowed (Variable 0 here)
x_allowed = record { words = tt; nested = omega arith }

x_item : HasItems x_tokens (Variable 0 here ∷ [])
x_item = item (Variable 0 here) [] x_tokens [] (record { priority = 0; stop = stop; within = omega arith; spelled = variable true 0 here (token Stop stop ∷ []) }) x_allowed none

pub ReadsAs-example : ReadsAs x_names (codes "X.") (Variable 0 no_span)
ReadsAs-example = record { spelled = x_spelled; tokens = x_tokens; found = Variable 0 here; has = x_has; named = refl; item = x_item; same = refl }

nothing_distinct : IsDistinct bytes_eq []
unfolding IsDistinct
nothing_distinct = tt

x_read : ReadsItems x_names x_names (codes "X.") (Variable 0 here ∷ [])
x_read = record { tokens = x_tokens; read = record { spelled = x_spelled; has = x_has; named = refl; table = refl }; items = x_item }

-- and not as a string
pub ReadsAs-counterexample : ReadsAs x_names (codes "X.") (Text 0 no_span) → ⊥
ReadsAs-counterexample reads =
    let spelled : reads.spelled ≡ x_spelled = HasTokens-unique (codes "X.") reads.spelled x_spelled reads.has x_has in
    let table : x_names ≡ with_names x_names reads.spelled = sym (ap (with_names x_names) spelled) in
    let items : ReadsItems x_names x_names (codes "X.") (reads.found ∷ []) =
    record { tokens = reads.tokens; read = record { spelled = reads.spelled; has = reads.has; named = reads.named; table = table }; items = reads.item } in
    let both = ReadsItems-unique x_names (codes "X.") (fold-distinct [] x_names nothing_distinct) x_names x_names (reads.found ∷ []) (Variable 0 here ∷ []) items x_read in
    let found : reads.found ∷ [] ≡ Variable 0 here ∷ [] = both.1 in
    let one : reads.found ≡ Variable 0 here = cc in
    let same : Variable 0 no_span ≡ Text 0 no_span = sym (ap bare one) ∙ reads.same in
    cc
