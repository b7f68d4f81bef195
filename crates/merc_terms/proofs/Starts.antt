-- What the reader takes at the beginning of a term spells what it says.
use Rattle.std.proofs.Common.{◌≡◌, ℕ, ◌≤◌, Bool, true, false, ◌==◌, List, [], ◌∷◌, Option, Some, None, refl, eqb-true}
use Rattle.std.specs.Bool.{if◌then◌else◌}
use Rattle.std.proofs.lemmas.Bool.{and_parts}
use Rattle.merc_base.specs.declared.place.Span.{Span}
use Rattle.merc_base.specs.Names.{minus_name, minus_name, minus_name}
use Rattle.merc_tokens.specs.declared.token.Token.{Token}
use Rattle.merc_tokens.specs.declared.token.TokenKind.{TokenKind}
use Rattle.merc_tokens.specs.declared.token.TokenKind.TheVariants.{Name, Quoted, Var, Int, Text as TextToken, OpenArgs, Open, Close, OpenList, CloseList, Dot}
use Rattle.merc_tree.specs.Term.{Term, Terms, Variable, Integer, Text, Application, none, with_span}
use Rattle.merc_terms.specs.declared.operators.Operator.{Operator}
use Rattle.merc_terms.specs.declared.starting.Start.{Start}
use Rattle.merc_terms.specs.declared.starting.Start.TheVariants.{Variable as VariableStart, Integer as IntegerStart, Text as TextStart, Constant, Application as ApplicationStart, List as ListStart, Parenthesis, Prefix}
use Rattle.merc_terms.specs.Operators.{prefix_named, term_most}
use Rattle.merc_terms.specs.Reading.{token, joined, begins_with, is_integer, goes_on_name, is_left_plain, is_sign, IsName, plain, left_plain, quoted, unquoted, quoted as quoted_behind, alone, behind_operator, IsPrefix, Spells, variable, integer, negative, text, constant, qualified, application, qualified_application, empty_list, list, parenthesis, SpellsArguments, SpellsItems}
use Rattle.merc_terms.specs.Starting.{Started, named_at, named_before, qualified_at, plain_start, signed_at, signed_start, operator_start, list_start, start_with, start_at}
use Rattle.merc_terms.specs.Reader.{integer_of}

-- with this start, behind which this rest stands, the tokens spell a term, or spell one where the rest begins with its other parts
abbrev pub Begins : Bool → List Token → Start → List Token → Type 0
Begins commas tokens (VariableStart name span) rest = Spells commas (Variable name span) 0 tokens rest
Begins commas tokens (IntegerStart minus magnitude span) rest = Spells commas (Integer (integer_of minus magnitude) span) 0 tokens rest
Begins commas tokens (TextStart name span) rest = Spells commas (Text name span) 0 tokens rest
Begins commas tokens (Constant name qualifier span) rest = Spells commas (Application name qualifier none span) 0 tokens rest
Begins commas tokens (ApplicationStart name qualifier span) rest =
    (terms : Terms) (close : Span) (left : List Token) → SpellsArguments terms close rest left → Spells commas (Application name qualifier terms (joined span close)) 0 tokens left
Begins commas tokens (ListStart span) rest =
    (term : Term) (close : Span) (left : List Token) → SpellsItems (joined span close) term close rest left → Spells commas term 0 tokens left
Begins commas tokens (Parenthesis span) rest =
    (term : Term) (priority : ℕ) (close : Span) (left : List Token) → Spells true term priority rest (token Close close ∷ left) → priority ≤ term_most
    → Spells commas (with_span (joined span close) term) 0 tokens left
Begins commas tokens (Prefix operator span) rest = (name : ℕ) × IsPrefix name operator rest × (tokens ≡ token (Name name) span ∷ rest)

abbrev pub WhereBegun : Bool → List Token → Started → Type 0
WhereBegun commas tokens None = Unit {0}
WhereBegun commas tokens (Some started) = Begins commas tokens started.0 started.1

-- behind a name that spells a constant where it does not go on, and an application with arguments

abbrev AsConstant : Bool → List Token → ℕ → Option ℕ → Span → List Token → Type 0
AsConstant commas tokens name qualifier span rest = begins_with goes_on_name rest ≡ false → Spells commas (Application name qualifier none span) 0 tokens rest

abbrev AsApplication : Bool → List Token → ℕ → Option ℕ → Span → List Token → Type 0
AsApplication commas tokens name qualifier span rest =
    (open' : Span) (inner : List Token) → rest ≡ token OpenArgs open' ∷ inner → (terms : Terms) (close : Span) (left : List Token)
    → SpellsArguments terms close inner left → Spells commas (Application name qualifier terms (joined span close)) 0 tokens left

named_at-begins : (commas : Bool) (tokens : List Token) (name : ℕ) (qualifier : Option ℕ) (span : Span) (kind : TokenKind) (at : Span) (rest : List Token)
    → AsConstant commas tokens name qualifier span (token kind at ∷ rest) → AsApplication commas tokens name qualifier span (token kind at ∷ rest)
    → WhereBegun commas tokens (named_at name qualifier span kind (token kind at) rest)
named_at-begins commas tokens name qualifier span OpenArgs at rest simple applied = applied at rest refl
named_at-begins commas tokens name qualifier span Dot at rest simple applied = tt
named_at-begins commas tokens name qualifier span kind at rest simple applied = simple refl

named_before-begins : (commas : Bool) (tokens : List Token) (name : ℕ) (qualifier : Option ℕ) (span : Span) (rest : List Token)
    → AsConstant commas tokens name qualifier span rest → AsApplication commas tokens name qualifier span rest
    → WhereBegun commas tokens (named_before name qualifier span rest)
named_before-begins commas tokens name qualifier span [] simple applied = simple refl
named_before-begins commas tokens name qualifier span (first ∷ rest) simple applied =
    named_at-begins commas tokens name qualifier span first.kind first.span rest simple applied

-- a name and what goes on behind it

qualified_at-begins : (commas : Bool) (kind : TokenKind) (qualifier : ℕ) (span mark : Span) (kind' : TokenKind) (last : Span) (rest : List Token)
    → IsName kind qualifier (token Dot mark ∷ token kind' last ∷ rest)
    → WhereBegun commas (token kind span ∷ token Dot mark ∷ token kind' last ∷ rest) (qualified_at qualifier span kind' last rest)
qualified_at-begins commas kind qualifier span mark (Name name) last rest named =
    named_before-begins commas _ name (Some qualifier) (joined span last) rest
    (λ ends. qualified commas kind (Name name) qualifier name span mark last rest named (unquoted name) ends)
    (λ open' inner is terms close left spelled.
    rw is (qualified_application commas kind (Name name) qualifier name terms span mark last open' close inner left (rw is at named) (unquoted name) spelled))
qualified_at-begins commas kind qualifier span mark (Quoted name) last rest named =
    named_before-begins commas _ name (Some qualifier) (joined span last) rest
    (λ ends. qualified commas kind (Quoted name) qualifier name span mark last rest named (quoted_behind name) ends)
    (λ open' inner is terms close left spelled.
    rw is (qualified_application commas kind (Quoted name) qualifier name terms span mark last open' close inner left (rw is at named) (quoted_behind name) spelled))
qualified_at-begins commas kind qualifier span mark kind' last rest named = tt

plain_at-begins : (commas : Bool) (kind : TokenKind) (name : ℕ) (span : Span) (next : TokenKind) (at : Span) (rest : List Token)
    → IsName kind name (token next at ∷ rest) → WhereBegun commas (token kind span ∷ token next at ∷ rest) (plain_start name span (token next at ∷ rest))
plain_at-begins commas kind name span Dot at [] named = tt
plain_at-begins commas kind name span Dot at (first ∷ rest) named = qualified_at-begins commas kind name span at first.kind first.span rest named
plain_at-begins commas kind name span next at rest named =
    named_before-begins commas (token kind span ∷ token next at ∷ rest) name None span (token next at ∷ rest)
    (λ ends. constant commas kind name span (token next at ∷ rest) named ends)
    (λ open' inner is terms close left spelled. rw is (application commas kind name terms span open' close inner left (rw is at named) spelled))

plain_start-begins : (commas : Bool) (kind : TokenKind) (name : ℕ) (span : Span) (rest : List Token)
    → IsName kind name rest → WhereBegun commas (token kind span ∷ rest) (plain_start name span rest)
plain_start-begins commas kind name span [] named = constant commas kind name span [] named refl
plain_start-begins commas kind name span (first ∷ rest) named = plain_at-begins commas kind name span first.kind first.span rest named

-- a name that may be a sign or a prefix operator

signed_at-begins : (commas : Bool) (name : ℕ) (span : Span) (kind : TokenKind) (last : Span) (rest : List Token) → name ≡ minus_name
    → WhereBegun commas (token (Name name) span ∷ token kind last ∷ rest) (signed_at span kind last rest)
signed_at-begins commas name span (Int value) last rest is = rw is (negative commas value span last rest)
signed_at-begins commas name span kind last rest is = tt

signed_start-begins : (commas : Bool) (name : ℕ) (span : Span) (rest : List Token) → is_sign name rest ≡ true
    → WhereBegun commas (token (Name name) span ∷ rest) (signed_start span rest)
signed_start-begins commas name span [] sign = tt
signed_start-begins commas name span (first ∷ rest) sign =
    signed_at-begins commas name span first.kind first.span rest (eqb-true name minus_name (and_parts (name == minus_name) (is_integer first.kind) sign).0)

operator_start-begins : (commas : Bool) (name : ℕ) (span : Span) (rest : List Token) → is_sign name rest ≡ false
    → WhereBegun commas (token (Name name) span ∷ rest) (operator_start (prefix_named name) name span rest)
operator_start-begins commas name span rest no_sign = go (prefix_named name) (is_left_plain rest) refl refl
  where
    go : (found : Option Operator) (left : Bool) → prefix_named name ≡ found → is_left_plain rest ≡ left
        → WhereBegun commas (token (Name name) span ∷ rest) (operator_start found name span rest)
    go None left is_found is_left = plain_start-begins commas (Name name) name span rest (plain name rest is_found)
    go (Some operator) true is_found is_left = rw is_left (plain_start-begins commas (Name name) name span rest (left_plain name rest is_left))
    go (Some operator) false is_found is_left = rw is_left (name, record { row = is_found; not_plain = is_left; no_sign = no_sign }, refl)

name-begins : (commas : Bool) (name : ℕ) (span : Span) (rest : List Token) → WhereBegun commas (token (Name name) span ∷ rest) (start_with (Name name) span rest)
name-begins commas name span rest = go (is_sign name rest) refl
  where
    go : (sign : Bool) → is_sign name rest ≡ sign
        → WhereBegun commas (token (Name name) span ∷ rest) (if sign then signed_start span rest else operator_start (prefix_named name) name span rest)
    go true is = signed_start-begins commas name span rest is
    go false is = operator_start-begins commas name span rest is

list_at-begins : (commas : Bool) (span : Span) (kind : TokenKind) (at : Span) (rest : List Token)
    → WhereBegun commas (token OpenList span ∷ token kind at ∷ rest) (list_start span (token kind at ∷ rest))
list_at-begins commas span CloseList at rest = empty_list commas span at rest
list_at-begins commas span kind at rest = λ term close left spelled. list commas term span close (token kind at ∷ rest) left spelled

list_start-begins : (commas : Bool) (span : Span) (rest : List Token) → WhereBegun commas (token OpenList span ∷ rest) (list_start span rest)
list_start-begins commas span [] = λ term close left spelled. list commas term span close [] left spelled
list_start-begins commas span (first ∷ rest) = list_at-begins commas span first.kind first.span rest

start_with-begins : (commas : Bool) (kind : TokenKind) (span : Span) (rest : List Token) → WhereBegun commas (token kind span ∷ rest) (start_with kind span rest)
start_with-begins commas (Name name) span rest = name-begins commas name span rest
start_with-begins commas (Quoted name) span rest = plain_start-begins commas (Quoted name) name span rest (quoted name rest)
start_with-begins commas (Var name) span rest = variable commas name span rest
start_with-begins commas (Int value) span rest = integer commas value span rest
start_with-begins commas (TextToken name) span rest = text commas name span rest
start_with-begins commas OpenArgs span rest = λ term priority close left spelled within. parenthesis commas OpenArgs term priority span close rest left behind_operator spelled within
start_with-begins commas Open span rest = λ term priority close left spelled within. parenthesis commas Open term priority span close rest left alone spelled within
start_with-begins commas OpenList span rest = list_start-begins commas span rest
start_with-begins commas kind span rest = tt

pub start_at-begins : (commas : Bool) (tokens : List Token) → WhereBegun commas tokens (start_at tokens)
start_at-begins commas [] = tt
start_at-begins commas (first ∷ rest) = start_with-begins commas first.kind first.span rest
