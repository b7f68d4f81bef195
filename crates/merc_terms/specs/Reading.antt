-- Which tokens spell a term.
use Rattle.std.specs.Prelude.{◌≡◌, ℕ, ◌≤◌, pos, neg_ℤ, Bool, true, false, ◌==◌, ◌&&◌, List, [], ◌∷◌, Some, None, is_some, is_none}
use Rattle.merc_base.specs.declared.place.Span.{Span}
use Rattle.merc_base.specs.Names.{comma_name, minus_name, minus_name, cons_name, nil_name}
use Rattle.merc_tokens.specs.declared.token.Token.{Token}
use Rattle.merc_tokens.specs.declared.token.TokenKind.{TokenKind}
use Rattle.merc_tokens.specs.declared.token.TokenKind.TheVariants.{Name, Quoted, Var, Int, Text as TextToken, OpenArgs, Open, Close, OpenList, CloseList, Comma, Bar, Dot, Stop}
use Rattle.merc_terms.specs.declared.operators.Operator.{Operator}
use Rattle.merc_tree.specs.Term.{Term, Terms, Variable, Integer, Text, Application, none, more, span_of, with_span}
use Rattle.merc_terms.specs.Operators.{infix_named, prefix_named, first_most, last_most, takes_two, term_most, argument_most}

abbrev pub token : TokenKind → Span → Token
token kind span = record { kind = kind; span = span }

-- from where one span begins to where another ends
abbrev pub joined : Span → Span → Span
joined from to = record { first = from.first; past = to.past; line = from.line }

-- what tokens go on with

abbrev pub begins_with : (TokenKind → Bool) → List Token → Bool
begins_with test [] = false
begins_with test (first ∷ rest) = test first.kind

abbrev pub is_integer : TokenKind → Bool
is_integer (Name name) = false
is_integer (Quoted name) = false
is_integer (Var name) = false
is_integer (Int value) = true
is_integer (TextToken name) = false
is_integer OpenArgs = false
is_integer Open = false
is_integer Close = false
is_integer OpenList = false
is_integer CloseList = false
is_integer Comma = false
is_integer Bar = false
is_integer Dot = false
is_integer Stop = false

-- the parenthesis directly behind a name, or a qualifier mark
abbrev pub goes_on_name : TokenKind → Bool
goes_on_name (Name name) = false
goes_on_name (Quoted name) = false
goes_on_name (Var name) = false
goes_on_name (Int value) = false
goes_on_name (TextToken name) = false
goes_on_name OpenArgs = true
goes_on_name Open = false
goes_on_name Close = false
goes_on_name OpenList = false
goes_on_name CloseList = false
goes_on_name Comma = false
goes_on_name Bar = false
goes_on_name Dot = true
goes_on_name Stop = false

abbrev pub is_infix_name : TokenKind → Bool
is_infix_name (Name name) = is_some (infix_named name)
is_infix_name (Quoted name) = false
is_infix_name (Var name) = false
is_infix_name (Int value) = false
is_infix_name (TextToken name) = false
is_infix_name OpenArgs = false
is_infix_name Open = false
is_infix_name Close = false
is_infix_name OpenList = false
is_infix_name CloseList = false
is_infix_name Comma = false
is_infix_name Bar = false
is_infix_name Dot = false
is_infix_name Stop = false

-- What makes a prefix operator's name before it a plain name: a parenthesis directly behind that name, an infix operator's
-- name that is no prefix operator, a closing bracket, a comma, a bar or a full stop.
abbrev pub leaves_plain : TokenKind → Bool
leaves_plain (Name name) = is_some (infix_named name) && is_none (prefix_named name)
leaves_plain (Quoted name) = false
leaves_plain (Var name) = false
leaves_plain (Int value) = false
leaves_plain (TextToken name) = false
leaves_plain OpenArgs = true
leaves_plain Open = false
leaves_plain Close = true
leaves_plain OpenList = false
leaves_plain CloseList = true
leaves_plain Comma = true
leaves_plain Bar = true
leaves_plain Dot = false
leaves_plain Stop = true

-- The same at the end, where no token follows.
abbrev pub is_left_plain : List Token → Bool
is_left_plain [] = true
is_left_plain (first ∷ rest) = leaves_plain first.kind

-- `-` directly before an integer is the sign of a literal.
abbrev pub is_sign : ℕ → List Token → Bool
is_sign name rest = name == minus_name && begins_with is_integer rest

-- A token is a name before the tokens that follow, and neither an operator nor a sign where a term must begin.
pub data IsName : TokenKind → ℕ → List Token → Type 0 where
  plain : (name : ℕ) (rest : List Token) → prefix_named name ≡ None → IsName (Name name) name rest
  left_plain : (name : ℕ) (rest : List Token) → is_left_plain rest ≡ true → IsName (Name name) name rest
  quoted : (name : ℕ) (rest : List Token) → IsName (Quoted name) name rest

-- The name behind a qualifier mark is a plain one, quoted or not.
pub data IsQualified : TokenKind → ℕ → Type 0 where
  unquoted : (name : ℕ) → IsQualified (Name name) name
  quoted : (name : ℕ) → IsQualified (Quoted name) name

-- A parenthesis opens a term; one directly behind a name, where that name is an infix operator.
pub data IsOpen : TokenKind → Type 0 where
  alone : IsOpen Open
  behind_operator : IsOpen OpenArgs

-- A name's token is a prefix operator before the tokens that follow.
pub record IsPrefix (name : ℕ) (operator : Operator) (rest : List Token) : Type 0 where
  pub row : prefix_named name ≡ Some operator
  pub not_plain : is_left_plain rest ≡ false
  pub no_sign : is_sign name rest ≡ false

-- A token is an infix operator behind a term. A comma is one except among arguments and list items.
pub data IsInfix : Bool → TokenKind → Operator → Type 0 where
  name : (commas : Bool) (name : ℕ) (operator : Operator) → infix_named name ≡ Some operator → IsInfix commas (Name name) operator
  comma : (operator : Operator) → infix_named comma_name ≡ Some operator → IsInfix true Comma operator

-- a list cell
abbrev pub cell : Span → Term → Term → Term
cell span head tail = Application cons_name None (more head (more tail none)) span

abbrev pub nil : Span → Term
nil span = Application nil_name None none span

mutual
  -- The tokens begin with some that spell this term at this priority, behind which the rest stands. Commas are operators, or end the
  -- term, as arguments and list items have it.
  pub data Spells : Bool → Term → ℕ → List Token → List Token → Type 0 where
    variable : (commas : Bool) (name : ℕ) (span : Span) (rest : List Token) → Spells commas (Variable name span) 0 (token (Var name) span ∷ rest) rest
    integer : (commas : Bool) (value : ℕ) (span : Span) (rest : List Token) → Spells commas (Integer (pos value) span) 0 (token (Int value) span ∷ rest) rest
    negative : (commas : Bool) (value : ℕ) (sign span : Span) (rest : List Token) → Spells commas (Integer (neg_ℤ (pos value)) (joined sign span)) 0 (token (Name minus_name) sign ∷ token (Int value) span ∷ rest) rest
    text : (commas : Bool) (name : ℕ) (span : Span) (rest : List Token) → Spells commas (Text name span) 0 (token (TextToken name) span ∷ rest) rest
    constant : (commas : Bool) (kind : TokenKind) (name : ℕ) (span : Span) (rest : List Token) → IsName kind name rest → begins_with goes_on_name rest ≡ false → Spells commas (Application name None none span) 0 (token kind span ∷ rest) rest
    qualified : (commas : Bool) (kind kind' : TokenKind) (qualifier name : ℕ) (span mark span' : Span) (rest : List Token) → IsName kind qualifier (token Dot mark ∷ token kind' span' ∷ rest) → IsQualified kind' name → begins_with goes_on_name rest ≡ false → Spells commas (Application name (Some qualifier) none (joined span span')) 0 (token kind span ∷ token Dot mark ∷ token kind' span' ∷ rest) rest
    application : (commas : Bool) (kind : TokenKind) (name : ℕ) (arguments : Terms) (span open' close : Span) (inner rest : List Token) → IsName kind name (token OpenArgs open' ∷ inner) → SpellsArguments arguments close inner rest → Spells commas (Application name None arguments (joined span close)) 0 (token kind span ∷ token OpenArgs open' ∷ inner) rest
    qualified_application : (commas : Bool) (kind kind' : TokenKind) (qualifier name : ℕ) (arguments : Terms) (span mark span' open' close : Span) (inner rest : List Token) → IsName kind qualifier (token Dot mark ∷ token kind' span' ∷ token OpenArgs open' ∷ inner) → IsQualified kind' name → SpellsArguments arguments close inner rest → Spells commas (Application name (Some qualifier) arguments (joined span close)) 0 (token kind span ∷ token Dot mark ∷ token kind' span' ∷ token OpenArgs open' ∷ inner) rest
    empty_list : (commas : Bool) (open' close : Span) (rest : List Token) → Spells commas (nil (joined open' close)) 0 (token OpenList open' ∷ token CloseList close ∷ rest) rest
    list : (commas : Bool) (term : Term) (open' close : Span) (inner rest : List Token) → SpellsItems (joined open' close) term close inner rest → Spells commas term 0 (token OpenList open' ∷ inner) rest
    parenthesis : (commas : Bool) (kind : TokenKind) (term : Term) (priority : ℕ) (open' close : Span) (inner rest : List Token) → IsOpen kind → Spells true term priority inner (token Close close ∷ rest) → priority ≤ term_most → Spells commas (with_span (joined open' close) term) 0 (token kind open' ∷ inner) rest
    before : (commas : Bool) (name priority : ℕ) (operator : Operator) (operand : Term) (span : Span) (inner rest : List Token) → IsPrefix name operator inner → takes_two operator.fixity ≡ false → Spells commas operand priority inner rest → priority ≤ last_most operator → Spells commas (Application name None (more operand none) (joined span (span_of operand))) operator.priority (token (Name name) span ∷ inner) rest
    quantifier : (commas : Bool) (name priority priority' : ℕ) (operator : Operator) (variables goal : Term) (span : Span) (inner middle rest : List Token) → IsPrefix name operator inner → takes_two operator.fixity ≡ true → Spells commas variables priority inner middle → priority ≤ first_most operator → begins_with is_infix_name middle ≡ false → Spells commas goal priority' middle rest → priority' ≤ last_most operator → Spells commas (Application name None (more variables (more goal none)) (joined span (span_of goal))) operator.priority (token (Name name) span ∷ inner) rest
    between : (commas : Bool) (kind : TokenKind) (priority priority' : ℕ) (operator : Operator) (left right : Term) (span : Span) (tokens middle rest : List Token) → Spells commas left priority tokens (token kind span ∷ middle) → IsInfix commas kind operator → priority ≤ first_most operator → Spells commas right priority' middle rest → priority' ≤ last_most operator → Spells commas (Application operator.name None (more left (more right none)) (joined (span_of left) (span_of right))) operator.priority tokens rest

  -- The tokens begin with arguments, parted by commas, and a closing parenthesis.
  pub data SpellsArguments : Terms → Span → List Token → List Token → Type 0 where
    last_argument : (term : Term) (priority : ℕ) (close : Span) (tokens rest : List Token) → Spells false term priority tokens (token Close close ∷ rest) → priority ≤ argument_most → SpellsArguments (more term none) close tokens rest
    argument : (term : Term) (terms : Terms) (priority : ℕ) (comma close : Span) (tokens middle rest : List Token) → Spells false term priority tokens (token Comma comma ∷ middle) → priority ≤ argument_most → SpellsArguments terms close middle rest → SpellsArguments (more term terms) close tokens rest

  -- The tokens begin with list items, parted by commas, perhaps a bar and a tail, and a closing bracket. Each cell of the list has the span of the
  -- whole.
  pub data SpellsItems : Span → Term → Span → List Token → List Token → Type 0 where
    last_item : (whole : Span) (term : Term) (priority : ℕ) (close : Span) (tokens rest : List Token) → Spells false term priority tokens (token CloseList close ∷ rest) → priority ≤ argument_most → SpellsItems whole (cell whole term (nil whole)) close tokens rest
    items_tail : (whole : Span) (term end : Term) (priority priority' : ℕ) (bar close : Span) (tokens middle rest : List Token) → Spells false term priority tokens (token Bar bar ∷ middle) → priority ≤ argument_most → Spells false end priority' middle (token CloseList close ∷ rest) → priority' ≤ argument_most → SpellsItems whole (cell whole term end) close tokens rest
    item : (whole : Span) (term others : Term) (priority : ℕ) (comma close : Span) (tokens middle rest : List Token) → Spells false term priority tokens (token Comma comma ∷ middle) → priority ≤ argument_most → SpellsItems whole others close middle rest → SpellsItems whole (cell whole term others) close tokens rest
