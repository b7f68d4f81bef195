-- What stands where a term must begin: the reader's first look at the tokens.
use Rattle.std.specs.Prelude.{ℕ, Bool, true, false, List, [], ◌∷◌, Option, Some, None, if◌then◌else◌}
use Rattle.merc_base.specs.declared.place.Span.{Span}
use Rattle.merc_base.specs.Names.{nil_name}
use Rattle.merc_tokens.specs.declared.token.Token.{Token}
use Rattle.merc_tokens.specs.declared.token.TokenKind.{TokenKind}
use Rattle.merc_tokens.specs.declared.token.TokenKind.TheVariants.{Name, Quoted, Var, Int, Text, OpenArgs, Open, Close, OpenList, CloseList, Comma, Bar, Dot, Stop}
use Rattle.merc_terms.specs.declared.operators.Operator.{Operator}
use Rattle.merc_terms.specs.declared.starting.Start.{Start}
use Rattle.merc_terms.specs.declared.starting.Start.TheVariants.{Variable, Integer, Text as TextStart, Constant, Application, List as ListStart, Parenthesis, Prefix}
use Rattle.merc_terms.specs.Operators.{prefix_named}
use Rattle.merc_terms.specs.Reading.{joined, is_left_plain, is_sign}

-- a start and the tokens behind it
abbrev pub Started : Type 0
Started = Option (Start × List Token)

abbrev pub named_at : ℕ → Option ℕ → Span → TokenKind → Token → List Token → Started
named_at name qualifier span OpenArgs first rest = Some (Application name qualifier span, rest)
named_at name qualifier span Dot first rest = None
named_at name qualifier span (Name other) first rest = Some (Constant name qualifier span, first ∷ rest)
named_at name qualifier span (Quoted other) first rest = Some (Constant name qualifier span, first ∷ rest)
named_at name qualifier span (Var other) first rest = Some (Constant name qualifier span, first ∷ rest)
named_at name qualifier span (Int value) first rest = Some (Constant name qualifier span, first ∷ rest)
named_at name qualifier span (Text other) first rest = Some (Constant name qualifier span, first ∷ rest)
named_at name qualifier span Open first rest = Some (Constant name qualifier span, first ∷ rest)
named_at name qualifier span Close first rest = Some (Constant name qualifier span, first ∷ rest)
named_at name qualifier span OpenList first rest = Some (Constant name qualifier span, first ∷ rest)
named_at name qualifier span CloseList first rest = Some (Constant name qualifier span, first ∷ rest)
named_at name qualifier span Comma first rest = Some (Constant name qualifier span, first ∷ rest)
named_at name qualifier span Bar first rest = Some (Constant name qualifier span, first ∷ rest)
named_at name qualifier span Stop first rest = Some (Constant name qualifier span, first ∷ rest)

-- A name with its qualifier, before these tokens: with a parenthesis directly behind it, it has arguments. No second mark follows it.
abbrev pub named_before : ℕ → Option ℕ → Span → List Token → Started
named_before name qualifier span [] = Some (Constant name qualifier span, [])
named_before name qualifier span (first ∷ rest) = named_at name qualifier span first.kind first rest

abbrev pub qualified_at : ℕ → Span → TokenKind → Span → List Token → Started
qualified_at qualifier span (Name name) last rest = named_before name (Some qualifier) (joined span last) rest
qualified_at qualifier span (Quoted name) last rest = named_before name (Some qualifier) (joined span last) rest
qualified_at qualifier span (Var other) last rest = None
qualified_at qualifier span (Int value) last rest = None
qualified_at qualifier span (Text other) last rest = None
qualified_at qualifier span OpenArgs last rest = None
qualified_at qualifier span Open last rest = None
qualified_at qualifier span Close last rest = None
qualified_at qualifier span OpenList last rest = None
qualified_at qualifier span CloseList last rest = None
qualified_at qualifier span Comma last rest = None
qualified_at qualifier span Bar last rest = None
qualified_at qualifier span Dot last rest = None
qualified_at qualifier span Stop last rest = None

-- a name behind a qualifier mark
abbrev pub qualified_start : ℕ → Span → List Token → Started
qualified_start qualifier span [] = None
qualified_start qualifier span (first ∷ rest) = qualified_at qualifier span first.kind first.span rest

-- whether a token is a qualifier mark
abbrev pub is_mark : TokenKind → Bool
is_mark (Name name) = false
is_mark (Quoted name) = false
is_mark (Var name) = false
is_mark (Int value) = false
is_mark (Text name) = false
is_mark OpenArgs = false
is_mark Open = false
is_mark Close = false
is_mark OpenList = false
is_mark CloseList = false
is_mark Comma = false
is_mark Bar = false
is_mark Dot = true
is_mark Stop = false

-- a name that is no operator, before these tokens
abbrev pub plain_start : ℕ → Span → List Token → Started
plain_start name span [] = Some (Constant name None span, [])
plain_start name span (first ∷ rest) = if is_mark first.kind then qualified_start name span rest else named_before name None span (first ∷ rest)

abbrev pub signed_at : Span → TokenKind → Span → List Token → Started
signed_at span (Int value) last rest = Some (Integer true value (joined span last), rest)
signed_at span (Name name) last rest = None
signed_at span (Quoted name) last rest = None
signed_at span (Var name) last rest = None
signed_at span (Text name) last rest = None
signed_at span OpenArgs last rest = None
signed_at span Open last rest = None
signed_at span Close last rest = None
signed_at span OpenList last rest = None
signed_at span CloseList last rest = None
signed_at span Comma last rest = None
signed_at span Bar last rest = None
signed_at span Dot last rest = None
signed_at span Stop last rest = None

-- `-` before these tokens, as the sign of a literal where an integer comes first
abbrev pub signed_start : Span → List Token → Started
signed_start span [] = None
signed_start span (first ∷ rest) = signed_at span first.kind first.span rest

-- a name that may be this prefix operator, before these tokens
abbrev pub operator_start : Option Operator → ℕ → Span → List Token → Started
operator_start None name span rest = plain_start name span rest
operator_start (Some operator) name span rest = if is_left_plain rest then plain_start name span rest else Some (Prefix operator span, rest)

abbrev pub is_list_end : TokenKind → Bool
is_list_end (Name name) = false
is_list_end (Quoted name) = false
is_list_end (Var name) = false
is_list_end (Int value) = false
is_list_end (Text name) = false
is_list_end OpenArgs = false
is_list_end Open = false
is_list_end Close = false
is_list_end OpenList = false
is_list_end CloseList = true
is_list_end Comma = false
is_list_end Bar = false
is_list_end Dot = false
is_list_end Stop = false

-- a list's opening bracket before these tokens
abbrev pub list_start : Span → List Token → Started
list_start span [] = Some (ListStart span, [])
list_start span (first ∷ rest) = if is_list_end first.kind then Some (Constant nil_name None (joined span first.span), rest) else Some (ListStart span, first ∷ rest)

abbrev pub start_with : TokenKind → Span → List Token → Started
start_with (Name name) span rest = if is_sign name rest then signed_start span rest else operator_start (prefix_named name) name span rest
start_with (Quoted name) span rest = plain_start name span rest
start_with (Var name) span rest = Some (Variable name span, rest)
start_with (Int value) span rest = Some (Integer false value span, rest)
start_with (Text name) span rest = Some (TextStart name span, rest)
start_with OpenArgs span rest = Some (Parenthesis span, rest)
start_with Open span rest = Some (Parenthesis span, rest)
start_with Close span rest = None
start_with OpenList span rest = list_start span rest
start_with CloseList span rest = None
start_with Comma span rest = None
start_with Bar span rest = None
start_with Dot span rest = None
start_with Stop span rest = None

abbrev pub start_at : List Token → Started
start_at [] = None
start_at (first ∷ rest) = start_with first.kind first.span rest
