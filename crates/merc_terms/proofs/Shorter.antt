-- What is left behind a term is shorter than what it began.
use Rattle.std.proofs.Common.{ℕ, suc, ◌<◌, ◌≤◌, Bool, true, false, List, [], ◌∷◌, length, Option, Some, None, arith}
use Rattle.std.specs.Bool.{if◌then◌else◌}
use Rattle.merc_base.specs.declared.place.Span.{Span}
use Rattle.merc_base.specs.Names.{nil_name}
use Rattle.merc_tokens.specs.declared.token.Token.{Token}
use Rattle.merc_tokens.specs.declared.token.TokenKind.{TokenKind}
use Rattle.merc_tokens.specs.declared.token.TokenKind.TheVariants.{Name, Quoted, Var, Int, Text as TextToken, OpenArgs, Open, OpenList, Dot}
use Rattle.merc_tree.specs.Term.{Term, Terms}
use Rattle.merc_terms.specs.declared.operators.Operator.{Operator}
use Rattle.merc_terms.specs.declared.starting.Start.TheVariants.{Constant, List as ListStart, Prefix}
use Rattle.merc_terms.specs.Operators.{prefix_named}
use Rattle.merc_terms.specs.Reading.{joined, is_left_plain, is_sign, Spells, variable, integer, negative, text, constant, qualified, application, qualified_application, empty_list, list, parenthesis, before, quantifier, between, SpellsArguments, last_argument, argument, SpellsItems, last_item, items_tail, item}
use Rattle.merc_terms.specs.Starting.{Started, named_at, named_before, qualified_at, qualified_start, is_mark, plain_start, signed_at, signed_start, operator_start, is_list_end, list_start, start_with, start_at}

mutual
  pub Spells-shorter : {commas : Bool} {term : Term} {priority : ℕ} {tokens rest : List Token} → Spells commas term priority tokens rest → length rest < length tokens
  Spells-shorter (variable commas name span rest) = omega arith
  Spells-shorter (integer commas value span rest) = omega arith
  Spells-shorter (negative commas value sign span rest) = omega arith
  Spells-shorter (text commas name span rest) = omega arith
  Spells-shorter (constant commas kind name span rest named ends) = omega arith
  Spells-shorter (qualified commas kind kind' qualifier name span mark span' rest named behind ends) = omega arith
  Spells-shorter (application commas kind name arguments span open' close inner rest named inside) = let less = SpellsArguments-shorter inside in omega arith
  Spells-shorter (qualified_application commas kind kind' qualifier name arguments span mark span' open' close inner rest named behind inside) =
      let less = SpellsArguments-shorter inside in omega arith
  Spells-shorter (empty_list commas open' close rest) = omega arith
  Spells-shorter (list commas term open' close inner rest inside) = let less = SpellsItems-shorter inside in omega arith
  Spells-shorter (parenthesis commas kind term priority open' close inner rest opens inside within) = let less = Spells-shorter inside in omega arith
  Spells-shorter (before commas name priority operator operand span inner rest prefix one inside within) = let less = Spells-shorter inside in omega arith
  Spells-shorter (quantifier commas name priority priority' operator variables goal span inner middle rest prefix two first within apart second within') =
      let less = Spells-shorter first in let less' = Spells-shorter second in omega arith
  Spells-shorter (between commas kind priority priority' operator left right span tokens middle rest first going within second within') =
      let less = Spells-shorter first in let less' = Spells-shorter second in omega arith

  pub SpellsArguments-shorter : {terms : Terms} {close : Span} {tokens rest : List Token} → SpellsArguments terms close tokens rest → length rest < length tokens
  SpellsArguments-shorter (last_argument term priority close tokens rest inside within) = let less = Spells-shorter inside in omega arith
  SpellsArguments-shorter (argument term terms priority comma close tokens middle rest first within others) =
      let less = Spells-shorter first in let less' = SpellsArguments-shorter others in omega arith

  pub SpellsItems-shorter : {whole close : Span} {term : Term} {tokens rest : List Token} → SpellsItems whole term close tokens rest → length rest < length tokens
  SpellsItems-shorter (last_item whole term priority close tokens rest inside within) = let less = Spells-shorter inside in omega arith
  SpellsItems-shorter (items_tail whole term end priority priority' bar close tokens middle rest first within second within') =
      let less = Spells-shorter first in let less' = Spells-shorter second in omega arith
  SpellsItems-shorter (item whole term others priority comma close tokens middle rest first within behind) =
      let less = Spells-shorter first in let less' = SpellsItems-shorter behind in omega arith

-- what stands behind a start is at most this long
abbrev pub IsLeft : ℕ → Started → Type 0
IsLeft limit None = Unit {0}
IsLeft limit (Some started) = length started.1 ≤ limit

named_at-left : (limit name : ℕ) (qualifier : Option ℕ) (span : Span) (kind : TokenKind) (first : Token) (rest : List Token) → length (first ∷ rest) ≤ limit
    → IsLeft limit (named_at name qualifier span kind first rest)
named_at-left limit name qualifier span OpenArgs first rest short = omega arith
named_at-left limit name qualifier span Dot first rest short = tt
named_at-left limit name qualifier span kind first rest short = short

named_before-left : (limit name : ℕ) (qualifier : Option ℕ) (span : Span) (rest : List Token) → length rest ≤ limit → IsLeft limit (named_before name qualifier span rest)
named_before-left limit name qualifier span [] short = short
named_before-left limit name qualifier span (first ∷ rest) short = named_at-left limit name qualifier span first.kind first rest short

qualified_at-left : (limit qualifier : ℕ) (span : Span) (kind : TokenKind) (last : Span) (rest : List Token) → length rest ≤ limit
    → IsLeft limit (qualified_at qualifier span kind last rest)
qualified_at-left limit qualifier span (Name name) last rest short = named_before-left limit name _ _ rest short
qualified_at-left limit qualifier span (Quoted name) last rest short = named_before-left limit name _ _ rest short
qualified_at-left limit qualifier span kind last rest short = tt

qualified_start-left : (limit qualifier : ℕ) (span : Span) (rest : List Token) → length rest ≤ limit → IsLeft limit (qualified_start qualifier span rest)
qualified_start-left limit qualifier span [] short = tt
qualified_start-left limit qualifier span (first ∷ rest) short = qualified_at-left limit qualifier span first.kind first.span rest (omega arith)

plain_start-left : (limit name : ℕ) (span : Span) (rest : List Token) → length rest ≤ limit → IsLeft limit (plain_start name span rest)
plain_start-left limit name span [] short = short
plain_start-left limit name span (first ∷ rest) short = go (is_mark first.kind)
  where
    go : (b : Bool) → IsLeft limit (if b then qualified_start name span rest else named_before name None span (first ∷ rest))
    go true = qualified_start-left limit name span rest (omega arith)
    go false = named_before-left limit name None span (first ∷ rest) short

signed_at-left : (limit : ℕ) (span : Span) (kind : TokenKind) (last : Span) (rest : List Token) → length rest ≤ limit → IsLeft limit (signed_at span kind last rest)
signed_at-left limit span (Int value) last rest short = short
signed_at-left limit span kind last rest short = tt

signed_start-left : (limit : ℕ) (span : Span) (rest : List Token) → length rest ≤ limit → IsLeft limit (signed_start span rest)
signed_start-left limit span [] short = tt
signed_start-left limit span (first ∷ rest) short = signed_at-left limit span first.kind first.span rest (omega arith)

operator_start-left : (limit : ℕ) (found : Option Operator) (name : ℕ) (span : Span) (rest : List Token) → length rest ≤ limit
    → IsLeft limit (operator_start found name span rest)
operator_start-left limit None name span rest short = plain_start-left limit name span rest short
operator_start-left limit (Some operator) name span rest short = go (is_left_plain rest)
  where
    go : (b : Bool) → IsLeft limit (if b then plain_start name span rest else Some (Prefix operator span, rest))
    go true = plain_start-left limit name span rest short
    go false = short

name-left : (limit name : ℕ) (span : Span) (rest : List Token) → length rest ≤ limit → IsLeft limit (start_with (Name name) span rest)
name-left limit name span rest short = go (is_sign name rest)
  where
    go : (b : Bool) → IsLeft limit (if b then signed_start span rest else operator_start (prefix_named name) name span rest)
    go true = signed_start-left limit span rest short
    go false = operator_start-left limit (prefix_named name) name span rest short

list_start-left : (limit : ℕ) (span : Span) (rest : List Token) → length rest ≤ limit → IsLeft limit (list_start span rest)
list_start-left limit span [] short = short
list_start-left limit span (first ∷ rest) short = go (is_list_end first.kind)
  where
    go : (b : Bool) → IsLeft limit (if b then Some (Constant nil_name None (joined span first.span), rest) else Some (ListStart span, first ∷ rest))
    go true = omega arith
    go false = short

start_with-left : (limit : ℕ) (kind : TokenKind) (span : Span) (rest : List Token) → length rest ≤ limit → IsLeft limit (start_with kind span rest)
start_with-left limit (Name name) span rest short = name-left limit name span rest short
start_with-left limit (Quoted name) span rest short = plain_start-left limit name span rest short
start_with-left limit (Var name) span rest short = short
start_with-left limit (Int value) span rest short = short
start_with-left limit (TextToken name) span rest short = short
start_with-left limit OpenArgs span rest short = short
start_with-left limit Open span rest short = short
start_with-left limit OpenList span rest short = list_start-left limit span rest short
start_with-left limit kind span rest short = tt

-- a start takes a token at least
pub start_at-left : (limit : ℕ) (tokens : List Token) → length tokens ≤ suc limit → IsLeft limit (start_at tokens)
start_at-left limit [] short = tt
start_at-left limit (first ∷ rest) short = start_with-left limit first.kind first.span rest (omega arith)
