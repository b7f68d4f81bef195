-- Tokens that spell a term, and tokens that spell none.
use Rattle.std.proofs.Common.{◌≡◌, ℕ, suc, ℤ, pos, negsuc, Bool, true, false, ◌&&◌, List, [], ◌∷◌, map, Option, Some, None, refl, sym, ap, ◌∙◌}
use Rattle.std.specs.Bool.{if◌then◌else◌}
use Rattle.std.proofs.lemmas.Bool.{and_parts}
use Rattle.std.proofs.lemmas.Option.{same_Some}
use Rattle.merc_base.specs.declared.place.Span.{Span}
use Rattle.merc_base.specs.Names.{all_name, ampersand_name, arrow_name, colon_colon_name, colon_minus_name, comma_name, cons_name, else_name, equal_equal_name, equal_name, equivalent_name, if_name, implies_name, is_name, minus_name, mod_name, module_name, nil_name, not_name, not_provable_name, plus_name, pred_name, semicolon_name, slash_slash_name, some_name, star_name, then_name, type_arrow_name, type_name}
use Rattle.merc_tokens.specs.declared.token.Token.{Token}
use Rattle.merc_tokens.specs.declared.token.TokenKind.{TokenKind}
use Rattle.merc_tokens.specs.declared.token.TokenKind.TheVariants.{Name, Quoted, Var, Int, Text as TextToken, OpenArgs, Open, Close, OpenList, CloseList, Comma, Bar, Dot, Stop}
use Rattle.merc_tree.specs.Term.{Term, Variable, Integer, Application, none, more, terms_of, bare, no_span}
use Rattle.merc_terms.specs.declared.built.Built.{Built}
use Rattle.merc_terms.specs.Operators.{operators}
use Rattle.merc_terms.specs.Reading.{token}
use Rattle.merc_terms.specs.Items.{SpellsGoal, Ends, at_once, stopped}
use Rattle.merc_terms.specs.Reader.{Read, clipped, is_great, reading, whole_term}
use Rattle.merc_terms.proofs.WholeTerms.{whole_sound, whole_complete, great_fits}
use Rattle.merc_terms.proofs.Renaming.{built_none}
use Rattle.merc_terms.proofs.ReadingLaws.{Ends-end}

-- tokens of these kinds, each of one byte
abbrev placed : ℕ → List TokenKind → List Token
placed n [] = []
placed n (kind ∷ kinds) = token kind (record { first = n; past = suc n; line = 1 }) ∷ placed (suc n) kinds

-- tokens of these kinds spell a term that is this one, spans aside
pub record Reads (kinds : List TokenKind) (shape : Term) : Type 0 where
  term : Term
  spelled : SpellsGoal term (placed 0 kinds)
  same : bare term ≡ shape

-- tokens of these kinds spell no term
pub record Unread (kinds : List TokenKind) : Type 0 where
  none : (term : Term) → SpellsGoal term (placed 0 kinds) → ⊥

abbrev is_stop : TokenKind → Bool
is_stop (Name name) = false
is_stop (Quoted name) = false
is_stop (Var name) = false
is_stop (Int value) = false
is_stop (TextToken name) = false
is_stop OpenArgs = false
is_stop Open = false
is_stop Close = false
is_stop OpenList = false
is_stop CloseList = false
is_stop Comma = false
is_stop Bar = false
is_stop Dot = false
is_stop Stop = true

abbrev is_last : List Token → Bool
is_last [] = true
is_last (first ∷ rest) = false

abbrev is_ended : List Token → Bool
is_ended [] = true
is_ended (first ∷ rest) = is_stop first.kind && is_last rest

abbrev shown : Read → List Term × Bool
shown read = (map bare read.built.terms, read.built.is_great)

-- what the reader answers where the tokens end behind a term
abbrev outcome : Option Read → Option (List Term × Bool)
outcome None = None
outcome (Some read) = if is_ended read.rest then Some (shown read) else None

abbrev pub answer : List TokenKind → Option (List Term × Bool)
answer kinds = outcome (whole_term built_none (placed 0 kinds))

ended_by : (kind : TokenKind) (span : Span) (rest : List Token) → is_stop kind ≡ true → is_last rest ≡ true → Ends (token kind span ∷ rest)
ended_by Stop span [] stop last = stopped span
ended_by Stop span (first ∷ rest) stop last = cc
ended_by kind span rest stop last = cc

ended : (rest : List Token) → is_ended rest ≡ true → Ends rest
ended [] is = at_once
ended (first ∷ rest) is = let parts = and_parts (is_stop first.kind) (is_last rest) is in ended_by first.kind first.span rest parts.0 parts.1

Ends-ended : (rest : List Token) → Ends rest → is_ended rest ≡ true
Ends-ended rest at_once = refl
Ends-ended rest (stopped stop) = refl

pub reads : (kinds : List TokenKind) (shape : Term) → answer kinds ≡ Some (shape ∷ [], false) → Reads kinds shape
reads kinds shape same = go (whole_term built_none (placed 0 kinds)) refl same
  where
    by : (read : Read) → whole_term built_none (placed 0 kinds) ≡ Some read → (b : Bool) → is_ended read.rest ≡ b
        → (if b then Some (shown read) else None) ≡ Some (shape ∷ [], false) → Reads kinds shape
    by read is false ends same' = cc
    by read is true ends same' =
        let whole = whole_sound built_none (placed 0 kinds) read is in
        let parts = same_Some _ _ same' in
        let fits : is_great whole.term ≡ false = sym (ap (λ (b : Built). b.is_great) whole.built_is) ∙ ap (λ (p : List Term × Bool). p.1) parts in
        let terms : ◌≡◌ {A = List Term} (bare (clipped whole.term) ∷ []) (shape ∷ []) =
        sym (ap (λ (b : Built). map bare b.terms) whole.built_is) ∙ ap (λ (p : List Term × Bool). p.0) parts in
        let one : bare (clipped whole.term) ≡ shape = cc in
        record {
          term = whole.term;
          spelled = record { priority = read.priority; rest = read.rest; within = whole.within; spelled = whole.spelled; ends = ended read.rest ends };
          same = sym (ap bare (great_fits whole.term fits).1) ∙ one;
        }

    go : (part : Option Read) → whole_term built_none (placed 0 kinds) ≡ part → outcome part ≡ Some (shape ∷ [], false) → Reads kinds shape
    go None is same' = cc
    go (Some read) is same' = by read is (is_ended read.rest) refl same'

pub unread : (kinds : List TokenKind) → answer kinds ≡ None → Unread kinds
unread kinds same = record { none = no_term }
  where
    by : (b : Bool) (x : List Term × Bool) → b ≡ true → (if b then Some x else None) ≡ None → ⊥
    by true x is' same' = cc
    by false x is' same' = cc

    no_term : (term : Term) → SpellsGoal term (placed 0 kinds) → ⊥
    no_term term is =
        let there = whole_complete built_none term is.priority (placed 0 kinds) is.rest is.spelled is.within (Ends-end is.rest is.ends) in
        let other = sym (ap outcome there) ∙ same in
        by (is_ended is.rest) (bare (clipped term) ∷ [], is_great term) (Ends-ended is.rest is.ends) other

-- names behind the constants

abbrev pub a_name : ℕ
a_name = 100

abbrev pub b_name : ℕ
b_name = 101

abbrev pub c_name : ℕ
c_name = 102

abbrev x_name : ℕ
x_name = 120

abbrev y_name : ℕ
y_name = 121

abbrev z_name : ℕ
z_name = 122

-- terms without spans

abbrev X : Term
X = Variable x_name no_span

abbrev Y : Term
Y = Variable y_name no_span

abbrev Z : Term
Z = Variable z_name no_span

abbrev integer : ℤ → Term
integer value = Integer value no_span

abbrev pub apply : ℕ → List Term → Term
apply name terms = Application name None (terms_of terms) no_span

abbrev pub a : Term
a = apply a_name []

abbrev pub b : Term
b = apply b_name []

abbrev pub c : Term
c = apply c_name []

abbrev cons : Term → Term → Term
cons head tail = apply cons_name (head ∷ tail ∷ [])

abbrev end : Term
end = apply nil_name []

-- their tokens

abbrev x' : TokenKind
x' = Var x_name

abbrev y' : TokenKind
y' = Var y_name

abbrev z' : TokenKind
z' = Var z_name

abbrev pub a' : TokenKind
a' = Name a_name

abbrev pub b' : TokenKind
b' = Name b_name

abbrev pub c' : TokenKind
c' = Name c_name

-- clauses and declarations: `a :- b`, `:- module a`, but not `a :- b :- c`

clause : Reads (a' ∷ Name colon_minus_name ∷ b' ∷ Stop ∷ []) (apply colon_minus_name (a ∷ b ∷ []))
unfolding reading operators
clause = reads _ _ refl

declaration : Reads (Name colon_minus_name ∷ Name module_name ∷ a' ∷ Stop ∷ []) (apply colon_minus_name (apply module_name (a ∷ []) ∷ []))
unfolding reading operators
declaration = reads _ _ refl

clause_of_clause : Unread (a' ∷ Name colon_minus_name ∷ b' ∷ Name colon_minus_name ∷ c' ∷ [])
unfolding reading operators
clause_of_clause = unread _ refl

-- `:- type a ---> b`, but not `type :- a`

type_declaration : Reads (Name colon_minus_name ∷ Name type_name ∷ a' ∷ Name type_arrow_name ∷ b' ∷ []) (apply colon_minus_name (apply type_name (apply type_arrow_name (a ∷ b ∷ []) ∷ []) ∷ []))
unfolding reading operators
type_declaration = reads _ _ refl

type_of_declaration : Unread (Name type_name ∷ Name colon_minus_name ∷ a' ∷ [])
unfolding reading operators
type_of_declaration = unread _ refl

-- `X :: a`, but not `X :: Y :: Z`

moded : Reads (x' ∷ Name colon_colon_name ∷ a' ∷ []) (apply colon_colon_name (X ∷ a ∷ []))
unfolding reading operators
moded = reads _ _ refl

moded_twice : Unread (x' ∷ Name colon_colon_name ∷ y' ∷ Name colon_colon_name ∷ z' ∷ [])
unfolding reading operators
moded_twice = unread _ refl

-- `a == b`, but not `a == b == c`

equality : Reads (a' ∷ Name equal_equal_name ∷ b' ∷ []) (apply equal_equal_name (a ∷ b ∷ []))
unfolding reading operators
equality = reads _ _ refl

equality_of_equality : Unread (a' ∷ Name equal_equal_name ∷ b' ∷ Name equal_equal_name ∷ c' ∷ [])
unfolding reading operators
equality_of_equality = unread _ refl

-- `if a then b else c`, but not `a then b then c`

conditional : Reads (Name if_name ∷ a' ∷ Name then_name ∷ b' ∷ Name else_name ∷ c' ∷ []) (apply else_name (apply if_name (apply then_name (a ∷ b ∷ []) ∷ []) ∷ c ∷ []))
unfolding reading operators
conditional = reads _ _ refl

then_twice : Unread (a' ∷ Name then_name ∷ b' ∷ Name then_name ∷ c' ∷ [])
unfolding reading operators
then_twice = unread _ refl

-- `a ; b ; c` goes on to the right, but `a ;` wants an operand

disjunction : Reads (a' ∷ Name semicolon_name ∷ b' ∷ Name semicolon_name ∷ c' ∷ []) (apply semicolon_name (a ∷ apply semicolon_name (b ∷ c ∷ []) ∷ []))
unfolding reading operators
disjunction = reads _ _ refl

disjunction_open : Unread (a' ∷ Name semicolon_name ∷ [])
unfolding reading operators
disjunction_open = unread _ refl

-- `a -> b ; c` is a disjunction, but `-> a` is nothing

arrow : Reads (a' ∷ Name arrow_name ∷ b' ∷ Name semicolon_name ∷ c' ∷ []) (apply semicolon_name (apply arrow_name (a ∷ b ∷ []) ∷ c ∷ []))
unfolding reading operators
arrow = reads _ _ refl

arrow_alone : Unread (Name arrow_name ∷ a' ∷ [])
unfolding reading operators
arrow_alone = unread _ refl

-- `a & b , c` is a parallel conjunction, but `a & & b` is nothing

parallel : Reads (a' ∷ Name ampersand_name ∷ b' ∷ Comma ∷ c' ∷ []) (apply ampersand_name (a ∷ apply comma_name (b ∷ c ∷ []) ∷ []))
unfolding reading operators
parallel = reads _ _ refl

parallel_twice : Unread (a' ∷ Name ampersand_name ∷ Name ampersand_name ∷ b' ∷ [])
unfolding reading operators
parallel_twice = unread _ refl

-- `a , b , c` goes on to the right, but `a ,` wants an operand

conjunction : Reads (a' ∷ Comma ∷ b' ∷ Comma ∷ c' ∷ []) (apply comma_name (a ∷ apply comma_name (b ∷ c ∷ []) ∷ []))
unfolding reading operators
conjunction = reads _ _ refl

conjunction_open : Unread (a' ∷ Comma ∷ Stop ∷ [])
unfolding reading operators
conjunction_open = unread _ refl

-- `some [ X ] a , b` is a conjunction, but `some [ X ] = a` is nothing: no infix operator's name stands behind the variables

quantified : Reads (Name some_name ∷ OpenList ∷ x' ∷ CloseList ∷ a' ∷ Comma ∷ b' ∷ []) (apply comma_name (apply some_name (cons X end ∷ a ∷ []) ∷ b ∷ []))
unfolding reading operators
quantified = reads _ _ refl

quantified_twice : Reads (Name some_name ∷ x' ∷ Name all_name ∷ y' ∷ a' ∷ []) (apply some_name (X ∷ apply all_name (Y ∷ a ∷ []) ∷ []))
unfolding reading operators
quantified_twice = reads _ _ refl

quantified_infix : Unread (Name some_name ∷ OpenList ∷ x' ∷ CloseList ∷ Name equal_name ∷ a' ∷ [])
unfolding reading operators
quantified_infix = unread _ refl

-- `a => b => c` goes on to the right, but `a <=>` wants an operand

implication : Reads (a' ∷ Name implies_name ∷ b' ∷ Name implies_name ∷ c' ∷ []) (apply implies_name (a ∷ apply implies_name (b ∷ c ∷ []) ∷ []))
unfolding reading operators
implication = reads _ _ refl

equivalence_open : Unread (a' ∷ Name equivalent_name ∷ [])
unfolding reading operators
equivalence_open = unread _ refl

-- `not not a`, `\+ X = a`, but not `not some X a`: `some` is looser

negation : Reads (Name not_name ∷ Name not_name ∷ a' ∷ []) (apply not_name (apply not_name (a ∷ []) ∷ []))
unfolding reading operators
negation = reads _ _ refl

negation_of_equation : Reads (Name not_provable_name ∷ x' ∷ Name equal_name ∷ a' ∷ []) (apply not_provable_name (apply equal_name (X ∷ a ∷ []) ∷ []))
unfolding reading operators
negation_of_equation = reads _ _ refl

negation_of_quantified : Unread (Name not_name ∷ Name some_name ∷ x' ∷ a' ∷ [])
unfolding reading operators
negation_of_quantified = unread _ refl

-- `pred a`, but not `pred pred a`

predicate : Reads (Name pred_name ∷ a' ∷ []) (apply pred_name (a ∷ []))
unfolding reading operators
predicate = reads _ _ refl

predicate_twice : Unread (Name pred_name ∷ Name pred_name ∷ a' ∷ [])
unfolding reading operators
predicate_twice = unread _ refl

-- `X = a is b`: `is` is looser than `=`, but not `X is Y is Z`

result : Reads (x' ∷ Name equal_name ∷ a' ∷ Name is_name ∷ b' ∷ []) (apply is_name (apply equal_name (X ∷ a ∷ []) ∷ b ∷ []))
unfolding reading operators
result = reads _ _ refl

result_twice : Unread (x' ∷ Name is_name ∷ y' ∷ Name is_name ∷ z' ∷ [])
unfolding reading operators
result_twice = unread _ refl

-- `X = Y + Z`, but not `X = Y = Z`

equation : Reads (x' ∷ Name equal_name ∷ y' ∷ Name plus_name ∷ z' ∷ []) (apply equal_name (X ∷ apply plus_name (Y ∷ Z ∷ []) ∷ []))
unfolding reading operators
equation = reads _ _ refl

equation_twice : Unread (x' ∷ Name equal_name ∷ y' ∷ Name equal_name ∷ z' ∷ [])
unfolding reading operators
equation_twice = unread _ refl

-- `X + Y - Z` goes on to the left, but `X + = Y` is nothing

sum : Reads (x' ∷ Name plus_name ∷ y' ∷ Name minus_name ∷ z' ∷ []) (apply minus_name (apply plus_name (X ∷ Y ∷ []) ∷ Z ∷ []))
unfolding reading operators
sum = reads _ _ refl

sum_open : Unread (x' ∷ Name plus_name ∷ Name equal_name ∷ y' ∷ [])
unfolding reading operators
sum_open = unread _ refl

-- `X * Y // Z` goes on to the left, but `X * Y mod Z` and `a mod b mod c` are nothing

product : Reads (x' ∷ Name star_name ∷ y' ∷ Name slash_slash_name ∷ z' ∷ []) (apply slash_slash_name (apply star_name (X ∷ Y ∷ []) ∷ Z ∷ []))
unfolding reading operators
product = reads _ _ refl

product_of_remainder : Unread (x' ∷ Name star_name ∷ y' ∷ Name mod_name ∷ z' ∷ [])
unfolding reading operators
product_of_remainder = unread _ refl

remainder_twice : Unread (a' ∷ Name mod_name ∷ b' ∷ Name mod_name ∷ c' ∷ [])
unfolding reading operators
remainder_twice = unread _ refl

-- `- X`, but not `- - X`

minus : Reads (Name minus_name ∷ x' ∷ []) (apply minus_name (X ∷ []))
unfolding reading operators
minus = reads _ _ refl

minus_twice : Unread (Name minus_name ∷ Name minus_name ∷ x' ∷ [])
unfolding reading operators
minus_twice = unread _ refl

-- `-` before an integer where a term begins is its sign; behind a term it is the operator

negative : Reads (Name minus_name ∷ Int 5 ∷ []) (integer (negsuc 4))
unfolding reading operators
negative = reads _ _ refl

difference : Reads (x' ∷ Name minus_name ∷ Int 5 ∷ []) (apply minus_name (X ∷ integer (pos 5) ∷ []))
unfolding reading operators
difference = reads _ _ refl

-- `- - ( 5 )` is nothing, but `- -( 5 )` is: with a parenthesis directly behind it `-` is a plain name

minus_of_minus : Unread (Name minus_name ∷ Name minus_name ∷ Open ∷ Int 5 ∷ Close ∷ [])
unfolding reading operators
minus_of_minus = unread _ refl

minus_of_name : Reads (Name minus_name ∷ Name minus_name ∷ OpenArgs ∷ Int 5 ∷ Close ∷ []) (apply minus_name (apply minus_name (integer (pos 5) ∷ []) ∷ []))
unfolding reading operators
minus_of_name = reads _ _ refl

-- an argument is below a clause: `a(b :- c)` is nothing, `a((b :- c))` is

clause_argument : Unread (a' ∷ OpenArgs ∷ b' ∷ Name colon_minus_name ∷ c' ∷ Close ∷ [])
unfolding reading operators
clause_argument = unread _ refl

clause_in_parentheses : Reads (a' ∷ OpenArgs ∷ Open ∷ b' ∷ Name colon_minus_name ∷ c' ∷ Close ∷ Close ∷ []) (apply a_name (apply colon_minus_name (b ∷ c ∷ []) ∷ []))
unfolding reading operators
clause_in_parentheses = reads _ _ refl

two_arguments : Reads (a' ∷ OpenArgs ∷ x' ∷ Comma ∷ y' ∷ Name plus_name ∷ z' ∷ Close ∷ []) (apply a_name (X ∷ apply plus_name (Y ∷ Z ∷ []) ∷ []))
unfolding reading operators
two_arguments = reads _ _ refl

-- lists: `[]`, `[X, Y]`, `[X, Y | Z]`, but not `[X | Y | Z]` or `[X |]`

list_empty : Reads (OpenList ∷ CloseList ∷ []) (end)
unfolding reading operators
list_empty = reads _ _ refl

list_of_two : Reads (OpenList ∷ x' ∷ Comma ∷ y' ∷ CloseList ∷ []) (cons X (cons Y end))
unfolding reading operators
list_of_two = reads _ _ refl

list_with_tail : Reads (OpenList ∷ x' ∷ Comma ∷ y' ∷ Bar ∷ z' ∷ CloseList ∷ []) (cons X (cons Y Z))
unfolding reading operators
list_with_tail = reads _ _ refl

list_two_tails : Unread (OpenList ∷ x' ∷ Bar ∷ y' ∷ Bar ∷ z' ∷ CloseList ∷ [])
unfolding reading operators
list_two_tails = unread _ refl

list_no_tail : Unread (OpenList ∷ x' ∷ Bar ∷ CloseList ∷ [])
unfolding reading operators
list_no_tail = unread _ refl

-- qualified names: `a.b`, `a.b(X)`, but not `a.b.c`

qualified_name : Reads (a' ∷ Dot ∷ b' ∷ []) (Application b_name (Some a_name) none no_span)
unfolding reading operators
qualified_name = reads _ _ refl

qualified_application : Reads (a' ∷ Dot ∷ b' ∷ OpenArgs ∷ x' ∷ Close ∷ []) (Application b_name (Some a_name) (more X none) no_span)
unfolding reading operators
qualified_application = reads _ _ refl

qualified_twice : Unread (a' ∷ Dot ∷ b' ∷ Dot ∷ c' ∷ [])
unfolding reading operators
qualified_twice = unread _ refl

-- a prefix operator's name before a full stop is a plain name: `X = not .`, but not `X = not Y`

plain_operator : Reads (x' ∷ Name equal_name ∷ Name not_name ∷ Stop ∷ []) (apply equal_name (X ∷ apply not_name [] ∷ []))
unfolding reading operators
plain_operator = reads _ _ refl

operator_too_loose : Unread (x' ∷ Name equal_name ∷ Name not_name ∷ y' ∷ [])
unfolding reading operators
operator_too_loose = unread _ refl

-- a quoted operator is a name: `X = '+'`, but not `X '+' Y`

quoted_operator : Reads (x' ∷ Name equal_name ∷ Quoted plus_name ∷ []) (apply equal_name (X ∷ apply plus_name [] ∷ []))
unfolding reading operators
quoted_operator = reads _ _ refl

quoted_infix : Unread (x' ∷ Quoted plus_name ∷ y' ∷ [])
unfolding reading operators
quoted_infix = unread _ refl

-- spans: each token is one byte on a line of its own

abbrev lined : ℕ → List TokenKind → List Token
lined n [] = []
lined n (kind ∷ kinds) = token kind (record { first = n; past = suc n; line = suc n }) ∷ lined (suc n) kinds

-- from one byte to another, on the line of the former
abbrev at : ℕ → ℕ → Span
at first past = record { first = first; past = past; line = suc first }

abbrev spanned : Option Read → Option (List Term)
spanned None = None
spanned (Some read) = Some read.built.terms

abbrev read_of : List TokenKind → Option (List Term)
read_of kinds = spanned (whole_term built_none (lined 0 kinds))

abbrev name_at : ℕ → ℕ → Term
name_at name first = Application name None none (at first (suc first))

-- `- X = ( a + b )`: an operator's term stands from its first token to its last, and one in parentheses with them
operators_spanned : read_of (Name minus_name ∷ x' ∷ Name equal_name ∷ Open ∷ a' ∷ Name plus_name ∷ b' ∷ Close ∷ [])
    ≡ Some (Application equal_name None (more (Application minus_name None (more (Variable x_name (at 1 2)) none) (at 0 2))
    (more (Application plus_name None (more (name_at a_name 4) (more (name_at b_name 6) none)) (at 3 8)) none)) (at 0 8) ∷ [])
unfolding reading operators
operators_spanned = refl

-- `a . b ( - 5 , [ c , a | b ] , [ ] )`: a literal stands with its sign, and each cell of a list where the whole list does
arguments_spanned : read_of (a' ∷ Dot ∷ b' ∷ OpenArgs ∷ Name minus_name ∷ Int 5 ∷ Comma ∷ OpenList ∷ c' ∷ Comma ∷ a' ∷ Bar ∷ b' ∷ CloseList ∷ Comma ∷ OpenList ∷ CloseList ∷ Close ∷ [])
    ≡ Some (Application b_name (Some a_name) (more (Integer (negsuc 4) (at 4 6))
    (more (Application cons_name None (more (name_at c_name 8) (more (Application cons_name None (more (name_at a_name 10) (more (name_at b_name 12) none)) (at 7 14)) none)) (at 7 14))
    (more (Application nil_name None none (at 15 17)) none))) (at 0 18) ∷ [])
unfolding reading operators
arguments_spanned = refl

-- `some [ X ] a . b`: a quantifier stands up to its goal's end, and a list's empty list where the list does
quantifier_spanned : read_of (Name some_name ∷ OpenList ∷ x' ∷ CloseList ∷ a' ∷ Dot ∷ b' ∷ [])
    ≡ Some (Application some_name None (more (Application cons_name None (more (Variable x_name (at 2 3)) (more (Application nil_name None none (at 1 4)) none)) (at 1 4))
    (more (Application b_name (Some a_name) none (at 4 7)) none)) (at 0 7) ∷ [])
unfolding reading operators
quantifier_spanned = refl
