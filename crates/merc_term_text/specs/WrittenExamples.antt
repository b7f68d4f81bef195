-- Worked examples of how terms are written, which the prover computes, and false statements that it refutes.
use Rattle.std.specs.Prelude.{◌≡◌, ℕ, pos, negsuc, List, [], ◌∷◌, ◌++◌, Some, None, map, codes, refl}
use Rattle.std.specs.Fmt.{digits}
use Rattle.merc_base.specs.Names.{fixed_names, arrow_name, colon_minus_name, comma_name, cons_name, else_name, equal_name, if_name, minus_name, mode_name, nil_name, not_name, semicolon_name, some_name, then_name, x_name}
use Rattle.merc_value.specs.Text.{word_operators}
use Rattle.merc_tree.specs.Term.{Term, Variable, Integer, Text, Application, none, more, no_span}
use Rattle.merc_terms.specs.Operators.{operators}
use Rattle.merc_term_text.specs.Written.{term_text}

-- the constants, and some names behind them
abbrev names : List (List ℕ)
names = fixed_names ++ (codes "a" ∷ codes "b" ∷ codes "c" ∷ codes "p" ∷ codes "Y" ∷ codes "Z" ∷ codes "two words" ∷ [])

abbrev a_name : ℕ
a_name = 98

abbrev b_name : ℕ
b_name = 99

abbrev c_name : ℕ
c_name = 100

abbrev p_name : ℕ
p_name = 101

abbrev y_name : ℕ
y_name = 102

abbrev z_name : ℕ
z_name = 103

abbrev two_words_name : ℕ
two_words_name = 104

abbrev atom : ℕ → Term
atom name = Application name None none no_span

abbrev one : ℕ → Term → Term
one name argument = Application name None (more argument none) no_span

abbrev two : ℕ → Term → Term → Term
two name left right = Application name None (more left (more right none)) no_span

abbrev a : Term
a = atom a_name

abbrev b : Term
b = atom b_name

abbrev c : Term
c = atom c_name

abbrev x : Term
x = Variable x_name no_span

abbrev y : Term
y = Variable y_name no_span

abbrev z : Term
z = Variable z_name no_span

abbrev int : ℕ → Term
int value = Integer (pos value) no_span

-- A clause binds looser than its body's commas. A second clause mark needs parentheses on both sides.

pub clause : term_text names (two colon_minus_name a (two comma_name b c)) ≡ codes "a :- b, c"
unfolding operators fixed_names word_operators
clause = refl

pub clause-left : term_text names (two colon_minus_name (two colon_minus_name a b) c) ≡ codes "(a :- b) :- c"
unfolding operators fixed_names word_operators
clause-left = refl

pub clause-not : term_text names (two colon_minus_name (two colon_minus_name a b) c) ≡ codes "a :- b :- c" → ⊥
unfolding operators fixed_names word_operators
clause-not bare = cc

-- Subtraction chains go on to the left.

pub minus-left : term_text names (two minus_name (two minus_name x y) z) ≡ codes "X - Y - Z"
unfolding operators fixed_names
minus-left = refl

pub minus-right : term_text names (two minus_name x (two minus_name y z)) ≡ codes "X - (Y - Z)"
unfolding operators fixed_names
minus-right = refl

pub minus-not : term_text names (two minus_name x (two minus_name y z)) ≡ term_text names (two minus_name (two minus_name x y) z) → ⊥
unfolding operators fixed_names
minus-not same = cc

-- A conjunction goes on to the right.

pub and-right : term_text names (two comma_name x (two comma_name y z)) ≡ codes "X, Y, Z"
unfolding operators fixed_names
and-right = refl

pub and-left : term_text names (two comma_name (two comma_name x y) z) ≡ codes "(X, Y), Z"
unfolding operators fixed_names
and-left = refl

-- A sign is part of a literal; before any other integer the operator's operand stands in parentheses.

pub negative : term_text names (Integer (negsuc 0) no_span) ≡ codes "-1"
unfolding operators fixed_names digits
negative = refl

pub negated-one : term_text names (one minus_name (int 1)) ≡ codes "- (1)"
unfolding operators fixed_names digits
negated-one = refl

pub negated-variable : term_text names (one minus_name x) ≡ codes "- X"
unfolding operators fixed_names
negated-variable = refl

pub negated-not : term_text names (one minus_name (int 1)) ≡ codes "- 1" → ⊥
unfolding operators fixed_names digits
negated-not bare = cc

pub negated-negative : term_text names (one minus_name (Integer (negsuc 0) no_span)) ≡ codes "- (-1)"
unfolding operators fixed_names digits
negated-negative = refl

-- The operand of `not` may be another `not`, that of `-` no other `-` and no sum.

pub not-twice : term_text names (one not_name (one not_name a)) ≡ codes "not not a"
unfolding operators fixed_names word_operators
not-twice = refl

pub minus-twice : term_text names (one minus_name (one minus_name x)) ≡ codes "- (- X)"
unfolding operators fixed_names
minus-twice = refl

pub minus-difference : term_text names (one minus_name (two minus_name x y)) ≡ codes "- (X - Y)"
unfolding operators fixed_names
minus-difference = refl

-- A text stands in double quotes.

pub text : term_text names (Text two_words_name no_span) ≡ codes "\"two words\""
unfolding fixed_names
text = refl

-- Lists, with and without a tail behind a bar.

pub list : term_text names (two cons_name (int 1) (two cons_name (int 2) (atom nil_name))) ≡ codes "[1, 2]"
unfolding operators fixed_names digits
list = refl

pub list-tail : term_text names (two cons_name (int 1) (two cons_name (int 2) x)) ≡ codes "[1, 2 | X]"
unfolding operators fixed_names digits
list-tail = refl

pub list-nil : term_text names (atom nil_name) ≡ codes "[]"
unfolding operators fixed_names
list-nil = refl

pub list-not : term_text names (two cons_name (int 1) x) ≡ codes "[1, X]" → ⊥
unfolding operators fixed_names digits
list-not no_bar = cc

-- A tail that is no list stands as an argument does, the empty list's name with a qualifier too.

abbrev with_tail : Term → List ℕ
with_tail tail = term_text names (two cons_name a tail)

pub list-tails : map with_tail (int 2 ∷ Text two_words_name no_span ∷ b ∷ one p_name b ∷ two minus_name x y ∷ one minus_name x ∷ [])
    ≡ codes "[a | 2]" ∷ codes "[a | \"two words\"]" ∷ codes "[a | b]" ∷ codes "[a | p(b)]" ∷ codes "[a | X - Y]" ∷ codes "[a | - X]" ∷ []
unfolding operators fixed_names word_operators digits
list-tails = refl

pub list-enclosed_tails : map with_tail (two comma_name b c ∷ two colon_minus_name b (two comma_name c a) ∷ two some_name x (two comma_name b c) ∷ Application nil_name (Some p_name) none no_span ∷ [])
    ≡ codes "[a | (b, c)]" ∷ codes "[a | (b :- c, a)]" ∷ codes "[a | some X (b, c)]" ∷ codes "[a | p.'[]']" ∷ []
unfolding operators fixed_names word_operators
list-enclosed_tails = refl

-- Names in quotes where they are not plain, as operators' names are where they stand alone.

pub quoted-name : term_text names (one two_words_name a) ≡ codes "'two words'(a)"
unfolding operators fixed_names word_operators
quoted-name = refl

pub operator-alone : term_text names (one p_name (atom minus_name)) ≡ codes "p('-')"
unfolding operators fixed_names word_operators
operator-alone = refl

pub operator-not : term_text names (one p_name (atom minus_name)) ≡ codes "p(-)" → ⊥
unfolding operators fixed_names word_operators
operator-not bare = cc

-- An operator's name with another number of arguments, or with a qualifier, is written as a plain name.

pub operator-three : term_text names (Application minus_name None (more x (more y (more z none))) no_span) ≡ codes "'-'(X, Y, Z)"
unfolding operators fixed_names word_operators
operator-three = refl

pub qualified : term_text names (Application minus_name (Some p_name) (more x (more y none)) no_span) ≡ codes "p.'-'(X, Y)"
unfolding operators fixed_names word_operators
qualified = refl

-- So is that of the empty list, and a quantifier's with one argument.
pub other-numbers : map (term_text names) (one equal_name x ∷ two not_name a b ∷ one some_name x ∷ one nil_name a ∷ one cons_name a ∷ [])
    ≡ codes "'='(X)" ∷ codes "'not'(a, b)" ∷ codes "'some'(X)" ∷ codes "'[]'(a)" ∷ codes "'[|]'(a)" ∷ []
unfolding operators fixed_names word_operators
other-numbers = refl

-- A quantifier before its variables and its goal.

pub some : term_text names (two some_name (two cons_name x (atom nil_name)) (one p_name x)) ≡ codes "some [X] (p(X))"
unfolding operators fixed_names word_operators
some = refl

pub some-not : term_text names (two some_name (two cons_name x (atom nil_name)) (one p_name x)) ≡ codes "some [X] p(X)" → ⊥
unfolding operators fixed_names word_operators
some-not bare = cc

-- Its goal has one pair of parentheses, be it a chain of commas and in an argument, and its variables have some where they are no list.
pub some-argument : term_text names (one p_name (two some_name (two minus_name x y) (two comma_name a b))) ≡ codes "p(some (X - Y) (a, b))"
unfolding operators fixed_names word_operators
some-argument = refl

-- If-then-else, in its two forms.

pub if_else : term_text names (two else_name (one if_name (two then_name a b)) c) ≡ codes "if a then b else c"
unfolding operators fixed_names word_operators
if_else = refl

pub arrow : term_text names (two semicolon_name (two arrow_name a b) c) ≡ codes "a -> b ; c"
unfolding operators fixed_names word_operators
arrow = refl

-- A chain of commas stands in parentheses as an argument and as a list item, also behind a looser operator's, and not inside parentheses.

pub comma-argument : term_text names (Application p_name None (more (two comma_name a b) (more c none)) no_span) ≡ codes "p((a, b), c)"
unfolding operators fixed_names word_operators
comma-argument = refl

pub comma-item : term_text names (two cons_name (two comma_name a b) (atom nil_name)) ≡ codes "[(a, b)]"
unfolding operators fixed_names word_operators
comma-item = refl

pub comma-chain : term_text names (one p_name (two comma_name a (two comma_name b c))) ≡ codes "p((a, b, c))"
unfolding operators fixed_names word_operators
comma-chain = refl

pub comma-clause : term_text names (one p_name (two colon_minus_name (two semicolon_name (two comma_name a b) c) a)) ≡ codes "p((a, b ; c :- a))"
unfolding operators fixed_names word_operators
comma-clause = refl

pub comma-operand : term_text names (one p_name (one mode_name (two comma_name a b))) ≡ codes "p(mode (a, b))"
unfolding operators fixed_names word_operators
comma-operand = refl

pub comma-inside : term_text names (one p_name (two semicolon_name (two comma_name a b) c)) ≡ codes "p((a, b) ; c)"
unfolding operators fixed_names word_operators
comma-inside = refl

pub comma-not : term_text names (one p_name (two comma_name a b)) ≡ codes "p(a, b)" → ⊥
unfolding operators fixed_names word_operators
comma-not bare = cc

-- A clause as an argument: only 1199 may stand there.

pub clause-argument : term_text names (one p_name (two colon_minus_name a b)) ≡ codes "p((a :- b))"
unfolding operators fixed_names word_operators
clause-argument = refl

pub declaration-argument : term_text names (one p_name (one mode_name a)) ≡ codes "p(mode a)"
unfolding operators fixed_names word_operators
declaration-argument = refl
