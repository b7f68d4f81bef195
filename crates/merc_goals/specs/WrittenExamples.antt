-- Worked examples of terms as goals, which the prover computes, and false statements that it refutes.
use Rattle.std.specs.Prelude.{◌≡◌, ◌≤◌, ℕ, ◌+◌, [], ◌∷◌, length, map, replicate, Some, None, pos, refl}
use Rattle.std.proofs.Common.{lit≤, arith}
use Rattle.merc_base.specs.Names.{all_name, ampersand_name, arrow_name, at_least_name, at_most_name, colon_colon_name, comma_name, cons_name, else_name, equal_equal_name, equal_name, equivalent_name, fail_name, false_name, greater_name, if_name, implies_name, is_name, less_name, nil_name, not_equal_name, not_name, not_provable_name, semicolon_name, some_name, then_name, true_name}
use Rattle.merc_base.specs.declared.place.Span.{Span}
use Rattle.merc_base.specs.declared.refusal.Rule.TheVariants.{WrongForm as WrongFormRule, OutsideProfile as OutsideProfileRule}
use Rattle.merc_base.specs.declared.refusal.Construct.TheVariants.{Goal}
use Rattle.merc_base.specs.declared.refusal.Detail.TheVariants.{Plain, Word}
use Rattle.merc_tree.specs.Term.{Term, Variable, Integer, Text, Application, none, more}
use Rattle.merc_goals.specs.Written.{Written, WrittenGoals, no_goals, more_goals, Truth, Failure, Equal, Compared, Called, Conjunction, Parallel, Disjunction, Conditional, Negated, Quantified, WrongForm, OutsideProfile, parts, listed_variables, written, written_span}
use Rattle.merc_goals.specs.Entries.{entries_of, written_of}
use Rattle.merc_goals.specs.Found.{wrong_spans, outside_spans, widest_of}
use Rattle.merc_goals.specs.Links.{chain}
use Rattle.merc_goals.specs.Numbers.{NumberedTerm, Fits, number_limit, first_limit, clause_limit, left_of, right_of, numbered_from}
use Rattle.merc_goals.specs.declared.roles.ChainKind.TheVariants.{Conjuncts, Disjuncts}
use Rattle.merc_goals.specs.Faults.{wrong_forms, outside_forms, first_span, wrong_form, outside_profile, first_fault, widest_parallel}
use Rattle.merc_goals.specs.declared.goal.Form.TheVariants.{Conjunction as ConjunctionForm, Called as CalledForm}

-- Terms stand at one span. The names have numbers behind those of the constants.

abbrev a_name : ℕ
a_name = 111

abbrev b_name : ℕ
b_name = 112

abbrev c_name : ℕ
c_name = 113

abbrev x_name : ℕ
x_name = 115

abbrev y_name : ℕ
y_name = 116

abbrev m_name : ℕ
m_name = 117

abbrev here : Span
here = record { first = 3; past = 4; line = 1 }

abbrev there : Span
there = record { first = 8; past = 9; line = 2 }

abbrev plain : ℕ → Term
plain name = Application name None none here

abbrev one : ℕ → Term → Term
one name only = Application name None (more only none) here

abbrev two : ℕ → Term → Term → Term
two name left right = Application name None (more left (more right none)) here

abbrev a : Term
a = plain a_name

abbrev b : Term
b = plain b_name

abbrev c : Term
c = plain c_name

abbrev x : Term
x = Variable x_name here

abbrev y : Term
y = Variable y_name here

abbrev call : ℕ → ℕ → Written
call at name = Called at name None none here

abbrev goals : Written → Written → WrittenGoals
goals first second = more_goals first (more_goals second no_goals)

abbrev three : Written → Written → Written → WrittenGoals
three first second third = more_goals first (goals second third)

-- how many numbers a term and its parts have

pub parts-example : parts (two comma_name a b) ≡ 6
parts-example = refl

pub parts-not : parts (two comma_name a b) ≡ 3 → ⊥
parts-not same = cc

-- variables and literals have two as well, and so has a name without arguments
pub parts-each : map parts (x ∷ Integer (pos 3) here ∷ Text a_name here ∷ a ∷ one a_name x ∷ []) ≡ 2 ∷ 2 ∷ 2 ∷ 2 ∷ 4 ∷ []
parts-each = refl

abbrev numbered : ℕ → Term → NumberedTerm
numbered at term = record { term = term; at = at }

-- terms one behind the other, each behind all the parts of the one before, and both arguments of a term
pub numbered_from-example : numbered_from 4 (two comma_name a b ∷ x ∷ a ∷ []) ≡ numbered 4 (two comma_name a b) ∷ numbered 10 x ∷ numbered 12 a ∷ []
numbered_from-example = refl

pub left_of-example : left_of 4 x ≡ numbered 6 x
left_of-example = refl

pub right_of-example : right_of 4 (two comma_name a b) x ≡ numbered 12 x
right_of-example = refl

pub number_limits-example : number_limit ∷ first_limit ∷ clause_limit ∷ [] ≡ 4611686018427387904 ∷ 2305843009213693952 ∷ 1152921504606846976 ∷ []
number_limits-example = refl

-- the numbers of a term may come up to the limit
pub Fits-example : Fits 4611686018427387898 (two comma_name a b)
Fits-example = lit≤ tt

pub Fits-counterexample : Fits 4611686018427387899 (two comma_name a b) → ⊥
Fits-counterexample fits = let within : 4611686018427387905 ≤ 4611686018427387904 = fits in omega (arith, within)

-- one goal of each form

pub truth-example : written 0 (plain true_name) ≡ Truth here
truth-example = refl

pub failure-example : written 0 (plain false_name) ≡ Failure here
failure-example = refl

pub fail-example : written 0 (plain fail_name) ≡ Failure here
fail-example = refl

-- `a`, and `true(a)`, which is called
pub name-example : written 4 a ≡ call 4 a_name
name-example = refl

pub truth-called : written 4 (one true_name a) ≡ Called 4 true_name None (more a none) here
truth-called = refl

-- `X = Y`
pub equal-example : written 4 (two equal_name x y) ≡ Equal 4 x y here
equal-example = refl

-- `X < Y`
pub compared-example : written 4 (two less_name x y) ≡ Compared 4 less_name x y here
compared-example = refl

-- `X > Y`, `X =< Y` and `X >= Y`
pub greater-example : written 4 (two greater_name x y) ≡ Compared 4 greater_name x y here
greater-example = refl

pub at_most-example : written 4 (two at_most_name x y) ≡ Compared 4 at_most_name x y here
at_most-example = refl

pub at_least-example : written 4 (two at_least_name x y) ≡ Compared 4 at_least_name x y here
at_least-example = refl

-- `<(X)`, with one argument, is called
pub compared-called : written 4 (one less_name x) ≡ Called 4 less_name None (more x none) here
compared-called = refl

-- `a(X)`
pub called-example : written 4 (one a_name x) ≡ Called 4 a_name None (more x none) here
called-example = refl

-- `a, b`
pub conjunction-example : written 0 (two comma_name a b) ≡ Conjunction (goals (call 2 a_name) (call 4 b_name)) here
conjunction-example = refl

-- `a & b`
pub parallel-example : written 0 (two ampersand_name a b) ≡ Parallel (goals (call 2 a_name) (call 4 b_name)) here
parallel-example = refl

-- `a ; b`
pub disjunction-example : written 0 (two semicolon_name a b) ≡ Disjunction (goals (call 2 a_name) (call 4 b_name)) here
disjunction-example = refl

-- `if a then b else c`
pub conditional-example : written 0 (two else_name (one if_name (two then_name a b)) c) ≡ Conditional (call 6 a_name) (call 8 b_name) (call 10 c_name) here
conditional-example = refl

-- `a -> b ; c`
pub arrow-example : written 0 (two semicolon_name (two arrow_name a b) c) ≡ Conditional (call 4 a_name) (call 6 b_name) (call 8 c_name) here
arrow-example = refl

-- `a -> b ; c ; a`: all that follows is the else part
pub arrow-rest : written 0 (two semicolon_name (two arrow_name a b) (two semicolon_name c a))
    ≡ Conditional (call 4 a_name) (call 6 b_name) (Disjunction (goals (call 10 c_name) (call 12 a_name)) here) here
arrow-rest = refl

-- `\+ a`
pub negated-example : written 0 (one not_provable_name a) ≡ Negated (call 2 a_name) here
negated-example = refl

-- `not a`
pub not-example : written 0 (one not_name a) ≡ Negated (call 2 a_name) here
not-example = refl

-- `X \= Y`
pub unequal-example : written 4 (two not_equal_name x y) ≡ Negated (Equal 4 x y here) here
unequal-example = refl

-- `[X, Y]`
abbrev x_and_y : Term
x_and_y = two cons_name x (two cons_name y (plain nil_name))

-- `some [X, Y] a`
pub some-example : written 0 (two some_name x_and_y a) ≡ Quantified (x_name ∷ y_name ∷ []) (call 12 a_name) here
some-example = refl

-- `all [X, Y] a`
pub all-example : written 0 (two all_name x_and_y a) ≡ Negated (Quantified (x_name ∷ y_name ∷ []) (Negated (call 12 a_name) here) here) here
all-example = refl

-- the place of the goals that stand for one

abbrev apart : ℕ → Span
apart first = record { first = first; past = first + 1; line = 1 }

abbrev a_at : ℕ → Term
a_at first = Application a_name None none (apart first)

-- `all [X] a`: each of its goals stands where the `all` does, and `a` at its own place
pub all-places : written 0 (Application all_name None (more (two cons_name x (plain nil_name)) (more (a_at 9) none)) (apart 2))
    ≡ Negated (Quantified (x_name ∷ []) (Negated (Called 8 a_name None none (apart 9)) (apart 2)) (apart 2)) (apart 2)
all-places = refl

-- `X \= Y`: both of its goals stand where the whole does
pub unequal-places : written 4 (Application not_equal_name None (more x (more y none)) (apart 2)) ≡ Negated (Equal 4 x y (apart 2)) (apart 2)
unequal-places = refl

-- `a, a`: each conjunct stands at its own place
pub conjunction-places : written 0 (Application comma_name None (more (a_at 2) (more (a_at 5) none)) (apart 2))
    ≡ Conjunction (goals (Called 2 a_name None none (apart 2)) (Called 4 a_name None none (apart 5))) (apart 2)
conjunction-places = refl

-- chains

-- `(a, b), c`
pub chain-left : written 0 (two comma_name (two comma_name a b) c) ≡ Conjunction (three (call 4 a_name) (call 6 b_name) (call 8 c_name)) here
chain-left = refl

-- `a, (b, c)`
pub chain-right : written 0 (two comma_name a (two comma_name b c)) ≡ Conjunction (three (call 2 a_name) (call 6 b_name) (call 8 c_name)) here
chain-right = refl

-- `(a & b) & c` and `a & (b & c)`
pub chain-parallel_left : written 0 (two ampersand_name (two ampersand_name a b) c) ≡ Parallel (three (call 4 a_name) (call 6 b_name) (call 8 c_name)) here
chain-parallel_left = refl

pub chain-parallel_right : written 0 (two ampersand_name a (two ampersand_name b c)) ≡ Parallel (three (call 2 a_name) (call 6 b_name) (call 8 c_name)) here
chain-parallel_right = refl

-- `(a ; b) ; c` and `a ; (b ; c)`
pub chain-disjunction_left : written 0 (two semicolon_name (two semicolon_name a b) c) ≡ Disjunction (three (call 4 a_name) (call 6 b_name) (call 8 c_name)) here
chain-disjunction_left = refl

pub chain-disjunction_right : written 0 (two semicolon_name a (two semicolon_name b c)) ≡ Disjunction (three (call 2 a_name) (call 6 b_name) (call 8 c_name)) here
chain-disjunction_right = refl

-- `(a -> b ; c) ; a`: an if-then-else is one disjunct
pub chain-begin : written 0 (two semicolon_name (two semicolon_name (two arrow_name a b) c) a) ≡ Disjunction (goals (Conditional (call 6 a_name) (call 8 b_name) (call 10 c_name) here) (call 12 a_name)) here
chain-begin = refl

-- another operator is no link
pub chain-mixed : written 0 (two comma_name (two ampersand_name a b) c) ≡ Conjunction (goals (Parallel (goals (call 4 a_name) (call 6 b_name)) here) (call 8 c_name)) here
chain-mixed = refl

-- `a ; (b -> c ; a)` ends with the conditional
pub chain-end : written 0 (two semicolon_name a (two semicolon_name (two arrow_name b c) a)) ≡ Disjunction (goals (call 2 a_name) (Conditional (call 8 b_name) (call 10 c_name) (call 12 a_name) here)) here
chain-end = refl

pub chain-not : written 0 (two comma_name (two comma_name a b) c) ≡ Conjunction (goals (Conjunction (goals (call 4 a_name) (call 6 b_name)) here) (call 8 c_name)) here → ⊥
chain-not nested = cc

-- `m.(a, b)`: with a qualifier even `,` is called
pub qualifier-example : written 4 (Application comma_name (Some m_name) (more a (more b none)) here) ≡ Called 4 comma_name (Some m_name) (more a (more b none)) here
qualifier-example = refl

-- and `m.true` and `m.not(a)`
pub qualifier-truth : written 4 (Application true_name (Some m_name) none here) ≡ Called 4 true_name (Some m_name) none here
qualifier-truth = refl

pub qualifier-not : written 4 (Application not_name (Some m_name) (more a none) here) ≡ Called 4 not_name (Some m_name) (more a none) here
qualifier-not = refl

-- `','(a, b, c)` and `not(a, b)`: with another number of arguments too
pub three-called : written 4 (Application comma_name None (more a (more b (more c none))) here) ≡ Called 4 comma_name None (more a (more b (more c none))) here
three-called = refl

pub not-called : written 4 (two not_name a b) ≡ Called 4 not_name None (more a (more b none)) here
not-called = refl

-- each goal stands at its own span
pub written_span-example : map written_span (Truth there ∷ Failure there ∷ Equal 0 x y there ∷ Compared 0 less_name x y there ∷ Called 0 a_name None none there
    ∷ Conjunction no_goals there ∷ Parallel no_goals there ∷ Disjunction no_goals there ∷ Conditional (Truth here) (Truth here) (Truth here) there ∷ Negated (Truth here) there
    ∷ Quantified [] (Truth here) there ∷ WrongForm there ∷ OutsideProfile there ∷ [])
    ≡ replicate 13 there
written_span-example = refl

-- the members of a chain with their numbers: `(a, b), c`, and `a ; (b -> c ; a)`, which ends with the conditional
pub chain-example : chain Conjuncts 0 (two comma_name (two comma_name a b) c) ≡ numbered 4 a ∷ numbered 6 b ∷ numbered 8 c ∷ []
chain-example = refl

pub chain-disjuncts : chain Disjuncts 0 (two semicolon_name a (two semicolon_name (two arrow_name b c) a)) ≡ numbered 2 a ∷ numbered 4 (two semicolon_name (two arrow_name b c) a) ∷ []
chain-disjuncts = refl

-- no goals of a known form

-- `if a then b`
pub if-alone : written 0 (one if_name (two then_name a b)) ≡ WrongForm here
if-alone = refl

-- `a else b`
pub else-alone : written 0 (two else_name a b) ≡ WrongForm here
else-alone = refl

-- `if a else b`
pub else-without_then : written 0 (two else_name (one if_name a) b) ≡ WrongForm here
else-without_then = refl

-- `a then b`
pub then-alone : written 0 (two then_name a b) ≡ WrongForm here
then-alone = refl

-- `a -> b`
pub arrow-alone : written 0 (two arrow_name a b) ≡ WrongForm here
arrow-alone = refl

-- `3`
pub integer-goal : written 0 (Integer (pos 3) here) ≡ WrongForm here
integer-goal = refl

-- `"a"`
pub text-goal : written 0 (Text a_name here) ≡ WrongForm here
text-goal = refl

-- `some X a`
pub some-no_list : written 0 (two some_name x a) ≡ WrongForm here
some-no_list = refl

-- `some [X | Y] a`
pub some-open_list : written 0 (two some_name (two cons_name x y) a) ≡ WrongForm here
some-open_list = refl

-- `all [a] b`
pub all-no_variables : written 0 (two all_name (two cons_name a (plain nil_name)) b) ≡ WrongForm here
all-no_variables = refl

-- outside the profile

-- `X`
pub variable-goal : written 0 x ≡ OutsideProfile here
variable-goal = refl

-- `X is Y`
pub is-goal : written 0 (two is_name x y) ≡ OutsideProfile here
is-goal = refl

-- `a => b`
pub implies-goal : written 0 (two implies_name a b) ≡ OutsideProfile here
implies-goal = refl

-- `a <=> b`
pub equivalent-goal : written 0 (two equivalent_name a b) ≡ OutsideProfile here
equivalent-goal = refl

-- `X :: Y`
pub annotated-goal : written 0 (two colon_colon_name x y) ≡ OutsideProfile here
annotated-goal = refl

-- `X == Y`
pub identical-goal : written 0 (two equal_equal_name x y) ≡ OutsideProfile here
identical-goal = refl

pub variable-not : written 0 x ≡ Called 0 x_name None none here → ⊥
variable-not called = cc

pub listed_variables-example : listed_variables x_and_y ≡ Some (x_name ∷ y_name ∷ [])
listed_variables-example = refl

pub listed_variables-none : listed_variables (two cons_name x a) ≡ None
listed_variables-none = refl

-- `[]`, and what is built of a variable and `[]` by another name
pub listed_variables-empty : listed_variables (plain nil_name) ≡ Some []
listed_variables-empty = refl

pub listed_variables-other : listed_variables (two comma_name x (plain nil_name)) ≡ None
listed_variables-other = refl

-- `a, b` lies in three entries, of which the first counts all

pub entries-example : entries_of (written 0 (two comma_name a b))
    ≡ record { form = ConjunctionForm 2; at = 0; span = here; size = 3 }
    ∷ record { form = CalledForm a; at = 2; span = here; size = 1 }
    ∷ record { form = CalledForm b; at = 4; span = here; size = 1 } ∷ []
entries-example = refl

pub entries-back : written_of (entries_of (written 0 (two comma_name (one not_name a) b))) ≡ written 0 (two comma_name (one not_name a) b)
entries-back = refl

pub entries-not : length (entries_of (written 0 (two not_equal_name x y))) ≡ 1 → ⊥
entries-not same = cc

-- faults

-- `X, 3`, where the integer stands earlier
abbrev faulty : Written
faulty = Conjunction (goals (OutsideProfile there) (WrongForm here)) here

pub wrong_forms-example : wrong_forms faulty ≡ here ∷ []
wrong_forms-example = refl

pub outside_forms-example : outside_forms faulty ≡ there ∷ []
outside_forms-example = refl

-- in each kind of goal

abbrev wrong_at : ℕ → Written
wrong_at first = WrongForm (apart first)

abbrev outside_at : ℕ → Written
outside_at first = OutsideProfile (apart first)

pub wrong_forms-parallel : wrong_forms (Parallel (goals (wrong_at 1) (wrong_at 2)) here) ≡ apart 1 ∷ apart 2 ∷ []
wrong_forms-parallel = refl

pub wrong_forms-disjunction : wrong_forms (Disjunction (goals (wrong_at 1) (wrong_at 2)) here) ≡ apart 1 ∷ apart 2 ∷ []
wrong_forms-disjunction = refl

pub wrong_forms-conditional : wrong_forms (Conditional (wrong_at 1) (wrong_at 2) (wrong_at 3) here) ≡ apart 1 ∷ apart 2 ∷ apart 3 ∷ []
wrong_forms-conditional = refl

pub wrong_forms-negated : wrong_forms (Negated (wrong_at 1) here) ≡ apart 1 ∷ []
wrong_forms-negated = refl

pub wrong_forms-quantified : wrong_forms (Quantified (x_name ∷ []) (wrong_at 1) here) ≡ apart 1 ∷ []
wrong_forms-quantified = refl

pub outside_forms-parallel : outside_forms (Parallel (goals (outside_at 1) (outside_at 2)) here) ≡ apart 1 ∷ apart 2 ∷ []
outside_forms-parallel = refl

pub outside_forms-disjunction : outside_forms (Disjunction (goals (outside_at 1) (outside_at 2)) here) ≡ apart 1 ∷ apart 2 ∷ []
outside_forms-disjunction = refl

pub outside_forms-conditional : outside_forms (Conditional (outside_at 1) (outside_at 2) (outside_at 3) here) ≡ apart 1 ∷ apart 2 ∷ apart 3 ∷ []
outside_forms-conditional = refl

pub outside_forms-negated : outside_forms (Negated (outside_at 1) here) ≡ apart 1 ∷ []
outside_forms-negated = refl

pub outside_forms-quantified : outside_forms (Quantified (x_name ∷ []) (outside_at 1) here) ≡ apart 1 ∷ []
outside_forms-quantified = refl

-- the same in the entries
abbrev mixed : Written
mixed = Conjunction (three (wrong_at 1) (outside_at 2) (Parallel (three (wrong_at 3) (outside_at 4) (wrong_at 5)) here)) here

pub wrong_spans-example : wrong_spans (entries_of mixed) ≡ apart 1 ∷ apart 3 ∷ apart 5 ∷ []
wrong_spans-example = refl

pub outside_spans-example : outside_spans (entries_of mixed) ≡ apart 2 ∷ apart 4 ∷ []
outside_spans-example = refl

-- three conjuncts of a conjunction do not count
pub widest_of-example : widest_of (entries_of (Conjunction (three (wrong_at 1) (wrong_at 2) (Parallel (goals (wrong_at 3) (wrong_at 4)) here)) here)) ≡ 2
widest_of-example = refl

-- the earliest, wherever it stands in the list
pub first_span-first : first_span (here ∷ there ∷ []) ≡ Some here
first_span-first = refl

pub first_span-between : first_span (apart 2 ∷ apart 1 ∷ apart 3 ∷ []) ≡ Some (apart 1)
first_span-between = refl

pub first_span-example : first_span (there ∷ here ∷ []) ≡ Some here
first_span-example = refl

pub first_span-not : first_span (there ∷ here ∷ []) ≡ Some there → ⊥
first_span-not leftmost = cc

-- rule 3, and rule 15 with its word, at a part's first byte and its line
pub wrong_form-example : wrong_form there ≡ record { rule = WrongFormRule; place = record { byte = 8; line = 2 }; detail = Plain }
wrong_form-example = refl

pub outside_profile-example : outside_profile there ≡ record { rule = OutsideProfileRule; place = record { byte = 8; line = 2 }; detail = Word Goal }
outside_profile-example = refl

-- one of them alone
pub first_fault-wrong : first_fault (WrongForm there) ≡ Some (wrong_form there)
first_fault-wrong = refl

pub first_fault-outside : first_fault (OutsideProfile there) ≡ Some (outside_profile there)
first_fault-outside = refl

pub first_fault-example : first_fault faulty ≡ Some (wrong_form here)
first_fault-example = refl

-- at one byte the wrong form is first
pub first_fault-same_byte : first_fault (Conjunction (goals (OutsideProfile here) (WrongForm here)) here) ≡ Some (wrong_form here)
first_fault-same_byte = refl

pub first_fault-earlier : first_fault (Conjunction (goals (OutsideProfile here) (WrongForm there)) here) ≡ Some (outside_profile here)
first_fault-earlier = refl

pub first_fault-none : first_fault (written 0 (two comma_name a b)) ≡ None
first_fault-none = refl

pub first_fault-not : first_fault faulty ≡ None → ⊥
first_fault-not sound = cc

-- `(a & b & c), (a & b)`
pub widest_parallel-example : widest_parallel (written 0 (two comma_name (two ampersand_name a (two ampersand_name b c)) (two ampersand_name a b))) ≡ 3
widest_parallel-example = refl

pub widest_parallel-none : widest_parallel (written 0 (two comma_name a b)) ≡ 0
widest_parallel-none = refl

pub widest_parallel-not : widest_parallel (written 0 (two ampersand_name a (two ampersand_name b c))) ≡ 2 → ⊥
widest_parallel-not pairs = cc

-- two conjuncts, in each kind of goal

abbrev a_goal : Written
a_goal = call 2 a_name

abbrev wide : Written
wide = Parallel (goals (call 2 a_name) (call 4 b_name)) here

pub widest_parallel-disjunction : widest_parallel (Disjunction (goals a_goal wide) here) ≡ 2
widest_parallel-disjunction = refl

pub widest_parallel-condition : widest_parallel (Conditional wide a_goal a_goal here) ≡ 2
widest_parallel-condition = refl

pub widest_parallel-then : widest_parallel (Conditional a_goal wide a_goal here) ≡ 2
widest_parallel-then = refl

pub widest_parallel-else : widest_parallel (Conditional a_goal a_goal wide here) ≡ 2
widest_parallel-else = refl

pub widest_parallel-negated : widest_parallel (Negated wide here) ≡ 2
widest_parallel-negated = refl

pub widest_parallel-quantified : widest_parallel (Quantified (x_name ∷ []) wide here) ≡ 2
widest_parallel-quantified = refl

-- three conjuncts within two
pub widest_parallel-nested : widest_parallel (Parallel (goals (Negated (Parallel (three a_goal a_goal a_goal) here) here) a_goal) here) ≡ 3
widest_parallel-nested = refl
