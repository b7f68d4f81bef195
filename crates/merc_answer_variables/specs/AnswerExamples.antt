-- The answer variables of a few goals, over the variables X, Y and Z and the predicates p, q and r, whose names have numbers behind those of the constants.
use Rattle.std.specs.Prelude.{◌≡◌, ℕ, true, false, List, [], ◌∷◌, Some, None, codes, refl}
use Rattle.merc_base.specs.Names.{ampersand_name, comma_name, cons_name, else_name, equal_name, if_name, less_name, nil_name, not_equal_name, not_name, semicolon_name, some_name, then_name, true_name}
use Rattle.merc_tree.specs.Term.{Term, Variable, Application, none, more, no_span}
use Rattle.merc_goals.specs.Written.{written}
use Rattle.merc_scopes.specs.declared.occurrence.Occurrence.{Occurrence}
use Rattle.merc_scopes.specs.Scopes.{occurrence}
use Rattle.merc_answer_variables.specs.AnswerVariables.{answer_variables, underscore}
use Rattle.merc_answer_variables.specs.Statuses.{Status, bound, decided, hidden, joined, place_among, unseen}
use Rattle.merc_answer_variables.specs.Reading.{chosen}

abbrev x_name : ℕ
x_name = 100

abbrev y_name : ℕ
y_name = 101

abbrev z_name : ℕ
z_name = 102

abbrev p_name : ℕ
p_name = 200

abbrev q_name : ℕ
q_name = 201

abbrev r_name : ℕ
r_name = 202

abbrev x : Term
x = Variable x_name no_span

abbrev y : Term
y = Variable y_name no_span

abbrev z : Term
z = Variable z_name no_span

abbrev nullary : ℕ → Term
nullary name = Application name None none no_span

abbrev unary : ℕ → Term → Term
unary name only = Application name None (more only none) no_span

abbrev binary : ℕ → Term → Term → Term
binary name left right = Application name None (more left (more right none)) no_span

abbrev if_then_else : Term → Term → Term → Term
if_then_else condition then_part else_part = binary else_name (unary if_name (binary then_name condition then_part)) else_part

-- `some [X] G`
abbrev some_x : Term → Term
some_x goal = binary some_name (binary cons_name x (nullary nil_name)) goal

abbrev answers_of : Term → List Occurrence
answers_of term = answer_variables [] (written 0 term)

-- `p(Y, X), q(X, Z)`: each once, in the order in which they first occur
in_order : answers_of (binary comma_name (binary p_name y x) (binary q_name x z)) ≡ occurrence y_name 4 ∷ occurrence x_name 6 ∷ occurrence z_name 12 ∷ []
in_order = refl

-- `X = Y` and `X < Y`
equation : answers_of (binary equal_name x y) ≡ occurrence x_name 2 ∷ occurrence y_name 4 ∷ []
equation = refl

comparison : answers_of (binary less_name x y) ≡ occurrence x_name 2 ∷ occurrence y_name 4 ∷ []
comparison = refl

-- `p(X) ; q(Y)` and `p(X) & q(Y)`
disjunction : answers_of (binary semicolon_name (unary p_name x) (unary q_name y)) ≡ occurrence x_name 4 ∷ occurrence y_name 8 ∷ []
disjunction = refl

parallel : answers_of (binary ampersand_name (unary p_name x) (unary q_name y)) ≡ occurrence x_name 4 ∷ occurrence y_name 8 ∷ []
parallel = refl

-- `not p(X), q(Y)`: Y alone
negated : answers_of (binary comma_name (unary not_name (unary p_name x)) (unary q_name y)) ≡ occurrence y_name 10 ∷ []
negated = refl

-- `not p(X), q(X)`: X, which also occurs outside the negation
negated_in_part : answers_of (binary comma_name (unary not_name (unary p_name x)) (unary q_name x)) ≡ occurrence x_name 6 ∷ []
negated_in_part = refl

-- `not p(X), not q(X)`: X, which does not occur in one negation alone
negated_twice : answers_of (binary comma_name (unary not_name (unary p_name x)) (unary not_name (unary q_name x))) ≡ occurrence x_name 6 ∷ []
negated_twice = refl

-- `not not p(X)`: none
double_negation : answers_of (unary not_name (unary not_name (unary p_name x))) ≡ []
double_negation = refl

-- `X \= Y`: none
unequal : answers_of (binary not_equal_name x y) ≡ []
unequal = refl

-- `if p(X) then q(Y) else true`: Y alone
conditional : answers_of (if_then_else (unary p_name x) (unary q_name y) (nullary true_name)) ≡ occurrence y_name 12 ∷ []
conditional = refl

-- `if p(X) then q(X) else r(Y)`: Y alone
conditional_both : answers_of (if_then_else (unary p_name x) (unary q_name x) (unary r_name y)) ≡ occurrence y_name 16 ∷ []
conditional_both = refl

-- `if p(X) then q(Y) else r(X)`: X occurs in the else part too
in_both : answers_of (if_then_else (unary p_name x) (unary q_name y) (unary r_name x)) ≡ occurrence x_name 8 ∷ occurrence y_name 12 ∷ []
in_both = refl

in_both_hidden : answers_of (if_then_else (unary p_name x) (unary q_name x) (unary r_name x)) ≡ [] → ⊥
in_both_hidden wrong = cc

-- `if p(Y) then q(X) else r(X)`: X does not occur in the condition
in_parts : answers_of (if_then_else (unary p_name y) (unary q_name x) (unary r_name x)) ≡ occurrence x_name 12 ∷ []
in_parts = refl

-- `if p(X) then true else true, q(X)`: X occurs outside the if-then-else too
beside_conditional : answers_of (binary comma_name (if_then_else (unary p_name x) (nullary true_name) (nullary true_name)) (unary q_name x)) ≡ occurrence x_name 10 ∷ []
beside_conditional = refl

-- `some [X] p(X, Y)`: Y alone
quantified : answers_of (some_x (binary p_name x y)) ≡ occurrence y_name 12 ∷ []
quantified = refl

-- `some [X] p(X), q(X)`: X, where it stands outside the quantifier
quantified_in_part : answers_of (binary comma_name (some_x (unary p_name x)) (unary q_name x)) ≡ occurrence x_name 16 ∷ []
quantified_in_part = refl

-- `not p(X), some [X] q(X)`: none, since the X of the quantifier is another
quantified_beside : answers_of (binary comma_name (unary not_name (unary p_name x)) (some_x (unary q_name x))) ≡ []
quantified_beside = refl

-- `q(X), some [X] not p(X)`: X, since the one in the negation is another
quantified_negation : answers_of (binary comma_name (unary q_name x) (some_x (unary not_name (unary p_name x)))) ≡ occurrence x_name 4 ∷ []
quantified_negation = refl

-- `if some [X] p(X) then q(X) else true`: X of the then part, since the one in the condition is another
quantified_condition : answers_of (if_then_else (some_x (unary p_name x)) (unary q_name x) (nullary true_name)) ≡ occurrence x_name 20 ∷ []
quantified_condition = refl

-- `p(X) & not q(Y)` and `p(X) ; not q(Y)`: X alone
negated_beside : answers_of (binary ampersand_name (unary p_name x) (unary not_name (unary q_name y))) ≡ occurrence x_name 4 ∷ []
negated_beside = refl

negated_disjunct : answers_of (binary semicolon_name (unary p_name x) (unary not_name (unary q_name y))) ≡ occurrence x_name 4 ∷ []
negated_disjunct = refl

-- `if not p(X) then true else true`, and the negation in the then part and in the else part: none
negated_condition : answers_of (if_then_else (unary not_name (unary p_name x)) (nullary true_name) (nullary true_name)) ≡ []
negated_condition = refl

negated_then : answers_of (if_then_else (nullary true_name) (unary not_name (unary p_name x)) (nullary true_name)) ≡ []
negated_then = refl

negated_else : answers_of (if_then_else (nullary true_name) (nullary true_name) (unary not_name (unary p_name x))) ≡ []
negated_else = refl

-- `some [X] not p(Y)`: none
negated_quantified : answers_of (some_x (unary not_name (unary p_name y))) ≡ []
negated_quantified = refl

-- Variables with the names `X`, `_X` and `_`: `p(X, _X), q(_, X)`

underscore_code : underscore ∷ [] ≡ codes "_"
underscore_code = refl

abbrev texts : List (List ℕ)
texts = codes "X" ∷ codes "_X" ∷ codes "_" ∷ []

abbrev texted : ℕ → Term
texted number = Variable number no_span

underscores : answer_variables texts (written 0 (binary comma_name (binary p_name (texted 0) (texted 1)) (binary q_name (texted 2) (texted 0)))) ≡ occurrence 0 4 ∷ []
underscores = refl

-- `p(X_)`: a `_` behind the first letter hides nothing
later_underscore : answer_variables (codes "X_" ∷ []) (written 0 (unary p_name (texted 0))) ≡ occurrence 0 2 ∷ []
later_underscore = refl

-- `not (p(X), q(X))`: none, and `p(X), q(Y), not r(Z)`: X and Y
negated_both : answers_of (unary not_name (binary comma_name (unary p_name x) (unary q_name x))) ≡ []
negated_both = refl

negated_third : answers_of (binary comma_name (unary p_name x) (binary comma_name (unary q_name y) (unary not_name (unary r_name z)))) ≡ occurrence x_name 4 ∷ occurrence y_name 10 ∷ []
negated_third = refl

-- `q(X), some [Y, X] not p(X)`: X, since the one in the negation is another, as each variable of the quantifier is
quantified_second : answers_of (binary comma_name (unary q_name x) (binary some_name (binary cons_name y (binary cons_name x (nullary nil_name))) (unary not_name (unary p_name x)))) ≡ occurrence x_name 4 ∷ []
quantified_second = refl

-- What is known of a variable that stands before so many others, and is an answer variable of its goal

abbrev shown_at : ℕ → Status
shown_at place = record { place = Some place; shown = true }

-- in two goals beside each other, also where each hides it: `not p(X), not q(X)`
joined-hidden : joined (hidden (shown_at 5)) (hidden (shown_at 2)) ≡ shown_at 5
joined-hidden = refl

joined-once : joined unseen (hidden (shown_at 2)) ≡ record { place = Some 2; shown = false }
joined-once = refl

-- in the condition and the then part of an if-then-else, in the condition and the else part, and in the then part alone
decided-then : decided (shown_at 5) (shown_at 2) unseen ≡ record { place = Some 5; shown = false }
decided-then = refl

decided-else : decided (shown_at 5) unseen (shown_at 2) ≡ shown_at 5
decided-else = refl

decided-behind : decided unseen (shown_at 2) unseen ≡ shown_at 2
decided-behind = refl

bound-own : bound (y_name ∷ x_name ∷ []) x_name (shown_at 2) ≡ unseen
bound-own = refl

bound-other : bound (y_name ∷ []) x_name (shown_at 2) ≡ shown_at 2
bound-other = refl

-- the first of two, with one behind it and one behind both
place_among-first : place_among x_name (occurrence y_name 0 ∷ occurrence x_name 2 ∷ occurrence x_name 4 ∷ []) (occurrence z_name 6 ∷ []) ≡ Some 2
place_among-first = refl

-- the occurrence is taken that stands before so many others, if it is shown
chosen-first : chosen [] (λ name. shown_at 1) (occurrence x_name 0 ∷ occurrence x_name 2 ∷ occurrence x_name 4 ∷ []) ≡ occurrence x_name 2 ∷ []
chosen-first = refl

chosen-hidden : chosen [] (λ name. hidden (shown_at 1)) (occurrence x_name 0 ∷ occurrence x_name 2 ∷ []) ≡ []
chosen-hidden = refl
