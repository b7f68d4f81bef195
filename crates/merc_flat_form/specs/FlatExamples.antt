-- What goals become in flat form.
use Rattle.std.specs.Prelude.{◌≡◌, refl, ℕ, ◌+◌, Bool, ◌==◌, List, [], ◌∷◌, Option, Some, None, pos, if◌then◌else◌}
use Rattle.merc_base.specs.Names.{all_name, ampersand_name, at_least_name, at_most_name, comma_name, cons_name, div_name, else_name, equal_name, error_name, fail_name, greater_name, if_name, less_name, minus_name, mod_name, nil_name, not_equal_name, not_name, plus_name, rem_name, semicolon_name, slash_slash_name, some_name, star_name, then_name, true_name}
use Rattle.merc_base.specs.declared.place.Span.{Span}
use Rattle.merc_tree.specs.Term.{Term, Terms, Variable, Integer, Text, Application, none, more, no_span}
use Rattle.merc_goals.specs.Written.{written}
use Rattle.merc_goal_tree.specs.Nodes.{Node, Simple, Conjunction, Parallel, Disjunction, Conditional, Negation, Quantified, nodes_of}
use Rattle.merc_goal_tree.specs.declared.goal.SimpleGoal.{SimpleGoal}
use Rattle.merc_goal_tree.specs.declared.goal.SimpleGoal.TheVariants.{True, Fail, Same, Shape, Arithmetic, Compare, Raise, Call}
use Rattle.merc_goal_tree.specs.declared.goal.Symbol.TheVariants.{Constructor, Integer as IntegerSymbol, Text as TextSymbol}
use Rattle.merc_goal_tree.specs.declared.goal.Operation.TheVariants.{Add, Subtract, Multiply, Quotient, Div, Mod, Rem}
use Rattle.merc_goal_tree.specs.declared.goal.Comparison.TheVariants.{Less, Greater, AtMost, AtLeast}
use Rattle.merc_name_resolution.specs.declared.callee.Callee.{Callee}
use Rattle.merc_name_resolution.specs.declared.callee.Callee.TheVariants.{Predicate, Error}
use Rattle.merc_flat_form.specs.FlatForm.{flat, clause_goal, operation_of, comparison_of}

-- the names, which have numbers behind those of the constants

abbrev blank_name : ℕ
blank_name = 99

abbrev x_name : ℕ
x_name = 100

abbrev y_name : ℕ
y_name = 101

abbrev z_name : ℕ
z_name = 102

abbrev p : ℕ
p = 200

abbrev q : ℕ
q = 201

abbrev r : ℕ
r = 202

abbrev f : ℕ
f = 203

abbrev g : ℕ
g = 204

abbrev m : ℕ
m = 205

abbrev is_blank_name : ℕ → Bool
is_blank_name name = name == blank_name

-- each call is of the predicate that has the number of its name, or of `error`
abbrev callee : ℕ → Option ℕ → ℕ → Callee
callee name qualifier arity = if name == error_name then Error else Predicate name

-- the variables X, Y and Z, `_`, and an integer
abbrev x : Term
x = Variable x_name no_span

abbrev y : Term
y = Variable y_name no_span

abbrev z : Term
z = Variable z_name no_span

abbrev blank : Term
blank = Variable blank_name no_span

abbrev one : Term
one = Integer (pos 1) no_span

abbrev nullary : ℕ → Term
nullary name = Application name None none no_span

abbrev unary : ℕ → Term → Term
unary name only = Application name None (more only none) no_span

abbrev binary : ℕ → Term → Term → Term
binary name left right = Application name None (more left (more right none)) no_span

abbrev if_then_else : Term → Term → Term → Term
if_then_else condition then_part else_part = binary else_name (unary if_name (binary then_name condition then_part)) else_part

abbrev list_x : Term
list_x = binary cons_name x (nullary nil_name)

abbrev simple_at : Span → List SimpleGoal → List Node
simple_at span [] = []
simple_at span (first ∷ rest) = Simple first span ∷ simple_at span rest

abbrev simple : List SimpleGoal → List Node
simple goals = simple_at no_span goals

abbrev flat_form : Term → List Node
flat_form term = flat is_blank_name callee [] (written 0 term)

-- the table of operations and that of comparisons

pub adds : operation_of plus_name ≡ Some Add
adds = refl

pub subtracts : operation_of minus_name ≡ Some Subtract
subtracts = refl

pub multiplies : operation_of star_name ≡ Some Multiply
multiplies = refl

pub divides : operation_of slash_slash_name ≡ Some Quotient
divides = refl

pub divides-down : operation_of div_name ≡ Some Div
divides-down = refl

pub leaves-modulus : operation_of mod_name ≡ Some Mod
leaves-modulus = refl

pub leaves-remainder : operation_of rem_name ≡ Some Rem
leaves-remainder = refl

pub no_operation : operation_of less_name ≡ None
no_operation = refl

pub is_less : comparison_of less_name ≡ Some Less
is_less = refl

pub is_greater : comparison_of greater_name ≡ Some Greater
is_greater = refl

pub is_at_most : comparison_of at_most_name ≡ Some AtMost
is_at_most = refl

pub is_at_least : comparison_of at_least_name ≡ Some AtLeast
is_at_least = refl

pub no_comparison : comparison_of equal_name ≡ None
no_comparison = refl

-- calls

-- `p` and `true` and `fail`
pub constant : flat_form (nullary p) ≡ simple (Call p [] ∷ [])
constant = refl

pub truth : flat_form (nullary true_name) ≡ simple (True ∷ [])
truth = refl

pub failure : flat_form (nullary fail_name) ≡ simple (Fail ∷ [])
failure = refl

-- `p(f(X), Y)`
pub argument : flat_form (binary p (unary f x) y) ≡ simple (Shape 2 (Constructor f 1) (4 ∷ []) ∷ Call p (2 ∷ 6 ∷ []) ∷ [])
argument = refl

-- `p(f(g(X)), "a")`: nested goals stand behind the outer one, depth first, from the left
pub argument-nested : flat_form (binary p (unary f (unary g x)) (Text q no_span))
    ≡ simple (Shape 2 (Constructor f 1) (4 ∷ []) ∷ Shape 4 (Constructor g 1) (6 ∷ []) ∷ Shape 8 (TextSymbol q) [] ∷ Call p (2 ∷ 8 ∷ []) ∷ [])
argument-nested = refl

-- `p(X, X)`: one variable, where it first stands
pub twice : flat_form (binary p x x) ≡ simple (Call p (2 ∷ 2 ∷ []) ∷ [])
twice = refl

-- `p(_, _)`: two variables
pub blanks : flat_form (binary p blank blank) ≡ simple (Call p (2 ∷ 4 ∷ []) ∷ [])
blanks = refl

-- `error("a")`
pub raised : flat_form (unary error_name (Text q no_span)) ≡ simple (Shape 2 (TextSymbol q) [] ∷ Raise 2 ∷ [])
raised = refl

-- equations

-- `X = Y` and `X = 1`
pub same : flat_form (binary equal_name x y) ≡ simple (Same 2 4 ∷ [])
same = refl

pub integer : flat_form (binary equal_name x one) ≡ simple (Shape 2 (IntegerSymbol (pos 1)) [] ∷ [])
integer = refl

-- `f(X) = Y`
pub turned : flat_form (binary equal_name (unary f x) y) ≡ simple (Shape 6 (Constructor f 1) (4 ∷ []) ∷ [])
turned = refl

-- `X = f(Y + 1)`: a nested unification stands behind the outer one, and an operand's before its operation
pub nested : flat_form (binary equal_name x (unary f (binary plus_name y one))) ≡ simple (Shape 2 (Constructor f 1) (6 ∷ []) ∷ Shape 10 (IntegerSymbol (pos 1)) [] ∷ Arithmetic Add 6 8 10 ∷ [])
nested = refl

pub nested-order : flat_form (binary equal_name x (unary f (binary plus_name y one))) ≡ simple (Shape 10 (IntegerSymbol (pos 1)) [] ∷ Arithmetic Add 6 8 10 ∷ Shape 2 (Constructor f 1) (6 ∷ []) ∷ []) → ⊥
nested-order wrong = cc

-- `X = f(g(Y), g(Z))`
pub nested-twice : flat_form (binary equal_name x (binary f (unary g y) (unary g z)))
    ≡ simple (Shape 2 (Constructor f 2) (6 ∷ 10 ∷ []) ∷ Shape 6 (Constructor g 1) (8 ∷ []) ∷ Shape 10 (Constructor g 1) (12 ∷ []) ∷ [])
nested-twice = refl

-- `X = (Y + 1) * Z`
pub operands : flat_form (binary equal_name x (binary star_name (binary plus_name y one) z))
    ≡ simple (Shape 10 (IntegerSymbol (pos 1)) [] ∷ Arithmetic Add 6 8 10 ∷ Arithmetic Multiply 2 6 12 ∷ [])
operands = refl

-- `- X = Y` is `0 - X = Y`
pub negative : flat_form (binary equal_name (unary minus_name x) y) ≡ simple (Shape 3 (IntegerSymbol (pos 0)) [] ∷ Arithmetic Subtract 6 3 4 ∷ [])
negative = refl

-- `p(- f(X))`: the 0 stands before the goals of the operand
pub negative-operand : flat_form (unary p (unary minus_name (unary f x)))
    ≡ simple (Shape 3 (IntegerSymbol (pos 0)) [] ∷ Shape 4 (Constructor f 1) (6 ∷ []) ∷ Arithmetic Subtract 2 3 4 ∷ Call p (2 ∷ []) ∷ [])
negative-operand = refl

-- `X = m.(Y + Z)` and `X = m.(- Y)`: with a qualifier they are constructors
pub qualified-operation : flat_form (binary equal_name x (Application plus_name (Some m) (more y (more z none)) no_span)) ≡ simple (Shape 2 (Constructor plus_name 2) (6 ∷ 8 ∷ []) ∷ [])
qualified-operation = refl

pub qualified-negative : flat_form (binary equal_name x (Application minus_name (Some m) (more y none) no_span)) ≡ simple (Shape 2 (Constructor minus_name 1) (6 ∷ []) ∷ [])
qualified-negative = refl

-- `X = +(Y)`: with one argument `+` is a constructor
pub plus-alone : flat_form (binary equal_name x (unary plus_name y)) ≡ simple (Shape 2 (Constructor plus_name 1) (6 ∷ []) ∷ [])
plus-alone = refl

-- `f(X) = f(Y)`: a fresh variable is unified with the left side first
pub sides : flat_form (binary equal_name (unary f x) (unary f y)) ≡ simple (Shape 0 (Constructor f 1) (4 ∷ []) ∷ Shape 0 (Constructor f 1) (8 ∷ []) ∷ [])
sides = refl

-- comparisons

-- `X + 1 < Y`
pub comparison : flat_form (binary less_name (binary plus_name x one) y) ≡ simple (Shape 6 (IntegerSymbol (pos 1)) [] ∷ Arithmetic Add 2 4 6 ∷ Compare Less 2 8 ∷ [])
comparison = refl

-- `X > f(Y)`: an argument of a comparison is named before it
pub comparison-side : flat_form (binary greater_name x (unary f y)) ≡ simple (Shape 4 (Constructor f 1) (6 ∷ []) ∷ Compare Greater 2 4 ∷ [])
comparison-side = refl

-- variables

-- `p(X), q(X)`: one variable
pub shared : flat_form (binary comma_name (unary p x) (unary q x)) ≡ simple (Call p (4 ∷ []) ∷ Call q (4 ∷ []) ∷ [])
shared = refl

-- `p(X) & q(X)`: one variable
pub parallel : flat_form (binary ampersand_name (unary p x) (unary q x)) ≡ Parallel (nodes_of (simple (Call p (4 ∷ []) ∷ Call q (4 ∷ []) ∷ []))) no_span ∷ []
parallel = refl

-- `p(X) ; q(X)`: a variable of each
pub separate : flat_form (binary semicolon_name (unary p x) (unary q x)) ≡ Disjunction (nodes_of (simple (Call p (4 ∷ []) ∷ Call q (8 ∷ []) ∷ []))) no_span ∷ []
separate = refl

pub separate-one : flat_form (binary semicolon_name (unary p x) (unary q x)) ≡ Disjunction (nodes_of (simple (Call p (4 ∷ []) ∷ Call q (4 ∷ []) ∷ []))) no_span ∷ [] → ⊥
separate-one wrong = cc

-- `p(X), ( q(X) ; q(X) )`: one variable, since it occurs outside the disjunction
pub outside : flat_form (binary comma_name (unary p x) (binary semicolon_name (unary q x) (unary q x))) ≡ Simple (Call p (4 ∷ [])) no_span ∷ Disjunction (nodes_of (simple (Call q (4 ∷ []) ∷ Call q (4 ∷ []) ∷ []))) no_span ∷ []
outside = refl

-- `if p(X) then q(X) else q(X)`: the condition and the then part have one variable, the else part has another
pub regions : flat_form (if_then_else (unary p x) (unary q x) (unary q x)) ≡ Conditional (Simple (Call p (8 ∷ [])) no_span) (Simple (Call q (8 ∷ [])) no_span) (Simple (Call q (16 ∷ [])) no_span) no_span ∷ []
regions = refl

-- `p(X), some [X] q(X)`: the quantifier's variable is another
pub quantified : flat_form (binary comma_name (unary p x) (binary some_name list_x (unary q x))) ≡ Simple (Call p (4 ∷ [])) no_span ∷ Quantified (16 ∷ []) (Simple (Call q (16 ∷ [])) no_span) no_span ∷ []
quantified = refl

-- `p(X), q(X), some [X] r(X)`: it hides the one around it
pub quantified-hides : flat_form (binary comma_name (unary p x) (binary comma_name (unary q x) (binary some_name list_x (unary r x))))
    ≡ Simple (Call p (4 ∷ [])) no_span ∷ Simple (Call q (4 ∷ [])) no_span ∷ Quantified (22 ∷ []) (Simple (Call r (22 ∷ [])) no_span) no_span ∷ []
quantified-hides = refl

-- `some [X] p(X), q(X)`: it ends with the quantifier
pub quantified-before : flat_form (binary comma_name (binary some_name list_x (unary p x)) (unary q x)) ≡ Quantified (12 ∷ []) (Simple (Call p (12 ∷ [])) no_span) no_span ∷ simple (Call q (16 ∷ []) ∷ [])
quantified-before = refl

-- `X \= Y`
pub unequal : flat_form (binary not_equal_name x y) ≡ Negation (Simple (Same 2 4) no_span) no_span ∷ []
unequal = refl

-- `p(X) & (q(X), r)`: a conjunction is one goal there
pub one-each : flat_form (binary ampersand_name (unary p x) (binary comma_name (unary q x) (nullary r)))
    ≡ Parallel (nodes_of (Simple (Call p (4 ∷ [])) no_span ∷ Conjunction (nodes_of (simple (Call q (4 ∷ []) ∷ Call r [] ∷ []))) no_span ∷ [])) no_span ∷ []
one-each = refl

-- places: of a term, a goal and a part of it, by its first byte

abbrev at : ℕ → Span
at first = record { first = first; past = first + 1; line = 1 }

abbrev placed : ℕ → Terms → ℕ → Term
placed name arguments first = Application name None arguments (at first)

-- `p(f(X)), q`: the goals of a call have its place
pub call-places : flat_form (placed comma_name (more (placed p (more (placed f (more x none) 4) none) 2) (more (placed q none 9) none)) 2)
    ≡ Simple (Shape 4 (Constructor f 1) (6 ∷ [])) (at 2) ∷ Simple (Call p (4 ∷ [])) (at 2) ∷ Simple (Call q []) (at 9) ∷ []
call-places = refl

-- `X < Y + 1`: an operand is named before the goal of its own term, and all of them have the place of the comparison
pub comparison-places : flat_form (placed less_name (more x (more (placed plus_name (more y (more (Integer (pos 1) (at 10)) none)) 6) none)) 2)
    ≡ simple_at (at 2) (Shape 8 (IntegerSymbol (pos 1)) [] ∷ Arithmetic Add 4 6 8 ∷ Compare Less 2 4 ∷ [])
comparison-places = refl

-- `X = f(g(Y))`
pub equation-places : flat_form (placed equal_name (more x (more (placed f (more (placed g (more y none) 8) none) 6) none)) 2)
    ≡ simple_at (at 2) (Shape 2 (Constructor f 1) (6 ∷ []) ∷ Shape 6 (Constructor g 1) (8 ∷ []) ∷ [])
equation-places = refl

-- `p ; q`
pub disjunction-places : flat_form (placed semicolon_name (more (placed p none 2) (more (placed q none 6) none)) 2)
    ≡ Disjunction (nodes_of (Simple (Call p []) (at 2) ∷ Simple (Call q []) (at 6) ∷ [])) (at 2) ∷ []
disjunction-places = refl

-- `if p, q then q else r`: the condition, which is two goals, is one where it stands
pub conditional-places : flat_form (placed else_name (more (placed if_name (more (placed then_name (more (placed comma_name (more (placed p none 5) (more (placed q none 8) none)) 5) (more (placed q none 15) none)) 5) none) 2) (more (placed r none 22) none)) 2)
    ≡ Conditional (Conjunction (nodes_of (Simple (Call p []) (at 5) ∷ Simple (Call q []) (at 8) ∷ [])) (at 5)) (Simple (Call q []) (at 15)) (Simple (Call r []) (at 22)) (at 2) ∷ []
conditional-places = refl

-- `if p then q, p else r, p`: so are those parts
pub parts-places : flat_form (placed else_name (more (placed if_name (more (placed then_name (more (placed p none 5) (more (placed comma_name (more (placed q none 12) (more (placed p none 15) none)) 12) none)) 5) none) 2) (more (placed comma_name (more (placed r none 22) (more (placed p none 25) none)) 22) none)) 2)
    ≡ Conditional (Simple (Call p []) (at 5)) (Conjunction (nodes_of (Simple (Call q []) (at 12) ∷ Simple (Call p []) (at 15) ∷ [])) (at 12))
    (Conjunction (nodes_of (Simple (Call r []) (at 22) ∷ Simple (Call p []) (at 25) ∷ [])) (at 22)) (at 2) ∷ []
parts-places = refl

-- `not (p, q)`, `some [X] (p, q)`, `r & (p, q)` and `r ; (p, q)`
abbrev both : Term
both = placed comma_name (more (placed p none 8) (more (placed q none 11) none)) 7

abbrev both_goals : Node
both_goals = Conjunction (nodes_of (Simple (Call p []) (at 8) ∷ Simple (Call q []) (at 11) ∷ [])) (at 7)

pub negation-places : flat_form (placed not_name (more both none) 2) ≡ Negation both_goals (at 2) ∷ []
negation-places = refl

pub quantified-places : flat_form (placed some_name (more list_x (more both none)) 2) ≡ Quantified [] both_goals (at 2) ∷ []
quantified-places = refl

pub parallel-places : flat_form (placed ampersand_name (more (placed r none 3) (more both none)) 2) ≡ Parallel (nodes_of (Simple (Call r []) (at 3) ∷ both_goals ∷ [])) (at 2) ∷ []
parallel-places = refl

pub disjunct-places : flat_form (placed semicolon_name (more (placed r none 3) (more both none)) 2) ≡ Disjunction (nodes_of (Simple (Call r []) (at 3) ∷ both_goals ∷ [])) (at 2) ∷ []
disjunct-places = refl

-- `true` and `fail`
pub truth-places : flat_form (placed true_name none 2) ≡ Simple True (at 2) ∷ []
truth-places = refl

pub failure-places : flat_form (placed fail_name none 2) ≡ Simple Fail (at 2) ∷ []
failure-places = refl

-- `all [X] p(X)`: its three goals have its place
pub all-places : flat_form (placed all_name (more list_x (more (placed p (more x none) 10) none)) 2)
    ≡ Negation (Quantified (10 ∷ []) (Negation (Simple (Call p (10 ∷ [])) (at 10)) (at 2)) (at 2)) (at 2) ∷ []
all-places = refl

-- `X \= f(Y)`: its goals have its place
pub unequal-places : flat_form (placed not_equal_name (more x (more (placed f (more y none) 7) none)) 2) ≡ Negation (Simple (Shape 2 (Constructor f 1) (6 ∷ [])) (at 2)) (at 2) ∷ []
unequal-places = refl

-- clauses, whose parts have the numbers from 3 on

-- `p(X, X, f(Y)) :- q(Y).`: the first X is the predicate's own variable
pub clause : clause_goal is_blank_name callee 3 (Application p None (more x (more x (more (unary f y) none))) no_span) (Some (unary q y)) no_span
    ≡ Conjunction (nodes_of (simple (Same 1 0 ∷ Shape 2 (Constructor f 1) (11 ∷ []) ∷ Call q (11 ∷ []) ∷ []))) no_span
clause = refl

-- `p(f(X), X, _).`: an X that was met before is unified
pub head-met : clause_goal is_blank_name callee 3 (Application p None (more (unary f x) (more x (more blank none))) no_span) None no_span
    ≡ Conjunction (nodes_of (simple (Shape 0 (Constructor f 1) (7 ∷ []) ∷ Same 1 7 ∷ []))) no_span
head-met = refl

-- `p(X, Y, Z).`: nothing is to be done
pub head-alone : clause_goal is_blank_name callee 3 (Application p None (more x (more y (more z none))) no_span) None no_span ≡ Simple True no_span
head-alone = refl

-- `p(X).`
pub fact-places : clause_goal is_blank_name callee 1 (placed p (more x none) 5) None (at 4) ≡ Simple True (at 4)
fact-places = refl

-- `p(f(X)) :- q(X).`: the goals of the head have the place of the clause
pub clause-places : clause_goal is_blank_name callee 1 (placed p (more (placed f (more x none) 7) none) 5) (Some (placed q (more x none) 15)) (at 4)
    ≡ Conjunction (nodes_of (Simple (Shape 0 (Constructor f 1) (5 ∷ [])) (at 4) ∷ Simple (Call q (5 ∷ [])) (at 15) ∷ [])) (at 4)
clause-places = refl

-- `p(X) :- q, (r ; q).`: a body's goals stand beside those of the head, and a disjunction in it is one of them
pub clause-body : clause_goal is_blank_name callee 1 (placed p (more x none) 4) (Some (placed comma_name (more (placed q none 10) (more (placed semicolon_name (more (placed r none 14) (more (placed q none 18) none)) 13) none)) 10)) (at 4)
    ≡ Conjunction (nodes_of (Simple (Call q []) (at 10) ∷ Disjunction (nodes_of (Simple (Call r []) (at 14) ∷ Simple (Call q []) (at 18) ∷ [])) (at 13) ∷ [])) (at 4)
clause-body = refl
