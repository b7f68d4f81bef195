-- Faults of a few goals, in a module with the type `t` of the constructors `c/0` and `f/1` and the predicate `p/1`. `g` and `q` are unknown.
use Rattle.std.specs.Prelude.{◌≡◌, ℕ, suc, zero, ◌+◌, true, false, List, [], ◌∷◌, map, Option, Some, None, pos, refl}
use Rattle.std.proofs.Common.{ap}
use Rattle.merc_base.specs.Names.{div_name, int_name, less_name, minus_name, mod_name, plus_name, rem_name, slash_name, slash_slash_name, star_name}
use Rattle.merc_base.specs.declared.place.Span.{Span}
use Rattle.merc_base.specs.declared.refusal.Refusal.{Refusal}
use Rattle.merc_base.specs.declared.refusal.Rule.TheVariants.{UnknownName, LimitPassed}
use Rattle.merc_base.specs.declared.refusal.Detail.TheVariants.{Plain, Limit}
use Rattle.merc_base.specs.declared.refusal.LimitName.TheVariants.{Variables, Conjuncts}
use Rattle.merc_tree.specs.Term.{Term, Terms, Variable, Integer, Text, Application, none, more, terms_of}
use Rattle.merc_tree.specs.Types.{IntType}
use Rattle.merc_tree.specs.declared.declarations.Clause.{Clause}
use Rattle.merc_tree.specs.declared.declarations.Module.{Module}
use Rattle.merc_goals.specs.Written.{Written, WrittenGoals, Truth, Equal, Compared, Called, Conjunction, Parallel, Disjunction, Conditional, Negated, Quantified, WrongForm, no_goals, more_goals}
use Rattle.merc_goals.specs.Faults.{wrong_form}
use Rattle.merc_goal_tree.specs.declared.goal.SimpleGoal.TheVariants.{True, Same, Call}
use Rattle.merc_goal_tree.specs.Nodes.{Node, Simple, Conjunction as NodeConjunction, Negation as NodeNegation, Quantified as NodeQuantified, nodes_of}
use Rattle.merc_flat.specs.GoalFaults.{form_fault, limit_passed, name_fault, unknown, unknown_among, unknown_in, unknown_name, variable_count}
use Rattle.merc_flat.specs.Counted.{own}
use Rattle.merc_flat.specs.SizeFaults.{first_of_two, size_fault, width_fault}
use Rattle.merc_flat.specs.UnknownNames.{is_arithmetic_name, is_unknown, stacked, unknown_on}

abbrev m_name : ℕ
m_name = 99

abbrev t_name : ℕ
t_name = 100

abbrev pub c_name : ℕ
c_name = 101

abbrev pub f_name : ℕ
f_name = 102

abbrev pub p_name : ℕ
p_name = 103

abbrev pub g_name : ℕ
g_name = 104

abbrev pub x_name : ℕ
x_name = 105

abbrev pub y_name : ℕ
y_name = 106

abbrev pub q_name : ℕ
q_name = 107

abbrev pub at : ℕ → Span
at first = record { first = first; past = first + 1; line = 1 }

abbrev pub with_clauses : List Clause → Module
with_clauses clauses = record {
  name = m_name;
  units = [];
  types = record { name = t_name; params = []; constructors = record { name = c_name; args = [] } ∷ record { name = f_name; args = IntType ∷ [] } ∷ []; unit = None } ∷ [];
  preds = record { name = p_name; args = IntType ∷ []; modes = []; span = at 0; unit = None } ∷ [];
  own = 1;
  clauses = clauses;
}

abbrev pub example : Module
example = with_clauses []

-- what is told of a limit and of an unknown name: the rule, and the first byte and the line of a span

abbrev there : Span
there = record { first = 3; past = 9; line = 2 }

limit_told : limit_passed Conjuncts there ≡ record { rule = LimitPassed; place = record { byte = 3; line = 2 }; detail = Limit Conjuncts }
limit_told = refl

name_told : unknown_name example there ≡ record { rule = UnknownName; place = record { byte = 3; line = 2 }; detail = Plain }
name_told = refl

-- forms and sizes

abbrev truths : ℕ → WrittenGoals
truths zero = no_goals
truths (suc count) = more_goals (Truth (at 9)) (truths count)

abbrev truth : Node
truth = Simple True (at 0)

-- 65 conjuncts, of which the first is of no form and begins here
abbrev wide : ℕ → Written
wide first = Parallel (more_goals (WrongForm (at first)) (truths 64)) (at 0)

-- at one byte the lesser rule comes first
form_before_conjuncts : form_fault 0 (at 0) (wide 0) truth ≡ Some (wrong_form (at 0))
form_before_conjuncts = refl

conjuncts_before_form : form_fault 0 (at 0) (wide 1) truth ≡ Some (limit_passed Conjuncts (at 0))
conjuncts_before_form = refl

conjuncts_allowed : form_fault 0 (at 0) (Parallel (truths 64) (at 0)) truth ≡ None
conjuncts_allowed = refl

conjuncts_forgotten : form_fault 0 (at 0) (Parallel (truths 65) (at 0)) truth ≡ None → ⊥
conjuncts_forgotten wrong = cc

-- so many variables as arguments
variables_allowed : form_fault 16384 (at 0) (Truth (at 0)) truth ≡ None
variables_allowed = refl

variables_passed : form_fault 16385 (at 3) (Truth (at 5)) truth ≡ Some (limit_passed Variables (at 3))
variables_passed = refl

-- at one byte too many variables come before too many conjuncts
variables_before_conjuncts : form_fault 16385 (at 0) (Parallel (truths 65) (at 0)) truth ≡ Some (limit_passed Variables (at 0))
variables_before_conjuncts = refl

-- where a part has no form the variables are not counted
form_before_variables : form_fault 16385 (at 0) (WrongForm (at 3)) truth ≡ Some (wrong_form (at 3))
form_before_variables = refl

-- two arguments, and two other variables of which one occurs twice
variables : variable_count 2 (Simple (Call 0 (1 ∷ 5 ∷ 7 ∷ 5 ∷ [])) (at 0)) ≡ 4
variables = refl

-- the first number behind the arguments is another variable's
variable_behind : variable_count 2 (Simple (Call 0 (2 ∷ [])) (at 0)) ≡ 3
variable_behind = refl

-- in all parts of a goal
variables_parts : variable_count 0 (NodeConjunction (nodes_of (Simple (Call 0 (1 ∷ [])) (at 0) ∷ NodeNegation (Simple (Same 1 2) (at 0)) (at 0) ∷ [])) (at 0)) ≡ 2
variables_parts = refl

-- a variable that a quantifier names counts where it occurs
variables_quantified : variable_count 0 (NodeQuantified (5 ∷ 7 ∷ []) (Simple (Call 0 (5 ∷ 6 ∷ [])) (at 0)) (at 0)) ≡ 2
variables_quantified = refl

-- an argument counts though it does not occur
variables_of_arguments : variable_count 2 truth ≡ 2
variables_of_arguments = refl

-- names

abbrev applied : ℕ → Option ℕ → Terms → ℕ → Term
applied name qualifier arguments first = Application name qualifier arguments (at first)

abbrev p : Term → Written
p only = Called 0 p_name None (more only none) (at 0)

-- `p(f(c))`
all_known : name_fault example none (p (applied f_name None (more (applied c_name None none 4) none) 2)) ≡ None
all_known = refl

-- `p(f(g))`: an unknown constructor in an argument
unknown_argument : name_fault example none (p (applied f_name None (more (applied g_name None none 4) none) 2)) ≡ Some (unknown_name example (at 4))
unknown_argument = refl

-- `c` with an argument is another name
unknown_arity : unknown_in example (applied c_name None (more (Variable x_name (at 4)) none) 2) ≡ at 2 ∷ []
unknown_arity = refl

-- `X + Y` is arithmetic, and with a qualifier it is an unknown name
arithmetic : unknown_in example (applied plus_name None (more (Variable x_name (at 2)) (more (Variable y_name (at 6)) none)) 2) ≡ []
arithmetic = refl

-- so is `- X`, but not `+(X)`
negation : unknown_in example (applied minus_name None (more (Variable x_name (at 2)) none) 2) ≡ []
negation = refl

no_negation : unknown_in example (applied plus_name None (more (Variable x_name (at 2)) none) 2) ≡ at 2 ∷ []
no_negation = refl

-- an unknown name in an operand
unknown_operand : unknown_in example (applied plus_name None (more (applied g_name None none 4) (more (Variable y_name (at 6)) none)) 2) ≡ at 4 ∷ []
unknown_operand = refl

qualified_arithmetic : unknown_in example (applied plus_name (Some int_name) (more (Variable x_name (at 2)) (more (Variable y_name (at 6)) none)) 2) ≡ at 2 ∷ []
qualified_arithmetic = refl

abbrev x : ℕ → Term
x first = Variable x_name (at first)

-- `X name Y`
abbrev operated : ℕ → ℕ → Term
operated name first = applied name None (more (x first) (more (Variable y_name (at (first + 4))) none)) first

-- each operation, and `/` and `<`, which are none
every_operation : unknown_among example (terms_of (operated plus_name 1 ∷ operated minus_name 11 ∷ operated star_name 21 ∷ operated slash_slash_name 31
    ∷ operated div_name 41 ∷ operated mod_name 51 ∷ operated rem_name 61 ∷ [])) ≡ []
every_operation = refl

no_operation : unknown_among example (terms_of (operated slash_name 1 ∷ operated less_name 11 ∷ [])) ≡ at 1 ∷ at 11 ∷ []
no_operation = refl

-- `+` alone and with three arguments, and `int.-(X)`
other_arithmetic : unknown_among example (terms_of (applied plus_name None none 1 ∷ applied plus_name None (terms_of (x 4 ∷ x 6 ∷ x 8 ∷ [])) 2
    ∷ applied minus_name (Some int_name) (more (x 19) none) 12 ∷ [])) ≡ at 1 ∷ at 2 ∷ at 12 ∷ []
other_arithmetic = refl

-- `m.c` is the module's, `int.c` is not there
qualified_constructor : unknown_among example (terms_of (applied c_name (Some m_name) none 1 ∷ applied c_name (Some int_name) none 5 ∷ [])) ≡ at 5 ∷ []
qualified_constructor = refl

-- `m.p(X)` is the module's; `int.p(X)` and `p(X, X)` are not there
abbrev call : Option ℕ → Terms → ℕ → Written
call qualifier arguments first = Called 0 p_name qualifier arguments (at first)

calls : unknown example (Conjunction (more_goals (call (Some m_name) (more (x 3) none) 1) (more_goals (call (Some int_name) (more (x 9) none) 7)
    (more_goals (call None (more (x 15) (more (x 17) none)) 13) no_goals))) (at 1)) ≡ at 7 ∷ at 13 ∷ []
calls = refl

-- a predicate is no constructor, and a constructor no predicate
predicate_as_term : unknown_in example (applied p_name None (more (x 4) none) 2) ≡ at 2 ∷ []
predicate_as_term = refl

constructor_as_goal : unknown example (Called 0 f_name None (more (x 4) none) (at 2)) ≡ at 2 ∷ []
constructor_as_goal = refl

literals : unknown_among example (terms_of (Integer (pos 5) (at 1) ∷ Text g_name (at 3) ∷ [])) ≡ []
literals = refl

-- `p(g), q`: the earlier of two unknown names is told
abbrev both : Written
both = Conjunction (more_goals (p (applied g_name None none 2)) (more_goals (Called 9 q_name None none (at 6)) no_goals)) (at 0)

unknown_both : name_fault example none both ≡ Some (unknown_name example (at 2))
unknown_both = refl

abbrev pub byte_of : Option Refusal → ℕ
byte_of None = 0
byte_of (Some fault) = fault.place.byte

not_later : ◌≡◌ {A = ℕ} 2 6 → ⊥
not_later same = cc

unknown_later : name_fault example none both ≡ Some (unknown_name example (at 6)) → ⊥
unknown_later wrong = not_later (ap byte_of wrong)

-- an unknown name in the arguments of a head
unknown_head : name_fault example (more (applied g_name None none 2) none) (Truth (at 0)) ≡ Some (unknown_name example (at 2))
unknown_head = refl

-- in each kind of goal

abbrev unknown_at : ℕ → Written
unknown_at first = Called 0 q_name None none (at first)

abbrev two : ℕ → ℕ → WrittenGoals
two first second = more_goals (unknown_at first) (more_goals (unknown_at second) no_goals)

unknown_conjuncts : unknown example (Conjunction (two 1 2) (at 0)) ≡ at 1 ∷ at 2 ∷ []
unknown_conjuncts = refl

unknown_parallel : unknown example (Parallel (two 1 2) (at 0)) ≡ at 1 ∷ at 2 ∷ []
unknown_parallel = refl

unknown_disjuncts : unknown example (Disjunction (two 1 2) (at 0)) ≡ at 1 ∷ at 2 ∷ []
unknown_disjuncts = refl

unknown_parts : unknown example (Conditional (unknown_at 1) (unknown_at 2) (unknown_at 3) (at 0)) ≡ at 1 ∷ at 2 ∷ at 3 ∷ []
unknown_parts = refl

unknown_negated : unknown example (Negated (unknown_at 1) (at 0)) ≡ at 1 ∷ []
unknown_negated = refl

unknown_quantified : unknown example (Quantified (x_name ∷ []) (unknown_at 1) (at 0)) ≡ at 1 ∷ []
unknown_quantified = refl

unknown_sides : unknown example (Equal 0 (applied g_name None none 1) (applied g_name None none 2) (at 0)) ≡ at 1 ∷ at 2 ∷ []
unknown_sides = refl

unknown_operands : unknown example (Compared 0 less_name (applied g_name None none 1) (applied g_name None none 2) (at 0)) ≡ at 1 ∷ at 2 ∷ []
unknown_operands = refl

-- what private functions compute

abbrev g : ℕ → Term
g first = applied g_name None none first

is_arithmetic_name-minus : map (is_arithmetic_name minus_name None) (0 ∷ 1 ∷ 2 ∷ 3 ∷ []) ≡ false ∷ true ∷ true ∷ false ∷ []
is_arithmetic_name-minus = refl

is_arithmetic_name-plus : map (is_arithmetic_name plus_name None) (0 ∷ 1 ∷ 2 ∷ 3 ∷ []) ≡ false ∷ false ∷ true ∷ false ∷ []
is_arithmetic_name-plus = refl

is_arithmetic_name-qualified : map (is_arithmetic_name minus_name (Some int_name)) (1 ∷ 2 ∷ []) ≡ false ∷ false ∷ []
is_arithmetic_name-qualified = refl

is_unknown-each : map (is_unknown example) (x 1 ∷ Integer (pos 5) (at 1) ∷ Text g_name (at 1) ∷ applied c_name None none 1 ∷ g 1 ∷ []) ≡ false ∷ false ∷ false ∷ false ∷ true ∷ []
is_unknown-each = refl

-- the top of a stack is its last term
stacked-example : stacked (x 1 ∷ []) (x 2 ∷ x 3 ∷ []) ≡ x 1 ∷ x 3 ∷ x 2 ∷ []
stacked-example = refl

unknown_on-example : unknown_on example (g 1 ∷ x 3 ∷ g 5 ∷ []) ≡ at 5 ∷ at 1 ∷ []
unknown_on-example = refl

own-example : own 2 (1 ∷ 2 ∷ 3 ∷ []) ≡ 2 ∷ 3 ∷ []
own-example = refl

size_fault-allowed : size_fault 16384 (at 3) truth ≡ None
size_fault-allowed = refl

size_fault-passed : size_fault 16385 (at 3) truth ≡ Some (limit_passed Variables (at 3))
size_fault-passed = refl

width_fault-allowed : width_fault (at 3) 64 ≡ None
width_fault-allowed = refl

width_fault-passed : width_fault (at 3) 65 ≡ Some (limit_passed Conjuncts (at 3))
width_fault-passed = refl

first_of_two-first : first_of_two (Some (limit_passed Conjuncts (at 3))) (Some (wrong_form (at 5))) ≡ Some (limit_passed Conjuncts (at 3))
first_of_two-first = refl

first_of_two-second : first_of_two (Some (limit_passed Conjuncts (at 3))) (Some (wrong_form (at 3))) ≡ Some (wrong_form (at 3))
first_of_two-second = refl
