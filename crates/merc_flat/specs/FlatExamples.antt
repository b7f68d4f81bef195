-- Faults of a few clauses and goals, in a module with the constructors `c/0` and `f/1` and the predicate `p/1`.
use Rattle.std.specs.Prelude.{◌≡◌, ℕ, suc, zero, ◌+◌, List, [], ◌∷◌, map, Option, Some, None, pos, codes, refl}
use Rattle.std.proofs.Common.{ap}
use Rattle.merc_base.specs.Names.{ampersand_name, comma_name, equal_name, minus_name, plus_name, semicolon_name, true_name}
use Rattle.merc_base.specs.declared.refusal.Refusal.{Refusal}
use Rattle.merc_base.specs.declared.refusal.Rule.{Rule}
use Rattle.merc_base.specs.declared.refusal.Rule.TheVariants.{WrongForm, OutsideProfile}
use Rattle.merc_base.specs.declared.refusal.Detail.{Detail}
use Rattle.merc_base.specs.declared.refusal.Detail.TheVariants.{Plain, Word}
use Rattle.merc_base.specs.declared.refusal.Construct.TheVariants.{Goal}
use Rattle.merc_base.specs.declared.refusal.LimitName.TheVariants.{Conjuncts}
use Rattle.merc_tree.specs.Term.{Term, Variable, Integer, Application, none, more}
use Rattle.merc_tree.specs.declared.declarations.Clause.{Clause}
use Rattle.merc_goals.specs.Written.{Called, Truth, written}
use Rattle.merc_goals.specs.Faults.{outside_profile, wrong_form}
use Rattle.merc_goal_tree.specs.Nodes.{Simple, Conjunction, Disjunction, nodes_of}
use Rattle.merc_goal_tree.specs.declared.goal.SimpleGoal.TheVariants.{Shape, Call}
use Rattle.merc_goal_tree.specs.declared.goal.Symbol.TheVariants.{Constructor}
use Rattle.merc_flat.specs.GoalFaults.{limit_passed, unknown_name, variable_count}
use Rattle.merc_flat.specs.GoalFaultsExamples.{at, byte_of, c_name, f_name, g_name, p_name, q_name, x_name, y_name, example, with_clauses}
use Rattle.merc_flat.specs.Flat.{arity_of, clause_node, clauses_fault, goal_of, query_fault, query_node}

abbrev x : ℕ → Term
x first = Variable x_name (at first)

abbrev five : ℕ → Term
five first = Integer (pos 5) (at first)

abbrev constant : ℕ → ℕ → Term
constant name first = Application name None none (at first)

abbrev over : ℕ → Term → ℕ → Term
over name only first = Application name None (more only none) (at first)

abbrev join : ℕ → Term → Term → ℕ → Term
join name left right first = Application name None (more left (more right none)) (at first)

abbrev clause : Term → Option Term → ℕ → Clause
clause head body first = record { head = head; body = body; span = at first }

-- so many `&` between `true`
abbrev trues : ℕ → ℕ → Term
trues first zero = constant true_name first
trues first (suc count) = join ampersand_name (constant true_name first) (trues first count) first

-- `p(X) :- p(f(X)).`
abbrev sound : Clause
sound = clause (over p_name (x 2) 0) (Some (over p_name (over f_name (x 12) 10) 8)) 0

-- `p(g).`, from this byte on
abbrev unknown_at : ℕ → Clause
unknown_at first = clause (over p_name (constant g_name (suc first)) first) None first

-- `p(X) :- 5.`, where the body stands at the second byte
abbrev wrong_at : ℕ → ℕ → Clause
wrong_at first second = clause (over p_name (x first) first) (Some (five second)) first

-- `p(X) :- true & .. & true.`, with so many `&`, of which the first `true` stands eight bytes behind the clause's front
abbrev wide_at : ℕ → ℕ → Clause
wide_at first count = clause (over p_name (x first) first) (Some (trues (first + 8) count)) first

no_fault : clauses_fault [] (with_clauses (sound ∷ clause (over p_name (constant c_name 22) 20) None 20 ∷ [])) ≡ None
no_fault = refl

-- the second clause has an unknown name
unknown_second : clauses_fault [] (with_clauses (sound ∷ unknown_at 20 ∷ [])) ≡ Some (unknown_name example (at 21))
unknown_second = refl

-- of two the first
unknown_first : clauses_fault [] (with_clauses (unknown_at 10 ∷ unknown_at 20 ∷ [])) ≡ Some (unknown_name example (at 11))
unknown_first = refl

-- in a body
unknown_body : clauses_fault [] (with_clauses (clause (over p_name (x 2) 0) (Some (constant q_name 8)) 0 ∷ [])) ≡ Some (unknown_name example (at 8))
unknown_body = refl

-- a fault of form comes before an unknown name, also one of a clause before it
form_first : clauses_fault [] (with_clauses (unknown_at 0 ∷ wrong_at 10 18 ∷ [])) ≡ Some (wrong_form (at 18))
form_first = refl

not_first : ◌≡◌ {A = ℕ} 18 1 → ⊥
not_first same = cc

name_not_first : clauses_fault [] (with_clauses (unknown_at 0 ∷ wrong_at 10 18 ∷ [])) ≡ Some (unknown_name example (at 1)) → ⊥
name_not_first wrong = not_first (ap byte_of wrong)

-- of two faults of form that of the first clause
first_clause : clauses_fault [] (with_clauses (wrong_at 0 8 ∷ clause (over p_name (x 22) 20) (Some (x 28)) 20 ∷ [])) ≡ Some (wrong_form (at 8))
first_clause = refl

-- a variable as a goal
outside : clauses_fault [] (with_clauses (clause (over p_name (x 2) 0) (Some (x 8)) 0 ∷ [])) ≡ Some (outside_profile (at 8))
outside = refl

-- what is told of both: the rule, and the word for what is left out
abbrev told : Rule → Detail → ℕ → Option Refusal
told rule detail first = Some (record { rule = rule; place = record { byte = first; line = 1 }; detail = detail })

wrong_told : clauses_fault [] (with_clauses (wrong_at 0 8 ∷ [])) ≡ told WrongForm Plain 8
wrong_told = refl

outside_told : clauses_fault [] (with_clauses (clause (over p_name (x 2) 0) (Some (x 8)) 0 ∷ [])) ≡ told OutsideProfile (Word Goal) 8
outside_told = refl

-- 64 conjuncts, and one more, which is told at the clause
wide_enough : clauses_fault [] (with_clauses (wide_at 4 63 ∷ [])) ≡ None
wide_enough = refl

too_wide : clauses_fault [] (with_clauses (sound ∷ wide_at 14 64 ∷ [])) ≡ Some (limit_passed Conjuncts (at 14))
too_wide = refl

-- the parts of a clause are numbered behind the arguments of its predicate: `p(f(X)) :- p(Y).`
numbered : clause_node [] example (clause (over p_name (over f_name (x 4) 2) 0) (Some (over p_name (Variable y_name (at 12)) 10)) 0)
    ≡ Conjunction (nodes_of (Simple (Shape 0 (Constructor f_name 1) (5 ∷ [])) (at 0) ∷ Simple (Call 0 (9 ∷ [])) (at 10) ∷ [])) (at 0)
numbered = refl

-- the goal of `p(f(X)) :- p(X).` by itself, and of a fact
numbered_body : goal_of (clause (over p_name (over f_name (x 4) 2) 0) (Some (over p_name (x 12) 10)) 0) ≡ Called 7 p_name None (more (x 12) none) (at 10)
numbered_body = refl

fact : goal_of (clause (constant p_name 6) None 5) ≡ Truth (at 5)
fact = refl

-- How many variables clauses have. The table of names holds `_` alone.

abbrev texts : List (List ℕ)
texts = codes "_" ∷ []

abbrev blank : ℕ → Term
blank first = Variable 0 (at first)

abbrev y : ℕ → Term
y first = Variable y_name (at first)

-- `X = Y`
abbrev equation : Term → Term → Term
equation left right = join equal_name left right 0

abbrev counted : Clause → ℕ
counted found = variable_count (arity_of found) (clause_node texts example found)

-- `p(X, Y) :- Y = X + 1.`
abbrev sum : Clause
sum = clause (join p_name (x 0) (y 0) 0) (Some (equation (y 0) (join plus_name (x 0) (Integer (pos 1) (at 0)) 0))) 0

-- `p(X, Y) :- Y = -X.`
abbrev opposite : Clause
opposite = clause (join p_name (x 0) (y 0) 0) (Some (equation (y 0) (over minus_name (x 0) 0))) 0

-- `p(X, Y) :- ( A = X, Y = A ; A = X, Y = A ).`
abbrev a : Term
a = Variable q_name (at 0)

abbrev disjunct : Term
disjunct = join comma_name (equation a (x 0)) (equation (y 0) a) 0

abbrev disjuncts : Clause
disjuncts = clause (join p_name (x 0) (y 0) 0) (Some (join semicolon_name disjunct disjunct 0)) 0

-- `p(X) :- q(X, _, _).`
abbrev blanks : Clause
blanks = clause (over p_name (x 0) 0) (Some (Application q_name None (more (x 0) (more (blank 0) (more (blank 0) none))) (at 0))) 0

-- `p(X, f(_)).`
abbrev parted : Clause
parted = clause (join p_name (x 0) (over f_name (blank 0) 0) 0) None 0

counts : map counted (sum ∷ opposite ∷ disjuncts ∷ blanks ∷ parted ∷ []) ≡ 3 ∷ 3 ∷ 4 ∷ 3 ∷ 3 ∷ []
counts = refl

-- goals that are asked

-- `p(X) ; p(X)`: an answer variable is the same one in both disjuncts
answers : query_node [] example (written 0 (join semicolon_name (over p_name (x 4) 2) (over p_name (x 12) 10) 1))
    ≡ Disjunction (nodes_of (Simple (Call 0 (4 ∷ [])) (at 2) ∷ Simple (Call 0 (4 ∷ [])) (at 10) ∷ [])) (at 1)
answers = refl

-- `p(_), p(_)`: each `_` is a variable of its own
apart : query_node texts example (written 0 (join comma_name (over p_name (blank 4) 2) (over p_name (blank 12) 10) 1))
    ≡ Conjunction (nodes_of (Simple (Call 0 (4 ∷ [])) (at 2) ∷ Simple (Call 0 (8 ∷ [])) (at 10) ∷ [])) (at 1)
apart = refl

asked : query_fault [] example (written 0 (over p_name (x 2) 0)) ≡ None
asked = refl

-- `q`
asked_unknown : query_fault [] example (written 0 (constant q_name 3)) ≡ Some (unknown_name example (at 3))
asked_unknown = refl

-- `q, 5`
asked_form : query_fault [] example (written 0 (join comma_name (constant q_name 0) (five 3) 0)) ≡ Some (wrong_form (at 3))
asked_form = refl

asked_wide : query_fault [] example (written 0 (join comma_name (constant q_name 2) (trues 5 64) 1)) ≡ Some (limit_passed Conjuncts (at 1))
asked_wide = refl

asked_wide_enough : query_fault [] example (written 0 (trues 5 63)) ≡ None
asked_wide_enough = refl
