-- The predicates p/1, with two clauses, and q/1, with none.
use Rattle.std.specs.Prelude.{◌≡◌, ℕ, ◌+◌, ◌==◌, [], ◌∷◌, Some, None, refl, if◌then◌else◌}
use Rattle.merc_base.specs.declared.place.Span.{Span}
use Rattle.merc_tree.specs.Term.{Term, Variable, Application, none, more, no_span}
use Rattle.merc_tree.specs.Types.{IntType}
use Rattle.merc_tree.specs.declared.declarations.PredDecl.{PredDecl}
use Rattle.merc_tree.specs.declared.declarations.Clause.{Clause}
use Rattle.merc_goal_tree.specs.Nodes.{Node, Simple, Conjunction, Disjunction, Quantified, nodes_of}
use Rattle.merc_goal_tree.specs.declared.entries.Root.TheVariants.{Simple as SimpleRoot, Conjunction as ConjunctionRoot, Quantified as QuantifiedRoot}
use Rattle.merc_goal_tree.specs.declared.goal.SimpleGoal.TheVariants.{Fail, Shape, Call}
use Rattle.merc_goal_tree.specs.declared.goal.Symbol.TheVariants.{Constructor}
use Rattle.merc_bodies.specs.Bodies.{rising, numbered, body_of, asked_body}
use Rattle.merc_bodies.specs.Grouping.{body_of_pairs, headed, paired}
use Rattle.merc_bodies.specs.Rebuilding.{rebuilt}

abbrev at : ℕ → Span
at first = record { first = first; past = first + 1; line = 1 }

abbrev p : ℕ
p = 200

abbrev q : ℕ
q = 201

abbrev f : ℕ
f = 202

-- with one argument
abbrev predicate : ℕ → PredDecl
predicate name = record { name = name; args = IntType ∷ []; modes = []; span = no_span; unit = None }

abbrev head : ℕ → Term
head name = Application name None (more (Variable 100 no_span) none) no_span

abbrev clause : ℕ → ℕ → Clause
clause name byte = record { head = head name; body = None; span = at byte }

-- `p(f(X)) :- q(X).`, whose variable X has the number 5
abbrev first_form : ℕ → Node
first_form x = Conjunction (nodes_of (Simple (Shape 0 (Constructor f 1) (x ∷ [])) (at 5) ∷ Simple (Call 1 (x ∷ [])) (at 8) ∷ [])) (at 5)

-- `p(X) :- some [Z] ( q(Z), q(Y) ).`, whose variables Z and Y have the numbers 9 and 7
abbrev second_form : ℕ → ℕ → Node
second_form z y = Quantified (z ∷ []) (Conjunction (nodes_of (Simple (Call 1 (z ∷ [])) (at 20) ∷ Simple (Call 1 (y ∷ [])) (at 22) ∷ [])) (at 20)) (at 18)

abbrev form : Clause → Node
form found = if found.span.first == 5 then first_form 5 else second_form 9 7

in_order : rising (9 ∷ 7 ∷ 9 ∷ 8 ∷ []) ≡ 7 ∷ 8 ∷ 9 ∷ []
in_order = refl

not_twice : rising (9 ∷ 7 ∷ 9 ∷ []) ≡ 7 ∷ 9 ∷ 9 ∷ [] → ⊥
not_twice wrong = cc

argument_stays : numbered 2 6 (7 ∷ 9 ∷ []) 1 ≡ 1
argument_stays = refl

own_moves : numbered 2 6 (7 ∷ 9 ∷ []) 9 ≡ 7
own_moves = refl

-- the second clause's variables stand behind the first one's, in the order of their numbers
joined : body_of form (clause p 5 ∷ clause q 6 ∷ clause p 7 ∷ []) (predicate p) ≡ Disjunction (nodes_of (first_form 1 ∷ second_form 3 2 ∷ [])) (at 5)
joined = refl

numbered_anew : body_of form (clause p 5 ∷ clause p 7 ∷ []) (predicate p) ≡ Disjunction (nodes_of (first_form 1 ∷ second_form 2 1 ∷ [])) (at 5) → ⊥
numbered_anew wrong = cc

-- behind two variables of the first clause one of the second, and so on; the body stands where the predicate's first clause does
three : body_of form (clause q 6 ∷ clause p 7 ∷ clause p 5 ∷ clause p 5 ∷ []) (predicate p) ≡ Disjunction (nodes_of (second_form 2 1 ∷ first_form 3 ∷ first_form 4 ∷ [])) (at 7)
three = refl

-- as the forms of clauses have them, whose own variables are numbered from the number of arguments on
from_arity : body_of (λ clause. first_form 1) (clause p 5 ∷ clause p 7 ∷ []) (predicate p) ≡ Disjunction (nodes_of (first_form 1 ∷ first_form 2 ∷ [])) (at 5)
from_arity = refl

-- a clause of the same name with another number of arguments
abbrev other_arity : Clause
other_arity = record { head = Application p None none no_span; body = None; span = at 8 }

apart : body_of form (other_arity ∷ clause p 5 ∷ []) (predicate p) ≡ first_form 1
apart = refl

-- `m.p(X).`, where m has the number 300
abbrev qualified : Clause
qualified = record { head = Application p (Some 300) (more (Variable 100 no_span) none) no_span; body = None; span = at 5 }

with_qualifier : body_of form (qualified ∷ []) (predicate p) ≡ first_form 1
with_qualifier = refl

only_clause : body_of form (clause p 5 ∷ []) (predicate p) ≡ first_form 1
only_clause = refl

without_clauses : body_of form (clause p 5 ∷ []) (predicate q) ≡ Simple Fail no_span
without_clauses = refl

-- a goal that is asked has no arguments
asked : asked_body (first_form 5) ≡ Conjunction (nodes_of (Simple (Shape 0 (Constructor f 1) (1 ∷ [])) (at 5) ∷ Simple (Call 1 (1 ∷ [])) (at 8) ∷ [])) (at 5)
asked = refl

-- A body that is a disjunction stays one disjunct: `p(X) :- ( X = a ; X = b ). p(X) :- X = c.`, where a, b and c have the numbers 210, 211 and 212

abbrev case : ℕ → Node
case name = Simple (Shape 0 (Constructor name 0) []) no_span

abbrev two_cases : Node
two_cases = Disjunction (nodes_of (case 210 ∷ case 211 ∷ [])) (at 12)

abbrev case_form : Clause → Node
case_form found = if found.span.first == 5 then two_cases else case 212

nested : body_of case_form (clause p 5 ∷ clause p 7 ∷ []) (predicate p) ≡ Disjunction (nodes_of (two_cases ∷ case 212 ∷ [])) (at 5)
nested = refl

nested_as_one : body_of case_form (clause p 5 ∷ clause p 7 ∷ []) (predicate p) ≡ Disjunction (nodes_of (case 210 ∷ case 211 ∷ case 212 ∷ [])) (at 5) → ⊥
nested_as_one wrong = cc

-- What private functions compute

-- of three clauses the second is one of q
headed-example : headed (predicate p) (paired (clause p 5 ∷ clause q 6 ∷ clause p 7 ∷ []) (first_form 5 ∷ first_form 6 ∷ first_form 7 ∷ []))
    ≡ (clause p 5, first_form 5) ∷ (clause p 7, first_form 7) ∷ []
headed-example = refl

paired-shorter : paired (clause p 5 ∷ clause q 6 ∷ []) (first_form 5 ∷ []) ≡ (clause p 5, first_form 5) ∷ []
paired-shorter = refl

body_of_pairs-example : body_of_pairs 1 ((clause p 5, first_form 5) ∷ (clause p 7, second_form 9 7) ∷ []) ≡ Disjunction (nodes_of (first_form 1 ∷ second_form 3 2 ∷ [])) (at 5)
body_of_pairs-example = refl

-- `some [X] ( q(X), q(Y) )` by its parts, each variable ten more
rebuilt-example : rebuilt (λ variable. 10 + variable)
    ((SimpleRoot (Call 1 (1 ∷ [])), at 20) ∷ (SimpleRoot (Call 1 (2 ∷ [])), at 22) ∷ (ConjunctionRoot 2, at 20) ∷ (QuantifiedRoot (1 ∷ []), at 18) ∷ []) []
    ≡ second_form 11 12 ∷ []
rebuilt-example = refl
