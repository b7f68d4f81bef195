-- The bodies of predicates and the numbers of their variables.
use Rattle.std.specs.Prelude.{◌≡◌, ℕ, ◌+◌, ◌<◌, ◌==◌, true, List, [], ◌∷◌, length, map}
use Rattle.std.specs.List.{list_any, range_with_len}
use Rattle.merc_tree.specs.declared.declarations.Clause.{Clause}
use Rattle.merc_tree.specs.declared.declarations.PredDecl.{PredDecl}
use Rattle.merc_goal_tree.specs.Nodes.{Node}
use Rattle.merc_goal_tree.specs.Variables.{variables}
use Rattle.merc_bodies.specs.Bodies.{asked_body, body_of, clauses_of, own_variables}

-- how many variables clauses of these forms have for themselves
abbrev pub own_count : ℕ → List Node → ℕ
own_count arity [] = 0
own_count arity (form ∷ forms) = length (own_variables arity form) + own_count arity forms

-- the same of a predicate among clauses with these forms
abbrev pub body_count : (Clause → Node) → List Clause → PredDecl → ℕ
body_count form clauses declared = own_count (length declared.args) (map form (clauses_of clauses declared))

-- The variables of a body that are no arguments are those behind the arguments, without gaps.
abbrev pub HasNoGaps : Type 0
HasNoGaps = (form : Clause → Node) (clauses : List Clause) (declared : PredDecl)
    → own_variables (length declared.args) (body_of form clauses declared) ≡ range_with_len (length declared.args) (body_count form clauses declared)

-- Each variable of a body is an argument or one of these.
abbrev pub AreBelow : Type 0
AreBelow = (form : Clause → Node) (clauses : List Clause) (declared : PredDecl) (variable : ℕ)
    → list_any (λ other. variable == other) (variables (body_of form clauses declared)) ≡ true → variable < length declared.args + body_count form clauses declared

-- Those of a goal that is asked are numbered from 0.
abbrev pub AskedHasNoGaps : Type 0
AskedHasNoGaps = (form : Node) → own_variables 0 (asked_body form) ≡ range_with_len 0 (length (own_variables 0 form))
