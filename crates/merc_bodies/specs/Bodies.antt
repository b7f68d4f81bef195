-- The bodies of predicates: the flat forms of their clauses as one goal, whose variables are numbered without gaps.
use Rattle.std.specs.Prelude.{ℕ, ◌+◌, Bool, false, ◌==◌, ◌&&◌, nat_le, nat_lt, List, [], ◌∷◌, length, map, if◌then◌else◌}
use Rattle.std.specs.List.{filter, position_or_len}
use Rattle.merc_tree.specs.Term.{Term, Variable, Integer, Text, Application, list_of, no_span}
use Rattle.merc_tree.specs.declared.declarations.PredDecl.{PredDecl}
use Rattle.merc_tree.specs.declared.declarations.Clause.{Clause}
use Rattle.merc_goal_tree.specs.Nodes.{Node, Simple, Disjunction, nodes_of}
use Rattle.merc_goal_tree.specs.Variables.{variables}
use Rattle.merc_goal_tree.specs.declared.goal.SimpleGoal.TheVariants.{Fail}
use Rattle.merc_bodies.specs.Renamed.{renamed}

-- a number put among rising ones, unless it is there
abbrev pub put_among : ℕ → List ℕ → List ℕ
put_among number [] = number ∷ []
put_among number (first ∷ rest) =
    if nat_lt number first then number ∷ first ∷ rest
    else if number == first then first ∷ rest
    else first ∷ put_among number rest

-- numbers, each once, in rising order
abbrev pub rising : List ℕ → List ℕ
rising [] = []
rising (first ∷ rest) = put_among first (rising rest)

-- the variables of a clause's flat form that are no arguments of the predicate, in the order of their numbers
abbrev pub own_variables : ℕ → Node → List ℕ
own_variables arity form = rising (filter (λ variable. nat_le arity variable) (variables form))

-- The arguments keep their numbers, and a clause's own variables have those from `at` on, in their order.
abbrev pub numbered : ℕ → ℕ → List ℕ → ℕ → ℕ
numbered arity at own variable = if nat_lt variable arity then variable else at + position_or_len (λ other. other == variable) own

-- The forms of a predicate's clauses, the own variables of each behind those of the clauses before it.
abbrev pub joined_forms : ℕ → ℕ → List Node → List Node
joined_forms arity at [] = []
joined_forms arity at (form ∷ forms) =
    renamed (numbered arity at (own_variables arity form)) form ∷ joined_forms arity (at + length (own_variables arity form)) forms

-- Several clauses are the disjuncts of one goal, which stands where the first of them does. A predicate without clauses fails.
abbrev pub as_one : List Clause → List Node → Node
as_one clauses [] = Simple Fail no_span
as_one clauses (only ∷ []) = only
as_one [] (first ∷ second ∷ rest) = Disjunction (nodes_of (first ∷ second ∷ rest)) no_span
as_one (clause ∷ clauses) (first ∷ second ∷ rest) = Disjunction (nodes_of (first ∷ second ∷ rest)) clause.span

-- whether a clause's head has a predicate's name and number of arguments
abbrev pub is_head : PredDecl → Term → Bool
is_head declared (Application name qualifier arguments span) = (name == declared.name) && (length (list_of arguments) == length declared.args)
is_head declared (Variable name span) = false
is_head declared (Integer value span) = false
is_head declared (Text text span) = false

-- the clauses of a predicate, in order
abbrev pub clauses_of : List Clause → PredDecl → List Clause
clauses_of clauses declared = filter (λ clause. is_head declared clause.head) clauses

-- The body of a predicate among these clauses, each of which has a flat form.
abbrev pub body_of : (Clause → Node) → List Clause → PredDecl → Node
body_of form clauses declared =
    as_one (clauses_of clauses declared) (joined_forms (length declared.args) (length declared.args) (map form (clauses_of clauses declared)))

-- a goal that is asked, its variables numbered from 0
abbrev pub asked_body : Node → Node
asked_body form = renamed (numbered 0 0 (own_variables 0 form)) form
