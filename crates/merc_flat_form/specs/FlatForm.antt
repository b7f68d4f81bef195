-- The flat form of a goal: each argument and operand is a variable. A variable has the number of the part where it first stands in its scope, and a part
-- that is no variable is named by the variable of its own number.
use Rattle.std.specs.Prelude.{ℕ, ◌+◌, Bool, ◌==◌, ◌&&◌, ◌||◌, false, is_none, List, [], ◌∷◌, ◌++◌, map, length, Option, Some, None, unwrap_or, if◌then◌else◌, pos}
use Rattle.merc_base.specs.Names.{at_least_name, at_most_name, div_name, greater_name, less_name, minus_name, mod_name, plus_name, rem_name, slash_slash_name, star_name}
use Rattle.merc_base.specs.declared.place.Span.{Span}
use Rattle.merc_tree.specs.Term.{Term, Terms, Variable, Integer, Text, Application, none, more, list_of}
use Rattle.merc_goals.specs.Written.{Written, WrittenGoals, Truth, Failure, Equal, Compared, Called, Conjunction as WrittenConjunction, Parallel as WrittenParallel, Disjunction as WrittenDisjunction, Conditional as WrittenConditional, Negated, Quantified as WrittenQuantified, no_goals, more_goals, parts, written, written_span}
use Rattle.merc_goal_tree.specs.Nodes.{Node, Nodes, Simple, Conjunction, Parallel, Disjunction, Conditional, Negation, Quantified, no_nodes, more_nodes, nodes_of}
use Rattle.merc_goal_tree.specs.declared.goal.SimpleGoal.{SimpleGoal}
use Rattle.merc_goal_tree.specs.declared.goal.SimpleGoal.TheVariants.{True, Fail, Same, Shape, Arithmetic, Compare, Raise, Call}
use Rattle.merc_goal_tree.specs.declared.goal.Symbol.TheVariants.{Constructor, Integer as IntegerSymbol, Text as TextSymbol}
use Rattle.merc_goal_tree.specs.declared.goal.Operation.{Operation}
use Rattle.merc_goal_tree.specs.declared.goal.Operation.TheVariants.{Add, Subtract, Multiply, Quotient, Div, Mod, Rem}
use Rattle.merc_goal_tree.specs.declared.goal.Comparison.{Comparison}
use Rattle.merc_goal_tree.specs.declared.goal.Comparison.TheVariants.{Less, Greater, AtMost, AtLeast}
use Rattle.merc_name_resolution.specs.declared.callee.Callee.{Callee}
use Rattle.merc_name_resolution.specs.declared.callee.Callee.TheVariants.{Predicate, Error}
use Rattle.merc_scopes.specs.declared.occurrence.Occurrence.{Occurrence}
use Rattle.merc_scopes.specs.Scopes.{at_of, introduced, occurrence, occurrences}

-- `- E`
abbrev pub is_negation : ℕ → Option ℕ → Terms → Bool
is_negation name qualifier (more only none) = (name == minus_name) && is_none qualifier
is_negation name qualifier other = false

-- `+` `-` `*` `//` `div` `mod` `rem`
abbrev pub operation_of : ℕ → Option Operation
operation_of name =
    if name == plus_name then Some Add
    else if name == minus_name then Some Subtract
    else if name == star_name then Some Multiply
    else if name == slash_slash_name then Some Quotient
    else if name == div_name then Some Div
    else if name == mod_name then Some Mod
    else if name == rem_name then Some Rem
    else None

-- `<` `>` `=<` `>=`
abbrev pub comparison_of : ℕ → Option Comparison
comparison_of name =
    if name == less_name then Some Less
    else if name == greater_name then Some Greater
    else if name == at_most_name then Some AtMost
    else if name == at_least_name then Some AtLeast
    else None

-- the comparison of two variables, none for a name that is no comparison's
abbrev pub compare : Option Comparison → ℕ → ℕ → List SimpleGoal
compare None left right = []
compare (Some comparison) left right = Compare comparison left right ∷ []

-- the number of the variable that a name stands for
abbrev pub variable_of : List Occurrence → ℕ → ℕ
variable_of scope name = unwrap_or (at_of name scope) 0

-- goals one after the other as one goal
abbrev pub one_goal : Span → List Node → Node
one_goal span [] = Simple True span
one_goal span (only ∷ []) = only
one_goal span (first ∷ second ∷ rest) = Conjunction (nodes_of (first ∷ second ∷ rest)) span

-- the arguments of a term, as they stand in it
abbrev pub argument_terms : Term → Terms
argument_terms (Application name qualifier arguments span) = arguments
argument_terms other = none

-- a call of a predicate, or an exception; `error` has one argument alone
abbrev pub call_of : Callee → List ℕ → List SimpleGoal
call_of (Predicate number) arguments = Call number arguments ∷ []
call_of Error (text ∷ []) = Raise text ∷ []
call_of Error other = []

-- Given is which names are `_`.
module _ (blank : ℕ → Bool) where
  -- the variable that stands for a term: its own, or the one that names it
  abbrev pub variable_at : List Occurrence → ℕ → Term → ℕ
  variable_at scope at (Variable name span) = if blank name then at else variable_of scope name
  variable_at scope at other = at

  abbrev pub variables_at : List Occurrence → ℕ → Terms → List ℕ
  variables_at scope at none = []
  variables_at scope at (more first rest) = variable_at scope at first ∷ variables_at scope (at + parts first) rest

  -- an operation's result over the variables of its operands, of which one alone is taken from 0; or a constructor
  abbrev pub applied : Option Operation → ℕ → ℕ → List ℕ → List SimpleGoal → List SimpleGoal
  applied (Some operation) variable name (left ∷ right ∷ []) inner = inner ++ Arithmetic operation variable left right ∷ []
  applied operation variable name arguments inner = Shape variable (Constructor name (length arguments)) arguments ∷ inner

  abbrev mutual
    -- the goals by which a variable has the value of a term of this number
    pub naming : List Occurrence → ℕ → ℕ → Term → List SimpleGoal
    naming scope variable at (Integer value span) = Shape variable (IntegerSymbol value) [] ∷ []
    naming scope variable at (Text text span) = Shape variable (TextSymbol text) [] ∷ []
    naming scope variable at (Application name qualifier arguments span) =
        if is_negation name qualifier arguments
        then Shape (at + 1) (IntegerSymbol (pos 0)) [] ∷ applied (Some Subtract) variable name ((at + 1) ∷ variables_at scope (at + 2) arguments) (naming_all scope (at + 2) arguments)
        else applied (if is_none qualifier then operation_of name else None) variable name (variables_at scope (at + 2) arguments) (naming_all scope (at + 2) arguments)
    naming scope variable at other = Same variable (variable_at scope at other) ∷ []

    -- those by which the variables that stand for terms have their values
    pub naming_all : List Occurrence → ℕ → Terms → List SimpleGoal
    naming_all scope at none = []
    naming_all scope at (more (Variable name span) rest) = naming_all scope (at + 2) rest
    naming_all scope at (more first rest) = naming scope at at first ++ naming_all scope (at + parts first) rest

  -- `L = R`, where a variable stands for the other side, or a fresh one for both
  abbrev pub equal : List Occurrence → ℕ → Term → Term → List SimpleGoal
  equal scope at (Variable name span) right = naming scope (variable_at scope (at + 2) (Variable name span)) (at + 4) right
  equal scope at left (Variable name span) = naming scope (variable_at scope (at + 2 + parts left) (Variable name span)) (at + 2) left
  equal scope at left right = naming scope at (at + 2) left ++ naming scope at (at + 2 + parts left) right

  abbrev pub compared : List Occurrence → ℕ → ℕ → Term → Term → List SimpleGoal
  compared scope at name left right =
      naming_all scope (at + 2) (more left (more right none))
      ++ compare (comparison_of name) (variable_at scope (at + 2) left) (variable_at scope (at + 2 + parts left) right)

  -- a call of what its name means
  abbrev pub called : List Occurrence → ℕ → Callee → Terms → List SimpleGoal
  called scope at callee arguments = naming_all scope (at + 2) arguments ++ call_of callee (variables_at scope (at + 2) arguments)

  -- Heads: an argument that is a variable which was not met before in the head is the predicate's own variable, whose number is that of the argument.

  abbrev pub head_scope : ℕ → ℕ → Terms → List Occurrence
  head_scope number at none = []
  head_scope number at (more (Variable name span) rest) = (if blank name then [] else occurrence name number ∷ []) ++ head_scope (number + 1) (at + 2) rest
  head_scope number at (more first rest) = occurrences blank at first ++ head_scope (number + 1) (at + parts first) rest

  abbrev pub head_goal : List Occurrence → ℕ → ℕ → Term → List SimpleGoal
  head_goal scope number at (Variable name span) =
      if blank name || (variable_of scope name == number) then [] else Same number (variable_of scope name) ∷ []
  head_goal scope number at other = naming scope number at other

  abbrev pub head_goals : List Occurrence → ℕ → ℕ → Terms → List SimpleGoal
  head_goals scope number at none = []
  head_goals scope number at (more first rest) = head_goal scope number at first ++ head_goals scope (number + 1) (at + parts first) rest

abbrev pub simple : Span → List SimpleGoal → List Node
simple span goals = map (λ goal. Simple goal span) goals

-- Given are which names are `_`, and what a name with a qualifier and so many arguments calls.
module _ (blank : ℕ → Bool) (callee : ℕ → Option ℕ → ℕ → Callee) where
  abbrev mutual
    -- The goals that a goal becomes, one after the other, where some names stand for variables already. Any other name stands for a variable of the
    -- smallest goal that holds all its occurrences; where that is a disjunction, or an if-then-else and it occurs in its else part and before it, for
    -- a variable of each.
    pub flat : List Occurrence → Written → List Node
    flat scope (Truth span) = Simple True span ∷ []
    flat scope (Failure span) = Simple Fail span ∷ []
    flat scope (Equal at left right span) = simple span (equal blank (scope ++ introduced blank (Equal at left right span)) at left right)
    flat scope (Compared at name left right span) = simple span (compared blank (scope ++ introduced blank (Compared at name left right span)) at name left right)
    flat scope (Called at name qualifier arguments span) = simple span (called blank (scope ++ introduced blank (Called at name qualifier arguments span)) at (callee name qualifier (length (list_of arguments))) arguments)
    flat scope (WrittenConjunction goals span) = flat_all (scope ++ introduced blank (WrittenConjunction goals span)) goals
    flat scope (WrittenParallel goals span) = Parallel (flat_each (scope ++ introduced blank (WrittenParallel goals span)) goals) span ∷ []
    flat scope (WrittenDisjunction goals span) = Disjunction (flat_each scope goals) span ∷ []
    flat scope (WrittenConditional condition then_part else_part span) =
        let region = scope ++ introduced blank (WrittenConditional condition then_part else_part span) in
        Conditional (one_goal (written_span condition) (flat region condition)) (one_goal (written_span then_part) (flat region then_part)) (one_goal (written_span else_part) (flat scope else_part)) span ∷ []
    flat scope (Negated goal span) = Negation (one_goal (written_span goal) (flat scope goal)) span ∷ []
    flat scope (WrittenQuantified variables goal span) =
        let known = introduced blank (WrittenQuantified variables goal span) in
        Quantified (map (λ one. one.at) known) (one_goal (written_span goal) (flat (known ++ scope) goal)) span ∷ []
    flat scope other = []

    -- of goals in a conjunction all of them, of others one for each
    pub flat_all : List Occurrence → WrittenGoals → List Node
    flat_all scope no_goals = []
    flat_all scope (more_goals first rest) = flat scope first ++ flat_all scope rest

    pub flat_each : List Occurrence → WrittenGoals → Nodes
    flat_each scope no_goals = no_nodes
    flat_each scope (more_goals first rest) = more_nodes (one_goal (written_span first) (flat scope first)) (flat_each scope rest)

  abbrev pub body_goals : List Occurrence → ℕ → Option Term → List Node
  body_goals scope at None = []
  body_goals scope at (Some body) = flat scope (written at body)

  -- the goal of a clause, whose parts have the numbers from this one on
  abbrev pub clause_goal : ℕ → Term → Option Term → Span → Node
  clause_goal at head body span =
      let scope = head_scope blank 0 (at + 2) (argument_terms head) in
      one_goal span (simple span (head_goals blank scope 0 (at + 2) (argument_terms head)) ++ body_goals scope (at + parts head) body)
