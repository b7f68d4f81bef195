-- Which variables of a goal are one variable.
use Rattle.std.specs.Prelude.{ℕ, ◌+◌, Bool, ◌==◌, not, nat_le, List, [], ◌∷◌, ◌++◌, Option, Some, None, if◌then◌else◌}
use Rattle.std.specs.List.{count_by, filter, flat_map, list_any}
use Rattle.merc_tree.specs.Term.{Term, Terms, Variable, Application, none, more}
use Rattle.merc_goals.specs.Written.{Written, WrittenGoals, Equal, Compared, Called, Conjunction, Parallel, Disjunction, Conditional, Negated, Quantified, no_goals, more_goals, parts}
use Rattle.merc_scopes.specs.declared.occurrence.Occurrence.{Occurrence}

abbrev pub occurrence : ℕ → ℕ → Occurrence
occurrence name at = record { name = name; at = at }

-- the number of the first of some occurrences that has a name
abbrev pub at_of : ℕ → List Occurrence → Option ℕ
at_of name [] = None
at_of name (first ∷ rest) = if first.name == name then Some first.at else at_of name rest

abbrev pub has_name : ℕ → List Occurrence → Bool
has_name name found = list_any (λ one. one.name == name) found

-- the others of some variables than those with these names
abbrev pub without : List ℕ → List Occurrence → List Occurrence
without names found = filter (λ one. not (list_any (λ name. one.name == name) names)) found

-- the first occurrence of a name, as a list
abbrev pub first_of : ℕ → List Occurrence → List Occurrence
first_of name [] = []
first_of name (first ∷ rest) = if first.name == name then first ∷ [] else first_of name rest

-- of names each once, where it first occurs; none of a name that does not occur
abbrev pub own : List ℕ → List Occurrence → List Occurrence
own [] found = []
own (name ∷ names) found = first_of name found ++ own names (without (name ∷ []) found)

-- the variables that occur in at least two of some goals, of which these are the variables
abbrev pub shared : List (List Occurrence) → List Occurrence
shared goals = filter (λ one. nat_le 2 (count_by (has_name one.name) goals)) (flat_map (λ goal. goal) goals)

-- Which names are `_` is given. Each `_` is a variable of its own.
module _ (blank : ℕ → Bool) where
  abbrev mutual
    -- the variables of a term whose number is this, in the order of the text
    pub occurrences : ℕ → Term → List Occurrence
    occurrences at (Variable name span) = if blank name then [] else occurrence name at ∷ []
    occurrences at (Application name qualifier arguments span) = occurrences_of (at + 2) arguments
    occurrences at other = []

    pub occurrences_of : ℕ → Terms → List Occurrence
    occurrences_of at none = []
    occurrences_of at (more first rest) = occurrences at first ++ occurrences_of (at + parts first) rest

  abbrev mutual
    -- the variables of a goal, in the order of the text, that stand outside every quantifier over them
    pub free : Written → List Occurrence
    free (Equal at left right span) = occurrences (at + 2) left ++ occurrences (at + 2 + parts left) right
    free (Compared at name left right span) = occurrences (at + 2) left ++ occurrences (at + 2 + parts left) right
    free (Called at name qualifier arguments span) = occurrences_of (at + 2) arguments
    free (Conjunction goals span) = all_free goals
    free (Parallel goals span) = all_free goals
    free (Disjunction goals span) = all_free goals
    free (Conditional condition then_part else_part span) = free condition ++ (free then_part ++ free else_part)
    free (Negated goal span) = free goal
    free (Quantified variables goal span) = without variables (free goal)
    free other = []

    pub all_free : WrittenGoals → List Occurrence
    all_free no_goals = []
    all_free (more_goals first rest) = free first ++ all_free rest

  -- the variables of each of some goals
  abbrev pub each_free : WrittenGoals → List (List Occurrence)
  each_free no_goals = []
  each_free (more_goals first rest) = free first ∷ each_free rest

  -- The variables that a goal brings with it for all that it holds, where they are not known around it: a goal that holds no others brings its own; a
  -- conjunction those of at least two conjuncts; an if-then-else, for its condition and its then part, those of both; and a quantifier those that it names.
  abbrev pub introduced : Written → List Occurrence
  introduced (Equal at left right span) = free (Equal at left right span)
  introduced (Compared at name left right span) = free (Compared at name left right span)
  introduced (Called at name qualifier arguments span) = free (Called at name qualifier arguments span)
  introduced (Conjunction goals span) = shared (each_free goals)
  introduced (Parallel goals span) = shared (each_free goals)
  introduced (Conditional condition then_part else_part span) = shared (free condition ∷ free then_part ∷ [])
  introduced (Quantified variables goal span) = own variables (free goal)
  introduced other = []
