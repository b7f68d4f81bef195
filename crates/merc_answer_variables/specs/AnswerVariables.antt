-- The answer variables of a goal.
use Rattle.std.specs.Prelude.{ℕ, ◌+◌, Bool, false, ◌==◌, ◌&&◌, ◌||◌, not, nat_lt, List, [], ◌∷◌, if◌then◌else◌}
use Rattle.std.specs.List.{count_by, filter, list_any}
use Rattle.merc_value.specs.Text.{text_at, is_blank}
use Rattle.merc_goals.specs.Written.{Written, WrittenGoals, Conjunction, Parallel, Disjunction, Conditional, Negated, Quantified, no_goals, more_goals}
use Rattle.merc_scopes.specs.declared.occurrence.Occurrence.{Occurrence}
use Rattle.merc_scopes.specs.Scopes.{free}

-- The answer variables of a goal: those whose name does not begin with `_` and that occur outside every quantifier over them, unless all their occurrences
-- lie in one negated goal, or in the condition and the then part of one if-then-else with at least one in the condition.

-- the code of `_`
abbrev pub underscore : ℕ
underscore = 95

abbrev pub begins_with_underscore : List ℕ → Bool
begins_with_underscore [] = false
begins_with_underscore (first ∷ rest) = first == underscore

-- each name where it first stands
abbrev pub firsts : List ℕ → List Occurrence → List Occurrence
firsts seen [] = []
firsts seen (first ∷ rest) = if list_any (λ name. first.name == name) seen then firsts seen rest else first ∷ firsts (first.name ∷ seen) rest

abbrev pub count_of : ℕ → List Occurrence → ℕ
count_of name found = count_by (λ one. one.name == name) found

module _ (names : List (List ℕ)) where
  abbrev pub count_in : ℕ → Written → ℕ
  count_in name goal = count_of name (free (is_blank names) goal)

  abbrev mutual
    -- whether all the occurrences of a variable, of which there are so many, lie so
    pub is_hidden : ℕ → ℕ → Written → Bool
    is_hidden name count (Negated goal span) = (count_in name goal == count) || is_hidden name count goal
    is_hidden name count (Conditional condition then_part else_part span) =
        (nat_lt 0 (count_in name condition) && (count_in name condition + count_in name then_part == count))
        || is_hidden name count condition || is_hidden name count then_part || is_hidden name count else_part
    is_hidden name count (Quantified variables goal span) = not (list_any (λ other. other == name) variables) && is_hidden name count goal
    is_hidden name count (Conjunction goals span) = is_hidden_among name count goals
    is_hidden name count (Parallel goals span) = is_hidden_among name count goals
    is_hidden name count (Disjunction goals span) = is_hidden_among name count goals
    is_hidden name count other = false

    pub is_hidden_among : ℕ → ℕ → WrittenGoals → Bool
    is_hidden_among name count no_goals = false
    is_hidden_among name count (more_goals first rest) = is_hidden name count first || is_hidden_among name count rest

  abbrev pub is_answer : Written → Occurrence → Bool
  is_answer goal one = not (begins_with_underscore (text_at names one.name)) && not (is_hidden one.name (count_in one.name goal) goal)

  -- in the order in which they first occur
  abbrev pub answer_variables : Written → List Occurrence
  answer_variables goal = firsts [] (filter (is_answer goal) (free (is_blank names) goal))
