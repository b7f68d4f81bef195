-- What a term is as a goal, and where its parts stand.
use Rattle.std.specs.Prelude.{ℕ, ◌+◌, Bool, true, false, ◌==◌, ◌||◌, List, [], ◌∷◌, Option, Some, None, if◌then◌else◌}
use Rattle.std.specs.Option.{option_map}
use Rattle.merc_base.specs.Names.{all_name, ampersand_name, arrow_name, at_least_name, at_most_name, colon_colon_name, comma_name, cons_name, else_name, equal_equal_name, equal_name, equivalent_name, fail_name, false_name, greater_name, if_name, implies_name, is_name, less_name, nil_name, not_equal_name, not_name, not_provable_name, semicolon_name, some_name, then_name, true_name}
use Rattle.merc_base.specs.declared.place.Span.{Span}
use Rattle.merc_tree.specs.Term.{Term, Terms, Variable, Application, none, more, span_of}

-- The parts of a clause or a goal are numbered in the order of its text: a term stands before its arguments, and these from the left. Each part has two
-- numbers. The first is its own; the second is that of the 0 in `0 - E`, which a prefix `-` means.

abbrev mutual
  -- how many numbers a term and its parts have
  pub parts : Term → ℕ
  parts (Application name qualifier arguments span) = 2 + parts_of arguments
  parts other = 2

  pub parts_of : Terms → ℕ
  parts_of none = 0
  parts_of (more first rest) = parts first + parts_of rest

-- A goal as it is written. `at` is the number of the goal's term among the parts, its arguments stand behind it.
mutual
  pub data Written : Type 0 where
    Truth : (span : Span) → Written
    Failure : (span : Span) → Written
    Equal : (at : ℕ) (left right : Term) (span : Span) → Written
    Compared : (at name : ℕ) (left right : Term) (span : Span) → Written
    Called : (at name : ℕ) (qualifier : Option ℕ) (arguments : Terms) (span : Span) → Written
    Conjunction : (conjuncts : WrittenGoals) (span : Span) → Written
    Parallel : (conjuncts : WrittenGoals) (span : Span) → Written
    Disjunction : (disjuncts : WrittenGoals) (span : Span) → Written
    Conditional : (condition then_part else_part : Written) (span : Span) → Written
    Negated : (goal : Written) (span : Span) → Written
    Quantified : (variables : List ℕ) (goal : Written) (span : Span) → Written
    WrongForm : (span : Span) → Written
    OutsideProfile : (span : Span) → Written

  pub data WrittenGoals : Type 0 where
    no_goals : WrittenGoals
    more_goals : (first : Written) (rest : WrittenGoals) → WrittenGoals

abbrev pub written_span : Written → Span
written_span (Truth span) = span
written_span (Failure span) = span
written_span (Equal at left right span) = span
written_span (Compared at name left right span) = span
written_span (Called at name qualifier arguments span) = span
written_span (Conjunction goals span) = span
written_span (Parallel goals span) = span
written_span (Disjunction goals span) = span
written_span (Conditional condition then_part else_part span) = span
written_span (Negated goal span) = span
written_span (Quantified variables goal span) = span
written_span (WrongForm span) = span
written_span (OutsideProfile span) = span

abbrev pub joined : WrittenGoals → WrittenGoals → WrittenGoals
joined no_goals others = others
joined (more_goals first rest) others = more_goals first (joined rest others)

-- A chain of one operator is one list, however it is put in parentheses.

abbrev pub conjuncts : Written → WrittenGoals
conjuncts (Conjunction goals span) = goals
conjuncts other = more_goals other no_goals

abbrev pub parallel_conjuncts : Written → WrittenGoals
parallel_conjuncts (Parallel goals span) = goals
parallel_conjuncts other = more_goals other no_goals

abbrev pub disjuncts : Written → WrittenGoals
disjuncts (Disjunction goals span) = goals
disjuncts other = more_goals other no_goals

-- the variables of a proper list of variables
abbrev pub listed_variables : Term → Option (List ℕ)
listed_variables (Application name None none span) = if name == nil_name then Some [] else None
listed_variables (Application name None (more (Variable variable place) (more rest none)) span) =
    if name == cons_name then option_map (λ others. variable ∷ others) (listed_variables rest) else None
listed_variables other = None

-- `some [X, ..] G`, and `all [X, ..] G`, which is `not some [X, ..] not G`
abbrev pub quantified : Bool → Option (List ℕ) → Written → Span → Written
quantified universal None goal span = WrongForm span
quantified true (Some variables) goal span = Negated (Quantified variables (Negated goal span) span) span
quantified false (Some variables) goal span = Quantified variables goal span

-- a goal without arguments
abbrev pub nullary : ℕ → ℕ → Span → Written
nullary at name span =
    if name == true_name then Truth span
    else if (name == fail_name) || (name == false_name) then Failure span
    else Called at name None none span

-- `if then else`, where a condition and a then part stand before the `else`
abbrev pub conditional : Option (Written × Written) → Written → Span → Written
conditional None else_part span = WrongForm span
conditional (Some parts) else_part span = Conditional parts.0 parts.1 else_part span

-- `C -> T ; E` and `A ; B`
abbrev pub alternatives : Option (Written × Written) → Written → Written → Span → Written
alternatives (Some parts) first second span = Conditional parts.0 parts.1 second span
alternatives None first second span = Disjunction (joined (disjuncts first) (disjuncts second)) span

-- A goal with two arguments, of which these are the goals that they are, the parts of the first as `C -> T` and as `if C then T`, and its list of variables
abbrev pub binary : ℕ → ℕ → Term → Term → Written → Written → Option (Written × Written) → Option (Written × Written) → Span → Written
binary at name left right first second arrow if_then span =
    if name == comma_name then Conjunction (joined (conjuncts first) (conjuncts second)) span
    else if name == ampersand_name then Parallel (joined (parallel_conjuncts first) (parallel_conjuncts second)) span
    else if name == semicolon_name then alternatives arrow first second span
    else if name == else_name then conditional if_then second span
    else if (name == arrow_name) || (name == then_name) then WrongForm span
    else if name == some_name then quantified false (listed_variables left) second span
    else if name == all_name then quantified true (listed_variables left) second span
    else if name == equal_name then Equal at left right span
    else if name == not_equal_name then Negated (Equal at left right span) span
    else if (name == less_name) || (name == greater_name) || (name == at_most_name) || (name == at_least_name) then Compared at name left right span
    else if (name == implies_name) || (name == equivalent_name) || (name == is_name) || (name == equal_equal_name) || (name == colon_colon_name) then OutsideProfile span
    else Called at name None (more left (more right none)) span

abbrev mutual
  -- the goal that a term is, whose number among the parts is this
  pub written : ℕ → Term → Written
  written at (Variable name span) = OutsideProfile span
  written at (Application name None none span) = nullary at name span
  written at (Application name None (more only none) span) =
      if (name == not_name) || (name == not_provable_name) then Negated (written (at + 2) only) span
      else if name == if_name then WrongForm span
      else Called at name None (more only none) span
  written at (Application name None (more left (more right none)) span) =
      binary at name left right (written (at + 2) left) (written (at + 2 + parts left) right) (arrow_parts (at + 2) left) (if_then_parts (at + 2) left) span
  written at (Application name qualifier arguments span) = Called at name qualifier arguments span
  written at other = WrongForm (span_of other)

  -- both sides of `C -> T`
  pub arrow_parts : ℕ → Term → Option (Written × Written)
  arrow_parts at (Application name None (more left (more right none)) span) =
      if name == arrow_name then Some (written (at + 2) left, written (at + 2 + parts left) right) else None
  arrow_parts at other = None

  -- the condition and the then part of `if C then T`
  pub if_then_parts : ℕ → Term → Option (Written × Written)
  if_then_parts at (Application name None (more only none) span) = if name == if_name then then_parts (at + 2) only else None
  if_then_parts at other = None

  pub then_parts : ℕ → Term → Option (Written × Written)
  then_parts at (Application name None (more left (more right none)) span) =
      if name == then_name then Some (written (at + 2) left, written (at + 2 + parts left) right) else None
  then_parts at other = None
