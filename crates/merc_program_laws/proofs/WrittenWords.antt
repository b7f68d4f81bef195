-- The integers of a goal as it is written are those of its term.
use Rattle.std.proofs.Common.{ℕ, ◌+◌, Bool, true, false, ◌==◌, ◌||◌, List, Option, Some, None, if◌then◌else◌}
use Rattle.merc_base.specs.Names.{all_name, ampersand_name, arrow_name, at_least_name, at_most_name, colon_colon_name, comma_name, else_name, equal_equal_name, equal_name, equivalent_name, fail_name, false_name, greater_name, if_name, implies_name, is_name, less_name, not_equal_name, not_name, not_provable_name, semicolon_name, some_name, then_name, true_name}
use Rattle.merc_base.specs.declared.place.Span.{Span}
use Rattle.merc_tree.specs.Term.{Term, Variable, Integer, Text, Application, none, more, HasWords, HaveWords}
use Rattle.merc_goals.specs.Written.{Written, WrittenGoals, Truth, Failure, Equal, Compared, Called, Conjunction, Parallel, Disjunction, Conditional, Negated, Quantified, WrongForm, OutsideProfile, no_goals, more_goals, alternatives, arrow_parts, binary, conditional, conjuncts, disjuncts, if_then_parts, joined, listed_variables, nullary, parallel_conjuncts, parts, quantified, then_parts, written}
use Rattle.merc_program_laws.proofs.Lists.{if_holds}

abbrev mutual
  -- each integer of a goal has 64 bits
  pub GoalHasWords : Written → Type 0
  GoalHasWords (Equal at left right span) = HasWords left × HasWords right
  GoalHasWords (Compared at name left right span) = HasWords left × HasWords right
  GoalHasWords (Called at name qualifier arguments span) = HaveWords arguments
  GoalHasWords (Conjunction goals span) = GoalsHaveWords goals
  GoalHasWords (Parallel goals span) = GoalsHaveWords goals
  GoalHasWords (Disjunction goals span) = GoalsHaveWords goals
  GoalHasWords (Conditional condition then_part else_part span) = GoalHasWords condition × GoalHasWords then_part × GoalHasWords else_part
  GoalHasWords (Negated goal span) = GoalHasWords goal
  GoalHasWords (Quantified variables goal span) = GoalHasWords goal
  GoalHasWords other = Unit {0}

  pub GoalsHaveWords : WrittenGoals → Type 0
  GoalsHaveWords no_goals = Unit {0}
  GoalsHaveWords (more_goals first rest) = GoalHasWords first × GoalsHaveWords rest

-- of both goals, where there are two
abbrev BothHaveWords : Option (Written × Written) → Type 0
BothHaveWords None = Unit {0}
BothHaveWords (Some both) = GoalHasWords both.0 × GoalHasWords both.1

joined_words : (goals others : WrittenGoals) → GoalsHaveWords goals → GoalsHaveWords others → GoalsHaveWords (joined goals others)
joined_words no_goals others h k = k
joined_words (more_goals first rest) others h k = (h.0, joined_words rest others h.1 k)

by_if : (b : Bool) (one other : Written) → GoalHasWords one → GoalHasWords other → GoalHasWords (if b then one else other)
by_if b one other h k = if_holds GoalHasWords b one other h k

conjuncts_words : (goal : Written) → GoalHasWords goal → GoalsHaveWords (conjuncts goal)
conjuncts_words (Truth span) h = (h, tt)
conjuncts_words (Failure span) h = (h, tt)
conjuncts_words (Equal at left right span) h = (h, tt)
conjuncts_words (Compared at name left right span) h = (h, tt)
conjuncts_words (Called at name qualifier arguments span) h = (h, tt)
conjuncts_words (Conjunction goals span) h = h
conjuncts_words (Parallel goals span) h = (h, tt)
conjuncts_words (Disjunction goals span) h = (h, tt)
conjuncts_words (Conditional condition then_part else_part span) h = (h, tt)
conjuncts_words (Negated goal span) h = (h, tt)
conjuncts_words (Quantified variables goal span) h = (h, tt)
conjuncts_words (WrongForm span) h = (h, tt)
conjuncts_words (OutsideProfile span) h = (h, tt)

parallel_words : (goal : Written) → GoalHasWords goal → GoalsHaveWords (parallel_conjuncts goal)
parallel_words (Truth span) h = (h, tt)
parallel_words (Failure span) h = (h, tt)
parallel_words (Equal at left right span) h = (h, tt)
parallel_words (Compared at name left right span) h = (h, tt)
parallel_words (Called at name qualifier arguments span) h = (h, tt)
parallel_words (Conjunction goals span) h = (h, tt)
parallel_words (Parallel goals span) h = h
parallel_words (Disjunction goals span) h = (h, tt)
parallel_words (Conditional condition then_part else_part span) h = (h, tt)
parallel_words (Negated goal span) h = (h, tt)
parallel_words (Quantified variables goal span) h = (h, tt)
parallel_words (WrongForm span) h = (h, tt)
parallel_words (OutsideProfile span) h = (h, tt)

disjuncts_words : (goal : Written) → GoalHasWords goal → GoalsHaveWords (disjuncts goal)
disjuncts_words (Truth span) h = (h, tt)
disjuncts_words (Failure span) h = (h, tt)
disjuncts_words (Equal at left right span) h = (h, tt)
disjuncts_words (Compared at name left right span) h = (h, tt)
disjuncts_words (Called at name qualifier arguments span) h = (h, tt)
disjuncts_words (Conjunction goals span) h = (h, tt)
disjuncts_words (Parallel goals span) h = (h, tt)
disjuncts_words (Disjunction goals span) h = h
disjuncts_words (Conditional condition then_part else_part span) h = (h, tt)
disjuncts_words (Negated goal span) h = (h, tt)
disjuncts_words (Quantified variables goal span) h = (h, tt)
disjuncts_words (WrongForm span) h = (h, tt)
disjuncts_words (OutsideProfile span) h = (h, tt)

quantified_words : (universal : Bool) (variables : Option (List ℕ)) (goal : Written) (span : Span) → GoalHasWords goal → GoalHasWords (quantified universal variables goal span)
quantified_words true None goal span h = tt
quantified_words false None goal span h = tt
quantified_words true (Some variables) goal span h = h
quantified_words false (Some variables) goal span h = h

nullary_words : (at name : ℕ) (span : Span) → GoalHasWords (nullary at name span)
nullary_words at name span = by_if (name == true_name) _ _ tt (by_if ((name == fail_name) || (name == false_name)) (Failure span) (Called at name None none span) tt tt)

conditional_words : (both : Option (Written × Written)) (else_part : Written) (span : Span) → BothHaveWords both → GoalHasWords else_part → GoalHasWords (conditional both else_part span)
conditional_words None else_part span h k = tt
conditional_words (Some both) else_part span h k = (h.0, h.1, k)

alternatives_words : (both : Option (Written × Written)) (first second : Written) (span : Span) → BothHaveWords both → GoalHasWords first → GoalHasWords second
    → GoalHasWords (alternatives both first second span)
alternatives_words (Some both) first second span h f s = (h.0, h.1, s)
alternatives_words None first second span h f s = joined_words (disjuncts first) (disjuncts second) (disjuncts_words first f) (disjuncts_words second s)

-- Given is a goal with two arguments, and what its arguments are.
module _ (at name : ℕ) (left right : Term) (first second : Written) (arrow if_then : Option (Written × Written)) (span : Span)
    (l : HasWords left) (r : HasWords right) (f : GoalHasWords first) (s : GoalHasWords second) (a : BothHaveWords arrow) (i : BothHaveWords if_then) where
  binary_words : GoalHasWords (binary at name left right first second arrow if_then span)
  binary_words =
      by_if (name == comma_name) _ _ (joined_words (conjuncts first) (conjuncts second) (conjuncts_words first f) (conjuncts_words second s))
      (by_if (name == ampersand_name) _ _ (joined_words (parallel_conjuncts first) (parallel_conjuncts second) (parallel_words first f) (parallel_words second s))
      (by_if (name == semicolon_name) _ _ (alternatives_words arrow first second span a f s)
      (by_if (name == else_name) _ _ (conditional_words if_then second span i s)
      (by_if ((name == arrow_name) || (name == then_name)) _ _ tt
      (by_if (name == some_name) _ _ (quantified_words false (listed_variables left) second span s)
      (by_if (name == all_name) _ _ (quantified_words true (listed_variables left) second span s)
      (by_if (name == equal_name) _ _ (l, r)
      (by_if (name == not_equal_name) _ _ (l, r)
      (by_if ((name == less_name) || (name == greater_name) || (name == at_most_name) || (name == at_least_name)) _ _ (l, r)
      (by_if ((name == implies_name) || (name == equivalent_name) || (name == is_name) || (name == equal_equal_name) || (name == colon_colon_name)) (OutsideProfile span)
      (Called at name None (more left (more right none)) span) tt (l, (r, tt))))))))))))

both_if : (b : Bool) (both : Option (Written × Written)) → BothHaveWords both → BothHaveWords (if b then both else None)
both_if b both h = if_holds BothHaveWords b both None h tt

mutual
  pub written_words : (at : ℕ) (term : Term) → HasWords term → GoalHasWords (written at term)
  written_words at (Variable name span) words = tt
  written_words at (Integer value span) words = tt
  written_words at (Text text span) words = tt
  written_words at (Application name None none span) words = nullary_words at name span
  written_words at (Application name None (more only none) span) words =
      by_if ((name == not_name) || (name == not_provable_name)) (Negated (written (at + 2) only) span) _ (written_words (at + 2) only words.0)
      (by_if (name == if_name) (WrongForm span) (Called at name None (more only none) span) tt words)
  written_words at (Application name None (more left (more right none)) span) words =
      binary_words at name left right (written (at + 2) left) (written (at + 2 + parts left) right) (arrow_parts (at + 2) left) (if_then_parts (at + 2) left) span
      words.0 words.1.0 (written_words (at + 2) left words.0) (written_words (at + 2 + parts left) right words.1.0) (arrow_words (at + 2) left words.0) (if_then_words (at + 2) left words.0)
  written_words at (Application name None (more first (more second (more third rest))) span) words = words
  written_words at (Application name (Some qualifier) arguments span) words = words

  arrow_words : (at : ℕ) (term : Term) → HasWords term → BothHaveWords (arrow_parts at term)
  arrow_words at (Application name None (more left (more right none)) span) words =
      both_if (name == arrow_name) (Some (written (at + 2) left, written (at + 2 + parts left) right)) (written_words (at + 2) left words.0, written_words (at + 2 + parts left) right words.1.0)
  arrow_words at (Application name None none span) words = tt
  arrow_words at (Application name None (more only none) span) words = tt
  arrow_words at (Application name None (more first (more second (more third rest))) span) words = tt
  arrow_words at (Application name (Some qualifier) arguments span) words = tt
  arrow_words at (Variable name span) words = tt
  arrow_words at (Integer value span) words = tt
  arrow_words at (Text text span) words = tt

  if_then_words : (at : ℕ) (term : Term) → HasWords term → BothHaveWords (if_then_parts at term)
  if_then_words at (Application name None (more only none) span) words = both_if (name == if_name) (then_parts (at + 2) only) (then_words (at + 2) only words.0)
  if_then_words at (Application name None none span) words = tt
  if_then_words at (Application name None (more first (more second rest)) span) words = tt
  if_then_words at (Application name (Some qualifier) arguments span) words = tt
  if_then_words at (Variable name span) words = tt
  if_then_words at (Integer value span) words = tt
  if_then_words at (Text text span) words = tt

  then_words : (at : ℕ) (term : Term) → HasWords term → BothHaveWords (then_parts at term)
  then_words at (Application name None (more left (more right none)) span) words =
      both_if (name == then_name) (Some (written (at + 2) left, written (at + 2 + parts left) right)) (written_words (at + 2) left words.0, written_words (at + 2 + parts left) right words.1.0)
  then_words at (Application name None none span) words = tt
  then_words at (Application name None (more only none) span) words = tt
  then_words at (Application name None (more first (more second (more third rest))) span) words = tt
  then_words at (Application name (Some qualifier) arguments span) words = tt
  then_words at (Variable name span) words = tt
  then_words at (Integer value span) words = tt
  then_words at (Text text span) words = tt
