-- The parts of a goal that are of no form or outside the profile, and its widest parallel conjunction.
use Rattle.std.specs.Prelude.{ℕ, nat_le, List, [], ◌∷◌, ◌++◌, length, max, Option, Some, None, if◌then◌else◌}
use Rattle.merc_base.specs.Places.{place_of}
use Rattle.merc_base.specs.declared.place.Span.{Span}
use Rattle.merc_base.specs.declared.refusal.Refusal.{Refusal}
use Rattle.merc_base.specs.declared.refusal.Rule.TheVariants.{WrongForm as WrongFormRule, OutsideProfile as OutsideProfileRule}
use Rattle.merc_base.specs.declared.refusal.Detail.TheVariants.{Plain, Word}
use Rattle.merc_base.specs.declared.refusal.Construct.TheVariants.{Goal}
use Rattle.merc_goals.specs.Written.{Written, WrittenGoals, no_goals, more_goals, Conjunction, Parallel, Disjunction, Conditional, Negated, Quantified, WrongForm, OutsideProfile}
use Rattle.merc_goals.specs.Entries.{goal_list}

abbrev mutual
  -- where the parts of a goal stand that are of no form, in order
  pub wrong_forms : Written → List Span
  wrong_forms (WrongForm span) = span ∷ []
  wrong_forms (Conjunction goals span) = all_wrong_forms goals
  wrong_forms (Parallel goals span) = all_wrong_forms goals
  wrong_forms (Disjunction goals span) = all_wrong_forms goals
  wrong_forms (Conditional condition then_part else_part span) = wrong_forms condition ++ (wrong_forms then_part ++ wrong_forms else_part)
  wrong_forms (Negated goal span) = wrong_forms goal
  wrong_forms (Quantified variables goal span) = wrong_forms goal
  wrong_forms other = []

  pub all_wrong_forms : WrittenGoals → List Span
  all_wrong_forms no_goals = []
  all_wrong_forms (more_goals first rest) = wrong_forms first ++ all_wrong_forms rest

abbrev mutual
  -- where the parts of a goal stand that are outside the profile, in order
  pub outside_forms : Written → List Span
  outside_forms (OutsideProfile span) = span ∷ []
  outside_forms (Conjunction goals span) = all_outside_forms goals
  outside_forms (Parallel goals span) = all_outside_forms goals
  outside_forms (Disjunction goals span) = all_outside_forms goals
  outside_forms (Conditional condition then_part else_part span) = outside_forms condition ++ (outside_forms then_part ++ outside_forms else_part)
  outside_forms (Negated goal span) = outside_forms goal
  outside_forms (Quantified variables goal span) = outside_forms goal
  outside_forms other = []

  pub all_outside_forms : WrittenGoals → List Span
  all_outside_forms no_goals = []
  all_outside_forms (more_goals first rest) = outside_forms first ++ all_outside_forms rest

-- the one that begins earlier, the former where both begin at one byte
abbrev pub earlier : Option Span → Option Span → Option Span
earlier None other = other
earlier (Some one) None = Some one
earlier (Some one) (Some other) = Some (if nat_le one.first other.first then one else other)

-- the earliest of spans
abbrev pub first_span : List Span → Option Span
first_span [] = None
first_span (span ∷ rest) = earlier (Some span) (first_span rest)

abbrev pub wrong_form : Span → Refusal
wrong_form span = record { rule = WrongFormRule; place = place_of span; detail = Plain }

abbrev pub outside_profile : Span → Refusal
outside_profile span = record { rule = OutsideProfileRule; place = place_of span; detail = Word Goal }

-- Of a part of no form and one outside the profile the earlier is first, and at one byte the one of no form.
abbrev pub first_of_both : Option Span → Option Span → Option Refusal
first_of_both None None = None
first_of_both (Some wrong) None = Some (wrong_form wrong)
first_of_both None (Some outside) = Some (outside_profile outside)
first_of_both (Some wrong) (Some outside) = Some (if nat_le wrong.first outside.first then wrong_form wrong else outside_profile outside)

abbrev pub first_fault : Written → Option Refusal
first_fault goal = first_of_both (first_span (wrong_forms goal)) (first_span (outside_forms goal))

abbrev mutual
  -- the most conjuncts of a parallel conjunction in a goal, 0 where there is none
  pub widest_parallel : Written → ℕ
  widest_parallel (Parallel goals span) = max (length (goal_list goals)) (widest_of_all goals)
  widest_parallel (Conjunction goals span) = widest_of_all goals
  widest_parallel (Disjunction goals span) = widest_of_all goals
  widest_parallel (Conditional condition then_part else_part span) = max (widest_parallel condition) (max (widest_parallel then_part) (widest_parallel else_part))
  widest_parallel (Negated goal span) = widest_parallel goal
  widest_parallel (Quantified variables goal span) = widest_parallel goal
  widest_parallel other = 0

  pub widest_of_all : WrittenGoals → ℕ
  widest_of_all no_goals = 0
  widest_of_all (more_goals first rest) = max (widest_parallel first) (widest_of_all rest)
