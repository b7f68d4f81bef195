-- How a goal lies in a list of entries: each goal before its sub-goals, and these from the left.
use Rattle.std.specs.Prelude.{◌≡◌, ℕ, ◌+◌, List, [], ◌∷◌, ◌++◌, length, take, drop}
use Rattle.merc_base.specs.declared.place.Span.{Span}
use Rattle.merc_tree.specs.Term.{Term, Variable, Integer, Text, Application, no_span}
use Rattle.merc_goals.specs.Written.{Written, WrittenGoals, no_goals, more_goals, Truth, Failure, Equal, Compared, Called, Conjunction, Parallel, Disjunction, Conditional, Negated, Quantified, WrongForm, OutsideProfile}
use Rattle.merc_goals.specs.Numbers.{BothFit, Fits}
use Rattle.merc_goals.specs.declared.goal.Form.{Form}
use Rattle.merc_goals.specs.declared.goal.Form.TheVariants.{Truth as TruthForm, Failure as FailureForm, Equal as EqualForm, Compared as ComparedForm, Called as CalledForm, Conjunction as ConjunctionForm, Parallel as ParallelForm, Disjunction as DisjunctionForm, Conditional as ConditionalForm, Negated as NegatedForm, Quantified as QuantifiedForm, WrongForm as NoForm, OutsideProfile as OutsideForm}

-- A goal at its root, as it lies in a list: its form, its number, where it stands, and how many entries it has.
pub record GoalEntry : Type 0 where
  pub form : Form
  pub at : ℕ
  pub span : Span
  pub size : ℕ

-- the numbers of a form's terms keep the limit, where the goal has this number
abbrev pub FormFits : ℕ → Form → Type 0
FormFits at (EqualForm left right) = BothFit at left right
FormFits at (ComparedForm name left right) = BothFit at left right
FormFits at (CalledForm term) = Fits at term
FormFits at other = Unit {0}

abbrev pub goals_of : List Written → WrittenGoals
goals_of [] = no_goals
goals_of (first ∷ rest) = more_goals first (goals_of rest)

abbrev pub goal_list : WrittenGoals → List Written
goal_list no_goals = []
goal_list (more_goals first rest) = first ∷ goal_list rest

-- an entry before those of its sub-goals
abbrev pub entry_before : Form → ℕ → Span → List GoalEntry → List GoalEntry
entry_before form at span inner = record { form = form; at = at; span = span; size = length inner + 1 } ∷ inner

abbrev mutual
  -- the entries of a goal
  pub entries_of : Written → List GoalEntry
  entries_of (Truth span) = entry_before TruthForm 0 span []
  entries_of (Failure span) = entry_before FailureForm 0 span []
  entries_of (Equal at left right span) = entry_before (EqualForm left right) at span []
  entries_of (Compared at name left right span) = entry_before (ComparedForm name left right) at span []
  entries_of (Called at name qualifier arguments span) = entry_before (CalledForm (Application name qualifier arguments span)) at span []
  entries_of (Conjunction goals span) = entry_before (ConjunctionForm (length (goal_list goals))) 0 span (all_entries goals)
  entries_of (Parallel goals span) = entry_before (ParallelForm (length (goal_list goals))) 0 span (all_entries goals)
  entries_of (Disjunction goals span) = entry_before (DisjunctionForm (length (goal_list goals))) 0 span (all_entries goals)
  entries_of (Conditional condition then_part else_part span) =
      entry_before ConditionalForm 0 span (entries_of condition ++ (entries_of then_part ++ entries_of else_part))
  entries_of (Negated goal span) = entry_before NegatedForm 0 span (entries_of goal)
  entries_of (Quantified variables goal span) = entry_before (QuantifiedForm variables) 0 span (entries_of goal)
  entries_of (WrongForm span) = entry_before NoForm 0 span []
  entries_of (OutsideProfile span) = entry_before OutsideForm 0 span []

  -- the entries of goals, one after the other
  pub all_entries : WrittenGoals → List GoalEntry
  all_entries no_goals = []
  all_entries (more_goals first rest) = entries_of first ++ all_entries rest

-- the call that a term is
abbrev pub called : ℕ → Term → Span → Written
called at (Application name qualifier arguments own) span = Called at name qualifier arguments span
called at (Variable name own) span = WrongForm span
called at (Integer value own) span = WrongForm span
called at (Text text own) span = WrongForm span

abbrev pub negated : Span → List Written → List Written
negated span [] = []
negated span (goal ∷ rest) = Negated goal span ∷ rest

abbrev pub quantified_by : List ℕ → Span → List Written → List Written
quantified_by variables span [] = []
quantified_by variables span (goal ∷ rest) = Quantified variables goal span ∷ rest

abbrev pub conditional_of : Span → List Written → List Written
conditional_of span (condition ∷ then_part ∷ else_part ∷ rest) = Conditional condition then_part else_part span ∷ rest
conditional_of span other = []

-- what goals become where an entry is read before them, which takes its sub-goals from their front
abbrev pub with_form : Form → ℕ → Span → List Written → List Written
with_form TruthForm at span goals = Truth span ∷ goals
with_form FailureForm at span goals = Failure span ∷ goals
with_form (EqualForm left right) at span goals = Equal at left right span ∷ goals
with_form (ComparedForm name left right) at span goals = Compared at name left right span ∷ goals
with_form (CalledForm term) at span goals = called at term span ∷ goals
with_form (ConjunctionForm count) at span goals = Conjunction (goals_of (take count goals)) span ∷ drop count goals
with_form (ParallelForm count) at span goals = Parallel (goals_of (take count goals)) span ∷ drop count goals
with_form (DisjunctionForm count) at span goals = Disjunction (goals_of (take count goals)) span ∷ drop count goals
with_form ConditionalForm at span goals = conditional_of span goals
with_form NegatedForm at span goals = negated span goals
with_form (QuantifiedForm variables) at span goals = quantified_by variables span goals
with_form NoForm at span goals = WrongForm span ∷ goals
with_form OutsideForm at span goals = OutsideProfile span ∷ goals

-- the goals that entries stand for
abbrev pub goals_in : List GoalEntry → List Written
goals_in [] = []
goals_in (entry ∷ entries) = with_form entry.form entry.at entry.span (goals_in entries)

-- the first of these goals, or one that is never asked for
abbrev pub first_goal : List Written → Written
first_goal [] = Truth no_span
first_goal (goal ∷ goals) = goal

-- the goal that entries stand for
abbrev pub written_of : List GoalEntry → Written
written_of entries = first_goal (goals_in entries)

-- Entries are as those of the goal that they stand for.
abbrev pub AreEntries : List GoalEntry → Type 0
AreEntries entries = entries_of (written_of entries) ≡ entries
