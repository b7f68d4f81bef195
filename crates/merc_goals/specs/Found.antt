-- What is found in the entries of a goal.
use Rattle.std.specs.Prelude.{ℕ, List, [], ◌∷◌, max, Option, Some, None}
use Rattle.merc_base.specs.declared.place.Span.{Span}
use Rattle.merc_goals.specs.Entries.{GoalEntry}
use Rattle.merc_goals.specs.declared.goal.Form.{Form}
use Rattle.merc_goals.specs.declared.goal.Form.TheVariants.{Parallel as ParallelForm, WrongForm as NoForm, OutsideProfile as OutsideForm}

abbrev pub wrong_at : Form → Span → Option Span
wrong_at NoForm span = Some span
wrong_at other span = None

abbrev pub outside_at : Form → Span → Option Span
outside_at OutsideForm span = Some span
outside_at other span = None

-- the span of an entry of no form, and of one outside the profile
abbrev pub wrong_span : GoalEntry → Option Span
wrong_span entry = wrong_at entry.form entry.span

abbrev pub outside_span : GoalEntry → Option Span
outside_span entry = outside_at entry.form entry.span

abbrev pub listed : Option Span → List Span → List Span
listed None spans = spans
listed (Some span) spans = span ∷ spans

abbrev pub wrong_spans : List GoalEntry → List Span
wrong_spans [] = []
wrong_spans (entry ∷ rest) = listed (wrong_span entry) (wrong_spans rest)

abbrev pub outside_spans : List GoalEntry → List Span
outside_spans [] = []
outside_spans (entry ∷ rest) = listed (outside_span entry) (outside_spans rest)

-- how many conjuncts an entry has as a parallel conjunction
abbrev pub width_of : Form → ℕ
width_of (ParallelForm conjuncts) = conjuncts
width_of other = 0

abbrev pub width : GoalEntry → ℕ
width entry = width_of entry.form

abbrev pub widest_of : List GoalEntry → ℕ
widest_of [] = 0
widest_of (entry ∷ rest) = max (width entry) (widest_of rest)
