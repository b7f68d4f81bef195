-- The entries of a goal stand for this goal, by which the logic stores a goal.
use Rattle.std.specs.Prelude.{◌≡◌, ℕ, ◌==◌, List, [], ◌∷◌, ◌++◌, length, take, drop, refl, if◌then◌else◌}
use Rattle.std.specs.Coded.{Coded, code_by, coded_list, coded×, coded_ℕ}
use Rattle.std.proofs.Common.{◌∙◌, ap, sym}
use Rattle.std.proofs.Math.Seq.{take-append_seam, drop-append_seam}
use Rattle.std.proofs.lemmas.List.{append_assoc, append-nil}
use Rattle.merc_base.specs.declared.place.Span.{Span}
use Rattle.merc_goals.specs.Written.{Written, WrittenGoals, no_goals, more_goals, Truth, Failure, Equal, Compared, Called, Conjunction, Parallel, Disjunction, Conditional, Negated, Quantified, WrongForm, OutsideProfile}
use Rattle.merc_goals.specs.Entries.{GoalEntry}
use Rattle.merc_goals.specs.declared.goal.Form.{Form}
use Rattle.merc_goals.specs.declared.goal.Form.TheVariants.{Truth as TruthForm, Failure as FailureForm, Equal as EqualForm, Compared as ComparedForm, Called as CalledForm, Conjunction as ConjunctionForm, Parallel as ParallelForm, Disjunction as DisjunctionForm, Conditional as ConditionalForm, Negated as NegatedForm, Quantified as QuantifiedForm, WrongForm as NoForm, OutsideProfile as OutsideForm}
use Rattle.merc_base.specs.contracts.place.Span as place_span
use Rattle.merc_tree.specs.Term.{Term}
use Rattle.merc_tree.specs.TermCode.{term_code}
use Rattle.merc_goals.specs.Entries.{goals_of, goal_list, entries_of, all_entries, goals_in, first_goal, written_of, negated, quantified_by, conditional_of}

pub goals_of-goal_list : (goals : WrittenGoals) → goals_of (goal_list goals) ≡ goals
goals_of-goal_list no_goals = refl
goals_of-goal_list (more_goals first rest) = ap (more_goals first) (goals_of-goal_list rest)

-- a list of goals is taken from the front, and those behind it stay
pub taken_front : (make : WrittenGoals → Written) (goals : WrittenGoals) (behind : List Written)
    → make (goals_of (take (length (goal_list goals)) (goal_list goals ++ behind))) ∷ drop (length (goal_list goals)) (goal_list goals ++ behind) ≡ make goals ∷ behind
taken_front make goals behind =
    ap (λ l. make (goals_of l) ∷ drop (length (goal_list goals)) (goal_list goals ++ behind)) (take-append_seam (goal_list goals) behind)
    ∙ ap (λ l. make (goals_of (goal_list goals)) ∷ l) (drop-append_seam (goal_list goals) behind)
    ∙ ap (λ g. make g ∷ behind) (goals_of-goal_list goals)

mutual
  pub goals_in-entries_of : (goal : Written) (behind : List GoalEntry) → goals_in (entries_of goal ++ behind) ≡ goal ∷ goals_in behind
  goals_in-entries_of (Truth span) behind = refl
  goals_in-entries_of (Failure span) behind = refl
  goals_in-entries_of (Equal at left right span) behind = refl
  goals_in-entries_of (Compared at name left right span) behind = refl
  goals_in-entries_of (Called at name qualifier arguments span) behind = refl
  goals_in-entries_of (Conjunction goals span) behind =
      ap (λ l. Conjunction (goals_of (take (length (goal_list goals)) l)) span ∷ drop (length (goal_list goals)) l) (goals_in-all_entries goals behind)
      ∙ taken_front (λ g. Conjunction g span) goals (goals_in behind)
  goals_in-entries_of (Parallel goals span) behind =
      ap (λ l. Parallel (goals_of (take (length (goal_list goals)) l)) span ∷ drop (length (goal_list goals)) l) (goals_in-all_entries goals behind)
      ∙ taken_front (λ g. Parallel g span) goals (goals_in behind)
  goals_in-entries_of (Disjunction goals span) behind =
      ap (λ l. Disjunction (goals_of (take (length (goal_list goals)) l)) span ∷ drop (length (goal_list goals)) l) (goals_in-all_entries goals behind)
      ∙ taken_front (λ g. Disjunction g span) goals (goals_in behind)
  goals_in-entries_of (Conditional condition then_part else_part span) behind =
      ap (λ l. conditional_of span (goals_in l)) (append_assoc (entries_of condition) (entries_of then_part ++ entries_of else_part) behind)
      ∙ ap (conditional_of span) (goals_in-entries_of condition ((entries_of then_part ++ entries_of else_part) ++ behind))
      ∙ ap (λ l. conditional_of span (condition ∷ goals_in l)) (append_assoc (entries_of then_part) (entries_of else_part) behind)
      ∙ ap (λ l. conditional_of span (condition ∷ l)) (goals_in-entries_of then_part (entries_of else_part ++ behind))
      ∙ ap (λ l. conditional_of span (condition ∷ then_part ∷ l)) (goals_in-entries_of else_part behind)
  goals_in-entries_of (Negated goal span) behind = ap (negated span) (goals_in-entries_of goal behind)
  goals_in-entries_of (Quantified variables goal span) behind = ap (quantified_by variables span) (goals_in-entries_of goal behind)
  goals_in-entries_of (WrongForm span) behind = refl
  goals_in-entries_of (OutsideProfile span) behind = refl

  pub goals_in-all_entries : (goals : WrittenGoals) (behind : List GoalEntry) → goals_in (all_entries goals ++ behind) ≡ goal_list goals ++ goals_in behind
  goals_in-all_entries no_goals behind = refl
  goals_in-all_entries (more_goals first rest) behind =
      ap goals_in (append_assoc (entries_of first) (all_entries rest) behind)
      ∙ goals_in-entries_of first (all_entries rest ++ behind)
      ∙ ap (λ l. first ∷ l) (goals_in-all_entries rest behind)

pub written_of-entries_of : (goal : Written) → written_of (entries_of goal) ≡ goal
written_of-entries_of goal =
    ap written_of (sym (append-nil (entries_of goal))) ∙ ap first_goal (goals_in-entries_of goal [])

-- a form by a number of its own, its numbers and its terms, and back

-- the number of each form
abbrev truth_tag : ℕ
truth_tag = 0

abbrev failure_tag : ℕ
failure_tag = 1

abbrev equal_tag : ℕ
equal_tag = 2

abbrev compared_tag : ℕ
compared_tag = 3

abbrev called_tag : ℕ
called_tag = 4

abbrev conjunction_tag : ℕ
conjunction_tag = 5

abbrev parallel_tag : ℕ
parallel_tag = 6

abbrev disjunction_tag : ℕ
disjunction_tag = 7

abbrev conditional_tag : ℕ
conditional_tag = 8

abbrev negated_tag : ℕ
negated_tag = 9

abbrev quantified_tag : ℕ
quantified_tag = 10

abbrev wrong_form_tag : ℕ
wrong_form_tag = 11

abbrev outside_profile_tag : ℕ
outside_profile_tag = 12

abbrev pub form_parts : Form → ℕ × (List ℕ × List Term)
form_parts TruthForm = (truth_tag, ([], []))
form_parts FailureForm = (failure_tag, ([], []))
form_parts (EqualForm left right) = (equal_tag, ([], left ∷ right ∷ []))
form_parts (ComparedForm name left right) = (compared_tag, (name ∷ [], left ∷ right ∷ []))
form_parts (CalledForm term) = (called_tag, ([], term ∷ []))
form_parts (ConjunctionForm count) = (conjunction_tag, (count ∷ [], []))
form_parts (ParallelForm count) = (parallel_tag, (count ∷ [], []))
form_parts (DisjunctionForm count) = (disjunction_tag, (count ∷ [], []))
form_parts ConditionalForm = (conditional_tag, ([], []))
form_parts NegatedForm = (negated_tag, ([], []))
form_parts (QuantifiedForm variables) = (quantified_tag, (variables, []))
form_parts NoForm = (wrong_form_tag, ([], []))
form_parts OutsideForm = (outside_profile_tag, ([], []))

abbrev pub head_number : List ℕ → ℕ
head_number [] = 0
head_number (number ∷ rest) = number

abbrev pub with_terms : (Term → Term → Form) → List Term → Form
with_terms make (left ∷ right ∷ rest) = make left right
with_terms make other = TruthForm

abbrev pub called_form : List Term → Form
called_form [] = TruthForm
called_form (term ∷ rest) = CalledForm term

abbrev pub form_from : ℕ → List ℕ → List Term → Form
form_from tag numbers terms =
    if tag == truth_tag then TruthForm
    else if tag == failure_tag then FailureForm
    else if tag == equal_tag then with_terms (λ left right. EqualForm left right) terms
    else if tag == compared_tag then with_terms (λ left right. ComparedForm (head_number numbers) left right) terms
    else if tag == called_tag then called_form terms
    else if tag == conjunction_tag then ConjunctionForm (head_number numbers)
    else if tag == parallel_tag then ParallelForm (head_number numbers)
    else if tag == disjunction_tag then DisjunctionForm (head_number numbers)
    else if tag == conditional_tag then ConditionalForm
    else if tag == negated_tag then NegatedForm
    else if tag == quantified_tag then QuantifiedForm numbers
    else if tag == wrong_form_tag then NoForm
    else OutsideForm

abbrev pub form_of : ℕ × (List ℕ × List Term) → Form
form_of parts = form_from parts.0 parts.1.0 parts.1.1

pub form_of-form_parts : (form : Form) → form_of (form_parts form) ≡ form
form_of-form_parts TruthForm = refl
form_of-form_parts FailureForm = refl
form_of-form_parts (EqualForm left right) = refl
form_of-form_parts (ComparedForm name left right) = refl
form_of-form_parts (CalledForm term) = refl
form_of-form_parts (ConjunctionForm count) = refl
form_of-form_parts (ParallelForm count) = refl
form_of-form_parts (DisjunctionForm count) = refl
form_of-form_parts ConditionalForm = refl
form_of-form_parts NegatedForm = refl
form_of-form_parts (QuantifiedForm variables) = refl
form_of-form_parts NoForm = refl
form_of-form_parts OutsideForm = refl

abbrev pub form_code : Coded Form
form_code = code_by (ℕ × (List ℕ × List Term)) (coded× coded_ℕ (coded× (coded_list coded_ℕ) (coded_list term_code))) form_parts form_of form_of-form_parts

abbrev pub entry_code : Coded GoalEntry
entry_code =
    code_by (Form × (ℕ × (Span × ℕ))) (coded× form_code (coded× coded_ℕ (coded× place_span.the_row.coded coded_ℕ)))
    (λ e. (e.form, (e.at, (e.span, e.size))))
    (λ p. record { form = p.0; at = p.1.0; span = p.1.1.0; size = p.1.1.1 })
    (λ _. refl)

-- a goal is stored as its entries
abbrev pub written_code : Coded Written
written_code = code_by (List GoalEntry) (coded_list entry_code) entries_of written_of written_of-entries_of
