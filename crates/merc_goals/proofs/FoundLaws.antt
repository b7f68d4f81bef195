-- What is found in the entries of a goal is what the goal has.
use Rattle.std.proofs.Common.{◌≡◌, ℕ, nat_le, max, Bool, true, false, List, [], ◌∷◌, ◌++◌, length, Option, Some, None, if◌then◌else◌, refl, ap, sym, ◌∙◌, arith}
use Rattle.std.proofs.lemmas.Bool.Decides.{nat_tests}
use Rattle.merc_base.specs.declared.place.Span.{Span}
use Rattle.merc_goals.specs.Written.{Written, WrittenGoals, no_goals, more_goals, Truth, Failure, Equal, Compared, Called, Conjunction, Parallel, Disjunction, Conditional, Negated, Quantified, WrongForm, OutsideProfile}
use Rattle.merc_goals.specs.Entries.{entries_of, all_entries, goal_list}
use Rattle.merc_goals.specs.Faults.{wrong_forms, all_wrong_forms, outside_forms, all_outside_forms, earlier, first_span, first_of_both, first_fault, widest_parallel, widest_of_all}
use Rattle.merc_goals.specs.Found.{wrong_span, outside_span, listed, wrong_spans, outside_spans, widest_of}
use Rattle.merc_goals.specs.Entries.{GoalEntry}

-- spans of entries

listed-append : (found : Option Span) (front back : List Span) → listed found (front ++ back) ≡ listed found front ++ back
listed-append None front back = refl
listed-append (Some span) front back = refl

wrong_spans-append : (front back : List GoalEntry) → wrong_spans (front ++ back) ≡ wrong_spans front ++ wrong_spans back
wrong_spans-append [] back = refl
wrong_spans-append (entry ∷ rest) back =
    ap (listed (wrong_span entry)) (wrong_spans-append rest back) ∙ listed-append (wrong_span entry) (wrong_spans rest) (wrong_spans back)

outside_spans-append : (front back : List GoalEntry) → outside_spans (front ++ back) ≡ outside_spans front ++ outside_spans back
outside_spans-append [] back = refl
outside_spans-append (entry ∷ rest) back =
    ap (listed (outside_span entry)) (outside_spans-append rest back) ∙ listed-append (outside_span entry) (outside_spans rest) (outside_spans back)

widest_of-append : (front back : List GoalEntry) → widest_of (front ++ back) ≡ max (widest_of front) (widest_of back)
widest_of-append [] back = omega arith
widest_of-append (entry ∷ rest) back = omega (arith, widest_of-append rest back)

both_parts : {A : Type 0} (f : List Span → List Span → A) (a b c d : List Span) → a ≡ b → c ≡ d → f a c ≡ f b d
both_parts f a b c d p q = cc

mutual
  pub wrong_spans-entries : (goal : Written) → wrong_spans (entries_of goal) ≡ wrong_forms goal
  wrong_spans-entries (Truth span) = refl
  wrong_spans-entries (Failure span) = refl
  wrong_spans-entries (Equal at left right span) = refl
  wrong_spans-entries (Compared at name left right span) = refl
  wrong_spans-entries (Called at name qualifier arguments span) = refl
  wrong_spans-entries (Conjunction goals span) = wrong_spans-all goals
  wrong_spans-entries (Parallel goals span) = wrong_spans-all goals
  wrong_spans-entries (Disjunction goals span) = wrong_spans-all goals
  wrong_spans-entries (Conditional condition then_part else_part span) =
      wrong_spans-append (entries_of condition) (entries_of then_part ++ entries_of else_part)
      ∙ both_parts (λ a b. a ++ b) _ _ _ _ (wrong_spans-entries condition)
      (wrong_spans-append (entries_of then_part) (entries_of else_part) ∙ both_parts (λ a b. a ++ b) _ _ _ _ (wrong_spans-entries then_part) (wrong_spans-entries else_part))
  wrong_spans-entries (Negated goal span) = wrong_spans-entries goal
  wrong_spans-entries (Quantified variables goal span) = wrong_spans-entries goal
  wrong_spans-entries (WrongForm span) = refl
  wrong_spans-entries (OutsideProfile span) = refl

  wrong_spans-all : (goals : WrittenGoals) → wrong_spans (all_entries goals) ≡ all_wrong_forms goals
  wrong_spans-all no_goals = refl
  wrong_spans-all (more_goals first rest) =
      wrong_spans-append (entries_of first) (all_entries rest) ∙ both_parts (λ a b. a ++ b) _ _ _ _ (wrong_spans-entries first) (wrong_spans-all rest)

mutual
  pub outside_spans-entries : (goal : Written) → outside_spans (entries_of goal) ≡ outside_forms goal
  outside_spans-entries (Truth span) = refl
  outside_spans-entries (Failure span) = refl
  outside_spans-entries (Equal at left right span) = refl
  outside_spans-entries (Compared at name left right span) = refl
  outside_spans-entries (Called at name qualifier arguments span) = refl
  outside_spans-entries (Conjunction goals span) = outside_spans-all goals
  outside_spans-entries (Parallel goals span) = outside_spans-all goals
  outside_spans-entries (Disjunction goals span) = outside_spans-all goals
  outside_spans-entries (Conditional condition then_part else_part span) =
      outside_spans-append (entries_of condition) (entries_of then_part ++ entries_of else_part)
      ∙ both_parts (λ a b. a ++ b) _ _ _ _ (outside_spans-entries condition)
      (outside_spans-append (entries_of then_part) (entries_of else_part) ∙ both_parts (λ a b. a ++ b) _ _ _ _ (outside_spans-entries then_part) (outside_spans-entries else_part))
  outside_spans-entries (Negated goal span) = outside_spans-entries goal
  outside_spans-entries (Quantified variables goal span) = outside_spans-entries goal
  outside_spans-entries (WrongForm span) = refl
  outside_spans-entries (OutsideProfile span) = refl

  outside_spans-all : (goals : WrittenGoals) → outside_spans (all_entries goals) ≡ all_outside_forms goals
  outside_spans-all no_goals = refl
  outside_spans-all (more_goals first rest) =
      outside_spans-append (entries_of first) (all_entries rest) ∙ both_parts (λ a b. a ++ b) _ _ _ _ (outside_spans-entries first) (outside_spans-all rest)

widths : (a b c d : ℕ) → a ≡ b → c ≡ d → max a c ≡ max b d
widths a b c d p q = cc

mutual
  pub widest_of-entries : (goal : Written) → widest_of (entries_of goal) ≡ widest_parallel goal
  widest_of-entries (Truth span) = refl
  widest_of-entries (Failure span) = refl
  widest_of-entries (Equal at left right span) = refl
  widest_of-entries (Compared at name left right span) = refl
  widest_of-entries (Called at name qualifier arguments span) = refl
  widest_of-entries (Conjunction goals span) = omega (arith, widest_of-all goals)
  widest_of-entries (Parallel goals span) = ap (max (length (goal_list goals))) (widest_of-all goals)
  widest_of-entries (Disjunction goals span) = omega (arith, widest_of-all goals)
  widest_of-entries (Conditional condition then_part else_part span) =
      omega (
        arith,
        widest_of-append (entries_of condition) (entries_of then_part ++ entries_of else_part),
        widest_of-append (entries_of then_part) (entries_of else_part),
        widest_of-entries condition,
        widest_of-entries then_part,
        widest_of-entries else_part,
      )
  widest_of-entries (Negated goal span) = omega (arith, widest_of-entries goal)
  widest_of-entries (Quantified variables goal span) = omega (arith, widest_of-entries goal)
  widest_of-entries (WrongForm span) = refl
  widest_of-entries (OutsideProfile span) = refl

  widest_of-all : (goals : WrittenGoals) → widest_of (all_entries goals) ≡ widest_of_all goals
  widest_of-all no_goals = refl
  widest_of-all (more_goals first rest) =
      widest_of-append (entries_of first) (all_entries rest) ∙ widths _ _ _ _ (widest_of-entries first) (widest_of-all rest)

pub first_fault-entries : (goal : Written) → first_of_both (first_span (wrong_spans (entries_of goal))) (first_span (outside_spans (entries_of goal))) ≡ first_fault goal
first_fault-entries goal = both_parts (λ a b. first_of_both (first_span a) (first_span b)) _ _ _ _ (wrong_spans-entries goal) (outside_spans-entries goal)

-- the earliest of spans, from the left

pub earlier-none : (found : Option Span) → earlier found None ≡ found
earlier-none None = refl
earlier-none (Some span) = refl

three : (a b c : Span) (t u v : Bool) → nat_le a.first b.first ≡ t → nat_le b.first c.first ≡ u → nat_le a.first c.first ≡ v
    → earlier (Some (if t then a else b)) (Some c) ≡ earlier (Some a) (Some (if u then b else c))
three a b c true true v p q r = ap (λ x. Some (if x then a else c)) (let k : nat_le a.first c.first ≡ true = grind (arith, nat_tests) in k) ∙ ap (λ x. Some (if x then a else b)) (sym p)
three a b c true false v p q r = refl
three a b c false true v p q r = ap (λ x. Some (if x then b else c)) q ∙ ap (λ x. Some (if x then a else b)) (sym p)
three a b c false false v p q r =
    ap (λ x. Some (if x then b else c)) q ∙ ap (λ x. Some (if x then a else c)) (sym (let k : nat_le a.first c.first ≡ false = grind (arith, nat_tests) in k))

pub earlier-assoc : (one two other : Option Span) → earlier (earlier one two) other ≡ earlier one (earlier two other)
earlier-assoc None two other = refl
earlier-assoc (Some a) None other = refl
earlier-assoc (Some a) (Some b) None = refl
earlier-assoc (Some a) (Some b) (Some c) = three a b c _ _ _ refl refl refl

pub first_span-listed : (found : Option Span) (spans : List Span) → first_span (listed found spans) ≡ earlier found (first_span spans)
first_span-listed None spans = refl
first_span-listed (Some span) spans = refl

-- one more entry is looked at
pub found_step : (first found : Option Span) (spans : List Span) (whole : Option Span)
    → earlier first (first_span (listed found spans)) ≡ whole → earlier (earlier first found) (first_span spans) ≡ whole
found_step first found spans whole before = earlier-assoc first found (first_span spans) ∙ ap (earlier first) (sym (first_span-listed found spans)) ∙ before
