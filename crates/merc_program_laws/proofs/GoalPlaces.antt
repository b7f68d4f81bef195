-- The parts of a goal begin within its term, and so do its faults of form and the unknown names in it.
use Rattle.std.proofs.Common.{ℕ, ◌+◌, ◌||◌, Bool, true, false, List, [], ◌∷◌, ◌++◌, length, Option, Some, None, if◌then◌else◌}
use Rattle.std.specs.List.{AllByRecursion}
use Rattle.merc_base.specs.declared.place.Span.{Span}
use Rattle.merc_tree.specs.Term.{Term, Terms, Variable, Integer, Text, Application, none, more, list_of}
use Rattle.merc_tree.specs.declared.declarations.Module.{Module}
use Rattle.merc_goals.specs.Written.{Written, WrittenGoals, Truth, Failure, Equal, Compared, Called, Conjunction, Parallel, Disjunction, Conditional, Negated, Quantified, WrongForm, OutsideProfile, no_goals, more_goals, parts, joined, conjuncts, parallel_conjuncts, disjuncts, listed_variables, quantified, nullary, conditional, alternatives, binary, written, arrow_parts, if_then_parts, then_parts}
use Rattle.merc_goals.specs.Faults.{wrong_forms, all_wrong_forms, outside_forms, all_outside_forms}
use Rattle.merc_name_resolution.specs.Known.{callee_in, is_callee, is_constructor}
use Rattle.merc_flat.specs.GoalFaults.{is_arithmetic, unknown_in, unknown_among, unknown, all_unknown}
use Rattle.merc_program_laws.proofs.TermPlaces.{Within, Lies, LieAll}

pub all_append : {A : Type 0} (P : A → Type 0) (some others : List A) → AllByRecursion P some → AllByRecursion P others → AllByRecursion P (some ++ others)
all_append P [] others all all' = all'
all_append P (first ∷ some) others all all' = (all.0, all_append P some others all.1 all')

-- Given are the byte from which the parts begin, and one before which they do.
module _ (from to : ℕ) where
  abbrev mutual
    pub GoalLies : Written → Type 0
    GoalLies (Truth span) = Unit {0}
    GoalLies (Failure span) = Unit {0}
    GoalLies (Equal at left right span) = Lies from to left × Lies from to right
    GoalLies (Compared at name left right span) = Lies from to left × Lies from to right
    GoalLies (Called at name qualifier arguments span) = Within from to span × LieAll from to arguments
    GoalLies (Conjunction goals span) = GoalsLie goals
    GoalLies (Parallel goals span) = GoalsLie goals
    GoalLies (Disjunction goals span) = GoalsLie goals
    GoalLies (Conditional condition then_part else_part span) = GoalLies condition × GoalLies then_part × GoalLies else_part
    GoalLies (Negated goal span) = GoalLies goal
    GoalLies (Quantified variables goal span) = GoalLies goal
    GoalLies (WrongForm span) = Within from to span
    GoalLies (OutsideProfile span) = Within from to span

    pub GoalsLie : WrittenGoals → Type 0
    GoalsLie no_goals = Unit {0}
    GoalsLie (more_goals first rest) = GoalLies first × GoalsLie rest

  -- a goal in two parts, where it is one
  abbrev PartsLie : Option (Written × Written) → Type 0
  PartsLie None = Unit {0}
  PartsLie (Some parts) = GoalLies parts.0 × GoalLies parts.1

  either : (b : Bool) (one other : Written) → GoalLies one → GoalLies other → GoalLies (if b then one else other)
  either true one other lies lies' = lies
  either false one other lies lies' = lies'

  either_parts : (b : Bool) (one : Option (Written × Written)) → PartsLie one → PartsLie (if b then one else None)
  either_parts true one lie = lie
  either_parts false one lie = tt

  joined_lie : (some others : WrittenGoals) → GoalsLie some → GoalsLie others → GoalsLie (joined some others)
  joined_lie no_goals others lie lie' = lie'
  joined_lie (more_goals first rest) others lie lie' = (lie.0, joined_lie rest others lie.1 lie')

  conjuncts_lie : (goal : Written) → GoalLies goal → GoalsLie (conjuncts goal)
  conjuncts_lie (Conjunction goals span) lies = lies
  conjuncts_lie other lies = (lies, tt)

  parallel_lie : (goal : Written) → GoalLies goal → GoalsLie (parallel_conjuncts goal)
  parallel_lie (Parallel goals span) lies = lies
  parallel_lie other lies = (lies, tt)

  disjuncts_lie : (goal : Written) → GoalLies goal → GoalsLie (disjuncts goal)
  disjuncts_lie (Disjunction goals span) lies = lies
  disjuncts_lie other lies = (lies, tt)

  quantified_lies : (universal : Bool) (variables : Option (List ℕ)) (goal : Written) (span : Span) → Within from to span → GoalLies goal → GoalLies (quantified universal variables goal span)
  quantified_lies true None goal span within lies = within
  quantified_lies false None goal span within lies = within
  quantified_lies true (Some variables) goal span within lies = lies
  quantified_lies false (Some variables) goal span within lies = lies

  nullary_lies : (at name : ℕ) (span : Span) → Within from to span → GoalLies (nullary at name span)
  nullary_lies at name span within =
      let called : Within from to span × LieAll from to none = (within, tt) in
      search (either, called)

  conditional_lies : (parts : Option (Written × Written)) (goal : Written) (span : Span) → Within from to span → PartsLie parts → GoalLies goal → GoalLies (conditional parts goal span)
  conditional_lies None goal span within lie lies = within
  conditional_lies (Some parts) goal span within lie lies = (lie.0, lie.1, lies)

  alternatives_lie : (parts : Option (Written × Written)) (first second : Written) (span : Span) → PartsLie parts → GoalLies first → GoalLies second → GoalLies (alternatives parts first second span)
  alternatives_lie (Some parts) first second span lie lies lies' = (lie.0, lie.1, lies')
  alternatives_lie None first second span lie lies lies' = joined_lie (disjuncts first) (disjuncts second) (disjuncts_lie first lies) (disjuncts_lie second lies')

  binary_lies : (at name : ℕ) (left right : Term) (first second : Written) (arrow if_then : Option (Written × Written)) (span : Span)
      → Within from to span → Lies from to left → Lies from to right → GoalLies first → GoalLies second → PartsLie arrow → PartsLie if_then
      → GoalLies (binary at name left right first second arrow if_then span)
  binary_lies at name left right first second arrow if_then span within left_lies right_lies lies lies' lie lie' =
      let sides : Lies from to left × Lies from to right = (left_lies, right_lies) in
      let called : Within from to span × LieAll from to (more left (more right none)) = (within, (left_lies, (right_lies, tt))) in
      search (
        either,
        sides,
        called,
        within,
        joined_lie (conjuncts first) (conjuncts second) (conjuncts_lie first lies) (conjuncts_lie second lies'),
        joined_lie (parallel_conjuncts first) (parallel_conjuncts second) (parallel_lie first lies) (parallel_lie second lies'),
        alternatives_lie arrow first second span lie lies lies',
        conditional_lies if_then second span within lie' lies',
        quantified_lies false (listed_variables left) second span within lies',
        quantified_lies true (listed_variables left) second span within lies',
      ) depth 20 fits 4000

  mutual
    pub written_lies : (at : ℕ) (term : Term) → Lies from to term → GoalLies (written at term)
    written_lies at (Variable name span) lies = lies
    written_lies at (Integer value span) lies = lies
    written_lies at (Text name span) lies = lies
    written_lies at (Application name None none span) lies = nullary_lies at name span lies.0
    written_lies at (Application name None (more only none) span) lies =
        let inner = written_lies (at + 2) only lies.1.0 in
        let root = lies.0 in
        let called : Within from to span × LieAll from to (more only none) = lies in
        search (either, inner, root, called)
    written_lies at (Application name None (more left (more right none)) span) lies =
        binary_lies at name left right (written (at + 2) left) (written (at + 2 + parts left) right) (arrow_parts (at + 2) left) (if_then_parts (at + 2) left) span
        lies.0 lies.1.0 lies.1.1.0 (written_lies (at + 2) left lies.1.0) (written_lies (at + 2 + parts left) right lies.1.1.0) (arrow_lie (at + 2) left lies.1.0) (if_then_lie (at + 2) left lies.1.0)
    written_lies at (Application name None (more first (more second (more third rest))) span) lies = lies
    written_lies at (Application name (Some qualifier) arguments span) lies = lies

    arrow_lie : (at : ℕ) (term : Term) → Lies from to term → PartsLie (arrow_parts at term)
    arrow_lie at (Application name None (more left (more right none)) span) lies =
        let both : GoalLies (written (at + 2) left) × GoalLies (written (at + 2 + parts left) right) = (written_lies (at + 2) left lies.1.0, written_lies (at + 2 + parts left) right lies.1.1.0) in
        search (either_parts, both)
    arrow_lie at other lies = tt

    if_then_lie : (at : ℕ) (term : Term) → Lies from to term → PartsLie (if_then_parts at term)
    if_then_lie at (Application name None (more only none) span) lies =
        let inner = then_lie (at + 2) only lies.1.0 in
        search (either_parts, inner)
    if_then_lie at other lies = tt

    then_lie : (at : ℕ) (term : Term) → Lies from to term → PartsLie (then_parts at term)
    then_lie at (Application name None (more left (more right none)) span) lies =
        let both : GoalLies (written (at + 2) left) × GoalLies (written (at + 2 + parts left) right) = (written_lies (at + 2) left lies.1.0, written_lies (at + 2 + parts left) right lies.1.1.0) in
        search (either_parts, both)
    then_lie at other lies = tt

  -- the faults of a goal

  abbrev pub AllWithin : List Span → Type 0
  AllWithin spans = AllByRecursion (Within from to) spans

  both_within : (some others : List Span) → AllWithin some → AllWithin others → AllWithin (some ++ others)
  both_within some others all all' = all_append (Within from to) some others all all'

  mutual
    pub wrong_within : (goal : Written) → GoalLies goal → AllWithin (wrong_forms goal)
    wrong_within (WrongForm span) lies = (lies, tt)
    wrong_within (Conjunction goals span) lies = all_wrong-within goals lies
    wrong_within (Parallel goals span) lies = all_wrong-within goals lies
    wrong_within (Disjunction goals span) lies = all_wrong-within goals lies
    wrong_within (Conditional condition then_part else_part span) lies =
        both_within (wrong_forms condition) _ (wrong_within condition lies.0) (both_within (wrong_forms then_part) (wrong_forms else_part) (wrong_within then_part lies.1) (wrong_within else_part lies.2))
    wrong_within (Negated goal span) lies = wrong_within goal lies
    wrong_within (Quantified variables goal span) lies = wrong_within goal lies
    wrong_within other lies = tt

    all_wrong-within : (goals : WrittenGoals) → GoalsLie goals → AllWithin (all_wrong_forms goals)
    all_wrong-within no_goals lie = tt
    all_wrong-within (more_goals first rest) lie = both_within (wrong_forms first) (all_wrong_forms rest) (wrong_within first lie.0) (all_wrong-within rest lie.1)

  mutual
    pub outside_within : (goal : Written) → GoalLies goal → AllWithin (outside_forms goal)
    outside_within (OutsideProfile span) lies = (lies, tt)
    outside_within (Conjunction goals span) lies = all_outside-within goals lies
    outside_within (Parallel goals span) lies = all_outside-within goals lies
    outside_within (Disjunction goals span) lies = all_outside-within goals lies
    outside_within (Conditional condition then_part else_part span) lies =
        both_within (outside_forms condition) _ (outside_within condition lies.0) (both_within (outside_forms then_part) (outside_forms else_part) (outside_within then_part lies.1) (outside_within else_part lies.2))
    outside_within (Negated goal span) lies = outside_within goal lies
    outside_within (Quantified variables goal span) lies = outside_within goal lies
    outside_within other lies = tt

    all_outside-within : (goals : WrittenGoals) → GoalsLie goals → AllWithin (all_outside_forms goals)
    all_outside-within no_goals lie = tt
    all_outside-within (more_goals first rest) lie = both_within (outside_forms first) (all_outside_forms rest) (outside_within first lie.0) (all_outside-within rest lie.1)

  -- the unknown names
  module _ (known : Module) where
    unless : (b : Bool) (span : Span) → Within from to span → AllWithin (if b then [] else span ∷ [])
    unless true span within = tt
    unless false span within = (within, tt)

    mutual
      unknown_in-within : (term : Term) → Lies from to term → AllWithin (unknown_in known term)
      unknown_in-within (Application name qualifier arguments span) lies =
          both_within (if is_arithmetic name qualifier arguments || is_constructor known name qualifier (length (list_of arguments)) then [] else span ∷ []) (unknown_among known arguments)
          (unless (is_arithmetic name qualifier arguments || is_constructor known name qualifier (length (list_of arguments))) span lies.0) (unknown_among-within arguments lies.1)
      unknown_in-within other lies = tt

      pub unknown_among-within : (terms : Terms) → LieAll from to terms → AllWithin (unknown_among known terms)
      unknown_among-within none lie = tt
      unknown_among-within (more first rest) lie = both_within (unknown_in known first) (unknown_among known rest) (unknown_in-within first lie.0) (unknown_among-within rest lie.1)

    mutual
      pub unknown_within : (goal : Written) → GoalLies goal → AllWithin (unknown known goal)
      unknown_within (Equal at left right span) lies = both_within (unknown_in known left) (unknown_in known right) (unknown_in-within left lies.0) (unknown_in-within right lies.1)
      unknown_within (Compared at name left right span) lies = both_within (unknown_in known left) (unknown_in known right) (unknown_in-within left lies.0) (unknown_in-within right lies.1)
      unknown_within (Called at name qualifier arguments span) lies =
          both_within (if is_callee known (callee_in known name qualifier (length (list_of arguments))) then [] else span ∷ []) (unknown_among known arguments)
          (unless (is_callee known (callee_in known name qualifier (length (list_of arguments)))) span lies.0) (unknown_among-within arguments lies.1)
      unknown_within (Conjunction goals span) lies = all_unknown-within goals lies
      unknown_within (Parallel goals span) lies = all_unknown-within goals lies
      unknown_within (Disjunction goals span) lies = all_unknown-within goals lies
      unknown_within (Conditional condition then_part else_part span) lies =
          both_within (unknown known condition) _ (unknown_within condition lies.0) (both_within (unknown known then_part) (unknown known else_part) (unknown_within then_part lies.1) (unknown_within else_part lies.2))
      unknown_within (Negated goal span) lies = unknown_within goal lies
      unknown_within (Quantified variables goal span) lies = unknown_within goal lies
      unknown_within other lies = tt

      all_unknown-within : (goals : WrittenGoals) → GoalsLie goals → AllWithin (all_unknown known goals)
      all_unknown-within no_goals lie = tt
      all_unknown-within (more_goals first rest) lie = both_within (unknown known first) (all_unknown known rest) (unknown_within first lie.0) (all_unknown-within rest lie.1)
