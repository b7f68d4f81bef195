-- Each parallel conjunction of a goal as it is written has a conjunct.
use Rattle.std.proofs.Common.{ℕ, ◌+◌, ◌≤◌, Bool, true, false, List, length, Option, Some, None, if◌then◌else◌, arith}
use Rattle.merc_base.specs.declared.place.Span.{Span}
use Rattle.merc_tree.specs.Term.{Term, Variable, Integer, Text, Application, none, more}
use Rattle.merc_goals.specs.Entries.{goal_list}
use Rattle.merc_goals.specs.Written.{Written, WrittenGoals, Truth, Failure, Equal, Compared, Called, Conjunction, Parallel, Disjunction, Conditional, Negated, Quantified, WrongForm, OutsideProfile, no_goals, more_goals, parts, joined, conjuncts, parallel_conjuncts, disjuncts, listed_variables, quantified, nullary, conditional, alternatives, binary, written, arrow_parts, if_then_parts, then_parts}

abbrev mutual
  pub HasSome : Written → Type 0
  HasSome (Truth span) = Unit {0}
  HasSome (Failure span) = Unit {0}
  HasSome (Equal at left right span) = Unit {0}
  HasSome (Compared at name left right span) = Unit {0}
  HasSome (Called at name qualifier arguments span) = Unit {0}
  HasSome (Conjunction goals span) = HaveSome goals
  HasSome (Parallel goals span) = (1 ≤ length (goal_list goals)) × HaveSome goals
  HasSome (Disjunction goals span) = HaveSome goals
  HasSome (Conditional condition then_part else_part span) = HasSome condition × HasSome then_part × HasSome else_part
  HasSome (Negated goal span) = HasSome goal
  HasSome (Quantified variables goal span) = HasSome goal
  HasSome (WrongForm span) = Unit {0}
  HasSome (OutsideProfile span) = Unit {0}

  pub HaveSome : WrittenGoals → Type 0
  HaveSome no_goals = Unit {0}
  HaveSome (more_goals first rest) = HasSome first × HaveSome rest

-- a goal in two parts, where it is one
abbrev PartsHaveSome : Option (Written × Written) → Type 0
PartsHaveSome None = Unit {0}
PartsHaveSome (Some parts) = HasSome parts.0 × HasSome parts.1

either : (b : Bool) (one other : Written) → HasSome one → HasSome other → HasSome (if b then one else other)
either true one other some some' = some
either false one other some some' = some'

either_parts : (b : Bool) (one : Option (Written × Written)) → PartsHaveSome one → PartsHaveSome (if b then one else None)
either_parts true one some = some
either_parts false one some = tt

joined_some : (front back : WrittenGoals) → HaveSome front → HaveSome back → HaveSome (joined front back)
joined_some no_goals back some some' = some'
joined_some (more_goals first rest) back some some' = (some.0, joined_some rest back some.1 some')

conjuncts_some : (goal : Written) → HasSome goal → HaveSome (conjuncts goal)
conjuncts_some (Conjunction goals span) some = some
conjuncts_some other some = (some, tt)

disjuncts_some : (goal : Written) → HasSome goal → HaveSome (disjuncts goal)
disjuncts_some (Disjunction goals span) some = some
disjuncts_some other some = (some, tt)

parallel_some : (goal : Written) → HasSome goal → (1 ≤ length (goal_list (parallel_conjuncts goal))) × HaveSome (parallel_conjuncts goal)
parallel_some (Parallel goals span) some = some
parallel_some other some = (omega arith, (some, tt))

one_joined : (front back : WrittenGoals) → 1 ≤ length (goal_list front) → 1 ≤ length (goal_list (joined front back))
one_joined no_goals back one = absurd (omega (arith, one))
one_joined (more_goals first rest) back one = omega arith

beside_some : (first second : Written) (span : Span) → HasSome first → HasSome second → HasSome (Parallel (joined (parallel_conjuncts first) (parallel_conjuncts second)) span)
beside_some first second span some some' =
    let one = parallel_some first some in
    (one_joined (parallel_conjuncts first) (parallel_conjuncts second) one.0, joined_some (parallel_conjuncts first) (parallel_conjuncts second) one.1 (parallel_some second some').1)

quantified_some : (universal : Bool) (variables : Option (List ℕ)) (goal : Written) (span : Span) → HasSome goal → HasSome (quantified universal variables goal span)
quantified_some true None goal span some = tt
quantified_some false None goal span some = tt
quantified_some true (Some variables) goal span some = some
quantified_some false (Some variables) goal span some = some

nullary_some : (at name : ℕ) (span : Span) → HasSome (nullary at name span)
nullary_some at name span = search either

conditional_some : (parts : Option (Written × Written)) (goal : Written) (span : Span) → PartsHaveSome parts → HasSome goal → HasSome (conditional parts goal span)
conditional_some None goal span some some' = tt
conditional_some (Some parts) goal span some some' = (some.0, some.1, some')

alternatives_some : (parts : Option (Written × Written)) (first second : Written) (span : Span) → PartsHaveSome parts → HasSome first → HasSome second → HasSome (alternatives parts first second span)
alternatives_some (Some parts) first second span some one other = (some.0, some.1, other)
alternatives_some None first second span some one other = joined_some (disjuncts first) (disjuncts second) (disjuncts_some first one) (disjuncts_some second other)

binary_some : (at name : ℕ) (left right : Term) (first second : Written) (arrow if_then : Option (Written × Written)) (span : Span)
    → HasSome first → HasSome second → PartsHaveSome arrow → PartsHaveSome if_then → HasSome (binary at name left right first second arrow if_then span)
binary_some at name left right first second arrow if_then span one other some some' =
    search (
      either,
      joined_some (conjuncts first) (conjuncts second) (conjuncts_some first one) (conjuncts_some second other),
      beside_some first second span one other,
      alternatives_some arrow first second span some one other,
      conditional_some if_then second span some' other,
      quantified_some false (listed_variables left) second span other,
      quantified_some true (listed_variables left) second span other,
    ) depth 20 fits 4000

mutual
  pub written_some : (at : ℕ) (term : Term) → HasSome (written at term)
  written_some at (Variable name span) = tt
  written_some at (Integer value span) = tt
  written_some at (Text name span) = tt
  written_some at (Application name None none span) = nullary_some at name span
  written_some at (Application name None (more only none) span) =
      let inner = written_some (at + 2) only in
      search (either, inner)
  written_some at (Application name None (more left (more right none)) span) =
      binary_some at name left right (written (at + 2) left) (written (at + 2 + parts left) right) (arrow_parts (at + 2) left) (if_then_parts (at + 2) left) span
      (written_some (at + 2) left) (written_some (at + 2 + parts left) right) (arrow_some (at + 2) left) (if_then_some (at + 2) left)
  written_some at (Application name None (more first (more second (more third rest))) span) = tt
  written_some at (Application name (Some qualifier) arguments span) = tt

  arrow_some : (at : ℕ) (term : Term) → PartsHaveSome (arrow_parts at term)
  arrow_some at (Application name None (more left (more right none)) span) =
      let both : HasSome (written (at + 2) left) × HasSome (written (at + 2 + parts left) right) = (written_some (at + 2) left, written_some (at + 2 + parts left) right) in
      search (either_parts, both)
  arrow_some at other = tt

  if_then_some : (at : ℕ) (term : Term) → PartsHaveSome (if_then_parts at term)
  if_then_some at (Application name None (more only none) span) =
      let inner = then_some (at + 2) only in
      search (either_parts, inner)
  if_then_some at other = tt

  then_some : (at : ℕ) (term : Term) → PartsHaveSome (then_parts at term)
  then_some at (Application name None (more left (more right none)) span) =
      let both : HasSome (written (at + 2) left) × HasSome (written (at + 2 + parts left) right) = (written_some (at + 2) left, written_some (at + 2 + parts left) right) in
      search (either_parts, both)
  then_some at other = tt
