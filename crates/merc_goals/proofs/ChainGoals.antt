-- The members of a chain are the sub-goals of one list.
use Rattle.std.proofs.Common.{◌≡◌, ℕ, ◌+◌, ◌==◌, ◌||◌, Bool, true, false, List, [], ◌∷◌, ◌++◌, map, Option, Some, None, if◌then◌else◌, refl, ap, sym, ◌∙◌}
use Rattle.merc_base.specs.Names.{arrow_name, fail_name, false_name, if_name, not_name, not_provable_name, true_name}
use Rattle.merc_base.specs.declared.place.Span.{Span}
use Rattle.merc_tree.specs.Term.{Term, Variable, Integer, Text, Application, none, more}
use Rattle.merc_goals.specs.Written.{Written, WrittenGoals, no_goals, more_goals, Truth, Failure, Equal, Compared, Called, Conjunction, Parallel, Disjunction, Conditional, Negated, Quantified, WrongForm, OutsideProfile, parts, joined, conjuncts, parallel_conjuncts, disjuncts, listed_variables, quantified, conditional, written}
use Rattle.merc_goals.specs.Entries.{goals_of}
use Rattle.merc_goals.specs.Roles.{role_of}
use Rattle.merc_goals.specs.Numbers.{left_of, right_of}
use Rattle.merc_goals.specs.Links.{sides, condition_sides, joins, chain}
use Rattle.merc_goals.proofs.RoleLaws.{by_role, goal_at, goals_at, is_some, arrow_parts-sides, is_arrow-parts, written-by_role}
use Rattle.merc_goals.specs.Numbers.{NumberedTerm}
use Rattle.merc_goals.specs.declared.roles.ChainKind.{ChainKind}
use Rattle.merc_goals.specs.declared.roles.ChainKind.TheVariants.{Conjuncts, ParallelConjuncts, Disjuncts}
use Rattle.merc_goals.specs.declared.roles.Role.{Role}
use Rattle.merc_goals.specs.declared.roles.Role.TheVariants.{Conjunction as ConjunctionRole, Parallel as ParallelRole, Disjunction as DisjunctionRole, Else, Misplaced, Existential, Universal, Equation, Inequation, Comparison, Unsupported, Call}

abbrev pub only : Written → WrittenGoals
only goal = more_goals goal no_goals

-- a goal as the members of a chain of this kind
abbrev pub members_of : Written → ChainKind → WrittenGoals
members_of (Conjunction goals span) Conjuncts = goals
members_of (Parallel goals span) ParallelConjuncts = goals
members_of (Disjunction goals span) Disjuncts = goals
members_of other kind = only other

conjuncts-members : (goal : Written) → members_of goal Conjuncts ≡ conjuncts goal
conjuncts-members (Truth span) = refl
conjuncts-members (Failure span) = refl
conjuncts-members (Equal at left right span) = refl
conjuncts-members (Compared at name left right span) = refl
conjuncts-members (Called at name qualifier arguments span) = refl
conjuncts-members (Conjunction goals span) = refl
conjuncts-members (Parallel goals span) = refl
conjuncts-members (Disjunction goals span) = refl
conjuncts-members (Conditional condition then_part else_part span) = refl
conjuncts-members (Negated goal span) = refl
conjuncts-members (Quantified variables goal span) = refl
conjuncts-members (WrongForm span) = refl
conjuncts-members (OutsideProfile span) = refl

parallel-members : (goal : Written) → members_of goal ParallelConjuncts ≡ parallel_conjuncts goal
parallel-members (Truth span) = refl
parallel-members (Failure span) = refl
parallel-members (Equal at left right span) = refl
parallel-members (Compared at name left right span) = refl
parallel-members (Called at name qualifier arguments span) = refl
parallel-members (Conjunction goals span) = refl
parallel-members (Parallel goals span) = refl
parallel-members (Disjunction goals span) = refl
parallel-members (Conditional condition then_part else_part span) = refl
parallel-members (Negated goal span) = refl
parallel-members (Quantified variables goal span) = refl
parallel-members (WrongForm span) = refl
parallel-members (OutsideProfile span) = refl

disjuncts-members : (goal : Written) → members_of goal Disjuncts ≡ disjuncts goal
disjuncts-members (Truth span) = refl
disjuncts-members (Failure span) = refl
disjuncts-members (Equal at left right span) = refl
disjuncts-members (Compared at name left right span) = refl
disjuncts-members (Called at name qualifier arguments span) = refl
disjuncts-members (Conjunction goals span) = refl
disjuncts-members (Parallel goals span) = refl
disjuncts-members (Disjunction goals span) = refl
disjuncts-members (Conditional condition then_part else_part span) = refl
disjuncts-members (Negated goal span) = refl
disjuncts-members (Quantified variables goal span) = refl
disjuncts-members (WrongForm span) = refl
disjuncts-members (OutsideProfile span) = refl

abbrev pub goals_for : List NumberedTerm → WrittenGoals
goals_for members = goals_of (map goal_at members)

goals_for-append : (front back : List NumberedTerm) → goals_for (front ++ back) ≡ joined (goals_for front) (goals_for back)
goals_for-append [] back = refl
goals_for-append (first ∷ rest) back = ap (more_goals (goal_at first)) (goals_for-append rest back)

both_joined : (a b c d : WrittenGoals) → a ≡ c → b ≡ d → joined a b ≡ joined c d
both_joined a b c d p q = cc

-- a quantified goal is the only member of a chain
only_quantified : (universal : Bool) (variables : Option (List ℕ)) (goal : Written) (span : Span) (kind : ChainKind)
    → only (quantified universal variables goal span) ≡ members_of (quantified universal variables goal span) kind
only_quantified universal None goal span kind = refl
only_quantified true (Some variables) goal span kind = refl
only_quantified false (Some variables) goal span kind = refl

only_conditional : (parts : Option (Written × Written)) (else_part : Written) (span : Span) (kind : ChainKind)
    → only (conditional parts else_part span) ≡ members_of (conditional parts else_part span) kind
only_conditional None else_part span kind = refl
only_conditional (Some parts) else_part span kind = refl

module _ (at name : ℕ) (left right : Term) (first second : Written) (if_then : Option (Written × Written)) (span : Span)
    (front back : List NumberedTerm) (self : NumberedTerm) where
  abbrev whole : Role → Option (Written × Written) → Written
  whole role arrow = by_role role at name left right first second arrow if_then span

  pub two_goals : (role : Role) (kind : ChainKind) (arrow : Option (Written × Written))
      → goals_for front ≡ members_of first kind → goals_for back ≡ members_of second kind → goal_at self ≡ whole role arrow
      → goals_for (if joins role kind (is_some arrow) then front ++ back else self ∷ []) ≡ members_of (whole role arrow) kind
  two_goals ConjunctionRole Conjuncts arrow f b is =
      goals_for-append front back ∙ both_joined _ _ _ _ (f ∙ conjuncts-members first) (b ∙ conjuncts-members second)
  two_goals ConjunctionRole ParallelConjuncts arrow f b is = ap only is
  two_goals ConjunctionRole Disjuncts arrow f b is = ap only is
  two_goals ParallelRole Conjuncts arrow f b is = ap only is
  two_goals ParallelRole ParallelConjuncts arrow f b is =
      goals_for-append front back ∙ both_joined _ _ _ _ (f ∙ parallel-members first) (b ∙ parallel-members second)
  two_goals ParallelRole Disjuncts arrow f b is = ap only is
  two_goals DisjunctionRole Conjuncts None f b is = ap only is
  two_goals DisjunctionRole Conjuncts (Some parts) f b is = ap only is
  two_goals DisjunctionRole ParallelConjuncts None f b is = ap only is
  two_goals DisjunctionRole ParallelConjuncts (Some parts) f b is = ap only is
  two_goals DisjunctionRole Disjuncts None f b is =
      goals_for-append front back ∙ both_joined _ _ _ _ (f ∙ disjuncts-members first) (b ∙ disjuncts-members second)
  two_goals DisjunctionRole Disjuncts (Some parts) f b is = ap only is
  two_goals Else kind arrow f b is = ap only is ∙ only_conditional if_then second span kind
  two_goals Misplaced kind arrow f b is = ap only is
  two_goals Existential kind arrow f b is = ap only is ∙ only_quantified false (listed_variables left) second span kind
  two_goals Universal kind arrow f b is = ap only is ∙ only_quantified true (listed_variables left) second span kind
  two_goals Equation kind arrow f b is = ap only is
  two_goals Inequation kind arrow f b is = ap only is
  two_goals Comparison kind arrow f b is = ap only is
  two_goals Unsupported kind arrow f b is = ap only is
  two_goals Call kind arrow f b is = ap only is

only_if : (kind : ChainKind) (test : Bool) (goal other : Written) → only goal ≡ members_of goal kind → only other ≡ members_of other kind
    → only (if test then goal else other) ≡ members_of (if test then goal else other) kind
only_if kind true goal other is others = is
only_if kind false goal other is others = others

-- the members of a chain, as goals
pub chain_goals : (kind : ChainKind) (at : ℕ) (term : Term) → goals_for (chain kind at term) ≡ members_of (written at term) kind
chain_goals kind at (Variable name span) = refl
chain_goals kind at (Integer value span) = refl
chain_goals kind at (Text text span) = refl
chain_goals kind at (Application name None none span) =
    let call : Written = Called at name None none span in
    only_if kind (name == true_name) (Truth span) (if (name == fail_name) || (name == false_name) then Failure span else call) refl
    (only_if kind ((name == fail_name) || (name == false_name)) (Failure span) call refl refl)
chain_goals kind at (Application name None (more first none) span) =
    let call : Written = Called at name None (more first none) span in
    only_if kind ((name == not_name) || (name == not_provable_name)) (Negated (written (at + 2) first) span) (if name == if_name then WrongForm span else call) refl
    (only_if kind (name == if_name) (WrongForm span) call refl refl)
chain_goals kind at (Application name None (more left (more right none)) span) =
    let self : NumberedTerm = record { term = Application name None (more left (more right none)) span; at = at } in
    let arrow = goals_at (sides arrow_name (left_of at left)) in
    let front = chain kind (at + 2) left in
    let back = chain kind (at + 2 + parts left) right in
    let is = written-by_role at name left right span in
    ap (λ test. goals_for (if joins (role_of name) kind test then front ++ back else self ∷ []))
    (is_arrow-parts (at + 2) left ∙ ap is_some (arrow_parts-sides (at + 2) left))
    ∙ two_goals at name left right (goal_at (left_of at left)) (goal_at (right_of at left right)) (goals_at (condition_sides (left_of at left))) span
    front back self (role_of name) kind arrow (chain_goals kind (at + 2) left) (chain_goals kind (at + 2 + parts left) right) is
    ∙ ap (λ goal. members_of goal kind) (sym is)
chain_goals kind at (Application name None (more first (more second (more third rest))) span) = refl
chain_goals kind at (Application name (Some qualifier) arguments span) = refl
