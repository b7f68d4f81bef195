-- The plan of a term is smaller than the task to read it.
use Rattle.std.proofs.Common.{◌≡◌, ℕ, ◌+◌, ◌*◌, ◌≤◌, ◌<◌, ◌==◌, ◌||◌, Bool, true, false, not, List, [], ◌∷◌, ◌++◌, map, Option, Some, None, if◌then◌else◌, refl, ap, ◌∙◌, arith}
use Rattle.merc_base.specs.Names.{arrow_name, fail_name, false_name, if_name, not_name, not_provable_name, true_name}
use Rattle.merc_base.specs.declared.place.Span.{Span}
use Rattle.merc_tree.specs.Term.{Term, Variable, Integer, Text, Application, none, more}
use Rattle.merc_goals.specs.Written.{parts, listed_variables}
use Rattle.merc_goals.specs.Roles.{role_of}
use Rattle.merc_goals.specs.Numbers.{left_of, right_of}
use Rattle.merc_goals.specs.Links.{sides_of, sides, condition_sides, is_arrow, joins, chain}
use Rattle.merc_goals.specs.Plans.{plan, plain_plan, call_plan, two_plan, arrow_plan, if_plan, some_by, all_by}
use Rattle.merc_goals.proofs.RoleLaws.{goals_at, is_some, arrow_parts-sides, is_arrow-parts}
use Rattle.merc_goals.proofs.ChainLaws.{parts_all, parts_some, AreLess, sides_less, condition_less, joined_less}
use Rattle.merc_goals.specs.Numbers.{NumberedTerm}
use Rattle.merc_goals.specs.declared.links.Both.{Both}
use Rattle.merc_goals.specs.declared.planning.Task.{Task}
use Rattle.merc_goals.specs.declared.planning.Task.TheVariants.{Read, Put}
use Rattle.merc_goals.specs.declared.goal.Form.{Form}
use Rattle.merc_goals.specs.declared.goal.Form.TheVariants.{Truth as TruthForm, Failure as FailureForm, Negated as NegatedForm, WrongForm as NoForm}
use Rattle.merc_goals.specs.declared.roles.ChainKind.{ChainKind}
use Rattle.merc_goals.specs.declared.roles.ChainKind.TheVariants.{Conjuncts, ParallelConjuncts, Disjuncts}
use Rattle.merc_goals.specs.declared.roles.Role.{Role}
use Rattle.merc_goals.specs.declared.roles.Role.TheVariants.{Conjunction as ConjunctionRole, Parallel as ParallelRole, Disjunction as DisjunctionRole, Else, Misplaced, Existential, Universal, Equation, Inequation, Comparison, Unsupported, Call}

-- how much is left to do
abbrev pub weight : Task → ℕ
weight (Read numbered) = 2 * parts numbered.term
weight (Put form at span start) = 1

abbrev pub total : List Task → ℕ
total [] = 0
total (task ∷ rest) = weight task + total rest

pub total-append : (front back : List Task) → total (front ++ back) ≡ total front + total back
total-append [] back = omega arith
total-append (task ∷ rest) back = omega (arith, total-append rest back)

total-members : (members : List NumberedTerm) → total (map (λ n. Read n) members) ≡ 2 * parts_all members
total-members [] = omega arith
total-members (first ∷ rest) = omega (arith, total-members rest)

less_if : (test : Bool) (limit : ℕ) (tasks others : List Task) → total tasks < limit → total others < limit → total (if test then tasks else others) < limit
less_if true limit tasks others a b = a
less_if false limit tasks others a b = b

module _ (start : ℕ) (whole : NumberedTerm) (left right : NumberedTerm) (size : ℕ) (sizes : 2 + parts left.term + parts right.term ≤ size) where
  alternatives_less : (found : Option Both) → AreLess (parts left.term) found → (found ≡ None → parts_all (chain Disjuncts whole.at whole.term) < size)
      → total (arrow_plan start whole found right) < 2 * size
  alternatives_less None less small = omega (arith, small refl, total-members (chain Disjuncts whole.at whole.term))
  alternatives_less (Some both) less small = omega arith

  else_less : (span : Span) (found : Option Both) → AreLess (parts left.term) found → total (if_plan start found right span) < 2 * size
  else_less span None less = omega arith
  else_less span (Some both) less = omega arith

  some_less : (span : Span) (found : Option (List ℕ)) → total (some_by start found right span) < 2 * size
  some_less span None = omega arith
  some_less span (Some variables) = omega (arith, parts_some left.term)

  all_less : (span : Span) (found : Option (List ℕ)) → total (all_by start found right span) < 2 * size
  all_less span None = omega arith
  all_less span (Some variables) = omega (arith, parts_some left.term)

-- the first side of `;` is no `C -> T` where it has no such sides
no_arrow : (at : ℕ) (left : Term) → sides arrow_name (left_of at left) ≡ None → is_arrow left ≡ false
no_arrow at left is = is_arrow-parts (at + 2) left ∙ ap is_some (arrow_parts-sides (at + 2) left ∙ ap goals_at is)

module _ (start at name : ℕ) (left right : Term) (span : Span) where
  abbrev whole : NumberedTerm
  whole = record { term = Application name None (more left (more right none)) span; at = at }

  two_less : (role : Role) → ((kind : ChainKind) → joins role kind (is_arrow left) ≡ true → parts_all (chain kind whole.at whole.term) < parts whole.term)
      → total (two_plan start whole role name (sides_of at left right)) < 2 * parts whole.term
  two_less ConjunctionRole small = omega (arith, small Conjuncts refl, total-members (chain Conjuncts whole.at whole.term))
  two_less ParallelRole small = omega (arith, small ParallelConjuncts refl, total-members (chain ParallelConjuncts whole.at whole.term))
  two_less DisjunctionRole small =
      alternatives_less start whole (left_of at left) (right_of at left right) (parts whole.term) (omega arith) (sides arrow_name (left_of at left)) (sides_less arrow_name (at + 2) left)
      (λ is. small Disjuncts (ap not (no_arrow at left is)))
  two_less Else small =
      else_less start whole (left_of at left) (right_of at left right) (parts whole.term) (omega arith) span (condition_sides (left_of at left)) (condition_less (at + 2) left)
  two_less Misplaced small = omega arith
  two_less Existential small = some_less start whole (left_of at left) (right_of at left right) (parts whole.term) (omega arith) span (listed_variables left)
  two_less Universal small = all_less start whole (left_of at left) (right_of at left right) (parts whole.term) (omega arith) span (listed_variables left)
  two_less Equation small = omega arith
  two_less Inequation small = omega arith
  two_less Comparison small = omega arith
  two_less Unsupported small = omega arith
  two_less Call small = omega arith

term_less : (start at : ℕ) (term : Term) → total (plan start (record { term = term; at = at })) < 2 * parts term
term_less start at (Variable name span) = omega arith
term_less start at (Integer value span) = omega arith
term_less start at (Text text span) = omega arith
term_less start at (Application name None none span) =
    let call : List Task = call_plan start (record { term = Application name None none span; at = at }) in
    less_if (name == true_name) 4 (plain_plan start TruthForm span) (if (name == fail_name) || (name == false_name) then plain_plan start FailureForm span else call) (omega arith)
    (less_if ((name == fail_name) || (name == false_name)) 4 (plain_plan start FailureForm span) call (omega arith) (omega arith))
term_less start at (Application name None (more only none) span) =
    let size = 2 * parts (Application name None (more only none) span) in
    let call : List Task = call_plan start (record { term = Application name None (more only none) span; at = at }) in
    let goal : List Task = Put NegatedForm 0 span start ∷ Read (left_of at only) ∷ [] in
    less_if ((name == not_name) || (name == not_provable_name)) size goal (if name == if_name then plain_plan start NoForm span else call) (omega arith)
    (less_if (name == if_name) size (plain_plan start NoForm span) call (omega arith) (omega arith))
term_less start at (Application name None (more left (more right none)) span) =
    two_less start at name left right span (role_of name) (λ kind is. joined_less kind at name left right span is)
term_less start at (Application name None (more first (more second (more third rest))) span) = omega arith
term_less start at (Application name (Some qualifier) arguments span) = omega arith

pub plan_less : (start : ℕ) (numbered : NumberedTerm) → total (plan start numbered) < 2 * parts numbered.term
plan_less start numbered = term_less start numbered.at numbered.term

-- one step of the loop over tasks

pub read_size : (start : ℕ) (tasks popped planned : List Task) (numbered : NumberedTerm)
    → tasks ≡ popped ++ Read numbered ∷ [] → planned ≡ popped ++ plan start numbered → total planned < total tasks
read_size start tasks popped planned numbered popping planning =
    omega (
      arith,
      ap total popping,
      ap total planning,
      total-append popped (Read numbered ∷ []),
      total-append popped (plan start numbered),
      plan_less start numbered,
    )

pub put_size : (tasks popped : List Task) (form : Form) (at : ℕ) (span : Span) (start : ℕ)
    → tasks ≡ popped ++ Put form at span start ∷ [] → total popped < total tasks
put_size tasks popped form at span start popping = omega (arith, ap total popping, total-append popped (Put form at span start ∷ []))
