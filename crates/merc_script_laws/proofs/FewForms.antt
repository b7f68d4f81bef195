-- Each parallel conjunction of a goal in flat form has from one to 64 conjuncts, where the goal as it is written is within the limit.
use Rattle.std.proofs.Common.{◌≡◌, ℕ, suc, ◌+◌, ◌≤◌, max, Bool, List, [], ◌∷◌, ◌++◌, length, Option, Some, None, refl, ap, sym, subst, arith}
use Rattle.std.specs.List.{AllByRecursion}
use Rattle.merc_base.specs.declared.place.Span.{Span}
use Rattle.merc_tree.specs.Term.{Term, list_of as terms_of}
use Rattle.merc_goals.specs.Entries.{goal_list}
use Rattle.merc_goals.specs.Faults.{widest_parallel, widest_of_all}
use Rattle.merc_goals.specs.Written.{Written, WrittenGoals, Truth, Failure, Equal, Compared, Called, Conjunction as WrittenConjunction, Parallel as WrittenParallel, Disjunction as WrittenDisjunction, Conditional as WrittenConditional, Negated, Quantified as WrittenQuantified, WrongForm, OutsideProfile, no_goals, more_goals, parts, written, written_span}
use Rattle.merc_goal_tree.specs.Nodes.{Node, Nodes, Simple, Conjunction, Parallel, Disjunction, Conditional, Negation, Quantified, no_nodes, more_nodes, nodes_of, list_of}
use Rattle.merc_goal_tree.specs.declared.goal.SimpleGoal.{SimpleGoal}
use Rattle.merc_name_resolution.specs.declared.callee.Callee.{Callee}
use Rattle.merc_scopes.specs.declared.occurrence.Occurrence.{Occurrence}
use Rattle.merc_scopes.specs.Scopes.{introduced}
use Rattle.merc_flat_form.specs.FlatForm.{argument_terms, body_goals, called, clause_goal, compared, equal, flat, flat_all, flat_each, head_goals, head_scope, one_goal, simple}
use Rattle.merc_order_laws.proofs.Written.{all_joined}
use Rattle.merc_script_laws.specs.Parallel.{most_conjuncts}
use Rattle.merc_script_laws.proofs.FewWritten.{HasSome, HaveSome}

abbrev mutual
  -- each parallel conjunction has few conjuncts
  pub FewIn : Node → Type 0
  FewIn (Simple goal span) = Unit {0}
  FewIn (Conjunction goals span) = AllFewIn goals
  FewIn (Parallel goals span) = (1 ≤ length (list_of goals)) × (length (list_of goals) ≤ most_conjuncts) × AllFewIn goals
  FewIn (Disjunction goals span) = AllFewIn goals
  FewIn (Conditional condition then_part else_part span) = FewIn condition × FewIn then_part × FewIn else_part
  FewIn (Negation goal span) = FewIn goal
  FewIn (Quantified own goal span) = FewIn goal

  pub AllFewIn : Nodes → Type 0
  AllFewIn no_nodes = Unit {0}
  AllFewIn (more_nodes first rest) = FewIn first × AllFewIn rest

abbrev pub EachFewIn : List Node → Type 0
EachFewIn goals = AllByRecursion FewIn goals

pub nodes_few : (goals : List Node) → EachFewIn goals → AllFewIn (nodes_of goals)
nodes_few [] few = tt
nodes_few (first ∷ rest) few = (few.0, nodes_few rest few.1)

one_few : (span : Span) (goals : List Node) → EachFewIn goals → FewIn (one_goal span goals)
one_few span [] few = tt
one_few span (only ∷ []) few = few.0
one_few span (first ∷ second ∷ rest) few = nodes_few (first ∷ second ∷ rest) few

simple_few : (span : Span) (goals : List SimpleGoal) → EachFewIn (simple span goals)
simple_few span [] = tt
simple_few span (first ∷ rest) = (tt, simple_few span rest)

-- a goal as it is written, whose widest parallel conjunction is within the limit

abbrev pub IsNarrow : Written → Type 0
IsNarrow goal = HasSome goal × (widest_parallel goal ≤ most_conjuncts)

abbrev AreNarrow : WrittenGoals → Type 0
AreNarrow goals = HaveSome goals × (widest_of_all goals ≤ most_conjuncts)

no_more : (a b c : ℕ) → a ≤ b → b ≤ c → a ≤ c
no_more a b c less less' = omega (arith, less, less')

max_left : (a b : ℕ) → a ≤ max a b
max_left a b = omega (arith)

max_right : (a b : ℕ) → b ≤ max a b
max_right a b = omega (arith)

left_narrow : (a b : ℕ) → max a b ≤ most_conjuncts → a ≤ most_conjuncts
left_narrow a b narrow = no_more a (max a b) most_conjuncts (max_left a b) narrow

right_narrow : (a b : ℕ) → max a b ≤ most_conjuncts → b ≤ most_conjuncts
right_narrow a b narrow = no_more b (max a b) most_conjuncts (max_right a b) narrow

first_narrow : (first : Written) (rest : WrittenGoals) → AreNarrow (more_goals first rest) → IsNarrow first
first_narrow first rest narrow = (narrow.0.0, left_narrow (widest_parallel first) (widest_of_all rest) narrow.1)

rest_narrow : (first : Written) (rest : WrittenGoals) → AreNarrow (more_goals first rest) → AreNarrow rest
rest_narrow first rest narrow = (narrow.0.1, right_narrow (widest_parallel first) (widest_of_all rest) narrow.1)

parts_narrow : (condition then_part else_part : Written) (span : Span) → IsNarrow (WrittenConditional condition then_part else_part span) → IsNarrow condition × IsNarrow then_part × IsNarrow else_part
parts_narrow condition then_part else_part span narrow =
    let others = right_narrow (widest_parallel condition) (max (widest_parallel then_part) (widest_parallel else_part)) narrow.1 in (
      (narrow.0.0, left_narrow (widest_parallel condition) (max (widest_parallel then_part) (widest_parallel else_part)) narrow.1),
      (narrow.0.1, left_narrow (widest_parallel then_part) (widest_parallel else_part) others),
      (narrow.0.2, right_narrow (widest_parallel then_part) (widest_parallel else_part) others),
    )

beside_narrow : (goals : WrittenGoals) (span : Span) → IsNarrow (WrittenParallel goals span) → (1 ≤ length (goal_list goals)) × (length (goal_list goals) ≤ most_conjuncts) × AreNarrow goals
beside_narrow goals span narrow = (
  narrow.0.0,
  left_narrow (length (goal_list goals)) (widest_of_all goals) narrow.1,
  (narrow.0.1, right_narrow (length (goal_list goals)) (widest_of_all goals) narrow.1),
)

abbrev pub MayBeNarrow : ℕ → Option Term → Type 0
MayBeNarrow at None = Unit {0}
MayBeNarrow at (Some body) = IsNarrow (written at body)

-- Given are which names are `_`, and what a name with a qualifier and so many arguments calls.
module _ (blank : ℕ → Bool) (callee : ℕ → Option ℕ → ℕ → Callee) where
  each_count : (scope : List Occurrence) (goals : WrittenGoals) → length (list_of (flat_each blank callee scope goals)) ≡ length (goal_list goals)
  each_count scope no_goals = refl
  each_count scope (more_goals first rest) = ap suc (each_count scope rest)

  as_many : (scope : List Occurrence) (goals : WrittenGoals) → 1 ≤ length (goal_list goals) → 1 ≤ length (list_of (flat_each blank callee scope goals))
  as_many scope goals one = subst (λ number. 1 ≤ number) (sym (each_count scope goals)) one

  as_most : (scope : List Occurrence) (goals : WrittenGoals) → length (goal_list goals) ≤ most_conjuncts → length (list_of (flat_each blank callee scope goals)) ≤ most_conjuncts
  as_most scope goals most = subst (λ number. number ≤ most_conjuncts) (sym (each_count scope goals)) most

  part_few : (scope : List Occurrence) (goal : Written) → EachFewIn (flat blank callee scope goal) → FewIn (one_goal (written_span goal) (flat blank callee scope goal))
  part_few scope goal few = one_few (written_span goal) (flat blank callee scope goal) few

  mutual
    flat_few : (scope : List Occurrence) (goal : Written) → IsNarrow goal → EachFewIn (flat blank callee scope goal)
    flat_few scope (Truth span) narrow = (tt, tt)
    flat_few scope (Failure span) narrow = (tt, tt)
    flat_few scope (Equal at left right span) narrow = simple_few span (equal blank (scope ++ introduced blank (Equal at left right span)) at left right)
    flat_few scope (Compared at name left right span) narrow = simple_few span (compared blank (scope ++ introduced blank (Compared at name left right span)) at name left right)
    flat_few scope (Called at name qualifier arguments span) narrow =
        simple_few span (called blank (scope ++ introduced blank (Called at name qualifier arguments span)) at (callee name qualifier (length (terms_of arguments))) arguments)
    flat_few scope (WrittenConjunction goals span) narrow = flat_all_few (scope ++ introduced blank (WrittenConjunction goals span)) goals narrow
    flat_few scope (WrittenParallel goals span) narrow =
        let known = scope ++ introduced blank (WrittenParallel goals span) in
        let inner = beside_narrow goals span narrow in
        ((as_many known goals inner.0, as_most known goals inner.1, flat_each_few known goals inner.2), tt)
    flat_few scope (WrittenDisjunction goals span) narrow = (flat_each_few scope goals narrow, tt)
    flat_few scope (WrittenConditional condition then_part else_part span) narrow =
        let region = scope ++ introduced blank (WrittenConditional condition then_part else_part span) in
        let narrow_parts = parts_narrow condition then_part else_part span narrow in (
          (part_few region condition (flat_few region condition narrow_parts.0), part_few region then_part (flat_few region then_part narrow_parts.1), part_few scope else_part (flat_few scope else_part narrow_parts.2)),
          tt,
        )
    flat_few scope (Negated goal span) narrow = (part_few scope goal (flat_few scope goal narrow), tt)
    flat_few scope (WrittenQuantified variables goal span) narrow =
        let known = introduced blank (WrittenQuantified variables goal span) ++ scope in
        (part_few known goal (flat_few known goal narrow), tt)
    flat_few scope (WrongForm span) narrow = tt
    flat_few scope (OutsideProfile span) narrow = tt

    flat_all_few : (scope : List Occurrence) (goals : WrittenGoals) → AreNarrow goals → EachFewIn (flat_all blank callee scope goals)
    flat_all_few scope no_goals narrow = tt
    flat_all_few scope (more_goals first rest) narrow =
        all_joined FewIn (flat blank callee scope first) (flat_all blank callee scope rest) (flat_few scope first (first_narrow first rest narrow)) (flat_all_few scope rest (rest_narrow first rest narrow))

    flat_each_few : (scope : List Occurrence) (goals : WrittenGoals) → AreNarrow goals → AllFewIn (flat_each blank callee scope goals)
    flat_each_few scope no_goals narrow = tt
    flat_each_few scope (more_goals first rest) narrow =
        (part_few scope first (flat_few scope first (first_narrow first rest narrow)), flat_each_few scope rest (rest_narrow first rest narrow))

  pub goal_few : (scope : List Occurrence) (goal : Written) → IsNarrow goal → FewIn (one_goal (written_span goal) (flat blank callee scope goal))
  goal_few scope goal narrow = part_few scope goal (flat_few scope goal narrow)

  -- the goals of a clause's body
  body_few : (scope : List Occurrence) (at : ℕ) (body : Option Term) → MayBeNarrow at body → EachFewIn (body_goals blank callee scope at body)
  body_few scope at None narrow = tt
  body_few scope at (Some body) narrow = flat_few scope (written at body) narrow

  pub clause_few : (at : ℕ) (head : Term) (body : Option Term) (span : Span) → MayBeNarrow (at + parts head) body → FewIn (clause_goal blank callee at head body span)
  clause_few at head body span narrow =
      let scope = head_scope blank 0 (at + 2) (argument_terms head) in
      let heads = head_goals blank scope 0 (at + 2) (argument_terms head) in
      let goals = body_goals blank callee scope (at + parts head) body in
      one_few span (simple span heads ++ goals) (all_joined FewIn (simple span heads) goals (simple_few span heads) (body_few scope (at + parts head) body narrow))
