-- An ordered goal has as many conjuncts in each parallel conjunction as the goal as it is written.
use Rattle.std.proofs.Common.{◌≡◌, ℕ, zero, suc, ◌+◌, ◌&&◌, ◌≤◌, Bool, true, false, List, [], ◌∷◌, ◌++◌, length, Option, Some, None, if◌then◌else◌, refl, ap, sym, subst, ◌∙◌}
use Rattle.std.specs.List.{AllByRecursion}
use Rattle.merc_base.specs.declared.place.Span.{Span}
use Rattle.merc_base.specs.declared.refusal.Refusal.{Refusal}
use Rattle.merc_tree.specs.declared.declarations.ModeDecl.{ModeDecl}
use Rattle.merc_goal_tree.specs.declared.goal.SimpleGoal.{SimpleGoal}
use Rattle.merc_goal_tree.specs.declared.goal.SimpleGoal.TheVariants.{True, Fail, Same, Shape, Arithmetic, Compare, Raise, Call}
use Rattle.merc_goal_tree.specs.Nodes.{Node, Nodes, Simple, Conjunction, Parallel, Disjunction, Conditional, Negation, Quantified, no_nodes, more_nodes, list_of, span_of}
use Rattle.merc_goal_tree.specs.Variables.{variables, all_variables}
use Rattle.merc_graded_tree.specs.Nodes.{Node as OrderedNode}
use Rattle.merc_graded_tree.specs.declared.basic.BasicGoal.{BasicGoal}
use Rattle.merc_order.specs.Bound.{Bound, with, are_bound}
use Rattle.merc_order.specs.CallModes.{taken_from, tested}
use Rattle.merc_order.specs.Faults.{never_ready, binds_outer, unbound_output}
use Rattle.merc_order.specs.Moves.{Move, Next, behind, if_ready_next, next, settled_next, settled, beside_next, beside, each_from}
use Rattle.merc_order.specs.Order.{agree, arms, binds, binds_inside, called_from, decision_arms, from, moves, outputs_of, same_from, simple_from}
use Rattle.merc_order.specs.Ordered.{Ordered, Step, Ordereds, put, Truth, Failure, Assign, Test, Build, Split, Computed, Compared, Raised, Called, Sequence, Beside, Choice, Decision, Denial, Within, no_goals, more_goals, Outcome, Ready, Stuck, Outcomes, AllReady, OneStuck, if_ready, if_all_ready, then_all, and_all}
use Rattle.merc_order.specs.Procedures.{IsBody, are_bound_behind, body_from, first_fresh, total_of}
use Rattle.merc_order.specs.Spelt.{spelt, spelt_all, tests_of, twins, with_tests}
use Rattle.merc_par_split.specs.Sites.{count}
use Rattle.merc_script_laws.specs.Parallel.{most_conjuncts, HasFew, AllHaveFew}
use Rattle.merc_script_laws.proofs.FewForms.{FewIn, AllFewIn}

-- how many goals there are
abbrev amount : Ordereds → ℕ
amount no_goals = 0
amount (more_goals first rest) = suc (amount rest)

abbrev mutual
  -- each parallel conjunction has few conjuncts
  pub FewOrdered : Ordered → Type 0
  FewOrdered (put step outputs span) = FewStep step

  pub FewStep : Step → Type 0
  FewStep (Sequence goals) = AllFewOrdered goals
  FewStep (Beside goals) = (1 ≤ amount goals) × (amount goals ≤ most_conjuncts) × AllFewOrdered goals
  FewStep (Choice goals) = AllFewOrdered goals
  FewStep (Decision condition then_part else_part) = FewOrdered condition × FewOrdered then_part × FewOrdered else_part
  FewStep (Denial goal) = FewOrdered goal
  FewStep (Within own goal) = FewOrdered goal
  FewStep other = Unit {0}

  pub AllFewOrdered : Ordereds → Type 0
  AllFewOrdered no_goals = Unit {0}
  AllFewOrdered (more_goals first rest) = FewOrdered first × AllFewOrdered rest

-- so has what becomes of a goal, if it is ready

abbrev FewReady : Outcome → Type 0
FewReady (Ready goal) = FewOrdered goal
FewReady (Stuck fault) = Unit {0}

abbrev AllFewReady : Outcomes → Type 0
AllFewReady (AllReady goals) = AllFewOrdered goals
AllFewReady (OneStuck fault) = Unit {0}

-- the same of so many goals
abbrev ManyFewReady : ℕ → Outcomes → Type 0
ManyFewReady number (AllReady goals) = (amount goals ≡ number) × AllFewOrdered goals
ManyFewReady number (OneStuck fault) = Unit {0}

abbrev FewMove : Move → Type 0
FewMove move = (bound : Bound) → FewReady (move.from bound)

abbrev FewMoves : List Move → Type 0
FewMoves moves = AllByRecursion FewMove moves

either_few : (b : Bool) (one other : Outcome) → FewReady one → FewReady other → FewReady (if b then one else other)
either_few true one other few few' = few
either_few false one other few few' = few'

unless_few : (b : Bool) (goal : Ordered) (fault : Refusal) → FewOrdered goal → FewReady (if b then Ready goal else Stuck fault)
unless_few b goal fault few = either_few b (Ready goal) (Stuck fault) few tt

if_few : (outcome : Outcome) (made : Ordered → Outcome) → FewReady outcome → ((goal : Ordered) → FewOrdered goal → FewReady (made goal)) → FewReady (if_ready outcome made)
if_few (Ready goal) made few makes = makes goal few
if_few (Stuck fault) made few makes = tt

if_all_few : (outcomes : Outcomes) (made : Ordereds → Outcome) → AllFewReady outcomes → ((goals : Ordereds) → AllFewOrdered goals → FewReady (made goals)) → FewReady (if_all_ready outcomes made)
if_all_few (AllReady goals) made few makes = makes goals few
if_all_few (OneStuck fault) made few makes = tt

if_many_few : (number : ℕ) (outcomes : Outcomes) (made : Ordereds → Outcome) → ManyFewReady number outcomes
    → ((goals : Ordereds) → amount goals ≡ number → AllFewOrdered goals → FewReady (made goals)) → FewReady (if_all_ready outcomes made)
if_many_few number (AllReady goals) made few makes = makes goals few.0 few.1
if_many_few number (OneStuck fault) made few makes = tt

then_few : (first : Ordered) (rest : Outcomes) → FewOrdered first → AllFewReady rest → AllFewReady (then_all first rest)
then_few first (AllReady rest) few few' = (few, few')
then_few first (OneStuck fault) few few' = tt

and_few : (first : Outcome) (rest : Outcomes) → FewReady first → AllFewReady rest → AllFewReady (and_all first rest)
and_few (Ready first) rest few few' = then_few first rest few few'
and_few (Stuck fault) rest few few' = tt

each_few : (moves : List Move) → FewMoves moves → (bound : Bound) → AllFewReady (each_from moves bound)
each_few [] few bound = tt
each_few (move ∷ moves) few bound = and_few (move.from bound) (each_from moves bound) (few.0 bound) (each_few moves few.1 bound)

-- In a conjunction.

abbrev FewNext : Option Next → Type 0
FewNext None = Unit {0}
FewNext (Some found) = FewOrdered found.goal × FewMoves found.others

next_step : (outcome : Outcome) (move : Move) (moves : List Move) (later : Option Next) → FewReady outcome → FewMove move → FewMoves moves → FewNext later
    → FewNext (if_ready_next outcome move.binds moves (behind move later))
next_step (Ready goal) move moves later few one others few' = (few, others)
next_step (Stuck fault) move moves None few one others few' = tt
next_step (Stuck fault) move moves (Some found) few one others few' = (few'.0, (one, few'.1))

next_few : (moves : List Move) → FewMoves moves → (bound : Bound) → FewNext (next moves bound)
next_few [] few bound = tt
next_few (move ∷ moves) few bound = next_step (move.from bound) move moves (next moves bound) (few.0 bound) few.0 few.1 (next_few moves few.1 bound)

settled_step : (first : Outcome) (bound : Bound) (found : Option Next) (others : List Move → Bound → Outcomes) → FewNext found
    → ((moves : List Move) (now : Bound) → FewMoves moves → AllFewReady (others moves now)) → AllFewReady (settled_next first bound found others)
settled_step (Ready goal) bound None others few again = tt
settled_step (Stuck fault) bound None others few again = tt
settled_step first bound (Some found) others few again =
    then_few found.goal (others found.others (with bound found.binds)) few.0 (again found.others (with bound found.binds) few.1)

settled_few : (left : ℕ) (moves : List Move) → FewMoves moves → (bound : Bound) → AllFewReady (settled left moves bound)
settled_few left [] few bound = tt
settled_few zero (move ∷ moves) few bound = tt
settled_few (suc left) (move ∷ moves) few bound =
    settled_step (move.from bound) bound (next (move ∷ moves) bound) (settled left) (next_few (move ∷ moves) few bound) (λ others now few'. settled_few left others few' now)

-- In a parallel conjunction.

beside_step : (many number : ℕ) (move : Move) (moves : List Move) (bound : Bound) (first : Outcome) (rest : Outcomes) → FewReady first → ManyFewReady many rest
    → ManyFewReady (suc many) (beside_next number move moves bound first rest)
beside_step many number move moves bound (Ready goal) (AllReady rest) few few' = (ap suc few'.0, (few, few'.1))
beside_step many number move moves bound (Ready goal) (OneStuck fault) few few' = tt
beside_step many number move moves bound (Stuck fault) rest few few' = tt

beside_few : (number : ℕ) (moves : List Move) → FewMoves moves → (bound : Bound) → ManyFewReady (length moves) (beside number moves bound)
beside_few number [] few bound = (refl, tt)
beside_few number (move ∷ moves) few bound =
    beside_step (length moves) number move moves bound (move.from bound) (beside (number + 1) moves (with bound move.binds)) (few.0 bound)
    (beside_few (number + 1) moves few.1 (with bound move.binds))

-- Given are how often each variable occurs in the whole, and the modes of each predicate.
module _ (total : ℕ → ℕ) (modes : ℕ → List ModeDecl) where
  same_few : (one other : ℕ) (first second : Bool) (outputs : List ℕ) (span : Span) → FewReady (same_from total modes one other first second outputs span)
  same_few one other true true outputs span = tt
  same_few one other true false outputs span = tt
  same_few one other false true outputs span = tt
  same_few one other false false outputs span = tt

  called_few : (bound : Bound) (predicate : ℕ) (arguments : List ℕ) (taken : Option (ℕ × ModeDecl)) (outputs : List ℕ) (span : Span)
      → FewReady (called_from total modes bound predicate arguments taken outputs span)
  called_few bound predicate arguments None outputs span = tt
  called_few bound predicate arguments (Some taken) outputs span = tt

  simple_few : (goal : SimpleGoal) (outputs : List ℕ) (span : Span) (bound : Bound) → FewReady (simple_from total modes goal outputs span bound)
  simple_few True outputs span bound = tt
  simple_few Fail outputs span bound = tt
  simple_few (Same one other) outputs span bound = same_few one other (bound one) (bound other) outputs span
  simple_few (Shape whole symbol arguments) outputs span bound =
      either_few (bound whole) (Ready (put (Split whole symbol arguments (tested bound arguments)) outputs span))
      (if are_bound bound arguments then Ready (put (Build whole symbol arguments) outputs span) else Stuck (never_ready span)) tt
      (unless_few (are_bound bound arguments) (put (Build whole symbol arguments) outputs span) (never_ready span) tt)
  simple_few (Arithmetic operation result left right) outputs span bound =
      unless_few (bound left && bound right) (put (Computed operation result left right (tested bound (result ∷ []))) outputs span) (never_ready span) tt
  simple_few (Compare comparison left right) outputs span bound = unless_few (bound left && bound right) (put (Compared comparison left right) outputs span) (never_ready span) tt
  simple_few (Raise text) outputs span bound = unless_few (bound text) (put (Raised text) outputs span) (never_ready span) tt
  simple_few (Call predicate arguments) outputs span bound = called_few bound predicate arguments (taken_from 0 bound arguments (modes predicate)) outputs span

  moves_count : (goals : Nodes) → length (moves total modes goals) ≡ length (list_of goals)
  moves_count no_nodes = refl
  moves_count (more_nodes first rest) = ap suc (moves_count rest)

  parallel_few : (goals : Nodes) (all : Ordereds) (outputs : List ℕ) (span : Span) → FewIn (Parallel goals span) → amount all ≡ length (moves total modes goals) → AllFewOrdered all
      → FewOrdered (put (Beside all) outputs span)
  parallel_few goals all outputs span few same each =
      let as_many = sym (same ∙ moves_count goals) in
      (subst (λ number. 1 ≤ number) as_many few.0, subst (λ number. number ≤ most_conjuncts) as_many few.1, each)

  mutual
    from_few : (goal : Node) → FewIn goal → (bound : Bound) → FewReady (from total modes goal bound)
    from_few (Simple goal span) few bound = simple_few goal (outputs_of total modes bound (Simple goal span)) span bound
    from_few (Conjunction goals span) few bound =
        if_all_few (settled (length (moves total modes goals)) (moves total modes goals) bound) (λ all. Ready (put (Sequence all) (outputs_of total modes bound (Conjunction goals span)) span))
        (settled_few (length (moves total modes goals)) (moves total modes goals) (moves_few goals few) bound) (λ all each. each)
    from_few (Parallel goals span) few bound =
        if_many_few (length (moves total modes goals)) (beside 1 (moves total modes goals) bound) (λ all. Ready (put (Beside all) (outputs_of total modes bound (Parallel goals span)) span))
        (beside_few 1 (moves total modes goals) (moves_few goals few.2) bound) (λ all same each. parallel_few goals all (outputs_of total modes bound (Parallel goals span)) span few same each)
    from_few (Disjunction goals span) few bound =
        if_all_few (each_from (moves total modes goals) bound) (λ all.
        if agree total modes bound (all_variables goals) (arms total modes goals) then Ready (put (Choice all) (outputs_of total modes bound (Disjunction goals span)) span) else Stuck (unbound_output span))
        (each_few (moves total modes goals) (moves_few goals few) bound)
        (λ all each. unless_few (agree total modes bound (all_variables goals) (arms total modes goals)) (put (Choice all) (outputs_of total modes bound (Disjunction goals span)) span) (unbound_output span) each)
    from_few (Conditional condition then_part else_part span) few bound =
        let inside = variables condition ++ variables then_part in
        let whole = Conditional condition then_part else_part span in
        let decided : Ordered → Ordered → Ordered → Outcome = λ first second third.
        if agree total modes bound (variables whole) (decision_arms total modes condition then_part else_part)
        then Ready (put (Decision first second third) (outputs_of total modes bound whole) span) else Stuck (unbound_output span) in
        let thens : Ordered → Outcome = λ first.
        if_ready (from total modes then_part (with bound (binds total modes condition))) (λ second. if_ready (from total modes else_part bound) (λ third. decided first second third)) in
        if_few (from total modes condition bound) (λ first.
        if binds_inside total modes bound inside (variables condition) (binds total modes condition) then thens first else Stuck (binds_outer (span_of condition)))
        (from_few condition few.0 bound) (λ first one. either_few (binds_inside total modes bound inside (variables condition) (binds total modes condition)) (thens first) (Stuck (binds_outer (span_of condition)))
        (if_few (from total modes then_part (with bound (binds total modes condition))) (λ second. if_ready (from total modes else_part bound) (λ third. decided first second third))
        (from_few then_part few.1 (with bound (binds total modes condition))) (λ second two. if_few (from total modes else_part bound) (λ third. decided first second third) (from_few else_part few.2 bound)
        (λ third three. unless_few (agree total modes bound (variables whole) (decision_arms total modes condition then_part else_part))
        (put (Decision first second third) (outputs_of total modes bound whole) span) (unbound_output span) (one, two, three)))) tt)
    from_few (Negation goal span) few bound =
        if_few (from total modes goal bound) (λ inner. if binds_inside total modes bound (variables goal) (variables goal) (binds total modes goal) then Ready (put (Denial inner) [] span) else Stuck (binds_outer span))
        (from_few goal few bound)
        (λ inner one. unless_few (binds_inside total modes bound (variables goal) (variables goal) (binds total modes goal)) (put (Denial inner) [] span) (binds_outer span) one)
    from_few (Quantified own goal span) few bound =
        if_few (from total modes goal bound) (λ inner. Ready (put (Within own inner) (outputs_of total modes bound (Quantified own goal span)) span)) (from_few goal few bound) (λ inner one. one)

    moves_few : (goals : Nodes) → AllFewIn goals → FewMoves (moves total modes goals)
    moves_few no_nodes few = tt
    moves_few (more_nodes first rest) few = (λ bound. from_few first few.0 bound, moves_few rest few.1)

-- Given are the modes of each predicate.
module _ (modes : ℕ → List ModeDecl) where
  tests_few : (at : ℕ) (tested : List ℕ) (span : Span) → AllHaveFew (tests_of at tested span)
  tests_few at [] span = tt
  tests_few at (variable ∷ variables) span = (tt, tests_few (suc at) variables span)

  tested_few : (at : ℕ) (goal : BasicGoal) (writes tested outputs : List ℕ) (span : Span) → HasFew (with_tests at goal writes tested outputs span)
  tested_few at goal writes [] outputs span = tt
  tested_few at goal writes (first ∷ rest) outputs span = (tt, tests_few at (first ∷ rest) span)

  spelt_count : (at : ℕ) (goals : Ordereds) → count (spelt_all modes at goals) ≡ amount goals
  spelt_count at no_goals = refl
  spelt_count at (more_goals first rest) = ap suc (spelt_count (at + length (twins first)) rest)

  mutual
    spelt_few : (at : ℕ) (goal : Ordered) → FewOrdered goal → HasFew (spelt modes at goal)
    spelt_few at (put Truth outputs span) few = tt
    spelt_few at (put Failure outputs span) few = tt
    spelt_few at (put (Assign to from) outputs span) few = tt
    spelt_few at (put (Test one other) outputs span) few = tt
    spelt_few at (put (Build whole symbol arguments) outputs span) few = tt
    spelt_few at (put (Split whole symbol arguments tests) outputs span) few = tested_few at _ _ _ outputs span
    spelt_few at (put (Computed operation result left right tests) outputs span) few = tested_few at _ _ _ outputs span
    spelt_few at (put (Compared comparison left right) outputs span) few = tt
    spelt_few at (put (Raised text) outputs span) few = tt
    spelt_few at (put (Called predicate mode arguments tests) outputs span) few = tested_few at _ _ _ outputs span
    spelt_few at (put (Sequence goals) outputs span) few = all_spelt_few at goals few
    spelt_few at (put (Beside goals) outputs span) few =
        let as_many = sym (spelt_count at goals) in
        (subst (λ number. 1 ≤ number) as_many few.0, (subst (λ number. number ≤ most_conjuncts) as_many few.1, all_spelt_few at goals few.2))
    spelt_few at (put (Choice goals) outputs span) few = all_spelt_few at goals few
    spelt_few at (put (Decision condition then_part else_part) outputs span) few = (
      spelt_few at condition few.0,
      (spelt_few (at + length (twins condition)) then_part few.1, spelt_few (at + length (twins condition) + length (twins then_part)) else_part few.2),
    )
    spelt_few at (put (Denial goal) outputs span) few = spelt_few at goal few
    spelt_few at (put (Within own goal) outputs span) few = spelt_few at goal few

    all_spelt_few : (at : ℕ) (goals : Ordereds) → AllFewOrdered goals → AllHaveFew (spelt_all modes at goals)
    all_spelt_few at no_goals few = tt
    all_spelt_few at (more_goals first rest) few = (spelt_few at first few.0, all_spelt_few (at + length (twins first)) rest few.1)

  -- so a body that is ordered has few
  pub ordered_few : (heads : List ℕ) (bound : Bound) (span : Span) (goal : Node) (tree : OrderedNode) → FewIn goal → IsBody modes heads (body_from modes heads bound span goal) goal tree → HasFew tree
  ordered_few heads bound span goal tree few is =
      let outcome_few = if_few (from (total_of heads goal) modes goal bound) (λ ordered. if are_bound_behind modes heads bound goal then Ready ordered else Stuck (unbound_output span))
      (from_few (total_of heads goal) modes goal few bound) (λ ordered one. unless_few (are_bound_behind modes heads bound goal) ordered (unbound_output span) one) in
      subst HasFew (sym is.2) (spelt_few (first_fresh heads goal) is.0 (subst FewReady is.1 outcome_few))
