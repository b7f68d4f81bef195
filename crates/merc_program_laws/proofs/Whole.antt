-- An ordered goal as a tree, its fresh variables and tests left out; what has to hold of its tests.
use Rattle.std.proofs.Common.{◌≡◌, inl, inr, ℕ, Bool, true, List, [], ◌∷◌, None}
use Rattle.std.specs.List.{AllByRecursion}
use Rattle.merc_graded_tree.specs.declared.basic.BasicGoal.TheVariants.{True, Fail, Assign as AssignGoal, Test as TestGoal, Build as BuildGoal, Split as SplitGoal, Arithmetic, Compare, Raise, Call}
use Rattle.merc_graded_tree.specs.declared.entries.Running.TheVariants.{Sequential, Parallel}
use Rattle.merc_graded_tree.specs.Nodes.{Node, node, Goal, Basic, Conjunction, Disjunction, Conditional, Negation, Quantified, Nodes, no_nodes, more_nodes}
use Rattle.merc_graded_tree.specs.Variables.{in_node, in_nodes}
use Rattle.merc_order.specs.Ordered.{Ordered, Step, Ordereds, put, Truth, Failure, Assign, Test, Build, Split, Computed, Compared, Raised, Called, Sequence, Beside, Choice, Decision, Denial, Within as Inside, no_goals, more_goals}
use Rattle.merc_meaning.specs.Truth.{Outside, with}
use Rattle.merc_order_laws.proofs.Facts.{or_left, or_right, or_cases}
use Rattle.merc_program_laws.proofs.Basics.{either}
use Rattle.merc_program_laws.proofs.Keeping.{Within}
use Rattle.merc_program_laws.proofs.Grouping.{IsHeld, AreHeld}

abbrev mutual
  pub whole : Ordered → Node
  whole (put step outs span) = node (whole_step step) outs None span

  pub whole_step : Step → Goal
  whole_step Truth = Basic True
  whole_step Failure = Basic Fail
  whole_step (Assign to from) = Basic (AssignGoal to from)
  whole_step (Test one other) = Basic (TestGoal one other)
  whole_step (Build all symbol args) = Basic (BuildGoal all symbol args)
  whole_step (Split all symbol args tests) = Basic (SplitGoal all symbol args)
  whole_step (Computed operation result left right tests) = Basic (Arithmetic operation result left right)
  whole_step (Compared comparison left right) = Basic (Compare comparison left right)
  whole_step (Raised text) = Basic (Raise text)
  whole_step (Called predicate mode args tests) = Basic (Call (record { predicate = predicate; mode = mode }) args)
  whole_step (Sequence goals) = Conjunction Sequential (whole_all goals)
  whole_step (Beside goals) = Conjunction (Parallel None) (whole_all goals)
  whole_step (Choice goals) = Disjunction (whole_all goals)
  whole_step (Decision c t e) = Conditional (whole c) (whole t) (whole e)
  whole_step (Denial goal) = Negation (whole goal)
  whole_step (Inside own goal) = Quantified own (whole goal)

  pub whole_all : Ordereds → Nodes
  whole_all no_goals = no_nodes
  whole_all (more_goals first rest) = more_nodes (whole first) (whole_all rest)

-- each tested variable occurs outside, or at a place of its goal that is not tested
abbrev mutual
  pub Tests : Outside → Ordered → Type 0
  Tests out (put step outs span) = StepTests out step

  pub StepTests : Outside → Step → Type 0
  StepTests out (Split all symbol args tests) = AreHeld args tests out
  StepTests out (Computed operation result left right tests) = AreHeld (result ∷ []) tests out
  StepTests out (Called predicate mode args tests) = AreHeld args tests out
  StepTests out (Sequence goals) = TestsAll out goals
  StepTests out (Beside goals) = TestsAll out goals
  StepTests out (Choice goals) = TestsEach out goals
  StepTests out (Decision c t e) =
      Tests (with out (in_node (whole e))) c
      × Tests (with out (with (in_node (whole c)) (in_node (whole e)))) t
      × Tests (with out (with (in_node (whole c)) (in_node (whole t)))) e
  StepTests out (Denial goal) = Tests out goal
  StepTests out (Inside own goal) = Tests out goal
  StepTests out other = Unit {0}

  pub TestsAll : Outside → Ordereds → Type 0
  TestsAll out no_goals = Unit {0}
  TestsAll out (more_goals first rest) = Tests (with out (in_nodes (whole_all rest))) first × TestsAll (with out (in_node (whole first))) rest

  pub TestsEach : Outside → Ordereds → Type 0
  TestsEach out no_goals = Unit {0}
  TestsEach out (more_goals first rest) = Tests out first × TestsEach out rest

-- It stays where more occurs outside.

all_map : (P Q : ℕ → Type 0) (xs : List ℕ) → ((x : ℕ) → P x → Q x) → AllByRecursion P xs → AllByRecursion Q xs
all_map P Q [] w h = tt
all_map P Q (x ∷ xs) w h = (w x h.0, all_map P Q xs w h.1)

held_more : (args : List ℕ) (tests : List Bool) (tested : List ℕ) (out out' : Outside) → Within out out' → AllByRecursion (IsHeld args tests out) tested → AllByRecursion (IsHeld args tests out') tested
held_more args tests tested out out' w h = all_map (IsHeld args tests out) (IsHeld args tests out') tested (λ x k. either (λ j. w x j) (λ j. j) k) h

within_either : (out out' a : Outside) → Within out out' → Within (with out a) (with out' a)
within_either out out' a w v m = elim (or_cases (out v) (a v) m) as (λ _. with out' a v ≡ true) [ inl h ↦ or_left (out' v) (a v) (w v h) | inr h ↦ or_right (out' v) (a v) h ]

mutual
  pub tests_stay : (o : Ordered) (out out' : Outside) → Within out out' → Tests out o → Tests out' o
  tests_stay (put s outs span) out out' w h = step_stays s out out' w h

  step_stays : (s : Step) (out out' : Outside) → Within out out' → StepTests out s → StepTests out' s
  step_stays Truth out out' w h = tt
  step_stays Failure out out' w h = tt
  step_stays (Assign to from) out out' w h = tt
  step_stays (Test one other) out out' w h = tt
  step_stays (Build all symbol args) out out' w h = tt
  step_stays (Split all symbol args tests) out out' w h = held_more args tests _ out out' w h
  step_stays (Computed operation result left right tests) out out' w h = held_more (result ∷ []) tests _ out out' w h
  step_stays (Compared comparison left right) out out' w h = tt
  step_stays (Raised text) out out' w h = tt
  step_stays (Called predicate mode args tests) out out' w h = held_more args tests _ out out' w h
  step_stays (Sequence goals) out out' w h = tests_all_stay goals out out' w h
  step_stays (Beside goals) out out' w h = tests_all_stay goals out out' w h
  step_stays (Choice goals) out out' w h = tests_each_stay goals out out' w h
  step_stays (Decision c t e) out out' w h = (
    tests_stay c (with out (in_node (whole e))) (with out' (in_node (whole e))) (within_either out out' (in_node (whole e)) w) h.0,
    tests_stay t (with out (with (in_node (whole c)) (in_node (whole e)))) (with out' (with (in_node (whole c)) (in_node (whole e)))) (within_either out out' (with (in_node (whole c)) (in_node (whole e))) w) h.1,
    tests_stay e (with out (with (in_node (whole c)) (in_node (whole t)))) (with out' (with (in_node (whole c)) (in_node (whole t)))) (within_either out out' (with (in_node (whole c)) (in_node (whole t))) w) h.2,
  )
  step_stays (Denial goal) out out' w h = tests_stay goal out out' w h
  step_stays (Inside own goal) out out' w h = tests_stay goal out out' w h

  pub tests_all_stay : (os : Ordereds) (out out' : Outside) → Within out out' → TestsAll out os → TestsAll out' os
  tests_all_stay no_goals out out' w h = tt
  tests_all_stay (more_goals first rest) out out' w h = (
    tests_stay first (with out (in_nodes (whole_all rest))) (with out' (in_nodes (whole_all rest))) (within_either out out' (in_nodes (whole_all rest)) w) h.0,
    tests_all_stay rest (with out (in_node (whole first))) (with out' (in_node (whole first))) (within_either out out' (in_node (whole first)) w) h.1,
  )

  pub tests_each_stay : (os : Ordereds) (out out' : Outside) → Within out out' → TestsEach out os → TestsEach out' os
  tests_each_stay no_goals out out' w h = tt
  tests_each_stay (more_goals first rest) out out' w h = (tests_stay first out out' w h.0, tests_each_stay rest out out' w h.1)
