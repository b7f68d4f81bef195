-- Ordered goals with their fresh variables and tests written out.
use Rattle.std.specs.Prelude.{ℕ, suc, ◌+◌, Bool, true, false, ◌||◌, List, [], ◌∷◌, ◌++◌, length, Option, Some, None, slice_get}
use Rattle.std.specs.List.{filter}
use Rattle.merc_base.specs.declared.place.Span.{Span}
use Rattle.merc_tree.specs.declared.declarations.Arg.{Arg}
use Rattle.merc_tree.specs.declared.declarations.Arg.TheVariants.{Input, Output}
use Rattle.merc_tree.specs.declared.declarations.ModeDecl.{ModeDecl}
use Rattle.merc_graded_tree.specs.declared.basic.BasicGoal.{BasicGoal}
use Rattle.merc_graded_tree.specs.declared.basic.BasicGoal.TheVariants.{True, Fail, Assign as AssignGoal, Test as TestGoal, Build as BuildGoal, Split as SplitGoal, Arithmetic, Compare, Raise, Call}
use Rattle.merc_graded_tree.specs.declared.entries.Running.TheVariants.{Sequential, Parallel}
use Rattle.merc_graded_tree.specs.Nodes.{Node, node, Basic, Conjunction, Disjunction, Conditional, Negation, Quantified, Nodes, no_nodes, more_nodes}
use Rattle.merc_order.specs.Bound.{among}
use Rattle.merc_order.specs.Ordered.{Ordered, Step, Ordereds, put, Truth, Failure, Assign, Test, Build, Split, Computed, Compared, Raised, Called, Sequence, Beside, Choice, Decision, Denial, Within, no_goals, more_goals}

-- Each tested place of a goal has a fresh variable, numbered from here on.
abbrev pub replaced : ℕ → List ℕ → List Bool → List ℕ
replaced at [] tests = []
replaced at (variable ∷ variables) [] = variable ∷ variables
replaced at (variable ∷ variables) (true ∷ tests) = at ∷ replaced (suc at) variables tests
replaced at (variable ∷ variables) (false ∷ tests) = variable ∷ replaced at variables tests

-- the places with a test, and those with none

abbrev pub tested_places : List ℕ → List Bool → List ℕ
tested_places [] tests = []
tested_places (variable ∷ variables) [] = []
tested_places (variable ∷ variables) (true ∷ tests) = variable ∷ tested_places variables tests
tested_places (variable ∷ variables) (false ∷ tests) = tested_places variables tests

abbrev pub untested_places : List ℕ → List Bool → List ℕ
untested_places [] tests = []
untested_places (variable ∷ variables) [] = variable ∷ variables
untested_places (variable ∷ variables) (true ∷ tests) = untested_places variables tests
untested_places (variable ∷ variables) (false ∷ tests) = variable ∷ untested_places variables tests

-- what a call writes: its outputs with no test
abbrev pub written : List Arg → List ℕ → List Bool → List ℕ
written [] arguments tests = []
written (place ∷ places) [] tests = []
written (place ∷ places) (argument ∷ arguments) [] = []
written (Input ∷ places) (argument ∷ arguments) (test ∷ tests) = written places arguments tests
written (Output ∷ places) (argument ∷ arguments) (true ∷ tests) = written places arguments tests
written (Output ∷ places) (argument ∷ arguments) (false ∷ tests) = argument ∷ written places arguments tests

-- as many fresh variables as there are tested places
abbrev pub numbered : ℕ → List ℕ → List ℕ
numbered at [] = []
numbered at (variable ∷ variables) = at ∷ numbered (suc at) variables

-- each fresh variable is tested against the one for which it stands
abbrev pub tests_of : ℕ → List ℕ → Span → Nodes
tests_of at [] span = no_nodes
tests_of at (variable ∷ variables) span = more_nodes (node (Basic (TestGoal at variable)) [] None span) (tests_of (suc at) variables span)

-- The outputs of a goal in front of its tests: what it writes that is an output of the whole or is tested, and the fresh variables.
abbrev pub inner_outputs : ℕ → List ℕ → List ℕ → List ℕ → List ℕ
inner_outputs at outputs writes tested = filter (λ variable. among outputs variable || among tested variable) writes ++ numbered at tested

-- A goal with its tests behind it is one conjunction, whose outputs are those of the goal as it is written.
abbrev pub with_tests : ℕ → BasicGoal → List ℕ → List ℕ → List ℕ → Span → Node
with_tests at goal writes [] outputs span = node (Basic goal) outputs None span
with_tests at goal writes (first ∷ rest) outputs span =
    node (Conjunction Sequential (more_nodes (node (Basic goal) (inner_outputs at outputs writes (first ∷ rest)) None span) (tests_of at (first ∷ rest) span))) outputs None span

-- the result of arithmetic, as a list of one
abbrev pub first_of : List ℕ → ℕ
first_of [] = 0
first_of (first ∷ rest) = first

abbrev pub inputs_in : Option ModeDecl → List Arg
inputs_in None = []
inputs_in (Some mode) = mode.args

abbrev mutual
  -- the variables for which the fresh ones stand, in order
  pub twins : Ordered → List ℕ
  twins (put step outputs span) = step_twins step

  pub step_twins : Step → List ℕ
  step_twins (Split whole symbol arguments tests) = tested_places arguments tests
  step_twins (Computed operation result left right tests) = tested_places (result ∷ []) tests
  step_twins (Called predicate mode arguments tests) = tested_places arguments tests
  step_twins (Sequence goals) = all_twins goals
  step_twins (Beside goals) = all_twins goals
  step_twins (Choice goals) = all_twins goals
  step_twins (Decision condition then_part else_part) = twins condition ++ (twins then_part ++ twins else_part)
  step_twins (Denial goal) = twins goal
  step_twins (Within own goal) = twins goal
  step_twins other = []

  pub all_twins : Ordereds → List ℕ
  all_twins no_goals = []
  all_twins (more_goals first rest) = twins first ++ all_twins rest

-- Given are the modes of each predicate.
module _ (modes : ℕ → List ModeDecl) where
  -- the places that a call of this mode has bound before
  abbrev pub inputs_at : ℕ → ℕ → List Arg
  inputs_at predicate mode = inputs_in (slice_get (modes predicate) mode)

  abbrev mutual
    -- an ordered goal, whose fresh variables are numbered from here on in the order of the goals
    pub spelt : ℕ → Ordered → Node
    spelt at (put step outputs span) = spelt_step at step outputs span

    pub spelt_step : ℕ → Step → List ℕ → Span → Node
    spelt_step at Truth outputs span = node (Basic True) outputs None span
    spelt_step at Failure outputs span = node (Basic Fail) outputs None span
    spelt_step at (Assign to from) outputs span = node (Basic (AssignGoal to from)) outputs None span
    spelt_step at (Test one other) outputs span = node (Basic (TestGoal one other)) outputs None span
    spelt_step at (Build whole symbol arguments) outputs span = node (Basic (BuildGoal whole symbol arguments)) outputs None span
    spelt_step at (Split whole symbol arguments tests) outputs span =
        with_tests at (SplitGoal whole symbol (replaced at arguments tests)) (untested_places arguments tests) (tested_places arguments tests) outputs span
    spelt_step at (Computed operation result left right tests) outputs span =
        with_tests at (Arithmetic operation (first_of (replaced at (result ∷ []) tests)) left right) (untested_places (result ∷ []) tests) (tested_places (result ∷ []) tests) outputs span
    spelt_step at (Compared comparison left right) outputs span = node (Basic (Compare comparison left right)) outputs None span
    spelt_step at (Raised text) outputs span = node (Basic (Raise text)) outputs None span
    spelt_step at (Called predicate mode arguments tests) outputs span =
        with_tests at (Call (record { predicate = predicate; mode = mode }) (replaced at arguments tests))
        (written (inputs_at predicate mode) arguments tests) (tested_places arguments tests) outputs span
    spelt_step at (Sequence goals) outputs span = node (Conjunction Sequential (spelt_all at goals)) outputs None span
    spelt_step at (Beside goals) outputs span = node (Conjunction (Parallel None) (spelt_all at goals)) outputs None span
    spelt_step at (Choice goals) outputs span = node (Disjunction (spelt_all at goals)) outputs None span
    spelt_step at (Decision condition then_part else_part) outputs span =
        node (Conditional (spelt at condition) (spelt (at + length (twins condition)) then_part) (spelt (at + length (twins condition) + length (twins then_part)) else_part)) outputs None span
    spelt_step at (Denial goal) outputs span = node (Negation (spelt at goal)) outputs None span
    spelt_step at (Within own goal) outputs span = node (Quantified own (spelt at goal)) outputs None span

    pub spelt_all : ℕ → Ordereds → Nodes
    spelt_all at no_goals = no_nodes
    spelt_all at (more_goals first rest) = more_nodes (spelt at first) (spelt_all (at + length (twins first)) rest)
