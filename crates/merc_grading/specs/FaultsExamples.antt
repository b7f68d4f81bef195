-- What is wrong with a few declarations and parallel conjuncts, over the types and goals of the examples of categories.
use Rattle.std.specs.Prelude.{◌≡◌, ℕ, true, false, List, [], ◌∷◌, map, Option, Some, None, refl}
use Rattle.merc_base.specs.declared.category.Category.{Category}
use Rattle.merc_base.specs.declared.category.Category.TheVariants.{Det, Semidet, Multi, Nondet, Erroneous, Failure}
use Rattle.merc_base.specs.Places.{place_of}
use Rattle.merc_base.specs.declared.refusal.Detail.TheVariants.{Categories, Conjunct}
use Rattle.merc_base.specs.declared.refusal.Refusal.{Refusal}
use Rattle.merc_base.specs.declared.refusal.Rule.TheVariants.{WrongCategory, ParallelCategory}
use Rattle.merc_tree.specs.declared.declarations.Arg.TheVariants.{Input, Output}
use Rattle.merc_tree.specs.declared.declarations.ModeDecl.{ModeDecl}
use Rattle.merc_tree.specs.declared.declarations.PredDecl.{PredDecl}
use Rattle.merc_graded_tree.specs.declared.basic.BasicGoal.TheVariants.{True, Fail, Raise, Split, Call}
use Rattle.merc_graded_tree.specs.declared.entries.Running.TheVariants.{Sequential, Parallel}
use Rattle.merc_graded_tree.specs.Nodes.{Node, node, Goal, Basic, Conjunction, Disjunction, Conditional, Negation, Quantified, nodes_of}
use Rattle.merc_grading.specs.Faults.{allows, runs_beside, Body, category_fault, query_category_fault}
use Rattle.merc_grading.specs.CategoriesExamples.{all}
use Rattle.merc_grading.specs.GradingExamples.{at, red, green, declared, c, types}

-- What a declaration allows, of all six categories.

det_allows : map (allows Det) all ≡ true ∷ false ∷ false ∷ false ∷ true ∷ false ∷ []
det_allows = refl

semidet_allows : map (allows Semidet) all ≡ true ∷ true ∷ false ∷ false ∷ true ∷ true ∷ []
semidet_allows = refl

multi_allows : map (allows Multi) all ≡ true ∷ false ∷ true ∷ false ∷ true ∷ false ∷ []
multi_allows = refl

nondet_allows : map (allows Nondet) all ≡ true ∷ true ∷ true ∷ true ∷ true ∷ true ∷ []
nondet_allows = refl

erroneous_allows : map (allows Erroneous) all ≡ false ∷ false ∷ false ∷ false ∷ true ∷ false ∷ []
erroneous_allows = refl

failure_allows : map (allows Failure) all ≡ false ∷ false ∷ false ∷ false ∷ true ∷ true ∷ []
failure_allows = refl

-- Predicates of one argument, which is bound before, and of one mode.

abbrev mode_at : ℕ → Category → ModeDecl
mode_at byte category = record { args = Input ∷ []; category = category; span = at byte }

abbrev predicate : Option ℕ → List ModeDecl → PredDecl
predicate unit modes = record { name = 100; args = types c ∷ []; modes = modes; span = at 1; unit = unit }

abbrev body : Node → Body
body tree = record { types = types; tree = tree }

abbrev goal_at : ℕ → Goal → Node
goal_at byte goal = node goal [] None (at byte)

abbrev is_red : Node
is_red = goal_at 20 (Basic (Split c red []))

abbrev is_green : Node
is_green = goal_at 21 (Basic (Split c green []))

abbrev fault_of : ModeDecl → Node → Option Refusal
fault_of mode tree = category_fault declared (predicate None (mode ∷ []) ∷ []) (body tree ∷ [])

abbrev wrong : ℕ → Category → Category → Refusal
wrong byte category inferred = record { rule = WrongCategory; place = place_of (at byte); detail = Categories category inferred }

abbrev wrong_beside : ℕ → ℕ → Category → Refusal
wrong_beside byte number category = record { rule = ParallelCategory; place = place_of (at byte); detail = Conjunct number category }

stricter : fault_of (mode_at 5 Det) is_red ≡ Some (wrong 5 Det Semidet)
stricter = refl

same : fault_of (mode_at 5 Semidet) is_red ≡ None
same = refl

looser : fault_of (mode_at 5 Nondet) is_red ≡ None
looser = refl

-- `p(red). p(green).`
switch_is_det : fault_of (mode_at 5 Det) (goal_at 20 (Disjunction (nodes_of (is_red ∷ is_green ∷ [])))) ≡ None
switch_is_det = refl

-- the same, with the argument as an output
abbrev colors : Node
colors = node (Disjunction (nodes_of (is_red ∷ is_green ∷ []))) (c ∷ []) None (at 20)

-- the categories that a library unit declares are not refused
of_unit : category_fault declared (predicate (Some 90) (mode_at 5 Det ∷ []) ∷ []) (body is_red ∷ []) ≡ None
of_unit = refl

-- each mode binds its own arguments: `p(red). p(green).` with the modes `p(in) is det` and `p(out) is det`, of which the second has no switch
own_arguments : category_fault declared (predicate None (mode_at 5 Det ∷ record { args = Output ∷ []; category = Det; span = at 6 } ∷ []) ∷ [])
    (body colors ∷ body colors ∷ []) ≡ Some (wrong 6 Det Nondet)
own_arguments = refl

-- each mode of each predicate, and of several faults the one at the least place

second_mode : category_fault declared (predicate None (mode_at 5 Semidet ∷ mode_at 6 Det ∷ []) ∷ []) (body is_red ∷ body is_red ∷ []) ≡ Some (wrong 6 Det Semidet)
second_mode = refl

least_place : category_fault declared (predicate None (mode_at 9 Det ∷ []) ∷ predicate None (mode_at 5 Failure ∷ []) ∷ [])
    (body is_red ∷ body is_red ∷ []) ≡ Some (wrong 5 Failure Semidet)
least_place = refl

first_mode : category_fault declared (predicate None (mode_at 5 Det ∷ mode_at 5 Failure ∷ []) ∷ []) (body is_red ∷ body is_red ∷ []) ≡ Some (wrong 5 Det Semidet)
first_mode = refl

-- A call has the category that its mode declares: that of the second mode of the second predicate, whose body is det.

abbrev calls : Node
calls = goal_at 22 (Basic (Call (record { predicate = 1; mode = 1 }) (c ∷ [])))

called : category_fault declared (predicate None (mode_at 5 Det ∷ []) ∷ predicate None (mode_at 9 Det ∷ mode_at 9 Semidet ∷ []) ∷ [])
    (body calls ∷ body (goal_at 31 (Basic True)) ∷ body (goal_at 31 (Basic True)) ∷ []) ≡ Some (wrong 5 Det Semidet)
called = refl

-- Parallel conjuncts.

abbrev beside : List Node → Node
beside goals = goal_at 30 (Conjunction (Parallel None) (nodes_of goals))

abbrev truth : Node
truth = goal_at 31 (Basic True)

abbrev fails : Node
fails = goal_at 32 (Basic Fail)

abbrev raises : Node
raises = goal_at 33 (Basic (Raise 6))

det_and_erroneous : fault_of (mode_at 5 Nondet) (beside (truth ∷ raises ∷ truth ∷ [])) ≡ None
det_and_erroneous = refl

semidet_beside : fault_of (mode_at 5 Nondet) (beside (truth ∷ is_red ∷ [])) ≡ Some (wrong_beside 20 2 Semidet)
semidet_beside = refl

failure_beside : fault_of (mode_at 5 Nondet) (beside (truth ∷ truth ∷ fails ∷ [])) ≡ Some (wrong_beside 32 3 Failure)
failure_beside = refl

-- of all six categories
beside_of_each : map runs_beside all ≡ true ∷ false ∷ false ∷ false ∷ true ∷ false ∷ []
beside_of_each = refl

-- one after the other they may fail
in_sequence : fault_of (mode_at 5 Nondet) (goal_at 30 (Conjunction Sequential (nodes_of (truth ∷ is_red ∷ [])))) ≡ None
in_sequence = refl

-- between a declaration and a conjunct the least place decides

declaration_first : fault_of (mode_at 5 Det) (beside (truth ∷ is_red ∷ [])) ≡ Some (wrong 5 Det Semidet)
declaration_first = refl

conjunct_first : fault_of (mode_at 25 Det) (beside (truth ∷ is_red ∷ [])) ≡ Some (wrong_beside 20 2 Semidet)
conjunct_first = refl

-- at one place the outer conjunct
outer_first : fault_of (mode_at 5 Nondet) (beside (truth ∷ node (Conjunction (Parallel None) (nodes_of (is_red ∷ truth ∷ []))) [] None (at 20) ∷ []))
    ≡ Some (wrong_beside 20 2 Semidet)
outer_first = refl

-- conjuncts wherever they stand

in_then_part : fault_of (mode_at 5 Nondet) (goal_at 40 (Conditional truth (beside (fails ∷ [])) truth)) ≡ Some (wrong_beside 32 1 Failure)
in_then_part = refl

in_condition : fault_of (mode_at 5 Nondet) (goal_at 40 (Conditional (beside (fails ∷ [])) truth truth)) ≡ Some (wrong_beside 32 1 Failure)
in_condition = refl

in_else_part : fault_of (mode_at 5 Nondet) (goal_at 40 (Conditional truth truth (beside (fails ∷ [])))) ≡ Some (wrong_beside 32 1 Failure)
in_else_part = refl

in_negation : fault_of (mode_at 5 Nondet) (goal_at 40 (Negation (beside (fails ∷ [])))) ≡ Some (wrong_beside 32 1 Failure)
in_negation = refl

in_quantified : fault_of (mode_at 5 Nondet) (goal_at 40 (Quantified (7 ∷ []) (beside (fails ∷ [])))) ≡ Some (wrong_beside 32 1 Failure)
in_quantified = refl

in_disjunct : fault_of (mode_at 5 Nondet) (goal_at 40 (Disjunction (nodes_of (truth ∷ beside (fails ∷ []) ∷ [])))) ≡ Some (wrong_beside 32 1 Failure)
in_disjunct = refl

-- in a library unit too
in_unit : category_fault declared (predicate (Some 90) (mode_at 5 Det ∷ []) ∷ []) (body (beside (truth ∷ fails ∷ [])) ∷ []) ≡ Some (wrong_beside 32 2 Failure)
in_unit = refl

-- a conjunct that is det, with parallel conjuncts in it that are not
in_conjunct : fault_of (mode_at 5 Nondet) (beside (truth ∷ goal_at 40 (Conditional (beside (fails ∷ [])) truth truth) ∷ [])) ≡ Some (wrong_beside 32 1 Failure)
in_conjunct = refl

in_arm : fault_of (mode_at 5 Nondet) (goal_at 40 (Disjunction (nodes_of (is_red ∷ goal_at 41 (Conjunction Sequential (nodes_of (is_green ∷ beside (fails ∷ []) ∷ []))) ∷ []))))
    ≡ Some (wrong_beside 32 1 Failure)
in_arm = refl

-- A goal that is asked has no declaration.

asked : query_category_fault declared [] (body is_red) ≡ None
asked = refl

asked_beside : query_category_fault declared [] (body (beside (truth ∷ fails ∷ []))) ≡ Some (wrong_beside 32 2 Failure)
asked_beside = refl

-- nothing is bound before it: `( C = red ; C = green )` is no switch
asked_unbound : query_category_fault declared [] (body (beside (truth ∷ goal_at 40 (Disjunction (nodes_of (is_red ∷ is_green ∷ []))) ∷ []))) ≡ Some (wrong_beside 40 2 Semidet)
asked_unbound = refl

failure_is_not_allowed_as_erroneous : allows Erroneous Failure ≡ true → ⊥
failure_is_not_allowed_as_erroneous other = cc
