-- The goals of the predicates of the unit `list` in the order in which they run, in each mode.
use Rattle.std.proofs.Common.{◌≡◌, ℕ, List, [], ◌∷◌, None, pos, refl, ap, ◌∙◌}
use Rattle.merc_base.specs.Names.{cons_name, nil_name}
use Rattle.merc_base.specs.declared.category.Category.{Category}
use Rattle.merc_base.specs.declared.category.Category.TheVariants.{Det, Semidet, Multi, Nondet}
use Rattle.merc_base.specs.declared.place.Span.{Span}
use Rattle.merc_tree.specs.declared.declarations.Arg.{Arg}
use Rattle.merc_tree.specs.declared.declarations.Arg.TheVariants.{Input, Output}
use Rattle.merc_tree.specs.declared.declarations.ModeDecl.{ModeDecl}
use Rattle.merc_goal_tree.specs.Nodes.{Node as WrittenNode}
use Rattle.merc_goal_tree.specs.declared.goal.Operation.TheVariants.{Add}
use Rattle.merc_goal_tree.specs.declared.goal.Symbol.{Symbol}
use Rattle.merc_goal_tree.specs.declared.goal.Symbol.TheVariants.{Constructor, Integer}
use Rattle.merc_graded_tree.specs.declared.basic.BasicGoal.{BasicGoal}
use Rattle.merc_graded_tree.specs.declared.basic.BasicGoal.TheVariants.{Assign, Test, Build, Split, Arithmetic, Call}
use Rattle.merc_graded_tree.specs.declared.entries.Running.TheVariants.{Sequential}
use Rattle.merc_graded_tree.specs.Nodes.{Node, node, Basic, Conjunction, Disjunction, nodes_of}
use Rattle.merc_order.specs.Procedures.{numbers_below, procedure_from, tree_of}
use Rattle.merc_program_laws.proofs.ListOrders.{append_body, append_modes, length_body, length_modes, member_body, member_modes, onto_body, onto_modes, reverse_body}

abbrev pub at : ℕ → ℕ → ℕ → Span
at line first past = record { first = first; past = past; line = line }

abbrev pub mode : List Arg → Category → Span → ModeDecl
mode args category span = record { args = args; category = category; span = span }

abbrev pub nil : Symbol
nil = Constructor nil_name 0

abbrev pub cell : Symbol
cell = Constructor cons_name 2

-- the modes

abbrev pub append_whole : ModeDecl
append_whole = mode (Input ∷ Input ∷ Output ∷ []) Det (at 3 84 118)

abbrev pub append_parts : ModeDecl
append_parts = mode (Output ∷ Output ∷ Input ∷ []) Multi (at 4 120 157)

abbrev pub member_test : ModeDecl
member_test = mode (Input ∷ Input ∷ []) Semidet (at 8 261 294)

abbrev pub member_each : ModeDecl
member_each = mode (Output ∷ Input ∷ []) Nondet (at 9 296 329)

abbrev pub length_mode : ModeDecl
length_mode = mode (Input ∷ Output ∷ []) Det (at 12 389 433)

abbrev pub reverse_mode : ModeDecl
reverse_mode = mode (Input ∷ Output ∷ []) Det (at 15 499 548)

abbrev pub onto_mode : ModeDecl
onto_mode = mode (Input ∷ Input ∷ Output ∷ []) Det (at 17 600 672)

-- the trees

abbrev basic : BasicGoal → List ℕ → Span → Node
basic goal outputs span = node (Basic goal) outputs None span

abbrev sequence : List Node → List ℕ → Span → Node
sequence goals outputs span = node (Conjunction Sequential (nodes_of goals)) outputs None span

abbrev choice : List Node → List ℕ → Span → Node
choice goals outputs span = node (Disjunction (nodes_of goals)) outputs None span

abbrev call : ℕ → ℕ → List ℕ → BasicGoal
call predicate mode arguments = Call (record { predicate = predicate; mode = mode }) arguments

-- Given is the number of the predicate that is called.

abbrev pub append_whole_tree : ℕ → Node
append_whole_tree number = choice (
    sequence (basic (Split 0 nil []) [] (at 5 159 177) ∷ basic (Assign 2 1) (2 ∷ []) (at 5 159 177) ∷ []) (2 ∷ []) (at 5 159 177)
    ∷ sequence (
    basic (Split 0 cell (3 ∷ 4 ∷ [])) (3 ∷ 4 ∷ []) (at 6 179 231)
    ∷ basic (call number 0 (4 ∷ 1 ∷ 5 ∷ [])) (5 ∷ []) (at 6 213 231)
    ∷ basic (Build 2 cell (3 ∷ 5 ∷ [])) (2 ∷ []) (at 6 179 231)
    ∷ []) (2 ∷ []) (at 6 179 231)
    ∷ []) (2 ∷ []) (at 5 159 177)

abbrev pub append_parts_tree : ℕ → Node
append_parts_tree number = choice (
    sequence (basic (Build 0 nil []) (0 ∷ []) (at 5 159 177) ∷ basic (Assign 1 2) (1 ∷ []) (at 5 159 177) ∷ []) (0 ∷ 1 ∷ []) (at 5 159 177)
    ∷ sequence (
    basic (Split 2 cell (3 ∷ 5 ∷ [])) (3 ∷ 5 ∷ []) (at 6 179 231)
    ∷ basic (call number 1 (4 ∷ 1 ∷ 5 ∷ [])) (4 ∷ 1 ∷ []) (at 6 213 231)
    ∷ basic (Build 0 cell (3 ∷ 4 ∷ [])) (0 ∷ []) (at 6 179 231)
    ∷ []) (0 ∷ 1 ∷ []) (at 6 179 231)
    ∷ []) (0 ∷ 1 ∷ []) (at 5 159 177)

abbrev pub member_test_tree : ℕ → Node
member_test_tree number = choice (
    sequence (basic (Split 1 cell (5 ∷ 2 ∷ [])) (5 ∷ []) (at 10 331 349) ∷ basic (Test 5 0) [] (at 10 331 349) ∷ []) [] (at 10 331 349)
    ∷ sequence (
    basic (Split 1 cell (3 ∷ 4 ∷ [])) (4 ∷ []) (at 11 351 387) ∷ basic (call number 0 (0 ∷ 4 ∷ [])) [] (at 11 374 387) ∷ []) [] (at 11 351 387)
    ∷ []) [] (at 10 331 349)

abbrev pub member_each_tree : ℕ → Node
member_each_tree number = choice (
    basic (Split 1 cell (0 ∷ 2 ∷ [])) (0 ∷ []) (at 10 331 349)
    ∷ sequence (
    basic (Split 1 cell (3 ∷ 4 ∷ [])) (4 ∷ []) (at 11 351 387) ∷ basic (call number 1 (0 ∷ 4 ∷ [])) (0 ∷ []) (at 11 374 387) ∷ []) (0 ∷ []) (at 11 351 387)
    ∷ []) (0 ∷ []) (at 10 331 349)

abbrev pub length_tree : ℕ → Node
length_tree number = choice (
    sequence (basic (Split 0 nil []) [] (at 13 435 448) ∷ basic (Build 1 (Integer (pos 0)) []) (1 ∷ []) (at 13 435 448) ∷ []) (1 ∷ []) (at 13 435 448)
    ∷ sequence (
    basic (Split 0 cell (2 ∷ 3 ∷ [])) (3 ∷ []) (at 14 450 497)
    ∷ basic (call number 0 (3 ∷ 4 ∷ [])) (4 ∷ []) (at 14 473 486)
    ∷ basic (Build 5 (Integer (pos 1)) []) (5 ∷ []) (at 14 488 497)
    ∷ basic (Arithmetic Add 1 4 5) (1 ∷ []) (at 14 488 497)
    ∷ []) (1 ∷ []) (at 14 450 497)
    ∷ []) (1 ∷ []) (at 13 435 448)

abbrev pub reverse_tree : ℕ → Node
reverse_tree number = sequence (
    basic (Build 2 nil []) (2 ∷ []) (at 16 569 598) ∷ basic (call number 0 (0 ∷ 2 ∷ 1 ∷ [])) (1 ∷ []) (at 16 569 598) ∷ []) (1 ∷ []) (at 16 550 598)

abbrev pub onto_tree : ℕ → Node
onto_tree number = choice (
    sequence (basic (Split 0 nil []) [] (at 18 674 701) ∷ basic (Assign 2 1) (2 ∷ []) (at 18 674 701) ∷ []) (2 ∷ []) (at 18 674 701)
    ∷ sequence (
    basic (Split 0 cell (3 ∷ 4 ∷ [])) (3 ∷ 4 ∷ []) (at 19 703 775)
    ∷ basic (Build 5 cell (3 ∷ 1 ∷ [])) (5 ∷ []) (at 19 741 775)
    ∷ basic (call number 0 (4 ∷ 5 ∷ 2 ∷ [])) (2 ∷ []) (at 19 741 775)
    ∷ []) (2 ∷ []) (at 19 703 775)
    ∷ []) (2 ∷ []) (at 18 674 701)

-- the tree of a body in a mode, where calls are ordered by these modes, and as it is

abbrev trees_by : (ℕ → List ModeDecl) → (ℕ → List ModeDecl) → ℕ → ModeDecl → WrittenNode → List Node
trees_by modes called arity mode goal = tree_of modes (numbers_below arity) goal (procedure_from called arity mode goal)

abbrev pub trees_in : (ℕ → List ModeDecl) → ℕ → ModeDecl → WrittenNode → List Node
trees_in modes = trees_by modes modes

-- The prover computes the order where every call is of a predicate with the modes declared; only the modes of that predicate are asked for.
module _ (number : ℕ) (modes : ℕ → List ModeDecl) where
  append_whole-computed : trees_by modes (λ _. append_modes) 3 append_whole (append_body number) ≡ append_whole_tree number ∷ []
  append_whole-computed = refl

  pub append_whole-ordered : modes number ≡ append_modes → trees_in modes 3 append_whole (append_body number) ≡ append_whole_tree number ∷ []
  append_whole-ordered are = ap (λ (m : List ModeDecl). trees_by modes (λ _. m) 3 append_whole (append_body number)) are ∙ append_whole-computed

  append_parts-computed : trees_by modes (λ _. append_modes) 3 append_parts (append_body number) ≡ append_parts_tree number ∷ []
  append_parts-computed = refl

  pub append_parts-ordered : modes number ≡ append_modes → trees_in modes 3 append_parts (append_body number) ≡ append_parts_tree number ∷ []
  append_parts-ordered are = ap (λ (m : List ModeDecl). trees_by modes (λ _. m) 3 append_parts (append_body number)) are ∙ append_parts-computed

  member_test-computed : trees_by modes (λ _. member_modes) 2 member_test (member_body number) ≡ member_test_tree number ∷ []
  member_test-computed = refl

  pub member_test-ordered : modes number ≡ member_modes → trees_in modes 2 member_test (member_body number) ≡ member_test_tree number ∷ []
  member_test-ordered are = ap (λ (m : List ModeDecl). trees_by modes (λ _. m) 2 member_test (member_body number)) are ∙ member_test-computed

  member_each-computed : trees_by modes (λ _. member_modes) 2 member_each (member_body number) ≡ member_each_tree number ∷ []
  member_each-computed = refl

  pub member_each-ordered : modes number ≡ member_modes → trees_in modes 2 member_each (member_body number) ≡ member_each_tree number ∷ []
  member_each-ordered are = ap (λ (m : List ModeDecl). trees_by modes (λ _. m) 2 member_each (member_body number)) are ∙ member_each-computed

  length-computed : trees_by modes (λ _. length_modes) 2 length_mode (length_body number) ≡ length_tree number ∷ []
  length-computed = refl

  pub length-ordered : modes number ≡ length_modes → trees_in modes 2 length_mode (length_body number) ≡ length_tree number ∷ []
  length-ordered are = ap (λ (m : List ModeDecl). trees_by modes (λ _. m) 2 length_mode (length_body number)) are ∙ length-computed

  reverse-computed : trees_by modes (λ _. onto_modes) 2 reverse_mode (reverse_body number) ≡ reverse_tree number ∷ []
  reverse-computed = refl

  pub reverse-ordered : modes number ≡ onto_modes → trees_in modes 2 reverse_mode (reverse_body number) ≡ reverse_tree number ∷ []
  reverse-ordered are = ap (λ (m : List ModeDecl). trees_by modes (λ _. m) 2 reverse_mode (reverse_body number)) are ∙ reverse-computed

  onto-computed : trees_by modes (λ _. onto_modes) 3 onto_mode (onto_body number) ≡ onto_tree number ∷ []
  onto-computed = refl

  pub onto-ordered : modes number ≡ onto_modes → trees_in modes 3 onto_mode (onto_body number) ≡ onto_tree number ∷ []
  onto-ordered are = ap (λ (m : List ModeDecl). trees_by modes (λ _. m) 3 onto_mode (onto_body number)) are ∙ onto-computed
