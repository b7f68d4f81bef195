-- The bodies of the predicates of the unit `list`, each of which can be ordered in each mode.
use Rattle.std.proofs.Common.{◌≡◌, ℕ, List, [], ◌∷◌, pos, refl, ap, ◌∙◌}
use Rattle.merc_base.specs.Names.{cons_name, nil_name}
use Rattle.merc_base.specs.declared.category.Category.{Category}
use Rattle.merc_base.specs.declared.category.Category.TheVariants.{Det, Semidet, Multi, Nondet}
use Rattle.merc_base.specs.declared.place.Span.{Span}
use Rattle.merc_tree.specs.declared.declarations.Arg.{Arg}
use Rattle.merc_tree.specs.declared.declarations.Arg.TheVariants.{Input, Output}
use Rattle.merc_tree.specs.declared.declarations.ModeDecl.{ModeDecl}
use Rattle.merc_goal_tree.specs.Nodes.{Node, Simple, Conjunction, Disjunction, nodes_of}
use Rattle.merc_goal_tree.specs.declared.goal.Operation.TheVariants.{Add}
use Rattle.merc_goal_tree.specs.declared.goal.SimpleGoal.TheVariants.{Same, Shape, Arithmetic, Call}
use Rattle.merc_goal_tree.specs.declared.goal.Symbol.{Symbol}
use Rattle.merc_goal_tree.specs.declared.goal.Symbol.TheVariants.{Constructor, Integer}
use Rattle.merc_order.specs.Procedures.{mode_faults}

abbrev at : ℕ → ℕ → ℕ → Span
at line first past = record { first = first; past = past; line = line }

abbrev mode : List Arg → Category → Span → ModeDecl
mode args category span = record { args = args; category = category; span = span }

abbrev nil : Symbol
nil = Constructor nil_name 0

abbrev cell : Symbol
cell = Constructor cons_name 2

-- the modes as they are declared

abbrev pub append_modes : List ModeDecl
append_modes = mode (Input ∷ Input ∷ Output ∷ []) Det (at 3 84 118) ∷ mode (Output ∷ Output ∷ Input ∷ []) Multi (at 4 120 157) ∷ []

abbrev pub member_modes : List ModeDecl
member_modes = mode (Input ∷ Input ∷ []) Semidet (at 8 261 294) ∷ mode (Output ∷ Input ∷ []) Nondet (at 9 296 329) ∷ []

abbrev pub length_modes : List ModeDecl
length_modes = mode (Input ∷ Output ∷ []) Det (at 12 389 433) ∷ []

abbrev pub reverse_modes : List ModeDecl
reverse_modes = mode (Input ∷ Output ∷ []) Det (at 15 499 548) ∷ []

abbrev pub onto_modes : List ModeDecl
onto_modes = mode (Input ∷ Input ∷ Output ∷ []) Det (at 17 600 672) ∷ []

-- Given is the number of the predicate that is called.

abbrev pub append_body : ℕ → Node
append_body number = Disjunction (nodes_of (
    Conjunction (nodes_of (Simple (Shape 0 nil []) (at 5 159 177) ∷ Simple (Same 2 1) (at 5 159 177) ∷ [])) (at 5 159 177)
    ∷ Conjunction (nodes_of (
    Simple (Shape 0 cell (3 ∷ 4 ∷ [])) (at 6 179 231)
    ∷ Simple (Shape 2 cell (3 ∷ 5 ∷ [])) (at 6 179 231)
    ∷ Simple (Call number (4 ∷ 1 ∷ 5 ∷ [])) (at 6 213 231)
    ∷ [])) (at 6 179 231)
    ∷ [])) (at 5 159 177)

abbrev pub member_body : ℕ → Node
member_body number = Disjunction (nodes_of (
    Simple (Shape 1 cell (0 ∷ 2 ∷ [])) (at 10 331 349)
    ∷ Conjunction (nodes_of (
    Simple (Shape 1 cell (3 ∷ 4 ∷ [])) (at 11 351 387)
    ∷ Simple (Call number (0 ∷ 4 ∷ [])) (at 11 374 387)
    ∷ [])) (at 11 351 387)
    ∷ [])) (at 10 331 349)

abbrev pub length_body : ℕ → Node
length_body number = Disjunction (nodes_of (
    Conjunction (nodes_of (Simple (Shape 0 nil []) (at 13 435 448) ∷ Simple (Shape 1 (Integer (pos 0)) []) (at 13 435 448) ∷ [])) (at 13 435 448)
    ∷ Conjunction (nodes_of (
    Simple (Shape 0 cell (2 ∷ 3 ∷ [])) (at 14 450 497)
    ∷ Simple (Call number (3 ∷ 4 ∷ [])) (at 14 473 486)
    ∷ Simple (Shape 5 (Integer (pos 1)) []) (at 14 488 497)
    ∷ Simple (Arithmetic Add 1 4 5) (at 14 488 497)
    ∷ [])) (at 14 450 497)
    ∷ [])) (at 13 435 448)

abbrev pub reverse_body : ℕ → Node
reverse_body number =
    Conjunction (nodes_of (Simple (Shape 2 nil []) (at 16 569 598) ∷ Simple (Call number (0 ∷ 2 ∷ 1 ∷ [])) (at 16 569 598) ∷ [])) (at 16 550 598)

abbrev pub onto_body : ℕ → Node
onto_body number = Disjunction (nodes_of (
    Conjunction (nodes_of (Simple (Shape 0 nil []) (at 18 674 701) ∷ Simple (Same 2 1) (at 18 674 701) ∷ [])) (at 18 674 701)
    ∷ Conjunction (nodes_of (
    Simple (Shape 0 cell (3 ∷ 4 ∷ [])) (at 19 703 775)
    ∷ Simple (Shape 5 cell (3 ∷ 1 ∷ [])) (at 19 741 775)
    ∷ Simple (Call number (4 ∷ 5 ∷ 2 ∷ [])) (at 19 741 775)
    ∷ [])) (at 19 703 775)
    ∷ [])) (at 18 674 701)

-- Where every call is of a predicate with the modes declared, the prover computes that each body can be ordered.

module _ (number : ℕ) where
  append_computed : mode_faults (λ _. append_modes) 3 append_modes (append_body number) ≡ []
  append_computed = refl

  member_computed : mode_faults (λ _. member_modes) 2 member_modes (member_body number) ≡ []
  member_computed = refl

  length_computed : mode_faults (λ _. length_modes) 2 length_modes (length_body number) ≡ []
  length_computed = refl

  reverse_computed : mode_faults (λ _. onto_modes) 2 reverse_modes (reverse_body number) ≡ []
  reverse_computed = refl

  onto_computed : mode_faults (λ _. onto_modes) 3 onto_modes (onto_body number) ≡ []
  onto_computed = refl

-- Only the modes of that predicate are asked for.
module _ (number : ℕ) (modes : ℕ → List ModeDecl) where
  pub append_ordered : modes number ≡ append_modes → mode_faults modes 3 append_modes (append_body number) ≡ []
  append_ordered are = ap (λ (m : List ModeDecl). mode_faults (λ _. m) 3 append_modes (append_body number)) are ∙ append_computed number

  pub member_ordered : modes number ≡ member_modes → mode_faults modes 2 member_modes (member_body number) ≡ []
  member_ordered are = ap (λ (m : List ModeDecl). mode_faults (λ _. m) 2 member_modes (member_body number)) are ∙ member_computed number

  pub length_ordered : modes number ≡ length_modes → mode_faults modes 2 length_modes (length_body number) ≡ []
  length_ordered are = ap (λ (m : List ModeDecl). mode_faults (λ _. m) 2 length_modes (length_body number)) are ∙ length_computed number

  pub reverse_ordered : modes number ≡ onto_modes → mode_faults modes 2 reverse_modes (reverse_body number) ≡ []
  reverse_ordered are = ap (λ (m : List ModeDecl). mode_faults (λ _. m) 2 reverse_modes (reverse_body number)) are ∙ reverse_computed number

  pub onto_ordered : modes number ≡ onto_modes → mode_faults modes 3 onto_modes (onto_body number) ≡ []
  onto_ordered are = ap (λ (m : List ModeDecl). mode_faults (λ _. m) 3 onto_modes (onto_body number)) are ∙ onto_computed number
