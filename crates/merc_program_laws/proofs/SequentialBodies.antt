-- The bodies of the unit `list` go in an order without a parallel conjunction, in each mode.
use Rattle.std.proofs.Common.{◌≡◌, ℕ, List, sym, subst}
use Rattle.std.specs.List.{AllByRecursion}
use Rattle.merc_tree.specs.declared.declarations.ModeDecl.{ModeDecl}
use Rattle.merc_goal_tree.specs.Nodes.{Node}
use Rattle.merc_order.specs.Ordered.{Outcome, Ready, Stuck}
use Rattle.merc_order.specs.Procedures.{procedure_from}
use Rattle.merc_order.specs.Spelt.{spelt}
use Rattle.merc_program_laws.proofs.ListOrders.{append_body, append_modes, length_body, length_modes, member_body, member_modes, onto_body, onto_modes, reverse_body, reverse_modes}
use Rattle.merc_program_laws.proofs.NoParallel.{HasNoParallel}

-- Given are the modes of each predicate.
module _ (modes : ℕ → List ModeDecl) where
  -- an ordered goal has no parallel conjunction, wherever its fresh variables begin
  abbrev pub IsSequential : Outcome → Type 0
  IsSequential (Ready ordered) = (at : ℕ) → HasNoParallel (spelt modes at ordered)
  IsSequential (Stuck fault) = Unit {0}

  -- so is a body in each of its own modes, where calls are ordered by these
  abbrev IsSequentialBy : (ℕ → List ModeDecl) → ℕ → List ModeDecl → Node → Type 0
  IsSequentialBy called arity own body = AllByRecursion (λ mode. IsSequential (procedure_from called arity mode body)) own

  abbrev pub IsSequentialBody : ℕ → List ModeDecl → Node → Type 0
  IsSequentialBody = IsSequentialBy modes

-- so many goals without parts

abbrev two : Unit {0} × (Unit {0} × Unit {0})
two = (tt, (tt, tt))

abbrev three : Unit {0} × (Unit {0} × (Unit {0} × Unit {0}))
three = (tt, two)

abbrev four : Unit {0} × (Unit {0} × (Unit {0} × (Unit {0} × Unit {0})))
four = (tt, three)

-- The prover computes the order where every call is of a predicate with the modes declared; only the modes of that predicate are asked for.
module _ (number : ℕ) (modes : ℕ → List ModeDecl) where
  append_computed : IsSequentialBy modes (λ _. append_modes) 3 append_modes (append_body number)
  append_computed = (λ at. (two, (three, tt)), (λ at. (two, (three, tt)), tt))

  pub append_sequential : modes number ≡ append_modes → IsSequentialBody modes 3 append_modes (append_body number)
  append_sequential are = subst (λ (m : List ModeDecl). IsSequentialBy modes (λ _. m) 3 append_modes (append_body number)) (sym are) append_computed

  member_computed : IsSequentialBy modes (λ _. member_modes) 2 member_modes (member_body number)
  member_computed = (λ at. (two, (two, tt)), (λ at. (tt, (two, tt)), tt))

  pub member_sequential : modes number ≡ member_modes → IsSequentialBody modes 2 member_modes (member_body number)
  member_sequential are = subst (λ (m : List ModeDecl). IsSequentialBy modes (λ _. m) 2 member_modes (member_body number)) (sym are) member_computed

  length_computed : IsSequentialBy modes (λ _. length_modes) 2 length_modes (length_body number)
  length_computed = (λ at. (two, (four, tt)), tt)

  pub length_sequential : modes number ≡ length_modes → IsSequentialBody modes 2 length_modes (length_body number)
  length_sequential are = subst (λ (m : List ModeDecl). IsSequentialBy modes (λ _. m) 2 length_modes (length_body number)) (sym are) length_computed

  reverse_computed : IsSequentialBy modes (λ _. onto_modes) 2 reverse_modes (reverse_body number)
  reverse_computed = (λ at. two, tt)

  pub reverse_sequential : modes number ≡ onto_modes → IsSequentialBody modes 2 reverse_modes (reverse_body number)
  reverse_sequential are = subst (λ (m : List ModeDecl). IsSequentialBy modes (λ _. m) 2 reverse_modes (reverse_body number)) (sym are) reverse_computed

  onto_computed : IsSequentialBy modes (λ _. onto_modes) 3 onto_modes (onto_body number)
  onto_computed = (λ at. (two, (three, tt)), tt)

  pub onto_sequential : modes number ≡ onto_modes → IsSequentialBody modes 3 onto_modes (onto_body number)
  onto_sequential are = subst (λ (m : List ModeDecl). IsSequentialBy modes (λ _. m) 3 onto_modes (onto_body number)) (sym are) onto_computed
