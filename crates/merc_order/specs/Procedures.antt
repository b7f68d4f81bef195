-- The order of each procedure of a module and of a goal that is asked, and the fault of a module's procedures.
use Rattle.std.specs.Prelude.{◌≡◌, ℕ, zero, suc, ◌+◌, Bool, true, false, not, ◌||◌, List, [], ◌∷◌, ◌++◌, length, max, Option, Some, None, slice_get, if◌then◌else◌}
use Rattle.std.specs.List.{flat_map, list_all}
use Rattle.merc_base.specs.FirstFault.{first_of_faults}
use Rattle.merc_base.specs.declared.place.Span.{Span}
use Rattle.merc_base.specs.declared.refusal.Refusal.{Refusal}
use Rattle.merc_tree.specs.declared.declarations.Arg.{Arg}
use Rattle.merc_tree.specs.declared.declarations.Arg.TheVariants.{Input, Output}
use Rattle.merc_tree.specs.declared.declarations.ModeDecl.{ModeDecl}
use Rattle.merc_tree.specs.declared.declarations.PredDecl.{PredDecl}
use Rattle.merc_goal_tree.specs.Nodes.{Node, span_of}
use Rattle.merc_goal_tree.specs.Variables.{variables, count}
use Rattle.merc_graded_tree.specs.Nodes.{Node as OrderedNode}
use Rattle.merc_order.specs.Bound.{Bound, nothing}
use Rattle.merc_order.specs.Faults.{unbound_output}
use Rattle.merc_order.specs.Order.{from, binds, reached}
use Rattle.merc_order.specs.Ordered.{Ordered, Outcome, Ready, Stuck, if_ready}
use Rattle.merc_order.specs.Spelt.{spelt}

-- which arguments a mode has bound before
abbrev pub bound_at : List Arg → Bound
bound_at [] variable = false
bound_at (Input ∷ places) zero = true
bound_at (Output ∷ places) zero = false
bound_at (place ∷ places) (suc variable) = bound_at places variable

-- the numbers below this one
abbrev pub numbers_below : ℕ → List ℕ
numbers_below zero = []
numbers_below (suc count) = numbers_below count ++ count ∷ []

-- How often a variable occurs, where each of these, which are head or answer variables, occurs once more.
abbrev pub total_of : List ℕ → Node → ℕ → ℕ
total_of heads goal variable = count variable (variables goal) + count variable heads

abbrev pub fault_of : Outcome → List Refusal
fault_of (Ready ordered) = []
fault_of (Stuck fault) = fault ∷ []

-- the number behind all of these
abbrev pub beyond : List ℕ → ℕ
beyond [] = 0
beyond (variable ∷ variables) = max (suc variable) (beyond variables)

-- the first fresh variable of a body with these head variables
abbrev pub first_fresh : List ℕ → Node → ℕ
first_fresh heads goal = beyond (heads ++ variables goal)

-- Given are the modes of each predicate.
module _ (modes : ℕ → List ModeDecl) where
  -- From what is bound, all of these are bound at the goal's end, if it can be reached.
  abbrev pub are_bound_behind : List ℕ → Bound → Node → Bool
  are_bound_behind heads bound goal =
      not (reached (total_of heads goal) modes goal) || list_all (λ variable. bound variable || binds (total_of heads goal) modes goal variable) heads

  -- The body of a procedure with these head variables, from what is bound. Where one of them is unbound at its end the fault stands here.
  abbrev pub body_from : List ℕ → Bound → Span → Node → Outcome
  body_from heads bound span goal = if_ready (from (total_of heads goal) modes goal bound) (λ ordered.
      if are_bound_behind heads bound goal then Ready ordered else Stuck (unbound_output span))

  -- a predicate's body in one of its modes
  abbrev pub procedure_from : ℕ → ModeDecl → Node → Outcome
  procedure_from arity mode goal = body_from (numbers_below arity) (bound_at mode.args) mode.span goal

  -- a goal that is asked, with these answer variables
  abbrev pub query_from : List ℕ → Node → Outcome
  query_from answers goal = body_from answers nothing (span_of goal) goal

  -- what is wrong with a predicate's modes, in their order
  abbrev pub mode_faults : ℕ → List ModeDecl → Node → List Refusal
  mode_faults arity own goal = flat_map (λ mode. fault_of (procedure_from arity mode goal)) own

  -- what is wrong with predicates of these bodies, in their order
  abbrev pub procedure_faults : List PredDecl → List Node → List Refusal
  procedure_faults [] goals = []
  procedure_faults (declared ∷ rest) [] = []
  procedure_faults (declared ∷ rest) (goal ∷ goals) = mode_faults (length declared.args) declared.modes goal ++ procedure_faults rest goals

  -- the tree of a body with these head variables, if it can be ordered
  abbrev pub tree_of : List ℕ → Node → Outcome → List OrderedNode
  tree_of heads goal (Ready ordered) = spelt modes (first_fresh heads goal) ordered ∷ []
  tree_of heads goal (Stuck fault) = []

  -- the trees of a predicate's modes, in their order
  abbrev pub mode_trees : ℕ → List ModeDecl → Node → List OrderedNode
  mode_trees arity own goal = flat_map (λ mode. tree_of (numbers_below arity) goal (procedure_from arity mode goal)) own

  -- the trees of predicates of these bodies, in their order
  abbrev pub procedure_trees : List PredDecl → List Node → List OrderedNode
  procedure_trees [] goals = []
  procedure_trees (declared ∷ rest) [] = []
  procedure_trees (declared ∷ rest) (goal ∷ goals) = mode_trees (length declared.args) declared.modes goal ++ procedure_trees rest goals

abbrev pub modes_in : Option PredDecl → List ModeDecl
modes_in None = []
modes_in (Some declared) = declared.modes

-- the modes of each predicate by its number
abbrev pub modes_of : List PredDecl → ℕ → List ModeDecl
modes_of predicates number = modes_in (slice_get predicates number)

-- The fault of a module's procedures: the first by its place, then its rule, then the number of its mode. The predicates have these bodies.
abbrev pub order_fault : List PredDecl → List Node → Option Refusal
order_fault predicates goals = first_of_faults (procedure_faults (modes_of predicates) predicates goals)

-- A tree is the ordered body of a procedure: a predicate in one of its modes, or a goal that is asked.

abbrev pub IsBody : (ℕ → List ModeDecl) → List ℕ → Outcome → Node → OrderedNode → Type 0
IsBody modes heads outcome goal tree = (ordered : Ordered) × (outcome ≡ Ready ordered) × (tree ≡ spelt modes (first_fresh heads goal) ordered)

abbrev pub IsProcedure : (ℕ → List ModeDecl) → ℕ → ModeDecl → Node → OrderedNode → Type 0
IsProcedure modes arity mode goal tree = IsBody modes (numbers_below arity) (procedure_from modes arity mode goal) goal tree

abbrev pub IsQuery : (ℕ → List ModeDecl) → List ℕ → Node → OrderedNode → Type 0
IsQuery modes answers goal tree = IsBody modes answers (query_from modes answers goal) goal tree
