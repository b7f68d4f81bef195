-- What is wrong with categories: a declaration that does not allow what is inferred, and parallel conjuncts that can fail or answer twice.
use Rattle.std.specs.Prelude.{ℕ, suc, Bool, true, false, not, ◌&&◌, ◌||◌, List, [], ◌∷◌, ◌++◌, map, Option, Some, None, if◌then◌else◌}
use Rattle.std.specs.List.{flat_map}
use Rattle.merc_base.specs.Category.{can_fail_of, most_of}
use Rattle.merc_base.specs.FirstFault.{first_of_faults}
use Rattle.merc_base.specs.Places.{place_of}
use Rattle.merc_base.specs.declared.category.Category.{Category}
use Rattle.merc_base.specs.declared.category.Category.TheVariants.{Det, Semidet, Multi, Nondet, Erroneous, Failure}
use Rattle.merc_base.specs.declared.category.Most.{Most}
use Rattle.merc_base.specs.declared.place.Span.{Span}
use Rattle.merc_base.specs.declared.refusal.Detail.TheVariants.{Categories, Conjunct}
use Rattle.merc_base.specs.declared.refusal.Refusal.{Refusal}
use Rattle.merc_base.specs.declared.refusal.Rule.TheVariants.{WrongCategory, ParallelCategory}
use Rattle.merc_tree.specs.Types.{TypeExpr}
use Rattle.merc_tree.specs.declared.declarations.ModeDecl.{ModeDecl}
use Rattle.merc_tree.specs.declared.declarations.PredDecl.{PredDecl}
use Rattle.merc_tree.specs.declared.declarations.TypeDef.{TypeDef}
use Rattle.merc_graded_tree.specs.declared.entries.Running.TheVariants.{Sequential, Parallel}
use Rattle.merc_graded_tree.specs.Nodes.{Node, node, Goal, Basic, Conjunction, Disjunction, Switch, Conditional, Negation, Quantified, Nodes, no_nodes, more_nodes, Arms, no_arms, more_arms, span_of}
use Rattle.merc_order.specs.Bound.{Bound, nothing}
use Rattle.merc_order.specs.Procedures.{bound_at, modes_of}
use Rattle.merc_grading.specs.Categories.{is_zero, is_many}
use Rattle.merc_grading.specs.Grading.{category_at, graded}
use Rattle.merc_grading.specs.Switches.{find}

abbrev pub at_most : Most → Most → Bool
at_most inferred declared = is_zero inferred || (is_many declared || (not (is_many inferred) && not (is_zero declared)))

-- A declaration allows a category that can fail only if the declared one can, and whose maximum is not greater.
abbrev pub allows : Category → Category → Bool
allows declared inferred = (not (can_fail_of inferred) || can_fail_of declared) && at_most (most_of inferred) (most_of declared)

abbrev pub declaration_faults : Category → Span → Category → List Refusal
declaration_faults declared span inferred =
    if allows declared inferred then [] else record { rule = WrongCategory; place = place_of span; detail = Categories declared inferred } ∷ []

-- what a parallel conjunct may be
abbrev pub runs_beside : Category → Bool
runs_beside Det = true
runs_beside Erroneous = true
runs_beside Semidet = false
runs_beside Multi = false
runs_beside Nondet = false
runs_beside Failure = false

abbrev pub conjunct_faults : ℕ → Node → List Refusal
conjunct_faults number conjunct =
    if runs_beside (category_at conjunct) then [] else record { rule = ParallelCategory; place = place_of (span_of conjunct); detail = Conjunct number (category_at conjunct) } ∷ []

-- those of conjuncts that are numbered from here on
abbrev pub beside_faults : ℕ → Nodes → List Refusal
beside_faults number no_nodes = []
beside_faults number (more_nodes first rest) = conjunct_faults number first ++ beside_faults (suc number) rest

abbrev mutual
  -- the faults of all parallel conjuncts of a goal that has its categories, an outer one before those inside it
  pub parallel_faults : Node → List Refusal
  parallel_faults (node goal outputs category span) = goal_faults goal

  pub goal_faults : Goal → List Refusal
  goal_faults (Basic goal) = []
  goal_faults (Conjunction Sequential goals) = all_faults goals
  goal_faults (Conjunction (Parallel site) goals) = beside_faults 1 goals ++ all_faults goals
  goal_faults (Disjunction goals) = all_faults goals
  goal_faults (Switch variable arms) = arm_faults arms
  goal_faults (Conditional condition then_part else_part) = parallel_faults condition ++ (parallel_faults then_part ++ parallel_faults else_part)
  goal_faults (Negation goal) = parallel_faults goal
  goal_faults (Quantified own goal) = parallel_faults goal

  pub all_faults : Nodes → List Refusal
  all_faults no_nodes = []
  all_faults (more_nodes first rest) = parallel_faults first ++ all_faults rest

  pub arm_faults : Arms → List Refusal
  arm_faults no_arms = []
  arm_faults (more_arms symbol body rest) = parallel_faults body ++ arm_faults rest

-- The categories that a library unit declares are taken as they are.
abbrev pub own_faults : Option ℕ → ModeDecl → Node → List Refusal
own_faults None mode tree = declaration_faults mode.category mode.span (category_at tree)
own_faults (Some unit) mode tree = []

-- what is wrong with a mode of a predicate of this unit, none for the file's own, whose tree has its categories
abbrev pub mode_faults : Option ℕ → ModeDecl → Node → List Refusal
mode_faults unit mode tree = own_faults unit mode tree ++ parallel_faults tree

-- A procedure: a predicate in one of its modes.
pub record Procedure : Type 0 where
  pub predicate : PredDecl
  pub mode : ModeDecl

abbrev pub with_modes : PredDecl → List ModeDecl → List Procedure
with_modes declared modes = map (λ mode. record { predicate = declared; mode = mode }) modes

-- the procedures of predicates, in their order
abbrev pub procedures_of : List PredDecl → List Procedure
procedures_of predicates = flat_map (λ declared. with_modes declared declared.modes) predicates

-- what is wrong with procedures that have these trees
abbrev pub procedure_faults : List Procedure → List Node → List Refusal
procedure_faults [] trees = []
procedure_faults (first ∷ rest) [] = []
procedure_faults (first ∷ rest) (tree ∷ trees) = mode_faults first.predicate.unit first.mode tree ++ procedure_faults rest trees

-- An ordered tree, with the type of each of its variables.
pub record Body : Type 0 where
  pub types : ℕ → TypeExpr
  pub tree : Node

-- Given are the declared types and the predicates.
module _ (declared : List TypeDef) (predicates : List PredDecl) where
  -- a tree with its switches and categories, from what is bound before it
  abbrev pub finished : Bound → Body → Node
  finished bound body = graded declared (modes_of predicates) body.types [] (find declared body.types bound body.tree)

  -- those of procedures that have these bodies
  abbrev pub all_finished : List Procedure → List Body → List Node
  all_finished [] bodies = []
  all_finished (first ∷ rest) [] = []
  all_finished (first ∷ rest) (body ∷ bodies) = finished (bound_at first.mode.args) body ∷ all_finished rest bodies

  -- The fault of the categories of a module whose procedures have these bodies: the first by its place, then its rule, then the number of its mode.
  abbrev pub category_fault : List Body → Option Refusal
  category_fault bodies = first_of_faults (procedure_faults (procedures_of predicates) (all_finished (procedures_of predicates) bodies))

  -- the fault of a goal that is asked
  abbrev pub query_category_fault : Body → Option Refusal
  query_category_fault body = first_of_faults (parallel_faults (finished nothing body))
