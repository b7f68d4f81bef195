-- Worked examples of programs. The first predicate has two modes, the second has one. Their trees stand in this order.
use Rattle.std.specs.Prelude.{◌≡◌, ℕ, List, [], ◌∷◌, Option, Some, None, refl}
use Rattle.merc_base.specs.declared.category.Category.TheVariants.{Semidet}
use Rattle.merc_tree.specs.declared.declarations.Arg.{Arg}
use Rattle.merc_tree.specs.declared.declarations.Arg.TheVariants.{Input, Output}
use Rattle.merc_tree.specs.declared.declarations.ModeDecl.{ModeDecl}
use Rattle.merc_tree.specs.declared.declarations.PredDecl.{PredDecl}
use Rattle.merc_tree.specs.Types.{IntType}
use Rattle.merc_graded_tree.specs.declared.basic.BasicGoal.TheVariants.{Test}
use Rattle.merc_graded_tree.specs.Nodes.{Node}
use Rattle.merc_meaning.specs.Programs.{body_of_mode, program_with}
use Rattle.merc_meaning.specs.RunExamples.{basic, failure, nowhere, truth}
use Rattle.merc_meaning.specs.Runs.{ProcedureBody}

abbrev mode : List Arg → ModeDecl
mode places = record { args = places; category = Semidet; span = nowhere }

abbrev predicate : ℕ → List ModeDecl → PredDecl
predicate name modes = record { name = name; args = IntType ∷ []; modes = modes; span = nowhere; unit = None }

abbrev predicates : List PredDecl
predicates = predicate 80 (mode (Input ∷ []) ∷ mode (Output ∷ []) ∷ []) ∷ predicate 81 (mode (Input ∷ []) ∷ []) ∷ []

abbrev trees : List Node
trees = truth ∷ failure ∷ basic (Test 0 0) [] ∷ []

abbrev at : ℕ → ℕ → Option ProcedureBody
at number in_mode = program_with predicates trees (record { predicate = number; mode = in_mode })

first_mode : at 0 0 ≡ Some (record { places = Input ∷ []; body = truth })
first_mode = refl

last_mode : at 0 1 ≡ Some (record { places = Output ∷ []; body = failure })
last_mode = refl

-- behind both modes of the first
second_predicate : at 1 0 ≡ Some (record { places = Input ∷ []; body = basic (Test 0 0) [] })
second_predicate = refl

past_the_modes : at 0 2 ≡ None
past_the_modes = refl

-- it is not the next predicate's
past_the_modes-not : at 0 2 ≡ Some (record { places = Input ∷ []; body = basic (Test 0 0) [] }) → ⊥
past_the_modes-not is_the_next = cc

past_the_predicates : at 2 0 ≡ None
past_the_predicates = refl

-- one whose tree is not there
without_tree : body_of_mode (mode (Input ∷ []) ∷ mode (Output ∷ []) ∷ []) (truth ∷ []) 1 ≡ None
without_tree = refl
