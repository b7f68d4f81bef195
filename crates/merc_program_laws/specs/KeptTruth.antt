-- That the trees which are kept of an accepted module are as true as its clauses.
use Rattle.std.specs.Prelude.{◌≡◌, ◌↔◌, ℕ, List, [], ◌∷◌, map}
use Rattle.merc_tree.specs.Term.{Term}
use Rattle.merc_tree.specs.declared.declarations.ModeDecl.{ModeDecl}
use Rattle.merc_tree.specs.declared.declarations.PredDecl.{PredDecl}
use Rattle.merc_tree.specs.declared.declarations.TypeDef.{TypeDef}
use Rattle.merc_tree.specs.declared.declarations.Module.{Module}
use Rattle.merc_goals.specs.Written.{written}
use Rattle.merc_flat.specs.Flat.{query_node}
use Rattle.merc_bodies.specs.Bodies.{asked_body}
use Rattle.merc_graded_tree.specs.declared.basic.Procedure.{Procedure}
use Rattle.merc_graded_tree.specs.Nodes.{Node}
use Rattle.merc_order.specs.Bound.{Bound, nothing, among}
use Rattle.merc_order.specs.Procedures.{bound_at, modes_of}
use Rattle.merc_grading.specs.Switches.{find}
use Rattle.merc_grading.specs.Grading.{graded}
use Rattle.merc_grading.specs.Faults.{Body, Procedure as ModuleProcedure, procedures_of}
use Rattle.merc_meaning.specs.Runs.{Program}
use Rattle.merc_meaning.specs.Truth.{Assignment, YesCall, NoCall}
use Rattle.merc_check.specs.Accepted.{HasBody, HaveBodies, bodies, query_answers}
use Rattle.merc_check.specs.Checked.{IsGoal}
use Rattle.merc_program_laws.specs.Plain.{plain}
use Rattle.merc_program_laws.specs.Programs.{flat_program}
use Rattle.merc_program_laws.specs.GoodPrograms.{program_of}
use Rattle.merc_program_laws.specs.CategoryLaws.{IsProcedure}
use Rattle.merc_program_laws.specs.TruthLaws.{SameTruth}
use Rattle.merc_program_laws.specs.AcceptedLaws.{IsChecked, IsGradedGoal}

-- a body with its switches, from what is bound before it
abbrev pub switched : List TypeDef → Bound → Body → Body
switched declared bound body = record { types = body.types; tree = find declared body.types bound body.tree }

-- the bodies of procedures with their switches
abbrev pub all_switched : List TypeDef → List ModuleProcedure → List Body → List Body
all_switched declared [] all = []
all_switched declared (procedure ∷ procedures) [] = []
all_switched declared (procedure ∷ procedures) (body ∷ all) = switched declared (bound_at procedure.mode.args) body ∷ all_switched declared procedures all

-- the tree of a body with its categories
abbrev pub with_categories : Module → Body → Node
with_categories known body = graded known.types (modes_of known.preds) body.types [] body.tree

-- These bodies are those of a module's procedures in order and with their switches. With their categories they are these trees.
pub record AreSwitchedBodies (names : List (List ℕ)) (found : Module) (trees : List Node) (all : List Body) : Type 0 where
  pub ordered : List Body
  pub have : HaveBodies names found ordered
  pub switches : all ≡ all_switched found.types (procedures_of found.preds) ordered
  pub categories : trees ≡ map (with_categories found) all

-- The same of the body of a goal that is asked.
pub record IsSwitchedBody (names : List (List ℕ)) (found : Module) (goal : Term) (tree : Node) (body : Body) : Type 0 where
  pub ordered : Body
  pub has : HasBody names found goal ordered
  pub switches : body ≡ switched found.types nothing ordered
  pub categories : tree ≡ with_categories found body

-- The calls of a module's procedures are yes, and no, in one program exactly where they are in another, at every stage and for all values.
abbrev pub SameCalls : Module → Program → Program → Type 0
SameCalls found program other =
    (procedure : Procedure) (declared : PredDecl) (mode : ModeDecl) → IsProcedure found procedure declared mode → (stage : ℕ) (arguments : List ℕ) (values : Assignment)
    → (YesCall program stage procedure arguments values ↔ YesCall other stage procedure arguments values)
    × (NoCall program stage procedure arguments values ↔ NoCall other stage procedure arguments values)

-- a module's clauses in flat form, of which each predicate has one goal
abbrev pub clauses_program : List (List ℕ) → Module → Program
clauses_program names found = flat_program found.preds (bodies names found)

-- Before it has categories an accepted module is as true as its clauses in flat form: of calls,
abbrev pub AcceptedCallsKeepTruth : Type 0
AcceptedCallsKeepTruth =
    (before after : List (List ℕ)) (text : List ℕ) (items : List Term) (found : Module) (trees : List Node) → IsChecked before after text items found trees
    → (all : List Body) × AreSwitchedBodies after found trees all × SameCalls found (clauses_program after found) (program_of found.preds all)

-- and of an accepted goal over it, where the answer variables occur outside.
abbrev pub AcceptedGoalsKeepTruth : Type 0
AcceptedGoalsKeepTruth =
    (before after : List (List ℕ)) (text : List ℕ) (items : List Term) (found : Module) (trees : List Node) → IsChecked before after text items found trees
    → (names : List (List ℕ)) (asked : List ℕ) (goal : Term) → IsGoal after names found asked goal → (tree : Node) → IsGradedGoal names found goal tree
    → (all : List Body) → AreSwitchedBodies after found trees all
    → (body : Body) × IsSwitchedBody names found goal tree body
    × SameTruth (clauses_program after found) (program_of found.preds all) (among (query_answers names found goal)) (plain (asked_body (query_node names found (written 0 goal)))) body.tree
