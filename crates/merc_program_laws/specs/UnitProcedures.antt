-- That the predicates of library units have no fault of modes, so that what is told of a module's procedures is a fault of the file's own.
use Rattle.std.specs.Prelude.{◌≡◌, ℕ, List, [], length, map, Some, None}
use Rattle.merc_base.specs.declared.refusal.Refusal.{Refusal}
use Rattle.merc_tree.specs.Term.{Term}
use Rattle.merc_tree.specs.declared.declarations.Module.{Module}
use Rattle.merc_tree.specs.declared.declarations.PredDecl.{PredDecl}
use Rattle.merc_goal_tree.specs.Nodes.{Node}
use Rattle.merc_bodies.specs.Bodies.{body_of}
use Rattle.merc_order.specs.Procedures.{mode_faults, modes_of, order_fault}
use Rattle.merc_items.specs.ReadModule.{IsModule}
use Rattle.merc_flat.specs.Flat.{clause_node}
use Rattle.merc_program_laws.specs.ClauseFaults.{IsAmong}
use Rattle.merc_program_laws.specs.UnitClauses.{IsTable}

-- Given are the texts of names and a module.
module _ (names : List (List ℕ)) (known : Module) where
  -- the body of a predicate
  abbrev pub body_in : PredDecl → Node
  body_in declared = body_of (clause_node names known) known.clauses declared

  -- what is wrong with its modes
  abbrev pub faults_in : PredDecl → List Refusal
  faults_in declared = mode_faults (modes_of known.preds) (length declared.args) declared.modes (body_in declared)

  -- The predicates of units can be ordered in each of their modes.
  abbrev pub HasOrderedUnits : Type 0
  HasOrderedUnits = (declared : PredDecl) (unit : ℕ) → IsAmong declared known.preds → declared.unit ≡ Some unit → faults_in declared ≡ []

  -- a fault of the modes of a predicate of the file
  pub record IsFileOrderFault (told : Refusal) : Type 0 where
    pub declared : PredDecl
    pub among : IsAmong declared known.preds
    pub own : declared.unit ≡ None
    pub fault : IsAmong told (faults_in declared)

-- Each module that a text is has units that can be ordered.
abbrev pub UnitsAreOrdered : Type 0
UnitsAreOrdered = (before after : List (List ℕ)) (text : List ℕ) (terms : List Term) (found : Module)
    → IsTable before → IsModule before after text terms found → HasOrderedUnits after found

-- What is told of the procedures of a module that a text is is a fault of the modes of a predicate of the file.
abbrev pub TellsFileOrder : Type 0
TellsFileOrder = (before after : List (List ℕ)) (text : List ℕ) (terms : List Term) (found : Module) (told : Refusal)
    → IsTable before → IsModule before after text terms found → order_fault found.preds (map (body_in after found) found.preds) ≡ Some told → IsFileOrderFault after found told
