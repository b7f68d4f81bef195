-- The program of a module: the predicates in their modes, with the trees of these procedures, both in order.
use Rattle.std.specs.Prelude.{ℕ, zero, suc, List, [], ◌∷◌, length, drop, Option, Some, None}
use Rattle.merc_tree.specs.declared.declarations.ModeDecl.{ModeDecl}
use Rattle.merc_tree.specs.declared.declarations.PredDecl.{PredDecl}
use Rattle.merc_graded_tree.specs.Nodes.{Node}
use Rattle.merc_meaning.specs.Runs.{Program, ProcedureBody}

-- the body of a mode by its number, of modes that have these trees
abbrev pub body_of_mode : List ModeDecl → List Node → ℕ → Option ProcedureBody
body_of_mode [] trees number = None
body_of_mode (mode ∷ modes) [] number = None
body_of_mode (mode ∷ modes) (tree ∷ trees) zero = Some (record { places = mode.args; body = tree })
body_of_mode (mode ∷ modes) (tree ∷ trees) (suc number) = body_of_mode modes trees number

-- the same of a predicate by its number, of predicates whose modes have these trees
abbrev pub body_of : List PredDecl → List Node → ℕ → ℕ → Option ProcedureBody
body_of [] trees predicate mode = None
body_of (declared ∷ rest) trees zero mode = body_of_mode declared.modes trees mode
body_of (declared ∷ rest) trees (suc predicate) mode = body_of rest (drop (length declared.modes) trees) predicate mode

-- the program of predicates whose procedures have these trees
abbrev pub program_with : List PredDecl → List Node → Program
program_with predicates trees procedure = body_of predicates trees procedure.predicate procedure.mode
