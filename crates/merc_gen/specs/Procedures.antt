-- The procedures of predicates in their modes, as far as there are trees for them, in order.
use Rattle.std.specs.Prelude.{Bool, List, [], ◌∷◌, length, drop, map}
use Rattle.merc_tree.specs.declared.declarations.ModeDecl.{ModeDecl}
use Rattle.merc_tree.specs.declared.declarations.PredDecl.{PredDecl}
use Rattle.merc_graded_tree.specs.Nodes.{Node}
use Rattle.merc_meaning.specs.Runs.{ProcedureBody}
use Rattle.merc_gen.specs.Generated.{is_once}

abbrev pub mode_bodies : List ModeDecl → List Node → List ProcedureBody
mode_bodies [] trees = []
mode_bodies (mode ∷ modes) [] = []
mode_bodies (mode ∷ modes) (tree ∷ trees) = record { places = mode.args; body = tree } ∷ mode_bodies modes trees

abbrev pub program_bodies : List PredDecl → List Node → List (List ProcedureBody)
program_bodies [] trees = []
program_bodies (declared ∷ rest) trees = mode_bodies declared.modes trees ∷ program_bodies rest (drop (length declared.modes) trees)

-- which of these answer once
abbrev pub answer_once : List ProcedureBody → List Bool
answer_once bodies = map (λ (procedure : ProcedureBody). is_once procedure.body) bodies
