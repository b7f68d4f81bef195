-- The procedures of predicates in order, and those that are found by number; and so the conjuncts of sites.
use Rattle.std.proofs.Common.{◌≡◌, refl, ap, sym, ◌∙◌, ℕ, zero, suc, Bool, false, List, [], ◌∷◌, length, drop, map, slice_get, slice_index_or, Option, Some, None, option_map}
use Rattle.std.proofs.lemmas.Option.{slice_get-map}
use Rattle.merc_tree.specs.declared.declarations.ModeDecl.{ModeDecl}
use Rattle.merc_tree.specs.declared.declarations.PredDecl.{PredDecl}
use Rattle.merc_graded_tree.specs.declared.basic.Procedure.{Procedure}
use Rattle.merc_graded_tree.specs.Nodes.{Node, Nodes, no_nodes}
use Rattle.merc_meaning.specs.Runs.{ProcedureBody}
use Rattle.merc_meaning.specs.Programs.{body_of_mode, body_of, program_with}
use Rattle.merc_code.specs.Steps.{ProcedureCode, ConjunctCode, Codes}
use Rattle.merc_code.specs.ProgramCode.{ProgramCode, in_mode, forked_there, codes_in}
use Rattle.merc_gen.specs.Generated.{is_single, procedure_code, conjunct_codes, codes_of}
use Rattle.merc_gen.specs.Sites.{Sites, nodes_there, conjuncts_at}
use Rattle.merc_gen.specs.Procedures.{mode_bodies, program_bodies, answer_once}
use Rattle.merc_gen.specs.Singles.{at_mode, contained}
use mathlib.Core.Path.{fun_ext}

-- one of a row that is there
abbrev at_place : {X : Type 0} → Option (List X) → ℕ → Option X
at_place None number = None
at_place (Some row) number = slice_get row number

modes_found : (modes : List ModeDecl) (trees : List Node) (number : ℕ) → slice_get (mode_bodies modes trees) number ≡ body_of_mode modes trees number
modes_found [] trees number = refl
modes_found (mode ∷ modes) [] number = refl
modes_found (mode ∷ modes) (tree ∷ trees) zero = refl
modes_found (mode ∷ modes) (tree ∷ trees) (suc number) = modes_found modes trees number

procedures_found : (predicates : List PredDecl) (trees : List Node) (predicate mode : ℕ)
    → at_place (slice_get (program_bodies predicates trees) predicate) mode ≡ body_of predicates trees predicate mode
procedures_found [] trees predicate mode = refl
procedures_found (declared ∷ rest) trees zero mode = modes_found declared.modes trees mode
procedures_found (declared ∷ rest) trees (suc predicate) mode = procedures_found rest (drop (length declared.modes) trees) predicate mode

-- Which of them answer once.

once_at : (bodies : List ProcedureBody) (mode : ℕ) → slice_index_or (answer_once bodies) mode false ≡ is_single (slice_get bodies mode)
once_at [] mode = refl
once_at (body ∷ bodies) zero = refl
once_at (body ∷ bodies) (suc mode) = once_at bodies mode

once_in : (row : Option (List ProcedureBody)) (mode : ℕ) → at_mode (option_map answer_once row) mode ≡ is_single (at_place row mode)
once_in None mode = refl
once_in (Some bodies) mode = once_at bodies mode

pub singles_same : (predicates : List PredDecl) (trees : List Node) (singles : List (List Bool)) → singles ≡ map answer_once (program_bodies predicates trees)
    → contained singles ≡ (λ called. is_single (program_with predicates trees called))
singles_same predicates trees singles e =
    fun_ext (λ (p : Procedure).
    ap (λ (s : List (List Bool)). contained s p) e ∙ ap (λ o. at_mode o p.mode) (slice_get-map answer_once (program_bodies predicates trees) p.predicate)
    ∙ once_in (slice_get (program_bodies predicates trees) p.predicate) p.mode ∙ ap is_single (procedures_found predicates trees p.predicate p.mode))

-- Their code.

code_in : (code : ProcedureBody → ProcedureCode) (row : Option (List ProcedureBody)) (mode : ℕ) → in_mode (option_map (map code) row) mode ≡ option_map code (at_place row mode)
code_in code None mode = refl
code_in code (Some bodies) mode = slice_get-map code bodies mode

codes_same : (code : ProcedureBody → ProcedureCode) (predicates : List PredDecl) (trees : List Node) (p : Procedure)
    → in_mode (slice_get (map (map code) (program_bodies predicates trees)) p.predicate) p.mode ≡ option_map code (program_with predicates trees p)
codes_same code predicates trees p =
    ap (λ o. in_mode o p.mode) (slice_get-map (map code) (program_bodies predicates trees) p.predicate) ∙ code_in code (slice_get (program_bodies predicates trees) p.predicate) p.mode
    ∙ ap (option_map code) (procedures_found predicates trees p.predicate p.mode)

pub procedures_generated : (predicates : List PredDecl) (trees : List Node) (singles : List (List Bool)) (code : ProgramCode)
    → singles ≡ map answer_once (program_bodies predicates trees)
    → code.procedures ≡ map (map (procedure_code (contained singles))) (program_bodies predicates trees)
    → (sites : Sites) (procedure : Procedure) → Codes.procedures (codes_in code) procedure ≡ Codes.procedures (codes_of (program_with predicates trees) sites) procedure
procedures_generated predicates trees singles code e same sites procedure =
    ap (λ (l : List (List ProcedureCode)). in_mode (slice_get l procedure.predicate) procedure.mode) same
    ∙ codes_same (procedure_code (contained singles)) predicates trees procedure
    ∙ ap (λ (single : Procedure → Bool). option_map (procedure_code single) (program_with predicates trees procedure)) (singles_same predicates trees singles e)

-- The code of conjuncts.

forked_at_site : (code : Nodes → List ConjunctCode) (o : Option Nodes) → code no_nodes ≡ [] → forked_there (option_map code o) ≡ code (nodes_there o)
forked_at_site code None e = sym e
forked_at_site code (Some goals) e = refl

pub conjuncts_generated : (predicates : List PredDecl) (trees : List Node) (singles : List (List Bool)) (code : ProgramCode) (forked : List Nodes)
    → singles ≡ map answer_once (program_bodies predicates trees) → code.conjuncts ≡ map (conjunct_codes (contained singles)) forked
    → (site : ℕ) → Codes.conjuncts (codes_in code) site ≡ Codes.conjuncts (codes_of (program_with predicates trees) (conjuncts_at forked)) site
conjuncts_generated predicates trees singles code forked e same site =
    ap (λ (l : List (List ConjunctCode)). forked_there (slice_get l site)) same
    ∙ ap forked_there (slice_get-map (conjunct_codes (contained singles)) forked site)
    ∙ forked_at_site (conjunct_codes (contained singles)) (slice_get forked site) refl
    ∙ ap (λ (single : Procedure → Bool). conjunct_codes single (conjuncts_at forked site)) (singles_same predicates trees singles e)
