-- What the code of a module and of a goal does that meet nobody.
use Rattle.std.specs.Prelude.{ℕ, List}
use Rattle.merc_tree.specs.declared.declarations.PredDecl.{PredDecl}
use Rattle.merc_graded_tree.specs.Nodes.{Node}
use Rattle.merc_meaning.specs.Programs.{program_with}
use Rattle.merc_meaning.specs.Runs.{run}
use Rattle.merc_meaning.specs.Shown.{shown}
use Rattle.merc_course.specs.Alone.{MeetsNobody, ProgramMeetsNobody}
use Rattle.merc_course.specs.Course.{whole}
use Rattle.merc_code.specs.Steps.{Code, Codes}
use Rattle.merc_code.specs.Meaning.{start}
use Rattle.merc_last_calls.specs.LeanMeaning.{YieldsLean}
use Rattle.merc_load.specs.declared.loaded.Loaded.{Loaded}
use Rattle.merc_load.specs.Loaded.{IsProgram}

-- At every limit of steps the code that is loaded makes the goal's run, and gives of each answer the values of these variables.
pub record MakesRuns (predicates : List PredDecl) (trees : List Node) (goal : Node) (answers : List ℕ) (program : Loaded) : Type 0 where
  pub codes : Codes
  pub query : Code
  pub loaded : IsProgram program codes query
  pub yields : (limit : ℕ) → YieldsLean codes (start query limit) (whole (shown answers (run (program_with predicates trees) goal limit)))

-- .. where neither the goal nor any procedure waits, signals or forks
abbrev pub IsCompiledAlone : List PredDecl → List Node → Node → List ℕ → Loaded → Type 0
IsCompiledAlone predicates trees goal answers program = ProgramMeetsNobody (program_with predicates trees) → MeetsNobody goal → MakesRuns predicates trees goal answers program
