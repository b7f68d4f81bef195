-- What the code of a module and of a goal that is asked behind it does.
use Rattle.std.specs.Prelude.{◌≡◌, ℕ, List, length}
use Rattle.merc_tree.specs.declared.declarations.PredDecl.{PredDecl}
use Rattle.merc_graded_tree.specs.declared.basic.Procedure.{Procedure}
use Rattle.merc_graded_tree.specs.Nodes.{Node}
use Rattle.merc_meaning.specs.Programs.{program_with}
use Rattle.merc_course.specs.Courses.{course}
use Rattle.merc_course.specs.Shown.{shown}
use Rattle.merc_par_split.specs.Split.{split, all_split}
use Rattle.merc_par_split.specs.Sites.{all_sites}
use Rattle.merc_code.specs.Steps.{Code, Codes}
use Rattle.merc_code.specs.Meaning.{start}
use Rattle.merc_gen.specs.Generated.{codes_of, query_code}
use Rattle.merc_gen.specs.Sites.{conjuncts_at, forked_with}
use Rattle.merc_last_calls.specs.LeanMeaning.{YieldsLean}
use Rattle.merc_load.specs.declared.loaded.Loaded.{Loaded}
use Rattle.merc_load.specs.Loaded.{IsProgram}

-- The code that is loaded is that of these predicates and trees, of the conjuncts that are forked at their sites, and of a goal behind them, whose answers give these
-- variables values.
pub record IsSplitLoaded (predicates : List PredDecl) (trees : List Node) (goal : Node) (answers : List ℕ) (program : Loaded) : Type 0 where
  pub codes : Codes
  pub procedures : (procedure : Procedure) → codes.procedures procedure ≡ (codes_of (program_with predicates trees) (conjuncts_at (forked_with trees goal))).procedures procedure
  pub conjuncts : (site : ℕ) → codes.conjuncts site ≡ (codes_of (program_with predicates trees) (conjuncts_at (forked_with trees goal))).conjuncts site
  pub loaded : IsProgram program codes (query_code (program_with predicates trees) goal answers)

-- At every limit of steps the code that is loaded does what the split goal does beside others over the split trees, and gives of each answer the values of these variables.
pub record IsCompiled (predicates : List PredDecl) (trees : List Node) (goal : Node) (answers : List ℕ) (program : Loaded) : Type 0 where
  pub codes : Codes
  pub query : Code
  pub loaded : IsProgram program codes query
  pub yields : (limit : ℕ) → YieldsLean codes (start query limit) (shown answers (course (program_with predicates (all_split 0 trees)) (split (length (all_sites trees)) goal) limit))
