-- The code of goals that meet nobody makes their runs.
use Rattle.std.proofs.Common.{◌≡◌, ℕ, List, sym, subst}
use Rattle.merc_tree.specs.declared.declarations.PredDecl.{PredDecl}
use Rattle.merc_graded_tree.specs.declared.basic.Procedure.{Procedure}
use Rattle.merc_graded_tree.specs.Nodes.{Node}
use Rattle.merc_meaning.specs.Programs.{program_with}
use Rattle.merc_meaning.specs.Runs.{run}
use Rattle.merc_meaning.specs.Shown.{shown}
use Rattle.merc_course.specs.Course.{whole}
use Rattle.merc_code.specs.Steps.{Code}
use Rattle.merc_code.specs.ProgramCode.{ProgramCode, codes_in}
use Rattle.merc_code.specs.Meaning.{start}
use Rattle.merc_gen.specs.Generated.{codes_of, query_code}
use Rattle.merc_gen.specs.Sites.{conjuncts_at, forked_with}
use Rattle.merc_gen.proofs.Alone.{same-code-runs}
use Rattle.merc_last_calls.proofs.Runs.{starts, with_last_calls}
use Rattle.merc_load.specs.declared.loaded.Loaded.{Loaded}
use Rattle.merc_load.specs.Loaded.{IsProgram}
use Rattle.merc_prepared.specs.Alone.{IsCompiledAlone}

pub compiled_alone : (predicates : List PredDecl) (trees : List Node) (goal : Node) (answers : List ℕ) (code : ProgramCode) (program : Loaded)
    → ((procedure : Procedure) → (codes_in code).procedures procedure ≡ (codes_of (program_with predicates trees) (conjuncts_at (forked_with trees goal))).procedures procedure)
    → ((site : ℕ) → (codes_in code).conjuncts site ≡ (codes_of (program_with predicates trees) (conjuncts_at (forked_with trees goal))).conjuncts site)
    → code.query ≡ query_code (program_with predicates trees) goal answers → IsProgram program (codes_in code) code.query → IsCompiledAlone predicates trees goal answers program
compiled_alone predicates trees goal answers code program procedures conjuncts query loaded program_alone alone =
    let all = program_with predicates trees in
    let begun = query_code all goal answers in
    let follows = same-code-runs all program_alone goal alone (conjuncts_at (forked_with trees goal)) answers (codes_in code) procedures conjuncts in
    record {
      codes = codes_in code;
      query = begun;
      loaded = subst (λ (some : Code). IsProgram program (codes_in code) some) query loaded;
      yields = λ limit.
          with_last_calls (codes_in code) (start begun limit) (start begun limit) (whole (shown answers (run all goal limit))) (starts begun limit) (follows.each_limit_runs limit);
    }
