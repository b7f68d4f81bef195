-- The code of split trees does what they do beside others.
use Rattle.std.proofs.Common.{◌≡◌, ℕ, List, [], ◌∷◌, ◌++◌, length, ap, sym, subst, ◌∙◌}
use Rattle.std.specs.Prelude.{Some, slice_get}
use Rattle.std.proofs.lemmas.List.{append-nil, append_assoc}
use Rattle.std.proofs.lemmas.Option.{same_Some}
use Rattle.merc_tree.specs.declared.declarations.PredDecl.{PredDecl}
use Rattle.merc_graded_tree.specs.declared.basic.Procedure.{Procedure}
use Rattle.merc_graded_tree.specs.Nodes.{Node}
use Rattle.merc_meaning.specs.Programs.{program_with}
use Rattle.merc_meaning.specs.Runs.{Program}
use Rattle.merc_course.specs.Courses.{course}
use Rattle.merc_course.specs.Shown.{shown}
use Rattle.merc_rights.specs.declared.sites.SiteInfo.{SiteInfo}
use Rattle.merc_par_split.specs.Split.{split, all_split}
use Rattle.merc_par_split.specs.Sites.{sites, all_sites}
use Rattle.merc_code.specs.Steps.{Code}
use Rattle.merc_code.specs.ProgramCode.{ProgramCode, codes_in}
use Rattle.merc_code.specs.Meaning.{start}
use Rattle.merc_gen.specs.Generated.{codes_of, query_code}
use Rattle.merc_gen.specs.Sites.{Sites, conjuncts_at, forked_with}
use Rattle.merc_gen.proofs.Numbered.{program-sited, goal-behind-sited}
use Rattle.merc_gen.proofs.Theorem.{same-code-follows}
use Rattle.merc_last_calls.proofs.Runs.{starts, with_last_calls}
use Rattle.merc_load.specs.declared.loaded.Loaded.{Loaded}
use Rattle.merc_load.specs.Loaded.{IsProgram}
use Rattle.merc_prepared.specs.Compiled.{IsCompiled, IsSplitLoaded}

-- the sites of trees and of one more behind them
pub sites_behind : (trees : List Node) (goal : Node) → all_sites (trees ++ goal ∷ []) ≡ all_sites trees ++ sites goal
sites_behind [] goal = append-nil (sites goal)
sites_behind (first ∷ rest) goal =
    ap (λ (some : List SiteInfo). sites first ++ some) (sites_behind rest goal) ∙ sym (append_assoc (sites first) (all_sites rest) (sites goal))

-- The goal is alone in its list.
pub loaded_alone : (predicates : List PredDecl) (trees : List Node) (goal only : Node) (goals : List Node) (answers : List ℕ) (code : ProgramCode) (program : Loaded)
    → Some goal ≡ slice_get goals 0 → goals ≡ only ∷ []
    → ((procedure : Procedure) → (codes_in code).procedures procedure ≡ (codes_of (program_with predicates trees) (conjuncts_at (forked_with trees goal))).procedures procedure)
    → ((site : ℕ) → (codes_in code).conjuncts site ≡ (codes_of (program_with predicates trees) (conjuncts_at (forked_with trees goal))).conjuncts site)
    → code.query ≡ query_code (program_with predicates trees) goal answers → IsProgram program (codes_in code) code.query → IsSplitLoaded predicates trees only answers program
loaded_alone predicates trees goal only goals answers code program first one procedures conjuncts query loaded =
    let is : goal ≡ only = same_Some _ _ (first ∙ ap (λ (some : List Node). slice_get some 0) one) in
    subst (λ (some : Node). IsSplitLoaded predicates trees some answers program) is
    (record { codes = codes_in code; procedures = procedures; conjuncts = conjuncts; loaded = subst (λ (some : Code). IsProgram program (codes_in code) some) query loaded })

module _ (predicates : List PredDecl) (trees : List Node) (goal : Node) (answers : List ℕ) (program : Loaded) where
  compiles : IsSplitLoaded predicates (all_split 0 trees) (split (length (all_sites trees)) goal) answers program → IsCompiled predicates trees goal answers program
  compiles is =
      let all : Program = program_with predicates (all_split 0 trees) in
      let asked : Node = split (length (all_sites trees)) goal in
      let placed : Sites = conjuncts_at (forked_with (all_split 0 trees) asked) in
      let code : Code = query_code all asked answers in
      let follows = same-code-follows all placed (program-sited predicates trees goal) asked (goal-behind-sited trees goal) answers is.codes is.procedures is.conjuncts in
      record {
        codes = is.codes;
        query = code;
        loaded = is.loaded;
        yields = λ limit.
            with_last_calls is.codes (start code limit) (start code limit) (shown answers (course all asked limit)) (starts code limit) (follows.each_limit limit);
      }

  pub compiled : (placed : List Node) → placed ≡ all_split 0 trees → IsSplitLoaded predicates placed (split (length (all_sites trees)) goal) answers program → IsCompiled predicates trees goal answers program
  compiled placed same is = compiles (subst (λ (some : List Node). IsSplitLoaded predicates some (split (length (all_sites trees)) goal) answers program) same is)
