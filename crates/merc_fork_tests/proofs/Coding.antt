-- The code of the split trees of procedures and of a goal makes a course at every limit of steps.
use Rattle.std.proofs.Common.{◌≡◌, ℕ, List, [], ◌∷◌, ap, sym, subst, ◌∙◌, length}
use Rattle.std.specs.Prelude.{Some, slice_get}
use Rattle.std.proofs.lemmas.Option.{same_Some}
use Rattle.merc_tree.specs.declared.declarations.PredDecl.{PredDecl}
use Rattle.merc_graded_tree.specs.declared.basic.Procedure.{Procedure}
use Rattle.merc_graded_tree.specs.Nodes.{Node}
use Rattle.merc_meaning.specs.Programs.{program_with}
use Rattle.merc_course.specs.Course.{RunCourse}
use Rattle.merc_course.specs.Courses.{course}
use Rattle.merc_course.specs.Shown.{shown}
use Rattle.merc_par_split.specs.Split.{split, all_split}
use Rattle.merc_par_split.specs.Sites.{all_sites}
use Rattle.merc_code.specs.Steps.{Code}
use Rattle.merc_code.specs.ProgramCode.{ProgramCode, codes_in}
use Rattle.merc_code.specs.Meaning.{start}
use Rattle.merc_gen.specs.Generated.{codes_of, query_code}
use Rattle.merc_gen.specs.Sited.{IsSited, IsSitedProgram}
use Rattle.merc_gen.specs.Sites.{conjuncts_at, forked_with}
use Rattle.merc_gen.proofs.Numbered.{goal-behind-sited, program-sited}
use Rattle.merc_gen.proofs.Theorem.{same-code-follows}
use Rattle.merc_last_calls.specs.LeanMeaning.{YieldsLean}
use Rattle.merc_last_calls.proofs.Runs.{starts, with_last_calls}

-- The trees stand at their sites.
abbrev AreSited : List PredDecl → List Node → Node → Type 0
AreSited predicates trees goal = IsSitedProgram (conjuncts_at (forked_with trees goal)) (program_with predicates trees) × IsSited (conjuncts_at (forked_with trees goal)) goal

sited : (predicates : List PredDecl) (trees procedures : List Node) (goal tree : Node) → procedures ≡ all_split 0 trees → tree ≡ split (length (all_sites trees)) goal → AreSited predicates procedures tree
sited predicates trees procedures goal tree are is =
    subst (λ (some : List Node). AreSited predicates some tree) (sym are)
    (subst (λ (some : Node). AreSited predicates (all_split 0 trees) some) (sym is) (program-sited predicates trees goal, goal-behind-sited trees goal))

-- The goal's tree is alone in its list.
pub has-course : (predicates : List PredDecl) (trees procedures : List Node) (goal tree : Node) (goals : List Node) (answers : List ℕ) (code : ProgramCode)
    → procedures ≡ all_split 0 trees → Some tree ≡ slice_get goals 0 → goals ≡ split (length (all_sites trees)) goal ∷ []
    → ((procedure : Procedure) → (codes_in code).procedures procedure ≡ (codes_of (program_with predicates procedures) (conjuncts_at (forked_with procedures tree))).procedures procedure)
    → ((site : ℕ) → (codes_in code).conjuncts site ≡ (codes_of (program_with predicates procedures) (conjuncts_at (forked_with procedures tree))).conjuncts site)
    → code.query ≡ query_code (program_with predicates procedures) tree answers
    → (limit : ℕ) → (whole : RunCourse) × YieldsLean (codes_in code) (start code.query limit) whole
has-course predicates trees procedures goal tree goals answers code are first alone same_procedures same_conjuncts same_query limit =
    let program = program_with predicates procedures in
    let asked = query_code program tree answers in
    let whole = shown answers (course program tree limit) in
    let is : tree ≡ split (length (all_sites trees)) goal = same_Some _ _ (first ∙ ap (λ (some : List Node). slice_get some 0) alone) in
    let there = sited predicates trees procedures goal tree are is in
    let follows = same-code-follows program (conjuncts_at (forked_with procedures tree)) there.0 tree there.1 answers (codes_in code) same_procedures same_conjuncts in
    let yields = with_last_calls (codes_in code) (start asked limit) (start asked limit) whole (starts asked limit) (follows.each_limit limit) in
    (whole, subst (λ (some : Code). YieldsLean (codes_in code) (start some limit) whole) (sym same_query) yields)
