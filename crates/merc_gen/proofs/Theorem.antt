-- The code of a goal yields the goal's course.
use Rattle.std.proofs.Common.{◌≡◌, ℕ, zero, suc, List, [], ◌∷◌, ◌++◌, map, refl, ap, ◌∙◌, sym, subst}
use Rattle.merc_graded_tree.specs.declared.basic.Procedure.{Procedure}
use Rattle.merc_graded_tree.specs.Nodes.{Node}
use Rattle.merc_meaning.specs.Trace.{Done, Raised, TooDeep, RunDone}
use Rattle.merc_meaning.specs.Steps.{value_at}
use Rattle.merc_meaning.specs.Runs.{Program}
use Rattle.merc_course.specs.Course.{GoalCourse as Trace, Ends, Tick, Answer, cut, Meets, cut_all, left_after}
use Rattle.merc_course.specs.Courses.{node_course as node_trace, call_course as call_trace}
use Rattle.merc_course.specs.Shown.{shown}
use Rattle.merc_code.specs.declared.instruction.Instruction.TheVariants.{Answer as AnswerInstruction}
use Rattle.merc_code.specs.Steps.{Codes, ChoicePoint, State, At, Back}
use Rattle.merc_code.specs.Meaning.{Yields, stops, answers}
use Rattle.merc_gen.specs.Sites.{Sites}
use Rattle.merc_gen.specs.Sited.{IsSited, IsSitedProgram}
use Rattle.merc_gen.specs.Generated.{is_single, node_quiet, codes_of, query_code}
use Rattle.merc_gen.specs.Following.{Follows}
use Rattle.merc_gen.proofs.Runs.{bulk, behind, Runs, Keeps, LeavesNone}
use Rattle.merc_gen.proofs.GoalRuns.{node-runs}
use Rattle.merc_gen.proofs.CallRuns.{call-runs}
use Rattle.merc_gen.proofs.Depths.{Reaches, node-reaches, call-reaches, fewer-left}
use mathlib.Core.Path.{fun_ext}

-- A goal over no choice points, with its answers shown behind it: its whole run.
finish : (codes : Codes) (variables : List ℕ) (Ok : List ℕ → Type 0) (L : List ChoicePoint → Type 0) (t : Trace) (l j : ℕ) (st : List ChoicePoint → State)
    → Reaches (suc l) t → Runs codes (behind (AnswerInstruction variables ∷ []) []) Ok L t l 0 j st → Yields codes (st []) (bulk j (shown variables (cut l t)))
finish codes variables Ok L (Ends Done) l j st d r = (r [] refl).by (Ends RunDone) (stops _ _ refl)
finish codes variables Ok L (Ends (Raised v)) l j st d r = r [] refl
finish codes variables Ok L (Ends TooDeep) l j st d r = absurd d
finish codes variables Ok L (Tick t) zero j st d r = r [] refl
finish codes variables Ok L (Tick t) (suc l) j st d r = finish codes variables Ok L t l (suc j) st d r
finish codes variables Ok L (Answer env t) l j st d r =
    (r.4 [] refl).by (Answer (map (value_at env) variables) (shown variables (cut l t)))
    (answers _ _ _ _ refl (finish codes variables Ok L t l 0 (λ B. Back (r.0 ++ B) l) d (r.5 l)))
finish codes variables Ok L (Meets what ks f) l j st d r =
    (r.3 [] refl).by (cut_all l ks) (λ x. shown variables (cut (left_after l x) (f x))) (r.2 d.0)
    (λ x. finish codes variables Ok L (f x) (left_after l x) 0 (r.1 x) (fewer-left l x (f x) (d.1 x)) (r.4 x))

pub code-follows : (program : Program) (sites : Sites) → IsSitedProgram sites program → (goal : Node) → IsSited sites goal → (variables : List ℕ)
    → Follows program goal variables (codes_of program sites) (query_code program goal variables)
code-follows program sites h goal g variables = record {
  each_limit = λ limit.
      finish (codes_of program sites) variables (Keeps 0 []) (LeavesNone (node_quiet (λ p. is_single (program p)) goal)) (node_trace program (call_trace program (suc limit)) goal []) limit 0
      (λ B. At (query_code program goal variables) [] [] [] B limit)
      (node-reaches program (suc limit) (call_trace program (suc limit)) (λ p env. call-reaches program (suc limit) p env) goal [])
      (node-runs (codes_of program sites) (λ p. is_single (program p)) program (call_trace program (suc limit)) (call-runs program sites h (suc limit)) sites (λ site. refl)
      goal g 0 (AnswerInstruction variables ∷ []) [] [] [] limit 0);
}

-- code by which each procedure and each conjunct is the same
pub same-code-follows : (program : Program) (sites : Sites) → IsSitedProgram sites program → (goal : Node) → IsSited sites goal → (variables : List ℕ) (codes : Codes)
    → ((procedure : Procedure) → codes.procedures procedure ≡ (codes_of program sites).procedures procedure) → ((site : ℕ) → codes.conjuncts site ≡ (codes_of program sites).conjuncts site)
    → Follows program goal variables codes (query_code program goal variables)
same-code-follows program sites h goal g variables codes same both =
    let own : Codes = codes_of program sites in
    subst (λ (other : Codes). Follows program goal variables other (query_code program goal variables))
    (sym (ap (λ p. record { procedures = p; conjuncts = codes.conjuncts }) (fun_ext same) ∙ ap (λ c. record { procedures = own.procedures; conjuncts = c }) (fun_ext both)))
    (code-follows program sites h goal g variables)
