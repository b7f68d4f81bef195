-- What calls do is what they mean, at every depth.
use Rattle.std.proofs.Common.{◌≡◌, ℕ, zero, suc, Bool, true, false, List, [], ◌∷◌, Option, Some, None, refl, ap, arith, if◌then◌else◌}
use Rattle.std.specs.Option.{option_map}
use Rattle.merc_tree.specs.declared.declarations.Arg.{Arg}
use Rattle.merc_graded_tree.specs.declared.basic.Procedure.{Procedure}
use Rattle.merc_graded_tree.specs.Nodes.{Node, node}
use Rattle.merc_meaning.specs.Trace.{Env, Done, Raised, TooDeep}
use Rattle.merc_course.specs.Course.{GoalCourse as Trace, Ends, Tick, Answer, taken_back, Meets, left_after}
use Rattle.merc_meaning.specs.Steps.{value_at, entered, brought_back}
use Rattle.merc_meaning.specs.Runs.{Program, ProcedureBody, answers_once}
use Rattle.merc_course.specs.Courses.{called, node_course as node_trace, body_course as body_trace, call_course as call_trace}
use Rattle.merc_code.specs.declared.instruction.Instruction.TheVariants.{Call, Return}
use Rattle.merc_code.specs.Steps.{Code, Codes, Caller, caller, ChoicePoint, State, At, enters}
use Rattle.merc_code.specs.Meaning.{stops, moves, ticks}
use Rattle.merc_gen.specs.Sites.{Sites}
use Rattle.merc_gen.specs.Generated.{is_once, is_single, quiet, node_quiet, node_code, procedure_code, codes_of, conjunct_codes}
use Rattle.merc_gen.specs.Sited.{IsSitedBody, IsSitedProgram}
use Rattle.merc_gen.proofs.Runs.{behind, Runs, Keeps, LeavesNone, keeps-same, silent, late}
use Rattle.merc_gen.proofs.BasicRuns.{Calls}
use Rattle.merc_gen.proofs.GoalRuns.{node-runs}

-- the return: answers are taken back, and the marks are the caller's again
return-runs : (codes : Codes) (k0 k : Code) (env : Env) (marks : List ℕ) (places : List Arg) (arguments : List ℕ) (callers : List Caller) (Ok1 Ok : List ℕ → Type 0) (L1 L : List ChoicePoint → Type 0)
    → Ok marks → ((X : List ChoicePoint) → L1 X → L X)
    → (t : Trace) (l n j : ℕ) (st : List ChoicePoint → State) → Runs codes (behind (Return ∷ k0) (caller k env marks places arguments ∷ callers)) Ok1 L1 t l n j st
    → Runs codes (behind k callers) Ok L (taken_back (λ inner. brought_back places arguments (value_at inner) env) t) l n j st
return-runs codes k0 k env marks places arguments callers Ok1 Ok L1 L o w (Ends Done) l n j st r = r
return-runs codes k0 k env marks places arguments callers Ok1 Ok L1 L o w (Ends (Raised v)) l n j st r = r
return-runs codes k0 k env marks places arguments callers Ok1 Ok L1 L o w (Ends TooDeep) l n j st r = tt
return-runs codes k0 k env marks places arguments callers Ok1 Ok L1 L o w (Tick t) zero n j st r = r
return-runs codes k0 k env marks places arguments callers Ok1 Ok L1 L o w (Tick t) (suc l) n j st r = return-runs codes k0 k env marks places arguments callers Ok1 Ok L1 L o w t l n (suc j) st r
return-runs codes k0 k env marks places arguments callers Ok1 Ok L1 L o w (Answer inner t) l n j st r = (
  r.0,
  marks,
  w r.0 r.2,
  o,
  (λ B q. record { by = λ u y. (r.4 B q).by u (moves _ _ u refl y) }),
  λ l'. return-runs codes k0 k env marks places arguments callers Ok1 Ok L1 L o w t l' n 0 _ (r.5 l'),
)
return-runs codes k0 k env marks places arguments callers Ok1 Ok L1 L o w (Meets what ks f) l n j st r =
    (r.0, r.1, r.2, r.3, λ x. return-runs codes k0 k env marks places arguments callers Ok1 Ok L1 L o w (f x) (left_after l x) n 0 (r.1 x) (r.4 x))

-- a procedure whose body answers once leaves nothing: its body's own node says so
once-quiet : (single : Procedure → Bool) (body : Node) (X : List ChoicePoint) → LeavesNone (node_quiet single body) X → LeavesNone (is_once body) X
once-quiet single (node g outputs category span) X e = by (answers_once outputs category) e
  where
    by : (b : Bool) → LeavesNone (if b then true else quiet single g) X → LeavesNone b X
    by true e' = e'
    by false e' = tt

module _ (codes : Codes) (single : Procedure → Bool) (p : Procedure) (arguments : List ℕ) (m : ℕ) (k : Code) (env : Env) (marks : List ℕ) (callers : List Caller) (n : ℕ) where
  -- a call that is not followed: the procedure that is not there fails
  deep-runs : (o : Option ProcedureBody) (l : ℕ) → codes.procedures p ≡ option_map (procedure_code single) o
      → Runs codes (behind k callers) (Keeps m marks) (LeavesNone (is_single o)) (called (λ inner. Ends TooDeep) o arguments env) l n 0 (λ B. At (Call p arguments ∷ k) env marks callers B l)
  deep-runs None l e = λ B q. silent codes _ _ (ap (λ x. enters x k env marks arguments callers B l) e)
  deep-runs (Some procedure) l e = tt

  body-runs : (program : Program) (call : Procedure → Env → Trace) → Calls codes single program call → (sites : Sites) → ((site : ℕ) → codes.conjuncts site ≡ conjunct_codes single (sites site))
      → (o : Option ProcedureBody) → IsSitedBody sites o → (l : ℕ) → codes.procedures p ≡ option_map (procedure_code single) o
      → Runs codes (behind k callers) (Keeps m marks) (LeavesNone (is_single o)) (called (λ inner. Tick (body_trace program call o inner)) o arguments env) l n 0
      (λ B. At (Call p arguments ∷ k) env marks callers B l)
  body-runs program call calls sites sited None h l e = λ B q. silent codes _ _ (ap (λ x. enters x k env marks arguments callers B l) e)
  body-runs program call calls sites sited (Some procedure) h zero e = λ B q. stops _ _ (ap (λ x. enters x k env marks arguments callers B zero) e)
  body-runs program call calls sites sited (Some procedure) h (suc l) e =
      let inner = entered procedure.places arguments env in
      late codes (behind k callers) (Keeps m marks) (LeavesNone (is_once procedure.body))
      (taken_back (λ x. brought_back procedure.places arguments (value_at x) env) (node_trace program call procedure.body inner)) l n 0 1 1 _
      (λ B. At (node_code single procedure.body 0 (Return ∷ [])) inner [] (caller k env marks procedure.places arguments ∷ callers) B l) (omega arith)
      (λ B q. record { by = λ u y. ticks _ _ u (ap (λ x. enters x k env marks arguments callers B (suc l)) e) y })
      (return-runs codes [] k env marks procedure.places arguments callers (Keeps 0 []) (Keeps m marks) (LeavesNone (node_quiet single procedure.body)) (LeavesNone (is_once procedure.body))
      (keeps-same m marks) (once-quiet single procedure.body) (node_trace program call procedure.body inner) l n 0 _
      (node-runs codes single program call calls sites sited procedure.body h 0 (Return ∷ []) inner [] (caller k env marks procedure.places arguments ∷ callers) l n))

-- every call, by induction on the depth
pub call-runs : (program : Program) (sites : Sites) → IsSitedProgram sites program → (depth : ℕ) → Calls (codes_of program sites) (λ p. is_single (program p)) program (call_trace program depth)
call-runs program sites h zero p arguments m k env marks callers l n = deep-runs (codes_of program sites) (λ q. is_single (program q)) p arguments m k env marks callers n (program p) l refl
call-runs program sites h (suc depth) p arguments m k env marks callers l n =
    body-runs (codes_of program sites) (λ q. is_single (program q)) p arguments m k env marks callers n program (call_trace program depth) (call-runs program sites h depth) sites (λ site. refl) (program p) (h.bodies p) l refl
