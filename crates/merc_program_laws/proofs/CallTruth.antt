-- The truth law of calls.
use Rattle.std.proofs.Common.{◌≡◌, ◌⊎◌, inl, inr, ℕ, zero, suc, true, false, is_some, List, [], ◌∷◌, length, Option, Some, None, slice_get, refl, ap, sym, ◌∙◌, subst, arith}
use Rattle.merc_base.specs.Category.{most_of}
use Rattle.merc_base.specs.declared.category.Most.TheVariants.{One}
use Rattle.merc_tree.specs.declared.declarations.Arg.{Arg}
use Rattle.merc_tree.specs.declared.declarations.Arg.TheVariants.{Input, Output}
use Rattle.merc_tree.specs.declared.declarations.ModeDecl.{ModeDecl}
use Rattle.merc_tree.specs.declared.declarations.PredDecl.{PredDecl}
use Rattle.merc_tree.specs.declared.declarations.Module.{Module}
use Rattle.merc_graded_tree.specs.declared.basic.Procedure.{Procedure}
use Rattle.merc_type_check.specs.Typing.{IsCalled}
use Rattle.merc_order.specs.Bound.{Bound, among}
use Rattle.merc_order.specs.CallModes.{inputs_of}
use Rattle.merc_order.specs.Procedures.{bound_at, modes_in, modes_of}
use Rattle.merc_order_laws.specs.Bindings.{Variables, AreBound, AreFree}
use Rattle.merc_order_laws.specs.GoodTree.{written_by, GoodProcedure}
use Rattle.merc_order_laws.proofs.Facts.{clash, either_way}
use Rattle.merc_grading.specs.Known.{Known}
use Rattle.merc_grading.specs.Grading.{declared_in}
use Rattle.merc_value.specs.Value.{Value}
use Rattle.merc_meaning.specs.Trace.{Env, Trace, taken_back}
use Rattle.merc_meaning.specs.Steps.{value_at, with_entry, entered, brought_back}
use Rattle.merc_meaning.specs.Runs.{Program, ProcedureBody, called}
use Rattle.merc_meaning.specs.Truth.{Assignment, IsAssignment, Judgement}
use Rattle.merc_meaning.proofs.Environments.{entry_same}
use Rattle.merc_program_laws.specs.Answers.{Each, Has, IsDone, Single}
use Rattle.merc_program_laws.specs.CategoryLaws.{Enters, Leaves, IsProcedure}
use Rattle.merc_program_laws.proofs.Traces.{each_taken, has_each, has_taken, done_taken}
use Rattle.merc_program_laws.proofs.Values.{Instance, composed, none_not, same_some, some_of, among_here, among_there, among_cases}
use Rattle.merc_program_laws.proofs.Steps.{free_not}
use Rattle.merc_program_laws.proofs.Lawful.{Fits}
use Rattle.merc_program_laws.proofs.Calls.{LawfulCalls, brought_other, entered_bound, entered_typed}
use Rattle.merc_program_laws.specs.Instances.{ArgumentsAgree}
use Rattle.merc_program_laws.proofs.Truthful.{IsInstance, Truthful, each_both, single_taken}

-- Entering a body and coming back.

-- behind a call the outputs have the values of the body's variables
abbrev OutsAt : List Arg → List ℕ → (ℕ → Option Value) → Env → Type 0
OutsAt [] args g env = Unit {0}
OutsAt (k ∷ places) [] g env = Unit {0}
OutsAt (Input ∷ places) (a ∷ args) g env = OutsAt places args (λ x. g (suc x)) env
OutsAt (Output ∷ places) (a ∷ args) g env = (value_at env a ≡ g zero) × OutsAt places args (λ x. g (suc x)) env

outs_at : (b : Bound) (places : List Arg) (args : List ℕ) (g : ℕ → Option Value) (env : Env) → AreFree b (written_by places args)
    → OutsAt places args g (brought_back places args g env)
outs_at b [] args g env h = tt
outs_at b (p ∷ places) [] g env h = tt
outs_at b (Input ∷ places) (a ∷ args) g env h = outs_at b places args (λ x. g (suc x)) env h
outs_at b (Output ∷ places) (a ∷ args) g env h = (
  brought_other places args (λ x. g (suc x)) (with_entry env a (g zero)) a h.1 ∙ entry_same env a (g zero),
  outs_at b places args (λ x. g (suc x)) (with_entry env a (g zero)) h.2,
)

-- an assignment that matches the caller's environment behind the call matches the body's
behind_agrees : (places : List Arg) (args : List ℕ) (env env' : Env) (g : ℕ → Option Value) (s : Assignment) → length places ≡ length args → ((v : ℕ) → is_some (value_at (entered places args env) v) ≡ bound_at places v)
    → ((v : ℕ) (w : Value) → value_at (entered places args env) v ≡ Some w → g v ≡ Some w) → OutsAt places args g env' → ((x : ℕ) → among (inputs_of places args) x ≡ true → value_at env' x ≡ value_at env x)
    → ((x : ℕ) → among args x ≡ true → (v : Value) → value_at env' x ≡ Some v → s x ≡ v) → ArgumentsAgree args s g
behind_agrees [] [] env env' g s l b k o m h = tt
behind_agrees [] (a ∷ args) env env' g s l b k o m h = absurd cc
behind_agrees (p ∷ places) [] env env' g s l b k o m h = absurd cc
behind_agrees (Input ∷ places) (a ∷ args) env env' g s l b k o m h = (
  (λ v e.
      let r = some_of (value_at env a) (b zero) in
      h a (among_here a args) r.0 (m a (among_here a (inputs_of places args)) ∙ r.1) ∙ same_some (sym (k zero r.0 r.1) ∙ e)),
  behind_agrees places args env env' (λ x. g (suc x)) s (omega (arith, l)) (λ v. b (suc v)) (λ v w e. k (suc v) w e) o (λ x p. m x (among_there x a (inputs_of places args) p)) (λ x p v e. h x (among_there x a args p) v e),
)
behind_agrees (Output ∷ places) (a ∷ args) env env' g s l b k o m h = (
  (λ v e. h a (among_here a args) v (o.0 ∙ e)),
  behind_agrees places args env env' (λ x. g (suc x)) s (omega (arith, l)) (λ v. b (suc v)) (λ v w e. k (suc v) w e) o.1 m (λ x p v e. h x (among_there x a args p) v e),
)

-- before the call
before_agrees : (places : List Arg) (args : List ℕ) (env : Env) (s : Assignment) → length places ≡ length args → ((x : ℕ) → among args x ≡ true → (v : Value) → value_at env x ≡ Some v → s x ≡ v)
    → ArgumentsAgree args s (value_at (entered places args env))
before_agrees [] [] env s l h = tt
before_agrees [] (a ∷ args) env s l h = absurd cc
before_agrees (p ∷ places) [] env s l h = absurd cc
before_agrees (Input ∷ places) (a ∷ args) env s l h = ((λ v e. h a (among_here a args) v e), before_agrees places args env s (omega (arith, l)) (λ x p v e. h x (among_there x a args p) v e))
before_agrees (Output ∷ places) (a ∷ args) env s l h = ((λ v e. absurd (none_not e)), before_agrees places args env s (omega (arith, l)) (λ x p v e. h x (among_there x a args p) v e))

-- an instance of the body's answer is one of the call's
back_agrees : (places : List Arg) (args : List ℕ) (g : ℕ → Option Value) (env : Env) (s : Assignment) → OutsAt places args g env → ArgumentsAgree args s g → (x : ℕ) → among (written_by places args) x ≡ true → (v : Value) → value_at env x ≡ Some v → s x ≡ v
back_agrees [] args g env s o h x m v e = clash m refl
back_agrees (p ∷ places) [] g env s o h x m v e = clash m refl
back_agrees (Input ∷ places) (a ∷ args) g env s o h x m v e = back_agrees places args (λ y. g (suc y)) env s o h.1 x m v e
back_agrees (Output ∷ places) (a ∷ args) g env s o h x m v e = elim (among_cases x a (written_by places args) m) as (λ _. s x ≡ v) [
  | inl p ↦ ap s p ∙ h.0 v (sym o.0 ∙ ap (value_at env) (sym p) ∙ e)
  | inr p ↦ back_agrees places args (λ y. g (suc y)) env s o.1 h.1 x p v e
]

bound_among : (b : Bound) (xs : List ℕ) → AreBound b xs → (x : ℕ) → among xs x ≡ true → b x ≡ true
bound_among b [] h x m = clash m refl
bound_among b (y ∷ ys) h x m = elim (among_cases x y ys m) as (λ _. b x ≡ true) [ inl p ↦ ap b p ∙ h.0 | inr p ↦ bound_among b ys h.1 x p ]

-- a call of a mode says the truth from each environment with which it can begin
pub record TruthfulCall (known : Module) (is_yes is_no : Judgement) (call : Procedure → Env → Trace) (p : Procedure) (declared : PredDecl) (mode : ModeDecl) : Type 0 where
  pub single : most_of mode.category ≡ One → (i : Instance) (env : Env) → Enters known.types i mode.args declared.args env → Single (call p env)
  pub answers_yes : (i : Instance) (env : Env) → Enters known.types i mode.args declared.args env → (args : List ℕ) → length mode.args ≡ length args
      → Each (λ env'. (s : Assignment) → IsAssignment s → ArgumentsAgree args s (value_at env') → is_yes p args s) (call p env)
  pub others_no : (i : Instance) (env : Env) → Enters known.types i mode.args declared.args env → (args : List ℕ) → length mode.args ≡ length args
      → IsDone (call p env) → (s : Assignment) → IsAssignment s → ArgumentsAgree args s (value_at env) → is_no p args s ⊎ Has (λ env'. ArgumentsAgree args s (value_at env')) (call p env)

abbrev pub TruthfulCalls : Module → Judgement → Judgement → (Procedure → Env → Trace) → Type 0
TruthfulCalls known is_yes is_no call = (p : Procedure) (declared : PredDecl) (mode : ModeDecl) → IsProcedure known p declared mode → TruthfulCall known is_yes is_no call p declared mode

-- Given is a program whose calls are lawful and truthful.
module _ (known : Module) (program : Program) (is_yes is_no : Judgement) (call : Procedure → Env → Trace) (calls : LawfulCalls known program call) (truth : TruthfulCalls known is_yes is_no call) (types i : Instance) where
  abbrev CallTruth : Variables → Procedure → List ℕ → Env → Trace → Type 0
  CallTruth out p args env t = Truthful out (among args) (is_yes p args) (is_no p args) env t

  -- the body is entered as it has to be
  enters : (out : Variables) (b : Bound) (seen : Known) (outs args : List ℕ) (env : Env) (declared : PredDecl) (mode : ModeDecl) (typed : IsCalled known types (Some declared) args) → GoodProcedure out b outs (Some mode) args
      → Fits known types i out b (among args) seen env → Enters known.types (composed i typed.0) mode.args declared.args (entered mode.args args env)
  enters out b seen outs args env declared mode typed good fits = record {
    bindings = entered_bound b mode.args args env good.0 good.1 (λ y m. fits.bounds y m);
    typed = entered_typed known types i typed.0 mode.args args declared.args env typed.1 fits.typed;
  }

  mode_truth : (out : Variables) (b : Bound) (seen : Known) (outs : List ℕ) (p : Procedure) (args : List ℕ) (env : Env) (declared : PredDecl) (mode : ModeDecl) → IsProcedure known p declared mode
      → IsCalled known types (Some declared) args → GoodProcedure out b outs (Some mode) args → Fits known types i out b (among args) seen env
      → CallTruth out p args env (taken_back (λ inner. brought_back mode.args args (value_at inner) env) (call p (entered mode.args args env)))
  mode_truth out b seen outs p args env declared mode is typed good fits =
      let inner : Env = entered mode.args args env in
      let j : Instance = composed i typed.0 in
      let fit : Enters known.types j mode.args declared.args inner = enters out b seen outs args env declared mode typed good fits in
      let law = (calls p declared mode is).law j inner fit in
      let true_of = truth p declared mode is in
      let back : Env → Env = λ answer. brought_back mode.args args (value_at answer) env in
      let outs_are : (answer : Env) → OutsAt mode.args args (value_at answer) (back answer)
      = λ answer. outs_at b mode.args args (value_at answer) env good.2 in
      let stays : (answer : Env) (x : ℕ) → among (inputs_of mode.args args) x ≡ true → value_at (back answer) x ≡ value_at env x
      = λ answer x m. brought_other mode.args args (value_at answer) env x (elim (either_way (among (written_by mode.args args) x)) as (λ _. among (written_by mode.args args) x ≡ false) [
        | inl w ↦ clash (bound_among b (inputs_of mode.args args) good.1 x m) (free_not b (written_by mode.args args) good.2 x w)
        | inr w ↦ w
      ]) in
      record {
        answers_yes = each_taken (λ answer. Leaves known.types j declared.args inner answer × ((s : Assignment) → IsAssignment s → ArgumentsAgree args s (value_at answer) → is_yes p args s)) _ back (call p inner)
            (λ answer h s vals k. h.1 s vals (behind_agrees mode.args args env (back answer) (value_at answer) s good.0 fit.bindings h.0.keeps (outs_are answer) (stays answer) k))
            (each_both _ _ (call p inner) law.goes (true_of.answers_yes j inner fit args good.0));
        others_no = λ d s vals h. elim (true_of.others_no j inner fit args good.0 (done_taken back (call p inner) d) s vals (before_agrees mode.args args env s good.0 h))
            as (λ _. is_no p args s ⊎ Has (λ env'. IsInstance out (among args) s env') (taken_back back (call p inner))) [
              | inl n ↦ inl n
              | inr k ↦ inr (has_taken (λ answer. Leaves known.types j declared.args inner answer × ArgumentsAgree args s (value_at answer)) _ back (call p inner)
                  (λ answer w x o m v z. elim (either_way (among (written_by mode.args args) x)) as (λ _. s x ≡ v) [
                    | inl r ↦ back_agrees mode.args args (value_at answer) (back answer) s (outs_are answer) w.1 x r v z
                    | inr r ↦ h x o v (sym (brought_other mode.args args (value_at answer) env x r) ∙ z)
                  ])
                  (has_each _ _ (call p inner) law.goes k))
            ];
      }

  -- what is said of the trace of a called body holds of the call's
  of_called : (Holds : Trace → Type 0) (p : Procedure) (args : List ℕ) (env : Env) (declared : PredDecl) (mode : ModeDecl) → IsProcedure known p declared mode
      → Holds (taken_back (λ inner. brought_back mode.args args (value_at inner) env) (call p (entered mode.args args env))) → Holds (called (call p) (program p) args env)
  of_called Holds p args env declared mode is h =
      let lawful = calls p declared mode is in
      subst (λ (o : Option ProcedureBody). Holds (called (call p) o args env)) (sym lawful.there)
      (subst (λ (places : List Arg). Holds (taken_back (λ inner. brought_back places args (value_at inner) env) (call p (entered places args env)))) (sym lawful.places) h)

  -- what is called is there, in that mode
  module _ (out : Variables) (b : Bound) (seen : Known) (outs : List ℕ) (p : Procedure) (args : List ℕ) (env : Env) where
    abbrev CalledTruth : Type 0
    CalledTruth = CallTruth out p args env (called (call p) (program p) args env)

    mode_case : (declared : PredDecl) (m : Option ModeDecl) → slice_get known.preds p.predicate ≡ Some declared → slice_get declared.modes p.mode ≡ m → IsCalled known types (Some declared) args → GoodProcedure out b outs m args
        → Fits known types i out b (among args) seen env → CalledTruth
    mode_case declared None e k typed good fits = absurd good
    mode_case declared (Some mode) e k typed good fits =
        let is : IsProcedure known p declared mode = record { predicate = e; mode_there = k } in
        of_called (λ t. CallTruth out p args env t) p args env declared mode is (mode_truth out b seen outs p args env declared mode is typed good fits)

    predicate_case : (o : Option PredDecl) → slice_get known.preds p.predicate ≡ o → IsCalled known types o args → GoodProcedure out b outs (slice_get (modes_in o) p.mode) args → Fits known types i out b (among args) seen env → CalledTruth
    predicate_case None e typed good fits = absurd typed
    predicate_case (Some declared) e typed good fits = mode_case declared (slice_get declared.modes p.mode) e refl typed good fits

    pub call_truth : IsCalled known types (slice_get known.preds p.predicate) args → GoodProcedure out b outs (slice_get (modes_of known.preds p.predicate) p.mode) args → Fits known types i out b (among args) seen env → CalledTruth
    call_truth typed good fits = predicate_case (slice_get known.preds p.predicate) refl typed good fits

    -- one answer at most, where the mode's category says so
    single_mode : (declared : PredDecl) (m : Option ModeDecl) → slice_get known.preds p.predicate ≡ Some declared → slice_get declared.modes p.mode ≡ m → IsCalled known types (Some declared) args → GoodProcedure out b outs m args
        → Fits known types i out b (among args) seen env → most_of (declared_in m) ≡ One → Single (called (call p) (program p) args env)
    single_mode declared None e k typed good fits one = absurd good
    single_mode declared (Some mode) e k typed good fits one =
        let is : IsProcedure known p declared mode = record { predicate = e; mode_there = k } in
        of_called Single p args env declared mode is (single_taken (λ inner. brought_back mode.args args (value_at inner) env) (call p (entered mode.args args env))
        ((truth p declared mode is).single one (composed i typed.0) (entered mode.args args env) (enters out b seen outs args env declared mode typed good fits)))

    single_predicate : (o : Option PredDecl) → slice_get known.preds p.predicate ≡ o → IsCalled known types o args → GoodProcedure out b outs (slice_get (modes_in o) p.mode) args → Fits known types i out b (among args) seen env
        → most_of (declared_in (slice_get (modes_in o) p.mode)) ≡ One → Single (called (call p) (program p) args env)
    single_predicate None e typed good fits one = absurd typed
    single_predicate (Some declared) e typed good fits one = single_mode declared (slice_get declared.modes p.mode) e refl typed good fits one

    pub single_called : IsCalled known types (slice_get known.preds p.predicate) args → GoodProcedure out b outs (slice_get (modes_of known.preds p.predicate) p.mode) args → Fits known types i out b (among args) seen env
        → most_of (declared_in (slice_get (modes_of known.preds p.predicate) p.mode)) ≡ One → Single (called (call p) (program p) args env)
    single_called typed good fits one = single_predicate (slice_get known.preds p.predicate) refl typed good fits one
