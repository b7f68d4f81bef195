-- Calls beside other branches: where their inputs are here, they do what they do in the trace.
use Rattle.std.proofs.Common.{◌≡◌, ◌⊎◌, inl, inr, ℕ, zero, suc, ◌<◌, true, false, ◌==◌, is_some, List, [], ◌∷◌, length, Option, Some, None, slice_get, refl, ap, sym, ◌∙◌, subst, arith}
use Rattle.merc_base.specs.declared.category.Category.{Category}
use Rattle.merc_base.specs.declared.place.Span.{Span}
use Rattle.merc_tree.specs.Types.{TypeExpr}
use Rattle.merc_tree.specs.declared.declarations.Arg.{Arg}
use Rattle.merc_tree.specs.declared.declarations.Arg.TheVariants.{Input, Output}
use Rattle.merc_tree.specs.declared.declarations.ModeDecl.{ModeDecl}
use Rattle.merc_tree.specs.declared.declarations.PredDecl.{PredDecl}
use Rattle.merc_tree.specs.declared.declarations.Module.{Module}
use Rattle.merc_graded_tree.specs.declared.basic.BasicGoal.{BasicGoal}
use Rattle.merc_graded_tree.specs.declared.basic.BasicGoal.TheVariants.{True, Fail, Assign, Test, Build, Split, Arithmetic, Compare, Raise, Call, Wait, Signal}
use Rattle.merc_graded_tree.specs.declared.basic.Procedure.{Procedure}
use Rattle.merc_graded_tree.specs.Nodes.{node, Basic}
use Rattle.merc_type_check.specs.Typing.{HaveTypes as VariablesHave, IsCalled}
use Rattle.merc_order.specs.Bound.{Bound, among}
use Rattle.merc_order.specs.CallModes.{inputs_of}
use Rattle.merc_order.specs.Procedures.{modes_in}
use Rattle.merc_order_laws.specs.Bindings.{Variables, AreBound}
use Rattle.merc_order_laws.specs.GoodTree.{written_by, GoodProcedure}
use Rattle.merc_order_laws.proofs.Facts.{clash}
use Rattle.merc_value.specs.Value.{Value}
use Rattle.merc_meaning.specs.Trace.{Env, Trace, taken_back as t_taken}
use Rattle.merc_meaning.specs.Steps.{value_at, with_entry, entered, brought_back}
use Rattle.merc_meaning.specs.Runs.{Program, ProcedureBody, answers_once, called as t_called}
use Rattle.merc_meaning.proofs.Environments.{entry_same, entry_other}
use Rattle.merc_program_laws.specs.GoodPrograms.{AreGoodTypes}
use Rattle.merc_program_laws.specs.CategoryLaws.{Enters, IsProcedure}
use Rattle.merc_program_laws.proofs.Values.{Instance, composed, some_of, is_some_of, same_number, among_here, among_there, among_cases}
use Rattle.merc_program_laws.proofs.Steps.{EnvTyped, free_not}
use Rattle.merc_program_laws.proofs.Calls.{LawfulCall, LawfulCalls, brought_other, entered_bound, entered_typed}
use Rattle.merc_par_split.specs.Split.{nothing}
use Rattle.merc_plan.specs.Branch.{Hold, BranchCourse, taken_back as c_taken}
use Rattle.merc_plan.specs.Hold.{holding, with_env}
use Rattle.merc_plan.specs.Branches.{Plan, called as c_called}
use Rattle.merc_plan.proofs.Flat.{Flat, Like, taken, events}
use Rattle.merc_plan.proofs.Judging.{flat, Sure, Quiet}
use Rattle.merc_plan.proofs.Shown.{Shown}
use Rattle.merc_plan.proofs.Likes.{like_taken}
use Rattle.merc_plan.proofs.Flats.{flat_taken, sure_taken}
use Rattle.merc_plan.proofs.Events.{events_taken}
use Rattle.merc_plan.proofs.Holds.{quiet_taken, quiet_once}
use Rattle.merc_script_laws.proofs.Bonds.{Set, Here, Fit, Match, Ends, Ready}
use Rattle.merc_script_laws.proofs.HoldLaw.{hold_fits}
use Rattle.merc_script_laws.proofs.Leaf.{Leaf, moves_env, wrap}
use Rattle.merc_script_laws.proofs.BasicLeaves.{read, Under, among_not, not_valued, unset, leaf_plain}

-- the arguments of a body that has answered are here, and the same in the trace
abbrev pub HeadsAgree : ℕ → Hold → Env → Type 0
HeadsAgree arity hold full = (x : ℕ) → x < arity → (v : Value) × (Here hold x v × (value_at full x ≡ Some v))

-- Given are the module, the program of the graded trees with the traces of calls, and that of the split trees with the courses of calls.
module _ (known : Module) (program : Program) (calls : Procedure → Env → Trace) (split_program : Program) (course : Procedure → Hold → BranchCourse) where
  -- A call of a mode that begins with the inputs, of their types, and holds no rights: along its trace, and with no use of rights from before.
  pub record CallGoes (p : Procedure) (declared : PredDecl) (mode : ModeDecl) : Type 0 where
    pub procedure : ProcedureBody
    pub there : split_program p ≡ Some procedure
    pub places : procedure.places ≡ mode.args
    pub along : (i : Instance) (env : Env) (next : ℕ) → Enters known.types i mode.args declared.args env
        → Like (HeadsAgree (length declared.args)) (flat (course p (holding env next))) (events (calls p env)) × Sure (Shown program) (course p (holding env next))
    pub quiet : (i : Instance) (env : Env) (next : ℕ) → Enters known.types i mode.args declared.args env → Quiet next [] (course p (holding env next))

  abbrev pub CallsGo : Type 0
  CallsGo = (p : Procedure) (declared : PredDecl) (mode : ModeDecl) → IsProcedure known p declared mode → CallGoes p declared mode

-- What goes into a body, and what comes back.

entered_same : (b : Bound) (places : List Arg) (args : List ℕ) (env full : Env) → AreBound b (inputs_of places args) → ((y : ℕ) → among args y ≡ true → b y ≡ true → value_at env y ≡ value_at full y)
    → entered places args env ≡ entered places args full
entered_same b [] args env full h k = refl
entered_same b (p ∷ places) [] env full h k = refl
entered_same b (Input ∷ places) (a ∷ args) env full h k =
    ap (λ (o : Option Value). o ∷ entered places args env) (k a (among_here a args) h.0)
    ∙ ap (λ (e : Env). value_at full a ∷ e) (entered_same b places args env full h.1 (λ y m p. k y (among_there y a args m) p))
entered_same b (Output ∷ places) (a ∷ args) env full h k = ap (λ (e : Env). None ∷ e) (entered_same b places args env full h (λ y m p. k y (among_there y a args m) p))

entry_under : (e q : Env) (a : ℕ) (o p : Option Value) → o ≡ p → Under e q → Under (with_entry e a o) (with_entry q a p)
entry_under e q a o p s h y w k = elim (same_number y a) as (λ _. value_at (with_entry q a p) y ≡ Some w) [
  | inl n ↦ ap (value_at (with_entry q a p)) n.1 ∙ entry_same q a p ∙ sym s ∙ sym (entry_same e a o) ∙ sym (ap (value_at (with_entry e a o)) n.1) ∙ k
  | inr n ↦ entry_other q a y p n.1 ∙ h y w (sym (entry_other e a y o n.1) ∙ k)
]

brought_under : (places : List Arg) (args : List ℕ) (g g' : ℕ → Option Value) (e q : Env) → ((v : ℕ) → v < length places → g v ≡ g' v) → Under e q → Under (brought_back places args g e) (brought_back places args g' q)
brought_under [] args g g' e q k h = h
brought_under (p ∷ places) [] g g' e q k h = h
brought_under (Input ∷ places) (a ∷ args) g g' e q k h = brought_under places args (λ v. g (suc v)) (λ v. g' (suc v)) e q (λ v l. k (suc v) (omega (arith, l))) h
brought_under (Output ∷ places) (a ∷ args) g g' e q k h =
    brought_under places args (λ v. g (suc v)) (λ v. g' (suc v)) (with_entry e a (g zero)) (with_entry q a (g' zero)) (λ v l. k (suc v) (omega (arith, l))) (entry_under e q a (g zero) (g' zero) (k zero (omega (arith))) h)

entry_there : (env : Env) (a : ℕ) (rest : List ℕ) (o : Option Value) (x : ℕ) → is_some o ≡ true → (among (a ∷ rest) x ≡ true) ⊎ (is_some (value_at env x) ≡ true)
    → ((x == a ≡ true) × (x ≡ a)) ⊎ ((x == a ≡ false) × (x ≡ a → ⊥)) → (among rest x ≡ true) ⊎ (is_some (value_at (with_entry env a o) x) ≡ true)
entry_there env a rest o x e h (inl p) = inr (ap (λ (z : ℕ). is_some (value_at (with_entry env a o) z)) p.1 ∙ ap is_some (entry_same env a o) ∙ e)
entry_there env a rest o x e (inl h) (inr p) = elim (among_cases x a rest h) as (λ _. (among rest x ≡ true) ⊎ (is_some (value_at (with_entry env a o) x) ≡ true)) [
  | inl q ↦ absurd (p.1 q)
  | inr q ↦ inl q
]
entry_there env a rest o x e (inr h) (inr p) = inr (ap is_some (entry_other env a x o p.1) ∙ h)

-- what is written has a value
brought_there : (places : List Arg) (args : List ℕ) (g : ℕ → Option Value) (env : Env) → ((v : ℕ) → v < length places → is_some (g v) ≡ true) → (x : ℕ)
    → (among (written_by places args) x ≡ true) ⊎ (is_some (value_at env x) ≡ true) → is_some (value_at (brought_back places args g env) x) ≡ true
brought_there [] args g env k x (inl h) = clash h refl
brought_there [] args g env k x (inr h) = h
brought_there (p ∷ places) [] g env k x (inl h) = clash h refl
brought_there (p ∷ places) [] g env k x (inr h) = h
brought_there (Input ∷ places) (a ∷ args) g env k x h = brought_there places args (λ y. g (suc y)) env (λ v l. k (suc v) (omega (arith, l))) x h
brought_there (Output ∷ places) (a ∷ args) g env k x h =
    brought_there places args (λ y. g (suc y)) (with_entry env a (g zero)) (λ v l. k (suc v) (omega (arith, l))) x
    (entry_there env a (written_by places args) (g zero) x (k zero (omega (arith))) h (same_number x a))

written_in : (places : List Arg) (args : List ℕ) (x : ℕ) → among (written_by places args) x ≡ true → among args x ≡ true
written_in [] args x h = clash h refl
written_in (k ∷ places) [] x h = clash h refl
written_in (Input ∷ places) (a ∷ args) x h = among_there x a args (written_in places args x h)
written_in (Output ∷ places) (a ∷ args) x h = elim (among_cases x a (written_by places args) h) as (λ _. among (a ∷ args) x ≡ true) [
  | inl p ↦ ap (among (a ∷ args)) p ∙ among_here a args
  | inr p ↦ among_there x a args (written_in places args x p)
]

-- an argument that is not bound is written
is_written : (b : Bound) (places : List Arg) (args : List ℕ) → length places ≡ length args → AreBound b (inputs_of places args) → (x : ℕ) → among args x ≡ true → b x ≡ false → among (written_by places args) x ≡ true
is_written b places [] l h x m n = clash m refl
is_written b [] (a ∷ args) l h x m n = absurd cc
is_written b (Input ∷ places) (a ∷ args) l h x m n = elim (among_cases x a args m) as (λ _. among (written_by (Input ∷ places) (a ∷ args)) x ≡ true) [
  | inl p ↦ clash h.0 (ap b (sym p) ∙ n)
  | inr p ↦ is_written b places args (omega (arith, l)) h.1 x p n
]
is_written b (Output ∷ places) (a ∷ args) l h x m n = elim (among_cases x a args m) as (λ _. among (written_by (Output ∷ places) (a ∷ args)) x ≡ true) [
  | inl p ↦ ap (among (a ∷ written_by places args)) p ∙ among_here a (written_by places args)
  | inr p ↦ among_there x a (written_by places args) (is_written b places args (omega (arith, l)) h x p n)
]

many_types : (known : Module) (types j : Instance) (args : List ℕ) (ts : List TypeExpr) → VariablesHave known types j args ts → length args ≡ length ts
many_types known types j [] [] h = refl
many_types known types j [] (t ∷ ts) h = absurd h
many_types known types j (a ∷ args) [] h = absurd h
many_types known types j (a ∷ args) (t ∷ ts) h = ap suc (many_types known types j args ts h.1)

-- Given are the module, the types of the variables, and what type variables stand for.
module _ (known : Module) (types i : Instance) where
  -- the predicate and the mode that a call has
  record Found (out : Variables) (b : Bound) (outs : List ℕ) (p : Procedure) (args : List ℕ) : Type 0 where
    pub declared : PredDecl
    pub mode : ModeDecl
    pub is : IsProcedure known p declared mode
    pub typed : IsCalled known types (Some declared) args
    pub good : GoodProcedure out b outs (Some mode) args

  found_mode : (out : Variables) (b : Bound) (outs : List ℕ) (p : Procedure) (args : List ℕ) (declared : PredDecl) (m : Option ModeDecl) → slice_get known.preds p.predicate ≡ Some declared → slice_get declared.modes p.mode ≡ m
      → IsCalled known types (Some declared) args → GoodProcedure out b outs m args → Found out b outs p args
  found_mode out b outs p args declared None e k typed good = absurd good
  found_mode out b outs p args declared (Some mode) e k typed good = record { declared = declared; mode = mode; is = record { predicate = e; mode_there = k }; typed = typed; good = good }

  found_in : (out : Variables) (b : Bound) (outs : List ℕ) (p : Procedure) (args : List ℕ) (o : Option PredDecl) → slice_get known.preds p.predicate ≡ o → IsCalled known types o args
      → GoodProcedure out b outs (slice_get (modes_in o) p.mode) args → Found out b outs p args
  found_in out b outs p args None e typed good = absurd typed
  found_in out b outs p args (Some declared) e typed good = found_mode out b outs p args declared (slice_get declared.modes p.mode) e refl typed good

  module _ (out : Variables) (b : Bound) (outs : List ℕ) (p : Procedure) (args : List ℕ) (found : Found out b outs p args) where
    abbrev own : Instance
    own = composed i found.typed.0

    abbrev places : List Arg
    places = found.mode.args

    enters : (env : Env) → ((y : ℕ) → among args y ≡ true → is_some (value_at env y) ≡ b y) → EnvTyped known types i env → Enters known.types own places found.declared.args (entered places args env)
    enters env k t = record {
      bindings = entered_bound b places args env found.good.0 found.good.1 k;
      typed = entered_typed known types i found.typed.0 places args found.declared.args env found.typed.1 t;
    }

    below : (v : ℕ) → v < length places → v < length found.declared.args
    below v l = let e = found.good.0 ∙ many_types known types found.typed.0 args found.declared.args found.typed.1 in omega (arith, l, e)

    brings : (here : Set) (hold : Hold) (full : Env) → Fit b here [] hold → Match [] hold full → ((x : ℕ) → among outs x ≡ true → among args x ≡ true) → ((x : ℕ) → among outs x ≡ true → b x ≡ false)
        → ((y : ℕ) → among args y ≡ true → is_some (value_at full y) ≡ b y) → (e : Hold) (q : Env) → HeadsAgree (length found.declared.args) e q
        → Ends full here [] [] nothing outs hold (with_env hold (brought_back places args (value_at e.env) hold.env)) (brought_back places args (value_at q) full)
    brings here hold full f t within free k e q heads = (
      moves_env b here nothing outs hold (brought_back places args (value_at e.env) hold.env) f
          (λ x h. brought_other places args (value_at e.env) hold.env x (kept x h))
          (λ x h. some_of (value_at (brought_back places args (value_at e.env) hold.env) x)
          (brought_there places args (value_at e.env) hold.env (λ v l. let w = heads v (below v l) in is_some_of (value_at e.env v) w.0 w.1.0) x
          (inl (is_written b places args found.good.0 found.good.1 x (within x h) (free x h))))),
      (
        brought_under places args (value_at e.env) (value_at q) hold.env full (λ v l. let w = heads v (below v l) in w.1.0 ∙ sym w.1.1) t.same,
        λ x v h. brought_other places args (value_at q) full x (not_valued full (written_by places args) not_set x v h) ∙ h,
      ),
    ) where
      kept : (x : ℕ) → b x ≡ true → among (written_by places args) x ≡ false
      kept x h = among_not b (written_by places args) x (free_not b (written_by places args) found.good.2) h

      not_set : (x : ℕ) → among (written_by places args) x ≡ true → value_at full x ≡ None
      not_set x m = unset b (among args) full k x (written_in places args x m) (free_not b (written_by places args) found.good.2 x m)

-- Given is a program whose calls are lawful and go along.
module _ (known : Module) (types i : Instance) (program : Program) (calls : Procedure → Env → Trace) (lawful : LawfulCalls known program calls) (split_program : Program) (course : Procedure → Hold → BranchCourse)
    (go : CallsGo known program calls split_program course) where
  module _ (out : Variables) (b : Bound) (outs : List ℕ) (p : Procedure) (args : List ℕ) (found : Found known types i out b outs p args) (here : Set) (hold : Hold) where
    abbrev goes : CallGoes known program calls split_program course p found.declared found.mode
    goes = go p found.declared found.mode found.is

    abbrev law : LawfulCall known program calls p found.declared found.mode
    law = lawful p found.declared found.mode found.is

    abbrev back : List Arg → Hold → Hold
    back places inner = with_env hold (brought_back places args (value_at inner.env) hold.env)

    abbrev inner_course : Env → BranchCourse
    inner_course env = course p (holding env hold.next)

    call_alike : (full : Env) → Fit b here [] hold → Match [] hold full → Ready here [] b (among args) → ((x : ℕ) → among outs x ≡ true → among args x ≡ true) → ((x : ℕ) → among outs x ≡ true → b x ≡ false)
        → ((y : ℕ) → among args y ≡ true → is_some (value_at full y) ≡ b y) → EnvTyped known types i full
        → Like (Ends full here [] [] nothing outs hold) (flat (c_called (course p) (split_program p) args hold)) (events (t_called (calls p) (program p) args full)) × Sure (Shown program) (c_called (course p) (split_program p) args hold)
    call_alike full f t r within free k typed =
        subst (λ (o : Option ProcedureBody). Like R (flat (c_called (course p) o args hold)) (events (t_called (calls p) (program p) args full)) × Sure (Shown program) (c_called (course p) o args hold)) (sym goes.there)
        (subst (λ (places : List Arg). Like R (flat (c_taken (back places) (inner_course (entered places args hold.env)))) (events (t_called (calls p) (program p) args full)) × Sure (Shown program) (c_taken (back places) (inner_course (entered places args hold.env)))) (sym goes.places)
        (subst (λ (env : Env). Like R (flat (c_taken (back mine) (inner_course env))) (events (t_called (calls p) (program p) args full)) × Sure (Shown program) (c_taken (back mine) (inner_course env))) (sym same)
        (subst (λ (o : Option ProcedureBody). Like R (flat (c_taken (back mine) (inner_course env1))) (events (t_called (calls p) o args full)) × Sure (Shown program) (c_taken (back mine) (inner_course env1))) (sym law.there)
        (subst (λ (places : List Arg). Like R (flat (c_taken (back mine) (inner_course env1))) (events (t_taken (λ inner. brought_back places args (value_at inner) full) (calls p (entered places args full)))) × Sure (Shown program) (c_taken (back mine) (inner_course env1))) (sym law.places) (
          subst (λ (z : Flat Hold). Like R z (events (t_taken forth (calls p env1)))) (sym (flat_taken (Shown program) (back mine) (inner_course env1) a.1))
              (subst (λ (z : Flat Env). Like R (taken (back mine) (flat (inner_course env1))) z) (sym (events_taken forth (calls p env1)))
              (like_taken (HeadsAgree (length found.declared.args)) R (back mine) forth (brings known types i out b outs p args found here hold full f t within free k) (flat (inner_course env1)) (events (calls p env1)) a.0)),
          sure_taken (Shown program) (back mine) (inner_course env1) a.1,
        )))))
      where
        R : Hold → Env → Type 0
        R = Ends full here [] [] nothing outs hold

        mine : List Arg
        mine = found.mode.args

        env1 : Env
        env1 = entered found.mode.args args full

        forth : Env → Env
        forth inner = brought_back found.mode.args args (value_at inner) full

        same : entered found.mode.args args hold.env ≡ env1
        same = entered_same b mine args hold.env full found.good.1 (λ y m h. read here b (among args) hold full f t r y m h)

        a : Like (HeadsAgree (length found.declared.args)) (flat (inner_course env1)) (events (calls p env1)) × Sure (Shown program) (inner_course env1)
        a = goes.along (composed i found.typed.0) env1 hold.next (enters known types i out b outs p args found full k typed)

    call_quiet : ((y : ℕ) → among args y ≡ true → is_some (value_at hold.env y) ≡ b y) → EnvTyped known types i hold.env → Quiet hold.next [] (c_called (course p) (split_program p) args hold)
    call_quiet k typed =
        subst (λ (o : Option ProcedureBody). Quiet hold.next [] (c_called (course p) o args hold)) (sym goes.there)
        (subst (λ (places : List Arg). Quiet hold.next [] (c_taken (back places) (inner_course (entered places args hold.env)))) (sym goes.places)
        (quiet_taken hold.next (back found.mode.args) (inner_course (entered found.mode.args args hold.env)) []
        (goes.quiet (composed i found.typed.0) (entered found.mode.args args hold.env) hold.next (enters known types i out b outs p args found hold.env k typed))))

  module _ (plan : Plan) (outs : List ℕ) (category : Option Category) (span : Span) where
    pub leaf_call : (p : Procedure) (args : List ℕ) → Leaf known types i program calls plan split_program course (Basic (Call p args)) (Basic (Call p args)) outs category span
    leaf_call p args = record {
      along = λ out b seen here hold full sound fits f t r names.
          let found = found_in known types i out b outs p args (slice_get known.preds p.predicate) refl sound.parts.0.0 sound.good.2 in
          let a = call_alike out b outs p args found here hold full f t r sound.good.0 (free_not b outs sound.good.1) (λ y m. fits.bounds y m) fits.typed in
          wrap (Shown program) (Ends full here [] [] nothing outs hold) (answers_once outs category) (c_called (course p) (split_program p) args hold) (t_called (calls p) (program p) args full) a.0 a.1;
      quiet = λ out b seen here hold sound fine f r names.
          let found = found_in known types i out b outs p args (slice_get known.preds p.predicate) refl sound.parts.0.0 sound.good.2 in
          let fits = hold_fits known types i out b seen (node (Basic (Call p args)) outs category span) here hold fine f r in
          quiet_once hold.next (answers_once outs category) (c_called (course p) (split_program p) args hold) [] (call_quiet out b outs p args found here hold (λ y m. fits.bounds y m) fits.typed);
    }

    -- every goal that holds no others
    pub leaf_basic : AreGoodTypes known.types → (g : BasicGoal) → Leaf known types i program calls plan split_program course (Basic g) (Basic g) outs category span
    leaf_basic declared True = leaf_plain known types i declared program calls plan split_program course outs category span True tt
    leaf_basic declared Fail = leaf_plain known types i declared program calls plan split_program course outs category span Fail tt
    leaf_basic declared (Assign x y) = leaf_plain known types i declared program calls plan split_program course outs category span (Assign x y) tt
    leaf_basic declared (Test x y) = leaf_plain known types i declared program calls plan split_program course outs category span (Test x y) tt
    leaf_basic declared (Build x s ys) = leaf_plain known types i declared program calls plan split_program course outs category span (Build x s ys) tt
    leaf_basic declared (Split x s ys) = leaf_plain known types i declared program calls plan split_program course outs category span (Split x s ys) tt
    leaf_basic declared (Arithmetic op z x y) = leaf_plain known types i declared program calls plan split_program course outs category span (Arithmetic op z x y) tt
    leaf_basic declared (Compare test x y) = leaf_plain known types i declared program calls plan split_program course outs category span (Compare test x y) tt
    leaf_basic declared (Raise x) = leaf_plain known types i declared program calls plan split_program course outs category span (Raise x) tt
    leaf_basic declared (Call p args) = leaf_call p args
    leaf_basic declared (Wait x n) = leaf_plain known types i declared program calls plan split_program course outs category span (Wait x n) tt
    leaf_basic declared (Signal x n) = leaf_plain known types i declared program calls plan split_program course outs category span (Signal x n) tt
