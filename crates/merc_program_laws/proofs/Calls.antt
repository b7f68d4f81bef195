-- The category law of calls.
use Rattle.std.proofs.Common.{◌≡◌, ◌⊎◌, inl, inr, ℕ, zero, suc, ◌<◌, true, false, is_some, List, [], ◌∷◌, length, Option, Some, None, slice_get, refl, ap, sym, ◌∙◌, subst, arith}
use Rattle.merc_base.specs.declared.category.Category.{Category}
use Rattle.merc_tree.specs.Types.{TypeExpr, replaced}
use Rattle.merc_tree.specs.declared.declarations.Arg.{Arg}
use Rattle.merc_tree.specs.declared.declarations.Arg.TheVariants.{Input, Output}
use Rattle.merc_tree.specs.declared.declarations.ModeDecl.{ModeDecl}
use Rattle.merc_tree.specs.declared.declarations.PredDecl.{PredDecl}
use Rattle.merc_tree.specs.declared.declarations.Module.{Module}
use Rattle.merc_graded_tree.specs.declared.basic.BasicGoal.{BasicGoal}
use Rattle.merc_graded_tree.specs.declared.basic.BasicGoal.TheVariants.{True, Fail, Assign, Test, Build, Split, Arithmetic, Compare, Raise, Call, Wait, Signal}
use Rattle.merc_graded_tree.specs.declared.basic.Procedure.{Procedure}
use Rattle.merc_type_check.specs.Typing.{HaveTypes as VariablesHave, IsCalled}
use Rattle.merc_order.specs.Bound.{Bound, with, among}
use Rattle.merc_order.specs.CallModes.{inputs_of}
use Rattle.merc_order.specs.Procedures.{bound_at, modes_in, modes_of}
use Rattle.merc_order_laws.specs.Bindings.{Variables, AreBound}
use Rattle.merc_order_laws.specs.GoodTree.{written_by, GoodProcedure}
use Rattle.merc_order_laws.proofs.Facts.{clash}
use Rattle.merc_grading.specs.Known.{Known}
use Rattle.merc_grading.specs.Grading.{declared_in}
use Rattle.merc_value.specs.Value.{Value}
use Rattle.merc_meaning.specs.Trace.{Env, Trace, taken_back}
use Rattle.merc_meaning.specs.Arithmetic.{comparison_of}
use Rattle.merc_meaning.specs.Values.{same}
use Rattle.merc_meaning.specs.Steps.{value_at, with_entry, entered, brought_back}
use Rattle.merc_meaning.specs.Runs.{Program, ProcedureBody, called, basic_trace}
use Rattle.merc_meaning.proofs.Environments.{entry_other}
use Rattle.merc_program_laws.specs.ValueTypes.{HasType}
use Rattle.merc_program_laws.specs.Answers.{Never, Any}
use Rattle.merc_program_laws.specs.GoodPrograms.{AreGoodTypes}
use Rattle.merc_program_laws.specs.CategoryLaws.{AreTyped, Enters, Leaves, IsProcedure}
use Rattle.merc_program_laws.proofs.Traces.{each_taken, has_taken, done_taken}
use Rattle.merc_program_laws.proofs.Values.{Instance, composed, none_not, same_some, same_number, among_here, among_there, among_cases, not_here, not_there}
use Rattle.merc_program_laws.proofs.Steps.{EnvTyped, free_not, entry_typed, bound_step, placed}
use Rattle.merc_program_laws.proofs.Lawful.{Fits, Goes, Lawful}
use Rattle.merc_program_laws.proofs.Knowing.{knows_on, one_law, none_law, goes_to, goes_more}
use Rattle.merc_program_laws.proofs.Simple.{Before, BasicLaw, GoodBasicGoal, assign_law, build_law, split_law, two_law, arithmetic_law, raise_law}

pub brought_other : (places : List Arg) (args : List ℕ) (g : ℕ → Option Value) (env : Env) (x : ℕ) → among (written_by places args) x ≡ false → value_at (brought_back places args g env) x ≡ value_at env x
brought_other [] args g env x h = refl
brought_other (k ∷ places) [] g env x h = refl
brought_other (Input ∷ places) (a ∷ args) g env x h = brought_other places args (λ y. g (suc y)) env x h
brought_other (Output ∷ places) (a ∷ args) g env x h =
    brought_other places args (λ y. g (suc y)) (with_entry env a (g zero)) x (not_there x a (written_by places args) h)
    ∙ entry_other env a x (g zero) (not_here x a (written_by places args) h)

written_within : (places : List Arg) (args : List ℕ) (x : ℕ) → among (written_by places args) x ≡ true → among args x ≡ true
written_within [] args x h = clash h refl
written_within (k ∷ places) [] x h = clash h refl
written_within (Input ∷ places) (a ∷ args) x h = among_there x a args (written_within places args x h)
written_within (Output ∷ places) (a ∷ args) x h = elim (among_cases x a (written_by places args) h) as (λ _. among (a ∷ args) x ≡ true) [
  | inl p ↦ ap (among (a ∷ args)) p ∙ among_here a args
  | inr p ↦ among_there x a args (written_within places args x p)
]

-- exactly the inputs are bound when a body is entered
pub entered_bound : (b : Bound) (places : List Arg) (args : List ℕ) (env : Env) → length places ≡ length args → AreBound b (inputs_of places args) → ((y : ℕ) → among args y ≡ true → is_some (value_at env y) ≡ b y)
    → (v : ℕ) → is_some (value_at (entered places args env) v) ≡ bound_at places v
entered_bound b [] args env l m k v = refl
entered_bound b (p ∷ places) [] env l m k v = absurd cc
entered_bound b (Input ∷ places) (a ∷ args) env l m k zero = k a (among_here a args) ∙ m.0
entered_bound b (Input ∷ places) (a ∷ args) env l m k (suc v) = entered_bound b places args env (omega (arith, l)) m.1 (λ y n. k y (among_there y a args n)) v
entered_bound b (Output ∷ places) (a ∷ args) env l m k zero = refl
entered_bound b (Output ∷ places) (a ∷ args) env l m k (suc v) = entered_bound b places args env (omega (arith, l)) m (λ y n. k y (among_there y a args n)) v

types_length : (known : Module) (types : Instance) (j : Instance) (args : List ℕ) (ts : List TypeExpr) → VariablesHave known types j args ts → length args ≡ length ts
types_length known types j [] [] h = refl
types_length known types j [] (t ∷ ts) h = absurd h
types_length known types j (a ∷ args) [] h = absurd h
types_length known types j (a ∷ args) (t ∷ ts) h = ap suc (types_length known types j args ts h.1)

-- Given are the module, the types of the variables, and what type variables stand for.
module _ (known : Module) (types i : Instance) where
  pub entered_typed : (j : Instance) (places : List Arg) (args : List ℕ) (ts : List TypeExpr) (env : Env) → VariablesHave known types j args ts → EnvTyped known types i env → AreTyped known.types (composed i j) ts (entered places args env)
  entered_typed j [] args ts env h t v type value p q = absurd (none_not q)
  entered_typed j (k ∷ places) [] ts env h t v type value p q = absurd (none_not q)
  entered_typed j (k ∷ places) (a ∷ args) [] env h t v type value p q = absurd h
  entered_typed j (Input ∷ places) (a ∷ args) (u ∷ ts) env h t zero type value p q =
      subst (λ (z : TypeExpr). HasType known.types value (replaced (composed i j) z)) (same_some p) (subst (λ (z : TypeExpr). HasType known.types value z) (placed known types i j a u h.0) (t a value q))
  entered_typed j (Input ∷ places) (a ∷ args) (u ∷ ts) env h t (suc v) type value p q = entered_typed j places args ts env h.1 t v type value p q
  entered_typed j (Output ∷ places) (a ∷ args) (u ∷ ts) env h t zero type value p q = absurd (none_not q)
  entered_typed j (Output ∷ places) (a ∷ args) (u ∷ ts) env h t (suc v) type value p q = entered_typed j places args ts env h.1 t v type value p q

  -- the values of a body's first variables are of these types
  abbrev SlotsTyped : Instance → List TypeExpr → (ℕ → Option Value) → Type 0
  SlotsTyped j ts g = (v : ℕ) (type : TypeExpr) (value : Value) → slice_get ts v ≡ Some type → g v ≡ Some value → HasType known.types value (replaced (composed i j) type)

  brought_typed : (j : Instance) (places : List Arg) (args : List ℕ) (ts : List TypeExpr) (g : ℕ → Option Value) (env : Env) → VariablesHave known types j args ts → SlotsTyped j ts g → EnvTyped known types i env
      → EnvTyped known types i (brought_back places args g env)
  brought_typed j [] args ts g env h k t = t
  brought_typed j (p ∷ places) [] ts g env h k t = t
  brought_typed j (p ∷ places) (a ∷ args) [] g env h k t = absurd h
  brought_typed j (Input ∷ places) (a ∷ args) (u ∷ ts) g env h k t = brought_typed j places args ts (λ y. g (suc y)) env h.1 (λ v type value p q. k (suc v) type value p q) t
  brought_typed j (Output ∷ places) (a ∷ args) (u ∷ ts) g env h k t =
      brought_typed j places args ts (λ y. g (suc y)) (with_entry env a (g zero)) h.1 (λ v type value p q. k (suc v) type value p q)
      (entry_typed known types i env a (g zero) t (λ v e. subst (λ (z : TypeExpr). HasType known.types v z) (sym (placed known types i j a u h.0)) (k zero u v refl e)))

  entry_step : (env : Env) (a : ℕ) (rest : List ℕ) (o : Option Value) (x : ℕ) → is_some o ≡ true → (among (a ∷ rest) x ≡ true) ⊎ (is_some (value_at env x) ≡ true)
      → (among rest x ≡ true) ⊎ (is_some (value_at (with_entry env a o) x) ≡ true)
  entry_step env a rest None x e h = clash e refl
  entry_step env a rest (Some w) x e h = bound_step known types i env a rest w x h (same_number x a)

  brought_bound : (places : List Arg) (args : List ℕ) (g : ℕ → Option Value) (env : Env) → ((v : ℕ) → v < length places → is_some (g v) ≡ true) → (x : ℕ)
      → (among (written_by places args) x ≡ true) ⊎ (is_some (value_at env x) ≡ true) → is_some (value_at (brought_back places args g env) x) ≡ true
  brought_bound [] args g env k x (inl h) = clash h refl
  brought_bound [] args g env k x (inr h) = h
  brought_bound (p ∷ places) [] g env k x (inl h) = clash h refl
  brought_bound (p ∷ places) [] g env k x (inr h) = h
  brought_bound (Input ∷ places) (a ∷ args) g env k x h = brought_bound places args (λ y. g (suc y)) env (λ v l. k (suc v) (omega (arith, l))) x h
  brought_bound (Output ∷ places) (a ∷ args) g env k x h =
      brought_bound places args (λ y. g (suc y)) (with_entry env a (g zero)) (λ v l. k (suc v) (omega (arith, l))) x (entry_step env a (written_by places args) (g zero) x (k zero (omega (arith))) h)

-- a call of a mode is lawful from each environment with which it can begin
pub record LawfulCall (known : Module) (program : Program) (call : Procedure → Env → Trace) (p : Procedure) (declared : PredDecl) (mode : ModeDecl) : Type 0 where
  pub procedure : ProcedureBody
  pub there : program p ≡ Some procedure
  pub places : procedure.places ≡ mode.args
  pub law : (i : Instance) (env : Env) → Enters known.types i mode.args declared.args env → Lawful (Leaves known.types i declared.args env) mode.category (call p env)

abbrev pub LawfulCalls : Module → Program → (Procedure → Env → Trace) → Type 0
LawfulCalls known program call = (p : Procedure) (declared : PredDecl) (mode : ModeDecl) → IsProcedure known p declared mode → LawfulCall known program call p declared mode

-- Given is a program whose calls are lawful.
module _ (known : Module) (program : Program) (call : Procedure → Env → Trace) (calls : LawfulCalls known program call) (types i : Instance) where
  abbrev CallLaw : Variables → Bound → Known → List ℕ → Procedure → List ℕ → Env → Category → Trace → Type 0
  CallLaw out b seen outs p args env c t = Lawful (Goes known types i out (with b (among outs)) (among args) seen env) c t

  mode_law : (out : Variables) (b : Bound) (seen : Known) (outs : List ℕ) (p : Procedure) (args : List ℕ) (env : Env) (declared : PredDecl) (mode : ModeDecl) → LawfulCall known program call p declared mode
      → IsCalled known types (Some declared) args → GoodProcedure out b outs (Some mode) args → Fits known types i out b (among args) seen env
      → CallLaw out b seen outs p args env mode.category (taken_back (λ inner. brought_back mode.args args (value_at inner) env) (call p (entered mode.args args env)))
  mode_law out b seen outs p args env declared mode lawful typed good fits =
      let j : Instance = typed.0 in
      let inner : Env = entered mode.args args env in
      let long : length mode.args ≡ length declared.args = good.0 ∙ types_length known types j args declared.args typed.1 in
      let law = lawful.law (composed i j) inner (record {
        bindings = entered_bound b mode.args args env good.0 good.1 (λ y m. fits.bounds y m);
        typed = entered_typed known types i j mode.args args declared.args env typed.1 fits.typed;
      }) in
      let back : Env → Env = λ answer. brought_back mode.args args (value_at answer) env in
      record {
        goes = each_taken (Leaves known.types (composed i j) declared.args inner) (Goes known types i out (with b (among outs)) (among args) seen env) back (call p inner)
            (λ answer ends. goes_to known types i out _ _ _ seen env (back answer)
            (goes_more known types i out b (among args) seen seen (written_by mode.args args) env (back answer) fits
            (λ x h. brought_other mode.args args (value_at answer) env x h)
            (λ x h. brought_bound known types i mode.args args (value_at answer) env (λ v l. ends.bindings v (omega (arith, l, long))) x (inl h))
            (free_not b (written_by mode.args args) good.2)
            (written_within mode.args args)
            (brought_typed known types i j mode.args args declared.args (value_at answer) env typed.1 ends.typed fits.typed)
            (λ kept. knows_on seen env (back answer) fits.knows kept))
            good.3)
            law.goes;
        no_answer = λ z. each_taken Never Never back (call p inner) (λ _ h. h) (law.no_answer z);
        some_answer = λ c d. has_taken Any Any back (call p inner) (λ _ h. h) (law.some_answer c (done_taken back (call p inner) d));
      }

  there_law : (out : Variables) (b : Bound) (seen : Known) (outs : List ℕ) (p : Procedure) (args : List ℕ) (env : Env) (declared : PredDecl) (mode : ModeDecl) → LawfulCall known program call p declared mode
      → IsCalled known types (Some declared) args → GoodProcedure out b outs (Some mode) args → Fits known types i out b (among args) seen env
      → CallLaw out b seen outs p args env mode.category (called (call p) (program p) args env)
  there_law out b seen outs p args env declared mode lawful typed good fits =
      subst (λ (o : Option ProcedureBody). CallLaw out b seen outs p args env mode.category (called (call p) o args env)) (sym lawful.there)
      (subst (λ (places : List Arg). CallLaw out b seen outs p args env mode.category (taken_back (λ inner. brought_back places args (value_at inner) env) (call p (entered places args env)))) (sym lawful.places)
      (mode_law out b seen outs p args env declared mode lawful typed good fits))

  mode_case : (out : Variables) (b : Bound) (seen : Known) (outs : List ℕ) (p : Procedure) (args : List ℕ) (env : Env) (declared : PredDecl) (m : Option ModeDecl) → slice_get known.preds p.predicate ≡ Some declared
      → slice_get declared.modes p.mode ≡ m → IsCalled known types (Some declared) args → GoodProcedure out b outs m args → Fits known types i out b (among args) seen env
      → CallLaw out b seen outs p args env (declared_in m) (called (call p) (program p) args env)
  mode_case out b seen outs p args env declared None e k typed good fits = absurd good
  mode_case out b seen outs p args env declared (Some mode) e k typed good fits =
      there_law out b seen outs p args env declared mode (calls p declared mode (record { predicate = e; mode_there = k })) typed good fits

  predicate_case : (out : Variables) (b : Bound) (seen : Known) (outs : List ℕ) (p : Procedure) (args : List ℕ) (env : Env) (o : Option PredDecl) → slice_get known.preds p.predicate ≡ o → IsCalled known types o args
      → GoodProcedure out b outs (slice_get (modes_in o) p.mode) args → Fits known types i out b (among args) seen env
      → CallLaw out b seen outs p args env (declared_in (slice_get (modes_in o) p.mode)) (called (call p) (program p) args env)
  predicate_case out b seen outs p args env None e typed good fits = absurd typed
  predicate_case out b seen outs p args env (Some declared) e typed good fits = mode_case out b seen outs p args env declared (slice_get declared.modes p.mode) e refl typed good fits

  -- every goal that holds no others
  pub basic_law : AreGoodTypes known.types → (g : BasicGoal) (out : Variables) (b : Bound) (seen : Known) (outs : List ℕ) (env : Env) → GoodBasicGoal known (modes_of known.preds) types i out b outs g
      → Before known (modes_of known.preds) types i out b seen g env → BasicLaw known (modes_of known.preds) types i out b seen outs g env (basic_trace program call g env)
  basic_law declared True out b seen outs env h fits = one_law _ env (record { keeps = λ x v e. e; own = λ x o. refl; bounds = λ x o p. clash o refl; typed = fits.typed; knows = fits.knows })
  basic_law declared Fail out b seen outs env h fits = none_law _ _ (λ e. clash refl e)
  basic_law declared (Assign x y) out b seen outs env h fits = assign_law known (modes_of known.preds) types i out b seen outs x y env h fits
  basic_law declared (Test x y) out b seen outs env h fits = two_law known (modes_of known.preds) types i out b seen outs x y env same h.good.0 h.good.1 fits
  basic_law declared (Build x s ys) out b seen outs env h fits = build_law known (modes_of known.preds) types i out b seen outs x s ys env h fits
  basic_law declared (Split x s ys) out b seen outs env h fits = split_law known (modes_of known.preds) types i declared out b seen outs x s ys env h fits
  basic_law declared (Arithmetic op z x y) out b seen outs env h fits = arithmetic_law known (modes_of known.preds) types i out b seen outs op z x y env h fits
  basic_law declared (Compare test x y) out b seen outs env h fits = two_law known (modes_of known.preds) types i out b seen outs x y env (comparison_of test) h.good.0 h.good.1 fits
  basic_law declared (Raise x) out b seen outs env h fits = raise_law known (modes_of known.preds) types i out b seen outs x env h fits
  basic_law declared (Call p args) out b seen outs env h fits = predicate_case out b seen outs p args env (slice_get known.preds p.predicate) refl h.typed h.good fits
  basic_law declared (Wait x n) out b seen outs env h fits = absurd h.good
  basic_law declared (Signal x n) out b seen outs env h fits = absurd h.good
