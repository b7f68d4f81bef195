-- The category law of each goal that holds no others, calls aside.
use Rattle.std.proofs.Common.{◌≡◌, inl, inr, ℕ, ℤ, Bool, true, List, [], ◌∷◌, Option, Some, None, refl, ap, sym, ◌∙◌, subst}
use Rattle.merc_base.specs.declared.category.Category.TheVariants.{Semidet}
use Rattle.merc_tree.specs.Types.{TypeExpr, replaced}
use Rattle.merc_tree.specs.declared.declarations.ModeDecl.{ModeDecl}
use Rattle.merc_tree.specs.declared.declarations.Module.{Module}
use Rattle.merc_goal_tree.specs.declared.goal.Operation.{Operation}
use Rattle.merc_goal_tree.specs.declared.goal.Symbol.{Symbol}
use Rattle.merc_graded_tree.specs.declared.basic.BasicGoal.{BasicGoal}
use Rattle.merc_graded_tree.specs.declared.basic.BasicGoal.TheVariants.{Assign, Build, Split, Arithmetic, Raise}
use Rattle.merc_graded_tree.specs.Variables.{variables_of}
use Rattle.merc_type_check.specs.Typing.{IsTypedGoal}
use Rattle.merc_order.specs.Bound.{Bound, with, among}
use Rattle.merc_order_laws.specs.Bindings.{Variables}
use Rattle.merc_order_laws.specs.GoodTree.{GoodBasic}
use Rattle.merc_order_laws.specs.WrittenGoals.{written_goal}
use Rattle.merc_order_laws.proofs.Facts.{clash, or_left}
use Rattle.merc_grading.specs.Known.{symbols_of_type, is_single, Known, known_of, with_known, known_behind_basic}
use Rattle.merc_grading.specs.Grading.{basic_category}
use Rattle.merc_value.specs.Value.{Value, Int, Values}
use Rattle.merc_meaning.specs.Trace.{Env, Trace}
use Rattle.merc_meaning.specs.Values.{made, fields}
use Rattle.merc_meaning.specs.Arithmetic.{Result, Gives, ZeroDivisor, arithmetic}
use Rattle.merc_meaning.specs.Steps.{value_at, bound, binds, compared, values_at, made_if, filled, filled_if, split, computed, operated, raised}
use Rattle.merc_meaning.proofs.ArithmeticLaws.{arithmetic-fits}
use Rattle.merc_program_laws.specs.ValueTypes.{HasType}
use Rattle.merc_program_laws.specs.GoodPrograms.{AreGoodTypes, HasLiteral}
use Rattle.merc_program_laws.proofs.Values.{Instance, none_not, among_here, among_there, among_cases, fields_of_made, at_same}
use Rattle.merc_program_laws.proofs.Steps.{values_there, filled_other, free_not, filled_typed, filled_bound, made_typed, fields_typed}
use Rattle.merc_program_laws.proofs.Lawful.{Fits, Goes, Lawful}
use Rattle.merc_program_laws.proofs.Knowing.{knows_on, knows_more, knows_copied, one_law, none_law, tested_law, goes_to, goes_same, goes_more, goes_one, value_of, int_at, text_of, split_sure, split_never}

-- what an operation on integers that are there does
pub operated_is : (env : Env) (op : Operation) (z : ℕ) (n m : ℤ) (o p : Option Value) → o ≡ Some (Int n) → p ≡ Some (Int m) → computed env z (arithmetic op n m) ≡ operated env op z o p
operated_is env op z n m o p e f =
    subst (λ (u : Option Value). computed env z (arithmetic op n m) ≡ operated env op z u p) (sym e)
    (subst (λ (u : Option Value). computed env z (arithmetic op n m) ≡ operated env op z (Some (Int n)) u) (sym f) refl)

-- Given are the module, the modes of each predicate, the types of the variables, and what type variables stand for.
module _ (known : Module) (modes : ℕ → List ModeDecl) (types i : Instance) where
  abbrev pub Before : Variables → Bound → Known → BasicGoal → Env → Type 0
  Before out b seen g env = Fits known types i out b (among (variables_of g)) seen env

  -- what holds behind a goal with these outputs
  abbrev pub Behind : Variables → Bound → Known → List ℕ → BasicGoal → Env → Env → Type 0
  Behind out b seen outs g env env' = Goes known types i out (with b (among outs)) (among (variables_of g)) (known_behind_basic g seen) env env'

  abbrev pub BasicLaw : Variables → Bound → Known → List ℕ → BasicGoal → Env → Trace → Type 0
  BasicLaw out b seen outs g env t = Lawful (Behind out b seen outs g env) (basic_category known.types modes types seen g) t

  -- what is established of such a goal
  pub record GoodBasicGoal (out : Variables) (b : Bound) (outs : List ℕ) (g : BasicGoal) : Type 0 where
    pub good : GoodBasic modes out b outs g
    pub typed : IsTypedGoal known types (written_goal g)
    pub literal : HasLiteral g

  pub assign_law : (out : Variables) (b : Bound) (seen : Known) (outs : List ℕ) (x y : ℕ) (env : Env) → GoodBasicGoal out b outs (Assign x y) → Before out b seen (Assign x y) env
      → BasicLaw out b seen outs (Assign x y) env (binds env x (value_at env y))
  assign_law out b seen outs x y env h fits =
      let r = value_of known types i out b (among (x ∷ y ∷ [])) seen env fits y (among_there y x (y ∷ []) (among_here y [])) h.good.0 in
      let t : HasType known.types r.0 (replaced i (types x)) = subst (λ (u : TypeExpr). HasType known.types r.0 (replaced i u)) (sym h.typed) r.2 in
      subst (λ (o : Option Value). BasicLaw out b seen outs (Assign x y) env (binds env x o)) (sym r.1)
      (one_law (Behind out b seen outs (Assign x y) env) (bound env x r.0)
      (goes_to known types i out _ _ _ _ env (bound env x r.0)
      (goes_one known types i out b (among (x ∷ y ∷ [])) seen (with_known x (known_of seen y) seen) x r.0 env fits h.good.1 (among_here x (y ∷ [])) t
      (λ kept. knows_copied seen (bound env x r.0) x y r.0 (known_of seen y) refl (knows_on seen env (bound env x r.0) fits.knows kept) (at_same env x r.0) (kept y r.0 r.1)))
      h.good.2))

  pub build_law : (out : Variables) (b : Bound) (seen : Known) (outs : List ℕ) (x : ℕ) (s : Symbol) (ys : List ℕ) (env : Env) → GoodBasicGoal out b outs (Build x s ys) → Before out b seen (Build x s ys) env
      → BasicLaw out b seen outs (Build x s ys) env (binds env x (made_if s (values_at env ys)))
  build_law out b seen outs x s ys env h fits =
      let r = values_there b env ys h.good.0 (λ y m. fits.bounds y (among_there y x ys m)) in
      let t = made_typed known types i env x s ys r.0 fits.typed h.typed h.literal r.1 in
      subst (λ (o : Option Values). BasicLaw out b seen outs (Build x s ys) env (binds env x (made_if s o))) (sym r.1)
      (one_law (Behind out b seen outs (Build x s ys) env) (bound env x (made s r.0))
      (goes_to known types i out _ _ _ _ env (bound env x (made s r.0))
      (goes_one known types i out b (among (x ∷ ys)) seen ((x, s) ∷ seen) x (made s r.0) env fits h.good.1 (among_here x ys) t.0
      (λ kept. knows_more seen (bound env x (made s r.0)) x s (made s r.0) _ (knows_on seen env (bound env x (made s r.0)) fits.knows kept) (at_same env x (made s r.0)) (fields_of_made s r.0 t.1)))
      h.good.2))

  split_some : AreGoodTypes known.types → (out : Variables) (b : Bound) (seen : Known) (outs : List ℕ) (x : ℕ) (s : Symbol) (ys : List ℕ) (env : Env) → GoodBasicGoal out b outs (Split x s ys) → Before out b seen (Split x s ys) env
      → (v : Value) → value_at env x ≡ Some v → HasType known.types v (replaced i (types x)) → (o : Option Values) → o ≡ fields s v → BasicLaw out b seen outs (Split x s ys) env (filled_if env ys o)
  split_some declared out b seen outs x s ys env h fits v e t None f =
      none_law _ _ (λ c. split_sure known types i declared seen env x s ys v fits.knows e t h.typed (known_of seen x) refl (is_single (symbols_of_type known.types (types x))) refl c (sym f))
  split_some declared out b seen outs x s ys env h fits v e t (Some vs) f =
      let q = fields_typed known types i declared x s ys v vs t h.typed h.literal (sym f) in
      let now : Env = filled env ys vs in
      record {
        goes = (
          goes_to known types i out _ _ _ _ env now
              (goes_more known types i out b (among (x ∷ ys)) seen ((x, s) ∷ seen) ys env now fits
              (λ y m. filled_other env ys vs y m)
              (λ y m. filled_bound known types i q.0 env ys q.1 vs q.2 q.3 y (inl m))
              (free_not b ys h.good.1)
              (λ y m. among_there y x ys m)
              (filled_typed known types i q.0 env ys q.1 vs fits.typed q.2 q.3)
              (λ kept. knows_more seen now x s v vs (knows_on seen env now fits.knows kept) (kept x v e) (sym f)))
              h.good.2,
          tt,
        );
        no_answer = λ z. absurd (split_never known types i seen env x s v vs fits.knows e (known_of seen x) refl (is_single (symbols_of_type known.types (types x))) z (sym f));
        some_answer = λ c d. inl tt;
      }

  pub split_law : AreGoodTypes known.types → (out : Variables) (b : Bound) (seen : Known) (outs : List ℕ) (x : ℕ) (s : Symbol) (ys : List ℕ) (env : Env) → GoodBasicGoal out b outs (Split x s ys) → Before out b seen (Split x s ys) env
      → BasicLaw out b seen outs (Split x s ys) env (split env s ys (value_at env x))
  split_law declared out b seen outs x s ys env h fits =
      let r = value_of known types i out b (among (x ∷ ys)) seen env fits x (among_here x ys) h.good.0 in
      subst (λ (o : Option Value). BasicLaw out b seen outs (Split x s ys) env (split env s ys o)) (sym r.1)
      (split_some declared out b seen outs x s ys env h fits r.0 r.1 r.2 (fields s r.0) refl)

  compared_law : (P : Env → Type 0) (env : Env) (holds : Value → Value → Bool) (v w : Value) (o p : Option Value) → o ≡ Some v → p ≡ Some w → P env → Lawful P Semidet (compared env holds o p)
  compared_law P env holds v w None p e f h = absurd (none_not e)
  compared_law P env holds v w (Some z) None e f h = absurd (none_not f)
  compared_law P env holds v w (Some z) (Some u) e f h = tested_law P (holds z u) env h

  -- a goal whose variables are all bound binds none
  all_bound : (b : Bound) (outs : List ℕ) (x y : ℕ) → b x ≡ true → b y ≡ true → (v : ℕ) → among (x ∷ y ∷ []) v ≡ true → b v ≡ with b (among outs) v
  all_bound b outs x y p q v h =
      let e : b v ≡ true = elim (among_cases v x (y ∷ []) h) as (λ _. b v ≡ true) [
        | inl r ↦ ap b r ∙ p
        | inr r ↦ elim (among_cases v y [] r) as (λ _. b v ≡ true) [ inl k ↦ ap b k ∙ q | inr k ↦ clash k refl ]
      ] in
      e ∙ sym (or_left (b v) (among outs v) e)

  pub two_law : (out : Variables) (b : Bound) (seen : Known) (outs : List ℕ) (x y : ℕ) (env : Env) (holds : Value → Value → Bool) → b x ≡ true → b y ≡ true → Fits known types i out b (among (x ∷ y ∷ [])) seen env
      → Lawful (Goes known types i out (with b (among outs)) (among (x ∷ y ∷ [])) seen env) Semidet (compared env holds (value_at env x) (value_at env y))
  two_law out b seen outs x y env holds p q fits =
      let r = value_of known types i out b (among (x ∷ y ∷ [])) seen env fits x (among_here x (y ∷ [])) p in
      let k = value_of known types i out b (among (x ∷ y ∷ [])) seen env fits y (among_there y x (y ∷ []) (among_here y [])) q in
      compared_law _ env holds r.0 k.0 (value_at env x) (value_at env y) r.1 k.1
      (goes_to known types i out b (with b (among outs)) (among (x ∷ y ∷ [])) seen env env (goes_same known types i out b (among (x ∷ y ∷ [])) seen env fits) (λ v o h. all_bound b outs x y p q v o))

  result_law : (out : Variables) (b : Bound) (seen : Known) (outs : List ℕ) (op : Operation) (z x y : ℕ) (env : Env) → GoodBasicGoal out b outs (Arithmetic op z x y) → Before out b seen (Arithmetic op z x y) env
      → (n m : ℤ) → (r : Result) → r ≡ arithmetic op n m → BasicLaw out b seen outs (Arithmetic op z x y) env (computed env z r)
  result_law out b seen outs op z x y env h fits n m ZeroDivisor e = record { goes = tt; no_answer = λ c. tt; some_answer = λ c d. absurd d }
  result_law out b seen outs op z x y env h fits n m (Gives k) e =
      let t : HasType known.types (Int k) (replaced i (types z)) = (ap (replaced i) h.typed.0, arithmetic-fits op n m k (sym e)) in
      one_law (Behind out b seen outs (Arithmetic op z x y) env) (bound env z (Int k))
      (goes_to known types i out _ _ _ _ env (bound env z (Int k))
      (goes_one known types i out b (among (z ∷ x ∷ y ∷ [])) seen seen z (Int k) env fits h.good.2 (among_here z (x ∷ y ∷ [])) t
      (λ kept. knows_on seen env (bound env z (Int k)) fits.knows kept))
      h.good.3)

  pub arithmetic_law : (out : Variables) (b : Bound) (seen : Known) (outs : List ℕ) (op : Operation) (z x y : ℕ) (env : Env) → GoodBasicGoal out b outs (Arithmetic op z x y) → Before out b seen (Arithmetic op z x y) env
      → BasicLaw out b seen outs (Arithmetic op z x y) env (operated env op z (value_at env x) (value_at env y))
  arithmetic_law out b seen outs op z x y env h fits =
      let occurs : ℕ → Bool = among (z ∷ x ∷ y ∷ []) in
      let n = int_at known types i out b occurs seen env fits x (among_there x z (x ∷ y ∷ []) (among_here x (y ∷ []))) h.good.0 h.typed.1 in
      let m = int_at known types i out b occurs seen env fits y (among_there y z (x ∷ y ∷ []) (among_there y x (y ∷ []) (among_here y []))) h.good.1 h.typed.2 in
      subst (λ (t : Trace). BasicLaw out b seen outs (Arithmetic op z x y) env t) (operated_is env op z n.0 m.0 (value_at env x) (value_at env y) n.1 m.1)
      (result_law out b seen outs op z x y env h fits n.0 m.0 (arithmetic op n.0 m.0) refl)

  pub raise_law : (out : Variables) (b : Bound) (seen : Known) (outs : List ℕ) (x : ℕ) (env : Env) → GoodBasicGoal out b outs (Raise x) → Before out b seen (Raise x) env → BasicLaw out b seen outs (Raise x) env (raised (value_at env x))
  raise_law out b seen outs x env h fits =
      let r = value_of known types i out b (among (x ∷ [])) seen env fits x (among_here x []) h.good in
      let t = text_of known types i r.0 (subst (λ (u : TypeExpr). HasType known.types r.0 (replaced i u)) h.typed r.2) in
      subst (λ (o : Option Value). BasicLaw out b seen outs (Raise x) env (raised o)) (sym (r.1 ∙ ap Some t.1)) (record { goes = tt; no_answer = λ c. tt; some_answer = λ c d. absurd d })
