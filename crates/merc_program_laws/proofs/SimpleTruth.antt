-- The truth law of goals that hold no others, calls aside.
use Rattle.std.proofs.Common.{◌≡◌, ◌⊎◌, inl, inr, ℕ, suc, ℤ, Bool, true, false, is_some, List, [], ◌∷◌, length, Option, Some, None, refl, ap, sym, ◌∙◌, subst}
use Rattle.merc_tree.specs.Types.{TypeExpr, replaced}
use Rattle.merc_tree.specs.declared.declarations.ModeDecl.{ModeDecl}
use Rattle.merc_tree.specs.declared.declarations.Module.{Module}
use Rattle.merc_goal_tree.specs.declared.goal.Comparison.{Comparison}
use Rattle.merc_goal_tree.specs.declared.goal.Operation.{Operation}
use Rattle.merc_goal_tree.specs.declared.goal.Symbol.{Symbol}
use Rattle.merc_goal_tree.specs.declared.goal.Symbol.TheVariants.{Constructor as ConstructorSymbol, Integer, Text as TextSymbol}
use Rattle.merc_graded_tree.specs.declared.basic.BasicGoal.{BasicGoal}
use Rattle.merc_graded_tree.specs.declared.basic.BasicGoal.TheVariants.{Assign, Test, Build, Split, Arithmetic, Compare, Raise}
use Rattle.merc_graded_tree.specs.Variables.{variables_of}
use Rattle.merc_type_check.specs.Typing.{HaveTypes as VariablesHave, HasSymbol}
use Rattle.merc_order.specs.Bound.{Bound, among}
use Rattle.merc_order_laws.specs.Bindings.{Variables, AreFree}
use Rattle.merc_order_laws.proofs.Facts.{clash, either_way}
use Rattle.merc_grading.specs.Known.{Known}
use Rattle.merc_value.specs.Value.{Value, Int, Text, Con, Values, none, more}
use Rattle.merc_meaning.specs.Trace.{Env, Trace, one_answer}
use Rattle.merc_meaning.specs.Values.{count, made, fields, same}
use Rattle.merc_meaning.specs.Arithmetic.{Result, Gives, ZeroDivisor, arithmetic, given, arithmetic_of, comparison_of}
use Rattle.merc_meaning.specs.Steps.{value_at, bound, tested, compared, values_at, binds, made_if, filled, filled_if, split, computed, operated, raised}
use Rattle.merc_meaning.specs.Truth.{Assignment, assigned}
use Rattle.merc_meaning.proofs.ValueLaws.{same-decides}
use Rattle.merc_program_laws.specs.ValueTypes.{HasType}
use Rattle.merc_program_laws.specs.Answers.{Has}
use Rattle.merc_program_laws.specs.GoodPrograms.{AreGoodTypes, FitsArguments}
use Rattle.merc_program_laws.proofs.Values.{Instance, decide, same_number, among_here, among_there, none_not, same_some, is_some_of, IsMany, fields_constructor, fields_integer, fields_text, fields_of_made, at_same, at_other}
use Rattle.merc_program_laws.proofs.Declared.{found_arity}
use Rattle.merc_program_laws.proofs.Steps.{joined_parts, values_there, filled_other, free_not, Instances, fields_typed, may_have}
use Rattle.merc_program_laws.proofs.Knowing.{value_of, int_at, text_of}
use Rattle.merc_program_laws.proofs.Simple.{Before, GoodBasicGoal, operated_is}
use Rattle.merc_program_laws.proofs.Truthful.{Matches, IsInstance, Truthful}

pub bound_matches : (occurs : Variables) (s : Assignment) (env : Env) (x : ℕ) (v : Value) → s x ≡ v → Matches occurs s env → Matches occurs s (bound env x v)
bound_matches occurs s env x v h k y o w e = elim (same_number y x) as (λ _. s y ≡ w) [
  | inl p ↦ ap s p.1 ∙ h ∙ same_some (sym (at_same env x v) ∙ ap (value_at (bound env x v)) (sym p.1) ∙ e)
  | inr p ↦ k y o w (sym (at_other env x y v p.1) ∙ e)
]

first_is : {v w : Value} {vs ws : Values} → more v vs ≡ more w ws → v ≡ w
first_is h = cc

rest_is : {v w : Value} {vs ws : Values} → more v vs ≡ more w ws → vs ≡ ws
rest_is h = cc

both_are : {v w : Value} {vs ws : Values} → v ≡ w → vs ≡ ws → more v vs ≡ more w ws
both_are h k = cc

filled_matches : (occurs : Variables) (s : Assignment) (env : Env) (ys : List ℕ) (vs : Values) → assigned s ys ≡ vs → Matches occurs s env → Matches occurs s (filled env ys vs)
filled_matches occurs s env [] vs h k = k
filled_matches occurs s env (y ∷ ys) none h k = k
filled_matches occurs s env (y ∷ ys) (more v vs) h k = filled_matches occurs s (bound env y v) ys vs (rest_is h) (bound_matches occurs s env y v (first_is h) k)

-- the values of variables under an assignment that matches
assigned_is : (s : Assignment) (env : Env) (ys : List ℕ) (vs : Values) → values_at env ys ≡ Some vs → ((y : ℕ) → among ys y ≡ true → (v : Value) → value_at env y ≡ Some v → s y ≡ v) → assigned s ys ≡ vs
assigned_is s env [] vs h k = same_some h
assigned_is s env (y ∷ ys) vs h k =
    let p = joined_parts (value_at env y) (values_at env ys) vs h in
    both_are (k y (among_here y ys) p.0 p.2) (assigned_is s env ys p.1 p.3 (λ z m v e. k z (among_there z y ys m) v e)) ∙ sym p.4

-- a goal that gives one variable a value
one_truth : (out occurs : Variables) (is_yes is_no : Assignment → Type 0) (env : Env) (x : ℕ) (v : Value) → occurs x ≡ true → ((z : ℕ) (w : Value) → value_at env z ≡ Some w → value_at (bound env x v) z ≡ Some w)
    → ((s : Assignment) → Matches occurs s env → s x ≡ v → is_yes s) → ((s : Assignment) → Matches occurs s env → (s x ≡ v → ⊥) → is_no s) → Truthful out occurs is_yes is_no env (one_answer (bound env x v))
one_truth out occurs is_yes is_no env x v within kept_on right wrong = record {
  answers_yes = ((λ s vals h. right s (λ z o w e. h z o w (kept_on z w e)) (h x within v (at_same env x v))), tt);
  others_no = λ d s vals h. elim (decide (same (s x) v) (s x ≡ v) (same-decides (s x) v)) as (λ _. is_no s ⊎ Has (λ env'. IsInstance out occurs s env') (one_answer (bound env x v))) [
    | inl p ↦ inr (inl (λ z o q w e. bound_matches occurs s env x v p.1 h z o w e))
    | inr p ↦ inl (wrong s h p.1)
  ];
}

-- a goal that tests
tested_truth : (out occurs : Variables) (is_yes is_no : Assignment → Type 0) (env : Env) (b : Bool) → ((s : Assignment) → Matches occurs s env → b ≡ true → is_yes s) → ((s : Assignment) → Matches occurs s env → b ≡ false → is_no s)
    → Truthful out occurs is_yes is_no env (tested b env)
tested_truth out occurs is_yes is_no env true right wrong = record {
  answers_yes = ((λ s vals h. right s h refl), tt);
  others_no = λ d s vals h. inr (inl (λ x o p v e. h x o v e));
}
tested_truth out occurs is_yes is_no env false right wrong = record { answers_yes = tt; others_no = λ d s vals h. inl (wrong s h refl) }

kept_bound : (env : Env) (x : ℕ) (v : Value) → is_some (value_at env x) ≡ false → (z : ℕ) (w : Value) → value_at env z ≡ Some w → value_at (bound env x v) z ≡ Some w
kept_bound env x v h z w e = at_other env x z v (λ q. clash (is_some_of (value_at env z) w e) (ap (λ (n : ℕ). is_some (value_at env n)) q ∙ h)) ∙ e

-- what has arguments for a symbol is made of it
constructed : (c d : ℕ) (vs ws : Values) → c ≡ d → ws ≡ vs → Con d ws ≡ Con c vs
constructed c d vs ws p q = cc

made_of_fields : (t : Symbol) (v : Value) (vs : Values) → fields t v ≡ Some vs → v ≡ made t vs
made_of_fields (ConstructorSymbol c n) (Con d ws) vs h = let p = fields_constructor c n d ws vs h in constructed c d vs ws p.0 p.2
made_of_fields (ConstructorSymbol c n) (Int d) vs h = absurd (none_not h)
made_of_fields (ConstructorSymbol c n) (Text d) vs h = absurd (none_not h)
made_of_fields (Integer c) (Int d) vs h = ap Int (sym (fields_integer c d vs h).0)
made_of_fields (Integer c) (Con d ws) vs h = absurd (none_not h)
made_of_fields (Integer c) (Text d) vs h = absurd (none_not h)
made_of_fields (TextSymbol c) (Text d) vs h = ap Text (sym (fields_text c d vs h).0)
made_of_fields (TextSymbol c) (Int d) vs h = absurd (none_not h)
made_of_fields (TextSymbol c) (Con d ws) vs h = absurd (none_not h)

assigned_none : (s : Assignment) (ys : List ℕ) → ys ≡ [] → assigned s ys ≡ none
assigned_none s ys e = ap (assigned s) e

-- the arguments of what is made of a symbol over variables are their values
assigned_fields : (t : Symbol) (ys : List ℕ) (s : Assignment) (vs : Values) → FitsArguments t ys → fields t (made t (assigned s ys)) ≡ Some vs → assigned s ys ≡ vs
assigned_fields (ConstructorSymbol c n) ys s vs l h = (fields_constructor c n c (assigned s ys) vs h).2
assigned_fields (Integer c) ys s vs l h = assigned_none s ys l.1 ∙ (fields_integer c c vs h).1
assigned_fields (TextSymbol c) ys s vs l h = assigned_none s ys l ∙ (fields_text c c vs h).1

same_values : {c : ℕ} {vs ws : Values} → Con c vs ≡ Con c ws → vs ≡ ws
same_values h = cc

decide_values : (vs ws : Values) → (vs ≡ ws) ⊎ (vs ≡ ws → ⊥)
decide_values vs ws = elim (decide (same (Con 0 vs) (Con 0 ws)) (Con 0 vs ≡ Con 0 ws) (same-decides (Con 0 vs) (Con 0 ws))) as (λ _. (vs ≡ ws) ⊎ (vs ≡ ws → ⊥)) [
  | inl p ↦ inl (same_values p.1)
  | inr p ↦ inr (λ e. p.1 (ap (Con 0) e))
]

-- Given are the module, the modes of each predicate, the types of the variables, and what type variables stand for.
module _ (known : Module) (modes : ℕ → List ModeDecl) (types i : Instance) where
  assigned_count : (j : Instance) (ys : List ℕ) (ts : List TypeExpr) (s : Assignment) → VariablesHave known types j ys ts → count (assigned s ys) ≡ length ts
  assigned_count j [] [] s h = refl
  assigned_count j [] (t ∷ ts) s h = absurd h
  assigned_count j (y ∷ ys) [] s h = absurd h
  assigned_count j (y ∷ ys) (t ∷ ts) s h = ap suc (assigned_count j ys ts s h.1)

  -- a typed split is over as many variables as its symbol has arguments
  pub assigned_many : (x : ℕ) (t : Symbol) (ys : List ℕ) (s : Assignment) → HasSymbol known types x t ys → IsMany t (assigned s ys)
  assigned_many x (ConstructorSymbol c n) ys s h =
      let m = may_have known types i x c n ys h in
      sym (assigned_count m.instance ys m.found.1.args s m.places ∙ found_arity known.types c n m.found m.there)
  assigned_many x (Integer c) ys s h = tt
  assigned_many x (TextSymbol c) ys s h = tt

  abbrev pub Good : Variables → Bound → List ℕ → BasicGoal → Type 0
  Good out b outs g = GoodBasicGoal known modes types i out b outs g

  abbrev pub BasicTruth : Variables → BasicGoal → (Assignment → Type 0) → (Assignment → Type 0) → Env → Trace → Type 0
  BasicTruth out g is_yes is_no env t = Truthful out (among (variables_of g)) is_yes is_no env t

  pub assign_truth : (out : Variables) (b : Bound) (seen : Known) (outs : List ℕ) (x y : ℕ) (env : Env) → Good out b outs (Assign x y) → Before known modes types i out b seen (Assign x y) env
      → BasicTruth out (Assign x y) (λ s. s x ≡ s y) (λ s. s x ≡ s y → ⊥) env (binds env x (value_at env y))
  assign_truth out b seen outs x y env h fits =
      let y_in = among_there y x (y ∷ []) (among_here y []) in
      let r = value_of known types i out b (among (x ∷ y ∷ [])) seen env fits y y_in h.good.0 in
      subst (λ (o : Option Value). BasicTruth out (Assign x y) (λ s. s x ≡ s y) (λ s. s x ≡ s y → ⊥) env (binds env x o)) (sym r.1)
      (one_truth out (among (x ∷ y ∷ [])) _ _ env x r.0 (among_here x (y ∷ [])) (kept_bound env x r.0 (fits.bounds x (among_here x (y ∷ [])) ∙ h.good.1))
      (λ s m e. e ∙ sym (m y y_in r.0 r.1)) (λ s m n e. n (e ∙ m y y_in r.0 r.1)))

  pub build_truth : (out : Variables) (b : Bound) (seen : Known) (outs : List ℕ) (x : ℕ) (t : Symbol) (ys : List ℕ) (env : Env) → Good out b outs (Build x t ys) → Before known modes types i out b seen (Build x t ys) env
      → BasicTruth out (Build x t ys) (λ s. s x ≡ made t (assigned s ys)) (λ s. s x ≡ made t (assigned s ys) → ⊥) env (binds env x (made_if t (values_at env ys)))
  build_truth out b seen outs x t ys env h fits =
      let r = values_there b env ys h.good.0 (λ y m. fits.bounds y (among_there y x ys m)) in
      let is : (s : Assignment) → Matches (among (x ∷ ys)) s env → assigned s ys ≡ r.0 = λ s k. assigned_is s env ys r.0 r.1 (λ y m v e. k y (among_there y x ys m) v e) in
      subst (λ (o : Option Values). BasicTruth out (Build x t ys) (λ s. s x ≡ made t (assigned s ys)) (λ s. s x ≡ made t (assigned s ys) → ⊥) env (binds env x (made_if t o))) (sym r.1)
      (one_truth out (among (x ∷ ys)) _ _ env x (made t r.0) (among_here x ys) (kept_bound env x (made t r.0) (fits.bounds x (among_here x ys) ∙ h.good.1))
      (λ s k e. e ∙ sym (ap (made t) (is s k))) (λ s k n e. n (e ∙ ap (made t) (is s k))))

  filled_values : (j : Instance) (s : Assignment) (env : Env) (ys : List ℕ) (ts : List TypeExpr) (vs : Values) (b : Bound) → AreFree b ys → VariablesHave known types j ys ts → Instances known types i j vs ts
      → ((y : ℕ) → among ys y ≡ true → (v : Value) → value_at (filled env ys vs) y ≡ Some v → s y ≡ v) → assigned s ys ≡ vs
  filled_values j s env [] [] none b f h t k = refl
  filled_values j s env [] [] (more v vs) b f h t k = absurd t
  filled_values j s env [] (u ∷ ts) vs b f h t k = absurd h
  filled_values j s env (y ∷ ys) [] vs b f h t k = absurd h
  filled_values j s env (y ∷ ys) (u ∷ ts) none b f h t k = absurd t
  filled_values j s env (y ∷ ys) (u ∷ ts) (more v vs) b f h t k =
      both_are (k y (among_here y ys) v (filled_other (bound env y v) ys vs y f.1 ∙ at_same env y v))
      (filled_values j s (bound env y v) ys ts vs b f.2 h.1 t.1 (λ z m w e. k z (among_there z y ys m) w e))

  split_some_truth : AreGoodTypes known.types → (out : Variables) (b : Bound) (seen : Known) (outs : List ℕ) (x : ℕ) (t : Symbol) (ys : List ℕ) (env : Env) → Good out b outs (Split x t ys)
      → Before known modes types i out b seen (Split x t ys) env
      → (v : Value) → value_at env x ≡ Some v → HasType known.types v (replaced i (types x)) → (o : Option Values) → o ≡ fields t v
      → BasicTruth out (Split x t ys) (λ s. s x ≡ made t (assigned s ys)) (λ s. s x ≡ made t (assigned s ys) → ⊥) env (filled_if env ys o)
  split_some_truth declared out b seen outs x t ys env good fits v e ty None f = record {
    answers_yes = tt;
    others_no = λ d s vals h. inl (λ q. none_not (f ∙ ap (fields t) (sym (h x (among_here x ys) v e) ∙ q) ∙ fields_of_made t (assigned s ys) (assigned_many x t ys s good.typed)));
  }
  split_some_truth declared out b seen outs x t ys env good fits v e ty (Some vs) f =
      let q = fields_typed known types i declared x t ys v vs ty good.typed good.literal (sym f) in
      let x_free : among ys x ≡ false = elim (either_way (among ys x)) as (λ _. among ys x ≡ false) [ inl p ↦ clash good.good.0 (free_not b ys good.good.1 x p) | inr p ↦ p ] in
      record {
        answers_yes = (
          (λ s vals h.
              h x (among_here x ys) v (filled_other env ys vs x x_free ∙ e) ∙ made_of_fields t v vs (sym f)
              ∙ ap (made t) (sym (filled_values q.0 s env ys q.1 vs b good.good.1 q.2 q.3 (λ y m w k. h y (among_there y x ys m) w k)))),
          tt,
        );
        others_no = λ d s vals h. elim (decide_values (assigned s ys) vs) as (λ _. (s x ≡ made t (assigned s ys) → ⊥) ⊎ Has (λ env'. IsInstance out (among (x ∷ ys)) s env') (one_answer (filled env ys vs))) [
          | inl p ↦ inr (inl (λ z o m w k. filled_matches (among (x ∷ ys)) s env ys vs p h z o w k))
          | inr p ↦ inl (λ m. p (assigned_fields t ys s vs good.literal (ap (fields t) (sym m ∙ h x (among_here x ys) v e) ∙ sym f)))
        ];
      }

  pub split_truth : AreGoodTypes known.types → (out : Variables) (b : Bound) (seen : Known) (outs : List ℕ) (x : ℕ) (t : Symbol) (ys : List ℕ) (env : Env) → Good out b outs (Split x t ys)
      → Before known modes types i out b seen (Split x t ys) env
      → BasicTruth out (Split x t ys) (λ s. s x ≡ made t (assigned s ys)) (λ s. s x ≡ made t (assigned s ys) → ⊥) env (split env t ys (value_at env x))
  split_truth declared out b seen outs x t ys env good fits =
      let r = value_of known types i out b (among (x ∷ ys)) seen env fits x (among_here x ys) good.good.0 in
      subst (λ (o : Option Value). BasicTruth out (Split x t ys) (λ s. s x ≡ made t (assigned s ys)) (λ s. s x ≡ made t (assigned s ys) → ⊥) env (split env t ys o)) (sym r.1)
      (split_some_truth declared out b seen outs x t ys env good fits r.0 r.1 r.2 (fields t r.0) refl)

  two_truth : (out occurs : Variables) (env : Env) (holds : Value → Value → Bool) (is_yes is_no : Assignment → Type 0) (v w : Value) (o p : Option Value) → o ≡ Some v → p ≡ Some w
      → ((s : Assignment) → Matches occurs s env → holds v w ≡ true → is_yes s) → ((s : Assignment) → Matches occurs s env → holds v w ≡ false → is_no s) → Truthful out occurs is_yes is_no env (compared env holds o p)
  two_truth out occurs env holds is_yes is_no v w None p e f r q = absurd (none_not e)
  two_truth out occurs env holds is_yes is_no v w (Some z) None e f r q = absurd (none_not f)
  two_truth out occurs env holds is_yes is_no v w (Some z) (Some u) e f r q =
      let k : holds z u ≡ holds v w = ap (λ (m : Value). holds m u) (same_some e) ∙ ap (holds v) (same_some f) in
      tested_truth out occurs is_yes is_no env (holds z u) (λ s h m. r s h (sym k ∙ m)) (λ s h m. q s h (sym k ∙ m))

  pub test_truth : (out : Variables) (b : Bound) (seen : Known) (outs : List ℕ) (x y : ℕ) (env : Env) → Good out b outs (Test x y) → Before known modes types i out b seen (Test x y) env
      → BasicTruth out (Test x y) (λ s. s x ≡ s y) (λ s. s x ≡ s y → ⊥) env (compared env same (value_at env x) (value_at env y))
  test_truth out b seen outs x y env good fits =
      let x_in = among_here x (y ∷ []) in
      let y_in = among_there y x (y ∷ []) (among_here y []) in
      let r = value_of known types i out b (among (x ∷ y ∷ [])) seen env fits x x_in good.good.0 in
      let q = value_of known types i out b (among (x ∷ y ∷ [])) seen env fits y y_in good.good.1 in
      two_truth out (among (x ∷ y ∷ [])) env same _ _ r.0 q.0 (value_at env x) (value_at env y) r.1 q.1
      (λ s h m. h x x_in r.0 r.1 ∙ (same-decides r.0 q.0).0 m ∙ sym (h y y_in q.0 q.1))
      (λ s h m e. clash ((same-decides r.0 q.0).1 (sym (h x x_in r.0 r.1) ∙ e ∙ h y y_in q.0 q.1)) m)

  pub compare_truth : (out : Variables) (b : Bound) (seen : Known) (outs : List ℕ) (test : Comparison) (x y : ℕ) (env : Env) → Good out b outs (Compare test x y) → Before known modes types i out b seen (Compare test x y) env
      → BasicTruth out (Compare test x y) (λ s. comparison_of test (s x) (s y) ≡ true) (λ s. comparison_of test (s x) (s y) ≡ true → ⊥) env (compared env (comparison_of test) (value_at env x) (value_at env y))
  compare_truth out b seen outs test x y env good fits =
      let x_in = among_here x (y ∷ []) in
      let y_in = among_there y x (y ∷ []) (among_here y []) in
      let r = value_of known types i out b (among (x ∷ y ∷ [])) seen env fits x x_in good.good.0 in
      let q = value_of known types i out b (among (x ∷ y ∷ [])) seen env fits y y_in good.good.1 in
      let k : (s : Assignment) → Matches (among (x ∷ y ∷ [])) s env → comparison_of test (s x) (s y) ≡ comparison_of test r.0 q.0
      = λ s h. ap (λ (m : Value). comparison_of test m (s y)) (h x x_in r.0 r.1) ∙ ap (comparison_of test r.0) (h y y_in q.0 q.1) in
      two_truth out (among (x ∷ y ∷ [])) env (comparison_of test) _ _ r.0 q.0 (value_at env x) (value_at env y) r.1 q.1 (λ s h m. k s h ∙ m) (λ s h m e. clash (sym (k s h) ∙ e) m)

  result_truth : (out : Variables) (b : Bound) (seen : Known) (outs : List ℕ) (op : Operation) (z x y : ℕ) (env : Env) → Good out b outs (Arithmetic op z x y) → Before known modes types i out b seen (Arithmetic op z x y) env
      → (n m : ℤ) → ((s : Assignment) → Matches (among (z ∷ x ∷ y ∷ [])) s env → arithmetic_of op (s x) (s y) ≡ given (arithmetic op n m)) → (r : Result) → r ≡ arithmetic op n m
      → BasicTruth out (Arithmetic op z x y) (λ s. arithmetic_of op (s x) (s y) ≡ Some (s z)) (λ s. arithmetic_of op (s x) (s y) ≡ Some (s z) → ⊥) env (computed env z r)
  result_truth out b seen outs op z x y env good fits n m k ZeroDivisor e = record { answers_yes = tt; others_no = λ d s vals h. absurd d }
  result_truth out b seen outs op z x y env good fits n m k (Gives j) e =
      one_truth out (among (z ∷ x ∷ y ∷ [])) _ _ env z (Int j) (among_here z (x ∷ y ∷ [])) (kept_bound env z (Int j) (fits.bounds z (among_here z (x ∷ y ∷ [])) ∙ good.good.2))
      (λ s h q. k s h ∙ ap given (sym e) ∙ ap Some (sym q)) (λ s h q w. q (same_some (sym w ∙ k s h ∙ ap given (sym e))))

  pub arithmetic_truth : (out : Variables) (b : Bound) (seen : Known) (outs : List ℕ) (op : Operation) (z x y : ℕ) (env : Env) → Good out b outs (Arithmetic op z x y) → Before known modes types i out b seen (Arithmetic op z x y) env
      → BasicTruth out (Arithmetic op z x y) (λ s. arithmetic_of op (s x) (s y) ≡ Some (s z)) (λ s. arithmetic_of op (s x) (s y) ≡ Some (s z) → ⊥) env (operated env op z (value_at env x) (value_at env y))
  arithmetic_truth out b seen outs op z x y env good fits =
      let x_in = among_there x z (x ∷ y ∷ []) (among_here x (y ∷ [])) in
      let y_in = among_there y z (x ∷ y ∷ []) (among_there y x (y ∷ []) (among_here y [])) in
      let n = int_at known types i out b (among (z ∷ x ∷ y ∷ [])) seen env fits x x_in good.good.0 good.typed.1 in
      let m = int_at known types i out b (among (z ∷ x ∷ y ∷ [])) seen env fits y y_in good.good.1 good.typed.2 in
      subst (λ (t : Trace). BasicTruth out (Arithmetic op z x y) (λ s. arithmetic_of op (s x) (s y) ≡ Some (s z)) (λ s. arithmetic_of op (s x) (s y) ≡ Some (s z) → ⊥) env t)
      (operated_is env op z n.0 m.0 (value_at env x) (value_at env y) n.1 m.1)
      (result_truth out b seen outs op z x y env good fits n.0 m.0
      (λ s h. ap (λ (u : Value). arithmetic_of op u (s y)) (h x x_in (Int n.0) n.1) ∙ ap (arithmetic_of op (Int n.0)) (h y y_in (Int m.0) m.1)) (arithmetic op n.0 m.0) refl)

  pub raise_truth : (out : Variables) (b : Bound) (seen : Known) (outs : List ℕ) (x : ℕ) (env : Env) → Good out b outs (Raise x) → Before known modes types i out b seen (Raise x) env
      → BasicTruth out (Raise x) (λ s. ⊥) (λ s. Unit {0}) env (raised (value_at env x))
  raise_truth out b seen outs x env good fits =
      let r = value_of known types i out b (among (x ∷ [])) seen env fits x (among_here x []) good.good in
      let t = text_of known types i r.0 (subst (λ (u : TypeExpr). HasType known.types r.0 (replaced i u)) good.typed r.2) in
      subst (λ (o : Option Value). BasicTruth out (Raise x) (λ s. ⊥) (λ s. Unit {0}) env (raised o)) (sym (r.1 ∙ ap Some t.1))
      (record { answers_yes = tt; others_no = λ d s vals h. inl tt })
