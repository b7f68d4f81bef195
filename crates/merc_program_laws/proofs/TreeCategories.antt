-- The category law of every goal, by induction on the tree.
use Rattle.std.proofs.Common.{◌≡◌, ◌⊎◌, inl, inr, ℕ, Bool, true, false, ◌==◌, ◌||◌, ◌&&◌, if◌then◌else◌, is_some, List, [], ◌∷◌, ◌++◌, Option, Some, None, refl, ap, sym, ◌∙◌, subst}
use Rattle.std.specs.List.{AllByRecursion, list_all}
use Rattle.std.proofs.lemmas.Bool.Decides.{Decides-eqb}
use Rattle.merc_base.specs.Category.{can_fail_of, most_of}
use Rattle.merc_base.specs.declared.category.Category.{Category}
use Rattle.merc_base.specs.declared.category.Category.TheVariants.{Failure}
use Rattle.merc_base.specs.declared.category.Most.TheVariants.{Zero}
use Rattle.merc_tree.specs.Types.{TypeExpr, replaced}
use Rattle.merc_tree.specs.declared.declarations.Module.{Module}
use Rattle.merc_goal_tree.specs.declared.goal.Symbol.{Symbol}
use Rattle.merc_goal_tree.specs.declared.goal.Symbol.TheVariants.{Constructor}
use Rattle.merc_graded_tree.specs.declared.basic.BasicGoal.{BasicGoal}
use Rattle.merc_graded_tree.specs.declared.basic.Procedure.{Procedure}
use Rattle.merc_graded_tree.specs.declared.entries.Running.{Running}
use Rattle.merc_graded_tree.specs.Nodes.{Node, node, Goal, Basic, Conjunction, Disjunction, Switch, Conditional, Negation, Quantified, Nodes, no_nodes, more_nodes, Arms, no_arms, more_arms, list_of, outputs_of}
use Rattle.merc_graded_tree.specs.Roots.{symbols_of, bodies_of}
use Rattle.merc_graded_tree.specs.Variables.{in_goal, in_node, in_nodes, in_arms}
use Rattle.merc_type_check.specs.Typing.{IsTypedGoal}
use Rattle.merc_order.specs.Bound.{Bound, with, among}
use Rattle.merc_order.specs.Procedures.{modes_of}
use Rattle.merc_order_laws.specs.Bindings.{Variables, Binds, ArmBinds}
use Rattle.merc_order_laws.specs.GoodTree.{behind_nodes, node_ends, GoodNode, GoodGoal, GoodNodes, GoodDisjuncts, GoodArms, DisjunctsBind, ArmsBind}
use Rattle.merc_order_laws.specs.WrittenGoals.{basic_goals, basic_goals_in, all_basic_goals, arm_basic_goals, written_goal}
use Rattle.merc_order_laws.proofs.Facts.{clash, or_left, or_right, or_cases, either_way, and_left, and_right}
use Rattle.merc_order_laws.proofs.Written.{all_left, all_right}
use Rattle.merc_grading.specs.Categories.{conjunction_category, disjunction_category, arms_category, conditional_category, greater_most}
use Rattle.merc_grading.specs.Known.{same_symbol, symbols_of_type, has_symbol, are_complete, Known, known_behind, known_behind_goal, known_behind_all}
use Rattle.merc_grading.specs.Grading.{given, category_at, categories, handed_on, rule}
use Rattle.merc_value.specs.Value.{Value, Con, Values}
use Rattle.merc_meaning.specs.Trace.{Env, Trace, choose}
use Rattle.merc_meaning.specs.Values.{count, fields}
use Rattle.merc_meaning.specs.Steps.{value_at}
use Rattle.merc_meaning.specs.Runs.{Program, answers_once, once_if, where_some, goal_trace, node_trace, all_trace, any_trace, arms_trace}
use Rattle.merc_program_laws.specs.ValueTypes.{HasType}
use Rattle.merc_program_laws.specs.Answers.{Each, Has, Any, Never, IsDone}
use Rattle.merc_program_laws.specs.GoodPrograms.{AreGoodTypes, HasLiteral}
use Rattle.merc_program_laws.proofs.Values.{Instance, or_not_left, or_not_right, or_false, or_with, none_not, is_some_of, symbol_decides, fields_of_constructor}
use Rattle.merc_program_laws.proofs.Lawful.{Fits, Goes, Lawful}
use Rattle.merc_program_laws.proofs.Knowing.{knows_on, knows_more, one_law, none_law, goes_to, goes_same, value_of, value_symbol}
use Rattle.merc_program_laws.proofs.Calls.{LawfulCalls, basic_law}
use Rattle.merc_program_laws.proofs.Maxima.{zero_is, sure_is, fails_or, greater_zero}
use Rattle.merc_program_laws.proofs.Combining.{cut_law, then_law, or_law, looser, zero_law, if_law, not_law}
use Rattle.merc_program_laws.proofs.Graded.{Graded, GradedGoal, GradedAll, GradedEach, GradedArms, ends_zero, handed_or_zero}

-- Arms.

-- some arm is taken for a value
abbrev arm_for : Value → Arms → Bool
arm_for v no_arms = false
arm_for v (more_arms s n arms) = is_some (fields s v) || arm_for v arms

abbrev of_arms : Arms → Category
of_arms arms = arms_category (categories (bodies_of arms))

record LawfulArms (Q : Env → Type 0) (arms : Arms) (v : Value) (t : Trace) : Type 0 where
  pub goes : Each Q t
  pub no_answer : most_of (of_arms arms) ≡ Zero → Each Never t
  pub some_answer : can_fail_of (of_arms arms) ≡ false → arm_for v arms ≡ true → IsDone t → Has Any t

arms_zero : (s : Symbol) (n : Node) (arms : Arms) → most_of (of_arms (more_arms s n arms)) ≡ Zero → (most_of (category_at n) ≡ Zero) × (most_of (of_arms arms) ≡ Zero)
arms_zero s n arms z =
    greater_zero (most_of (category_at n)) (most_of (of_arms arms)) (zero_is (can_fail_of (category_at n) || can_fail_of (of_arms arms)) (greater_most (most_of (category_at n)) (most_of (of_arms arms))) z)

arms_sure : (s : Symbol) (n : Node) (arms : Arms) → can_fail_of (of_arms (more_arms s n arms)) ≡ false → (can_fail_of (category_at n) ≡ false) × (can_fail_of (of_arms arms) ≡ false)
arms_sure s n arms z =
    fails_or (can_fail_of (category_at n)) (can_fail_of (of_arms arms)) (sure_is (can_fail_of (category_at n) || can_fail_of (of_arms arms)) (greater_most (most_of (category_at n)) (most_of (of_arms arms))) z)

other_arm : (o : Option Values) (b : Bool) → o ≡ None → (is_some o || b) ≡ true → b ≡ true
other_arm None b e h = h
other_arm (Some vs) b e h = absurd (none_not (sym e))

taken_law : (Q : Env → Type 0) (s : Symbol) (n : Node) (arms : Arms) (v : Value) (t u : Trace) (o : Option Values) → o ≡ fields s v → ((vs : Values) → o ≡ Some vs → Lawful Q (category_at n) t) → LawfulArms Q arms v u
    → LawfulArms Q (more_arms s n arms) v (where_some o t u)
taken_law Q s n arms v t u None e first rest = record {
  goes = rest.goes;
  no_answer = λ z. rest.no_answer (arms_zero s n arms z).1;
  some_answer = λ c h d. rest.some_answer (arms_sure s n arms c).1 (other_arm (fields s v) (arm_for v arms) (sym e) h) d;
}
taken_law Q s n arms v t u (Some vs) e first rest =
    let law = first vs refl in
    record {
      goes = law.goes;
      no_answer = λ z. law.no_answer (arms_zero s n arms z).0;
      some_answer = λ c h d. law.some_answer (arms_sure s n arms c).0 d;
    }

arm_of : (arms : Arms) (c : ℕ) (vs : Values) → has_symbol (symbols_of arms) (Constructor c (count vs)) ≡ true → arm_for (Con c vs) arms ≡ true
arm_of no_arms c vs h = clash h refl
arm_of (more_arms s n arms) c vs h = elim (or_cases (same_symbol (Constructor c (count vs)) s) (has_symbol (symbols_of arms) (Constructor c (count vs))) h) as (λ _. arm_for (Con c vs) (more_arms s n arms) ≡ true) [
  | inl p ↦ or_left (is_some (fields s (Con c vs))) (arm_for (Con c vs) arms)
      (is_some_of (fields s (Con c vs)) vs (ap (λ (z : Symbol). fields z (Con c vs)) (sym ((symbol_decides (Constructor c (count vs)) s).0 p)) ∙ fields_of_constructor c (count vs) vs refl))
  | inr p ↦ or_right (is_some (fields s (Con c vs))) (arm_for (Con c vs) arms) (arm_of arms c vs p)
]

all_of : (test : Symbol → Bool) (ss : List Symbol) (s : Symbol) → list_all test ss ≡ true → has_symbol ss s ≡ true → test s ≡ true
all_of test [] s h k = clash k refl
all_of test (u ∷ ss) s h k = elim (or_cases (same_symbol s u) (has_symbol ss s) k) as (λ _. test s ≡ true) [
  | inl p ↦ ap test ((symbol_decides s u).0 p) ∙ and_left (test u) (list_all test ss) h
  | inr p ↦ all_of test ss s (and_right (test u) (list_all test ss) h) p
]

complete_of : (b : Bool) → (if b then false else true) ≡ false → b ≡ true
complete_of true h = refl
complete_of false h = clash refl h

-- Given are the module, the types of the variables, and what type variables stand for.
module _ (known : Module) (types i : Instance) where
  covers_case : AreGoodTypes known.types → (t : TypeExpr) (arms : Arms) (v : Value) (o : Option (List Symbol)) → symbols_of_type known.types t ≡ o → are_complete o (symbols_of arms) ≡ true → HasType known.types v (replaced i t)
      → arm_for v arms ≡ true
  covers_case declared t arms v None e h k = clash h refl
  covers_case declared t arms v (Some ss) e h k =
      let r = value_symbol known types i declared t v ss k e in
      ap (λ (z : Value). arm_for z arms) r.2 ∙ arm_of arms r.0 r.1 (all_of (λ s. has_symbol (symbols_of arms) s) ss (Constructor r.0 (count r.1)) h r.3)

  -- a value of a type whose symbols all have arms has one
  covers : AreGoodTypes known.types → (t : TypeExpr) (arms : Arms) (v : Value) → are_complete (symbols_of_type known.types t) (symbols_of arms) ≡ true → HasType known.types v (replaced i t) → arm_for v arms ≡ true
  covers declared t arms v h k = covers_case declared t arms v (symbols_of_type known.types t) refl h k

  -- what is said of each part that holds no others
  abbrev pub IsPart : BasicGoal → Type 0
  IsPart g = IsTypedGoal known types (written_goal g) × HasLiteral g

  abbrev GoodIn : Variables → Bound → Node → Type 0
  GoodIn out b n = GoodNode (modes_of known.preds) out b n

  pub outputs_within : (n : Node) (out : Variables) (b : Bound) → GoodIn out b n → (v : ℕ) → among (outputs_of n) v ≡ true → in_node n v ≡ true
  outputs_within (node g outs cat span) out b good v h = good.0 v h

  abbrev G : Variables → Bound → Variables → Known → Env → Env → Type 0
  G out b occurs seen env env' = Goes known types i out b occurs seen env env'

  abbrev F : Variables → Bound → Variables → Known → Env → Type 0
  F out b occurs seen env = Fits known types i out b occurs seen env

  narrow : (out out1 : Variables) (b : Bound) (occurs whole : Variables) (seen : Known) (env : Env) → F out b whole seen env → ((x : ℕ) → occurs x ≡ true → whole x ≡ true) → ((x : ℕ) → out x ≡ true → out1 x ≡ true) → F out1 b occurs seen env
  narrow out out1 b occurs whole seen env fits sub more_out =
      record { bounds = λ x o. fits.bounds x (sub x o); outer = λ x o h. more_out x (fits.outer x (sub x o) h); typed = fits.typed; knows = fits.knows }

  pub not_in : (a b : Variables) → ((x : ℕ) → a x ≡ true → b x ≡ true) → (x : ℕ) → b x ≡ false → a x ≡ false
  not_in a b sub x h = elim (either_way (a x)) as (λ _. a x ≡ false) [ inl p ↦ clash (sub x p) h | inr p ↦ p ]

  rest_fits : (out out1 out2 : Variables) (b : Bound) (occ1 occ2 : Variables) (outs : List ℕ) (seen seen1 : Known) (env env1 : Env) → ((x : ℕ) → among outs x ≡ true → occ1 x ≡ true)
      → ((x : ℕ) → occ2 x ≡ true → out1 x ≡ true) → ((x : ℕ) → occ1 x ≡ true → out2 x ≡ true) → ((x : ℕ) → out x ≡ true → out2 x ≡ true)
      → F out b (with occ1 occ2) seen env → G out1 (with b (among outs)) occ1 seen1 env env1 → F out2 (with b (among outs)) occ2 seen1 env1
  rest_fits out out1 out2 b occ1 occ2 outs seen seen1 env env1 sub in1 in2 out_in fits goes = record {
    bounds = λ x o. elim (either_way (occ1 x)) as (λ _. is_some (value_at env1 x) ≡ with b (among outs) x) [
      | inl p ↦ goes.bounds x p (in1 x o)
      | inr p ↦ ap is_some (goes.own x p) ∙ fits.bounds x (or_right (occ1 x) (occ2 x) o) ∙ sym (or_false (b x)) ∙ sym (or_with (b x) (among outs x) false (not_in (among outs) occ1 sub x p))
    ];
    outer = λ x o h. elim (or_cases (b x) (among outs x) h) as (λ _. out2 x ≡ true) [
      | inl p ↦ out_in x (fits.outer x (or_right (occ1 x) (occ2 x) o) p)
      | inr p ↦ in2 x (sub x p)
    ];
    typed = goes.typed;
    knows = goes.knows;
  }

  two_goes : (out out1 out2 : Variables) (b1 b2 : Bound) (occ1 occ2 : Variables) (seen1 seen2 : Known) (env env1 env2 : Env) → ((x : ℕ) → out x ≡ true → out1 x ≡ true) → ((x : ℕ) → out x ≡ true → out2 x ≡ true)
      → ((x : ℕ) → occ2 x ≡ false → b2 x ≡ b1 x) → G out1 b1 occ1 seen1 env env1 → G out2 b2 occ2 seen2 env1 env2 → G out b2 (with occ1 occ2) seen2 env env2
  two_goes out out1 out2 b1 b2 occ1 occ2 seen1 seen2 env env1 env2 in1 in2 stays first rest = record {
    keeps = λ x v e. rest.keeps x v (first.keeps x v e);
    own = λ x o. rest.own x (or_not_right (occ1 x) (occ2 x) o) ∙ first.own x (or_not_left (occ1 x) (occ2 x) o);
    bounds = λ x o h. elim (either_way (occ2 x)) as (λ _. is_some (value_at env2 x) ≡ b2 x) [
      | inl p ↦ rest.bounds x p (in2 x h)
      | inr p ↦ elim (or_cases (occ1 x) (occ2 x) o) as (λ _. is_some (value_at env2 x) ≡ b2 x) [
        | inl q ↦ ap is_some (rest.own x p) ∙ first.bounds x q (in1 x h) ∙ sym (stays x p)
        | inr q ↦ clash q p
      ]
    ];
    typed = rest.typed;
    knows = rest.knows;
  }

  widen : (out out1 : Variables) (b b1 : Bound) (occurs whole : Variables) (outs : List ℕ) (seen seen1 : Known) (env env1 : Env) → F out b whole seen env → ((x : ℕ) → occurs x ≡ true → whole x ≡ true) → ((x : ℕ) → out x ≡ true → out1 x ≡ true)
      → ((x : ℕ) → occurs x ≡ false → b1 x ≡ b x) → Binds out whole b outs b1 → G out1 b1 occurs seen1 env env1 → G out (with b (among outs)) whole seen env env1
  widen out out1 b b1 occurs whole outs seen seen1 env env1 fits sub in1 stays binds goes = record {
    keeps = goes.keeps;
    own = λ x o. goes.own x (not_in occurs whole sub x o);
    bounds = λ x o h. elim (either_way (occurs x)) as (λ _. is_some (value_at env1 x) ≡ with b (among outs) x) [
      | inl p ↦ goes.bounds x p (in1 x h) ∙ binds x o h
      | inr p ↦ ap is_some (goes.own x p) ∙ fits.bounds x o ∙ sym (stays x p) ∙ binds x o h
    ];
    typed = goes.typed;
    knows = knows_on seen env env1 fits.knows goes.keeps;
  }

  outs_stay : (b : Bound) (occurs : Variables) (outs : List ℕ) → ((x : ℕ) → among outs x ≡ true → occurs x ≡ true) → (x : ℕ) → occurs x ≡ false → with b (among outs) x ≡ b x
  outs_stay b occurs outs sub x h = or_with (b x) (among outs x) false (not_in (among outs) occurs sub x h) ∙ or_false (b x)

  behind_stays : (ns : Nodes) (out : Variables) (b : Bound) → GoodNodes (modes_of known.preds) out b ns → (x : ℕ) → in_nodes ns x ≡ false → behind_nodes b ns x ≡ b x
  behind_stays no_nodes out b good x h = refl
  behind_stays (more_nodes n ns) out b good x h =
      behind_stays ns _ _ good.1 x (or_not_right (in_node n x) (in_nodes ns x) h)
      ∙ outs_stay b (in_node n) (outputs_of n) (outputs_within n _ b good.0) x (or_not_left (in_node n x) (in_nodes ns x) h)

  -- What an arm owes: nothing where its maximum is 0.
  abbrev Owes : Node → Variables → Variables → Bound → List ℕ → Bound → Type 0
  Owes n out whole b outs behind = (most_of (category_at n) ≡ Zero) ⊎ Binds out whole b outs behind

  owes : (n : Node) (seen : Known) (out out1 : Variables) (b : Bound) (whole : Variables) (outs : List ℕ) (behind : Bound) → GoodIn out1 b n → Graded known.types (modes_of known.preds) types seen n
      → ArmBinds (node_ends (modes_of known.preds) n) out whole b outs behind → Owes n out whole b outs behind
  owes n seen out out1 b whole outs behind good has (inl e) = inl (ends_zero known.types (modes_of known.preds) types n seen out1 b good has e)
  owes n seen out out1 b whole outs behind good has (inr h) = inr h

  -- an arm, within the whole
  arm_law : (n : Node) (out out1 : Variables) (b : Bound) (whole : Variables) (outs : List ℕ) (seen seen1 : Known) (env : Env) (t : Trace) → F out b whole seen env → ((x : ℕ) → in_node n x ≡ true → whole x ≡ true)
      → ((x : ℕ) → out x ≡ true → out1 x ≡ true) → ((x : ℕ) → among (outputs_of n) x ≡ true → in_node n x ≡ true) → Owes n out whole b outs (with b (among (outputs_of n)))
      → Lawful (G out1 (with b (among (outputs_of n))) (in_node n) seen1 env) (category_at n) t → Lawful (G out (with b (among outs)) whole seen env) (category_at n) t
  arm_law n out out1 b whole outs seen seen1 env t fits sub in1 within (inl z) law = zero_law _ _ (category_at n) t law z
  arm_law n out out1 b whole outs seen seen1 env t fits sub in1 within (inr binds) law =
      looser _ _ (category_at n) t
      (λ env1 goes. widen out out1 b (with b (among (outputs_of n))) (in_node n) whole outs seen seen1 env env1 fits sub in1 (outs_stay b (in_node n) (outputs_of n) within) binds goes) law

  known_fits : (out out1 : Variables) (b : Bound) (occurs whole : Variables) (seen : Known) (env : Env) (x : ℕ) (s : Symbol) (v : Value) (vs : Values) → F out b whole seen env → ((y : ℕ) → occurs y ≡ true → whole y ≡ true)
      → ((y : ℕ) → out y ≡ true → out1 y ≡ true) → value_at env x ≡ Some v → fields s v ≡ Some vs → F out1 b occurs ((x, s) ∷ seen) env
  known_fits out out1 b occurs whole seen env x s v vs fits sub in1 at e =
      record { bounds = λ y o. fits.bounds y (sub y o); outer = λ y o h. in1 y (fits.outer y (sub y o) h); typed = fits.typed; knows = knows_more seen env x s v vs fits.knows at e }

-- Given is a program whose calls are lawful.
module _ (known : Module) (declared : AreGoodTypes known.types) (program : Program) (call : Procedure → Env → Trace) (calls : LawfulCalls known program call) (types i : Instance) where
  -- what holds behind a goal, and what is said of its trace
  abbrev After : Variables → Bound → Variables → Known → Env → Env → Type 0
  After out b occurs seen env env' = Goes known types i out b occurs seen env env'

  abbrev First : Variables → Bound → Variables → Known → Env → Type 0
  First out b occurs seen env = Fits known types i out b occurs seen env

  abbrev NodeLaw : Node → Variables → Bound → Known → Env → Type 0
  NodeLaw n out b seen env = Lawful (After out (with b (among (outputs_of n))) (in_node n) (known_behind n seen) env) (category_at n) (node_trace program call n env)

  abbrev ListLaw : Nodes → Variables → Bound → Known → Env → Type 0
  ListLaw ns out b seen env = Lawful (After out (behind_nodes b ns) (in_nodes ns) (known_behind_all ns seen) env) (conjunction_category (categories (list_of ns))) (all_trace program call ns env)

  -- What is known at the goals behind the first is all that is known behind it, unless it has no solution.
  list_step : (n : Node) (ns : Nodes) (out : Variables) (b : Bound) (seen next : Known) (env : Env) → GoodNodes (modes_of known.preds) out b (more_nodes n ns) → NodeLaw n (with out (in_nodes ns)) b seen env
      → (next ≡ known_behind n seen) ⊎ (most_of (category_at n) ≡ Zero)
      → ((env1 : Env) → next ≡ known_behind n seen → After (with out (in_nodes ns)) (with b (among (outputs_of n))) (in_node n) (known_behind n seen) env env1
      → ListLaw ns (with out (in_node n)) (with b (among (outputs_of n))) (known_behind n seen) env1)
      → ListLaw (more_nodes n ns) out b seen env
  list_step n ns out b seen next env good first (inl same) rest =
      then_law _ _ (category_at n) (conjunction_category (categories (list_of ns))) (λ env1. all_trace program call ns env1) (node_trace program call n env) first
      (λ env1 goes. looser _ _ (conjunction_category (categories (list_of ns))) (all_trace program call ns env1)
      (λ env2 goes2. two_goes known types i out _ _ _ _ (in_node n) (in_nodes ns) _ _ env env1 env2 (λ x h. or_left (out x) (in_nodes ns x) h) (λ x h. or_left (out x) (in_node n x) h)
      (behind_stays known types i ns _ _ good.1) goes goes2)
      (rest env1 same goes))
  list_step n ns out b seen next env good first (inr zero) rest =
      then_law (λ env1. ⊥) _ (category_at n) (conjunction_category (categories (list_of ns))) (λ env1. all_trace program call ns env1) (node_trace program call n env)
      (zero_law _ _ (category_at n) (node_trace program call n env) first zero) (λ env1 no. absurd no)

  -- If-then-else.
  module _ (c t e : Node) where
    abbrev Whole : Variables
    Whole x = in_node c x || (in_node t x || in_node e x)

    in_first_two : (x : ℕ) → with (in_node c) (in_node t) x ≡ true → Whole x ≡ true
    in_first_two x h = elim (or_cases (in_node c x) (in_node t x) h) as (λ _. Whole x ≡ true) [
      | inl p ↦ or_left (in_node c x) (in_node t x || in_node e x) p
      | inr p ↦ or_right (in_node c x) (in_node t x || in_node e x) (or_left (in_node t x) (in_node e x) p)
    ]

    in_last : (x : ℕ) → in_node e x ≡ true → Whole x ≡ true
    in_last x h = or_right (in_node c x) (in_node t x || in_node e x) (or_right (in_node t x) (in_node e x) h)

    abbrev AfterCondition : Variables → Bound → Known → Env → Env → Type 0
    AfterCondition out b seen env env1 = After (with out (with (in_node t) (in_node e))) (with b (among (outputs_of c))) (in_node c) (known_behind c seen) env env1

    abbrev ThenLaw : Variables → Bound → Known → Env → Type 0
    ThenLaw out b seen env1 = NodeLaw t (with out (with (in_node c) (in_node e))) (with b (among (outputs_of c))) (known_behind c seen) env1

    then_fits : (out : Variables) (b : Bound) (seen : Known) (env env1 : Env) → First out b Whole seen env → ((v : ℕ) → among (outputs_of c) v ≡ true → in_node c v ≡ true) → AfterCondition out b seen env env1
        → First (with out (with (in_node c) (in_node e))) (with b (among (outputs_of c))) (in_node t) (known_behind c seen) env1
    then_fits out b seen env env1 fits within goes =
        rest_fits known types i out _ _ b (in_node c) (in_node t) (outputs_of c) seen (known_behind c seen) env env1 within
        (λ x h. or_right (out x) (in_node t x || in_node e x) (or_left (in_node t x) (in_node e x) h))
        (λ x h. or_right (out x) (in_node c x || in_node e x) (or_left (in_node c x) (in_node e x) h))
        (λ x h. or_left (out x) (in_node c x || in_node e x) h)
        (narrow known types i out out b (with (in_node c) (in_node t)) Whole seen env fits in_first_two (λ x h. h))
        goes

    -- the then part, with the condition, within the whole
    then_goes : (outs : List ℕ) (out : Variables) (b : Bound) (seen : Known) (env env1 env2 : Env) → GoodGoal (modes_of known.preds) out b outs (Conditional c t e) → First out b Whole seen env
        → Binds out Whole b outs (with (with b (among (outputs_of c))) (among (outputs_of t))) → AfterCondition out b seen env env1
        → After (with out (with (in_node c) (in_node e))) (with (with b (among (outputs_of c))) (among (outputs_of t))) (in_node t) (known_behind t (known_behind c seen)) env1 env2
        → After out (with b (among outs)) Whole seen env env2
    then_goes outs out b seen env env1 env2 good fits binds goes goes2 =
        widen known types i out out b (with (with b (among (outputs_of c))) (among (outputs_of t))) (with (in_node c) (in_node t)) Whole outs seen _ env env2 fits in_first_two
        (λ x o. o)
        (λ x o. outs_stay known types i (with b (among (outputs_of c))) (in_node t) (outputs_of t) (outputs_within known types i t _ _ good.2) x (or_not_right (in_node c x) (in_node t x) o)
        ∙ outs_stay known types i b (in_node c) (outputs_of c) (outputs_within known types i c _ _ good.0) x (or_not_left (in_node c x) (in_node t x) o))
        binds
        (two_goes known types i out _ _ _ _ (in_node c) (in_node t) _ _ env env1 env2 (λ x o. or_left (out x) (in_node t x || in_node e x) o) (λ x o. or_left (out x) (in_node c x || in_node e x) o)
        (λ x o. outs_stay known types i (with b (among (outputs_of c))) (in_node t) (outputs_of t) (outputs_within known types i t _ _ good.2) x o) goes goes2)

    abbrev IfLaw : List ℕ → Variables → Bound → Known → Env → Type 0
    IfLaw outs out b seen env =
        Lawful (After out (with b (among outs)) Whole seen env) (conditional_category (category_at c) (category_at t) (category_at e))
        (choose (λ env1. node_trace program call t env1) (node_trace program call e env) (node_trace program call c env))

    -- what condition and then part owe: nothing where the maximum of one is 0
    abbrev BothOwe : List ℕ → Variables → Bound → Type 0
    BothOwe outs out b =
        (most_of (category_at c) ≡ Zero) ⊎ ((most_of (category_at t) ≡ Zero) ⊎ Binds out Whole b outs (with (with b (among (outputs_of c))) (among (outputs_of t))))

    if_cases : (outs : List ℕ) (out : Variables) (b : Bound) (seen : Known) (env : Env) → GoodGoal (modes_of known.preds) out b outs (Conditional c t e) → First out b Whole seen env → BothOwe outs out b
        → NodeLaw c (with out (with (in_node t) (in_node e))) b seen env → ((env1 : Env) → AfterCondition out b seen env env1 → ThenLaw out b seen env1)
        → Lawful (After out (with b (among outs)) Whole seen env) (category_at e) (node_trace program call e env) → IfLaw outs out b seen env
    if_cases outs out b seen env good fits (inl z) condition then_part else_part =
        if_law Never _ (category_at c) (category_at t) (category_at e) (λ env1. node_trace program call t env1) (node_trace program call c env) (node_trace program call e env)
        (zero_law _ Never (category_at c) _ condition z) (λ env1 h. absurd h) else_part
    if_cases outs out b seen env good fits (inr (inl z)) condition then_part else_part =
        if_law _ _ (category_at c) (category_at t) (category_at e) (λ env1. node_trace program call t env1) (node_trace program call c env) (node_trace program call e env) condition
        (λ env1 h. zero_law _ _ (category_at t) _ (then_part env1 h) z) else_part
    if_cases outs out b seen env good fits (inr (inr binds)) condition then_part else_part =
        if_law _ _ (category_at c) (category_at t) (category_at e) (λ env1. node_trace program call t env1) (node_trace program call c env) (node_trace program call e env) condition
        (λ env1 h. looser _ _ (category_at t) (node_trace program call t env1) (λ env2 h2. then_goes outs out b seen env env1 env2 good fits binds h h2) (then_part env1 h))
        else_part

    both_owe : (outs : List ℕ) (out : Variables) (b : Bound) (seen : Known) → GoodGoal (modes_of known.preds) out b outs (Conditional c t e) → GradedGoal known.types (modes_of known.preds) types seen (Conditional c t e)
        → (p q : Bool) → node_ends (modes_of known.preds) c ≡ p → node_ends (modes_of known.preds) t ≡ q
        → ArmBinds (p && q) out Whole b outs (with (with b (among (outputs_of c))) (among (outputs_of t))) → BothOwe outs out b
    both_owe outs out b seen good has p q k l (inr h) = inr (inr h)
    both_owe outs out b seen good has true true k l (inl h) = clash refl h
    both_owe outs out b seen good has true false k l (inl h) = inr (inl (ends_zero known.types (modes_of known.preds) types t (known_behind c seen) _ _ good.2 has.1 l))
    both_owe outs out b seen good has false q k l (inl h) = inl (ends_zero known.types (modes_of known.preds) types c seen _ b good.0 has.0 k)

    if_goal : (outs : List ℕ) (out : Variables) (b : Bound) (seen : Known) (env : Env) → GoodGoal (modes_of known.preds) out b outs (Conditional c t e)
        → GradedGoal known.types (modes_of known.preds) types seen (Conditional c t e) → First out b Whole seen env
        → NodeLaw c (with out (with (in_node t) (in_node e))) b seen env → ((env1 : Env) → AfterCondition out b seen env env1 → ThenLaw out b seen env1)
        → NodeLaw e (with out (with (in_node c) (in_node t))) b seen env → IfLaw outs out b seen env
    if_goal outs out b seen env good has fits condition then_part else_part =
        if_cases outs out b seen env good fits (both_owe outs out b seen good has (node_ends (modes_of known.preds) c) (node_ends (modes_of known.preds) t) refl refl good.3) condition then_part
        (arm_law known types i e out (with out (with (in_node c) (in_node t))) b Whole outs seen _ env (node_trace program call e env) fits in_last
        (λ x h. or_left (out x) (in_node c x || in_node t x) h) (outputs_within known types i e _ b good.4) (owes known types i e seen out _ b Whole outs _ good.4 has.2 good.5) else_part)

  has_self : (x : ℕ) → (x == x) ≡ true
  has_self x = (Decides-eqb x x).1 refl

  switch_law : (x : ℕ) (arms : Arms) (out : Variables) (b : Bound) (outs : List ℕ) (seen : Known) (env : Env) (v : Value) → value_at env x ≡ Some v → HasType known.types v (replaced i (types x))
      → LawfulArms (After out (with b (among outs)) (in_goal (Switch x arms)) seen env) arms v (arms_trace program call arms (Some v) env)
      → Lawful (After out (with b (among outs)) (in_goal (Switch x arms)) seen env) (rule known.types (modes_of known.preds) types seen (Switch x arms)) (arms_trace program call arms (value_at env x) env)
  switch_law x arms out b outs seen env v at typed law =
      let complete : Bool = are_complete (symbols_of_type known.types (types x)) (symbols_of arms) in
      subst (λ (o : Option Value). Lawful (After out (with b (among outs)) (in_goal (Switch x arms)) seen env) (rule known.types (modes_of known.preds) types seen (Switch x arms)) (arms_trace program call arms o env)) (sym at) (record {
        goes = law.goes;
        no_answer = λ z. law.no_answer (zero_is ((if complete then false else true) || can_fail_of (of_arms arms)) (most_of (of_arms arms)) z);
        some_answer = λ c d.
            let parts = fails_or (if complete then false else true) (can_fail_of (of_arms arms)) (sure_is ((if complete then false else true) || can_fail_of (of_arms arms)) (most_of (of_arms arms)) c) in
            law.some_answer parts.1 (covers known types i declared (types x) arms v (complete_of complete parts.0) typed) d;
      })

  abbrev Parts : List BasicGoal → Type 0
  Parts gs = AllByRecursion (IsPart known types i) gs

  mutual
    pub node_law : (n : Node) (out : Variables) (b : Bound) (seen : Known) (env : Env) → GoodNode (modes_of known.preds) out b n → Graded known.types (modes_of known.preds) types seen n → Parts (basic_goals n)
        → First out b (in_node n) seen env → NodeLaw n out b seen env
    node_law (node g outs cat span) out b seen env good has parts fits =
        subst (λ (o : Option Category). Lawful (After out (with b (among outs)) (in_goal g) (known_behind_goal g seen) env) (given o) (once_if (answers_once outs o) (goal_trace program call g env))) (sym has.0)
        (cut_law (After out (with b (among outs)) (in_goal g) (known_behind_goal g seen) env) outs (rule known.types (modes_of known.preds) types seen g) _ (goal_trace program call g env)
        (goal_law g outs out b seen env good.2 has.1 parts fits))

    goal_law : (g : Goal) (outs : List ℕ) (out : Variables) (b : Bound) (seen : Known) (env : Env) → GoodGoal (modes_of known.preds) out b outs g → GradedGoal known.types (modes_of known.preds) types seen g → Parts (basic_goals_in g)
        → First out b (in_goal g) seen env → Lawful (After out (with b (among outs)) (in_goal g) (known_behind_goal g seen) env) (rule known.types (modes_of known.preds) types seen g) (goal_trace program call g env)
    goal_law (Basic g) outs out b seen env good has parts fits =
        basic_law known program call calls types i declared g out b seen outs env (record { good = good; typed = parts.0.0; literal = parts.0.1 }) fits
    goal_law (Conjunction running ns) outs out b seen env good has parts fits =
        looser _ _ (conjunction_category (categories (list_of ns))) (all_trace program call ns env) (λ env1 goes. goes_to known types i out _ _ _ _ env env1 goes good.1) (list_law running ns out b seen env good.0 has parts fits)
    goal_law (Disjunction ns) outs out b seen env good has parts fits = each_law ns out b (in_nodes ns) outs seen env (λ x h. h) good.0 good.1 has parts fits
    goal_law (Switch x arms) outs out b seen env good has parts fits =
        let r = value_of known types i out b (in_goal (Switch x arms)) seen env fits x (or_left (x == x) (in_arms arms x) (has_self x)) good.0 in
        let law = arms_law arms out (with out (among (x ∷ []))) b (in_goal (Switch x arms)) outs seen env x r.0 r.1 (λ y h. or_right (y == x) (in_arms arms y) h) (λ y h. or_left (out y) (among (x ∷ []) y) h) good.1 good.2 has parts fits in
        switch_law x arms out b outs seen env r.0 r.1 r.2 law
    goal_law (Conditional c t e) outs out b seen env good has parts fits =
        let rest : Parts (basic_goals t ++ basic_goals e) = all_right (IsPart known types i) (basic_goals c) _ parts in
        let fits_c = narrow known types i out (with out (with (in_node t) (in_node e))) b (in_node c) (in_goal (Conditional c t e)) seen env fits (λ x h. or_left (in_node c x) (in_node t x || in_node e x) h) (λ x h. or_left (out x) (in_node t x || in_node e x) h) in
        let fits_e = narrow known types i out (with out (with (in_node c) (in_node t))) b (in_node e) (in_goal (Conditional c t e)) seen env fits (in_last c t e) (λ x h. or_left (out x) (in_node c x || in_node t x) h) in
        if_goal c t e outs out b seen env good has fits
        (node_law c _ b seen env good.0 has.0 (all_left (IsPart known types i) (basic_goals c) _ parts) fits_c)
        (λ env1 goes. node_law t _ (with b (among (outputs_of c))) (known_behind c seen) env1 good.2 has.1 (all_left (IsPart known types i) (basic_goals t) (basic_goals e) rest)
        (then_fits c t e out b seen env env1 fits (outputs_within known types i c _ b good.0) goes))
        (node_law e _ b seen env good.4 has.2 (all_right (IsPart known types i) (basic_goals t) (basic_goals e) rest) fits_e)
    goal_law (Negation n) outs out b seen env good has parts fits =
        not_law _ _ (category_at n) env (node_trace program call n env) (node_law n out b seen env good.0 has parts fits)
        (goes_to known types i out _ _ _ seen env env (goes_same known types i out b (in_node n) seen env fits) good.2)
    goal_law (Quantified own n) outs out b seen env good has parts fits =
        looser _ _ (category_at n) (node_trace program call n env) (λ env1 goes. goes_to known types i out _ _ _ _ env env1 goes good.1) (node_law n out b seen env good.0 has parts fits)

    list_law : (running : Running) (ns : Nodes) (out : Variables) (b : Bound) (seen : Known) (env : Env) → GoodNodes (modes_of known.preds) out b ns → GradedAll known.types (modes_of known.preds) types running seen ns
        → Parts (all_basic_goals ns) → First out b (in_nodes ns) seen env → ListLaw ns out b seen env
    list_law running no_nodes out b seen env good has parts fits = one_law _ env (goes_same known types i out b (in_nodes no_nodes) seen env fits)
    list_law running (more_nodes n ns) out b seen env good has parts fits =
        let fits_n = narrow known types i out (with out (in_nodes ns)) b (in_node n) (in_nodes (more_nodes n ns)) seen env fits (λ x h. or_left (in_node n x) (in_nodes ns x) h) (λ x h. or_left (out x) (in_nodes ns x) h) in
        list_step n ns out b seen (handed_on running (category_at n) (known_behind n seen) seen) env good
        (node_law n _ b seen env good.0 has.0 (all_left (IsPart known types i) (basic_goals n) (all_basic_goals ns) parts) fits_n)
        (handed_or_zero running (category_at n) (known_behind n seen) seen)
        (λ env1 same goes. list_law running ns _ (with b (among (outputs_of n))) (known_behind n seen) env1 good.1
        (subst (λ (k : Known). GradedAll known.types (modes_of known.preds) types running k ns) same has.1) (all_right (IsPart known types i) (basic_goals n) (all_basic_goals ns) parts)
        (rest_fits known types i out _ _ b (in_node n) (in_nodes ns) (outputs_of n) seen (known_behind n seen) env env1 (outputs_within known types i n _ b good.0)
        (λ x h. or_right (out x) (in_nodes ns x) h) (λ x h. or_right (out x) (in_node n x) h) (λ x h. or_left (out x) (in_node n x) h) fits goes))

    each_law : (ns : Nodes) (out : Variables) (b : Bound) (whole : Variables) (outs : List ℕ) (seen : Known) (env : Env) → ((x : ℕ) → in_nodes ns x ≡ true → whole x ≡ true) → GoodDisjuncts (modes_of known.preds) out b ns
        → DisjunctsBind (modes_of known.preds) out whole b outs ns → GradedEach known.types (modes_of known.preds) types seen ns → Parts (all_basic_goals ns) → First out b whole seen env
        → Lawful (After out (with b (among outs)) whole seen env) (disjunction_category (categories (list_of ns))) (any_trace program call ns env)
    each_law no_nodes out b whole outs seen env sub good binds has parts fits = none_law _ Failure (λ e. clash refl e)
    each_law (more_nodes n ns) out b whole outs seen env sub good binds has parts fits =
        let sub_n : (x : ℕ) → in_node n x ≡ true → whole x ≡ true = λ x h. sub x (or_left (in_node n x) (in_nodes ns x) h) in
        or_law _ (category_at n) (disjunction_category (categories (list_of ns))) (node_trace program call n env) (any_trace program call ns env)
        (arm_law known types i n out out b whole outs seen _ env (node_trace program call n env) fits sub_n (λ x h. h) (outputs_within known types i n _ b good.0) (owes known types i n seen out out b whole outs _ good.0 has.0 binds.0)
        (node_law n out b seen env good.0 has.0 (all_left (IsPart known types i) (basic_goals n) (all_basic_goals ns) parts) (narrow known types i out out b (in_node n) whole seen env fits sub_n (λ x h. h))))
        (each_law ns out b whole outs seen env (λ x h. sub x (or_right (in_node n x) (in_nodes ns x) h)) good.1 binds.1 has.1 (all_right (IsPart known types i) (basic_goals n) (all_basic_goals ns) parts) fits)

    arms_law : (arms : Arms) (out out1 : Variables) (b : Bound) (whole : Variables) (outs : List ℕ) (seen : Known) (env : Env) (x : ℕ) (v : Value) → value_at env x ≡ Some v → ((y : ℕ) → in_arms arms y ≡ true → whole y ≡ true)
        → ((y : ℕ) → out y ≡ true → out1 y ≡ true) → GoodArms (modes_of known.preds) out1 b arms → ArmsBind (modes_of known.preds) out whole b outs arms → GradedArms known.types (modes_of known.preds) types seen x arms
        → Parts (arm_basic_goals arms) → First out b whole seen env → LawfulArms (After out (with b (among outs)) whole seen env) arms v (arms_trace program call arms (Some v) env)
    arms_law no_arms out out1 b whole outs seen env x v at sub in1 good binds has parts fits = record { goes = tt; no_answer = λ z. tt; some_answer = λ c h d. clash h refl }
    arms_law (more_arms s n arms) out out1 b whole outs seen env x v at sub in1 good binds has parts fits =
        let sub_n : (y : ℕ) → in_node n y ≡ true → whole y ≡ true = λ y h. sub y (or_left (in_node n y) (in_arms arms y) h) in
        taken_law _ s n arms v (node_trace program call n env) (arms_trace program call arms (Some v) env) (fields s v) refl
        (λ vs e. arm_law known types i n out out1 b whole outs seen _ env (node_trace program call n env) fits sub_n in1 (outputs_within known types i n _ b good.0) (owes known types i n ((x, s) ∷ seen) out out1 b whole outs _ good.0 has.0 binds.0)
        (node_law n out1 b ((x, s) ∷ seen) env good.0 has.0 (all_left (IsPart known types i) (basic_goals n) (arm_basic_goals arms) parts) (known_fits known types i out out1 b (in_node n) whole seen env x s v vs fits sub_n in1 at e)))
        (arms_law arms out out1 b whole outs seen env x v at (λ y h. sub y (or_right (in_node n y) (in_arms arms y) h)) in1 good.1 binds.1 has.1 (all_right (IsPart known types i) (basic_goals n) (arm_basic_goals arms) parts) fits)
