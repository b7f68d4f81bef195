-- The truth law of every goal, by induction on the tree.
use Rattle.std.proofs.Common.{◌≡◌, ◌⊎◌, inl, inr, ℕ, true, false, ◌==◌, ◌||◌, if◌then◌else◌, List, [], ◌∷◌, ◌++◌, Option, Some, None, refl, sym, ◌∙◌, subst}
use Rattle.std.specs.List.{AllByRecursion}
use Rattle.std.proofs.lemmas.Bool.Decides.{Decides-eqb}
use Rattle.merc_base.specs.Category.{can_fail_of, most_of}
use Rattle.merc_base.specs.declared.category.Category.{Category}
use Rattle.merc_base.specs.declared.category.Most.TheVariants.{Zero, One}
use Rattle.merc_tree.specs.declared.declarations.Module.{Module}
use Rattle.merc_graded_tree.specs.declared.basic.BasicGoal.{BasicGoal}
use Rattle.merc_graded_tree.specs.declared.basic.BasicGoal.TheVariants.{True, Fail, Assign, Test, Build, Split, Arithmetic, Compare, Raise, Call, Wait, Signal}
use Rattle.merc_graded_tree.specs.declared.basic.Procedure.{Procedure}
use Rattle.merc_graded_tree.specs.declared.entries.Running.{Running}
use Rattle.merc_graded_tree.specs.Nodes.{Node, node, Goal, Basic, Conjunction, Disjunction, Switch, Conditional, Negation, Quantified, Nodes, no_nodes, more_nodes, Arms, no_arms, more_arms, list_of, outputs_of}
use Rattle.merc_graded_tree.specs.Roots.{symbols_of, bodies_of}
use Rattle.merc_graded_tree.specs.Variables.{variables_of, in_goal, in_node, in_nodes, in_arms}
use Rattle.merc_order.specs.Bound.{Bound, with, among}
use Rattle.merc_order.specs.Procedures.{modes_of}
use Rattle.merc_order_laws.specs.Bindings.{Variables}
use Rattle.merc_order_laws.specs.GoodTree.{GoodNode, GoodGoal, GoodNodes, GoodDisjuncts, GoodArms}
use Rattle.merc_order_laws.specs.WrittenGoals.{basic_goals, basic_goals_in, all_basic_goals, arm_basic_goals}
use Rattle.merc_order_laws.proofs.Facts.{or_left, or_right, or_cases, either_way}
use Rattle.merc_order_laws.proofs.Written.{all_left, all_right}
use Rattle.merc_grading.specs.Categories.{conjunction_category, disjunction_category, arms_category}
use Rattle.merc_grading.specs.Known.{symbols_of_type, are_complete, Known, known_behind}
use Rattle.merc_grading.specs.Grading.{given, category_at, categories, handed_on, capped, basic_category, rule}
use Rattle.merc_value.specs.Value.{Value, Values}
use Rattle.merc_meaning.specs.Trace.{Env, Trace, after, first_alone}
use Rattle.merc_meaning.specs.Values.{fields, same}
use Rattle.merc_meaning.specs.Arithmetic.{comparison_of}
use Rattle.merc_meaning.specs.Steps.{value_at, values_at, made_if}
use Rattle.merc_meaning.specs.Runs.{Program, answers_once, once_if, basic_trace, goal_trace, node_trace, all_trace, any_trace, arms_trace}
use Rattle.merc_meaning.specs.Truth.{Judgement, Yes, No, YesGoal, NoGoal, YesAll, NoAny, YesAny, NoAll, YesArm, NoArms}
use Rattle.merc_program_laws.specs.Answers.{Each, Has, Any, Never, Single}
use Rattle.merc_program_laws.specs.Guarding.{HasGuards, GoalHasGuards, AllHaveGuards, ArmsHaveGuards}
use Rattle.merc_program_laws.specs.GoodPrograms.{AreGoodTypes}
use Rattle.merc_program_laws.proofs.Traces.{each_map, never_has, each_after}
use Rattle.merc_program_laws.proofs.Values.{Instance}
use Rattle.merc_program_laws.proofs.Lawful.{Fits, Goes, Lawful}
use Rattle.merc_program_laws.proofs.Knowing.{value_of}
use Rattle.merc_program_laws.proofs.Simple.{GoodBasicGoal}
use Rattle.merc_program_laws.proofs.Calls.{LawfulCalls}
use Rattle.merc_program_laws.proofs.Maxima.{most_is, or_zero}
use Rattle.merc_program_laws.proofs.Graded.{Graded, GradedGoal, GradedAll, GradedEach, GradedArms, handed_or_zero}
use Rattle.merc_program_laws.proofs.Combining.{goes_besides}
use Rattle.merc_program_laws.proofs.TreeCategories.{IsPart, outputs_within, node_law}
use Rattle.merc_program_laws.proofs.Truthful.{IsInstance, Truthful, Grows, then_truth, single_each, single_done, behind_answered, front_answered, single_negated}
use Rattle.merc_program_laws.proofs.SimpleTruth.{assign_truth, test_truth, build_truth, split_truth, arithmetic_truth, compare_truth, raise_truth}
use Rattle.merc_program_laws.proofs.CallTruth.{TruthfulCalls, call_truth, single_called}
use Rattle.merc_program_laws.proofs.Fewer.{node_fewer}
use Rattle.merc_program_laws.proofs.Singles.{NotMany, one_not_many, then_one, or_one, arm_few, conditional_one, single_binds, single_split, single_compared, single_operated, single_raised, single_choose, single_where}
use Rattle.merc_program_laws.proofs.Befores.{narrow, narrow_arm, behind_first}
use Rattle.merc_program_laws.proofs.NodeTruth.{Led, led_single, single_node, node_from_goal}
use Rattle.merc_program_laws.proofs.JoinedTruth.{grows_on, all_zero_no, or_truth, led_first, led_rest, taken_truth, not_truth, if_truth}

itself : (x : ℕ) → (x == x) ≡ true
itself x = (Decides-eqb x x).1 refl

-- Given is a program whose calls are lawful and truthful.
module _ (known : Module) (declared : AreGoodTypes known.types) (program : Program) (y n : Judgement) (call : Procedure → Env → Trace) (calls : LawfulCalls known program call) (truth : TruthfulCalls known y n call) (types i : Instance) where
  abbrev First : Variables → Bound → Variables → Known → Env → Type 0
  First out b occurs seen env = Fits known types i out b occurs seen env

  abbrev Parts : List BasicGoal → Type 0
  Parts gs = AllByRecursion (IsPart known types i) gs

  abbrev GoodIn : Variables → Bound → Node → Type 0
  GoodIn out b m = GoodNode (modes_of known.preds) out b m

  abbrev GradedIn : Known → Node → Type 0
  GradedIn seen m = Graded known.types (modes_of known.preds) types seen m

  abbrev After : Variables → Bound → Node → Known → Env → Env → Type 0
  After out b m seen env env1 = Goes known types i out (with b (among (outputs_of m))) (in_node m) (known_behind m seen) env env1

  abbrev trace_of : Node → Env → Trace
  trace_of m env = node_trace program call m env

  abbrev TrueGoal : Variables → Goal → Env → Type 0
  TrueGoal out g env = Truthful out (in_goal g) (λ s. YesGoal y n out g s) (λ s. NoGoal y n out g s) env (goal_trace program call g env)

  abbrev LedGoal : Variables → Goal → Env → Type 0
  LedGoal out g env = Led out (in_goal g) (λ s. NoGoal y n out g s) env (goal_trace program call g env)

  abbrev TrueNode : Variables → Node → Env → Type 0
  TrueNode out m env = Truthful out (in_node m) (λ s. Yes y n out m s) (λ s. No y n out m s) env (trace_of m env)

  law_of : (m : Node) (out : Variables) (b : Bound) (seen : Known) (env : Env) → GoodIn out b m → GradedIn seen m → Parts (basic_goals m) → First out b (in_node m) seen env → Lawful (After out b m seen env) (category_at m) (trace_of m env)
  law_of m out b seen env good has parts fits = node_law known declared program call calls types i m out b seen env good has parts fits

  grows_of : (m : Node) (out : Variables) (b : Bound) (seen : Known) (env : Env) → GoodIn out b m → GradedIn seen m → Parts (basic_goals m) → First out b (in_node m) seen env → Each (Grows (in_node m) env) (trace_of m env)
  grows_of m out b seen env good has parts fits = each_map _ _ (trace_of m env) (λ env' g. (g.keeps, g.own)) (law_of m out b seen env good has parts fits).goes

  -- Goals that hold no others.

  abbrev GoodHere : Variables → Bound → List ℕ → BasicGoal → Type 0
  GoodHere out b outs g = GoodBasicGoal known (modes_of known.preds) types i out b outs g

  basic_truth : (g : BasicGoal) (outs : List ℕ) (out : Variables) (b : Bound) (seen : Known) (env : Env) → GoodHere out b outs g → First out b (among (variables_of g)) seen env → TrueGoal out (Basic g) env
  basic_truth True outs out b seen env h fits = record { answers_yes = ((λ s vals a. tt), tt); others_no = λ d s vals a. inr (inl (λ x o p v e. a x o v e)) }
  basic_truth Fail outs out b seen env h fits = record { answers_yes = tt; others_no = λ d s vals a. inl tt }
  basic_truth (Assign x z) outs out b seen env h fits = assign_truth known (modes_of known.preds) types i out b seen outs x z env h fits
  basic_truth (Test x z) outs out b seen env h fits = test_truth known (modes_of known.preds) types i out b seen outs x z env h fits
  basic_truth (Build x t zs) outs out b seen env h fits = build_truth known (modes_of known.preds) types i out b seen outs x t zs env h fits
  basic_truth (Split x t zs) outs out b seen env h fits = split_truth known (modes_of known.preds) types i declared out b seen outs x t zs env h fits
  basic_truth (Arithmetic op w x z) outs out b seen env h fits = arithmetic_truth known (modes_of known.preds) types i out b seen outs op w x z env h fits
  basic_truth (Compare test x z) outs out b seen env h fits = compare_truth known (modes_of known.preds) types i out b seen outs test x z env h fits
  basic_truth (Raise x) outs out b seen env h fits = raise_truth known (modes_of known.preds) types i out b seen outs x env h fits
  basic_truth (Call p args) outs out b seen env h fits = call_truth known program y n call calls truth types i out b seen outs p args env h.typed h.good fits
  basic_truth (Wait x k) outs out b seen env h fits = absurd h.good
  basic_truth (Signal x k) outs out b seen env h fits = absurd h.good

  single_basic : (g : BasicGoal) (outs : List ℕ) (out : Variables) (b : Bound) (seen : Known) (env : Env) → GoodHere out b outs g → First out b (among (variables_of g)) seen env
      → most_of (basic_category known.types (modes_of known.preds) types seen g) ≡ One → Single (basic_trace program call g env)
  single_basic True outs out b seen env h fits one = refl
  single_basic Fail outs out b seen env h fits one = tt
  single_basic (Assign x z) outs out b seen env h fits one = single_binds env x (value_at env z)
  single_basic (Test x z) outs out b seen env h fits one = single_compared env same (value_at env x) (value_at env z)
  single_basic (Build x t zs) outs out b seen env h fits one = single_binds env x (made_if t (values_at env zs))
  single_basic (Split x t zs) outs out b seen env h fits one = single_split env t zs (value_at env x)
  single_basic (Arithmetic op w x z) outs out b seen env h fits one = single_operated env op w (value_at env x) (value_at env z)
  single_basic (Compare test x z) outs out b seen env h fits one = single_compared env (comparison_of test) (value_at env x) (value_at env z)
  single_basic (Raise x) outs out b seen env h fits one = single_raised (value_at env x)
  single_basic (Call p args) outs out b seen env h fits one = single_called known program y n call calls truth types i out b seen outs p args env h.typed h.good fits one
  single_basic (Wait x k) outs out b seen env h fits one = absurd h.good
  single_basic (Signal x k) outs out b seen env h fits one = absurd h.good

  -- Goals of a maximum of 1.

  single_at : (m : Node) (env : Env) → NotMany (most_of (category_at m)) → Single (trace_of m env)
  single_at m env h = single_node program call m env h

  single_list : (ns : Nodes) (env : Env) → most_of (conjunction_category (categories (list_of ns))) ≡ One → Single (all_trace program call ns env)
  single_list no_nodes env h = refl
  single_list (more_nodes m ns) env h =
      let k = then_one (category_at m) (conjunction_category (categories (list_of ns))) h in
      single_each (λ env'. all_trace program call ns env') (trace_of m env) (single_at m env (one_not_many (most_of (category_at m)) k.0)) (λ env'. single_list ns env' k.1)

  single_arms : (arms : Arms) (o : Option Value) (env : Env) → NotMany (most_of (arms_category (categories (bodies_of arms)))) → Single (arms_trace program call arms o env)
  single_arms no_arms o env h = tt
  single_arms (more_arms t m arms) None env h = tt
  single_arms (more_arms t m arms) (Some v) env h =
      let k = arm_few (category_at m) (arms_category (categories (bodies_of arms))) h in
      single_where (fields t v) (trace_of m env) (arms_trace program call arms (Some v) env) (single_at m env k.0) (single_arms arms (Some v) env k.1)

  switch_one : (x : ℕ) (arms : Arms) (seen : Known) → most_of (rule known.types (modes_of known.preds) types seen (Switch x arms)) ≡ One → NotMany (most_of (arms_category (categories (bodies_of arms))))
  switch_one x arms seen h =
      one_not_many (most_of (arms_category (categories (bodies_of arms))))
      (sym (most_is ((if are_complete (symbols_of_type known.types (types x)) (symbols_of arms) then false else true) || can_fail_of (arms_category (categories (bodies_of arms)))) (most_of (arms_category (categories (bodies_of arms))))) ∙ h)

  single_if : (c t e : Node) (P : Env → Type 0) (env : Env) → Lawful P (category_at c) (trace_of c env) → most_of (rule known.types (modes_of known.preds) types [] (Conditional c t e)) ≡ One
      → Single (goal_trace program call (Conditional c t e) env)
  single_if c t e P env law h =
      let k = conditional_one (category_at c) (category_at t) (category_at e) h in
      single_choose (λ env1. trace_of t env1) (trace_of e env) (trace_of c env) (single_at c env k.0) (λ env1. single_at t env1 k.1)
      (λ never d. elim (either_way (can_fail_of (category_at c))) as (λ _. Single (trace_of e env)) [
        | inl q ↦ single_at e env (k.2 q)
        | inr q ↦ absurd (never_has Any (trace_of c env) never (law.some_answer q d))
      ])

  -- goals of a maximum of 0 do not answer
  zero_each : (ns : Nodes) (out : Variables) (b : Bound) (whole : Variables) (seen : Known) (env : Env) → ((x : ℕ) → in_nodes ns x ≡ true → whole x ≡ true) → GoodDisjuncts (modes_of known.preds) out b ns
      → GradedEach known.types (modes_of known.preds) types seen ns → Parts (all_basic_goals ns) → First out b whole seen env → most_of (disjunction_category (categories (list_of ns))) ≡ Zero → Each Never (any_trace program call ns env)
  zero_each no_nodes out b whole seen env sub good has parts fits z = tt
  zero_each (more_nodes m ns) out b whole seen env sub good has parts fits z =
      let k = or_zero (category_at m) (disjunction_category (categories (list_of ns))) z in
      each_after Never (trace_of m env) (any_trace program call ns env)
      ((law_of m out b seen env good.0 has.0 (all_left (IsPart known types i) (basic_goals m) (all_basic_goals ns) parts)
      (narrow known types i out out b (in_node m) whole seen env fits (λ x h. sub x (or_left (in_node m x) (in_nodes ns x) h)) (λ x h. h))).no_answer k.0)
      (zero_each ns out b whole seen env (λ x h. sub x (or_right (in_node m x) (in_nodes ns x) h)) good.1 has.1 (all_right (IsPart known types i) (basic_goals m) (all_basic_goals ns) parts) fits k.1)

  -- Goals one after the other.

  first_fits : (m : Node) (ns : Nodes) (out : Variables) (b : Bound) (seen : Known) (env : Env) → First out b (in_nodes (more_nodes m ns)) seen env → First (with out (in_nodes ns)) b (in_node m) seen env
  first_fits m ns out b seen env fits = narrow known types i out (with out (in_nodes ns)) b (in_node m) (in_nodes (more_nodes m ns)) seen env fits (λ x h. or_left (in_node m x) (in_nodes ns x) h) (λ x h. or_left (out x) (in_nodes ns x) h)

  rest_fits : (m : Node) (ns : Nodes) (out : Variables) (b : Bound) (seen : Known) (env env1 : Env) → GoodIn (with out (in_nodes ns)) b m → First out b (in_nodes (more_nodes m ns)) seen env → After (with out (in_nodes ns)) b m seen env env1
      → First (with out (in_node m)) (with b (among (outputs_of m))) (in_nodes ns) (known_behind m seen) env1
  rest_fits m ns out b seen env env1 good fits goes =
      behind_first known types i out (with out (in_nodes ns)) (with out (in_node m)) b (in_node m) (in_nodes ns) (outputs_of m) seen (known_behind m seen) env env1 (outputs_within known types i m (with out (in_nodes ns)) b good)
      (λ x h. or_right (out x) (in_nodes ns x) h) (λ x h. or_right (out x) (in_node m x) h) (λ x h. or_left (out x) (in_node m x) h) fits goes

  -- What is known at the goals of a conjunction behind the first.
  abbrev next_known : Running → Known → Node → Known
  next_known running seen m = handed_on running (category_at m) (known_behind m seen) seen

  -- behind the first goal of a conjunction, which hands on all that it tells where it answers
  abbrev Handed : Running → Variables → Bound → Node → Known → Env → Env → Type 0
  Handed running out b m seen env env1 = After out b m seen env env1 × (next_known running seen m ≡ known_behind m seen)

  abbrev GradedIns : Running → Known → Nodes → Type 0
  GradedIns running seen ns = GradedAll known.types (modes_of known.preds) types running seen ns

  handed_goes : (running : Running) (m : Node) (out : Variables) (b : Bound) (seen : Known) (env : Env) → Lawful (After out b m seen env) (category_at m) (trace_of m env) → Each (Handed running out b m seen env) (trace_of m env)
  handed_goes running m out b seen env law =
      goes_besides (After out b m seen env) (next_known running seen m ≡ known_behind m seen) (category_at m) (trace_of m env) law (handed_or_zero running (category_at m) (known_behind m seen) seen)

  rest_graded : (running : Running) (m : Node) (ns : Nodes) (seen : Known) → next_known running seen m ≡ known_behind m seen → GradedIns running (next_known running seen m) ns → GradedIns running (known_behind m seen) ns
  rest_graded running m ns seen same has = subst (λ (k : Known). GradedIns running k ns) same has

  list_grows : (running : Running) (ns : Nodes) (out : Variables) (b : Bound) (seen : Known) (env : Env) → GoodNodes (modes_of known.preds) out b ns → GradedIns running seen ns → Parts (all_basic_goals ns)
      → First out b (in_nodes ns) seen env → Each (Grows (in_nodes ns) env) (all_trace program call ns env)
  list_grows running no_nodes out b seen env good has parts fits = (((λ x v e. e), (λ x o. refl)), tt)
  list_grows running (more_nodes m ns) out b seen env good has parts fits =
      grows_on (in_node m) (in_nodes ns) env (λ env1. all_trace program call ns env1) (trace_of m env) (Handed running (with out (in_nodes ns)) b m seen env)
      (handed_goes running m (with out (in_nodes ns)) b seen env
      (law_of m (with out (in_nodes ns)) b seen env good.0 has.0 (all_left (IsPart known types i) (basic_goals m) (all_basic_goals ns) parts) (first_fits m ns out b seen env fits)))
      (λ env1 g. (g.0.keeps, g.0.own))
      (λ env1 g. list_grows running ns (with out (in_node m)) (with b (among (outputs_of m))) (known_behind m seen) env1 good.1 (rest_graded running m ns seen g.1 has.1)
      (all_right (IsPart known types i) (basic_goals m) (all_basic_goals ns) parts) (rest_fits m ns out b seen env env1 good.0 fits g.0))

  -- If-then-else.

  module _ (c t e : Node) (out : Variables) (b : Bound) (seen : Known) (env : Env) (fits : First out b (in_goal (Conditional c t e)) seen env) where
    fits_condition : First (with out (with (in_node t) (in_node e))) b (in_node c) seen env
    fits_condition = narrow known types i out (with out (with (in_node t) (in_node e))) b (in_node c) (in_goal (Conditional c t e)) seen env fits (λ x h. or_left (in_node c x) (in_node t x || in_node e x) h) (λ x h. or_left (out x) (in_node t x || in_node e x) h)

    fits_own : First (with out (in_node e)) b (in_node c) seen env
    fits_own = narrow known types i out (with out (in_node e)) b (in_node c) (in_goal (Conditional c t e)) seen env fits (λ x h. or_left (in_node c x) (in_node t x || in_node e x) h) (λ x h. or_left (out x) (in_node e x) h)

    fits_else : First (with out (with (in_node c) (in_node t))) b (in_node e) seen env
    fits_else =
        narrow known types i out (with out (with (in_node c) (in_node t))) b (in_node e) (in_goal (Conditional c t e)) seen env fits
        (λ x h. or_right (in_node c x) (in_node t x || in_node e x) (or_right (in_node t x) (in_node e x) h)) (λ x h. or_left (out x) (in_node c x || in_node t x) h)

    fits_then : (env1 : Env) → GoodIn (with out (with (in_node t) (in_node e))) b c → After (with out (with (in_node t) (in_node e))) b c seen env env1
        → First (with out (with (in_node c) (in_node e))) (with b (among (outputs_of c))) (in_node t) (known_behind c seen) env1
    fits_then env1 good goes =
        behind_first known types i out (with out (with (in_node t) (in_node e))) (with out (with (in_node c) (in_node e))) b (in_node c) (in_node t) (outputs_of c) seen (known_behind c seen) env env1
        (outputs_within known types i c (with out (with (in_node t) (in_node e))) b good)
        (λ x h. or_right (out x) (in_node t x || in_node e x) (or_left (in_node t x) (in_node e x) h))
        (λ x h. or_right (out x) (in_node c x || in_node e x) (or_left (in_node c x) (in_node e x) h))
        (λ x h. or_left (out x) (in_node c x || in_node e x) h)
        (narrow known types i out out b (with (in_node c) (in_node t)) (in_goal (Conditional c t e)) seen env fits
        (λ x h. elim (or_cases (in_node c x) (in_node t x) h) as (λ _. in_goal (Conditional c t e) x ≡ true) [
          | inl p ↦ or_left (in_node c x) (in_node t x || in_node e x) p
          | inr p ↦ or_right (in_node c x) (in_node t x || in_node e x) (or_left (in_node t x) (in_node e x) p)
        ])
        (λ x h. h))
        goes

    good_own : GoodIn (with out (with (in_node t) (in_node e))) b c → GoodIn (with out (in_node e)) b c
    good_own good = node_fewer (modes_of known.preds) c (with out (in_node e)) (with out (with (in_node t) (in_node e))) b
        (λ x h. elim (or_cases (out x) (in_node e x) h) as (λ _. with out (with (in_node t) (in_node e)) x ≡ true) [
          | inl p ↦ or_left (out x) (in_node t x || in_node e x) p
          | inr p ↦ or_right (out x) (in_node t x || in_node e x) (or_right (in_node t x) (in_node e x) p)
        ])
        good

  mutual
    pub node_truth : (m : Node) (out : Variables) (b : Bound) (seen : Known) (env : Env) → GoodIn out b m → GradedIn seen m → HasGuards m → Parts (basic_goals m) → First out b (in_node m) seen env → TrueNode out m env
    node_truth (node g outs cat span) out b seen env good has guards parts fits =
        let goal = goal_truth g outs out b seen env good.2 has.1 guards parts fits in
        let r : Category = rule known.types (modes_of known.preds) types seen g in
        let law : Lawful (After out b (node g outs cat span) seen env) (capped outs r) (once_if (answers_once outs (Some (capped outs r))) (goal_trace program call g env)) =
        subst (λ (o : Option Category). Lawful (After out b (node g outs cat span) seen env) (given o) (once_if (answers_once outs o) (goal_trace program call g env))) has.0 (law_of (node g outs cat span) out b seen env good has parts fits) in
        subst (λ (o : Option Category). Truthful out (in_goal g) (λ s. Yes y n out (node g outs o span) s) (λ s. No y n out (node g outs o span) s) env (once_if (answers_once outs o) (goal_trace program call g env))) (sym has.0)
        (node_from_goal known types i y n out b seen (known_behind (node g outs cat span) seen) g outs r span env (goal_trace program call g env) fits law goal (λ one. goal_led g outs out b seen env good.2 has.1 guards parts fits goal one))

    goal_truth : (g : Goal) (outs : List ℕ) (out : Variables) (b : Bound) (seen : Known) (env : Env) → GoodGoal (modes_of known.preds) out b outs g → GradedGoal known.types (modes_of known.preds) types seen g → GoalHasGuards g
        → Parts (basic_goals_in g) → First out b (in_goal g) seen env → TrueGoal out g env
    goal_truth (Basic g) outs out b seen env good has guards parts fits = basic_truth g outs out b seen env (record { good = good; typed = parts.0.0; literal = parts.0.1 }) fits
    goal_truth (Conjunction running ns) outs out b seen env good has guards parts fits = list_truth running ns out b seen env good.0 has guards parts fits
    goal_truth (Disjunction ns) outs out b seen env good has guards parts fits = each_truth ns out b (in_nodes ns) seen env (λ x o. o) good.0 has guards parts fits
    goal_truth (Switch x arms) outs out b seen env good has guards parts fits =
        let x_in : in_goal (Switch x arms) x ≡ true = or_left (x == x) (in_arms arms x) (itself x) in
        let r = value_of known types i out b (in_goal (Switch x arms)) seen env fits x x_in good.0 in
        subst (λ (o : Option Value). Truthful out (in_goal (Switch x arms)) (λ s. YesGoal y n out (Switch x arms) s) (λ s. NoGoal y n out (Switch x arms) s) env (arms_trace program call arms o env)) (sym r.1)
        (arms_truth arms out (with out (among (x ∷ []))) b (in_goal (Switch x arms)) seen env x r.0 r.1 x_in (or_right (out x) (among (x ∷ []) x) (or_left (x == x) false (itself x)))
        (λ z h. or_right (z == x) (in_arms arms z) h) (λ z h. or_left (out z) (among (x ∷ []) z) h) good.1 has guards parts fits)
    goal_truth (Conditional c t e) outs out b seen env good has guards parts fits =
        let parts_c : Parts (basic_goals c) = all_left (IsPart known types i) (basic_goals c) (basic_goals t ++ basic_goals e) parts in
        let rest : Parts (basic_goals t ++ basic_goals e) = all_right (IsPart known types i) (basic_goals c) (basic_goals t ++ basic_goals e) parts in
        let parts_t : Parts (basic_goals t) = all_left (IsPart known types i) (basic_goals t) (basic_goals e) rest in
        let parts_e : Parts (basic_goals e) = all_right (IsPart known types i) (basic_goals t) (basic_goals e) rest in
        let out_c : Variables = with out (with (in_node t) (in_node e)) in
        let out_t : Variables = with out (with (in_node c) (in_node e)) in
        let out_e : Variables = with out (with (in_node c) (in_node t)) in
        let own = good_own c t e out b seen env fits good.0 in
        let fit_c = fits_condition c t e out b seen env fits in
        let fit_o = fits_own c t e out b seen env fits in
        let fit_e = fits_else c t e out b seen env fits in
        if_truth y n known types i b seen (known_behind c seen) env c t e out (trace_of c env) (trace_of e env) (λ env1. trace_of t env1) good.1 fits
        (After out_c b c seen env) (law_of c out_c b seen env good.0 has.0 parts_c fit_c).goes (λ env1 g. (g.keeps, g.own))
        (node_truth c out_c b seen env good.0 has.0 guards.0 parts_c fit_c)
        (law_of c (with out (in_node e)) b seen env own has.0 parts_c fit_o).goes
        (node_truth c (with out (in_node e)) b seen env own has.0 guards.0 parts_c fit_o)
        (λ env1 g. grows_of t out_t (with b (among (outputs_of c))) (known_behind c seen) env1 good.2 has.1 parts_t (fits_then c t e out b seen env fits env1 good.0 g))
        (λ env1 g. node_truth t out_t (with b (among (outputs_of c))) (known_behind c seen) env1 good.2 has.1 guards.1 parts_t (fits_then c t e out b seen env fits env1 good.0 g))
        (grows_of e out_e b seen env good.4 has.2 parts_e fit_e)
        (node_truth e out_e b seen env good.4 has.2 guards.2 parts_e fit_e)
    goal_truth (Negation m) outs out b seen env good has guards parts fits =
        not_truth y n known types i b seen (known_behind m seen) env m out (trace_of m env) good.1 fits (law_of m out b seen env good.0 has parts fits).goes (node_truth m out b seen env good.0 has guards parts fits)
    goal_truth (Quantified own m) outs out b seen env good has guards parts fits = node_truth m out b seen env good.0 has guards parts fits

    -- the first answer, of a goal of a maximum of 1
    goal_led : (g : Goal) (outs : List ℕ) (out : Variables) (b : Bound) (seen : Known) (env : Env) → GoodGoal (modes_of known.preds) out b outs g → GradedGoal known.types (modes_of known.preds) types seen g → GoalHasGuards g
        → Parts (basic_goals_in g) → First out b (in_goal g) seen env → TrueGoal out g env → most_of (rule known.types (modes_of known.preds) types seen g) ≡ One → LedGoal out g env
    goal_led (Basic g) outs out b seen env good has guards parts fits goal one =
        led_single out (among (variables_of g)) _ _ env (basic_trace program call g env) goal (single_basic g outs out b seen env (record { good = good; typed = parts.0.0; literal = parts.0.1 }) fits one)
    goal_led (Conjunction running ns) outs out b seen env good has guards parts fits goal one = led_single out (in_nodes ns) _ _ env (all_trace program call ns env) goal (single_list ns env one)
    goal_led (Disjunction ns) outs out b seen env good has guards parts fits goal one = each_led ns out b (in_nodes ns) seen env (λ x o. o) good.0 has guards parts fits one
    goal_led (Switch x arms) outs out b seen env good has guards parts fits goal one =
        led_single out (in_goal (Switch x arms)) _ _ env (arms_trace program call arms (value_at env x) env) goal (single_arms arms (value_at env x) env (switch_one x arms seen one))
    goal_led (Conditional c t e) outs out b seen env good has guards parts fits goal one =
        led_single out (in_goal (Conditional c t e)) _ _ env (goal_trace program call (Conditional c t e) env) goal
        (single_if c t e (After (with out (with (in_node t) (in_node e))) b c seen env) env
        (law_of c (with out (with (in_node t) (in_node e))) b seen env good.0 has.0 (all_left (IsPart known types i) (basic_goals c) (basic_goals t ++ basic_goals e) parts) (fits_condition c t e out b seen env fits)) one)
    goal_led (Negation m) outs out b seen env good has guards parts fits goal one = led_single out (in_node m) _ _ env (goal_trace program call (Negation m) env) goal (single_negated env (trace_of m env))
    goal_led (Quantified own m) outs out b seen env good has guards parts fits goal one = led_single out (in_node m) _ _ env (trace_of m env) goal (single_at m env (one_not_many (most_of (category_at m)) one))

    list_truth : (running : Running) (ns : Nodes) (out : Variables) (b : Bound) (seen : Known) (env : Env) → GoodNodes (modes_of known.preds) out b ns → GradedIns running seen ns → AllHaveGuards ns
        → Parts (all_basic_goals ns) → First out b (in_nodes ns) seen env → Truthful out (in_nodes ns) (λ s. YesAll y n out ns s) (λ s. NoAny y n out ns s) env (all_trace program call ns env)
    list_truth running no_nodes out b seen env good has guards parts fits = record { answers_yes = ((λ s vals a. tt), tt); others_no = λ d s vals a. inr (inl (λ x o p v e. a x o v e)) }
    list_truth running (more_nodes m ns) out b seen env good has guards parts fits =
        let parts_m : Parts (basic_goals m) = all_left (IsPart known types i) (basic_goals m) (all_basic_goals ns) parts in
        let parts_ns : Parts (all_basic_goals ns) = all_right (IsPart known types i) (basic_goals m) (all_basic_goals ns) parts in
        let fits_m = first_fits m ns out b seen env fits in
        then_truth out (with out (in_nodes ns)) (with out (in_node m)) (in_node m) (in_nodes ns) _ _ _ _ env (λ env1. all_trace program call ns env1) (trace_of m env)
        (λ x o. or_right (out x) (in_nodes ns x) o) (λ x o. or_left (out x) (in_nodes ns x) o) (λ x o. or_left (out x) (in_node m x) o)
        (Handed running (with out (in_nodes ns)) b m seen env) (handed_goes running m (with out (in_nodes ns)) b seen env (law_of m (with out (in_nodes ns)) b seen env good.0 has.0 parts_m fits_m))
        (λ env1 g. (g.0.keeps, g.0.own))
        (node_truth m (with out (in_nodes ns)) b seen env good.0 has.0 guards.0 parts_m fits_m)
        (λ env1 g. list_grows running ns (with out (in_node m)) (with b (among (outputs_of m))) (known_behind m seen) env1 good.1 (rest_graded running m ns seen g.1 has.1) parts_ns
        (rest_fits m ns out b seen env env1 good.0 fits g.0))
        (λ env1 g. list_truth running ns (with out (in_node m)) (with b (among (outputs_of m))) (known_behind m seen) env1 good.1 (rest_graded running m ns seen g.1 has.1) guards.1 parts_ns
        (rest_fits m ns out b seen env env1 good.0 fits g.0))

    each_truth : (ns : Nodes) (out : Variables) (b : Bound) (whole : Variables) (seen : Known) (env : Env) → ((x : ℕ) → in_nodes ns x ≡ true → whole x ≡ true) → GoodDisjuncts (modes_of known.preds) out b ns
        → GradedEach known.types (modes_of known.preds) types seen ns → AllHaveGuards ns → Parts (all_basic_goals ns) → First out b whole seen env
        → Truthful out whole (λ s. YesAny y n out ns s) (λ s. NoAll y n out ns s) env (any_trace program call ns env)
    each_truth no_nodes out b whole seen env sub good has guards parts fits = record { answers_yes = tt; others_no = λ d s vals a. inl tt }
    each_truth (more_nodes m ns) out b whole seen env sub good has guards parts fits =
        let parts_m : Parts (basic_goals m) = all_left (IsPart known types i) (basic_goals m) (all_basic_goals ns) parts in
        let sub_m : (x : ℕ) → in_node m x ≡ true → whole x ≡ true = λ x h. sub x (or_left (in_node m x) (in_nodes ns x) h) in
        let fits_m = narrow known types i out out b (in_node m) whole seen env fits sub_m (λ x h. h) in
        or_truth y n m ns out whole env (trace_of m env) (any_trace program call ns env) sub_m (grows_of m out b seen env good.0 has.0 parts_m fits_m)
        (node_truth m out b seen env good.0 has.0 guards.0 parts_m fits_m)
        (each_truth ns out b whole seen env (λ x h. sub x (or_right (in_node m x) (in_nodes ns x) h)) good.1 has.1 guards.1 (all_right (IsPart known types i) (basic_goals m) (all_basic_goals ns) parts) fits)

    each_led : (ns : Nodes) (out : Variables) (b : Bound) (whole : Variables) (seen : Known) (env : Env) → ((x : ℕ) → in_nodes ns x ≡ true → whole x ≡ true) → GoodDisjuncts (modes_of known.preds) out b ns
        → GradedEach known.types (modes_of known.preds) types seen ns → AllHaveGuards ns → Parts (all_basic_goals ns) → First out b whole seen env → most_of (disjunction_category (categories (list_of ns))) ≡ One
        → Led out whole (λ s. NoAll y n out ns s) env (any_trace program call ns env)
    each_led no_nodes out b whole seen env sub good has guards parts fits one there s vals a = absurd there
    each_led (more_nodes m ns) out b whole seen env sub good has guards parts fits one there s vals a =
        let parts_m : Parts (basic_goals m) = all_left (IsPart known types i) (basic_goals m) (all_basic_goals ns) parts in
        let parts_ns : Parts (all_basic_goals ns) = all_right (IsPart known types i) (basic_goals m) (all_basic_goals ns) parts in
        let sub_m : (x : ℕ) → in_node m x ≡ true → whole x ≡ true = λ x h. sub x (or_left (in_node m x) (in_nodes ns x) h) in
        let sub_ns : (x : ℕ) → in_nodes ns x ≡ true → whole x ≡ true = λ x h. sub x (or_right (in_node m x) (in_nodes ns x) h) in
        let fits_m = narrow known types i out out b (in_node m) whole seen env fits sub_m (λ x h. h) in
        let tm : Trace = trace_of m env in
        let u : Trace = any_trace program call ns env in
        elim (or_one (category_at m) (disjunction_category (categories (list_of ns))) one) as (λ _. NoAll y n out (more_nodes m ns) s ⊎ Has (λ env'. IsInstance out whole s env') (first_alone (after tm u))) [
          | inl k ↦
              let single = single_at m env (one_not_many (most_of (category_at m)) k.0) in
              let there_m = front_answered tm u (zero_each ns out b whole seen env sub_ns good.1 has.1 parts_ns fits k.1) there in
              led_first y n m ns out whole env tm u s single (all_zero_no y n ns out s k.1) (grows_of m out b seen env good.0 has.0 parts_m fits_m) a
              ((node_truth m out b seen env good.0 has.0 guards.0 parts_m fits_m).others_no (single_done tm single there_m) s vals (λ x o v e. a x (sub_m x o) v e))
          | inr k ↦
              let never = (law_of m out b seen env good.0 has.0 parts_m fits_m).no_answer k.0 in
              let behind = behind_answered tm u never there in
              led_rest y n m ns out whole env tm u s k.0 never behind.0 (each_led ns out b whole seen env sub_ns good.1 has.1 guards.1 parts_ns fits k.1 behind.1 s vals a)
        ]

    arms_truth : (arms : Arms) (out outm : Variables) (b : Bound) (whole : Variables) (seen : Known) (env : Env) (x : ℕ) (v : Value) → value_at env x ≡ Some v → whole x ≡ true → outm x ≡ true → ((z : ℕ) → in_arms arms z ≡ true → whole z ≡ true)
        → ((z : ℕ) → out z ≡ true → outm z ≡ true) → GoodArms (modes_of known.preds) outm b arms → GradedArms known.types (modes_of known.preds) types seen x arms → ArmsHaveGuards x arms → Parts (arm_basic_goals arms)
        → First out b whole seen env → Truthful out whole (λ s. YesArm y n outm arms s) (λ s. NoArms y n outm arms s) env (arms_trace program call arms (Some v) env)
    arms_truth no_arms out outm b whole seen env x v at x_in x_out sub in1 good has guards parts fits = record { answers_yes = tt; others_no = λ d s vals a. inl tt }
    arms_truth (more_arms t m arms) out outm b whole seen env x v at x_in x_out sub in1 good has guards parts fits =
        let parts_m : Parts (basic_goals m) = all_left (IsPart known types i) (basic_goals m) (arm_basic_goals arms) parts in
        let sub_m : (z : ℕ) → in_node m z ≡ true → whole z ≡ true = λ z h. sub z (or_left (in_node m z) (in_arms arms z) h) in
        let fits_m : (vs : Values) → fields t v ≡ Some vs → First outm b (in_node m) ((x, t) ∷ seen) env = λ vs e. narrow_arm known types i out outm b (in_node m) whole seen env x t v vs fits sub_m in1 at e in
        taken_truth y n known types i t m arms out outm whole x v env (trace_of m env) (arms_trace program call arms (Some v) env) (fields t v) refl at x_in x_out sub_m in1 guards parts
        (λ vs e. grows_of m outm b ((x, t) ∷ seen) env good.0 has.0 parts_m (fits_m vs e))
        (λ vs e. node_truth m outm b ((x, t) ∷ seen) env good.0 has.0 guards.2 parts_m (fits_m vs e))
        (arms_truth arms out outm b whole seen env x v at x_in x_out (λ z h. sub z (or_right (in_node m z) (in_arms arms z) h)) in1 good.1 has.1 guards.3 (all_right (IsPart known types i) (basic_goals m) (arm_basic_goals arms) parts) fits)
