-- The truth law of goals that join others, from theirs.
use Rattle.std.proofs.Common.{◌≡◌, ◌⊎◌, inl, inr, ℕ, true, false, ◌||◌, is_some, List, Option, Some, None, refl, ap, sym, ◌∙◌, subst}
use Rattle.std.specs.List.{AllByRecursion}
use Rattle.merc_base.specs.Category.{most_of}
use Rattle.merc_base.specs.declared.category.Most.TheVariants.{Zero}
use Rattle.merc_tree.specs.declared.declarations.Module.{Module}
use Rattle.merc_goal_tree.specs.declared.goal.Symbol.{Symbol}
use Rattle.merc_graded_tree.specs.declared.basic.BasicGoal.{BasicGoal}
use Rattle.merc_graded_tree.specs.Nodes.{Node, node, Conditional, Nodes, no_nodes, more_nodes, Arms, more_arms, list_of, outputs_of}
use Rattle.merc_graded_tree.specs.Variables.{in_node}
use Rattle.merc_order.specs.Bound.{Bound, with, among}
use Rattle.merc_order_laws.specs.Bindings.{Variables, NotBinding}
use Rattle.merc_order_laws.specs.WrittenGoals.{basic_goals, arm_basic_goals}
use Rattle.merc_order_laws.proofs.Facts.{or_left, or_right, or_cases}
use Rattle.merc_order_laws.proofs.Written.{all_left, all_right}
use Rattle.merc_grading.specs.Categories.{disjunction_category}
use Rattle.merc_grading.specs.Known.{Known}
use Rattle.merc_grading.specs.Grading.{category_at, categories}
use Rattle.merc_value.specs.Value.{Value, Values}
use Rattle.merc_meaning.specs.Trace.{Env, Trace, after, each, choose, negated, first_alone, one_answer}
use Rattle.merc_meaning.specs.Values.{fields}
use Rattle.merc_meaning.specs.Steps.{value_at}
use Rattle.merc_meaning.specs.Runs.{where_some}
use Rattle.merc_meaning.specs.Truth.{Assignment, IsAssignment, Judgement, AgreeOn, Yes, No, YesGoal, NoGoal, YesAny, NoAll, YesArm, NoArms}
use Rattle.merc_program_laws.specs.Answers.{Each, Has, Any, Never, IsDone, Single}
use Rattle.merc_program_laws.specs.Guarding.{ArmsHaveGuards}
use Rattle.merc_program_laws.proofs.Traces.{each_map, has_map, has_each, never_has, never_each, each_after, each_after_done, each_each, done_after, has_left, has_right, answers, choose_answered, choose_unanswered, negated_answered, negated_unanswered}
use Rattle.merc_program_laws.proofs.Values.{Instance, or_not_left, or_not_right, or_false, or_with, same_some, some_of, is_some_of}
use Rattle.merc_program_laws.proofs.Lawful.{Fits, Goes}
use Rattle.merc_program_laws.proofs.Maxima.{or_zero}
use Rattle.merc_program_laws.proofs.TreeCategories.{IsPart}
use Rattle.merc_program_laws.proofs.Truthful.{Matches, IsInstance, Truthful, Grows, each_both, pick, then_truth, widen_instance, overridden, overridden_out, overridden_in, overridden_values, typed_value, first_left, first_right}
use Rattle.merc_program_laws.proofs.Guarded.{guard_node, rest_no}
use Rattle.merc_program_laws.proofs.NodeTruth.{no_solution}

two_grow : (occ1 occ2 : Variables) (env env1 env2 : Env) → Grows occ1 env env1 → Grows occ2 env1 env2 → Grows (with occ1 occ2) env env2
two_grow occ1 occ2 env env1 env2 g h = ((λ x v e. h.0 x v (g.0 x v e)), (λ x o. h.1 x (or_not_right (occ1 x) (occ2 x) o) ∙ g.1 x (or_not_left (occ1 x) (occ2 x) o)))

-- what goes on from each answer of what grows
pub grows_on : (occ1 occ2 : Variables) (env : Env) (f : Env → Trace) (t : Trace) (P : Env → Type 0) → Each P t → ((env1 : Env) → P env1 → Grows occ1 env env1) → ((env1 : Env) → P env1 → Each (Grows occ2 env1) (f env1)) → Each (Grows (with occ1 occ2) env) (each f t)
grows_on occ1 occ2 env f t P all first rest = each_each P _ f t all (λ env1 p. each_map _ _ (f env1) (λ env2 g. two_grow occ1 occ2 env env1 env2 (first env1 p) g) (rest env1 p))

-- Given are judgements of calls.
module _ (y n : Judgement) where
  -- a goal depends on the variables outside it alone
  pub yes_same : (m : Node) (out : Variables) (s s' : Assignment) → AgreeOn out s s' → Yes y n out m s' → Yes y n out m s
  yes_same (node g outs cat span) out s s' a h = (h.0, (h.1.0, h.1.1, (λ x o. h.1.2 x o ∙ a x o), h.1.3))

  zero_no : (m : Node) (out : Variables) (s : Assignment) → most_of (category_at m) ≡ Zero → No y n out m s
  zero_no (node g outs cat span) out s z = inl (no_solution cat z)

  pub all_zero_no : (ns : Nodes) (out : Variables) (s : Assignment) → most_of (disjunction_category (categories (list_of ns))) ≡ Zero → NoAll y n out ns s
  all_zero_no no_nodes out s z = tt
  all_zero_no (more_nodes m ns) out s z = let k = or_zero (category_at m) (disjunction_category (categories (list_of ns))) z in (zero_no m out s k.0, all_zero_no ns out s k.1)

  -- Disjunctions.

  module _ (m : Node) (ns : Nodes) (out whole : Variables) (env : Env) (t u : Trace) where
    abbrev AnyTruth : Trace → Type 0
    AnyTruth v = Truthful out whole (λ s. YesAny y n out (more_nodes m ns) s) (λ s. NoAll y n out (more_nodes m ns) s) env v

    pub or_truth : ((x : ℕ) → in_node m x ≡ true → whole x ≡ true) → Each (Grows (in_node m) env) t → Truthful out (in_node m) (λ s. Yes y n out m s) (λ s. No y n out m s) env t
        → Truthful out whole (λ s. YesAny y n out ns s) (λ s. NoAll y n out ns s) env u → AnyTruth (after t u)
    or_truth sub grows first rest = record {
      answers_yes = each_after _ t u (each_map _ _ t (λ env' k s vals a. inl (k s vals (λ x o v e. a x (sub x o) v e))) first.answers_yes) (each_map _ _ u (λ env' k s vals a. inr (k s vals a)) rest.answers_yes);
      others_no = λ d s vals a.
          let e = done_after t u d in
          elim (first.others_no e.0 s vals (λ x o v q. a x (sub x o) v q)) as (λ _. NoAll y n out (more_nodes m ns) s ⊎ Has (λ env'. IsInstance out whole s env') (after t u)) [
            | inl k ↦ elim (rest.others_no e.1 s vals a) as (λ _. NoAll y n out (more_nodes m ns) s ⊎ Has (λ env'. IsInstance out whole s env') (after t u)) [
              | inl l ↦ inl (k, l)
              | inr l ↦ inr (has_right _ t u e.0 l)
            ]
            | inr k ↦ inr (has_left _ t u (has_map _ _ t (λ env' p. widen_instance out out (in_node m) whole s env env' (λ x o. o) p.0 a p.1) (has_each _ _ t grows k)))
          ];
    }

    -- Of a maximum of 1: the disjunct that may answer answers once, and the others are no.

    pub led_first : (s : Assignment) → Single t → NoAll y n out ns s → Each (Grows (in_node m) env) t → Matches whole s env → No y n out m s ⊎ Has (λ env'. IsInstance out (in_node m) s env') t
        → NoAll y n out (more_nodes m ns) s ⊎ Has (λ env'. IsInstance out whole s env') (first_alone (after t u))
    led_first s single rest grows a (inl k) = inl (k, rest)
    led_first s single rest grows a (inr k) =
        inr (first_left _ t u single (has_map _ _ t (λ env' p. widen_instance out out (in_node m) whole s env env' (λ x o. o) p.0 a p.1) (has_each _ _ t grows k)))

    pub led_rest : (s : Assignment) → most_of (category_at m) ≡ Zero → Each Never t → IsDone t → NoAll y n out ns s ⊎ Has (λ env'. IsInstance out whole s env') (first_alone u)
        → NoAll y n out (more_nodes m ns) s ⊎ Has (λ env'. IsInstance out whole s env') (first_alone (after t u))
    led_rest s z h d (inl k) = inl (zero_no m out s z, k)
    led_rest s z h d (inr k) = inr (first_right _ t u h d k)

  -- Given are the module, the types of the variables, and what type variables stand for.
  module _ (known : Module) (types i : Instance) where
    abbrev Parts : List BasicGoal → Type 0
    Parts gs = AllByRecursion (IsPart known types i) gs

    -- Switches: the arm that is taken, and the others.
    module _ (symbol : Symbol) (m : Node) (arms : Arms) (out outm whole : Variables) (x : ℕ) (v : Value) (env : Env) (t u : Trace) where
      abbrev ArmTruth : Trace → Type 0
      ArmTruth w = Truthful out whole (λ s. YesArm y n outm (more_arms symbol m arms) s) (λ s. NoArms y n outm (more_arms symbol m arms) s) env w

      pub taken_truth : (o : Option Values) → o ≡ fields symbol v → value_at env x ≡ Some v → whole x ≡ true → outm x ≡ true → ((z : ℕ) → in_node m z ≡ true → whole z ≡ true) → ((z : ℕ) → out z ≡ true → outm z ≡ true)
          → ArmsHaveGuards x (more_arms symbol m arms) → Parts (arm_basic_goals (more_arms symbol m arms)) → ((vs : Values) → o ≡ Some vs → Each (Grows (in_node m) env) t)
          → ((vs : Values) → o ≡ Some vs → Truthful outm (in_node m) (λ s. Yes y n outm m s) (λ s. No y n outm m s) env t)
          → Truthful out whole (λ s. YesArm y n outm arms s) (λ s. NoArms y n outm arms s) env u → ArmTruth (where_some o t u)
      taken_truth None e at x_in x_out sub in1 guards parts grows first rest = record {
        answers_yes = each_map _ _ u (λ env' k s vals a. inr (k s vals a)) rest.answers_yes;
        others_no = λ d s vals a. elim (rest.others_no d s vals a) as (λ _. NoArms y n outm (more_arms symbol m arms) s ⊎ Has (λ env'. IsInstance out whole s env') u) [
          | inl k ↦ inl (guard_node known types i y n m outm x symbol s (all_left (IsPart known types i) (basic_goals m) (arm_basic_goals arms) parts) x_out guards.0 (ap (fields symbol) (a x x_in v at) ∙ sym e), k)
          | inr k ↦ inr k
        ];
      }
      taken_truth (Some vs) e at x_in x_out sub in1 guards parts grows first rest =
          let f = first vs refl in
          record {
            answers_yes = each_map _ _ t (λ env' k s vals a. inl (k s vals (λ z o w q. a z (sub z o) w q))) f.answers_yes;
            others_no = λ d s vals a. elim (f.others_no d s vals (λ z o w q. a z (sub z o) w q)) as (λ _. NoArms y n outm (more_arms symbol m arms) s ⊎ Has (λ env'. IsInstance out whole s env') t) [
              | inl k ↦ inl (k, rest_no known types i y n arms outm x symbol v vs s (all_right (IsPart known types i) (basic_goals m) (arm_basic_goals arms) parts) x_out guards.3 guards.1 (sym e) (a x x_in v at))
              | inr k ↦ inr (has_map _ _ t (λ env' p. widen_instance out outm (in_node m) whole s env env' in1 p.0 a p.1) (has_each _ _ t (grows vs refl) k))
            ];
          }

    -- An answer of a goal gives the assignment that is needed to find it yes: its own variables take the answer's values.
    overriding : (b : Bound) (seen : Known) (c : Node) (outside c_out : Variables) (env env1 : Env) (s : Assignment) (yes_c : Assignment → Type 0) → IsAssignment s
        → ((x : ℕ) → in_node c x ≡ true → is_some (value_at env x) ≡ b x) → Goes known types i c_out (with b (among (outputs_of c))) (in_node c) seen env env1 → ((x : ℕ) → outside x ≡ true → c_out x ≡ true) → NotBinding outside (outputs_of c)
        → Matches (in_node c) s env → ((s' : Assignment) → IsAssignment s' → Matches (in_node c) s' env1 → yes_c s') → (s' : Assignment) × IsAssignment s' × AgreeOn outside s s' × yes_c s'
    overriding b seen c outside c_out env env1 s yes_c vals bounds goes in1 not_bound h right =
        let s' : Assignment = overridden outside env1 s in
        let vals' : IsAssignment s' = overridden_values outside env1 s vals (λ x v e. typed_value known.types v _ (goes.typed x v e)) in (
          s',
          vals',
          overridden_out outside env1 s,
          right s' vals' (λ x o v e. overridden_in outside env1 s x v e (λ m.
              let w = some_of (value_at env x) (bounds x o ∙ sym (or_false (b x)) ∙ sym (or_with (b x) (among (outputs_of c) x) false (not_bound x m)) ∙ sym (goes.bounds x o (in1 x m)) ∙ is_some_of (value_at env1 x) v e) in
              h x o w.0 w.1 ∙ same_some (sym (goes.keeps x w.0 w.1) ∙ e))),
        )

    module _ (b : Bound) (seen seen' : Known) (env : Env) where
      pub not_truth : (m : Node) (out : Variables) (t : Trace) → NotBinding out (outputs_of m) → Fits known types i out b (in_node m) seen env → Each (Goes known types i out (with b (among (outputs_of m))) (in_node m) seen' env) t
          → Truthful out (in_node m) (λ s. Yes y n out m s) (λ s. No y n out m s) env t → Truthful out (in_node m) (λ s. No y n out m s) (λ s. Yes y n out m s) env (negated env t)
      not_truth m out t free fits goes inner = elim (answers t) as (λ _. Truthful out (in_node m) (λ s. No y n out m s) (λ s. Yes y n out m s) env (negated env t)) [
        | inl h ↦ record {
          answers_yes = never_each _ (negated env t) (negated_answered env t h);
          others_no = λ d s vals a.
              let r = pick _ t (has_each _ Any t (each_both _ _ t goes inner.answers_yes) h) in
              let w = overriding b seen' m out out env r.0 s (λ s'. Yes y n out m s') vals fits.bounds r.1.0.0 (λ x o. o) free a r.1.0.1 in
              inl (yes_same m out s w.0 w.2 w.3);
        }
        | inr h ↦ subst (λ (z : Trace). Truthful out (in_node m) (λ s. No y n out m s) (λ s. Yes y n out m s) env z) (sym (negated_unanswered env t h)) (record {
          answers_yes = each_after_done _ t (one_answer env) (never_each _ t h) (λ d. ((λ s vals a. elim (inner.others_no d s vals a) as (λ _. No y n out m s) [ inl q ↦ q | inr q ↦ absurd (never_has _ t h q) ]), tt));
          others_no = λ d s vals a. inr (has_right _ t (one_answer env) (done_after t (one_answer env) d).0 (inl (λ x o p v e. a x o v e)));
        })
      ]

      -- An if-then-else. The condition's trace is looked at twice: with the variables of the then part and the else part outside it, and with those of the
      -- else part alone.
      module _ (c t e : Node) (out : Variables) (tc te : Trace) (f : Env → Trace) where
        abbrev Whole : Variables
        Whole x = in_node c x || (in_node t x || in_node e x)

        abbrev IfTruth : Trace → Type 0
        IfTruth w = Truthful out Whole (λ s. YesGoal y n out (Conditional c t e) s) (λ s. NoGoal y n out (Conditional c t e) s) env w

        in_first : (x : ℕ) → in_node c x ≡ true → Whole x ≡ true
        in_first x o = or_left (in_node c x) (in_node t x || in_node e x) o

        in_last : (x : ℕ) → in_node e x ≡ true → Whole x ≡ true
        in_last x o = or_right (in_node c x) (in_node t x || in_node e x) (or_right (in_node t x) (in_node e x) o)

        in_first_two : (x : ℕ) → with (in_node c) (in_node t) x ≡ true → Whole x ≡ true
        in_first_two x o = elim (or_cases (in_node c x) (in_node t x) o) as (λ _. Whole x ≡ true) [
          | inl p ↦ in_first x p
          | inr p ↦ or_right (in_node c x) (in_node t x || in_node e x) (or_left (in_node t x) (in_node e x) p)
        ]

        -- where the condition has answers
        answered_truth : NotBinding (with out (in_node e)) (outputs_of c) → Fits known types i out b Whole seen env → Has Any tc
            → Each (Goes known types i (with out (in_node e)) (with b (among (outputs_of c))) (in_node c) seen' env) tc
            → Truthful (with out (in_node e)) (in_node c) (λ s. Yes y n (with out (in_node e)) c s) (λ s. No y n (with out (in_node e)) c s) env tc
            → Each (Grows (with (in_node c) (in_node t)) env) (each f tc)
            → Truthful out (with (in_node c) (in_node t)) (λ s. Yes y n (with out (with (in_node t) (in_node e))) c s × Yes y n (with out (with (in_node c) (in_node e))) t s)
            (λ s. No y n (with out (with (in_node t) (in_node e))) c s ⊎ No y n (with out (with (in_node c) (in_node e))) t s) env (each f tc)
            → IfTruth (each f tc)
        answered_truth free fits there goes own grows both = record {
          answers_yes = each_map _ _ (each f tc) (λ env' k s vals a. inl (k s vals (λ x o v q. a x (in_first_two x o) v q))) both.answers_yes;
          others_no = λ d s vals a. elim (both.others_no d s vals (λ x o v q. a x (in_first_two x o) v q)) as (λ _. NoGoal y n out (Conditional c t e) s ⊎ Has (λ env'. IsInstance out Whole s env') (each f tc)) [
            | inl k ↦
                let r = pick _ tc (has_each _ Any tc (each_both _ _ tc goes own.answers_yes) there) in
                let w = overriding b seen' c (with out (in_node e)) (with out (in_node e)) env r.0 s (λ s'. Yes y n (with out (in_node e)) c s') vals (λ x o. fits.bounds x (in_first x o)) r.1.0.0 (λ x o. o) free (λ x o v q. a x (in_first x o) v q) r.1.0.1 in
                inl (k, inr (yes_same c (with out (in_node e)) s w.0 w.2 w.3))
            | inr k ↦ inr (has_map _ _ (each f tc) (λ env' p. widen_instance out out (with (in_node c) (in_node t)) Whole s env env' (λ x o. o) p.0 a p.1) (has_each _ _ (each f tc) grows k))
          ];
        }

        -- where it has none
        unanswered_truth : Each Never tc → Truthful (with out (with (in_node t) (in_node e))) (in_node c) (λ s. Yes y n (with out (with (in_node t) (in_node e))) c s) (λ s. No y n (with out (with (in_node t) (in_node e))) c s) env tc
            → Truthful (with out (in_node e)) (in_node c) (λ s. Yes y n (with out (in_node e)) c s) (λ s. No y n (with out (in_node e)) c s) env tc → Each (Grows (in_node e) env) te
            → Truthful (with out (with (in_node c) (in_node t))) (in_node e) (λ s. Yes y n (with out (with (in_node c) (in_node t))) e s) (λ s. No y n (with out (with (in_node c) (in_node t))) e s) env te
            → IfTruth (after tc te)
        unanswered_truth h cond own grows else_part = record {
          answers_yes = each_after_done _ tc te (never_each _ tc h) (λ d. each_map _ _ te
              (λ env' p s vals a. inr (
                p.1 s vals (λ x o v q. a x (in_last x o) v q),
                elim (own.others_no d s vals (λ x o v q. a x (in_first x o) v (p.0.0 x v q))) as (λ _. No y n (with out (in_node e)) c s) [ inl q ↦ q | inr q ↦ absurd (never_has _ tc h q) ],
              ))
              (each_both _ _ te grows else_part.answers_yes));
          others_no = λ d s vals a.
              let k = done_after tc te d in
              elim (cond.others_no k.0 s vals (λ x o v q. a x (in_first x o) v q)) as (λ _. NoGoal y n out (Conditional c t e) s ⊎ Has (λ env'. IsInstance out Whole s env') (after tc te)) [
                | inl no_c ↦ elim (else_part.others_no k.1 s vals (λ x o v q. a x (in_last x o) v q)) as (λ _. NoGoal y n out (Conditional c t e) s ⊎ Has (λ env'. IsInstance out Whole s env') (after tc te)) [
                  | inl no_e ↦ inl (inl no_c, inl no_e)
                  | inr w ↦ inr (has_right _ tc te k.0 (has_map _ _ te (λ env' p. widen_instance out (with out (with (in_node c) (in_node t))) (in_node e) Whole s env env' (λ x o. or_left (out x) (in_node c x || in_node t x) o) p.0 a p.1) (has_each _ _ te grows w)))
                ]
                | inr w ↦ absurd (never_has _ tc h w)
              ];
        }

        pub if_truth : NotBinding (with out (in_node e)) (outputs_of c) → Fits known types i out b Whole seen env
            → (P : Env → Type 0) → Each P tc → ((env1 : Env) → P env1 → Grows (in_node c) env env1)
            → Truthful (with out (with (in_node t) (in_node e))) (in_node c) (λ s. Yes y n (with out (with (in_node t) (in_node e))) c s) (λ s. No y n (with out (with (in_node t) (in_node e))) c s) env tc
            → Each (Goes known types i (with out (in_node e)) (with b (among (outputs_of c))) (in_node c) seen' env) tc
            → Truthful (with out (in_node e)) (in_node c) (λ s. Yes y n (with out (in_node e)) c s) (λ s. No y n (with out (in_node e)) c s) env tc
            → ((env1 : Env) → P env1 → Each (Grows (in_node t) env1) (f env1))
            → ((env1 : Env) → P env1 → Truthful (with out (with (in_node c) (in_node e))) (in_node t) (λ s. Yes y n (with out (with (in_node c) (in_node e))) t s) (λ s. No y n (with out (with (in_node c) (in_node e))) t s) env1 (f env1))
            → Each (Grows (in_node e) env) te
            → Truthful (with out (with (in_node c) (in_node t))) (in_node e) (λ s. Yes y n (with out (with (in_node c) (in_node t))) e s) (λ s. No y n (with out (with (in_node c) (in_node t))) e s) env te
            → IfTruth (choose f te tc)
        if_truth free fits P all grows_c cond goes_own own grows_t then_part grows_e else_part = elim (answers tc) as (λ _. IfTruth (choose f te tc)) [
          | inl h ↦ subst (λ (z : Trace). IfTruth z) (sym (choose_answered f te tc h)) (answered_truth free fits h goes_own own (grows_on (in_node c) (in_node t) env f tc P all grows_c grows_t)
              (then_truth out _ _ (in_node c) (in_node t) _ _ _ _ env f tc
              (λ x o. or_right (out x) (in_node t x || in_node e x) (or_left (in_node t x) (in_node e x) o)) (λ x o. or_left (out x) (in_node t x || in_node e x) o) (λ x o. or_left (out x) (in_node c x || in_node e x) o)
              P all grows_c cond grows_t then_part))
          | inr h ↦ subst (λ (z : Trace). IfTruth z) (sym (choose_unanswered f te tc h)) (unanswered_truth h cond own grows_e else_part)
        ]
