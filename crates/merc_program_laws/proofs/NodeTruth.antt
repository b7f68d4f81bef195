-- The truth law of a node from that of its goal: its own variables are quantified, and its trace may be cut after the first answer.
use Rattle.std.proofs.Common.{◌≡◌, ◌⊎◌, inl, inr, ℕ, List, [], ◌∷◌, Option, Some, None, refl, sym, ◌∙◌, subst}
use Rattle.merc_base.specs.Category.{most_of}
use Rattle.merc_base.specs.declared.category.Category.{Category}
use Rattle.merc_base.specs.declared.category.Most.{Most}
use Rattle.merc_base.specs.declared.category.Most.TheVariants.{Zero, One, Many}
use Rattle.merc_base.specs.declared.place.Span.{Span}
use Rattle.merc_tree.specs.declared.declarations.Module.{Module}
use Rattle.merc_graded_tree.specs.declared.basic.Procedure.{Procedure}
use Rattle.merc_graded_tree.specs.Nodes.{Node, node, Goal}
use Rattle.merc_graded_tree.specs.Variables.{in_goal}
use Rattle.merc_order.specs.Bound.{Bound, with, among}
use Rattle.merc_order_laws.specs.Bindings.{Variables}
use Rattle.merc_grading.specs.Known.{Known}
use Rattle.merc_grading.specs.Grading.{given, category_at, capped}
use Rattle.merc_meaning.specs.Trace.{Env, Trace, first_alone}
use Rattle.merc_meaning.specs.Steps.{value_at}
use Rattle.merc_meaning.specs.Runs.{Program, is_at_most_one, answers_once, once_if, goal_trace, node_trace}
use Rattle.merc_meaning.specs.Truth.{Assignment, IsAssignment, AgreeOn, Somewhere, Everywhere, HasNoSolution, Judgement, Yes, No, YesGoal, NoGoal}
use Rattle.merc_program_laws.specs.Answers.{Each, Has, Any, Never, IsDone, Single}
use Rattle.merc_program_laws.proofs.Traces.{each_map, has_map, has_each, never_has, never_each, answers, each_first, has_first, single_first, first_unanswered}
use Rattle.merc_program_laws.proofs.Values.{Instance, or_false, same_some, some_of, is_some_of}
use Rattle.merc_program_laws.proofs.Knowing.{one_not_zero, many_not_zero}
use Rattle.merc_program_laws.proofs.Lawful.{Fits, Goes, Lawful}
use Rattle.merc_program_laws.proofs.Truthful.{Matches, IsInstance, Truthful, decide_has, decide_instance, first_single, single_done}
use Rattle.merc_program_laws.proofs.Singles.{NotMany}

-- the same truth in other words
pub reword : (out occurs : Variables) (y n y' n' : Assignment → Type 0) (env : Env) (t : Trace) → ((s : Assignment) → y s → y' s) → ((s : Assignment) → n s → n' s) → Truthful out occurs y n env t → Truthful out occurs y' n' env t
reword out occurs y n y' n' env t f g h = record {
  answers_yes = each_map _ _ t (λ env' k s vals a. f s (k s vals a)) h.answers_yes;
  others_no = λ d s vals a. elim (h.others_no d s vals a) as (λ _. n' s ⊎ Has (λ env'. IsInstance out occurs s env') t) [ inl k ↦ inl (g s k) | inr k ↦ inr k ];
}

-- what the first answer says: where there is one, every other instance of what is before is no
abbrev pub Led : Variables → Variables → (Assignment → Type 0) → Env → Trace → Type 0
Led out occurs is_no env t = Has Any t → (s : Assignment) → IsAssignment s → Matches occurs s env → is_no s ⊎ Has (λ env'. IsInstance out occurs s env') (first_alone t)

-- what is said of a trace of one answer holds of its first answer
pub led_single : (out occurs : Variables) (is_yes is_no : Assignment → Type 0) (env : Env) (t : Trace) → Truthful out occurs is_yes is_no env t → Single t → Led out occurs is_no env t
led_single out occurs is_yes is_no env t truth single there s vals h =
    subst (λ (z : Trace). is_no s ⊎ Has (λ env'. IsInstance out occurs s env') z) (sym (first_single t single)) (truth.others_no (single_done t single there) s vals h)

-- a goal that is told to have no solution
pub no_solution : (o : Option Category) → most_of (given o) ≡ Zero → HasNoSolution o
no_solution None h = absurd (many_not_zero h)
no_solution (Some c) h = h

single_most : (m : Most) → NotMany m → (t : Trace) → Single (once_if (is_at_most_one m) t)
single_most Zero h t = single_first t
single_most One h t = single_first t
single_most Many h t = absurd (h refl)

pub single_node : (program : Program) (call : Procedure → Env → Trace) (m : Node) (env : Env) → NotMany (most_of (category_at m)) → Single (node_trace program call m env)
single_node program call (node g [] c span) env h = single_first (goal_trace program call g env)
single_node program call (node g (out ∷ outs) None span) env h = absurd (h refl)
single_node program call (node g (out ∷ outs) (Some c) span) env h = single_most (most_of c) h (goal_trace program call g env)

-- Given are the module, the types of the variables, and what type variables stand for.
module _ (known : Module) (types i : Instance) where
  abbrev Before : Variables → Bound → Variables → Known → Env → Type 0
  Before out b occurs seen env = Fits known types i out b occurs seen env

  matches_within : (out : Variables) (b : Bound) (occurs : Variables) (seen : Known) (env : Env) → Before out b occurs seen env → (s s' : Assignment) → Matches occurs s env → AgreeOn out s s' → Matches occurs s' env
  matches_within out b occurs seen env fits s s' a k x o v e = k x (fits.outer x o (sym (fits.bounds x o) ∙ is_some_of (value_at env x) v e)) ∙ a x o v e

  everywhere : (out : Variables) (b : Bound) (occurs : Variables) (seen : Known) (env : Env) (is_no : Assignment → Type 0) (t : Trace) → Before out b occurs seen env
      → ((s : Assignment) → IsAssignment s → Matches occurs s env → is_no s ⊎ Has (λ env'. IsInstance out occurs s env') t)
      → (s : Assignment) → IsAssignment s → Matches occurs s env → Everywhere out is_no s ⊎ Has (λ env'. IsInstance out occurs s env') t
  everywhere out b occurs seen env is_no t fits h s vals a = elim (decide_has (λ env'. IsInstance out occurs s env') t (λ env'. decide_instance out occurs s env')) as (λ _. Everywhere out is_no s ⊎ Has (λ env'. IsInstance out occurs s env') t) [
    | inl k ↦ inr k
    | inr k ↦ inl (λ s' vals' q. elim (h s' vals' (matches_within out b occurs seen env fits s s' a q)) as (λ _. is_no s') [
      | inl w ↦ w
      | inr w ↦ absurd (k (has_map _ _ t (λ env' p x o m v e. sym (q x m) ∙ p x o m v e) w))
    ])
  ]

  -- the variables that do not occur outside are quantified
  quantify : (out : Variables) (b : Bound) (occurs : Variables) (seen : Known) (env : Env) (is_yes is_no : Assignment → Type 0) (t : Trace) → Before out b occurs seen env → Truthful out occurs is_yes is_no env t
      → Truthful out occurs (λ s. Somewhere out is_yes s) (λ s. Everywhere out is_no s) env t
  quantify out b occurs seen env is_yes is_no t fits good = record {
    answers_yes = each_map _ _ t (λ env' k s vals a. (s, vals, (λ x o. refl), k s vals a)) good.answers_yes;
    others_no = λ d. everywhere out b occurs seen env is_no t fits (good.others_no d);
  }

  -- without outputs each answer is an instance
  no_outputs : (out : Variables) (b : Bound) (occurs : Variables) (seen seen' : Known) (env env' : Env) (s : Assignment) → Before out b occurs seen env → Goes known types i out (with b (among [])) occurs seen' env env' → Matches occurs s env
      → IsInstance out occurs s env'
  no_outputs out b occurs seen seen' env env' s fits goes h x o m v e =
      let w = some_of (value_at env x) (fits.bounds x o ∙ sym (or_false (b x)) ∙ sym (goes.bounds x o m) ∙ is_some_of (value_at env' x) v e) in
      h x o w.0 w.1 ∙ same_some (sym (goes.keeps x w.0 w.1) ∙ e)

-- Given are judgements of calls, and a goal that has a category.
module _ (y n : Judgement) (out : Variables) (g : Goal) (outs : List ℕ) (c : Category) (span : Span) (env : Env) (t : Trace) where
  abbrev TrueAs : Trace → Type 0
  TrueAs u = Truthful out (in_goal g) (λ s. Yes y n out (node g outs (Some c) span) s) (λ s. No y n out (node g outs (Some c) span) s) env u

  abbrev Quantified : Type 0
  Quantified = Truthful out (in_goal g) (λ s. Somewhere out (λ s'. YesGoal y n out g s') s) (λ s. Everywhere out (λ s'. NoGoal y n out g s') s) env t

  zero_node : (u : Trace) → most_of c ≡ Zero → Each Never u → TrueAs u
  zero_node u z h = record { answers_yes = never_each _ u h; others_no = λ d s vals a. inl (inl z) }

  many_node : (most_of c ≡ Zero → ⊥) → Quantified → TrueAs t
  many_node z good = reword out (in_goal g) _ _ _ _ env t (λ s k. (z, k)) (λ s k. inr k) good

  once_node : (most_of c ≡ Zero → ⊥) → Quantified → Led out (in_goal g) (λ s. No y n out (node g outs (Some c) span) s) env t → TrueAs (first_alone t)
  once_node z good led = record {
    answers_yes = each_map _ _ (first_alone t) (λ env' k s vals a. (z, k s vals a)) (each_first _ t good.answers_yes);
    others_no = λ d s vals a. elim (answers t) as (λ _. No y n out (node g outs (Some c) span) s ⊎ Has (λ env'. IsInstance out (in_goal g) s env') (first_alone t)) [
      | inl there ↦ led there s vals a
      | inr never ↦ elim (good.others_no (subst (λ (z : Trace). IsDone z) (first_unanswered t never) d) s vals a) as (λ _. No y n out (node g outs (Some c) span) s ⊎ Has (λ env'. IsInstance out (in_goal g) s env') (first_alone t)) [
        | inl k ↦ inl (inr k)
        | inr k ↦ absurd (never_has _ t never k)
      ]
    ];
  }

  -- the first answer, where each is an instance
  all_instances : (P : Env → Type 0) → Lawful P c (first_alone t) → ((s : Assignment) → Matches (in_goal g) s env → (env' : Env) → P env' → IsInstance out (in_goal g) s env')
      → Led out (in_goal g) (λ s. No y n out (node g outs (Some c) span) s) env t
  all_instances P law instance there s vals a = inr (has_map (λ env'. P env' × Any env') _ (first_alone t) (λ env' k. instance s a env' k.0) (has_each P Any (first_alone t) law.goes (has_first t there)))

  -- of a goal with outputs
  output_cases : (m : Most) → most_of c ≡ m → Quantified → (most_of c ≡ One → Led out (in_goal g) (λ s. Everywhere out (λ s'. NoGoal y n out g s') s) env t) → (most_of c ≡ Zero → Each Never (once_if (is_at_most_one m) t)) → TrueAs (once_if (is_at_most_one m) t)
  output_cases Zero e good led never = zero_node (first_alone t) e (never e)
  output_cases One e good led never = once_node (λ z. one_not_zero (sym e ∙ z)) good (λ there s vals a. elim (led e there s vals a) as (λ _. No y n out (node g outs (Some c) span) s ⊎ Has (λ env'. IsInstance out (in_goal g) s env') (first_alone t)) [
    | inl k ↦ inl (inr k)
    | inr k ↦ inr k
  ])
  output_cases Many e good led never = many_node (λ z. many_not_zero (sym e ∙ z)) good

  -- of a goal without outputs, each of whose answers is an instance
  no_output_cases : (P : Env → Type 0) (m : Most) → most_of c ≡ m → Quantified → Lawful P c (first_alone t) → ((s : Assignment) → Matches (in_goal g) s env → (env' : Env) → P env' → IsInstance out (in_goal g) s env') → TrueAs (first_alone t)
  no_output_cases P Zero e good law instance = zero_node (first_alone t) e (law.no_answer e)
  no_output_cases P One e good law instance = once_node (λ z. one_not_zero (sym e ∙ z)) good (all_instances P law instance)
  no_output_cases P Many e good law instance = once_node (λ z. many_not_zero (sym e ∙ z)) good (all_instances P law instance)

-- Given are the module, the types of the variables, what type variables stand for, and judgements of calls.
module _ (known : Module) (types i : Instance) (y n : Judgement) where
  -- from the truth of a goal, and of its first answer where its maximum is 1
  pub node_from_goal : (out : Variables) (b : Bound) (seen seen' : Known) (g : Goal) (outs : List ℕ) (r : Category) (span : Span) (env : Env) (t : Trace) → Fits known types i out b (in_goal g) seen env
      → Lawful (Goes known types i out (with b (among outs)) (in_goal g) seen' env) (capped outs r) (once_if (answers_once outs (Some (capped outs r))) t)
      → Truthful out (in_goal g) (λ s. YesGoal y n out g s) (λ s. NoGoal y n out g s) env t → (most_of r ≡ One → Led out (in_goal g) (λ s. NoGoal y n out g s) env t)
      → TrueAs y n out g outs (capped outs r) span env t (once_if (answers_once outs (Some (capped outs r))) t)
  node_from_goal out b seen seen' g [] r span env t fits law truth led =
      no_output_cases y n out g [] (capped [] r) span env t (Goes known types i out (with b (among [])) (in_goal g) seen' env) (most_of (capped [] r)) refl
      (quantify known types i out b (in_goal g) seen env _ _ t fits truth) law (λ s a env' goes. no_outputs known types i out b (in_goal g) seen seen' env env' s fits goes a)
  node_from_goal out b seen seen' g (o ∷ os) r span env t fits law truth led =
      output_cases y n out g (o ∷ os) r span env t (most_of r) refl (quantify known types i out b (in_goal g) seen env _ _ t fits truth)
      (λ one there. everywhere known types i out b (in_goal g) seen env (λ s. NoGoal y n out g s) (first_alone t) fits (led one there)) law.no_answer
