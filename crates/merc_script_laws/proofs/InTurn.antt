-- Goals that go one after the other: each right goes into the first that uses its variable, or binds it.
use Rattle.std.proofs.Common.{◌≡◌, ◌⊎◌, inl, inr, ℕ, ◌+◌, Bool, true, false, is_some, List, [], ◌∷◌, ◌++◌, Some, refl, ap, sym, subst, ◌∙◌, length}
use Rattle.std.specs.List.{AllByRecursion}
use Rattle.merc_base.specs.Category.{can_fail_of, most_of}
use Rattle.merc_base.specs.declared.category.Category.{Category}
use Rattle.merc_base.specs.declared.category.Most.TheVariants.{Zero}
use Rattle.merc_tree.specs.Types.{replaced}
use Rattle.merc_tree.specs.declared.declarations.Module.{Module}
use Rattle.merc_goal_tree.specs.declared.goal.Symbol.{Symbol}
use Rattle.merc_graded_tree.specs.declared.basic.Procedure.{Procedure}
use Rattle.merc_graded_tree.specs.declared.entries.Running.TheVariants.{Sequential}
use Rattle.merc_graded_tree.specs.Nodes.{Node, Nodes, no_nodes, more_nodes, list_of, outputs_of}
use Rattle.merc_graded_tree.specs.Variables.{in_node, in_nodes}
use Rattle.merc_grading.specs.Categories.{conjunction_category}
use Rattle.merc_grading.specs.Faults.{parallel_faults, all_faults}
use Rattle.merc_grading.specs.Known.{Known, known_of, known_behind, known_behind_all}
use Rattle.merc_grading.specs.Grading.{category_at, categories}
use Rattle.merc_order.specs.Bound.{Bound, with, among}
use Rattle.merc_order.specs.Procedures.{modes_of}
use Rattle.merc_order_laws.specs.Bindings.{Variables}
use Rattle.merc_order_laws.specs.GoodTree.{GoodNodes}
use Rattle.merc_order_laws.specs.WrittenGoals.{basic_goals, all_basic_goals}
use Rattle.merc_order_laws.proofs.Facts.{clash, or_left, or_right, or_cases, either_way, among_append}
use Rattle.merc_order_laws.proofs.Written.{all_left, all_right}
use Rattle.merc_value.specs.Value.{Value, Values}
use Rattle.merc_meaning.specs.Trace.{Env, Trace}
use Rattle.merc_meaning.specs.Values.{fields}
use Rattle.merc_meaning.specs.Steps.{value_at}
use Rattle.merc_meaning.specs.Runs.{Program, node_trace, all_trace}
use Rattle.merc_program_laws.specs.ValueTypes.{HasType}
use Rattle.merc_program_laws.specs.GoodPrograms.{AreGoodTypes}
use Rattle.merc_program_laws.proofs.Values.{Instance, or_false, or_with}
use Rattle.merc_program_laws.proofs.Knowing.{one_not_zero}
use Rattle.merc_program_laws.proofs.Lawful.{Fits, Goes as GoesBehind}
use Rattle.merc_program_laws.proofs.Calls.{LawfulCalls}
use Rattle.merc_program_laws.proofs.Maxima.{then_sure, then_zero, then_is_zero}
use Rattle.merc_program_laws.proofs.Graded.{GradedAll}
use Rattle.merc_program_laws.proofs.TreeCategories.{IsPart, node_law, outputs_within, not_in}
use Rattle.merc_core.specs.Rights.{has}
use Rattle.merc_rights.specs.Rights.{Right, used_in, unused_in, bound_in, unbound_in}
use Rattle.merc_par_split.specs.Forks.{forks}
use Rattle.merc_par_split.specs.Split.{placed, placed_in_turn}
use Rattle.merc_par_split.specs.Sites.{are_for, planned, planned_in_turn}
use Rattle.merc_par_split.proofs.PlannedCounts.{planned_count}
use Rattle.merc_plan.specs.Branch.{Hold, Gift, BranchCourse, each as c_each}
use Rattle.merc_plan.specs.Branches.{Plan, node_branch, all_branch}
use Rattle.merc_plan.proofs.Flat.{Flat, Each, Like, each, events}
use Rattle.merc_plan.proofs.Judging.{flat, Sure, Keeps, Quiet}
use Rattle.merc_plan.proofs.Shown.{Shown}
use Rattle.merc_plan.proofs.Likes.{like_each, like_more, like_with, like_answers, each_more}
use Rattle.merc_plan.proofs.Flats.{flat_each, sure_each}
use Rattle.merc_plan.proofs.Events.{events_each}
use Rattle.merc_plan.proofs.Holds.{keeps_each, keeps_end, quiet_each}
use Rattle.merc_script_laws.specs.Parallel.{all_outputs, AllKeepOutputs, AllHaveFew}
use Rattle.merc_script_laws.proofs.Bonds.{Counted, Set, signs, Within, AllUsed, Fit, Fine, After, Match, Names, Moves, Ends, Ready, here_behind, Used, Rightful, Planned, Sound, Proper, Goes}
use Rattle.merc_script_laws.proofs.RightLists.{not_not, those_in, not_those, for_those}
use Rattle.merc_script_laws.proofs.Steps.{unused, or_later, joins_right, fit_first, fit_rest, match_first, match_rest, ready_first, ready_rest, moves_both, fine_first, fine_rest, after_both}
use Rattle.merc_script_laws.proofs.Using.{rightful_first, rightful_rest, used_both}
use Rattle.merc_script_laws.proofs.Seen.{occurring}
use Rattle.merc_script_laws.proofs.HoldLaw.{each_event, hold_fits, leaf_answers, Answered}
use Rattle.merc_script_laws.proofs.LeafUses.{match_self, sound_occurring}
use Rattle.merc_script_laws.proofs.StaticKnown.{all_static}
use Rattle.merc_script_laws.proofs.Placing.{planned_front, planned_back}

pub no_first : {A : Type 0} (xs ys : List A) → xs ++ ys ≡ [] → xs ≡ []
no_first [] ys h = refl
no_first (x ∷ xs) ys h = absurd cc

pub no_rest : {A : Type 0} (xs ys : List A) → xs ++ ys ≡ [] → ys ≡ []
no_rest [] ys h = h
no_rest (x ∷ xs) ys h = absurd cc

abbrev pub Joined : Nodes → Category
Joined ns = conjunction_category (categories (list_of ns))

-- Given are the module, the types of the variables, and what type variables stand for.
module _ (known : Module) (types i : Instance) where
  -- sound goals that go one after the other
  pub record SoundAll (out : Variables) (b : Bound) (seen : Known) (ns : Nodes) : Type 0 where
    pub good : GoodNodes (modes_of known.preds) out b ns
    pub graded : GradedAll known.types (modes_of known.preds) types Sequential seen ns
    pub parts : AllByRecursion (IsPart known types i) (all_basic_goals ns)
    pub outputs : AllKeepOutputs (modes_of known.preds) ns
    pub beside : all_faults ns ≡ []
    pub few : AllHaveFew ns

  pub sound_first : (out : Variables) (b : Bound) (seen : Known) (n : Node) (ns : Nodes) → SoundAll out b seen (more_nodes n ns) → Sound known types i (with out (in_nodes ns)) b seen n
  sound_first out b seen n ns sound = record {
    good = sound.good.0;
    graded = sound.graded.0;
    parts = all_left (IsPart known types i) (basic_goals n) (all_basic_goals ns) sound.parts;
    parallel = record { outputs = sound.outputs.0; beside = no_first (parallel_faults n) (all_faults ns) sound.beside; few = sound.few.0 };
  }

  pub sound_rest : (out : Variables) (b : Bound) (seen : Known) (n : Node) (ns : Nodes) → SoundAll out b seen (more_nodes n ns) → SoundAll (with out (in_node n)) (with b (among (outputs_of n))) (known_behind n seen) ns
  sound_rest out b seen n ns sound = record {
    good = sound.good.1;
    graded = sound.graded.1;
    parts = all_right (IsPart known types i) (basic_goals n) (all_basic_goals ns) sound.parts;
    outputs = sound.outputs.1;
    beside = no_rest (parallel_faults n) (all_faults ns) sound.beside;
    few = sound.few.1;
  }

  -- what is given is proper if it is of its variable's type and has the symbol that is known of it behind the goals, where these can answer
  abbrev pub ProperAll : Known → Nodes → List Right → Hold → (ℕ → Value → Type 0) → Type 0
  ProperAll seen ns s hold proper = (x c : ℕ) (v : Value) → are_for s x ≡ true → has c (signs x hold) ≡ true → HasType known.types v (replaced i (types x))
      → ((most_of (Joined ns) ≡ Zero → ⊥) → (sy : Symbol) → known_of (known_behind_all ns seen) x ≡ Some sy → (vs : Values) × (fields sy v ≡ Some vs)) → proper c v

  -- the variables of the rest of a conjunction, as they are behind its first goal
  pub fits_rest : (out out1 out2 : Variables) (b : Bound) (occ1 occ2 : Variables) (outs : List ℕ) (seen seen1 : Known) (env env1 : Env) → ((x : ℕ) → among outs x ≡ true → occ1 x ≡ true) → ((x : ℕ) → occ2 x ≡ true → out1 x ≡ true)
      → ((x : ℕ) → occ1 x ≡ true → out2 x ≡ true) → ((x : ℕ) → out x ≡ true → out2 x ≡ true) → Fits known types i out b (with occ1 occ2) seen env → GoesBehind known types i out1 (with b (among outs)) occ1 seen1 env env1
      → Fits known types i out2 (with b (among outs)) occ2 seen1 env1
  fits_rest out out1 out2 b occ1 occ2 outs seen seen1 env env1 sub in1 in2 out_in fits goes = record {
    bounds = λ x o. elim (either_way (occ1 x)) as (λ _. is_some (value_at env1 x) ≡ with b (among outs) x) [
      | inl p ↦ goes.bounds x p (in1 x o)
      | inr p ↦ ap is_some (goes.own x p) ∙ fits.bounds x (or_right (occ1 x) (occ2 x) o) ∙ sym (or_false (b x)) ∙ sym (or_with (b x) (among outs x) false (not_in known types i (among outs) occ1 sub x p))
    ];
    outer = λ x o h. elim (or_cases (b x) (among outs x) h) as (λ _. out2 x ≡ true) [
      | inl p ↦ out_in x (fits.outer x (or_right (occ1 x) (occ2 x) o) p)
      | inr p ↦ in2 x (sub x p)
    ];
    typed = goes.typed;
    knows = goes.knows;
  }

  -- a part, within the whole
  pub fits_part : (out out1 : Variables) (b : Bound) (occurs whole : Variables) (seen : Known) (env : Env) → ((x : ℕ) → occurs x ≡ true → whole x ≡ true) → ((x : ℕ) → out x ≡ true → out1 x ≡ true) → Fits known types i out b whole seen env
      → Fits known types i out1 b occurs seen env
  fits_part out out1 b occurs whole seen env sub more_out fits =
      record { bounds = λ x o. fits.bounds x (sub x o); outer = λ x o h. more_out x (fits.outer x (sub x o) h); typed = fits.typed; knows = fits.knows }

-- nothing is used, and nothing is bound
none_used : (here : Set) (w s : List Right) (later : ℕ → Bool) (hold : Hold) → ((x : ℕ) → are_for w x ≡ true → ⊥) → Moves here w s later [] hold hold
none_used here w s later hold none = record {
  keep = λ x v h e. e;
  fresh = λ x h. clash h refl;
  got = λ x c o h l e. absurd (none x h);
  rest = λ x c o h e. e;
  old = λ x c o e. e;
  next = refl;
  names = λ n. n;
  signed = λ x c h. h;
  still = λ k. refl;
  unsigned = λ x h. refl;
}

-- Given are the module, the types of the variables, and what type variables stand for; the program of the graded trees, whose calls are lawful; and the plan and
-- the program of the split trees, with the courses of its calls.
module _ (known : Module) (types i : Instance) (declared : AreGoodTypes known.types) (program : Program) (calls : Procedure → Env → Trace) (lawful : LawfulCalls known program calls)
    (plan : Plan) (split : Program) (course : Procedure → Hold → BranchCourse) where
  -- what goals do that are made of others by putting rights into them
  pub record ListGoes (ns : Nodes) (make : (ℕ → Bool) → List Right → List Right → Nodes) (fits : (ℕ → Bool) → List Right → List Right → Type 0) : Type 1 where
    pub along : (later : ℕ → Bool) (w s : List Right) (out : Variables) (b : Bound) (seen : Known) (here : Set) (hold : Hold) (full : Env) → fits later w s → AllUsed w (in_nodes ns) → Within s (all_outputs ns)
        → SoundAll known types i out b seen ns → Fits known types i out b (in_nodes ns) seen full → Fit b here w hold → Match w hold full → Ready here w b (in_nodes ns) → Names hold → Counted s hold
        → Like (Ends full here w s later (all_outputs ns) hold) (flat (all_branch plan split course (make later w s) hold)) (events (all_trace program calls ns full))
        × Sure (Shown program) (all_branch plan split course (make later w s) hold)
    pub uses : (later : ℕ → Bool) (w s : List Right) (out : Variables) (b : Bound) (seen : Known) (here : Set) (hold : Hold) (rights : ℕ → Bool) (held : List ℕ) (g : List Gift)
        (proper : ℕ → Value → Type 0) → ProperAll known types i seen ns s hold proper → fits later w s → AllUsed w (in_nodes ns)
        → SoundAll known types i out b seen ns → can_fail_of (Joined ns) ≡ false → Fine known types i out b (in_nodes ns) seen hold → Fit b here w hold → Ready here w b (in_nodes ns) → Names hold
        → Rightful w s (all_outputs ns) rights held g hold
        → Keeps proper (Used (After known types i out b (all_outputs ns) (in_nodes ns) seen (known_behind_all ns seen) hold) (most_of (Joined ns) ≡ Zero) here w s later (all_outputs ns) hold held g) rights held g
        (all_branch plan split course (make later w s) hold)
    pub quiet : (later : ℕ → Bool) (out : Variables) (b : Bound) (seen : Known) (here : Set) (hold : Hold) → fits later [] [] → SoundAll known types i out b seen ns → Fine known types i out b (in_nodes ns) seen hold → Fit b here [] hold
        → Ready here [] b (in_nodes ns) → Names hold → Quiet hold.next [] (all_branch plan split course (make later [] []) hold)

  pub list_none : (fits : (ℕ → Bool) → List Right → List Right → Type 0) → ListGoes no_nodes (λ later w s. no_nodes) fits
  list_none fits = record {
    along = λ later w s out b seen here hold full fit all within sound there f t r names counted.
        (((none_used here w s later hold (λ x h. clash (all x h) refl), (t.same, λ x v e. e)), tt), tt);
    uses = λ later w s out b seen here hold rights held g proper is_proper fit all sound can fine f r names q. record {
      moves = none_used here w s later hold (λ x h. clash (all x h) refl);
      kept = λ c l h no. h;
      gave = λ x c h k. clash (q.within x h) refl;
      left = λ c l no. refl;
      signed = λ x h. clash (q.within x h) refl;
      unsigned = λ x h. refl;
      behind = record { own = λ x v o h. h; exact = λ x v o k h. clash o refl; typed = fine.typed; bound = λ x sy o k e. clash o refl; knows = fine.knows; same = λ x o. refl };
      reached = one_not_zero;
    };
    quiet = λ later out b seen here hold fit sound fine f r names. tt;
  }

  -- a goal, and others behind it
  module _ (n : Node) (ns : Nodes) (make : (ℕ → Bool) → List Right → List Right → Node) (makes : (ℕ → Bool) → List Right → List Right → Nodes) (fits fits1 : (ℕ → Bool) → List Right → List Right → Type 0)
      (first : Goes known types i program calls plan split course n make fits) (others : ListGoes ns makes fits1) where
    abbrev both : Nodes
    both = more_nodes n ns

    abbrev outs : List ℕ
    outs = outputs_of n

    abbrev outs1 : List ℕ
    outs1 = all_outputs ns

    abbrev later1 : (ℕ → Bool) → ℕ → Bool
    later1 later = or_later later (in_nodes ns)

    abbrev made : (ℕ → Bool) → List Right → List Right → Nodes
    made later w s = more_nodes (make (later1 later) (used_in n w) (bound_in n s)) (makes later (unused_in n w) (unbound_in n s))

    abbrev due : (ℕ → Bool) → List Right → List Right → Type 0
    due later w s = fits (later1 later) (used_in n w) (bound_in n s) × fits1 later (unused_in n w) (unbound_in n s)

    module _ (later : ℕ → Bool) (w s : List Right) (out : Variables) (b : Bound) (seen : Known) (here : Set) (hold : Hold) (fit : due later w s) (sound : SoundAll known types i out b seen both) (f : Fit b here w hold) (r : Ready here w b (in_nodes both))
        (names : Names hold) where
      abbrev part : Hold → BranchCourse
      part e = node_branch plan split course (make (later1 later) (used_in n w) (bound_in n s)) e

      abbrev go_on : Hold → BranchCourse
      go_on e = all_branch plan split course (makes later (unused_in n w) (unbound_in n s)) e

      abbrev Behind : Set
      Behind = here_behind here (used_in n w) (later1 later) outs

      abbrev seen1 : Known
      seen1 = known_behind n seen

      sound1 : Sound known types i (with out (in_nodes ns)) b seen n
      sound1 = sound_first known types i out b seen n ns sound

      sound2 : SoundAll known types i (with out (in_node n)) (with b (among outs)) seen1 ns
      sound2 = sound_rest known types i out b seen n ns sound

      sub : (x : ℕ) → among outs x ≡ true → in_node n x ≡ true
      sub = outputs_within known types i n (with out (in_nodes ns)) b sound1.good

      rest_used : AllUsed w (in_nodes both) → AllUsed (unused_in n w) (in_nodes ns)
      rest_used all x h =
          let k = those_in (unused (in_node n)) w x h in
          elim (or_cases (in_node n x) (in_nodes ns x) (all x k.0)) as (λ _. in_nodes ns x ≡ true) [ inl p ↦ clash p (not_not (in_node n x) k.1) | inr p ↦ p ]

      rest_within : Within s (outs ++ outs1) → Within (unbound_in n s) outs1
      rest_within within x h =
          let k = those_in (unused (among outs)) s x h in
          elim (or_cases (among outs x) (among outs1 x) (sym (among_append x outs outs1) ∙ within x k.0)) as (λ _. among outs1 x ≡ true) [ inl p ↦ clash p (not_not (among outs x) k.1) | inr p ↦ p ]

      module _ (full : Env) (all : AllUsed w (in_nodes both)) (within : Within s (outs ++ outs1)) (there : Fits known types i out b (in_nodes both) seen full) (t : Match w hold full) (counted : Counted s hold) where
        abbrev R : Hold → Env → Type 0
        R = Ends full here (used_in n w) (bound_in n s) (later1 later) outs hold

        abbrev G : Env → Type 0
        G = GoesBehind known types i (with out (in_nodes ns)) (with b (among outs)) (in_node n) seen1 full

        abbrev Q : Hold → Env → Type 0
        Q = Ends full here w s later (outs ++ outs1) hold

        fits_one : Fits known types i (with out (in_nodes ns)) b (in_node n) seen full
        fits_one = fits_part known types i out (with out (in_nodes ns)) b (in_node n) (in_nodes both) seen full (λ x h. or_left (in_node n x) (in_nodes ns x) h) (λ x h. or_left (out x) (in_nodes ns x) h) there

        along_one : Like R (flat (part hold)) (events (node_trace program calls n full)) × Sure (Shown program) (part hold)
        along_one =
            first.along (later1 later) (used_in n w) (bound_in n s) (with out (in_nodes ns)) b seen here hold full fit.0 (λ x h. (those_in (in_node n) w x h).1) (λ x h. (those_in (among outs) s x h).1) sound1 fits_one
            (fit_first (in_node n) (in_nodes ns) later b here w s outs hold hold f) (match_first (in_node n) (in_nodes ns) later b here w s outs hold hold full t) (ready_first (in_node n) (in_nodes ns) later b here w s outs hold hold r) names
            (λ x h. let k = those_in (among outs) s x h in ap length (for_those (among outs) x s k.1) ∙ counted x k.0)

        goes_one : Each G (events (node_trace program calls n full))
        goes_one = each_event G (node_trace program calls n full) (node_law known declared program calls lawful types i n (with out (in_nodes ns)) b seen full sound1.good sound1.graded sound1.parts fits_one).goes

        along_rest : (e : Hold) (q : Env) → R e q × G q → Like Q (flat (go_on e)) (events (all_trace program calls ns q)) × Sure (Shown program) (go_on e)
        along_rest e q k =
            let a = others.along later (unused_in n w) (unbound_in n s) (with out (in_node n)) (with b (among outs)) seen1 Behind e q fit.1 (rest_used all) (rest_within within) sound2
            (fits_rest known types i out (with out (in_nodes ns)) (with out (in_node n)) b (in_node n) (in_nodes ns) outs seen seen1 full q sub (λ x h. or_right (out x) (in_nodes ns x) h) (λ x h. or_right (out x) (in_node n x) h)
            (λ x h. or_left (out x) (in_node n x) h) there k.1)
            (fit_rest (in_node n) (in_nodes ns) later b here w s outs hold e f k.0.0) (match_rest (in_node n) (in_nodes ns) later b here w s outs hold e full q f t k.0.0 k.0.1.0 k.0.1.1)
            (ready_rest (in_node n) (in_nodes ns) later b here w s outs hold e r) (k.0.0.names names)
            (λ x h. let j = those_in (unused (among outs)) s x h in ap length (for_those (unused (among outs)) x s j.1) ∙ counted x j.0
            ∙ ap length (sym (k.0.0.unsigned x (not_those (among outs) s x (λ a c. clash c (not_not (among outs x) j.1)))))) in (
              like_more (Ends q Behind (unused_in n w) (unbound_in n s) later outs1 e) Q
                  (λ e1 q1 l. (moves_both (in_node n) (in_nodes ns) later b here w s outs hold e outs1 e1 k.0.0 l.0, (l.1.0, λ x v h. l.1.1 x v (k.0.1.1 x v h))))
                  (flat (go_on e)) (events (all_trace program calls ns q)) a.0,
              a.1,
            )

        along_both : Like Q (flat (c_each go_on (part hold))) (events (all_trace program calls both full)) × Sure (Shown program) (c_each go_on (part hold))
        along_both =
            let a = along_one in
            let u : Flat Env = events (node_trace program calls n full) in
            let RG : Hold → Env → Type 0 = λ e q. R e q × G q in
            let alike : Like RG (flat (part hold)) u = like_with R G (flat (part hold)) u a.0 goes_one in
            let all_sure : Each (λ e. Sure (Shown program) (go_on e)) (flat (part hold)) = each_more (λ e. (q : Env) × RG e q) (λ e. Sure (Shown program) (go_on e)) (λ e k. (along_rest e k.0 k.1).1) (flat (part hold)) (like_answers RG (flat (part hold)) u alike) in (
              subst (λ z. Like Q z (events (all_trace program calls both full))) (sym (flat_each (Shown program) go_on (part hold) all_sure a.1))
                  (subst (λ z. Like Q (each (λ e. flat (go_on e)) (flat (part hold))) z) (sym (events_each (λ q. all_trace program calls ns q) (node_trace program calls n full)))
                  (like_each RG Q (λ e. flat (go_on e)) (λ q. events (all_trace program calls ns q)) (λ e q k. (along_rest e q k).0) (flat (part hold)) u alike)),
              sure_each (Shown program) go_on (part hold) all_sure a.1,
            )

      module _ (proper : ℕ → Value → Type 0) (rights : ℕ → Bool) (held : List ℕ) (g : List Gift) (is_proper : ProperAll known types i seen both s hold proper) (all : AllUsed w (in_nodes both)) (can : can_fail_of (Joined both) ≡ false)
          (fine : Fine known types i out b (in_nodes both) seen hold) (q : Rightful w s (outs ++ outs1) rights held g hold) where
        abbrev never1 : Type 0
        never1 = most_of (category_at n) ≡ Zero

        abbrev never2 : Type 0
        never2 = most_of (Joined ns) ≡ Zero

        abbrev never : Type 0
        never = most_of (Joined both) ≡ Zero

        abbrev Gone1 : Hold → Type 0
        Gone1 e = After known types i (with out (in_nodes ns)) b outs (in_node n) seen seen1 hold e

        abbrev Gone2 : Hold → Hold → Type 0
        Gone2 e e1 = After known types i (with out (in_node n)) (with b (among outs)) outs1 (in_nodes ns) seen1 (known_behind_all ns seen1) e e1

        abbrev Gone : Hold → Type 0
        Gone e = After known types i out b (outs ++ outs1) (in_nodes both) seen (known_behind_all ns seen1) hold e

        abbrev UsedOne : List ℕ → List Gift → Hold → Type 0
        UsedOne = Used Gone1 never1 here (used_in n w) (bound_in n s) (later1 later) outs hold held g

        abbrev UsedAll : List ℕ → List Gift → Hold → Type 0
        UsedAll = Used Gone never here w s later (outs ++ outs1) hold held g

        sure_both : (can_fail_of (category_at n) ≡ false) × (never1 ⊎ (can_fail_of (Joined ns) ≡ false))
        sure_both = then_sure (category_at n) (Joined ns) can

        sure_rest : (never1 → ⊥) → can_fail_of (Joined ns) ≡ false
        sure_rest some = elim sure_both.1 as (λ _. can_fail_of (Joined ns) ≡ false) [ inl z ↦ absurd (some z) | inr k ↦ k ]

        proper_one : Proper known types i seen n (bound_in n s) hold proper
        proper_one x c v h k ty given =
            let o = those_in (among outs) s x h in
            is_proper x c v o.0 k ty
            (λ some sy e.
            let some_n : never1 → ⊥ = λ z. some (then_is_zero (category_at n) (Joined ns) (inl z)) in
            let some_ns : never2 → ⊥ = λ z. some (then_is_zero (category_at n) (Joined ns) (inr z)) in
            elim (all_static known types i declared Sequential ns (with out (in_node n)) (with b (among outs)) seen1 sound2.good sound2.graded sound2.parts (sure_rest some_n) some_ns x (joins_right b outs x o.1) sy e) as (λ _. (vs : Values) × (fields sy v ≡ Some vs)) [
              | inl p ↦ given some_n sy p
              | inr a ↦ a v ty
            ])

        uses_one : Keeps proper UsedOne rights held g (part hold)
        uses_one =
            first.uses (later1 later) (used_in n w) (bound_in n s) (with out (in_nodes ns)) b seen here hold rights held g proper proper_one fit.0 (λ x h. (those_in (in_node n) w x h).1) sound1 sure_both.0
            (fine_first (in_node n) (in_nodes ns) later b here w s outs hold hold known types i out seen seen1 fine) (fit_first (in_node n) (in_nodes ns) later b here w s outs hold hold f)
            (ready_first (in_node n) (in_nodes ns) later b here w s outs hold hold r) names
            (rightful_first Gone1 Gone1 Gone never1 never2 never (in_node n) (in_nodes ns) later here w s outs outs1 hold held g rights q)

        uses_rest : (held1 : List ℕ) (g1 : List Gift) (e : Hold) → UsedOne held1 g1 e → Keeps proper UsedAll rights held1 g1 (go_on e)
        uses_rest held1 g1 e u =
            keeps_end proper UsedAll (Used (Gone2 e) never2 Behind (unused_in n w) (unbound_in n s) later outs1 e held1 g1) rights
            (λ held2 g2 e1 v.
            used_both Gone1 (Gone2 e) Gone never1 never2 never (in_node n) (in_nodes ns) later here w s outs outs1 hold held g names held1 g1 e u held2 g2 e1 (λ z. then_zero (category_at n) (Joined ns) z)
            (λ a1 a2. after_both (in_node n) (in_nodes ns) later b here w s outs hold e known types i out seen seen1 outs1 (known_behind_all ns seen1) e1 a1 a2) v)
            (go_on e) held1 g1
            (others.uses later (unused_in n w) (unbound_in n s) (with out (in_node n)) (with b (among outs)) seen1 Behind e rights held1 g1 proper
            (λ x c v h k ty given. is_proper x c v (those_in (unused (among outs)) s x h).0 (u.moves.signed x c k) ty (λ some sy p. given (λ z. some (then_is_zero (category_at n) (Joined ns) (inr z))) sy p))
            fit.1 (rest_used all) sound2 (sure_rest u.reached)
            (fine_rest (in_node n) (in_nodes ns) later b here w s outs hold e known types i out seen seen1 sub f r names u.moves fine u.behind)
            (fit_rest (in_node n) (in_nodes ns) later b here w s outs hold e f u.moves) (ready_rest (in_node n) (in_nodes ns) later b here w s outs hold e r) (u.moves.names names)
            (rightful_rest Gone1 (Gone2 e) Gone never1 never2 never (in_node n) (in_nodes ns) later here w s outs outs1 hold held g names held1 g1 e u rights q))

        uses_both : Keeps proper UsedAll rights held g (c_each go_on (part hold))
        uses_both = keeps_each proper UsedAll rights UsedOne go_on uses_rest (part hold) held g uses_one

    quiet_both : (later : ℕ → Bool) (out : Variables) (b : Bound) (seen : Known) (here : Set) (hold : Hold) → due later [] [] → SoundAll known types i out b seen both → Fine known types i out b (in_nodes both) seen hold → Fit b here [] hold
        → Ready here [] b (in_nodes both) → Names hold → Quiet hold.next [] (all_branch plan split course (made later [] []) hold)
    quiet_both later out b seen here hold fit sound fine f r names =
        let out1 = with out (in_nodes ns) in
        let s1 = sound_first known types i out b seen n ns sound in
        let fine1 = fine_first (in_node n) (in_nodes ns) later b here [] [] outs hold hold known types i out seen (known_behind n seen) fine in
        let f1 = fit_first (in_node n) (in_nodes ns) later b here [] [] outs hold hold f in
        let r1 = ready_first (in_node n) (in_nodes ns) later b here [] [] outs hold hold r in
        let t1 = node_branch plan split course (make (later1 later) [] []) hold in
        let a = first.along (later1 later) [] [] out1 b (occurring n seen) here hold hold.env fit.0 (λ x h. clash h refl) (λ x h. clash h refl) (sound_occurring known types i out1 b seen n s1)
        (hold_fits known types i out1 b seen n here hold fine1 f1 r1) f1 (match_self hold) r1 names (λ x h. clash h refl) in
        let P : Hold → Type 0 = Answered known types i declared program calls lawful out1 b seen n here hold s1 fine1 f1 r1 (later1 later) in
        quiet_each hold.next (λ e. all_branch plan split course (makes later [] []) e) t1 [] (first.quiet (later1 later) out1 b seen here hold fit.0 s1 fine1 f1 r1 names)
        (each_more P (λ e. Quiet hold.next [] (all_branch plan split course (makes later [] []) e))
        (λ e k.
        subst (λ (m : ℕ). Quiet m [] (all_branch plan split course (makes later [] []) e)) k.0.next
        (others.quiet later (with out (in_node n)) (with b (among outs)) (known_behind n seen) (here_behind here [] (later1 later) outs) e fit.1 (sound_rest known types i out b seen n ns sound)
        (fine_rest (in_node n) (in_nodes ns) later b here [] [] outs hold e known types i out seen (known_behind n seen) (outputs_within known types i n out1 b s1.good) f r names k.0 fine k.1.0)
        (fit_rest (in_node n) (in_nodes ns) later b here [] [] outs hold e f k.0) (ready_rest (in_node n) (in_nodes ns) later b here [] [] outs hold e r) (k.0.names names)))
        (flat t1) (leaf_answers known types i declared program calls lawful out1 b seen n here hold s1 fine1 f1 r1 (later1 later) (flat t1) a.0))

    pub list_more : ListGoes both made due
    list_more = record {
      along = λ later w s out b seen here hold full fit all within sound there f t r names counted. along_both later w s out b seen here hold fit sound f r names full all within there t counted;
      uses = λ later w s out b seen here hold rights held g proper is_proper fit all sound can fine f r names q. uses_both later w s out b seen here hold fit sound f r names proper rights held g is_proper all can fine q;
      quiet = quiet_both;
    }

  -- goals of a body, at the sites of the plan
  module _ (site : ℕ) (n : Node) (ns : Nodes) (first : Goes known types i program calls plan split course n (λ later w s. placed site later w s n) (λ later w s. Planned plan site (planned later w s n)))
      (others : ListGoes ns (λ later w s. placed_in_turn (site + forks n) later w s ns) (λ later w s. Planned plan (site + forks n) (planned_in_turn later w s ns))) where
    abbrev one : (ℕ → Bool) → List Right → List Right → Node
    one later w s = placed site later w s n

    abbrev rest : (ℕ → Bool) → List Right → List Right → Nodes
    rest later w s = placed_in_turn (site + forks n) later w s ns

    abbrev due_one : (ℕ → Bool) → List Right → List Right → Type 0
    due_one later w s = Planned plan site (planned later w s n)

    abbrev due_rest : (ℕ → Bool) → List Right → List Right → Type 0
    due_rest later w s = Planned plan (site + forks n) (planned_in_turn later w s ns)

    in_parts : (later : ℕ → Bool) (w s : List Right) → Planned plan site (planned_in_turn later w s (more_nodes n ns)) → due_one (or_later later (in_nodes ns)) (used_in n w) (bound_in n s) × due_rest later (unused_in n w) (unbound_in n s)
    in_parts later w s h =
        let xs = planned (or_later later (in_nodes ns)) (used_in n w) (bound_in n s) n in
        let ys = planned_in_turn later (unused_in n w) (unbound_in n s) ns in
        (planned_front plan site xs ys h, planned_back plan site (forks n) xs ys (planned_count n (or_later later (in_nodes ns)) (used_in n w) (bound_in n s)) h)

    pub in_turn_goes : ListGoes (more_nodes n ns) (λ later w s. placed_in_turn site later w s (more_nodes n ns)) (λ later w s. Planned plan site (planned_in_turn later w s (more_nodes n ns)))
    in_turn_goes =
        let all = list_more n ns one rest due_one due_rest first others in
        record {
          along = λ later w s out b seen here hold full fit. all.along later w s out b seen here hold full (in_parts later w s fit);
          uses = λ later w s out b seen here hold rights held g proper is_proper fit. all.uses later w s out b seen here hold rights held g proper is_proper (in_parts later w s fit);
          quiet = λ later out b seen here hold fit. all.quiet later out b seen here hold (in_parts later [] [] fit);
        }
