-- The arms of a switch beside other branches: of a value that is here, the arm of its symbol.
use Rattle.std.proofs.Common.{◌≡◌, inl, inr, ℕ, ◌+◌, Bool, true, false, ◌||◌, is_some, List, [], ◌∷◌, Option, Some, None, refl, ap, sym, subst, ◌∙◌}
use Rattle.std.specs.List.{AllByRecursion, list_all}
use Rattle.merc_base.specs.Category.{can_fail_of, most_of}
use Rattle.merc_base.specs.declared.category.Category.{Category}
use Rattle.merc_base.specs.declared.category.Most.TheVariants.{Zero}
use Rattle.merc_tree.specs.Types.{TypeExpr, replaced}
use Rattle.merc_tree.specs.declared.declarations.Module.{Module}
use Rattle.merc_goal_tree.specs.declared.goal.Symbol.{Symbol}
use Rattle.merc_goal_tree.specs.declared.goal.Symbol.TheVariants.{Constructor}
use Rattle.merc_graded_tree.specs.declared.basic.Procedure.{Procedure}
use Rattle.merc_graded_tree.specs.Nodes.{Node, Arms, no_arms, more_arms, outputs_of}
use Rattle.merc_graded_tree.specs.Roots.{symbols_of, bodies_of}
use Rattle.merc_graded_tree.specs.Variables.{in_node, in_arms}
use Rattle.merc_grading.specs.Categories.{arms_category, greater_most}
use Rattle.merc_grading.specs.Faults.{parallel_faults, arm_faults}
use Rattle.merc_grading.specs.Known.{same_symbol, symbols_of_type, has_symbol, are_complete, Known, known_of, known_behind}
use Rattle.merc_grading.specs.Grading.{category_at, categories}
use Rattle.merc_order.specs.Bound.{Bound, with, among}
use Rattle.merc_order.specs.Procedures.{modes_of}
use Rattle.merc_order_laws.specs.Bindings.{Variables, ArmBinds}
use Rattle.merc_order_laws.specs.GoodTree.{node_ends, GoodArms, ArmsBind}
use Rattle.merc_order_laws.specs.WrittenGoals.{basic_goals, arm_basic_goals}
use Rattle.merc_order_laws.proofs.Facts.{clash, or_left, or_right, or_cases, and_left, and_right}
use Rattle.merc_order_laws.proofs.Written.{all_left, all_right}
use Rattle.merc_value.specs.Value.{Value, Con, Values}
use Rattle.merc_meaning.specs.Trace.{Env, Trace}
use Rattle.merc_meaning.specs.Values.{count, fields}
use Rattle.merc_meaning.specs.Steps.{value_at}
use Rattle.merc_meaning.specs.Runs.{Program, where_some as t_where, node_trace, arms_trace}
use Rattle.merc_program_laws.specs.ValueTypes.{HasType}
use Rattle.merc_program_laws.specs.GoodPrograms.{AreGoodTypes}
use Rattle.merc_program_laws.proofs.Values.{Instance, none_not, same_some, is_some_of, same_number, chosen_true, symbol_decides, fields_of_constructor}
use Rattle.merc_program_laws.proofs.Knowing.{knows_more, value_symbol}
use Rattle.merc_program_laws.proofs.Lawful.{Fits}
use Rattle.merc_program_laws.proofs.Calls.{LawfulCalls}
use Rattle.merc_program_laws.proofs.Maxima.{zero_is, sure_is, fails_or, greater_zero}
use Rattle.merc_program_laws.proofs.Graded.{GradedArms, ends_zero}
use Rattle.merc_program_laws.proofs.TreeCategories.{IsPart}
use Rattle.merc_core.specs.Rights.{has}
use Rattle.merc_rights.specs.Rights.{Right, used_in, bound_in}
use Rattle.merc_par_split.specs.Forks.{forks}
use Rattle.merc_par_split.specs.Split.{placed, placed_arms}
use Rattle.merc_par_split.specs.Sites.{are_for, planned, planned_arms}
use Rattle.merc_par_split.proofs.PlannedCounts.{planned_count}
use Rattle.merc_plan.specs.Branch.{Hold, Fork, Gift, BranchCourse, BranchCourses}
use Rattle.merc_plan.specs.Branches.{Plan, where_some as c_where, node_branch, arms_branch}
use Rattle.merc_plan.proofs.Flat.{Like, events}
use Rattle.merc_plan.proofs.Judging.{flat, Sure, Keeps, Quiet}
use Rattle.merc_plan.proofs.Shown.{Shown}
use Rattle.merc_plan.proofs.Holds.{keeps_end}
use Rattle.merc_script_laws.specs.Parallel.{ArmsKeepOutputs, ArmsHaveFew}
use Rattle.merc_script_laws.proofs.Bonds.{Counted, Set, Here, signs, AllUsed, Fit, Fine, After, Match, Names, Ends, Ready, Used, Rightful, Planned, Sound, Goes}
use Rattle.merc_script_laws.proofs.RightLists.{those_in}
use Rattle.merc_script_laws.proofs.Seen.{other_more}
use Rattle.merc_script_laws.proofs.JoinedLeaves.{ready_less, fine_less}
use Rattle.merc_script_laws.proofs.Placing.{planned_front, planned_back}
use Rattle.merc_script_laws.proofs.Arms.{armed, arm_along, arm_uses}
use Rattle.merc_script_laws.proofs.InTurn.{no_first, no_rest}
use Rattle.merc_script_laws.proofs.Ways.{after_way, still_known}

-- Which arm is taken.

-- some arm is taken for a value
abbrev pub arm_for : Value → Arms → Bool
arm_for v no_arms = false
arm_for v (more_arms s n arms) = is_some (fields s v) || arm_for v arms

abbrev pub of_arms : Arms → Category
of_arms arms = arms_category (categories (bodies_of arms))

arms_zero : (s : Symbol) (n : Node) (arms : Arms) → most_of (of_arms (more_arms s n arms)) ≡ Zero → (most_of (category_at n) ≡ Zero) × (most_of (of_arms arms) ≡ Zero)
arms_zero s n arms z =
    greater_zero (most_of (category_at n)) (most_of (of_arms arms)) (zero_is (can_fail_of (category_at n) || can_fail_of (of_arms arms)) (greater_most (most_of (category_at n)) (most_of (of_arms arms))) z)

arms_sure : (s : Symbol) (n : Node) (arms : Arms) → can_fail_of (of_arms (more_arms s n arms)) ≡ false → (can_fail_of (category_at n) ≡ false) × (can_fail_of (of_arms arms) ≡ false)
arms_sure s n arms z =
    fails_or (can_fail_of (category_at n)) (can_fail_of (of_arms arms)) (sure_is (can_fail_of (category_at n) || can_fail_of (of_arms arms)) (greater_most (most_of (category_at n)) (most_of (of_arms arms))) z)

other_arm : (o : Option Values) (b : Bool) → o ≡ None → (is_some o || b) ≡ true → b ≡ true
other_arm None b e h = h
other_arm (Some vs) b e h = absurd (none_not (sym e))

arm_of : (arms : Arms) (c : ℕ) (vs : Values) → has_symbol (symbols_of arms) (Constructor c (count vs)) ≡ true → arm_for (Con c vs) arms ≡ true
arm_of no_arms c vs h = clash h refl
arm_of (more_arms s n arms) c vs h = elim (or_cases (same_symbol (Constructor c (count vs)) s) (has_symbol (symbols_of arms) (Constructor c (count vs))) h) as (λ _. arm_for (Con c vs) (more_arms s n arms) ≡ true) [
  | inl p ↦ or_left (is_some (fields s (Con c vs))) (arm_for (Con c vs) arms)
      (is_some_of (fields s (Con c vs)) vs (ap (λ (z : Symbol). fields z (Con c vs)) (sym ((symbol_decides (Constructor c (count vs)) s).0 p)) ∙ fields_of_constructor c (count vs) vs refl))
  | inr p ↦ or_right (is_some (fields s (Con c vs))) (arm_for (Con c vs) arms) (arm_of arms c vs p)
]

all_of : (test : Symbol → Bool) (ss : List Symbol) (s : Symbol) → list_all test ss ≡ true → has_symbol ss s ≡ true → test s ≡ true
all_of test [] s h k = clash k refl
all_of test (u ∷ ss) s h k = elim (or_cases (same_symbol s u) (has_symbol ss s) k) as (λ _. test s ≡ true) [
  | inl p ↦ ap test ((symbol_decides s u).0 p) ∙ and_left (test u) (list_all test ss) h
  | inr p ↦ all_of test ss s (and_right (test u) (list_all test ss) h) p
]

-- one course or the other, beside one trace or the other
where_along : (Holds : Fork → BranchCourses → Type 0) (R : Hold → Env → Type 0) (t t1 : BranchCourse) (u u1 : Trace) (o : Option Values) → ((vs : Values) → o ≡ Some vs → Like R (flat t) (events u) × Sure Holds t) → Like R (flat t1) (events u1) × Sure Holds t1
    → Like R (flat (c_where o t t1)) (events (t_where o u u1)) × Sure Holds (c_where o t t1)
where_along Holds R t t1 u u1 None first rest = rest
where_along Holds R t t1 u u1 (Some vs) first rest = first vs refl

where_is : (P : BranchCourse → Type 0) (t t1 : BranchCourse) (o : Option Values) → ((vs : Values) → o ≡ Some vs → P t) → (o ≡ None → P t1) → P (c_where o t t1)
where_is P t t1 None first rest = rest refl
where_is P t t1 (Some vs) first rest = first vs refl

-- Given are the module, the types of the variables, and what type variables stand for.
module _ (known : Module) (types i : Instance) where
  covers_case : AreGoodTypes known.types → (t : TypeExpr) (arms : Arms) (v : Value) (o : Option (List Symbol)) → symbols_of_type known.types t ≡ o → are_complete o (symbols_of arms) ≡ true → HasType known.types v (replaced i t)
      → arm_for v arms ≡ true
  covers_case declared t arms v None e h k = clash h refl
  covers_case declared t arms v (Some ss) e h k =
      let r = value_symbol known types i declared t v ss k e in
      ap (λ (z : Value). arm_for z arms) r.2 ∙ arm_of arms r.0 r.1 (all_of (λ s. has_symbol (symbols_of arms) s) ss (Constructor r.0 (count r.1)) h r.3)

  -- a value of a type whose symbols all have arms has one
  pub covers : AreGoodTypes known.types → (t : TypeExpr) (arms : Arms) (v : Value) → are_complete (symbols_of_type known.types t) (symbols_of arms) ≡ true → HasType known.types v (replaced i t) → arm_for v arms ≡ true
  covers declared t arms v h k = covers_case declared t arms v (symbols_of_type known.types t) refl h k

  -- the arms of a sound switch on a variable, with these variables and outputs
  pub record SoundArms (out whole : Variables) (b : Bound) (outs : List ℕ) (seen : Known) (x : ℕ) (arms : Arms) : Type 0 where
    pub good : GoodArms (modes_of known.preds) (with out (among (x ∷ []))) b arms
    pub binds : ArmsBind (modes_of known.preds) out whole b outs arms
    pub graded : GradedArms known.types (modes_of known.preds) types seen x arms
    pub parts : AllByRecursion (IsPart known types i) (arm_basic_goals arms)
    pub outputs : ArmsKeepOutputs (modes_of known.preds) outs arms
    pub beside : arm_faults arms ≡ []
    pub few : ArmsHaveFew arms

  sound_arm : (out whole : Variables) (b : Bound) (outs : List ℕ) (seen : Known) (x : ℕ) (sy : Symbol) (n : Node) (arms : Arms) → SoundArms out whole b outs seen x (more_arms sy n arms)
      → Sound known types i (with out (among (x ∷ []))) b ((x, sy) ∷ seen) n
  sound_arm out whole b outs seen x sy n arms sound = record {
    good = sound.good.0;
    graded = sound.graded.0;
    parts = all_left (IsPart known types i) (basic_goals n) (arm_basic_goals arms) sound.parts;
    parallel = record { outputs = sound.outputs.0.0; beside = no_first (parallel_faults n) (arm_faults arms) sound.beside; few = sound.few.0 };
  }

  sound_others : (out whole : Variables) (b : Bound) (outs : List ℕ) (seen : Known) (x : ℕ) (sy : Symbol) (n : Node) (arms : Arms) → SoundArms out whole b outs seen x (more_arms sy n arms) → SoundArms out whole b outs seen x arms
  sound_others out whole b outs seen x sy n arms sound = record {
    good = sound.good.1;
    binds = sound.binds.1;
    graded = sound.graded.1;
    parts = all_right (IsPart known types i) (basic_goals n) (arm_basic_goals arms) sound.parts;
    outputs = sound.outputs.1;
    beside = no_rest (parallel_faults n) (arm_faults arms) sound.beside;
    few = sound.few.1;
  }

  -- in the arm of a value's symbol this symbol is known of the variable
  fine_arm : (out whole : Variables) (b : Bound) (seen : Known) (hold : Hold) (x : ℕ) (sy : Symbol) (v : Value) (vs : Values) → Fine known types i out b whole seen hold → Names hold → b x ≡ true → Here hold x v → fields sy v ≡ Some vs
      → Fine known types i (with out (among (x ∷ []))) b whole ((x, sy) ∷ seen) hold
  fine_arm out whole b seen hold x sy v vs fine names is at e = record {
    exact = fine.exact;
    outer = λ y o h. or_left (out y) (among (x ∷ []) y) (fine.outer y o h);
    typed = fine.typed;
    typed_owed = fine.typed_owed;
    bound = λ y s o k. elim (same_number x y) as (λ _. b y ≡ true) [ inl p ↦ sym (ap b p.1) ∙ is | inr p ↦ fine.bound y s o (sym (other_more seen x y sy p.1) ∙ k) ];
    knows = λ y s u k h. elim (same_number x y) as (λ _. (ws : Values) × (fields s u ≡ Some ws)) [
      | inl p ↦
          let same_symbol : sy ≡ s = same_some (sym (chosen_true (Some sy) (known_of seen y) p.0) ∙ k) in
          let same_value : v ≡ u = same_some (sym at ∙ ap (value_at hold.env) p.1 ∙ h) in
          (vs, subst (λ (z : Value). fields s z ≡ Some vs) same_value (subst (λ (z : Symbol). fields z v ≡ Some vs) same_symbol e))
      | inr p ↦ fine.knows y s u (sym (other_more seen x y sy p.1) ∙ k) h
    ];
    knows_owed = λ y c s u o k h. elim (same_number x y) as (λ _. (ws : Values) × (fields s u ≡ Some ws)) [
      | inl p ↦ absurd (names.valueless y c (Some u) v h (subst (λ (z : ℕ). Here hold z v) p.1 at))
      | inr p ↦ fine.knows_owed y c s u o (sym (other_more seen x y sy p.1) ∙ k) h
    ];
  }

  fits_arm : (out occurs whole : Variables) (b : Bound) (seen : Known) (env : Env) (x : ℕ) (sy : Symbol) (v : Value) (vs : Values) → Fits known types i out b whole seen env → ((y : ℕ) → occurs y ≡ true → whole y ≡ true)
      → value_at env x ≡ Some v → fields sy v ≡ Some vs → Fits known types i (with out (among (x ∷ []))) b occurs ((x, sy) ∷ seen) env
  fits_arm out occurs whole b seen env x sy v vs fits sub at e = record {
    bounds = λ y o. fits.bounds y (sub y o);
    outer = λ y o h. or_left (out y) (among (x ∷ []) y) (fits.outer y (sub y o) h);
    typed = fits.typed;
    knows = knows_more seen env x sy v vs fits.knows at e;
  }

-- Given are the module, the types of the variables, and what type variables stand for; the program of the graded trees, whose calls are lawful; and the plan and
-- the program of the split trees, with the courses of its calls.
module _ (known : Module) (types i : Instance) (declared : AreGoodTypes known.types) (program : Program) (calls : Procedure → Env → Trace) (lawful : LawfulCalls known program calls)
    (plan : Plan) (split : Program) (course : Procedure → Hold → BranchCourse) where
  -- what arms do that are made of others by putting rights into them, for a value of the variable that is here
  pub record ArmsGo (arms : Arms) (make : (ℕ → Bool) → List Right → List Right → Arms) (fits : (ℕ → Bool) → List Right → List Right → Type 0) : Type 1 where
    pub along : (x : ℕ) (v : Value) (later : ℕ → Bool) (w s : List Right) (out whole : Variables) (outs : List ℕ) (b : Bound) (seen : Known) (here : Set) (hold : Hold) (full : Env) → fits later w s
        → ((y : ℕ) → in_arms arms y ≡ true → whole y ≡ true) → SoundArms known types i out whole b outs seen x arms → Fits known types i out b whole seen full → Fit b here w hold → Match w hold full → Ready here w b whole
        → Names hold → Counted s hold → value_at full x ≡ Some v
        → Like (Ends full here w s later outs hold) (flat (arms_branch plan split course (make later w s) (Some v) hold)) (events (arms_trace program calls arms (Some v) full))
        × Sure (Shown program) (arms_branch plan split course (make later w s) (Some v) hold)
    pub uses : (x : ℕ) (v : Value) (later : ℕ → Bool) (w s : List Right) (out whole : Variables) (outs : List ℕ) (b : Bound) (seen : Known) (here : Set) (hold : Hold) (rights : ℕ → Bool) (held : List ℕ) (g : List Gift)
        (proper : ℕ → Value → Type 0) → ((y c : ℕ) (u : Value) → are_for s y ≡ true → has c (signs y hold) ≡ true → HasType known.types u (replaced i (types y)) → proper c u) → fits later w s
        → ((y : ℕ) → in_arms arms y ≡ true → whole y ≡ true) → AllUsed w whole → SoundArms known types i out whole b outs seen x arms → can_fail_of (of_arms arms) ≡ false → arm_for v arms ≡ true
        → Fine known types i out b whole seen hold → Fit b here w hold → Ready here w b whole → Names hold → Rightful w s outs rights held g hold → b x ≡ true → Here hold x v
        → Keeps proper (Used (After known types i out b outs whole seen seen hold) (most_of (of_arms arms) ≡ Zero) here w s later outs hold held g) rights held g (arms_branch plan split course (make later w s) (Some v) hold)
    pub quiet : (x : ℕ) (v : Value) (later : ℕ → Bool) (out whole : Variables) (outs : List ℕ) (b : Bound) (seen : Known) (here : Set) (hold : Hold) → fits later [] [] → ((y : ℕ) → in_arms arms y ≡ true → whole y ≡ true)
        → SoundArms known types i out whole b outs seen x arms → Fine known types i out b whole seen hold → Fit b here [] hold → Ready here [] b whole → Names hold → b x ≡ true → Here hold x v
        → Quiet hold.next [] (arms_branch plan split course (make later [] []) (Some v) hold)

  pub no_arms_go : (fits : (ℕ → Bool) → List Right → List Right → Type 0) → ArmsGo no_arms (λ later w s. no_arms) fits
  no_arms_go fits = record {
    along = λ x v later w s out whole outs b seen here hold full fit sub sound there f t r names counted at. (tt, tt);
    uses = λ x v later w s out whole outs b seen here hold rights held g proper is_proper fit sub used sound can taken fine f r names q is at. clash taken refl;
    quiet = λ x v later out whole outs b seen here hold fit sub sound fine f r names is at. tt;
  }

  -- an arm, and others
  module _ (sy : Symbol) (n : Node) (arms : Arms) (make : (ℕ → Bool) → List Right → List Right → Node) (makes : (ℕ → Bool) → List Right → List Right → Arms) (fits fits1 : (ℕ → Bool) → List Right → List Right → Type 0)
      (goes : Goes known types i program calls plan split course n make fits) (others : ArmsGo arms makes fits1) where
    abbrev all_arms : Arms
    all_arms = more_arms sy n arms

    abbrev made : (ℕ → Bool) → List Right → List Right → Arms
    made later w s = more_arms sy (armed n make later w s) (makes later w s)

    abbrev due : (ℕ → Bool) → List Right → List Right → Type 0
    due later w s = fits later (used_in n w) (bound_in n s) × fits1 later w s

    abbrev arm : (ℕ → Bool) → List Right → List Right → Hold → BranchCourse
    arm later w s hold = node_branch plan split course (armed n make later w s) hold

    abbrev other_arms : (ℕ → Bool) → List Right → List Right → Value → Hold → BranchCourse
    other_arms later w s v hold = arms_branch plan split course (makes later w s) (Some v) hold

    in_arm : (whole : Variables) → ((y : ℕ) → in_arms all_arms y ≡ true → whole y ≡ true) → (y : ℕ) → in_node n y ≡ true → whole y ≡ true
    in_arm whole sub y h = sub y (or_left (in_node n y) (in_arms arms y) h)

    in_others : (whole : Variables) → ((y : ℕ) → in_arms all_arms y ≡ true → whole y ≡ true) → (y : ℕ) → in_arms arms y ≡ true → whole y ≡ true
    in_others whole sub y h = sub y (or_right (in_node n y) (in_arms arms y) h)

    along : (x : ℕ) (v : Value) (later : ℕ → Bool) (w s : List Right) (out whole : Variables) (outs : List ℕ) (b : Bound) (seen : Known) (here : Set) (hold : Hold) (full : Env) → due later w s
        → ((y : ℕ) → in_arms all_arms y ≡ true → whole y ≡ true) → SoundArms known types i out whole b outs seen x all_arms → Fits known types i out b whole seen full → Fit b here w hold → Match w hold full → Ready here w b whole
        → Names hold → Counted s hold → value_at full x ≡ Some v
        → Like (Ends full here w s later outs hold) (flat (c_where (fields sy v) (arm later w s hold) (other_arms later w s v hold))) (events (arms_trace program calls all_arms (Some v) full))
        × Sure (Shown program) (c_where (fields sy v) (arm later w s hold) (other_arms later w s v hold))
    along x v later w s out whole outs b seen here hold full fit sub sound there f t r names counted at =
        where_along (Shown program) (Ends full here w s later outs hold) (arm later w s hold) (other_arms later w s v hold) (node_trace program calls n full) (arms_trace program calls arms (Some v) full) (fields sy v)
        (λ vs e.
        arm_along known types i declared program calls lawful plan split course n make fits goes later w s fit.0 (with out (among (x ∷ []))) b ((x, sy) ∷ seen) here hold (sound_arm known types i out whole b outs seen x sy n arms sound) f
        (ready_less here w b whole (in_node n) (in_arm whole sub) r) names full (fits_arm known types i out (in_node n) whole b seen full x sy v vs there (in_arm whole sub) at e) t counted outs sound.outputs.0.1)
        (others.along x v later w s out whole outs b seen here hold full fit.1 (in_others whole sub) (sound_others known types i out whole b outs seen x sy n arms sound) there f t r names counted at)

    module _ (x : ℕ) (v : Value) (later : ℕ → Bool) (w s : List Right) (out whole : Variables) (outs : List ℕ) (b : Bound) (seen : Known) (here : Set) (hold : Hold) (rights : ℕ → Bool) (held : List ℕ) (g : List Gift) (proper : ℕ → Value → Type 0)
        (is_proper : (y c : ℕ) (u : Value) → are_for s y ≡ true → has c (signs y hold) ≡ true → HasType known.types u (replaced i (types y)) → proper c u) (fit : due later w s) (sub : (y : ℕ) → in_arms all_arms y ≡ true → whole y ≡ true)
        (used : AllUsed w whole) (sound : SoundArms known types i out whole b outs seen x all_arms) (can : can_fail_of (of_arms all_arms) ≡ false) (taken : arm_for v all_arms ≡ true) (fine : Fine known types i out b whole seen hold)
        (f : Fit b here w hold) (r : Ready here w b whole) (names : Names hold) (q : Rightful w s outs rights held g hold) (is : b x ≡ true) (at : Here hold x v) where
      abbrev seen1 : Known
      seen1 = (x, sy) ∷ seen

      abbrev out1 : Variables
      out1 = with out (among (x ∷ []))

      abbrev Gone : Hold → Type 0
      Gone e = After known types i out b outs whole seen seen hold e

      abbrev Gone1 : Hold → Type 0
      Gone1 e = After known types i out1 b (outputs_of n) whole seen1 (known_behind n seen1) hold e

      abbrev UsedAll : List ℕ → List Gift → Hold → Type 0
      UsedAll = Used Gone (most_of (of_arms all_arms) ≡ Zero) here w s later outs hold held g

      abbrev UsedArm : List ℕ → List Gift → Hold → Type 0
      UsedArm = Used Gone1 (most_of (category_at n) ≡ Zero) here w s later outs hold held g

      abbrev UsedOthers : List ℕ → List Gift → Hold → Type 0
      UsedOthers = Used Gone (most_of (of_arms arms) ≡ Zero) here w s later outs hold held g

      sound1 : Sound known types i out1 b seen1 n
      sound1 = sound_arm known types i out whole b outs seen x sy n arms sound

      cans : (can_fail_of (category_at n) ≡ false) × (can_fail_of (of_arms arms) ≡ false)
      cans = arms_sure sy n arms can

      -- what is so behind the arm is so of the switch
      arm_gone : (held1 : List ℕ) (g1 : List Gift) (e : Hold) → UsedArm held1 g1 e → Gone e
      arm_gone held1 g1 e u = after_way known types i out b outs whole seen here w hold e fine f r u.moves.keep u.behind.own exact u.behind.typed late where
        owed : (y : ℕ) (u : Value) → ArmBinds (node_ends (modes_of known.preds) n) out whole b outs (with b (among (outputs_of n))) → whole y ≡ true → out y ≡ true → Here e y u → with b (among outs) y ≡ true
        owed y z (inl unreached) o k h = absurd (u.reached (ends_zero known.types (modes_of known.preds) types n seen1 out1 b sound1.good sound1.graded unreached))
        owed y z (inr binds) o k h = sym (binds y o k) ∙ u.behind.exact y z o (or_left (out y) (among (x ∷ []) y) k) h

        exact : (y : ℕ) (u : Value) → whole y ≡ true → out y ≡ true → Here e y u → with b (among outs) y ≡ true
        exact y z o k h = owed y z sound.binds.0 o k h

        not_it : (y : ℕ) → are_for w y ≡ true → x ≡ y → ⊥
        not_it y h p = let o = f.owed y h in names.valueless y o.0 o.1.0 v o.1.1 (subst (λ (z : ℕ). Here hold z v) p at)

        late : (y : ℕ) (sz : Symbol) (u : Value) → are_for w y ≡ true → b y ≡ true → known_of seen y ≡ Some sz → Here e y u → (vs : Values) × (fields sz u ≡ Some vs)
        late y sz z h k p l = u.behind.knows y sz z (still_known known types i n out1 b seen1 sound1 cans.0 u.reached y k sz (other_more seen x y sy (not_it y h) ∙ p)) l

      uses_arms : Keeps proper UsedAll rights held g (c_where (fields sy v) (arm later w s hold) (other_arms later w s v hold))
      uses_arms =
          where_is (λ t. Keeps proper UsedAll rights held g t) (arm later w s hold) (other_arms later w s v hold) (fields sy v)
          (λ vs e.
          keeps_end proper UsedAll UsedArm rights
          (λ held1 g1 e1 u. record {
            moves = u.moves;
            kept = u.kept;
            gave = u.gave;
            left = u.left;
            signed = u.signed;
            unsigned = u.unsigned;
            behind = arm_gone held1 g1 e1 u;
            reached = λ z. u.reached (arms_zero sy n arms z).0;
          })
          (arm later w s hold) held g
          (arm_uses known types i declared program calls lawful plan split course n make fits goes later w s fit.0 out1 b seen1 here hold sound1 f (ready_less here w b whole (in_node n) (in_arm whole sub) r) names whole outs proper rights held g
          (λ y c u h k ty had. is_proper y c u (those_in (among (outputs_of n)) s y h).0 k ty) cans.0 (in_arm whole sub) used (fine_arm known types i out whole b seen hold x sy v vs fine names is at e) q sound.outputs.0.1))
          (λ e.
          keeps_end proper UsedAll UsedOthers rights
          (λ held1 g1 e1 u. record {
            moves = u.moves;
            kept = u.kept;
            gave = u.gave;
            left = u.left;
            signed = u.signed;
            unsigned = u.unsigned;
            behind = u.behind;
            reached = λ z. u.reached (arms_zero sy n arms z).1;
          })
          (other_arms later w s v hold) held g
          (others.uses x v later w s out whole outs b seen here hold rights held g proper is_proper fit.1 (in_others whole sub) used (sound_others known types i out whole b outs seen x sy n arms sound) cans.1 (other_arm (fields sy v) (arm_for v arms) e taken)
          fine f r names q is at))

    quiet : (x : ℕ) (v : Value) (later : ℕ → Bool) (out whole : Variables) (outs : List ℕ) (b : Bound) (seen : Known) (here : Set) (hold : Hold) → due later [] [] → ((y : ℕ) → in_arms all_arms y ≡ true → whole y ≡ true)
        → SoundArms known types i out whole b outs seen x all_arms → Fine known types i out b whole seen hold → Fit b here [] hold → Ready here [] b whole → Names hold → b x ≡ true → Here hold x v
        → Quiet hold.next [] (c_where (fields sy v) (arm later [] [] hold) (other_arms later [] [] v hold))
    quiet x v later out whole outs b seen here hold fit sub sound fine f r names is at =
        where_is (λ t. Quiet hold.next [] t) (arm later [] [] hold) (other_arms later [] [] v hold) (fields sy v)
        (λ vs e.
        goes.quiet later (with out (among (x ∷ []))) b ((x, sy) ∷ seen) here hold fit.0 (sound_arm known types i out whole b outs seen x sy n arms sound)
        (fine_less known types i (with out (among (x ∷ []))) b whole (in_node n) ((x, sy) ∷ seen) hold (in_arm whole sub) (fine_arm known types i out whole b seen hold x sy v vs fine names is at e)) f
        (ready_less here [] b whole (in_node n) (in_arm whole sub) r) names)
        (λ e. others.quiet x v later out whole outs b seen here hold fit.1 (in_others whole sub) (sound_others known types i out whole b outs seen x sy n arms sound) fine f r names is at)

    pub more_arms_go : ArmsGo all_arms made due
    more_arms_go = record { along = along; uses = uses_arms; quiet = quiet }

  -- arms of a switch, at the sites of the plan
  module _ (site : ℕ) (sy : Symbol) (n : Node) (arms : Arms) (goes : Goes known types i program calls plan split course n (λ later w s. placed site later w s n) (λ later w s. Planned plan site (planned later w s n)))
      (others : ArmsGo arms (λ later w s. placed_arms (site + forks n) later w s arms) (λ later w s. Planned plan (site + forks n) (planned_arms later w s arms))) where
    abbrev one : (ℕ → Bool) → List Right → List Right → Node
    one later w s = placed site later w s n

    abbrev rest : (ℕ → Bool) → List Right → List Right → Arms
    rest later w s = placed_arms (site + forks n) later w s arms

    abbrev due_one : (ℕ → Bool) → List Right → List Right → Type 0
    due_one later w s = Planned plan site (planned later w s n)

    abbrev due_rest : (ℕ → Bool) → List Right → List Right → Type 0
    due_rest later w s = Planned plan (site + forks n) (planned_arms later w s arms)

    in_parts : (later : ℕ → Bool) (w s : List Right) → Planned plan site (planned_arms later w s (more_arms sy n arms)) → due_one later (used_in n w) (bound_in n s) × due_rest later w s
    in_parts later w s h =
        let xs = planned later (used_in n w) (bound_in n s) n in
        let ys = planned_arms later w s arms in
        (planned_front plan site xs ys h, planned_back plan site (forks n) xs ys (planned_count n later (used_in n w) (bound_in n s)) h)

    pub arms_go : ArmsGo (more_arms sy n arms) (λ later w s. placed_arms site later w s (more_arms sy n arms)) (λ later w s. Planned plan site (planned_arms later w s (more_arms sy n arms)))
    arms_go =
        let all = more_arms_go sy n arms one rest due_one due_rest goes others in
        record {
          along = λ x v later w s out whole outs b seen here hold full fit. all.along x v later w s out whole outs b seen here hold full (in_parts later w s fit);
          uses = λ x v later w s out whole outs b seen here hold rights held g proper is_proper fit. all.uses x v later w s out whole outs b seen here hold rights held g proper is_proper (in_parts later w s fit);
          quiet = λ x v later out whole outs b seen here hold fit. all.quiet x v later out whole outs b seen here hold (in_parts later [] [] fit);
        }
