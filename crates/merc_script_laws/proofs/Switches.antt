-- Switches beside other branches: they wait for their variable, and each arm for what it uses.
use Rattle.std.proofs.Common.{◌≡◌, inl, inr, ℕ, Bool, true, false, ◌==◌, ◌||◌, if◌then◌else◌, List, [], Option, Some, refl, sym, subst, length, ap, ◌∙◌}
use Rattle.merc_base.specs.Category.{can_fail_of, most_of}
use Rattle.merc_base.specs.declared.category.Category.{Category}
use Rattle.merc_base.specs.declared.category.Most.TheVariants.{Zero}
use Rattle.merc_base.specs.declared.place.Span.{Span}
use Rattle.merc_tree.specs.Types.{replaced}
use Rattle.merc_tree.specs.declared.declarations.Module.{Module}
use Rattle.merc_graded_tree.specs.declared.basic.Procedure.{Procedure}
use Rattle.merc_graded_tree.specs.Nodes.{Node, node, Switch, Arms}
use Rattle.merc_graded_tree.specs.Roots.{symbols_of}
use Rattle.merc_graded_tree.specs.Variables.{in_goal, in_arms}
use Rattle.merc_grading.specs.Known.{symbols_of_type, are_complete, Known}
use Rattle.merc_grading.specs.Grading.{category_at}
use Rattle.merc_order.specs.Bound.{Bound}
use Rattle.merc_order_laws.specs.Bindings.{Variables}
use Rattle.merc_order_laws.proofs.Facts.{clash, or_left, or_right}
use Rattle.merc_value.specs.Value.{Value}
use Rattle.merc_meaning.specs.Trace.{Env, Trace}
use Rattle.merc_meaning.specs.Steps.{value_at}
use Rattle.merc_meaning.specs.Runs.{Program, answers_once, once_if as t_once, goal_trace, node_trace, arms_trace}
use Rattle.merc_program_laws.specs.ValueTypes.{HasType}
use Rattle.merc_program_laws.specs.GoodPrograms.{AreGoodTypes}
use Rattle.merc_program_laws.proofs.Values.{Instance}
use Rattle.merc_program_laws.proofs.Lawful.{Fits}
use Rattle.merc_program_laws.proofs.Calls.{LawfulCalls}
use Rattle.merc_program_laws.proofs.Maxima.{zero_is, sure_is, fails_or}
use Rattle.merc_core.specs.Rights.{has}
use Rattle.merc_rights.specs.Rights.{Right, those, around}
use Rattle.merc_par_split.specs.Sites.{are_for}
use Rattle.merc_plan.specs.Branch.{Hold, Gift, BranchCourse}
use Rattle.merc_plan.specs.Branches.{Plan, once_if as c_once, node_branch, arms_branch}
use Rattle.merc_plan.proofs.Flat.{Like, events}
use Rattle.merc_plan.proofs.Judging.{flat, Sure, Keeps, Quiet}
use Rattle.merc_plan.proofs.Shown.{Shown}
use Rattle.merc_plan.proofs.Holds.{keeps_once, keeps_end, quiet_once}
use Rattle.merc_script_laws.proofs.Bonds.{Counted, Set, Here, signs, AllUsed, Fit, Fine, After, Match, Names, Ends, Ready, here_or, Used, Rightful, Sound, Proper, Goes}
use Rattle.merc_script_laws.proofs.RightLists.{equal_same, those_in, in_those, those_once}
use Rattle.merc_script_laws.proofs.Steps.{unused, Waits, fit_waited, match_waited, ready_waited, fine_waited}
use Rattle.merc_script_laws.proofs.Holding.{waitable}
use Rattle.merc_script_laws.proofs.Around.{StillWaits}
use Rattle.merc_script_laws.proofs.Sides.{divides_second, divides_those, around_along, around_uses}
use Rattle.merc_script_laws.proofs.Runs.{category_around, outputs_around, once_same}
use Rattle.merc_script_laws.proofs.Leaf.{wrap}
use Rattle.merc_script_laws.proofs.Turns.{rule_sure, rule_zero}
use Rattle.merc_script_laws.proofs.Ways.{proper_way, signs_waited, rightful_waited}
use Rattle.merc_script_laws.proofs.SwitchArms.{of_arms, covers, SoundArms, ArmsGo}

complete_of : (b : Bool) → (if b then false else true) ≡ false → b ≡ true
complete_of true h = refl
complete_of false h = clash refl h

-- Given are the module, the types of the variables, and what type variables stand for; the program of the graded trees, whose calls are lawful; and the plan and
-- the program of the split trees, with the courses of its calls.
module _ (known : Module) (types i : Instance) (declared : AreGoodTypes known.types) (program : Program) (calls : Procedure → Env → Trace) (lawful : LawfulCalls known program calls)
    (plan : Plan) (split : Program) (course : Procedure → Hold → BranchCourse) where
  module _ (x : ℕ) (arms : Arms) (outs : List ℕ) (cat : Option Category) (span : Span) (makes : (ℕ → Bool) → List Right → List Right → Arms) (fits : (ℕ → Bool) → List Right → List Right → Type 0)
      (goes : ArmsGo known types i declared program calls lawful plan split course arms makes fits) where
    abbrev is_it : ℕ → Bool
    is_it other = other == x

    -- the rights to wait for the variable, and the others
    abbrev early : List Right → List Right
    early w = those is_it w

    abbrev others : List Right → List Right
    others w = those (unused is_it) w

    abbrev whole : Node
    whole = node (Switch x arms) outs cat span

    abbrev occurs : Variables
    occurs = in_goal (Switch x arms)

    abbrev inner : (ℕ → Bool) → List Right → List Right → Node
    inner later w s = node (Switch x (makes later (others w) s)) outs cat span

    abbrev made : (ℕ → Bool) → List Right → List Right → Node
    made later w s = around (early w) [] (inner later w s)

    abbrev due : (ℕ → Bool) → List Right → List Right → Type 0
    due later w s = fits later (others w) s

    abbrev never : Type 0
    never = most_of (category_at whole) ≡ Zero

    abbrev arms_course : (ℕ → Bool) → List Right → List Right → Value → Hold → BranchCourse
    arms_course later w s v hold = arms_branch plan split course (makes later (others w) s) (Some v) hold

    it_occurs : occurs x ≡ true
    it_occurs = or_left (x == x) (in_arms arms x) (equal_same x)

    in_switch : (y : ℕ) → in_arms arms y ≡ true → occurs y ≡ true
    in_switch y h = or_right (y == x) (in_arms arms y) h

    sound_arms : (out : Variables) (b : Bound) (seen : Known) → Sound known types i out b seen whole → SoundArms known types i out occurs b outs seen x arms
    sound_arms out b seen sound = record {
      good = sound.good.2.1;
      binds = sound.good.2.2;
      graded = sound.graded.1;
      parts = sound.parts;
      outputs = sound.parallel.outputs;
      beside = sound.parallel.beside;
      few = sound.parallel.few;
    }

    -- the variable is here behind the wait for it
    it_is_here : (b : Bound) (here : Set) (w : List Right) → Ready here w b occurs → b x ≡ true → here_or here (early w) x
    it_is_here b here w r is = elim (r x it_occurs is) as (λ _. here_or here (early w) x) [ inl h ↦ inl h | inr h ↦ inr (in_those is_it w x h (equal_same x)) ]

    module _ (later : ℕ → Bool) (w s : List Right) (out : Variables) (b : Bound) (seen : Known) (here : Set) (hold : Hold) (fit : due later w s) (sound : Sound known types i out b seen whole) (f : Fit b here w hold) (r : Ready here w b occurs)
        (names : Names hold) (hold1 : Hold) (p : Waits here (early w) hold hold1) where
      abbrev Here1 : Set
      Here1 = here_or here (early w)

      fit1 : Fit b Here1 (others w) hold1
      fit1 = let d = divides_those is_it w in fit_waited b here w (early w) (others w) hold hold1 d.parts d.in1 d.in2 d.apart (those_once (unused is_it) w f.once) f p.moves

      ready1 : Ready Here1 (others w) b occurs
      ready1 = let d = divides_those is_it w in ready_waited b here w (early w) (others w) hold hold1 d.parts d.in1 d.in2 d.apart occurs r

      names1 : Names hold1
      names1 = p.moves.names names

      here1 : Here1 x
      here1 = it_is_here b here w r sound.good.2.0

      it : (v : Value) × Here hold1 x v
      it = fit1.held x here1

      along_waited : (full : Env) → Fits known types i out b occurs seen full → Match w hold full → Counted s hold
          → Like (Ends full Here1 (others w) s later outs hold1) (flat (node_branch plan split course (inner later w s) hold1)) (events (node_trace program calls whole full))
          × Sure (Shown program) (node_branch plan split course (inner later w s) hold1)
      along_waited full there t counted =
          let d = divides_those is_it w in
          let R : Hold → Env → Type 0 = Ends full Here1 (others w) s later outs hold1 in
          let once : Bool = answers_once outs cat in
          let t1 = match_waited b here w (early w) (others w) hold hold1 d.parts d.in1 d.in2 d.apart full f t p in
          let v = it in
          let at : value_at full x ≡ Some v.0 = t1.same x v.0 v.1 in
          let a = goes.along x v.0 later (others w) s out occurs outs b seen Here1 hold1 full fit in_switch (sound_arms out b seen sound) there fit1 t1 ready1 names1 (λ y h. counted y h ∙ ap length (sym (p.moves.unsigned y refl))) at in
          subst (λ o. Like R (flat (node_branch plan split course (inner later w s) hold1)) (events (t_once once (arms_trace program calls arms o full))) × Sure (Shown program) (node_branch plan split course (inner later w s) hold1)) (sym at)
          (subst (λ o. Like R (flat (c_once once (arms_branch plan split course (makes later (others w) s) o hold1))) (events (t_once once (arms_trace program calls arms (Some v.0) full)))
          × Sure (Shown program) (c_once once (arms_branch plan split course (makes later (others w) s) o hold1))) (sym v.1)
          (wrap (Shown program) R once (arms_course later w s v.0 hold1) (arms_trace program calls arms (Some v.0) full) a.0 a.1))

      module _ (proper : ℕ → Value → Type 0) (rights : ℕ → Bool) (held held1 : List ℕ) (g : List Gift) (is_proper : Proper known types i seen whole s hold proper) (all : AllUsed w occurs) (can : can_fail_of (category_at whole) ≡ false)
          (fine : Fine known types i out b occurs seen hold) (q : Rightful w s outs rights held g hold) (still : StillWaits plan split course span (early w) hold held held1) where
        abbrev Gone : Hold → Type 0
        Gone e = After known types i out b outs occurs seen seen hold1 e

        abbrev UsedWhole : List ℕ → List Gift → Hold → Type 0
        UsedWhole = Used Gone never Here1 (others w) s later outs hold1 held1 g

        abbrev UsedArms : List ℕ → List Gift → Hold → Type 0
        UsedArms = Used Gone (most_of (of_arms arms) ≡ Zero) Here1 (others w) s later outs hold1 held1 g

        abbrev complete : Bool
        complete = are_complete (symbols_of_type known.types (types x)) (symbols_of arms)

        fine1 : Fine known types i out b occurs seen hold1
        fine1 = let d = divides_those is_it w in fine_waited b here w (early w) (others w) hold hold1 d.parts d.in1 d.in2 d.apart known types i out occurs seen (λ y h. all y (those_in is_it w y h).0) f p fine

        cans : ((if complete then false else true) ≡ false) × (can_fail_of (of_arms arms) ≡ false)
        cans =
            fails_or (if complete then false else true) (can_fail_of (of_arms arms))
            (sure_is ((if complete then false else true) || can_fail_of (of_arms arms)) (most_of (of_arms arms)) (rule_sure known types i (Switch x arms) outs cat span out b seen sound can))

        proper1 : (y c : ℕ) (u : Value) → are_for s y ≡ true → has c (signs y hold1) ≡ true → HasType known.types u (replaced i (types y)) → proper c u
        proper1 y c u h k ty =
            proper_way known types i out b seen occurs outs s hold proper never fine sound.good.1 sound.good.0 q.within is_proper y c u h (subst (λ l. has c l ≡ true) (signs_waited here (early w) hold hold1 p y) k) ty

        uses_waited : Keeps proper UsedWhole rights held1 g (node_branch plan split course (inner later w s) hold1)
        uses_waited =
            let v = it in
            let go = arms_course later w s v.0 hold1 in
            subst (λ o. Keeps proper UsedWhole rights held1 g (c_once (answers_once outs cat) (arms_branch plan split course (makes later (others w) s) o hold1))) (sym v.1)
            (keeps_once proper UsedWhole rights (answers_once outs cat) go held1 g
            (keeps_end proper UsedWhole UsedArms rights
            (λ held2 g2 e u. record {
              moves = u.moves;
              kept = u.kept;
              gave = u.gave;
              left = u.left;
              signed = u.signed;
              unsigned = u.unsigned;
              behind = u.behind;
              reached = λ z. u.reached (zero_is ((if complete then false else true) || can_fail_of (of_arms arms)) (most_of (of_arms arms)) (rule_zero known types i (Switch x arms) outs cat span out b seen sound z));
            })
            go held1 g
            (goes.uses x v.0 later (others w) s out occurs outs b seen Here1 hold1 rights held1 g proper proper1 fit in_switch (λ y h. all y (those_in (unused is_it) w y h).0) (sound_arms out b seen sound) cans.1
            (covers known types i declared (types x) arms v.0 (complete_of complete cans.0) (fine1.typed x v.0 v.1)) fine1 fit1 ready1 names1
            (rightful_waited is_it here w s outs rights held held1 g hold hold1 names q p still) sound.good.2.0 v.1)))

    quiet : (later : ℕ → Bool) (out : Variables) (b : Bound) (seen : Known) (here : Set) (hold : Hold) → due later [] [] → Sound known types i out b seen whole → Fine known types i out b occurs seen hold → Fit b here [] hold
        → Ready here [] b occurs → Names hold → Quiet hold.next [] (node_branch plan split course (inner later [] []) hold)
    quiet later out b seen here hold fit sound fine f r names =
        let v : (v : Value) × Here hold x v = elim (r x it_occurs sound.good.2.0) as (λ _. (v : Value) × Here hold x v) [ inl h ↦ f.held x h | inr h ↦ clash h refl ] in
        subst (λ o. Quiet hold.next [] (c_once (answers_once outs cat) (arms_branch plan split course (makes later [] []) o hold))) (sym v.1)
        (quiet_once hold.next (answers_once outs cat) (arms_course later [] [] v.0 hold) []
        (goes.quiet x v.0 later out occurs outs b seen here hold fit in_switch (sound_arms out b seen sound) fine f r names sound.good.2.0 v.1))

    pub goes_switch : Goes known types i program calls plan split course whole made due
    goes_switch = record {
      along = λ later w s out b seen here hold full fit all within sound there f t r names counted.
          around_along plan split course (Switch x (makes later (others w) s)) outs cat span here w (early w) (others w) s [] s later hold (divides_those is_it w) (divides_second s) (Shown program) names counted (λ y h. clash h refl) b full (events (node_trace program calls whole full)) within
          (once_same (answers_once outs cat) (goal_trace program calls (Switch x arms) full)) (waitable hold names) f (those_once is_it w f.once) t
          (λ hold1 p. along_waited later w s out b seen here hold fit sound f r names hold1 p full there t counted) (early w) [] refl refl;
      uses = λ later w s out b seen here hold rights held g proper is_proper fit all sound can fine f r names q.
          around_uses plan split course (Switch x (makes later (others w) s)) outs cat span here w (early w) (others w) s [] s later hold (divides_those is_it w) (divides_second s) known types i out b occurs seen seen never proper rights held g names f q
          (λ y h. all y (those_in is_it w y h).0) (those_once is_it w f.once) (λ y h. clash h refl)
          (λ y c v e h k at a reached. is_proper y c v h k (a.typed y v at) (λ some sy is_known. a.knows y sy v is_known at))
          (λ hold1 held1 p still. uses_waited later w s out b seen here hold fit sound f r names hold1 p proper rights held held1 g is_proper all can fine q still) (early w) [] refl refl;
      quiet = quiet;
      rated = λ later w s. category_around (early w) [] (inner later w s);
      shaped = λ later w s. outputs_around (early w) [] (inner later w s);
    }
