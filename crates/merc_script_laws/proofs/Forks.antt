-- A parallel conjunction as a goal: waits before the fork for what stays, the fork, and the waits for what its conjuncts bind.
use Rattle.std.proofs.Common.{◌≡◌, ◌⊎◌, inl, inr, ℕ, suc, ◌+◌, ◌<◌, Bool, true, false, not, ◌==◌, List, [], ◌∷◌, ◌++◌, length, map, filter, Option, Some, refl, ap, sym, subst, ◌∙◌, arith}
use Rattle.std.specs.List.{AllByRecursion}
use Rattle.merc_base.specs.Category.{most_of}
use Rattle.merc_base.specs.declared.category.Category.{Category}
use Rattle.merc_base.specs.declared.category.Most.TheVariants.{Zero}
use Rattle.merc_base.specs.declared.place.Span.{Span}
use Rattle.merc_base.specs.declared.refusal.Refusal.{Refusal}
use Rattle.merc_tree.specs.declared.declarations.Module.{Module}
use Rattle.merc_graded_tree.specs.declared.basic.Procedure.{Procedure}
use Rattle.merc_graded_tree.specs.declared.entries.Running.TheVariants.{Parallel}
use Rattle.merc_graded_tree.specs.declared.basic.Site.{Site}
use Rattle.merc_graded_tree.specs.Nodes.{Node, node, Conjunction, Nodes, no_nodes, more_nodes, list_of, outputs_of, category_of}
use Rattle.merc_graded_tree.specs.Variables.{among, in_node, in_nodes}
use Rattle.merc_order.specs.Bound.{Bound}
use Rattle.merc_order.specs.Procedures.{modes_of}
use Rattle.merc_order_laws.specs.Bindings.{Variables}
use Rattle.merc_order_laws.specs.GoodTree.{GoodNodes}
use Rattle.merc_order_laws.specs.WrittenGoals.{basic_goals, all_basic_goals}
use Rattle.merc_order_laws.proofs.Written.{all_left, all_right}
use Rattle.merc_grading.specs.Categories.{conjunction_category}
use Rattle.merc_grading.specs.Faults.{parallel_faults, all_faults}
use Rattle.merc_grading.specs.Known.{Known, known_behind, known_behind_all}
use Rattle.merc_grading.specs.Grading.{given, category_at, categories}
use Rattle.merc_value.specs.Value.{Value}
use Rattle.merc_meaning.specs.Trace.{Env, Trace}
use Rattle.merc_meaning.specs.Runs.{Program, answers_once, node_trace, all_trace}
use Rattle.merc_program_laws.specs.GoodPrograms.{AreGoodTypes}
use Rattle.merc_program_laws.proofs.Values.{Instance}
use Rattle.merc_program_laws.proofs.Lawful.{Fits}
use Rattle.merc_program_laws.proofs.Calls.{LawfulCalls}
use Rattle.merc_program_laws.proofs.Maxima.{capped_zero, capped_is_zero}
use Rattle.merc_program_laws.proofs.Graded.{GradedAll}
use Rattle.merc_program_laws.proofs.TreeCategories.{IsPart}
use Rattle.merc_core.specs.Rights.{has}
use Rattle.merc_core.specs.WellFormed.{AreDistinct}
use Rattle.merc_rights.specs.declared.sites.SiteInfo.{SiteInfo}
use Rattle.merc_rights.specs.Rights.{Right, right_to, those, wait_at, between}
use Rattle.merc_par_split.specs.Sites.{are_for, site_info, planned_goal, planned_conjuncts}
use Rattle.merc_par_split.specs.Split.{moves_in, placed_goal, placed_conjuncts}
use Rattle.merc_plan.specs.Branch.{HeldSignal, Hold, Fork, BranchCourse, BranchCourses, Over, Finds, Forks, Gift, each}
use Rattle.merc_plan.specs.Hold.{fork_of, hold_behind}
use Rattle.merc_plan.specs.Branches.{Plan, once_if, info_of, node_branch, conjunct_branches, conjunct_gifts}
use Rattle.merc_plan.proofs.Flat.{Like, events, once_if as flat_once_if}
use Rattle.merc_plan.proofs.Judging.{flat, Sure, Keeps, Quiet}
use Rattle.merc_plan.proofs.Shown.{Shown}
use Rattle.merc_plan.proofs.Likes.{like_once, like_more}
use Rattle.merc_plan.proofs.Flats.{flat_once, sure_once}
use Rattle.merc_plan.proofs.Events.{events_once}
use Rattle.merc_plan.proofs.Holds.{keeps_once, keeps_end, quiet_once}
use Rattle.merc_plan.proofs.Sets.{tell}
use Rattle.merc_script_laws.specs.Parallel.{all_outputs, AllKeepOutputs, AllHaveFew}
use Rattle.merc_script_laws.proofs.Bonds.{Counted, Goes, Set, Here, signs, Within, AllUsed, Fit, Match, Names, Ready, Fine, After, Ends, Used, Rightful, here_or, Parts, Planned, Sound, Proper}
use Rattle.merc_script_laws.proofs.RightLists.{those_in, in_those, those_once, is_not, not_not}
use Rattle.merc_script_laws.proofs.Steps.{Waits, IsIn, AreApart, fit_waited, match_waited, ready_waited, moves_waited, fine_waited, after_waited}
use Rattle.merc_script_laws.proofs.Holding.{waitable}
use Rattle.merc_script_laws.proofs.Around.{after_over, in_turn, waiting, waits_flat, StillWaits, waits_keeps}
use Rattle.merc_script_laws.proofs.Sides.{fit_less, match_less}
use Rattle.merc_script_laws.proofs.Dets.{AllBeside, conjunct_sure, conjuncts_beside}
use Rattle.merc_script_laws.proofs.Sites.{among_has}
use Rattle.merc_script_laws.proofs.SiteMoves.{outputs_free, outputs_distinct}
use Rattle.merc_script_laws.proofs.Sights.{fine_for, fits_for, AllSound, AllCertain}
use Rattle.merc_script_laws.proofs.ConjunctsKeep.{EachGoes}
use Rattle.merc_script_laws.proofs.Behind.{empty_fine, empty_fits}
use Rattle.merc_script_laws.proofs.ForkShows.{AtDepth}
use Rattle.merc_script_laws.proofs.ForkUses.{unit, unit_along, unit_keeps, unit_quiet}

both_none : (xs ys : List Refusal) → xs ++ ys ≡ [] → (xs ≡ []) × (ys ≡ [])
both_none [] ys h = (refl, h)
both_none (x ∷ xs) ys h = absurd (cc)

-- the rights to signal are as they were
same_signs : (hold hold1 : Hold) → hold1.signals ≡ hold.signals → (x : ℕ) → signs x hold1 ≡ signs x hold
same_signs hold hold1 e x = ap (λ (l : List HeldSignal). map (λ (right : HeldSignal). right.cell) (filter (λ (right : HeldSignal). right.variable == x) l)) e

between_category : (w : List Right) (behind : List Node) (n : Node) → category_of (between w n behind) ≡ category_of n
between_category [] [] n = refl
between_category [] (m ∷ ms) n = refl
between_category (r ∷ w) behind n = refl

between_outputs : (w : List Right) (behind : List Node) (n : Node) → outputs_of (between w n behind) ≡ outputs_of n
between_outputs [] [] n = refl
between_outputs [] (m ∷ ms) n = refl
between_outputs (r ∷ w) behind n = refl

-- a fork with one answer behind it
once_alone : (b : Bool) (i : ℕ) (x : Fork) (ks : BranchCourses) (h : Hold) → once_if b (Forks i x ks (Finds h Over)) ≡ once_if b (each (λ inner. Finds inner Over) (once_if b (Forks i x ks (Finds h Over))))
once_alone true i x ks h = refl
once_alone false i x ks h = refl

goes_behind : (b : Bool) (f : Hold → BranchCourse) (i : ℕ) (x : Fork) (ks : BranchCourses) (h : Hold) → each f (once_if b (Forks i x ks (Finds h Over))) ≡ Forks i x ks (f h)
goes_behind true f i x ks h = ap (λ t. Forks i x ks t) (after_over (f h))
goes_behind false f i x ks h = ap (λ t. Forks i x ks t) (after_over (f h))

-- Given are the module, the types of the variables, and what type variables stand for.
module _ (known : Module) (types i : Instance) (declared : AreGoodTypes known.types) (program : Program) (calls : Procedure → Env → Trace) (lawful : LawfulCalls known program calls) (plan : Plan) (split : Program) (course : Procedure → Hold → BranchCourse) where
  all_sound : (unknown : Option Site) (ns : Nodes) (out : Variables) (b : Bound) (seen : Known) → GoodNodes (modes_of known.preds) out b ns → GradedAll known.types (modes_of known.preds) types (Parallel unknown) seen ns
      → AllByRecursion (IsPart known types i) (all_basic_goals ns) → AllKeepOutputs (modes_of known.preds) ns → all_faults ns ≡ [] → AllHaveFew ns → AllSound known types i declared out b seen ns
  all_sound unknown no_nodes out b seen good graded parts keeps none few = tt
  all_sound unknown (more_nodes n ns) out b seen good graded parts keeps none few =
      let faults = both_none (parallel_faults n) (all_faults ns) none in (
        record { good = good.0; graded = graded.0; parts = all_left (IsPart known types i) (basic_goals n) (all_basic_goals ns) parts; parallel = record { outputs = keeps.0; beside = faults.0; few = few.0 } },
        all_sound unknown ns _ _ _ good.1 graded.1 (all_right (IsPart known types i) (basic_goals n) (all_basic_goals ns) parts) keeps.1 faults.1 few.1,
      )

  all_certain : (ns : Nodes) → AllBeside ns → AllCertain known types i declared ns
  all_certain no_nodes h = tt
  all_certain (more_nodes n ns) h = (conjunct_sure n h.0, all_certain ns h.1)

  module _ (unknown : Option Site) (goals : Nodes) (outputs : List ℕ) (category : Option Category) (span : Span) (at : ℕ) (goes : EachGoes known types i declared program calls plan split course goals) where
    abbrev pub whole : Node
    whole = node (Conjunction (Parallel unknown) goals) outputs category span

    abbrev pub made : (ℕ → Bool) → List Right → List Right → Node
    made later w s = placed_goal at later w s (Conjunction (Parallel unknown) goals) outputs category span

    abbrev pub due : (ℕ → Bool) → List Right → List Right → Type 0
    due later w s = Planned plan at (planned_goal later w s (Conjunction (Parallel unknown) goals) outputs)

    abbrev once : Bool
    once = answers_once outputs category

    abbrev output_goals : List Node
    output_goals = map (λ x. wait_at span (right_to 0 x)) outputs

    abbrev staying : (ℕ → Bool) → List Right → List Right
    staying later w = those (λ x. not (moves_in later goals x)) w

    abbrev moving : (ℕ → Bool) → List Right → List Right
    moving later w = those (moves_in later goals) w

    abbrev forking : List Right → List Right → Node
    forking w s = node (Conjunction (Parallel (Some (record { number = at }))) (placed_conjuncts (suc at) 1 outputs w s [] goals)) outputs category span

    between_branch : (w s v : List Right) (behind : List Node) (hold : Hold) → node_branch plan split course (between v (forking w s) behind) hold ≡ once_if once (waiting plan split course span v (forking w s ∷ behind) hold)
    between_branch w s [] [] hold = once_alone once at (fork_of (info_of (plan at)) (placed_conjuncts (suc at) 1 outputs w s [] goals) hold) (conjunct_branches plan split course (info_of (plan at)) hold 1 (placed_conjuncts (suc at) 1 outputs w s [] goals) [])
        (hold_behind (info_of (plan at)) hold (conjunct_gifts plan split course (info_of (plan at)) hold 1 (placed_conjuncts (suc at) 1 outputs w s [] goals) []))
    between_branch w s [] (m ∷ ms) hold = refl
    between_branch w s (r ∷ v) behind hold = refl

    abbrev branch_from : List Right → List Right → Option SiteInfo → Hold → BranchCourse
    branch_from w s o hold = Forks at (fork_of (info_of o) (placed_conjuncts (suc at) 1 outputs w s [] goals) hold) (conjunct_branches plan split course (info_of o) hold 1 (placed_conjuncts (suc at) 1 outputs w s [] goals) [])
        (in_turn plan split course span output_goals (hold_behind (info_of o) hold (conjunct_gifts plan split course (info_of o) hold 1 (placed_conjuncts (suc at) 1 outputs w s [] goals) [])))

    fork_is : (w s : List Right) (hold : Hold) → plan at ≡ Some (site_info outputs w s goals) → in_turn plan split course span (forking w s ∷ output_goals) hold ≡ branch_from w s (Some (site_info outputs w s goals)) hold
    fork_is w s hold e =
        goes_behind once (λ inner. in_turn plan split course span output_goals inner) at (fork_of (info_of (plan at)) (placed_conjuncts (suc at) 1 outputs w s [] goals) hold) (conjunct_branches plan split course (info_of (plan at)) hold 1 (placed_conjuncts (suc at) 1 outputs w s [] goals) [])
        (hold_behind (info_of (plan at)) hold (conjunct_gifts plan split course (info_of (plan at)) hold 1 (placed_conjuncts (suc at) 1 outputs w s [] goals) []))
        ∙ ap (λ (o : Option SiteInfo). branch_from w s o hold) e

    here_site : (later : ℕ → Bool) (w s : List Right) → due later w s → plan at ≡ Some (site_info outputs (moving later w) s goals)
    here_site later w s p = let e : at + 0 ≡ at = omega (arith) in subst (λ z. plan z ≡ Some (site_info outputs (moving later w) s goals)) e (p 0 (site_info outputs (moving later w) s goals) refl)

    next_sites : (later : ℕ → Bool) (w s : List Right) → due later w s → Planned plan (suc at) (planned_conjuncts 1 outputs (moving later w) s [] goals)
    next_sites later w s p k x h = let e : at + suc k ≡ suc at + k = omega (arith) in subst (λ z. plan z ≡ Some x) e (p (suc k) x h)

    -- rights that stay and rights that move
    module _ (later : ℕ → Bool) (w : List Right) where
      parts : Parts w (staying later w) (moving later w)
      parts x h = elim (tell (moves_in later goals x)) as (λ _. (are_for (staying later w) x ≡ true) ⊎ (are_for (moving later w) x ≡ true)) [
        | inl e ↦ inr (in_those (moves_in later goals) w x h e)
        | inr e ↦ inl (in_those (λ x. not (moves_in later goals x)) w x h (is_not (moves_in later goals x) e))
      ]

      stay_in : IsIn (staying later w) w
      stay_in x h = (those_in (λ x. not (moves_in later goals x)) w x h).0

      move_in : IsIn (moving later w) w
      move_in x h = (those_in (moves_in later goals) w x h).0

      sides : AreApart (staying later w) (moving later w)
      sides x h k = both (those_in (moves_in later goals) w x k).1 (not_not (moves_in later goals x) (those_in (λ x. not (moves_in later goals x)) w x h).1) where
        both : moves_in later goals x ≡ true → moves_in later goals x ≡ false → ⊥
        both p q = absurd (cc)

      does_move : (x : ℕ) → are_for (moving later w) x ≡ true → moves_in later goals x ≡ true
      does_move x h = (those_in (moves_in later goals) w x h).1

    -- What a sound parallel conjunction has.
    module _ (out : Variables) (b : Bound) (seen : Known) (sound : Sound known types i out b seen whole) where
      besides : AllBeside goals × (all_faults goals ≡ [])
      besides = conjuncts_beside goals sound.parallel.beside

      certains : AllCertain known types i declared goals
      certains = all_certain goals besides.0

      sounds : AllSound known types i declared out b seen goals
      sounds = all_sound unknown goals out b seen sound.good.2.0 sound.graded.1 sound.parts sound.parallel.outputs.0 besides.1 sound.parallel.few.1.1

      distinct : AreDistinct (all_outputs goals)
      distinct = outputs_distinct (modes_of known.preds) out b goals sound.good.2.0

      free : (x : ℕ) → has x (all_outputs goals) ≡ true → b x ≡ false
      free = outputs_free (modes_of known.preds) out b goals sound.good.2.0

      covered : (x : ℕ) → among outputs x ≡ true → has x (all_outputs goals) ≡ true
      covered x h = among_has x (all_outputs goals) (sound.parallel.outputs.1 x h)

      zero_whole : most_of (conjunction_category (categories (list_of goals))) ≡ Zero → most_of (category_at whole) ≡ Zero
      zero_whole z = ap (λ (c : Option Category). most_of (given c)) sound.graded.0 ∙ capped_is_zero outputs (conjunction_category (categories (list_of goals))) z

      whole_zero : most_of (category_at whole) ≡ Zero → most_of (conjunction_category (categories (list_of goals))) ≡ Zero
      whole_zero z = capped_zero outputs (conjunction_category (categories (list_of goals))) (sym (ap (λ (c : Option Category). most_of (given c)) sound.graded.0) ∙ z)

      -- Along the trace.
      pub par_along : AtDepth program calls → (later : ℕ → Bool) (w s : List Right) (here : Set) (hold : Hold) (full : Env) → due later w s → Within s outputs → Fits known types i out b (in_node whole) seen full → Fit b here w hold → Match w hold full
          → Ready here w b (in_node whole) → Names hold → Counted s hold
          → Like (Ends full here w s later outputs hold) (flat (node_branch plan split course (made later w s) hold)) (events (node_trace program calls whole full)) × Sure (Shown program) (node_branch plan split course (made later w s) hold)
      par_along deep later w s here hold full p within fits fit match ready names counts =
          let w1 = staying later w in
          let w2 = moving later w in
          let d1 = those_once (λ x. not (moves_in later goals x)) w fit.once in
          let d2 = those_once (moves_in later goals) w fit.once in
          let a = waits_flat plan split course span w1 b here hold full (forking w2 s ∷ output_goals) (waitable hold names) (fit_less b here w w1 hold (stay_in later w) d1 fit) (match_less w w1 hold full (stay_in later w) match) in
          let hold1 = a.hold1 in
          let here1 = here_or here w1 in
          let fit1 = fit_waited b here w w1 w2 hold hold1 (parts later w) (stay_in later w) (move_in later w) (sides later w) d2 fit a.waits.moves in
          let match1 = match_waited b here w w1 w2 hold hold1 (parts later w) (stay_in later w) (move_in later w) (sides later w) full fit match a.waits in
          let ready1 = ready_waited b here w w1 w2 hold hold1 (parts later w) (stay_in later w) (move_in later w) (sides later w) (in_nodes goals) ready in
          let names1 = a.waits.moves.names names in
          let fine1 = fits_for known types i declared out b (in_nodes goals) seen w2 hold1 full fits match1 in
          let counts1 : Counted s hold1 = λ x h. counts x h ∙ ap length (sym (same_signs hold hold1 a.waits.signals x)) in
          let empty1 : (x : ℕ) (v : Value) → among outputs x ≡ true → Here hold1 x v → ⊥ = empty_fits known types i out b whole sound.good seen hold1 w2 full fits match1 in
          let u = unit_along known types i declared program calls lawful plan split course goals outputs w2 s later out b seen here1 hold1 distinct free fit1 ready1 names1 (does_move later w) fine1 goes counts1 covered sound.good.1 empty1 within
          sound.parallel.few.0 sound.parallel.few.1.0 sounds certains at (next_sites later w s p) span deep sound.good.2.0 besides.0 full match1 fits in
          let R : Hold → Env → Type 0 = Ends full here w s later outputs hold in
          let moved : (e : Hold) (f : Env) → Ends full here1 w2 s later outputs hold1 e f → R e f = λ e f k.
          (moves_waited b here w w1 w2 hold hold1 (parts later w) (stay_in later w) (move_in later w) (sides later w) s later outputs e a.waits.moves k.0, k.1) in
          let t = waiting plan split course span w1 (forking w2 s ∷ output_goals) hold in
          let is = fork_is w2 s hold1 (here_site later w s p) in
          let sure : Sure (Shown program) t = a.is_sure (Shown program) (subst (λ z. Sure (Shown program) z) (sym is) u.1) in
          let like : Like R (flat t) (events (all_trace program calls goals full)) = subst (λ z. Like R z (events (all_trace program calls goals full))) (sym (a.is_flat ∙ ap flat is))
          (like_more (Ends full here1 w2 s later outputs hold1) R moved (flat (unit known types i declared program calls lawful plan split course goals outputs w2 s later out b seen here1 hold1 distinct free fit1 ready1 names1 (does_move later w) fine1 goes counts1 covered sound.good.1 empty1 within sound.parallel.few.0 sound.parallel.few.1.0 sounds certains at (next_sites later w s p) span))
          (events (all_trace program calls goals full)) u.0) in
          subst (λ z. Like R (flat z) (events (node_trace program calls whole full)) × Sure (Shown program) z) (sym (between_branch w2 s w1 output_goals hold)) (
            subst (λ z. Like R z (events (node_trace program calls whole full))) (sym (flat_once (Shown program) once t sure))
                (subst (λ z. Like R (flat_once_if once (flat t)) z) (sym (events_once once (all_trace program calls goals full))) (like_once R once (flat t) (events (all_trace program calls goals full)) like)),
            sure_once (Shown program) once t sure,
          )

      -- Up to its first answer.
      module _ (later : ℕ → Bool) (w s : List Right) (here : Set) (hold : Hold) (rights : ℕ → Bool) (held : List ℕ) (g : List Gift) (proper : ℕ → Value → Type 0) (is_proper : Proper known types i seen whole s hold proper) (p : due later w s)
          (all : AllUsed w (in_node whole)) (fine : Fine known types i out b (in_node whole) seen hold) (fit : Fit b here w hold) (ready : Ready here w b (in_node whole)) (names : Names hold) (q : Rightful w s outputs rights held g hold) where
        abbrev End : List ℕ → List Gift → Hold → Type 0
        End = Used (After known types i out b outputs (in_node whole) seen (known_behind whole seen) hold) (most_of (category_at whole) ≡ Zero) here w s later outputs hold held g

        module _ (hold1 : Hold) (held1 : List ℕ) (m : Waits here (staying later w) hold hold1) (still : StillWaits plan split course span (staying later w) hold held held1) where
          same : (x : ℕ) → signs x hold1 ≡ signs x hold
          same = same_signs hold hold1 m.signals

          back : (x c : ℕ) → has c (signs x hold1) ≡ true → has c (signs x hold) ≡ true
          back x c h = subst (λ l. has c l ≡ true) (same x) h

          low : (c : ℕ) → c < hold.next → c < hold1.next
          low c l = subst (λ z. c < z) (sym m.moves.next) l

          abbrev Inside : List ℕ → List Gift → Hold → Type 0
          Inside = Used (After known types i out b outputs (in_nodes goals) seen (known_behind_all goals seen) hold1) (most_of (category_at whole) ≡ Zero) (here_or here (staying later w)) (moving later w) s later outputs hold1 held1 g

          ends : (held2 : List ℕ) (g2 : List Gift) (e : Hold) → Inside held2 g2 e → End held2 g2 e
          ends held2 g2 e u = record {
            moves = moves_waited b here w (staying later w) (moving later w) hold hold1 (parts later w) (stay_in later w) (move_in later w) (sides later w) s later outputs e m.moves u.moves;
            kept = λ c l h n. u.kept c (low c l) (still c h (λ x o j k. n x o (stay_in later w x j) k)) (λ x o j k. n x o (move_in later w x j) (m.moves.old x c o k));
            gave = λ x c h k. u.gave x c h (subst (λ l. has c l ≡ true) (sym (same x)) k);
            left = λ c l n. u.left c (low c l) (λ x j k. n x j (back x c k));
            signed = u.signed;
            unsigned = λ x h. u.unsigned x h ∙ same x;
            behind = after_waited b here w (staying later w) (moving later w) hold hold1 (parts later w) (stay_in later w) (move_in later w) (sides later w) known types i out (in_nodes goals) seen (λ x h. all x (stay_in later w x h)) outputs (known_behind_all goals seen) e m u.behind;
            reached = u.reached;
          }

          q1 : Rightful (moving later w) s outputs rights held1 g hold1
          q1 = record {
            to_signal = λ x c h k. q.to_signal x c h (back x c k);
            counts = λ x h. q.counts x h ∙ ap length (sym (same x));
            to_wait = λ x c o h e.
                let old = m.moves.old x c o e in
                still c (q.to_wait x c o (move_in later w x h) old)
                (λ y r j k. sides later w y j (subst (λ z. are_for (moving later w) z ≡ true) (names.apart_owed x y c o r old k) h));
            within = q.within;
            low = λ c h. low c (q.low c h);
          }

          fit1 : Fit b (here_or here (staying later w)) (moving later w) hold1
          fit1 = fit_waited b here w (staying later w) (moving later w) hold hold1 (parts later w) (stay_in later w) (move_in later w) (sides later w) (those_once (moves_in later goals) w fit.once) fit m.moves

          fine1 : Fine known types i out b (in_nodes goals) seen hold1
          fine1 = fine_waited b here w (staying later w) (moving later w) hold hold1 (parts later w) (stay_in later w) (move_in later w) (sides later w) known types i out (in_nodes goals) seen (λ x h. all x (stay_in later w x h)) fit m fine

          inner : Keeps proper End rights held1 g (in_turn plan split course span (forking (moving later w) s ∷ output_goals) hold1)
          inner = subst (λ z. Keeps proper End rights held1 g z) (sym (fork_is (moving later w) s hold1 (here_site later w s p)))
              (keeps_end proper End Inside rights ends
              (unit known types i declared program calls lawful plan split course goals outputs (moving later w) s later out b seen (here_or here (staying later w)) hold1 distinct free fit1 (ready_waited b here w (staying later w) (moving later w) hold hold1 (parts later w) (stay_in later w) (move_in later w) (sides later w) (in_nodes goals) ready) (m.moves.names names) (does_move later w)
              (fine_for known types i declared out b (in_nodes goals) seen (moving later w) hold1 fine1) goes q1.counts covered sound.good.1 (empty_fine known types i out b whole sound.good seen hold1 fine1) q.within sound.parallel.few.0 sound.parallel.few.1.0 sounds certains at
              (next_sites later w s p) span)
              held1 g
              (unit_keeps known types i declared program calls lawful plan split course goals outputs (moving later w) s later out b seen (here_or here (staying later w)) hold1 distinct free fit1 (ready_waited b here w (staying later w) (moving later w) hold hold1 (parts later w) (stay_in later w) (move_in later w) (sides later w) (in_nodes goals) ready) (m.moves.names names) (does_move later w)
              (fine_for known types i declared out b (in_nodes goals) seen (moving later w) hold1 fine1) goes q1.counts covered sound.good.1 (empty_fine known types i out b whole sound.good seen hold1 fine1) q.within sound.parallel.few.0 sound.parallel.few.1.0 sounds certains at
              (next_sites later w s p) span sound.good.2.0 sound.good.2.1 sound.good.0 rights held1 g proper q1
              (λ x c v h k t f. is_proper x c v h (back x c k) t (λ some sy e. f (λ z. some (zero_whole z)) sy e)) (most_of (category_at whole) ≡ Zero) whole_zero))

        pub par_uses : Keeps proper (Used (After known types i out b outputs (in_node whole) seen (known_behind whole seen) hold) (most_of (category_at whole) ≡ Zero) here w s later outputs hold held g) rights held g (node_branch plan split course (made later w s) hold)
        par_uses =
            let w1 = staying later w in
            let w2 = moving later w in
            let d1 = those_once (λ x. not (moves_in later goals x)) w fit.once in
            subst (λ z. Keeps proper End rights held g z) (sym (between_branch w2 s w1 output_goals hold))
            (keeps_once proper End rights once (waiting plan split course span w1 (forking w2 s ∷ output_goals) hold) held g
            (waits_keeps plan split course span proper End rights w1 b here hold (forking w2 s ∷ output_goals) held g (waitable hold names) (fit_less b here w w1 hold (stay_in later w) d1 fit)
            (λ x c o h e. q.to_wait x c o (stay_in later w x h) e) (λ hold1 held1 m still. inner hold1 held1 m still)))

      -- Where nothing moves into it.
      pub par_quiet : (later : ℕ → Bool) (here : Set) (hold : Hold) → due later [] [] → Fine known types i out b (in_node whole) seen hold → Fit b here [] hold → Ready here [] b (in_node whole) → Names hold
          → Quiet hold.next [] (node_branch plan split course (made later [] []) hold)
      par_quiet later here hold p fine fit ready names =
          let none : (x : ℕ) → are_for [] x ≡ true → ⊥ = λ x h. absurd (cc) in
          subst (λ z. Quiet hold.next [] z) (sym (between_branch [] [] [] output_goals hold))
          (quiet_once hold.next once (in_turn plan split course span (forking [] [] ∷ output_goals) hold) []
          (subst (λ z. Quiet hold.next [] z) (sym (fork_is [] [] hold (here_site later [] [] p)))
          (unit_quiet known types i declared program calls lawful plan split course goals outputs [] [] later out b seen here hold distinct free fit ready names (λ x h. absurd (none x h)) (fine_for known types i declared out b (in_nodes goals) seen [] hold fine) goes (λ x h. absurd (none x h)) covered sound.good.1
          (empty_fine known types i out b whole sound.good seen hold fine) (λ x h. absurd (none x h)) sound.parallel.few.0 sound.parallel.few.1.0 sounds certains at (next_sites later [] [] p) span refl refl)))

    pub par_rated : (later : ℕ → Bool) (w s : List Right) → category_of (made later w s) ≡ category
    par_rated later w s = between_category (staying later w) output_goals (forking (moving later w) s)

    pub par_shaped : (later : ℕ → Bool) (w s : List Right) → outputs_of (made later w s) ≡ outputs
    par_shaped later w s = between_outputs (staying later w) output_goals (forking (moving later w) s)

    -- what a parallel conjunction does whose conjuncts go as they should
    pub goes_par : AtDepth program calls → Goes known types i program calls plan split course whole made due
    goes_par deep = record {
      along = λ later w s out b seen here hold full p all within sound fits fit match ready names counted. par_along out b seen sound deep later w s here hold full p within fits fit match ready names counted;
      uses = λ later w s out b seen here hold rights held g proper is_proper p all sound sure fine fit ready names q. par_uses out b seen sound later w s here hold rights held g proper is_proper p all fine fit ready names q;
      quiet = λ later out b seen here hold p sound fine fit ready names. par_quiet out b seen sound later here hold p fine fit ready names;
      rated = par_rated;
      shaped = par_shaped;
    }
