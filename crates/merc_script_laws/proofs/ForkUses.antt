-- A fork with the waits for what its conjuncts bind: it goes as the conjunction does in the trace, keeps to its rights, and is quiet where nothing moves.
use Rattle.std.proofs.Common.{◌≡◌, ◌⊎◌, inl, inr, ℕ, suc, ◌≤◌, ◌<◌, Bool, true, false, not, ◌==◌, ◌&&◌, List, [], ◌++◌, length, map, filter, Option, Some, None, refl, ap, sym, subst, ◌∙◌, arith}
use Rattle.merc_base.specs.Category.{most_of}
use Rattle.merc_base.specs.declared.category.Most.TheVariants.{Zero}
use Rattle.merc_base.specs.declared.place.Span.{Span}
use Rattle.merc_tree.specs.Types.{replaced}
use Rattle.merc_tree.specs.declared.declarations.Module.{Module}
use Rattle.merc_goal_tree.specs.declared.goal.Symbol.{Symbol}
use Rattle.merc_graded_tree.specs.declared.basic.Procedure.{Procedure}
use Rattle.merc_graded_tree.specs.Nodes.{Nodes, list_of}
use Rattle.merc_graded_tree.specs.Variables.{among, in_nodes}
use Rattle.merc_order.specs.Bound.{Bound, with}
use Rattle.merc_order.specs.Procedures.{modes_of}
use Rattle.merc_order_laws.specs.Bindings.{Variables, AreFree, Binds}
use Rattle.merc_order_laws.specs.GoodTree.{behind_nodes, GoodNodes}
use Rattle.merc_grading.specs.Categories.{conjunction_category}
use Rattle.merc_grading.specs.Known.{Known, known_of, known_behind_all}
use Rattle.merc_grading.specs.Grading.{categories}
use Rattle.merc_value.specs.Value.{Value, Values}
use Rattle.merc_meaning.specs.Trace.{Env, Trace}
use Rattle.merc_meaning.specs.Values.{fields}
use Rattle.merc_meaning.specs.Steps.{value_at}
use Rattle.merc_meaning.specs.Runs.{Program, all_trace}
use Rattle.merc_program_laws.specs.ValueTypes.{HasType}
use Rattle.merc_program_laws.specs.GoodPrograms.{AreGoodTypes}
use Rattle.merc_program_laws.proofs.Values.{Instance, same_some}
use Rattle.merc_program_laws.proofs.Lawful.{Fits}
use Rattle.merc_program_laws.proofs.Calls.{LawfulCalls}
use Rattle.merc_core.specs.Rights.{has, moved, without}
use Rattle.merc_core.specs.WellFormed.{AreDistinct}
use Rattle.merc_rights.specs.Rights.{Right, right_to, users}
use Rattle.merc_par_split.specs.Sites.{count, are_for, planned_conjuncts}
use Rattle.merc_par_split.specs.Split.{moves_in, placed_conjuncts}
use Rattle.merc_plan.specs.Branch.{HeldSignal, Hold, NamedCell, Fork, Forks, BranchCourse, BranchCourses, names, Gift, gift_at, gifts_through, value_given, all_give}
use Rattle.merc_plan.specs.Hold.{child_for, fork_of}
use Rattle.merc_plan.specs.Branches.{Plan, conjunct_gifts}
use Rattle.merc_plan.proofs.Flat.{Done, Answer, Like, events}
use Rattle.merc_plan.proofs.Judging.{flat, flats, Sure, AllAnswer, uses, SiteFits, OwnFits, Keeps, Quiet, anything}
use Rattle.merc_plan.proofs.Shown.{Shown}
use Rattle.merc_plan.proofs.Sets.{clash, tell, or_left, or_right, look_past, look_same, gifts_in, gifts_out}
use Rattle.merc_script_laws.specs.Parallel.{all_outputs, most_conjuncts}
use Rattle.merc_script_laws.proofs.Bonds.{Set, Here, signs, rights_for, Within, Fit, Match, Names, Ready, Ends, After, Used, Rightful, Planned}
use Rattle.merc_script_laws.proofs.Seen.{behind_all_other}
use Rattle.merc_script_laws.proofs.Learning.{learns_all}
use Rattle.merc_script_laws.proofs.Steps.{Waits}
use Rattle.merc_script_laws.proofs.Around.{StillWaits}
use Rattle.merc_script_laws.proofs.Dets.{AllBeside}
use Rattle.merc_script_laws.proofs.Members.{Member, numbered, number_in, passing, passes}
use Rattle.merc_script_laws.proofs.Cells.{name_of, goes as goes_on, goes_some, signals_moved}
use Rattle.merc_script_laws.proofs.Sites.{cell_for, maker_of, output_cell, nth_low}
use Rattle.merc_script_laws.proofs.SiteMoves.{child_signal, signal_child}
use Rattle.merc_script_laws.proofs.Kids.{info, cells, own, fact_of, signs_member, member_signs}
use Rattle.merc_script_laws.proofs.Conjuncts.{at_first}
use Rattle.merc_script_laws.proofs.Sights.{FineFor, Nonzero, AllSound, AllCertain, sights_first, none_proper}
use Rattle.merc_script_laws.proofs.ForkShows.{AtDepth, fork_shown}
use Rattle.merc_script_laws.proofs.ForkSite.{site_fits, own_site, no_moves, branch_count}
use Rattle.merc_script_laws.proofs.ConjunctsKeep.{EachGoes, kids, kids_keep}
use Rattle.merc_script_laws.proofs.ConjunctsAlong.{Going, Final, kids_along}
use Rattle.merc_script_laws.proofs.ConjunctsEnd.{gifts_all, AllEnd, all_end, kids_some, kids_gave}
use Rattle.merc_script_laws.proofs.Behind.{own_cells, forked, others_behind, given_behind, moves_behind, kept_behind, gone_behind, unsigned_behind, news_behind}
use Rattle.merc_script_laws.proofs.BehindWaits.{output_waits, behind_sure, behind_along, behind_keeps, behind_quiet}

both_true : (a c : Bool) → (a && c) ≡ true → c ≡ true
both_true true c h = h
both_true false c h = absurd (cc)

given_value : (o : Option (Option Value)) (v : Value) → value_given o ≡ Some v → o ≡ Some (Some v)
given_value None v e = absurd (cc)
given_value (Some o) v e = ap (λ z. Some z) e

-- Given are the module, the types of the variables, and what type variables stand for.
module _ (known : Module) (types i : Instance) (declared : AreGoodTypes known.types) (program : Program) (calls : Procedure → Env → Trace) (lawful : LawfulCalls known program calls) (plan : Plan) (split : Program) (course : Procedure → Hold → BranchCourse) where
  module _ (goals : Nodes) (outputs : List ℕ) (w s : List Right) (later : ℕ → Bool) (out : Variables) (b : Bound) (seen : Known) (here : Set) (hold : Hold) (distinct : AreDistinct (all_outputs goals)) (free : (x : ℕ) → has x (all_outputs goals) ≡ true → b x ≡ false)
      (fit : Fit b here w hold) (ready : Ready here w b (in_nodes goals)) (names_are : Names hold) (moving : (x : ℕ) → are_for w x ≡ true → moves_in later goals x ≡ true) (fine : FineFor known types i declared out b (in_nodes goals) seen w hold)
      (goes : EachGoes known types i declared program calls plan split course goals) (counts : (x : ℕ) → are_for s x ≡ true → length (rights_for x s) ≡ length (signs x hold)) (covered : (x : ℕ) → among outputs x ≡ true → has x (all_outputs goals) ≡ true)
      (free_outputs : AreFree b outputs) (empty : (x : ℕ) (v : Value) → among outputs x ≡ true → Here hold x v → ⊥) (within : Within s outputs) (some : 1 ≤ count goals) (few : count goals ≤ most_conjuncts)
      (sounds : AllSound known types i declared out b seen goals) (certains : AllCertain known types i declared goals) (at : ℕ) (planned_all : Planned plan (suc at) (planned_conjuncts 1 outputs w s [] goals)) (span : Span) where
    pub single : (x : ℕ) → are_for w x ≡ true → (length (users 1 goals x) == 1) ≡ true
    single x h = both_true (not (later x)) (length (users 1 goals x) == 1) (moving x h)

    abbrev branches : BranchCourses
    branches = kids known types i declared program calls plan split course goals outputs w s out b seen here hold distinct free fit ready names_are single fine goes counts (suc at) 1 [] goals []

    abbrev conjuncts : Nodes
    conjuncts = placed_conjuncts (suc at) 1 outputs w s [] goals

    abbrev given : List Gift
    given = conjunct_gifts plan split course (info goals outputs w s hold) hold 1 conjuncts []

    abbrev here_fork : Fork
    here_fork = fork_of (info goals outputs w s hold) conjuncts hold

    abbrev waits_for_outputs : BranchCourse
    waits_for_outputs = output_waits plan split course span outputs (forked outputs w s goals hold given)

    abbrev pub unit : BranchCourse
    unit = Forks at here_fork branches waits_for_outputs

    -- Along the trace.
    module _ (deep : AtDepth program calls) (good : GoodNodes (modes_of known.preds) out b goals) (besides : AllBeside goals) (full : Env) (match : Match w hold full) (fits : Fits known types i out b (in_nodes goals) seen full) where
      none_before : (one : NamedCell) → Member one (own goals outputs w s hold) → one.producer < 1 → ⊥
      none_before one m l =
          let f = fact_of goals outputs w s hold one m in
          let h = nth_low 1 f.0.producer f.1.0.maker goals f.1.0.is_maker in
          let e = f.1.1.1.0 in
          absurd (omega (arith, h, e, l))

      start : Going known types i declared program calls lawful plan split course goals outputs w s out b seen here hold distinct free fit ready names_are single fine goes counts full match 1 b out seen goals [] full
      start = record { fits = fits; kept = λ x v h. h; has_value = λ one m l. absurd (none_before one m l); not_yet = λ one m l. refl }

      abbrev R : Hold → Env → Type 0
      R = Ends full here w s later outputs hold

      at_end : (end : Env) → Final known types i declared program calls lawful plan split course goals outputs w s out b seen here hold distinct free fit ready names_are single fine goes counts full match given end → Like R (flat waits_for_outputs) (Answer end Done)
      at_end end f =
          let same : (x : ℕ) (v : Value) → Here hold x v → value_at end x ≡ Some v = λ x v h. f.0 x v (match.same x v h) in
          let gives : (one : NamedCell) → Member one (own_cells outputs w s goals hold given) → one.consumer ≡ 0 → (v : Value) × ((gift_at one.cell given ≡ Some (Some v)) × (value_at end one.variable ≡ Some v)) = λ one m c. f.1 one m in
          let led = behind_along plan split course span outputs w s goals hold given b here fit names_are distinct covered free_outputs empty end same gives in
          subst (λ z. Like R z (Answer end Done)) (sym led.is_flat)
          ((moves_behind outputs w s goals hold given b here fit names_are distinct covered free_outputs empty led.hold2 led.waits later moving, (news_behind outputs w s goals hold given b here fit names_are distinct covered free_outputs empty end same gives led.hold2 led.waits, f.0)), tt)

      like_goals : Like (λ (end : Hold) (found : Env). Unit {0}) (flats branches (Answer hold Done)) (events (all_trace program calls goals full))
      like_goals =
          (kids_along known types i declared program calls lawful plan split course goals outputs w s out b seen here hold distinct free fit ready names_are single fine goes counts full match goals (suc at) 1 [] b out seen
          (at_first goals outputs w s b here hold distinct free fit ready names_are single fine.exact) (sights_first known types i declared goals outputs w s out b seen here hold distinct free fit ready names_are single fine) sounds certains besides planned_all [] full start
          (Answer hold Done) (λ (end : Hold) (found : Env). Unit {0}) (λ end f. (tt, tt))).0

      shown : Shown program here_fork branches
      shown = fork_shown known types i goals out b seen here w hold full fits fit match ready names_are program calls deep good (suc at) outputs w s (info goals outputs w s hold) branches like_goals

      pub unit_along : Like R (flat unit) (events (all_trace program calls goals full)) × Sure (Shown program) unit
      unit_along =
          let k = kids_along known types i declared program calls lawful plan split course goals outputs w s out b seen here hold distinct free fit ready names_are single fine goes counts full match goals (suc at) 1 [] b out seen
          (at_first goals outputs w s b here hold distinct free fit ready names_are single fine.exact) (sights_first known types i declared goals outputs w s out b seen here hold distinct free fit ready names_are single fine) sounds certains besides planned_all [] full start (flat waits_for_outputs) R (λ end f. at_end end f) in
          (k.0, (shown, (k.1, λ a. behind_sure plan split course span (Shown program) outputs (forked outputs w s goals hold given))))

    -- Behind it, where the conjuncts have all answered.
    module _ (good : GoodNodes (modes_of known.preds) out b goals) (binds : Binds out (in_nodes goals) b outputs (behind_nodes b goals)) (occur : (x : ℕ) → among outputs x ≡ true → in_nodes goals x ≡ true) (ans : AllAnswer branches) (hold2 : Hold) (p : Waits here (map (right_to 0) outputs) (forked outputs w s goals hold given) hold2) where
      abbrev gave_all : List Gift
      gave_all = all_give branches

      is_given : (c : ℕ) → gift_at c given ≡ gift_at c gave_all
      is_given c = ap (λ z. gift_at c z) (gifts_all plan split course (info goals outputs w s hold) hold conjuncts 1 [])

      nonzero : Nonzero (conjunction_category (categories (list_of goals)))
      nonzero = kids_some known types i declared program calls plan split course goals outputs w s out b seen here hold distinct free fit ready names_are single fine goes counts goals (suc at) 1 [] b out seen (at_first goals outputs w s b here hold distinct free fit ready names_are single fine.exact) (sights_first known types i declared goals outputs w s out b seen here hold distinct free fit ready names_are single fine) sounds certains planned_all [] (none_proper known types i declared goals outputs w s out b seen here hold distinct free fit ready names_are single fine 1 seen) ans

      the_end : AllEnd known types i declared program calls plan split course goals outputs w s out b seen here hold distinct free fit ready names_are single fine goes counts given
      the_end = all_end known types i declared program calls plan split course goals outputs w s out b seen here hold distinct free fit ready names_are single fine goes counts goals (suc at) 1 [] b out seen (at_first goals outputs w s b here hold distinct free fit ready names_are single fine.exact) (sights_first known types i declared goals outputs w s out b seen here hold distinct free fit ready names_are single fine) sounds certains planned_all [] (none_proper known types i declared goals outputs w s out b seen here hold distinct free fit ready names_are single fine 1 seen)

      known_end : the_end.sight ≡ known_behind_all goals seen
      known_end = (the_end.sees.ends nonzero).0

      -- the own cell through which an output comes
      output_one : (x : ℕ) → among outputs x ≡ true → (one : NamedCell) × (Member one (own goals outputs w s hold) × ((one.consumer ≡ 0) × (one.variable ≡ x)))
      output_one x h =
          let m = maker_of 1 x goals (covered x h) in
          let n = name_of hold.next (cells goals outputs w s hold) (cell_for x m.0 0) (output_cell outputs 1 m.0 x m.1.0 goals m.1.1.0 m.1.1.1 h) in
          (n.one, (n.there, (n.consumer, n.variable)))

      output_value : (x : ℕ) (v : Value) → among outputs x ≡ true → Here hold2 x v → HasType known.types v (replaced i (types x)) × ((sy : Symbol) → known_of (known_behind_all goals seen) x ≡ Some sy → (vs : Values) × (fields sy v ≡ Some vs))
      output_value x v h e =
          let o = output_one x h in
          let g = given_behind outputs w s goals hold given b here fit names_are distinct covered free_outputs empty hold2 p o.0 o.1.0 o.1.1.0 in
          let is : g.0 ≡ v = same_some (sym g.1.1 ∙ subst (λ z. Here hold2 z v) (sym o.1.1.1) e) in
          let r = the_end.proper o.0 o.1.0 v (given_value (gift_at o.0.cell given) v (g.1.0 ∙ ap (λ z. Some z) is)) in (
            subst (λ z. HasType known.types v (replaced i (types z))) o.1.1.1 r.1.0,
            λ sy k. r.1.1 sy (subst (λ z. known_of z o.0.variable ≡ Some sy) (sym known_end) (subst (λ z. known_of (known_behind_all goals seen) z ≡ Some sy) (sym o.1.1.1) k)),
          )

      other_value : (x : ℕ) (v : Value) → among outputs x ≡ false → Here hold2 x v → Here hold x v
      other_value x v n e = sym (others_behind outputs w s goals hold given b here fit names_are distinct covered free_outputs empty hold2 p x n) ∙ e

      unit_after : After known types i out b outputs (in_nodes goals) seen (known_behind_all goals seen) hold hold2
      unit_after = record {
        own = λ x v n h. other_value x v (not_output x n (tell (among outputs x))) h;
        exact = λ x v o q h. exact x v o h (tell (among outputs x));
        typed = λ x v h. typed x v h (tell (among outputs x));
        bound = λ x sy o q e. bound x sy o q (learns_all (modes_of known.preds) goals seen out b good x sy q e);
        knows = λ x sy v e h. knows x sy v e h (tell (among outputs x));
        same = λ x o. behind_all_other goals seen x o;
      } where
        not_output : (x : ℕ) → in_nodes goals x ≡ false → (among outputs x ≡ true) ⊎ (among outputs x ≡ false) → among outputs x ≡ false
        not_output x n (inl h) = clash (in_nodes goals x) (occur x h) n
        not_output x n (inr h) = h

        exact : (x : ℕ) (v : Value) → in_nodes goals x ≡ true → Here hold2 x v → (among outputs x ≡ true) ⊎ (among outputs x ≡ false) → with b (among outputs) x ≡ true
        exact x v o h (inl z) = or_right (b x) (among outputs x) z
        exact x v o h (inr z) = or_left (b x) (among outputs x) (fine.exact x v o (other_value x v z h))

        typed : (x : ℕ) (v : Value) → Here hold2 x v → (among outputs x ≡ true) ⊎ (among outputs x ≡ false) → HasType known.types v (replaced i (types x))
        typed x v h (inl z) = (output_value x v z h).0
        typed x v h (inr z) = fine.typed x v (other_value x v z h)

        bound : (x : ℕ) (sy : Symbol) → in_nodes goals x ≡ true → out x ≡ true → (known_of seen x ≡ Some sy) ⊎ (behind_nodes b goals x ≡ true) → with b (among outputs) x ≡ true
        bound x sy o q (inl z) = or_left (b x) (among outputs x) (fine.bound x sy o z)
        bound x sy o q (inr z) = sym (binds x o q) ∙ z

        knows : (x : ℕ) (sy : Symbol) (v : Value) → known_of (known_behind_all goals seen) x ≡ Some sy → Here hold2 x v → (among outputs x ≡ true) ⊎ (among outputs x ≡ false) → (vs : Values) × (fields sy v ≡ Some vs)
        knows x sy v e h (inl z) = (output_value x v z h).1 sy e
        knows x sy v e h (inr z) = the_end.sees.knows x sy v (subst (λ y. known_of y x ≡ Some sy) (sym known_end) e) (other_value x v z h)

      -- Its rights are used up.
      module _ (rights : ℕ → Bool) (held : List ℕ) (g : List Gift) (q : Rightful w s outputs rights held g hold) (held2 : List ℕ)
          (still : StillWaits plan split course span (map (right_to 0) outputs) (forked outputs w s goals hold given) (uses 0 (own_cells outputs w s goals hold given) ++ without (names (own goals outputs w s hold)) (without (moved false here_fork.moves) held)) held2) where
        abbrev through : List Gift
        through = gifts_through (moved true here_fork.moves) gave_all

        moves_there : (x k c : ℕ) → child_for true x (info goals outputs w s hold).moves ≡ Some k → has c (signs x hold) ≡ true → has c (moved true here_fork.moves) ≡ true
        moves_there x k c e h =
            let r = signs_member hold x c h in
            subst (λ l. has c l ≡ true) (sym (signals_moved (info goals outputs w s hold).moves hold))
            (number_in (λ (right : HeldSignal). right.cell) r.0 c (filter (λ (right : HeldSignal). goes_on (child_for true right.variable (info goals outputs w s hold).moves)) hold.signals)
            (passes (λ (right : HeldSignal). goes_on (child_for true right.variable (info goals outputs w s hold).moves)) r.0 hold.signals r.1.0
            (subst (λ z. goes_on z ≡ true) (sym (subst (λ z. child_for true z (info goals outputs w s hold).moves ≡ Some k) (sym r.1.1.0) e)) refl)) r.1.1.1)

        not_there : (c : ℕ) → ((x : ℕ) → are_for s x ≡ true → has c (signs x hold) ≡ true → ⊥) → has c (moved true here_fork.moves) ≡ true → ⊥
        not_there c n h =
            let test : HeldSignal → Bool = λ right. goes_on (child_for true right.variable (info goals outputs w s hold).moves) in
            let r = numbered (λ (right : HeldSignal). right.cell) c (filter test hold.signals) (subst (λ l. has c l ≡ true) (signals_moved (info goals outputs w s hold).moves hold) h) in
            let m = passing test r.0 hold.signals r.1.0 in
            let k = goes_some (child_for true r.0.variable (info goals outputs w s hold).moves) m.1 in
            n r.0.variable (signal_child outputs w s goals r.0.variable k.0 k.1).0 (member_signs hold r.0.variable c r.0 m.0 refl r.1.1)

        gave : (x c : ℕ) → are_for s x ≡ true → has c (signs x hold) ≡ true → (v : Value) × ((gift_at c (g ++ through) ≡ Some (Some v)) × Here hold2 x v)
        gave x c h j =
            let m = maker_of 1 x goals (covered x (within x h)) in
            let to = child_signal outputs w s goals distinct x m.0 m.1.0 m.1.1.0 m.1.1.1 h in
            let v = kids_gave known types i declared program calls plan split course goals outputs w s out b seen here hold distinct free fit ready names_are single fine goes counts goals (suc at) 1 [] b out seen (at_first goals outputs w s b here hold distinct free fit ready names_are single fine.exact) (sights_first known types i declared goals outputs w s out b seen here hold distinct free fit ready names_are single fine) sounds certains planned_all [] (none_proper known types i declared goals outputs w s out b seen here hold distinct free fit ready names_are single fine 1 seen) ans m.0 m.1.0 x m.1.1.0 m.1.1.1 in
            let n = name_of hold.next (cells goals outputs w s hold) (cell_for x m.0 0) (output_cell outputs 1 m.0 x m.1.0 goals m.1.1.0 m.1.1.1 (within x h)) in
            let e = given_behind outputs w s goals hold given b here fit names_are distinct covered free_outputs empty hold2 p n.one n.there n.consumer in
            let is : e.0 ≡ v.0 = same_some (sym e.1.0 ∙ ap value_given (is_given n.one.cell ∙ v.1 n.one.cell (inl (n.one, (n.there, (n.producer, (n.variable, refl))))))) in (
              v.0,
              (
                look_past c g through (q.to_signal x c h j).1 ∙ gifts_in c (moved true here_fork.moves) gave_all (moves_there x m.0 c to j) ∙ ap (λ z. Some (value_given z)) (v.1 c (inr (to, j))),
                subst (λ z. Here hold2 z v.0) n.variable (e.1.1 ∙ ap (λ z. Some z) is),
              ),
            )

        pub unit_used : (never : Type 0) → (never → most_of (conjunction_category (categories (list_of goals))) ≡ Zero)
            → Used (After known types i out b outputs (in_nodes goals) seen (known_behind_all goals seen) hold) never here w s later outputs hold held g held2 (g ++ through) hold2
        unit_used never unreached = record {
          moves = moves_behind outputs w s goals hold given b here fit names_are distinct covered free_outputs empty hold2 p later moving;
          kept = kept_behind outputs w s goals hold given b here fit names_are distinct covered free_outputs empty hold2 p held held2 still;
          gave = gave;
          left = λ c l n. look_same c g through (gifts_out c (moved true here_fork.moves) gave_all (λ h. not_there c n h));
          signed = λ x h. gone_behind outputs w s goals hold given b here fit names_are distinct covered free_outputs empty hold2 p within x h;
          unsigned = λ x h. unsigned_behind outputs w s goals hold given b here fit names_are distinct covered free_outputs empty hold2 p x h;
          behind = unit_after;
          reached = λ z. nonzero (unreached z);
        }

    -- It keeps to its rights.
    pub unit_keeps : GoodNodes (modes_of known.preds) out b goals → Binds out (in_nodes goals) b outputs (behind_nodes b goals) → ((x : ℕ) → among outputs x ≡ true → in_nodes goals x ≡ true)
        → (rights : ℕ → Bool) (held : List ℕ) (g : List Gift) (proper : ℕ → Value → Type 0) → Rightful w s outputs rights held g hold
        → ((x c : ℕ) (v : Value) → are_for s x ≡ true → has c (signs x hold) ≡ true → HasType known.types v (replaced i (types x))
        → (Nonzero (conjunction_category (categories (list_of goals))) → (sy : Symbol) → known_of (known_behind_all goals seen) x ≡ Some sy → (vs : Values) × (fields sy v ≡ Some vs)) → proper c v)
        → (never : Type 0) → (never → most_of (conjunction_category (categories (list_of goals))) ≡ Zero)
        → Keeps proper (Used (After known types i out b outputs (in_nodes goals) seen (known_behind_all goals seen) hold) never here w s later outputs hold held g) rights held g unit
    unit_keeps good binds occur rights held g proper q is_proper never unreached = (
      subst (λ z. SiteFits z rights g held here_fork) (sym (branch_count plan split course (info goals outputs w s hold) hold outputs w s goals (suc at) 1 [] [])) (site_fits goals conjuncts outputs w s hold names_are some few outputs rights held g q),
      (
        kids_keep known types i declared program calls plan split course goals outputs w s out b seen here hold distinct free fit ready names_are single fine goes counts conjuncts proper is_proper goals (suc at) 1 [] b out seen (at_first goals outputs w s b here hold distinct free fit ready names_are single fine.exact) (sights_first known types i declared goals outputs w s out b seen here hold distinct free fit ready names_are single fine) sounds certains planned_all [] (none_proper known types i declared goals outputs w s out b seen here hold distinct free fit ready names_are single fine 1 seen),
        λ ans. behind_keeps plan split course span outputs w s goals hold given b here fit names_are distinct covered free_outputs empty proper
            (Used (After known types i out b outputs (in_nodes goals) seen (known_behind_all goals seen) hold) never here w s later outputs hold held g) rights (without (names (own goals outputs w s hold)) (without (moved false here_fork.moves) held))
            (g ++ gifts_through (moved true here_fork.moves) (all_give branches))
            (λ hold2 held2 p still. unit_used good binds occur ans hold2 p rights held g q held2 still never unreached),
      ),
    )

    -- Where nothing moves it is quiet.
    pub unit_quiet : w ≡ [] → s ≡ [] → Quiet hold.next [] unit
    unit_quiet ew es = (
      subst (λ v. (fork_of (info goals outputs v s hold) conjuncts hold).moves ≡ []) (sym ew) (subst (λ z. (fork_of (info goals outputs [] z hold) conjuncts hold).moves ≡ []) (sym es) (no_moves goals conjuncts outputs hold)),
      (
        subst (λ z. OwnFits z hold.next here_fork) (sym (branch_count plan split course (info goals outputs w s hold) hold outputs w s goals (suc at) 1 [] [])) (own_site goals conjuncts outputs w s hold names_are some few),
        (
          kids_keep known types i declared program calls plan split course goals outputs w s out b seen here hold distinct free fit ready names_are single fine goes counts conjuncts anything (λ x c v h j t f. tt) goals (suc at) 1 [] b out seen (at_first goals outputs w s b here hold distinct free fit ready names_are single fine.exact) (sights_first known types i declared goals outputs w s out b seen here hold distinct free fit ready names_are single fine) sounds certains planned_all [] (none_proper known types i declared goals outputs w s out b seen here hold distinct free fit ready names_are single fine 1 seen),
          λ ans. behind_quiet plan split course span outputs w s goals hold given b here fit names_are distinct covered free_outputs empty (without (names (own goals outputs w s hold)) []),
        ),
      ),
    )
