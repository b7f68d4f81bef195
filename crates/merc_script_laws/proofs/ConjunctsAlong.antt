-- Parallel conjuncts against the trace: what each gives is the value that the trace has, and they go one behind the other as it goes.
use Rattle.std.proofs.Common.{◌≡◌, ◌⊎◌, inl, inr, ℕ, zero, suc, ◌+◌, ◌≤◌, ◌<◌, true, false, ◌==◌, is_some, nat_eq, List, [], ◌++◌, length, Some, None, ap, sym, subst, ◌∙◌, arith}
use Rattle.std.proofs.lemmas.Bool.Decides.{nat_tests}
use Rattle.merc_base.specs.Category.{can_fail_of, most_of}
use Rattle.merc_base.specs.declared.category.Most.TheVariants.{Zero}
use Rattle.merc_tree.specs.Types.{replaced}
use Rattle.merc_tree.specs.declared.declarations.Module.{Module}
use Rattle.merc_goal_tree.specs.declared.goal.Symbol.{Symbol}
use Rattle.merc_graded_tree.specs.declared.basic.Procedure.{Procedure}
use Rattle.merc_graded_tree.specs.Nodes.{Node, Nodes, no_nodes, more_nodes, outputs_of}
use Rattle.merc_graded_tree.specs.Variables.{among, in_node, in_nodes}
use Rattle.merc_order.specs.Bound.{Bound, with}
use Rattle.merc_order.specs.Procedures.{modes_of}
use Rattle.merc_order_laws.specs.Bindings.{Variables}
use Rattle.merc_grading.specs.Known.{Known, known_of, known_behind}
use Rattle.merc_grading.specs.Grading.{category_at}
use Rattle.merc_value.specs.Value.{Value, Values}
use Rattle.merc_meaning.specs.Trace.{Env, Trace}
use Rattle.merc_meaning.specs.Values.{fields}
use Rattle.merc_meaning.specs.Steps.{value_at}
use Rattle.merc_meaning.specs.Runs.{Program, node_trace, all_trace}
use Rattle.merc_program_laws.specs.ValueTypes.{HasType}
use Rattle.merc_program_laws.specs.GoodPrograms.{AreGoodTypes}
use Rattle.merc_program_laws.specs.Answers.{Never}
use Rattle.merc_program_laws.proofs.Values.{Instance, or_false, or_with, same_some}
use Rattle.merc_program_laws.proofs.Lawful.{Fits, Goes as LawGoes, Lawful}
use Rattle.merc_program_laws.proofs.Calls.{LawfulCalls}
use Rattle.merc_program_laws.proofs.TreeCategories.{node_law}
use Rattle.merc_core.specs.Rights.{has}
use Rattle.merc_core.specs.WellFormed.{AreDistinct}
use Rattle.merc_par_split.specs.Forks.{forks}
use Rattle.merc_rights.specs.Rights.{Right, users}
use Rattle.merc_par_split.specs.Sites.{are_for, planned, planned_conjuncts}
use Rattle.merc_par_split.specs.Split.{nothing, placed_conjuncts}
use Rattle.merc_par_split.proofs.PlannedCounts.{planned_count}
use Rattle.merc_plan.specs.Branch.{Hold, NamedCell, BranchCourse, BranchCourses, Gift, gift_at, gives}
use Rattle.merc_plan.specs.Hold.{child_for}
use Rattle.merc_plan.specs.Branches.{Plan, conjunct_gifts}
use Rattle.merc_plan.proofs.Flat.{Flat, Done, Answer, behind, Det, Answers, Like, events}
use Rattle.merc_plan.proofs.Judging.{flat, flats, Sure, AllSure, signals_to, Keeps}
use Rattle.merc_plan.proofs.Shown.{Shown}
use Rattle.merc_plan.proofs.Likes.{like_det, like_with}
use Rattle.merc_plan.proofs.Events.{events_each}
use Rattle.merc_plan.proofs.Holds.{First, keeps_gives, keeps_only}
use Rattle.merc_plan.proofs.Sets.{clash, tell, absent, same_number, or_either, or_left, or_right, look_past, look_before}
use Rattle.merc_script_laws.specs.Parallel.{all_outputs}
use Rattle.merc_script_laws.proofs.Bonds.{Set, signs, rights_for, Fit, Match, Names, Ready, Kept, Ends, Planned, Sound}
use Rattle.merc_grading.specs.Faults.{runs_beside}
use Rattle.merc_script_laws.proofs.HoldLaw.{each_event, each_unreached}
use Rattle.merc_script_laws.proofs.Dets.{like_behind_first, first_pair, AllBeside, det_conjunct}
use Rattle.merc_script_laws.proofs.Members.{Member}
use Rattle.merc_script_laws.proofs.Cells.{rights_signal}
use Rattle.merc_script_laws.proofs.Sites.{nth_high}
use Rattle.merc_script_laws.proofs.SiteMoves.{good_occurs}
use Rattle.merc_script_laws.proofs.Kids.{own, fact_of, OwnSign, sign_cases, same_own, own_low, own_sign, signs_cell}
use Rattle.merc_script_laws.proofs.Conjuncts.{rightful_k, fork, at_next, this_one, names_k, fit_k, ready_k, match_k, own_right}
use Rattle.merc_script_laws.proofs.Sights.{FineFor, handed, Nonzero, zero_or, AllSound, AllCertain, sights_next}
use Rattle.merc_script_laws.proofs.ConjunctsKeep.{planned_left, planned_right, EachGoes, Stands, Sees, Proper, site, kids, waits, signals, goal, same, all_used, is_within, kid_hold, kid, rights, may_wait, kid_here, ProperOf, KidEnd, kid_uses}

smaller : (j k : ℕ) → nat_eq j k ≡ false → j < suc k → j < k
smaller j k e l = grind (arith, nat_tests, e, l)

-- Given are the module, the types of the variables, and what type variables stand for.
module _ (known : Module) (types i : Instance) (declared : AreGoodTypes known.types) (program : Program) (calls : Procedure → Env → Trace) (lawful : LawfulCalls known program calls) (plan : Plan) (split : Program) (course : Procedure → Hold → BranchCourse) where
  module _ (goals : Nodes) (outputs : List ℕ) (w s : List Right) (out : Variables) (b : Bound) (seen : Known) (here : Set) (hold : Hold) (distinct : AreDistinct (all_outputs goals)) (free : (x : ℕ) → has x (all_outputs goals) ≡ true → b x ≡ false)
      (fit : Fit b here w hold) (ready : Ready here w b (in_nodes goals)) (names_are : Names hold) (single : (x : ℕ) → are_for w x ≡ true → (length (users 1 goals x) == 1) ≡ true) (fine : FineFor known types i declared out b (in_nodes goals) seen w hold)
      (goes : EachGoes known types i declared program calls plan split course goals) (counts : (x : ℕ) → are_for s x ≡ true → length (rights_for x s) ≡ length (signs x hold)) (full : Env) (match : Match w hold full) where
    -- where the trace stands at conjunct k, and what those to its left have given
    pub record Going (k : ℕ) (bk : Bound) (outk : Variables) (seenk : Known) (ns : Nodes) (given : List Gift) (fullk : Env) : Type 0 where
      pub fits : Fits known types i outk bk (in_nodes ns) seenk fullk
      pub kept : Kept full fullk
      pub has_value : (one : NamedCell) → Member one (own goals outputs w s hold) → one.producer < k → (v : Value) × ((gift_at one.cell given ≡ Some (Some v)) × (value_at fullk one.variable ≡ Some v))
      pub not_yet : (one : NamedCell) → Member one (own goals outputs w s hold) → k ≤ one.producer → gift_at one.cell given ≡ None

    before : (j k : ℕ) → (j < k) ⊎ (k ≤ j)
    before j zero = inr (omega (arith))
    before j (suc k) = elim (before j k) as (λ _. (j < suc k) ⊎ (suc k ≤ j)) [
      | inl l ↦ inl (omega (arith, l))
      | inr l ↦ elim (tell (nat_eq j k)) as (λ _. (j < suc k) ⊎ (suc k ≤ j)) [
        | inl e ↦ let p = same_number j k e in inl (omega (arith, p))
        | inr e ↦ inr (above j k e l)
      ]
    ] where
      above : (j k : ℕ) → nat_eq j k ≡ false → k ≤ j → suc k ≤ j
      above j k e l = grind (arith, nat_tests, e, l)

    -- what was given is what the trace has, so it is proper
    going_proper : (k : ℕ) (bk : Bound) (outk : Variables) (seenk : Known) (ns : Nodes) (given : List Gift) (fullk : Env) → Going k bk outk seenk ns given fullk → Proper known types i declared program calls plan split course goals outputs w s out b seen here hold distinct free fit ready names_are single fine goes counts k seenk given
    going_proper k bk outk seenk ns given fullk g one m v e = on (before one.producer k) where
      given_one : (u : Value) → gift_at one.cell given ≡ Some (Some u) → u ≡ v
      given_one u p = same_some (same_some (sym p ∙ e))

      on : (one.producer < k) ⊎ (k ≤ one.producer) → (one.producer < k) × (HasType known.types v (replaced i (types one.variable)) × ((sy : Symbol) → known_of seenk one.variable ≡ Some sy → (vs : Values) × (fields sy v ≡ Some vs)))
      on (inl l) =
          let h = g.has_value one m l in
          let at = h.1.1 ∙ ap (λ z. Some z) (given_one h.0 h.1.0) in
          (l, (g.fits.typed one.variable v at, λ sy p. let r = g.fits.knows one.variable sy p in (r.1, ap (fields sy) (same_some (sym at ∙ r.2)) ∙ r.3)))
      on (inr l) = absurd (none_some (sym (g.not_yet one m l) ∙ e)) where
        none_some : None ≡ Some (Some v) → ⊥
        none_some p = absurd (cc)

    module _ (at k : ℕ) (left : List ℕ) (bk : Bound) (outk : Variables) (seenk : Known) (n : Node) (ns : Nodes) (a : Stands known types i declared program calls plan split course goals outputs w s out b seen here hold distinct free fit ready names_are single fine goes counts k left bk (more_nodes n ns))
        (q : Sees known types i declared program calls plan split course goals outputs w s out b seen here hold distinct free fit ready names_are single fine goes counts k left bk outk seenk (more_nodes n ns)) (sound : Sound known types i (with outk (in_nodes ns)) bk seenk n) (certain : can_fail_of (category_at n) ≡ false)
        (given : List Gift) (fullk : Env) (g : Going k bk outk seenk (more_nodes n ns) given fullk) (planned_here : Planned plan at (planned nothing (waits known types i declared program calls plan split course goals outputs w s out b seen here hold distinct free fit ready names_are single fine goes counts at k left bk outk seenk n ns a q sound certain given) (signals known types i declared program calls plan split course goals outputs w s out b seen here hold distinct free fit ready names_are single fine goes counts at k left bk outk seenk n ns a q sound certain given) n)) where
      proper_here : Proper known types i declared program calls plan split course goals outputs w s out b seen here hold distinct free fit ready names_are single fine goes counts k seenk given
      proper_here = going_proper k bk outk seenk (more_nodes n ns) given fullk g

      abbrev pub course_k : BranchCourse
      course_k = kid known types i declared program calls plan split course goals outputs w s out b seen here hold distinct free fit ready names_are single fine goes counts at k left bk outk seenk n ns a q sound certain given

      abbrev pub hold_here : Hold
      hold_here = kid_hold known types i declared program calls plan split course goals outputs w s out b seen here hold distinct free fit ready names_are single fine goes counts at k left bk outk seenk n ns a q sound certain given

      abbrev pub trace_k : Flat Env
      trace_k = events (node_trace program calls n fullk)

      abbrev pub KidLike : Hold → Env → Type 0
      KidLike = Ends fullk (kid_here known types i declared program calls plan split course goals outputs w s out b seen here hold distinct free fit ready names_are single fine goes counts at k left bk outk seenk n ns a q sound certain given) (waits known types i declared program calls plan split course goals outputs w s out b seen here hold distinct free fit ready names_are single fine goes counts at k left bk outk seenk n ns a q sound certain given) (signals known types i declared program calls plan split course goals outputs w s out b seen here hold distinct free fit ready names_are single fine goes counts at k left bk outk seenk n ns a q sound certain given) nothing (outputs_of n) hold_here

      abbrev pub KidLaw : Env → Type 0
      KidLaw = LawGoes known types i (with outk (in_nodes ns)) (with bk (among (outputs_of n))) (in_node n) (known_behind n seenk) fullk

      abbrev pub KidFirst : Hold → Type 0
      KidFirst e = (h : List ℕ) × KidEnd known types i declared program calls plan split course goals outputs w s out b seen here hold distinct free fit ready names_are single fine goes counts at k left bk outk seenk n ns a q sound certain given h (gives course_k) e

      abbrev pub KidBoth : Hold → Env → Type 0
      KidBoth e p = (KidLike e p × KidLaw p) × Nonzero (category_at n)

      fits_n : Fits known types i (with outk (in_nodes ns)) bk (in_node n) seenk fullk
      fits_n = record {
        bounds = λ x o. g.fits.bounds x (or_left (in_node n x) (in_nodes ns x) o);
        outer = λ x o h. or_left (outk x) (in_nodes ns x) (g.fits.outer x (or_left (in_node n x) (in_nodes ns x) o) h);
        typed = g.fits.typed;
        knows = g.fits.knows;
      }

      law_k : Lawful KidLaw (category_at n) (node_trace program calls n fullk)
      law_k = node_law known declared program calls lawful types i n (with outk (in_nodes ns)) bk seenk fullk sound.good sound.graded sound.parts fits_n

      pub kid_along : Like KidLike (flat course_k) trace_k × Sure (Shown program) course_k
      kid_along = (goes k n (this_one goals outputs w s b here hold distinct free fit ready names_are single fine.exact k left bk n ns a (goal known types i declared program calls plan split course goals outputs w s out b seen here hold distinct free fit ready names_are single fine goes counts at k left bk outk seenk n ns a q sound certain given) (same known types i declared program calls plan split course goals outputs w s out b seen here hold distinct free fit ready names_are single fine goes counts at k left bk outk seenk n ns a q sound certain given) given) at).along nothing (waits known types i declared program calls plan split course goals outputs w s out b seen here hold distinct free fit ready names_are single fine goes counts at k left bk outk seenk n ns a q sound certain given) (signals known types i declared program calls plan split course goals outputs w s out b seen here hold distinct free fit ready names_are single fine goes counts at k left bk outk seenk n ns a q sound certain given) (with outk (in_nodes ns)) bk seenk (kid_here known types i declared program calls plan split course goals outputs w s out b seen here hold distinct free fit ready names_are single fine goes counts at k left bk outk seenk n ns a q sound certain given) hold_here fullk planned_here
          (all_used known types i declared program calls plan split course goals outputs w s out b seen here hold distinct free fit ready names_are single fine goes counts at k left bk outk seenk n ns a q sound certain given) (is_within known types i declared program calls plan split course goals outputs w s out b seen here hold distinct free fit ready names_are single fine goes counts at k left bk outk seenk n ns a q sound certain given) sound fits_n (fit_k goals outputs w s b here hold distinct free fit ready names_are single fine.exact k left bk n ns a (goal known types i declared program calls plan split course goals outputs w s out b seen here hold distinct free fit ready names_are single fine goes counts at k left bk outk seenk n ns a q sound certain given) (same known types i declared program calls plan split course goals outputs w s out b seen here hold distinct free fit ready names_are single fine goes counts at k left bk outk seenk n ns a q sound certain given) given)
          (match_k goals outputs w s b here hold distinct free fit ready names_are single fine.exact k left bk n ns a (goal known types i declared program calls plan split course goals outputs w s out b seen here hold distinct free fit ready names_are single fine goes counts at k left bk outk seenk n ns a q sound certain given) (same known types i declared program calls plan split course goals outputs w s out b seen here hold distinct free fit ready names_are single fine goes counts at k left bk outk seenk n ns a q sound certain given) given full fullk match g.kept g.has_value)
          (ready_k goals outputs w s b here hold distinct free fit ready names_are single fine.exact k left bk n ns a (goal known types i declared program calls plan split course goals outputs w s out b seen here hold distinct free fit ready names_are single fine goes counts at k left bk outk seenk n ns a q sound certain given) (same known types i declared program calls plan split course goals outputs w s out b seen here hold distinct free fit ready names_are single fine goes counts at k left bk outk seenk n ns a q sound certain given) given) (names_k goals outputs w s b here hold distinct free fit ready names_are single fine.exact k left bk n ns a (goal known types i declared program calls plan split course goals outputs w s out b seen here hold distinct free fit ready names_are single fine goes counts at k left bk outk seenk n ns a q sound certain given) (same known types i declared program calls plan split course goals outputs w s out b seen here hold distinct free fit ready names_are single fine goes counts at k left bk outk seenk n ns a q sound certain given) given)
          (rightful_k goals outputs w s b here hold distinct free fit ready names_are single fine.exact k left bk n ns a (goal known types i declared program calls plan split course goals outputs w s out b seen here hold distinct free fit ready names_are single fine goes counts at k left bk outk seenk n ns a q sound certain given) (same known types i declared program calls plan split course goals outputs w s out b seen here hold distinct free fit ready names_are single fine goes counts at k left bk outk seenk n ns a q sound certain given) given counts).counts

      pub kid_both : Like KidBoth (flat course_k) trace_k
      kid_both = like_with (λ e p. KidLike e p × KidLaw p) (λ p. Nonzero (category_at n)) (flat course_k) trace_k
          (like_with KidLike KidLaw (flat course_k) trace_k kid_along.0 (each_event KidLaw (node_trace program calls n fullk) law_k.goes))
          (each_unreached (most_of (category_at n)) trace_k (λ z. each_event Never (node_trace program calls n fullk) (law_k.no_answer z)))

      pub kid_det : runs_beside (category_at n) ≡ true → Det trace_k
      kid_det beside = det_conjunct known types i declared program calls lawful n (with outk (in_nodes ns)) bk seenk fullk beside sound fits_n

      kid_keeps : Keeps (ProperOf known types i declared program calls plan split course goals outputs w s out b seen here hold distinct free fit ready names_are single fine goes counts at k left bk outk seenk n ns a q sound certain given) (KidEnd known types i declared program calls plan split course goals outputs w s out b seen here hold distinct free fit ready names_are single fine goes counts at k left bk outk seenk n ns a q sound certain given) (rights known types i declared program calls plan split course goals outputs w s out b seen here hold distinct free fit ready names_are single fine goes counts at k left bk outk seenk n ns a q sound certain given) (may_wait known types i declared program calls plan split course goals outputs w s out b seen here hold distinct free fit ready names_are single fine goes counts at k left bk outk seenk n ns a q sound certain given) [] course_k
      kid_keeps = kid_uses known types i declared program calls plan split course goals outputs w s out b seen here hold distinct free fit ready names_are single fine goes counts at k left bk outk seenk n ns a q sound certain given proper_here planned_here

      pub kid_first : First KidFirst (flat course_k)
      kid_first = keeps_gives (ProperOf known types i declared program calls plan split course goals outputs w s out b seen here hold distinct free fit ready names_are single fine goes counts at k left bk outk seenk n ns a q sound certain given) (KidEnd known types i declared program calls plan split course goals outputs w s out b seen here hold distinct free fit ready names_are single fine goes counts at k left bk outk seenk n ns a q sound certain given) (rights known types i declared program calls plan split course goals outputs w s out b seen here hold distinct free fit ready names_are single fine goes counts at k left bk outk seenk n ns a q sound certain given) course_k (may_wait known types i declared program calls plan split course goals outputs w s out b seen here hold distinct free fit ready names_are single fine goes counts at k left bk outk seenk n ns a q sound certain given) [] kid_keeps

      -- it has the right to signal an own cell alone that it makes
      not_other : (one : NamedCell) → Member one (own goals outputs w s hold) → (one.producer ≡ k → ⊥) → rights known types i declared program calls plan split course goals outputs w s out b seen here hold distinct free fit ready names_are single fine goes counts at k left bk outk seenk n ns a q sound certain given one.cell ≡ false
      not_other one m away = absent one.cell (signals_to k (fork goals outputs w s b here hold distinct free fit ready names_are single fine.exact)) (λ h.
          let r = own_right goals outputs w s b here hold distinct free fit ready names_are single fine.exact k left bk n ns a (goal known types i declared program calls plan split course goals outputs w s out b seen here hold distinct free fit ready names_are single fine goes counts at k left bk outk seenk n ns a q sound certain given) (same known types i declared program calls plan split course goals outputs w s out b seen here hold distinct free fit ready names_are single fine goes counts at k left bk outk seenk n ns a q sound certain given) given counts one.cell h in on r.0 (sign_cases goals outputs w s hold k (goal known types i declared program calls plan split course goals outputs w s out b seen here hold distinct free fit ready names_are single fine goes counts at k left bk outk seenk n ns a q sound certain given) given r.0 one.cell r.1.1)) where
            on : (x : ℕ) → OwnSign goals outputs w s hold k (goal known types i declared program calls plan split course goals outputs w s out b seen here hold distinct free fit ready names_are single fine goes counts at k left bk outk seenk n ns a q sound certain given) given x one.cell ⊎ ((child_for true x (site known types i declared program calls plan split course goals outputs w s out b seen here hold distinct free fit ready names_are single fine goes counts).moves ≡ Some k) × (has one.cell (signs x hold) ≡ true)) → ⊥
            on x (inl z) = away (ap (λ (y : NamedCell). y.producer) (sym (same_own goals outputs w s hold z.one one z.there m z.cell)) ∙ z.producer)
            on x (inr z) = let l = names_are.low x one.cell z.1 in let d = own_low goals outputs w s hold one m in absurd (omega (arith, l, d))

      abbrev next : Known
      next = handed (category_at n) (known_behind n seenk) seenk

      fits_next : (p : Env) → KidLaw p → Nonzero (category_at n) → Fits known types i (with outk (in_node n)) (with bk (among (outputs_of n))) (in_nodes ns) next p
      fits_next p law some = record {
        bounds = λ x o. elim (tell (in_node n x)) as (λ _. is_some (value_at p x) ≡ with bk (among (outputs_of n)) x) [
          | inl j ↦ law.bounds x j (or_right (outk x) (in_nodes ns x) o)
          | inr j ↦ ap is_some (law.own x j) ∙ g.fits.bounds x (or_right (in_node n x) (in_nodes ns x) o) ∙ sym (or_false (bk x)) ∙ sym (or_with (bk x) (among (outputs_of n) x) false (not_out x j (tell (among (outputs_of n) x))))
        ];
        outer = λ x o h. elim (or_either (bk x) (among (outputs_of n) x) h) as (λ _. with outk (in_node n) x ≡ true) [
          | inl j ↦ or_left (outk x) (in_node n x) (g.fits.outer x (or_right (in_node n x) (in_nodes ns x) o) j)
          | inr j ↦ or_right (outk x) (in_node n x) (good_occurs (modes_of known.preds) (with outk (in_nodes ns)) bk n sound.good x j)
        ];
        typed = law.typed;
        knows = λ x sy e. law.knows x sy (same_known x sy e (zero_or (category_at n) (known_behind n seenk) seenk));
      } where
        not_out : (x : ℕ) → in_node n x ≡ false → (among (outputs_of n) x ≡ true) ⊎ (among (outputs_of n) x ≡ false) → among (outputs_of n) x ≡ false
        not_out x j (inl h) = clash (in_node n x) (good_occurs (modes_of known.preds) (with outk (in_nodes ns)) bk n sound.good x h) j
        not_out x j (inr h) = h

        same_known : (x : ℕ) (sy : Symbol) → known_of next x ≡ Some sy → (next ≡ seenk) × (most_of (category_at n) ≡ Zero) ⊎ ((next ≡ known_behind n seenk) × Nonzero (category_at n)) → known_of (known_behind n seenk) x ≡ Some sy
        same_known x sy e (inl z) = absurd (some z.1)
        same_known x sy e (inr z) = subst (λ y. known_of y x ≡ Some sy) z.0 e

      pub going_next : (e : Hold) (p : Env) → KidBoth e p → KidFirst e → Answers (flat course_k) → Going (suc k) (with bk (among (outputs_of n))) (with outk (in_node n)) next ns (given ++ gives course_k) p
      going_next e p l first ans = record {
        fits = fits_next p l.0.1 l.1;
        kept = λ x v h. l.0.0.1.1 x v (g.kept x v h);
        has_value = λ one m h. value one m h (tell (nat_eq one.producer k));
        not_yet = λ one m h. look_past one.cell given (gives course_k) (g.not_yet one m (omega (arith, h)))
            ∙ keeps_only (ProperOf known types i declared program calls plan split course goals outputs w s out b seen here hold distinct free fit ready names_are single fine goes counts at k left bk outk seenk n ns a q sound certain given) (KidEnd known types i declared program calls plan split course goals outputs w s out b seen here hold distinct free fit ready names_are single fine goes counts at k left bk outk seenk n ns a q sound certain given) (rights known types i declared program calls plan split course goals outputs w s out b seen here hold distinct free fit ready names_are single fine goes counts at k left bk outk seenk n ns a q sound certain given) course_k (may_wait known types i declared program calls plan split course goals outputs w s out b seen here hold distinct free fit ready names_are single fine goes counts at k left bk outk seenk n ns a q sound certain given) [] kid_keeps ans one.cell (not_other one m (λ z. absurd (omega (arith, z, h))));
      } where
        value : (one : NamedCell) → Member one (own goals outputs w s hold) → one.producer < suc k → (nat_eq one.producer k ≡ true) ⊎ (nat_eq one.producer k ≡ false)
            → (v : Value) × ((gift_at one.cell (given ++ gives course_k) ≡ Some (Some v)) × (value_at p one.variable ≡ Some v))
        value one m h (inl z) =
            let j = same_number one.producer k z in
            let sign = own_sign goals outputs w s hold k (goal known types i declared program calls plan split course goals outputs w s out b seen here hold distinct free fit ready names_are single fine goes counts at k left bk outk seenk n ns a q sound certain given) given one m j in
            let r = own_right goals outputs w s b here hold distinct free fit ready names_are single fine.exact k left bk n ns a (goal known types i declared program calls plan split course goals outputs w s out b seen here hold distinct free fit ready names_are single fine goes counts at k left bk outk seenk n ns a q sound certain given) (same known types i declared program calls plan split course goals outputs w s out b seen here hold distinct free fit ready names_are single fine goes counts at k left bk outk seenk n ns a q sound certain given) given counts one.cell
            (subst (λ l. has one.cell l ≡ true) (sym (rights_signal (site known types i declared program calls plan split course goals outputs w s out b seen here hold distinct free fit ready names_are single fine goes counts) goals k (goal known types i declared program calls plan split course goals outputs w s out b seen here hold distinct free fit ready names_are single fine goes counts at k left bk outk seenk n ns a q sound certain given) hold given)) (signs_cell hold_here one.variable one.cell sign)) in
            let v = first.1.gave r.0 one.cell r.1.0 r.1.1 in
            let is = (names_k goals outputs w s b here hold distinct free fit ready names_are single fine.exact k left bk n ns a (goal known types i declared program calls plan split course goals outputs w s out b seen here hold distinct free fit ready names_are single fine goes counts at k left bk outk seenk n ns a q sound certain given) (same known types i declared program calls plan split course goals outputs w s out b seen here hold distinct free fit ready names_are single fine goes counts at k left bk outk seenk n ns a q sound certain given) given).apart r.0 one.variable one.cell r.1.1 sign in
            (v.0, (look_past one.cell given (gives course_k) (g.not_yet one m (omega (arith, j))) ∙ v.1.0, ap (value_at p) (sym is) ∙ l.0.0.1.0 r.0 v.0 v.1.1))
        value one m h (inr z) =
            let v = g.has_value one m (smaller one.producer k z h) in
            (v.0, (look_before one.cell (Some v.0) given (gives course_k) v.1.0, l.0.0.1.1 one.variable v.0 v.1.1))

    -- behind all conjuncts
    abbrev pub Final : List Gift → Env → Type 0
    Final given end = Kept full end × ((one : NamedCell) → Member one (own goals outputs w s hold) → (v : Value) × ((gift_at one.cell given ≡ Some (Some v)) × (value_at end one.variable ≡ Some v)))

    -- the conjuncts one behind the other, against the trace
    pub kids_along : (ns : Nodes) (at k : ℕ) (left : List ℕ) (bk : Bound) (outk : Variables) (seenk : Known) → Stands known types i declared program calls plan split course goals outputs w s out b seen here hold distinct free fit ready names_are single fine goes counts k left bk ns → Sees known types i declared program calls plan split course goals outputs w s out b seen here hold distinct free fit ready names_are single fine goes counts k left bk outk seenk ns
        → AllSound known types i declared outk bk seenk ns → AllCertain known types i declared ns → AllBeside ns → Planned plan at (planned_conjuncts k outputs w s left ns) → (given : List Gift) (fullk : Env) → Going k bk outk seenk ns given fullk
        → (wt : Flat Hold) (Q : Hold → Env → Type 0) → ((end : Env) → Final (conjunct_gifts plan split course (site known types i declared program calls plan split course goals outputs w s out b seen here hold distinct free fit ready names_are single fine goes counts) hold k (placed_conjuncts at k outputs w s left ns) given) end → Like Q wt (Answer end Done))
        → Like Q (flats (kids known types i declared program calls plan split course goals outputs w s out b seen here hold distinct free fit ready names_are single fine goes counts at k left ns given) wt) (events (all_trace program calls ns fullk)) × AllSure (Shown program) (kids known types i declared program calls plan split course goals outputs w s out b seen here hold distinct free fit ready names_are single fine goes counts at k left ns given)
    kids_along no_nodes at k left bk outk seenk a q sounds certains onces fits given fullk g wt Q end = (
      end fullk (
        g.kept,
        λ one m.
            let f = fact_of goals outputs w s hold one m in
            let l = nth_high 1 f.0.producer f.1.0.maker goals f.1.0.is_maker in
            let e = a.counted in
            let p = f.1.1.1.0 in
            g.has_value one m (omega (arith, l, e, p)),
      ),
      tt,
    )
    kids_along (more_nodes n ns) at k left bk outk seenk a q sounds certains onces fits given fullk g wt Q end =
        let wn = waits known types i declared program calls plan split course goals outputs w s out b seen here hold distinct free fit ready names_are single fine goes counts at k left bk outk seenk n ns a q sounds.0 certains.0 given in
        let sn = signals known types i declared program calls plan split course goals outputs w s out b seen here hold distinct free fit ready names_are single fine goes counts at k left bk outk seenk n ns a q sounds.0 certains.0 given in
        let first = planned_left plan at (planned nothing wn sn n) (planned_conjuncts (suc k) outputs w s (left ++ outputs_of n) ns) fits in
        let more = planned_right plan at (forks n) (planned nothing wn sn n) (planned_conjuncts (suc k) outputs w s (left ++ outputs_of n) ns) (planned_count n nothing wn sn) fits in
        let td = kid known types i declared program calls plan split course goals outputs w s out b seen here hold distinct free fit ready names_are single fine goes counts at k left bk outk seenk n ns a q sounds.0 certains.0 given in
        let along = kid_along at k left bk outk seenk n ns a q sounds.0 certains.0 given fullk g first in
        let both = kid_both at k left bk outk seenk n ns a q sounds.0 certains.0 given fullk g first in
        let det = kid_det at k left bk outk seenk n ns a q sounds.0 certains.0 given fullk g first onces.0 in
        let one = kid_first at k left bk outk seenk n ns a q sounds.0 certains.0 given fullk g first in
        let R : Hold → Env → Type 0 = KidBoth at k left bk outk seenk n ns a q sounds.0 certains.0 given fullk g first in
        let P : Hold → Type 0 = KidFirst at k left bk outk seenk n ns a q sounds.0 certains.0 given fullk g first in
        let rest : BranchCourses = kids known types i declared program calls plan split course goals outputs w s out b seen here hold distinct free fit ready names_are single fine goes counts (at + forks n) (suc k) (left ++ outputs_of n) ns (given ++ gives td) in
        let rec : (e : Hold) (p : Env) → R e p → P e → Answers (flat td) → Like Q (flats rest wt) (events (all_trace program calls ns p)) × AllSure (Shown program) rest = λ e p l f ans.
        kids_along ns (at + forks n) (suc k) (left ++ outputs_of n) (with bk (among (outputs_of n))) (with outk (in_node n)) (handed (category_at n) (known_behind n seenk) seenk)
        (at_next goals outputs w s b here hold distinct free fit ready names_are single fine.exact k left bk n ns a) (sights_next known types i declared goals outputs w s out b seen here hold distinct free fit ready names_are single fine k left bk outk seenk n ns a q sounds.0 certains.0) sounds.1 certains.1 onces.1 more (given ++ gives td) p (going_next at k left bk outk seenk n ns a q sounds.0 certains.0 given fullk g first e p l f ans) wt Q end in (
          subst (λ z. Like Q (behind (flat td) (flats rest wt)) z) (sym (events_each (λ inner. all_trace program calls ns inner) (node_trace program calls n fullk)))
              (like_behind_first R Q P (λ p. events (all_trace program calls ns p)) (flat td) (events (node_trace program calls n fullk)) det (flats rest wt) both one (λ e p l f ans. (rec e p l f ans).0)),
          (
            along.1,
            (
              like_det R (flat td) (events (node_trace program calls n fullk)) both det,
              λ ans. let z = first_pair R P (flat td) (events (node_trace program calls n fullk)) both one ans in (rec z.0 z.1.0 z.1.1.0 z.1.1.1 ans).1,
            ),
          ),
        )
