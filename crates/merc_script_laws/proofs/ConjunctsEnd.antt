-- Behind all parallel conjuncts: what they gave, where they have all answered, is one value for each variable.
use Rattle.std.proofs.Common.{◌≡◌, ◌⊎◌, inl, inr, ℕ, suc, ◌+◌, ◌≤◌, true, false, ◌==◌, nat_eq, List, [], ◌++◌, length, Some, None, ap, sym, subst, ◌∙◌, arith}
use Rattle.merc_base.specs.Category.{most_of}
use Rattle.merc_base.specs.declared.category.Most.TheVariants.{Zero}
use Rattle.merc_tree.specs.declared.declarations.Module.{Module}
use Rattle.merc_graded_tree.specs.declared.basic.Procedure.{Procedure}
use Rattle.merc_graded_tree.specs.Nodes.{Node, Nodes, no_nodes, more_nodes, list_of, outputs_of}
use Rattle.merc_graded_tree.specs.Variables.{among, in_node, in_nodes}
use Rattle.merc_order.specs.Bound.{Bound, with}
use Rattle.merc_order_laws.specs.Bindings.{Variables}
use Rattle.merc_grading.specs.Categories.{conjunction_category}
use Rattle.merc_grading.specs.Known.{Known, known_behind}
use Rattle.merc_grading.specs.Grading.{category_at, categories}
use Rattle.merc_value.specs.Value.{Value}
use Rattle.merc_meaning.specs.Trace.{Env, Trace}
use Rattle.merc_meaning.specs.Runs.{Program}
use Rattle.merc_program_laws.specs.GoodPrograms.{AreGoodTypes}
use Rattle.merc_program_laws.proofs.Values.{Instance, same_some}
use Rattle.merc_program_laws.proofs.Maxima.{then_zero}
use Rattle.merc_core.specs.Rights.{has}
use Rattle.merc_core.specs.WellFormed.{AreDistinct}
use Rattle.merc_par_split.specs.Forks.{forks}
use Rattle.merc_rights.specs.Rights.{Right, users}
use Rattle.merc_par_split.specs.Sites.{are_for, planned, planned_conjuncts}
use Rattle.merc_par_split.specs.Split.{nothing, placed_conjuncts}
use Rattle.merc_rights.specs.declared.sites.SiteInfo.{SiteInfo}
use Rattle.merc_par_split.proofs.PlannedCounts.{planned_count}
use Rattle.merc_plan.specs.Branch.{Hold, NamedCell, BranchCourse, Gift, gift_at, gives, all_give}
use Rattle.merc_plan.specs.Hold.{child_for, conjunct_hold}
use Rattle.merc_plan.specs.Branches.{Plan, node_branch, conjunct_branches, conjunct_gifts}
use Rattle.merc_plan.proofs.Flat.{Answers}
use Rattle.merc_plan.proofs.Judging.{flat, AllAnswer, signals_to, Keeps}
use Rattle.merc_plan.proofs.Holds.{keeps_gives, keeps_only}
use Rattle.merc_plan.proofs.Sets.{tell, absent, same_number, append_all, append_none, look_past, look_before}
use Rattle.merc_script_laws.specs.Parallel.{all_outputs}
use Rattle.merc_script_laws.proofs.Bonds.{Set, signs, rights_for, Fit, Names, Ready, Planned}
use Rattle.merc_script_laws.proofs.Dets.{first_at}
use Rattle.merc_script_laws.proofs.Members.{Member}
use Rattle.merc_script_laws.proofs.Cells.{rights_signal}
use Rattle.merc_script_laws.proofs.Sites.{nth, same_some as same_node, first_nth, past_nth, nth_low}
use Rattle.merc_script_laws.proofs.Kids.{own, OwnSign, sign_cases, same_own, own_low, own_sign, moved_sign, signs_cell}
use Rattle.merc_script_laws.proofs.Conjuncts.{fork, at_next, names_k, own_right}
use Rattle.merc_script_laws.proofs.Sights.{FineFor, handed, Nonzero, AllSound, AllCertain, sights_next}
use Rattle.merc_script_laws.proofs.ConjunctsKeep.{planned_left, planned_right, EachGoes, Stands, Sees, Proper, site, kids, waits, signals, goal, same, kid_hold, kid, rights, may_wait, ProperOf, KidEnd, kid_uses, proper_next}

-- what is given in all
pub gifts_all : (plan : Plan) (split : Program) (course : Procedure → Hold → BranchCourse) (info : SiteInfo) (hold : Hold) (ns : Nodes) (k : ℕ) (given : List Gift)
    → conjunct_gifts plan split course info hold k ns given ≡ given ++ all_give (conjunct_branches plan split course info hold k ns given)
gifts_all plan split course info hold no_nodes k given = sym (append_none given)
gifts_all plan split course info hold (more_nodes n ns) k given =
    let td = node_branch plan split course n (conjunct_hold info k n hold given) in
    gifts_all plan split course info hold ns (suc k) (given ++ gives td) ∙ append_all given (gives td) (all_give (conjunct_branches plan split course info hold (suc k) ns (given ++ gives td)))

-- Given are the module, the types of the variables, and what type variables stand for.
module _ (known : Module) (types i : Instance) (declared : AreGoodTypes known.types) (program : Program) (calls : Procedure → Env → Trace) (plan : Plan) (split : Program) (course : Procedure → Hold → BranchCourse) where
  module _ (goals : Nodes) (outputs : List ℕ) (w s : List Right) (out : Variables) (b : Bound) (seen : Known) (here : Set) (hold : Hold) (distinct : AreDistinct (all_outputs goals)) (free : (x : ℕ) → has x (all_outputs goals) ≡ true → b x ≡ false)
      (fit : Fit b here w hold) (ready : Ready here w b (in_nodes goals)) (names_are : Names hold) (single : (x : ℕ) → are_for w x ≡ true → (length (users 1 goals x) == 1) ≡ true) (fine : FineFor known types i declared out b (in_nodes goals) seen w hold)
      (goes : EachGoes known types i declared program calls plan split course goals) (counts : (x : ℕ) → are_for s x ≡ true → length (rights_for x s) ≡ length (signs x hold)) where
    -- what is known behind all, and that what was given is proper there
    pub record AllEnd (given : List Gift) : Type 0 where
      pub number : ℕ
      pub left : List ℕ
      pub behind : Bound
      pub outside : Variables
      pub sight : Known
      pub sees : Sees known types i declared program calls plan split course goals outputs w s out b seen here hold distinct free fit ready names_are single fine goes counts number left behind outside sight no_nodes
      pub proper : Proper known types i declared program calls plan split course goals outputs w s out b seen here hold distinct free fit ready names_are single fine goes counts number sight given

    pub all_end : (ns : Nodes) (at k : ℕ) (left : List ℕ) (bk : Bound) (outk : Variables) (seenk : Known) → Stands known types i declared program calls plan split course goals outputs w s out b seen here hold distinct free fit ready names_are single fine goes counts k left bk ns → Sees known types i declared program calls plan split course goals outputs w s out b seen here hold distinct free fit ready names_are single fine goes counts k left bk outk seenk ns → AllSound known types i declared outk bk seenk ns → AllCertain known types i declared ns
        → Planned plan at (planned_conjuncts k outputs w s left ns) → (given : List Gift) → Proper known types i declared program calls plan split course goals outputs w s out b seen here hold distinct free fit ready names_are single fine goes counts k seenk given → AllEnd (conjunct_gifts plan split course (site known types i declared program calls plan split course goals outputs w s out b seen here hold distinct free fit ready names_are single fine goes counts) hold k (placed_conjuncts at k outputs w s left ns) given)
    all_end no_nodes at k left bk outk seenk a q sounds certains fits given proper = record { number = k; left = left; behind = bk; outside = outk; sight = seenk; sees = q; proper = proper }
    all_end (more_nodes n ns) at k left bk outk seenk a q sounds certains fits given proper =
        let wn = waits known types i declared program calls plan split course goals outputs w s out b seen here hold distinct free fit ready names_are single fine goes counts at k left bk outk seenk n ns a q sounds.0 certains.0 given in
        let sn = signals known types i declared program calls plan split course goals outputs w s out b seen here hold distinct free fit ready names_are single fine goes counts at k left bk outk seenk n ns a q sounds.0 certains.0 given in
        let first = planned_left plan at (planned nothing wn sn n) (planned_conjuncts (suc k) outputs w s (left ++ outputs_of n) ns) fits in
        let rest = planned_right plan at (forks n) (planned nothing wn sn n) (planned_conjuncts (suc k) outputs w s (left ++ outputs_of n) ns) (planned_count n nothing wn sn) fits in
        all_end ns (at + forks n) (suc k) (left ++ outputs_of n) (with bk (among (outputs_of n))) (with outk (in_node n)) (handed (category_at n) (known_behind n seenk) seenk)
        (at_next goals outputs w s b here hold distinct free fit ready names_are single fine.exact k left bk n ns a) (sights_next known types i declared goals outputs w s out b seen here hold distinct free fit ready names_are single fine k left bk outk seenk n ns a q sounds.0 certains.0) sounds.1 certains.1 rest (given ++ gives (kid known types i declared program calls plan split course goals outputs w s out b seen here hold distinct free fit ready names_are single fine goes counts at k left bk outk seenk n ns a q sounds.0 certains.0 given)) (proper_next known types i declared program calls plan split course goals outputs w s out b seen here hold distinct free fit ready names_are single fine goes counts at k left bk outk seenk n ns a q sounds.0 certains.0 given proper first)

    -- at the first answer of a conjunct
    module _ (at k : ℕ) (left : List ℕ) (bk : Bound) (outk : Variables) (seenk : Known) (n : Node) (ns : Nodes) (a : Stands known types i declared program calls plan split course goals outputs w s out b seen here hold distinct free fit ready names_are single fine goes counts k left bk (more_nodes n ns)) (q : Sees known types i declared program calls plan split course goals outputs w s out b seen here hold distinct free fit ready names_are single fine goes counts k left bk outk seenk (more_nodes n ns))
        (sounds : AllSound known types i declared outk bk seenk (more_nodes n ns)) (certains : AllCertain known types i declared (more_nodes n ns)) (given : List Gift) (proper : Proper known types i declared program calls plan split course goals outputs w s out b seen here hold distinct free fit ready names_are single fine goes counts k seenk given)
        (fits : Planned plan at (planned nothing (waits known types i declared program calls plan split course goals outputs w s out b seen here hold distinct free fit ready names_are single fine goes counts at k left bk outk seenk n ns a q sounds.0 certains.0 given) (signals known types i declared program calls plan split course goals outputs w s out b seen here hold distinct free fit ready names_are single fine goes counts at k left bk outk seenk n ns a q sounds.0 certains.0 given) n)) (ans : Answers (flat (kid known types i declared program calls plan split course goals outputs w s out b seen here hold distinct free fit ready names_are single fine goes counts at k left bk outk seenk n ns a q sounds.0 certains.0 given))) where
      keeps : Keeps (ProperOf known types i declared program calls plan split course goals outputs w s out b seen here hold distinct free fit ready names_are single fine goes counts at k left bk outk seenk n ns a q sounds.0 certains.0 given) (KidEnd known types i declared program calls plan split course goals outputs w s out b seen here hold distinct free fit ready names_are single fine goes counts at k left bk outk seenk n ns a q sounds.0 certains.0 given) (rights known types i declared program calls plan split course goals outputs w s out b seen here hold distinct free fit ready names_are single fine goes counts at k left bk outk seenk n ns a q sounds.0 certains.0 given) (may_wait known types i declared program calls plan split course goals outputs w s out b seen here hold distinct free fit ready names_are single fine goes counts at k left bk outk seenk n ns a q sounds.0 certains.0 given) [] (kid known types i declared program calls plan split course goals outputs w s out b seen here hold distinct free fit ready names_are single fine goes counts at k left bk outk seenk n ns a q sounds.0 certains.0 given)
      keeps = kid_uses known types i declared program calls plan split course goals outputs w s out b seen here hold distinct free fit ready names_are single fine goes counts at k left bk outk seenk n ns a q sounds.0 certains.0 given proper fits

      pub kid_end : (e : Hold) × ((h : List ℕ) × KidEnd known types i declared program calls plan split course goals outputs w s out b seen here hold distinct free fit ready names_are single fine goes counts at k left bk outk seenk n ns a q sounds.0 certains.0 given h (gives (kid known types i declared program calls plan split course goals outputs w s out b seen here hold distinct free fit ready names_are single fine goes counts at k left bk outk seenk n ns a q sounds.0 certains.0 given)) e)
      kid_end = first_at (λ e. (h : List ℕ) × KidEnd known types i declared program calls plan split course goals outputs w s out b seen here hold distinct free fit ready names_are single fine goes counts at k left bk outk seenk n ns a q sounds.0 certains.0 given h (gives (kid known types i declared program calls plan split course goals outputs w s out b seen here hold distinct free fit ready names_are single fine goes counts at k left bk outk seenk n ns a q sounds.0 certains.0 given)) e) (flat (kid known types i declared program calls plan split course goals outputs w s out b seen here hold distinct free fit ready names_are single fine goes counts at k left bk outk seenk n ns a q sounds.0 certains.0 given)) (keeps_gives (ProperOf known types i declared program calls plan split course goals outputs w s out b seen here hold distinct free fit ready names_are single fine goes counts at k left bk outk seenk n ns a q sounds.0 certains.0 given) (KidEnd known types i declared program calls plan split course goals outputs w s out b seen here hold distinct free fit ready names_are single fine goes counts at k left bk outk seenk n ns a q sounds.0 certains.0 given) (rights known types i declared program calls plan split course goals outputs w s out b seen here hold distinct free fit ready names_are single fine goes counts at k left bk outk seenk n ns a q sounds.0 certains.0 given) (kid known types i declared program calls plan split course goals outputs w s out b seen here hold distinct free fit ready names_are single fine goes counts at k left bk outk seenk n ns a q sounds.0 certains.0 given) (may_wait known types i declared program calls plan split course goals outputs w s out b seen here hold distinct free fit ready names_are single fine goes counts at k left bk outk seenk n ns a q sounds.0 certains.0 given) [] keeps) ans

      pub kid_some : Nonzero (category_at n)
      kid_some = kid_end.1.1.reached

      pub kid_only : (c : ℕ) → rights known types i declared program calls plan split course goals outputs w s out b seen here hold distinct free fit ready names_are single fine goes counts at k left bk outk seenk n ns a q sounds.0 certains.0 given c ≡ false → gift_at c (gives (kid known types i declared program calls plan split course goals outputs w s out b seen here hold distinct free fit ready names_are single fine goes counts at k left bk outk seenk n ns a q sounds.0 certains.0 given)) ≡ None
      kid_only c h = keeps_only (ProperOf known types i declared program calls plan split course goals outputs w s out b seen here hold distinct free fit ready names_are single fine goes counts at k left bk outk seenk n ns a q sounds.0 certains.0 given) (KidEnd known types i declared program calls plan split course goals outputs w s out b seen here hold distinct free fit ready names_are single fine goes counts at k left bk outk seenk n ns a q sounds.0 certains.0 given) (rights known types i declared program calls plan split course goals outputs w s out b seen here hold distinct free fit ready names_are single fine goes counts at k left bk outk seenk n ns a q sounds.0 certains.0 given) (kid known types i declared program calls plan split course goals outputs w s out b seen here hold distinct free fit ready names_are single fine goes counts at k left bk outk seenk n ns a q sounds.0 certains.0 given) (may_wait known types i declared program calls plan split course goals outputs w s out b seen here hold distinct free fit ready names_are single fine goes counts at k left bk outk seenk n ns a q sounds.0 certains.0 given) [] keeps ans c h

      -- what it gives through a cell of its own for a variable that it binds
      pub kid_gave : (x : ℕ) → among (outputs_of n) x ≡ true → (v : Value) × ((c : ℕ) → has c (signs x (kid_hold known types i declared program calls plan split course goals outputs w s out b seen here hold distinct free fit ready names_are single fine goes counts at k left bk outk seenk n ns a q sounds.0 certains.0 given)) ≡ true → gift_at c (gives (kid known types i declared program calls plan split course goals outputs w s out b seen here hold distinct free fit ready names_are single fine goes counts at k left bk outk seenk n ns a q sounds.0 certains.0 given)) ≡ Some (Some v))
      kid_gave x o =
          let u = kid_end.1.1 in
          let f = u.moves.fresh x o in (
            f.0,
            λ c h.
                let r = own_right goals outputs w s b here hold distinct free fit ready names_are single fine.exact k left bk n ns a (goal known types i declared program calls plan split course goals outputs w s out b seen here hold distinct free fit ready names_are single fine goes counts at k left bk outk seenk n ns a q sounds.0 certains.0 given) (same known types i declared program calls plan split course goals outputs w s out b seen here hold distinct free fit ready names_are single fine goes counts at k left bk outk seenk n ns a q sounds.0 certains.0 given) given counts c
                (subst (λ l. has c l ≡ true) (sym (rights_signal (site known types i declared program calls plan split course goals outputs w s out b seen here hold distinct free fit ready names_are single fine goes counts) goals k (goal known types i declared program calls plan split course goals outputs w s out b seen here hold distinct free fit ready names_are single fine goes counts at k left bk outk seenk n ns a q sounds.0 certains.0 given) hold given)) (signs_cell (kid_hold known types i declared program calls plan split course goals outputs w s out b seen here hold distinct free fit ready names_are single fine goes counts at k left bk outk seenk n ns a q sounds.0 certains.0 given) x c h)) in
                let is = (names_k goals outputs w s b here hold distinct free fit ready names_are single fine.exact k left bk n ns a (goal known types i declared program calls plan split course goals outputs w s out b seen here hold distinct free fit ready names_are single fine goes counts at k left bk outk seenk n ns a q sounds.0 certains.0 given) (same known types i declared program calls plan split course goals outputs w s out b seen here hold distinct free fit ready names_are single fine goes counts at k left bk outk seenk n ns a q sounds.0 certains.0 given) given).apart r.0 x c r.1.1 h in
                let v = u.gave x c (subst (λ z. are_for (signals known types i declared program calls plan split course goals outputs w s out b seen here hold distinct free fit ready names_are single fine goes counts at k left bk outk seenk n ns a q sounds.0 certains.0 given) z ≡ true) is r.1.0) h in
                v.1.0 ∙ ap (λ z. Some (Some z)) (same_some (sym v.1.1 ∙ f.1)),
          )

    pub kids_some : (ns : Nodes) (at k : ℕ) (left : List ℕ) (bk : Bound) (outk : Variables) (seenk : Known) → Stands known types i declared program calls plan split course goals outputs w s out b seen here hold distinct free fit ready names_are single fine goes counts k left bk ns → Sees known types i declared program calls plan split course goals outputs w s out b seen here hold distinct free fit ready names_are single fine goes counts k left bk outk seenk ns → AllSound known types i declared outk bk seenk ns → AllCertain known types i declared ns
        → Planned plan at (planned_conjuncts k outputs w s left ns) → (given : List Gift) → Proper known types i declared program calls plan split course goals outputs w s out b seen here hold distinct free fit ready names_are single fine goes counts k seenk given → AllAnswer (kids known types i declared program calls plan split course goals outputs w s out b seen here hold distinct free fit ready names_are single fine goes counts at k left ns given) → Nonzero (conjunction_category (categories (list_of ns)))
    kids_some no_nodes at k left bk outk seenk a q sounds certains fits given proper ans z = none z where
      none : most_of (conjunction_category []) ≡ Zero → ⊥
      none e = absurd (cc)
    kids_some (more_nodes n ns) at k left bk outk seenk a q sounds certains fits given proper ans z =
        let wn = waits known types i declared program calls plan split course goals outputs w s out b seen here hold distinct free fit ready names_are single fine goes counts at k left bk outk seenk n ns a q sounds.0 certains.0 given in
        let sn = signals known types i declared program calls plan split course goals outputs w s out b seen here hold distinct free fit ready names_are single fine goes counts at k left bk outk seenk n ns a q sounds.0 certains.0 given in
        let first = planned_left plan at (planned nothing wn sn n) (planned_conjuncts (suc k) outputs w s (left ++ outputs_of n) ns) fits in
        let rest = planned_right plan at (forks n) (planned nothing wn sn n) (planned_conjuncts (suc k) outputs w s (left ++ outputs_of n) ns) (planned_count n nothing wn sn) fits in
        elim (then_zero (category_at n) (conjunction_category (categories (list_of ns))) z) as (λ _. ⊥) [
          | inl h ↦ kid_some at k left bk outk seenk n ns a q sounds certains given proper first ans.0 h
          | inr h ↦ kids_some ns (at + forks n) (suc k) (left ++ outputs_of n) (with bk (among (outputs_of n))) (with outk (in_node n)) (handed (category_at n) (known_behind n seenk) seenk)
              (at_next goals outputs w s b here hold distinct free fit ready names_are single fine.exact k left bk n ns a) (sights_next known types i declared goals outputs w s out b seen here hold distinct free fit ready names_are single fine k left bk outk seenk n ns a q sounds.0 certains.0) sounds.1 certains.1 rest (given ++ gives (kid known types i declared program calls plan split course goals outputs w s out b seen here hold distinct free fit ready names_are single fine goes counts at k left bk outk seenk n ns a q sounds.0 certains.0 given)) (proper_next known types i declared program calls plan split course goals outputs w s out b seen here hold distinct free fit ready names_are single fine goes counts at k left bk outk seenk n ns a q sounds.0 certains.0 given proper first) ans.1 h
        ]

    -- a cell through which a conjunct signals a variable
    abbrev pub SignsFor : ℕ → ℕ → ℕ → Type 0
    SignsFor j x c = ((one : NamedCell) × (Member one (own goals outputs w s hold) × ((one.producer ≡ j) × ((one.variable ≡ x) × (one.cell ≡ c))))) ⊎ ((child_for true x (site known types i declared program calls plan split course goals outputs w s out b seen here hold distinct free fit ready names_are single fine goes counts).moves ≡ Some j) × (has c (signs x hold) ≡ true))

    number : (j k : ℕ) → Some j ≡ Some k → j ≡ k
    number j k e = cc

    pub kids_gave : (ns : Nodes) (at k : ℕ) (left : List ℕ) (bk : Bound) (outk : Variables) (seenk : Known) → Stands known types i declared program calls plan split course goals outputs w s out b seen here hold distinct free fit ready names_are single fine goes counts k left bk ns → Sees known types i declared program calls plan split course goals outputs w s out b seen here hold distinct free fit ready names_are single fine goes counts k left bk outk seenk ns → AllSound known types i declared outk bk seenk ns → AllCertain known types i declared ns
        → Planned plan at (planned_conjuncts k outputs w s left ns) → (given : List Gift) → Proper known types i declared program calls plan split course goals outputs w s out b seen here hold distinct free fit ready names_are single fine goes counts k seenk given → AllAnswer (kids known types i declared program calls plan split course goals outputs w s out b seen here hold distinct free fit ready names_are single fine goes counts at k left ns given) → (j : ℕ) (m : Node) (x : ℕ) → nth k j ns ≡ Some m → among (outputs_of m) x ≡ true
        → (v : Value) × ((c : ℕ) → SignsFor j x c → gift_at c (all_give (kids known types i declared program calls plan split course goals outputs w s out b seen here hold distinct free fit ready names_are single fine goes counts at k left ns given)) ≡ Some (Some v))
    kids_gave no_nodes at k left bk outk seenk a q sounds certains fits given proper ans j m x p o = absurd (cc)
    kids_gave (more_nodes n ns) at k left bk outk seenk a q sounds certains fits given proper ans j m x p o =
        let wn = waits known types i declared program calls plan split course goals outputs w s out b seen here hold distinct free fit ready names_are single fine goes counts at k left bk outk seenk n ns a q sounds.0 certains.0 given in
        let sn = signals known types i declared program calls plan split course goals outputs w s out b seen here hold distinct free fit ready names_are single fine goes counts at k left bk outk seenk n ns a q sounds.0 certains.0 given in
        let first = planned_left plan at (planned nothing wn sn n) (planned_conjuncts (suc k) outputs w s (left ++ outputs_of n) ns) fits in
        let rest = planned_right plan at (forks n) (planned nothing wn sn n) (planned_conjuncts (suc k) outputs w s (left ++ outputs_of n) ns) (planned_count n nothing wn sn) fits in
        on first (tell (nat_eq j k))
        (λ r. kids_gave ns (at + forks n) (suc k) (left ++ outputs_of n) (with bk (among (outputs_of n))) (with outk (in_node n)) (handed (category_at n) (known_behind n seenk) seenk)
        (at_next goals outputs w s b here hold distinct free fit ready names_are single fine.exact k left bk n ns a) (sights_next known types i declared goals outputs w s out b seen here hold distinct free fit ready names_are single fine k left bk outk seenk n ns a q sounds.0 certains.0) sounds.1 certains.1 rest (given ++ gives (kid known types i declared program calls plan split course goals outputs w s out b seen here hold distinct free fit ready names_are single fine goes counts at k left bk outk seenk n ns a q sounds.0 certains.0 given)) (proper_next known types i declared program calls plan split course goals outputs w s out b seen here hold distinct free fit ready names_are single fine goes counts at k left bk outk seenk n ns a q sounds.0 certains.0 given proper first) ans.1 j m x r o) where
          td : BranchCourse
          td = kid known types i declared program calls plan split course goals outputs w s out b seen here hold distinct free fit ready names_are single fine goes counts at k left bk outk seenk n ns a q sounds.0 certains.0 given

          more : List Gift
          more = all_give (kids known types i declared program calls plan split course goals outputs w s out b seen here hold distinct free fit ready names_are single fine goes counts (at + forks n) (suc k) (left ++ outputs_of n) ns (given ++ gives td))

          sign_here : (c : ℕ) → SignsFor k x c → has c (signs x (kid_hold known types i declared program calls plan split course goals outputs w s out b seen here hold distinct free fit ready names_are single fine goes counts at k left bk outk seenk n ns a q sounds.0 certains.0 given)) ≡ true
          sign_here c (inl r) = subst (λ y. has y (signs x (kid_hold known types i declared program calls plan split course goals outputs w s out b seen here hold distinct free fit ready names_are single fine goes counts at k left bk outk seenk n ns a q sounds.0 certains.0 given)) ≡ true) r.1.1.1.1 (subst (λ y. has r.0.cell (signs y (kid_hold known types i declared program calls plan split course goals outputs w s out b seen here hold distinct free fit ready names_are single fine goes counts at k left bk outk seenk n ns a q sounds.0 certains.0 given)) ≡ true) r.1.1.1.0 (own_sign goals outputs w s hold k (goal known types i declared program calls plan split course goals outputs w s out b seen here hold distinct free fit ready names_are single fine goes counts at k left bk outk seenk n ns a q sounds.0 certains.0 given) given r.0 r.1.0 r.1.1.0))
          sign_here c (inr r) = moved_sign goals outputs w s hold k (goal known types i declared program calls plan split course goals outputs w s out b seen here hold distinct free fit ready names_are single fine goes counts at k left bk outk seenk n ns a q sounds.0 certains.0 given) given x c r.0 r.1

          away : (c : ℕ) → suc k ≤ j → SignsFor j x c → rights known types i declared program calls plan split course goals outputs w s out b seen here hold distinct free fit ready names_are single fine goes counts at k left bk outk seenk n ns a q sounds.0 certains.0 given c ≡ false
          away c l r = absent c (signals_to k (fork goals outputs w s b here hold distinct free fit ready names_are single fine.exact)) (λ h.
              let u = own_right goals outputs w s b here hold distinct free fit ready names_are single fine.exact k left bk n ns a (goal known types i declared program calls plan split course goals outputs w s out b seen here hold distinct free fit ready names_are single fine goes counts at k left bk outk seenk n ns a q sounds.0 certains.0 given) (same known types i declared program calls plan split course goals outputs w s out b seen here hold distinct free fit ready names_are single fine goes counts at k left bk outk seenk n ns a q sounds.0 certains.0 given) given counts c h in clashes u.0 r (sign_cases goals outputs w s hold k (goal known types i declared program calls plan split course goals outputs w s out b seen here hold distinct free fit ready names_are single fine goes counts at k left bk outk seenk n ns a q sounds.0 certains.0 given) given u.0 c u.1.1)) where
                clashes : (y : ℕ) → SignsFor j x c → OwnSign goals outputs w s hold k (goal known types i declared program calls plan split course goals outputs w s out b seen here hold distinct free fit ready names_are single fine goes counts at k left bk outk seenk n ns a q sounds.0 certains.0 given) given y c ⊎ ((child_for true y (site known types i declared program calls plan split course goals outputs w s out b seen here hold distinct free fit ready names_are single fine goes counts).moves ≡ Some k) × (has c (signs y hold) ≡ true)) → ⊥
                clashes y (inl (one, (m, (e, (v, d))))) (inl z) =
                    let same_one = same_own goals outputs w s hold one z.one m z.there (d ∙ sym z.cell) in
                    let f = sym e ∙ ap (λ (t : NamedCell). t.producer) same_one ∙ z.producer in absurd (omega (arith, f, l))
                clashes y (inl (one, (m, (e, (v, d))))) (inr z) = let g = own_low goals outputs w s hold one m in let h = names_are.low y c z.1 in absurd (omega (arith, g, h, d))
                clashes y (inr z) (inl g) = let t = own_low goals outputs w s hold g.one g.there in let h = names_are.low x c z.1 in let d = g.cell in absurd (omega (arith, t, h, d))
                clashes y (inr z) (inr g) =
                    let f = number j k (sym z.0 ∙ subst (λ t. child_for true t (site known types i declared program calls plan split course goals outputs w s out b seen here hold distinct free fit ready names_are single fine goes counts).moves ≡ Some k) (names_are.apart y x c g.1 z.1) g.0) in absurd (omega (arith, f, l))

          on : Planned plan at (planned nothing (waits known types i declared program calls plan split course goals outputs w s out b seen here hold distinct free fit ready names_are single fine goes counts at k left bk outk seenk n ns a q sounds.0 certains.0 given) (signals known types i declared program calls plan split course goals outputs w s out b seen here hold distinct free fit ready names_are single fine goes counts at k left bk outk seenk n ns a q sounds.0 certains.0 given) n) → (nat_eq j k ≡ true) ⊎ (nat_eq j k ≡ false)
              → (nth (suc k) j ns ≡ Some m → (v : Value) × ((c : ℕ) → SignsFor j x c → gift_at c more ≡ Some (Some v))) → (v : Value) × ((c : ℕ) → SignsFor j x c → gift_at c (gives td ++ more) ≡ Some (Some v))
          on first (inl e) rec =
              let jk = same_number j k e in
              let is = same_node m n (sym p ∙ ap (λ z. nth k z (more_nodes n ns)) jk ∙ first_nth k n ns) in
              let g = kid_gave at k left bk outk seenk n ns a q sounds certains given proper first ans.0 x (subst (λ z. among (outputs_of z) x ≡ true) is o) in
              (g.0, λ c h. look_before c (Some g.0) (gives td) more (g.1 c (sign_here c (subst (λ z. SignsFor z x c) jk h))))
          on first (inr e) rec =
              let r = sym (past_nth k j n ns e) ∙ p in
              let g = rec r in
              (g.0, λ c h. look_past c (gives td) more (kid_only at k left bk outk seenk n ns a q sounds certains given proper first ans.0 c (away c (nth_low (suc k) j m ns r) h)) ∙ g.1 c h)
