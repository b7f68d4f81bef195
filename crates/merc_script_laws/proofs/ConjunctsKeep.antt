-- Each parallel conjunct keeps to its rights, whatever those to its left gave.
use Rattle.std.proofs.Common.{◌≡◌, ◌≢◌, ◌⊎◌, inl, inr, ℕ, zero, suc, ◌+◌, ◌<◌, Bool, true, false, ◌==◌, List, [], ◌∷◌, ◌++◌, length, Option, Some, None, slice_get, ap, sym, subst, ◌∙◌, arith}
use Rattle.merc_base.specs.Category.{can_fail_of, most_of}
use Rattle.merc_base.specs.declared.category.Most.TheVariants.{Zero}
use Rattle.merc_tree.specs.Types.{replaced}
use Rattle.merc_tree.specs.declared.declarations.Module.{Module}
use Rattle.merc_goal_tree.specs.declared.goal.Symbol.{Symbol}
use Rattle.merc_graded_tree.specs.declared.basic.Procedure.{Procedure}
use Rattle.merc_graded_tree.specs.Nodes.{Node, Nodes, no_nodes, more_nodes, list_of, outputs_of}
use Rattle.merc_graded_tree.specs.Variables.{among, in_node, in_nodes}
use Rattle.merc_order.specs.Bound.{Bound, with}
use Rattle.merc_order.specs.Procedures.{modes_of}
use Rattle.merc_order_laws.specs.Bindings.{Variables}
use Rattle.merc_grading.specs.Categories.{conjunction_category}
use Rattle.merc_grading.specs.Known.{Known, known_of, known_behind, known_behind_all}
use Rattle.merc_grading.specs.Grading.{category_at, categories}
use Rattle.merc_value.specs.Value.{Value, Values}
use Rattle.merc_meaning.specs.Trace.{Env, Trace}
use Rattle.merc_meaning.specs.Values.{fields}
use Rattle.merc_meaning.specs.Runs.{Program}
use Rattle.merc_program_laws.specs.ValueTypes.{HasType}
use Rattle.merc_program_laws.specs.GoodPrograms.{AreGoodTypes}
use Rattle.merc_program_laws.proofs.Values.{Instance}
use Rattle.merc_core.specs.Rights.{has}
use Rattle.merc_core.specs.WellFormed.{AreDistinct}
use Rattle.merc_par_split.specs.Forks.{forks}
use Rattle.merc_rights.specs.Rights.{Right, used_in, users}
use Rattle.merc_par_split.specs.Sites.{are_for, planned, planned_conjuncts}
use Rattle.merc_par_split.specs.Split.{nothing, placed, placed_conjuncts}
use Rattle.merc_rights.specs.declared.sites.SiteInfo.{SiteInfo}
use Rattle.merc_par_split.proofs.PlannedCounts.{planned_count}
use Rattle.merc_plan.specs.Branch.{Hold, NamedCell, BranchCourse, BranchCourses, names, Gift, gift_at, gives}
use Rattle.merc_plan.specs.Hold.{child_for, fork_of}
use Rattle.merc_plan.specs.Branches.{Plan, node_branch, conjunct_branches}
use Rattle.merc_plan.proofs.Judging.{signals_to, waits_to, Whole, Keeps, AllKeep}
use Rattle.merc_plan.proofs.Holds.{keeps_end, keeps_weaker, gives_proper}
use Rattle.merc_plan.proofs.Sets.{clash, in_left, or_left, or_right}
use Rattle.merc_script_laws.specs.Parallel.{all_outputs}
use Rattle.merc_script_laws.proofs.Bonds.{Set, signs, rights_for, Within, AllUsed, Fit, Names, Ready, After, Used, Planned, Sound, Goes}
use Rattle.merc_script_laws.proofs.RightLists.{those_in}
use Rattle.merc_script_laws.proofs.Members.{is_numbered, distinct_apart}
use Rattle.merc_script_laws.proofs.Sites.{has_among, nth, bound_by}
use Rattle.merc_script_laws.proofs.SiteMoves.{good_occurs, signal_child}
use Rattle.merc_program_laws.proofs.Maxima.{then_is_zero}
use Rattle.merc_script_laws.proofs.Counts.{all_signals, signals_within}
use Rattle.merc_script_laws.proofs.StaticKnown.{KnownBefore}
use Rattle.merc_script_laws.proofs.Placed.{in_placed}
use Rattle.merc_script_laws.proofs.Kids.{info, own, fact_of, OwnSign, sign_cases, same_own, own_low}
use Rattle.merc_script_laws.proofs.Conjuncts.{rights_to, fork, At, at_next, here_k, hold_k, this_one, binds_sign, names_k, fit_k, ready_k, rightful_k, own_right}
use Rattle.merc_script_laws.proofs.Sights.{FineFor, handed, Nonzero, zero_or, gift_sides, AllSound, AllCertain, from_static, static_rest, Sights, sights_next, next_static, AreProper, fine_k}

-- sites one behind the other
listed_left : {A : Type 0} (xs ys : List A) (k : ℕ) (x : A) → slice_get xs k ≡ Some x → slice_get (xs ++ ys) k ≡ Some x
listed_left [] ys k x h = absurd (cc)
listed_left (y ∷ xs) ys zero x h = h
listed_left (y ∷ xs) ys (suc k) x h = listed_left xs ys k x h

listed_right : {A : Type 0} (xs ys : List A) (k : ℕ) (x : A) → slice_get ys k ≡ Some x → slice_get (xs ++ ys) (length xs + k) ≡ Some x
listed_right [] ys k x h = let e : k ≡ 0 + k = omega (arith) in subst (λ z. slice_get ys z ≡ Some x) e h
listed_right (y ∷ xs) ys k x h = let e : suc (length xs + k) ≡ suc (length xs) + k = omega (arith) in subst (λ z. slice_get (y ∷ (xs ++ ys)) z ≡ Some x) e (listed_right xs ys k x h)

pub planned_left : (plan : Plan) (site : ℕ) (xs ys : List SiteInfo) → Planned plan site (xs ++ ys) → Planned plan site xs
planned_left plan site xs ys p k x h = p k x (listed_left xs ys k x h)

pub planned_right : (plan : Plan) (site n : ℕ) (xs ys : List SiteInfo) → length xs ≡ n → Planned plan site (xs ++ ys) → Planned plan (site + n) ys
planned_right plan site n xs ys e p k x h = let q : site + (length xs + k) ≡ site + n + k = omega (arith, e) in subst (λ z. plan z ≡ Some x) q (p (length xs + k) x (listed_right xs ys k x h))

some_not : {A : Type 0} (o : Option A) (a : A) → o ≡ Some a → o ≢ None
some_not o a e h = absurd (cc)

-- Given are the module, the types of the variables, and what type variables stand for.
module _ (known : Module) (types i : Instance) (declared : AreGoodTypes known.types) (program : Program) (calls : Procedure → Env → Trace) (plan : Plan) (split : Program) (course : Procedure → Hold → BranchCourse) where
  -- each conjunct does what it should, from any site on
  abbrev pub EachGoes : Nodes → Type 1
  EachGoes goals = (k : ℕ) (n : Node) → nth 1 k goals ≡ Some n → (site : ℕ)
      → Goes known types i program calls plan split course n (λ later v z. placed site later v z n) (λ later v z. Planned plan site (planned later v z n))

  module _ (goals : Nodes) (outputs : List ℕ) (w s : List Right) (out : Variables) (b : Bound) (seen : Known) (here : Set) (hold : Hold) (distinct : AreDistinct (all_outputs goals)) (free : (x : ℕ) → has x (all_outputs goals) ≡ true → b x ≡ false)
      (fit : Fit b here w hold) (ready : Ready here w b (in_nodes goals)) (names_are : Names hold) (single : (x : ℕ) → are_for w x ≡ true → (length (users 1 goals x) == 1) ≡ true) (fine : FineFor known types i declared out b (in_nodes goals) seen w hold)
      (goes : EachGoes goals) (counts : (x : ℕ) → are_for s x ≡ true → length (rights_for x s) ≡ length (signs x hold)) where
    abbrev pub Stands : ℕ → List ℕ → Bound → Nodes → Type 0
    Stands k left bk ns = At goals outputs w s b here hold distinct free fit ready names_are single fine.exact k left bk ns

    abbrev pub Sees : ℕ → List ℕ → Bound → Variables → Known → Nodes → Type 0
    Sees k left bk outk seenk ns = Sights known types i declared goals outputs w s out b seen here hold distinct free fit ready names_are single fine k left bk outk seenk ns

    abbrev pub Proper : ℕ → Known → List Gift → Type 0
    Proper k seenk given = AreProper known types i declared goals outputs w s out b seen here hold distinct free fit ready names_are single fine k seenk given

    abbrev pub site : SiteInfo
    site = info goals outputs w s hold

    abbrev pub kids : ℕ → ℕ → List ℕ → Nodes → List Gift → BranchCourses
    kids at k left ns given = conjunct_branches plan split course site hold k (placed_conjuncts at k outputs w s left ns) given

    module _ (at k : ℕ) (left : List ℕ) (bk : Bound) (outk : Variables) (seenk : Known) (n : Node) (ns : Nodes) (a : Stands k left bk (more_nodes n ns)) (q : Sees k left bk outk seenk (more_nodes n ns))
        (sound : Sound known types i (with outk (in_nodes ns)) bk seenk n) (certain : can_fail_of (category_at n) ≡ false) (given : List Gift) where
      abbrev pub waits : List Right
      waits = used_in n (rights_to k left ++ w)

      abbrev pub signals : List Right
      signals = all_signals (suc k) ns outputs s n

      abbrev pub goal : Node
      goal = placed at nothing waits signals n

      pub all_used : AllUsed waits (in_node n)
      all_used x h = (those_in (in_node n) (rights_to k left ++ w) x h).1

      pub is_within : Within signals (outputs_of n)
      is_within x h = has_among x (outputs_of n) (signals_within (suc k) ns outputs s n x h)

      pub same : (x : ℕ) → in_node goal x ≡ in_node n x
      same x = in_placed (modes_of known.preds) n (with outk (in_nodes ns)) bk sound.good at nothing waits signals all_used is_within x

      abbrev pub kid_hold : Hold
      kid_hold = hold_k goals outputs w s b here hold distinct free fit ready names_are single fine.exact k left bk n ns a goal same given

      abbrev pub kid : BranchCourse
      kid = node_branch plan split course goal kid_hold

      abbrev pub rights : ℕ → Bool
      rights c = has c (signals_to k (fork goals outputs w s b here hold distinct free fit ready names_are single fine.exact))

      abbrev pub may_wait : List ℕ
      may_wait = waits_to k (fork goals outputs w s b here hold distinct free fit ready names_are single fine.exact)

      abbrev pub kid_here : Set
      kid_here = here_k goals outputs w s b here hold distinct free fit ready names_are single fine.exact k left bk n ns a goal same given

      -- what it gives is of a variable that it signals, of its type, and has the symbol that is known of it where it can answer
      abbrev pub ProperOf : ℕ → Value → Type 0
      ProperOf c v = (x : ℕ) × ((are_for signals x ≡ true) × ((has c (signs x kid_hold) ≡ true) × (HasType known.types v (replaced i (types x))
          × (Nonzero (category_at n) → (sy : Symbol) → known_of (known_behind n seenk) x ≡ Some sy → (vs : Values) × (fields sy v ≡ Some vs)))))

      abbrev pub KidEnd : List ℕ → List Gift → Hold → Type 0
      KidEnd = Used (After known types i (with outk (in_nodes ns)) bk (outputs_of n) (in_node n) seenk (known_behind n seenk) kid_hold) (most_of (category_at n) ≡ Zero) kid_here waits signals nothing (outputs_of n) kid_hold may_wait []

      module _ (proper : Proper k seenk given) (fits : Planned plan at (planned nothing waits signals n)) where
        pub kid_uses : Keeps ProperOf KidEnd rights may_wait [] kid
        kid_uses = (goes k n (this_one goals outputs w s b here hold distinct free fit ready names_are single fine.exact k left bk n ns a goal same given) at).uses nothing waits signals (with outk (in_nodes ns)) bk seenk kid_here kid_hold
            rights may_wait [] ProperOf (λ x c v h j t f. (x, (h, (j, (t, f))))) fits all_used sound certain
            (fine_k known types i declared goals outputs w s out b seen here hold distinct free fit ready names_are single fine k left bk outk seenk n ns a q goal same given proper)
            (fit_k goals outputs w s b here hold distinct free fit ready names_are single fine.exact k left bk n ns a goal same given)
            (ready_k goals outputs w s b here hold distinct free fit ready names_are single fine.exact k left bk n ns a goal same given)
            (names_k goals outputs w s b here hold distinct free fit ready names_are single fine.exact k left bk n ns a goal same given)
            (rightful_k goals outputs w s b here hold distinct free fit ready names_are single fine.exact k left bk n ns a goal same given counts)

        -- what it gives of own cells
        pub proper_next : Proper (suc k) (handed (category_at n) (known_behind n seenk) seenk) (given ++ gives kid)
        proper_next one m v e = on (gift_sides one.cell v given (gives kid) e) where
          before : one.producer < k → bk one.variable ≡ true
          before l = let f = fact_of goals outputs w s hold one m in
              a.lefts one.variable (subst (λ z. has z left ≡ true) (sym f.1.1.0) (a.made_left f.0.producer f.1.0.maker f.0.variable (subst (λ z. z < k) f.1.1.1.0 l) f.1.0.is_maker f.1.0.binds))

          old : (one.producer < k) × (HasType known.types v (replaced i (types one.variable)) × ((sy : Symbol) → known_of seenk one.variable ≡ Some sy → (vs : Values) × (fields sy v ≡ Some vs)))
              → (one.producer < suc k) × (HasType known.types v (replaced i (types one.variable)) × ((sy : Symbol) → known_of (handed (category_at n) (known_behind n seenk) seenk) one.variable ≡ Some sy → (vs : Values) × (fields sy v ≡ Some vs)))
          old p = (
            let l = p.0 in omega (arith, l),
            (
              p.1.0,
              λ sy h. from_static known types i declared seenk one.variable sy v
                  (next_static known types i declared goals outputs w s out b seen here hold distinct free fit ready names_are single fine k left bk outk seenk n ns a q sound certain one.variable sy (λ j. before p.0) h) p.1.0 (λ z. p.1.1 sy z),
            ),
          )

          unbound : (x : ℕ) → has x (outputs_of n) ≡ true → bk x ≡ true → ⊥
          unbound x h l = side (a.either x l) where
            side : (b x ≡ true) ⊎ (has x left ≡ true) → ⊥
            side (inl z) = clash (b x) z (free x (bound_by 1 k x n goals (this_one goals outputs w s b here hold distinct free fit ready names_are single fine.exact k left bk n ns a goal same given) (has_among x (outputs_of n) h)))
            side (inr z) = distinct_apart x left (all_outputs (more_nodes n ns)) a.split z (in_left x (outputs_of n) (all_outputs ns) h)

          made_here : (x : ℕ) → has x (outputs_of n) ≡ true → HasType known.types v (replaced i (types x)) → (Nonzero (category_at n) → (sy : Symbol) → known_of (known_behind n seenk) x ≡ Some sy → (vs : Values) × (fields sy v ≡ Some vs)) → one.producer ≡ k → x ≡ one.variable
              → (one.producer < suc k) × (HasType known.types v (replaced i (types one.variable)) × ((sy : Symbol) → known_of (handed (category_at n) (known_behind n seenk) seenk) one.variable ≡ Some sy → (vs : Values) × (fields sy v ≡ Some vs)))
          made_here x o t f p e = (omega (arith, p), (subst (λ z. HasType known.types v (replaced i (types z))) e t, λ sy h. knows sy (subst (λ z. known_of (handed (category_at n) (known_behind n seenk) seenk) z ≡ Some sy) (sym e) h) (zero_or (category_at n) (known_behind n seenk) seenk))) where
            knows : (sy : Symbol) → known_of (handed (category_at n) (known_behind n seenk) seenk) x ≡ Some sy
                → (handed (category_at n) (known_behind n seenk) seenk ≡ seenk) × (most_of (category_at n) ≡ Zero) ⊎ ((handed (category_at n) (known_behind n seenk) seenk ≡ known_behind n seenk) × Nonzero (category_at n)) → (vs : Values) × (fields sy v ≡ Some vs)
            knows sy h (inl z) = absurd (unbound x o (q.bound x sy (or_left (in_node n x) (in_nodes ns x) (good_occurs (modes_of known.preds) (with outk (in_nodes ns)) bk n sound.good x (has_among x (outputs_of n) o)))
                (subst (λ z. known_of z x ≡ Some sy) z.0 h)))
            knows sy h (inr z) = f z.1 sy (subst (λ z. known_of z x ≡ Some sy) z.0 h)

          new : ProperOf one.cell v → (one.producer < suc k) × (HasType known.types v (replaced i (types one.variable)) × ((sy : Symbol) → known_of (handed (category_at n) (known_behind n seenk) seenk) one.variable ≡ Some sy → (vs : Values) × (fields sy v ≡ Some vs)))
          new (x, (h, (j, (t, f)))) = side (sign_cases goals outputs w s hold k goal given x one.cell j) where
            o : has x (outputs_of n) ≡ true
            o = binds_sign goals outputs w s b here hold distinct free fit ready names_are single fine.exact k left bk n ns a goal same given x one.cell j

            side : OwnSign goals outputs w s hold k goal given x one.cell ⊎ ((child_for true x site.moves ≡ Some k) × (has one.cell (signs x hold) ≡ true))
                → (one.producer < suc k) × (HasType known.types v (replaced i (types one.variable)) × ((sy : Symbol) → known_of (handed (category_at n) (known_behind n seenk) seenk) one.variable ≡ Some sy → (vs : Values) × (fields sy v ≡ Some vs)))
            side (inl z) = let r = same_own goals outputs w s hold z.one one z.there m z.cell in
                made_here x o t f (ap (λ (y : NamedCell). y.producer) (sym r) ∙ z.producer) (sym z.variable ∙ ap (λ (y : NamedCell). y.variable) r)
            side (inr z) = let l = names_are.low x one.cell z.1 in let d = own_low goals outputs w s hold one m in absurd (omega (arith, l, d))

          on : (gift_at one.cell given ≡ Some (Some v)) ⊎ ((gift_at one.cell given ≡ None) × (gift_at one.cell (gives kid) ≡ Some (Some v)))
              → (one.producer < suc k) × (HasType known.types v (replaced i (types one.variable)) × ((sy : Symbol) → known_of (handed (category_at n) (known_behind n seenk) seenk) one.variable ≡ Some sy → (vs : Values) × (fields sy v ≡ Some vs)))
          on (inl h) = old (proper one m v h)
          on (inr h) = new (gives_proper ProperOf KidEnd rights kid may_wait [] kid_uses one.cell v h.1)

        -- it uses all its rights to signal, and what it gives is proper for its parent
        pub kid_whole : (parent : ℕ → Value → Type 0) → ((c : ℕ) (v : Value) → ProperOf c v → has c (names (own goals outputs w s hold)) ≡ false → parent c v)
            → Keeps (λ c v. has c (names (own goals outputs w s hold)) ≡ false → parent c v) (Whole rights) rights may_wait [] kid
        kid_whole parent f =
            keeps_weaker ProperOf (λ c v. has c (names (own goals outputs w s hold)) ≡ false → parent c v) (Whole rights) rights f kid may_wait []
            (keeps_end ProperOf (Whole rights) KidEnd rights
            (λ h1 g1 e u. λ c h.
            let r = own_right goals outputs w s b here hold distinct free fit ready names_are single fine.exact k left bk n ns a goal same given counts c h in
            let v = u.gave r.0 c r.1.0 r.1.1 in
            some_not (gift_at c g1) (Some v.0) v.1.0)
            kid may_wait [] kid_uses)

        -- what it gives through cells of its parent
        pub proper_parent : (parent : ℕ → Value → Type 0)
            → ((x c : ℕ) (v : Value) → are_for s x ≡ true → has c (signs x hold) ≡ true → HasType known.types v (replaced i (types x))
            → (Nonzero (conjunction_category (categories (list_of goals))) → (sy : Symbol) → known_of (known_behind_all goals seen) x ≡ Some sy → (vs : Values) × (fields sy v ≡ Some vs)) → parent c v)
            → AllSound known types i declared (with outk (in_node n)) (with bk (among (outputs_of n))) (handed (category_at n) (known_behind n seenk) seenk) ns → AllCertain known types i declared ns
            → (c : ℕ) (v : Value) → ProperOf c v → has c (names (own goals outputs w s hold)) ≡ false → parent c v
        proper_parent parent is_proper sounds certains c v (x, (h, (j, (t, f)))) away = side (sign_cases goals outputs w s hold k goal given x c j) where
          o : has x (outputs_of n) ≡ true
          o = binds_sign goals outputs w s b here hold distinct free fit ready names_are single fine.exact k left bk n ns a goal same given x c j

          next : Sees (suc k) (left ++ outputs_of n) (with bk (among (outputs_of n))) (with outk (in_node n)) (handed (category_at n) (known_behind n seenk) seenk) ns
          next = sights_next known types i declared goals outputs w s out b seen here hold distinct free fit ready names_are single fine k left bk outk seenk n ns a q sound certain

          from : Nonzero (category_at n) → (sy : Symbol) → KnownBefore known types i declared (known_behind n seenk) x sy → (vs : Values) × (fields sy v ≡ Some vs)
          from m sy k = from_static known types i declared (known_behind n seenk) x sy v k t (λ z. f m sy z)

          behind : Nonzero (conjunction_category (categories (list_of goals))) → (sy : Symbol) → known_of (known_behind_all goals seen) x ≡ Some sy → (vs : Values) × (fields sy v ≡ Some vs)
          behind m sy e = on (zero_or (category_at n) (known_behind n seenk) seenk) where
            rest : KnownBefore known types i declared (handed (category_at n) (known_behind n seenk) seenk) x sy
            rest = static_rest known types i declared ns (with outk (in_node n)) (with bk (among (outputs_of n))) (handed (category_at n) (known_behind n seenk) seenk) sounds certains (next.ends m).1 x
                (or_right (bk x) (among (outputs_of n) x) (has_among x (outputs_of n) o)) sy (subst (λ z. known_of z x ≡ Some sy) (sym (next.ends m).0) e)

            on : (handed (category_at n) (known_behind n seenk) seenk ≡ seenk) × (most_of (category_at n) ≡ Zero) ⊎ ((handed (category_at n) (known_behind n seenk) seenk ≡ known_behind n seenk) × Nonzero (category_at n)) → (vs : Values) × (fields sy v ≡ Some vs)
            on (inl z) = absurd ((q.ends m).1 (then_is_zero (category_at n) (conjunction_category (categories (list_of ns))) (inl z.1)))
            on (inr z) = from z.1 sy (subst (λ y. KnownBefore known types i declared y x sy) z.0 rest)

          side : OwnSign goals outputs w s hold k goal given x c ⊎ ((child_for true x site.moves ≡ Some k) × (has c (signs x hold) ≡ true)) → parent c v
          side (inl z) = clash (has c (names (own goals outputs w s hold))) (subst (λ y. has y (names (own goals outputs w s hold)) ≡ true) z.cell (is_numbered (λ (y : NamedCell). y.cell) z.one (own goals outputs w s hold) z.there)) away
          side (inr z) = is_proper x c v (signal_child outputs w s goals x k z.0).0 z.1 t behind

    -- each conjunct, whatever those to its left gave
    pub kids_keep : (forked : Nodes) (parent : ℕ → Value → Type 0)
        → ((x c : ℕ) (v : Value) → are_for s x ≡ true → has c (signs x hold) ≡ true → HasType known.types v (replaced i (types x))
        → (Nonzero (conjunction_category (categories (list_of goals))) → (sy : Symbol) → known_of (known_behind_all goals seen) x ≡ Some sy → (vs : Values) × (fields sy v ≡ Some vs)) → parent c v)
        → (ns : Nodes) (at k : ℕ) (left : List ℕ) (bk : Bound) (outk : Variables) (seenk : Known) → Stands k left bk ns → Sees k left bk outk seenk ns → AllSound known types i declared outk bk seenk ns → AllCertain known types i declared ns
        → Planned plan at (planned_conjuncts k outputs w s left ns) → (given : List Gift) → Proper k seenk given → AllKeep parent (fork_of site forked hold) k (kids at k left ns given)
    kids_keep forked parent is_proper no_nodes at k left bk outk seenk a q sounds certains fits given proper = tt
    kids_keep forked parent is_proper (more_nodes n ns) at k left bk outk seenk a q sounds certains fits given proper =
        let wn = waits at k left bk outk seenk n ns a q sounds.0 certains.0 given in
        let sn = signals at k left bk outk seenk n ns a q sounds.0 certains.0 given in
        let first = planned_left plan at (planned nothing wn sn n) (planned_conjuncts (suc k) outputs w s (left ++ outputs_of n) ns) fits in
        let rest = planned_right plan at (forks n) (planned nothing wn sn n) (planned_conjuncts (suc k) outputs w s (left ++ outputs_of n) ns) (planned_count n nothing wn sn) fits in (
          kid_whole at k left bk outk seenk n ns a q sounds.0 certains.0 given proper first parent (proper_parent at k left bk outk seenk n ns a q sounds.0 certains.0 given proper first parent is_proper sounds.1 certains.1),
          kids_keep forked parent is_proper ns (at + forks n) (suc k) (left ++ outputs_of n) (with bk (among (outputs_of n))) (with outk (in_node n)) (handed (category_at n) (known_behind n seenk) seenk)
              (at_next goals outputs w s b here hold distinct free fit ready names_are single fine.exact k left bk n ns a)
              (sights_next known types i declared goals outputs w s out b seen here hold distinct free fit ready names_are single fine k left bk outk seenk n ns a q sounds.0 certains.0) sounds.1 certains.1 rest
              (given ++ gives (kid at k left bk outk seenk n ns a q sounds.0 certains.0 given)) (proper_next at k left bk outk seenk n ns a q sounds.0 certains.0 given proper first),
        )
