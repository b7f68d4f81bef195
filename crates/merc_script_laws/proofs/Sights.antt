-- What parallel conjuncts know, and that what they are given is of its type and has the symbols that are known of it.
use Rattle.std.proofs.Common.{◌≡◌, ◌⊎◌, inl, inr, ℕ, suc, ◌<◌, true, false, ◌==◌, if◌then◌else◌, List, [], ◌++◌, length, Option, Some, None, refl, ap, sym, subst, ◌∙◌}
use Rattle.std.specs.Prelude.{⊤}
use Rattle.merc_base.specs.Category.{can_fail_of, most_of}
use Rattle.merc_base.specs.declared.category.Category.{Category}
use Rattle.merc_base.specs.declared.category.Most.{Most}
use Rattle.merc_base.specs.declared.category.Most.TheVariants.{Zero, One, Many}
use Rattle.merc_tree.specs.Types.{replaced}
use Rattle.merc_tree.specs.declared.declarations.Module.{Module}
use Rattle.merc_goal_tree.specs.declared.goal.Symbol.{Symbol}
use Rattle.merc_graded_tree.specs.Nodes.{Node, Nodes, no_nodes, more_nodes, list_of, outputs_of}
use Rattle.merc_graded_tree.specs.Variables.{among, in_node, in_nodes}
use Rattle.merc_order.specs.Bound.{Bound, with}
use Rattle.merc_order.specs.Procedures.{modes_of}
use Rattle.merc_order_laws.specs.Bindings.{Variables}
use Rattle.merc_grading.specs.Categories.{is_zero, conjunction_category}
use Rattle.merc_grading.specs.Known.{Known, known_of, known_behind, known_behind_all}
use Rattle.merc_grading.specs.Grading.{category_at, categories}
use Rattle.merc_value.specs.Value.{Value, Values}
use Rattle.merc_meaning.specs.Trace.{Env}
use Rattle.merc_meaning.specs.Values.{fields}
use Rattle.merc_meaning.specs.Steps.{value_at}
use Rattle.merc_program_laws.specs.ValueTypes.{HasType}
use Rattle.merc_program_laws.specs.GoodPrograms.{AreGoodTypes}
use Rattle.merc_program_laws.proofs.Values.{Instance, is_some_of, same_some}
use Rattle.merc_program_laws.proofs.Lawful.{Fits}
use Rattle.merc_program_laws.proofs.Maxima.{then_is_zero}
use Rattle.merc_core.specs.Rights.{has}
use Rattle.merc_core.specs.WellFormed.{AreDistinct}
use Rattle.merc_rights.specs.Rights.{Right, users}
use Rattle.merc_par_split.specs.Sites.{are_for}
use Rattle.merc_plan.specs.Branch.{Hold, NamedCell, Gift, gift_at, value_given}
use Rattle.merc_plan.specs.Hold.{child_for}
use Rattle.merc_plan.proofs.Sets.{tell, or_left, or_right, look_past, look_before, in_either}
use Rattle.merc_script_laws.specs.Parallel.{all_outputs}
use Rattle.merc_script_laws.proofs.Bonds.{Set, Here, Owed, Fit, Match, Names, Ready, Fine, Sound}
use Rattle.merc_script_laws.proofs.Members.{Member}
use Rattle.merc_script_laws.proofs.Sites.{has_among, first_nth, nth_in}
use Rattle.merc_script_laws.proofs.SiteMoves.{good_occurs, wait_child}
use Rattle.merc_script_laws.proofs.Seen.{behind_other}
use Rattle.merc_script_laws.proofs.StaticKnown.{KnownBefore, static_known}
use Rattle.merc_script_laws.proofs.Learning.{learns}
use Rattle.merc_script_laws.proofs.Kids.{info, own, OwnWait, kid_here}
use Rattle.merc_script_laws.proofs.Conjuncts.{At, hold_k, this_one, cases_k}

-- what a conjunct of this category hands on to those to its right
abbrev pub handed : Category → Known → Known → Known
handed category behind before = if is_zero (most_of category) then before else behind

abbrev pub Nonzero : Category → Type 0
Nonzero category = most_of category ≡ Zero → ⊥

pub zero_or : (c : Category) (behind before : Known) → (handed c behind before ≡ before) × (most_of c ≡ Zero) ⊎ ((handed c behind before ≡ behind) × Nonzero c)
zero_or c behind before = on (most_of c) where
  on : (m : Most) → ((if is_zero m then before else behind) ≡ before) × (m ≡ Zero) ⊎ (((if is_zero m then before else behind) ≡ behind) × (m ≡ Zero → ⊥))
  on Zero = inl (refl, refl)
  on One = inr (refl, λ e. absurd (cc))
  on Many = inr (refl, λ e. absurd (cc))

-- the gift of both, of the first or of the second alone
pub gift_sides : (c : ℕ) (v : Value) (g h : List Gift) → gift_at c (g ++ h) ≡ Some (Some v) → (gift_at c g ≡ Some (Some v)) ⊎ ((gift_at c g ≡ None) × (gift_at c h ≡ Some (Some v)))
gift_sides c v g h e = on (gift_at c g) refl where
  same : (o : Option Value) → gift_at c g ≡ Some o → Some o ≡ Some (Some v)
  same o q = sym (look_before c o g h q) ∙ e

  on : (o : Option (Option Value)) → gift_at c g ≡ o → (gift_at c g ≡ Some (Some v)) ⊎ ((gift_at c g ≡ None) × (gift_at c h ≡ Some (Some v)))
  on None q = inr (q, sym (look_past c g h q) ∙ e)
  on (Some o) q = inl (q ∙ same o q)

given_some : (o : Option (Option Value)) (v : Value) → Some v ≡ value_given o → o ≡ Some (Some v)
given_some None v e = absurd (cc)
given_some (Some o) v e = ap (λ z. Some z) (sym e)

-- Given are the module, the types of the variables, and what type variables stand for.
module _ (known : Module) (types i : Instance) (declared : AreGoodTypes known.types) where
  -- sound conjuncts, each with what those to its left hand on
  abbrev pub AllSound : Variables → Bound → Known → Nodes → Type 0
  AllSound out b seen no_nodes = ⊤
  AllSound out b seen (more_nodes n ns) =
      Sound known types i (with out (in_nodes ns)) b seen n × AllSound (with out (in_node n)) (with b (among (outputs_of n))) (handed (category_at n) (known_behind n seen) seen) ns

  abbrev pub AllCertain : Nodes → Type 0
  AllCertain no_nodes = ⊤
  AllCertain (more_nodes n ns) = (can_fail_of (category_at n) ≡ false) × AllCertain ns

  -- as Fine, of what these rights to wait are for
  pub record FineFor (out : Variables) (b : Bound) (occurs : Variables) (seen : Known) (w : List Right) (hold : Hold) : Type 0 where
    pub exact : (x : ℕ) (v : Value) → occurs x ≡ true → Here hold x v → b x ≡ true
    pub outer : (x : ℕ) → occurs x ≡ true → b x ≡ true → out x ≡ true
    pub typed : (x : ℕ) (v : Value) → Here hold x v → HasType known.types v (replaced i (types x))
    pub typed_owed : (x c : ℕ) (v : Value) → are_for w x ≡ true → Owed hold x c (Some v) → HasType known.types v (replaced i (types x))
    pub bound : (x : ℕ) (s : Symbol) → occurs x ≡ true → known_of seen x ≡ Some s → b x ≡ true
    pub knows : (x : ℕ) (s : Symbol) (v : Value) → known_of seen x ≡ Some s → Here hold x v → (vs : Values) × (fields s v ≡ Some vs)
    pub knows_owed : (x c : ℕ) (s : Symbol) (v : Value) → are_for w x ≡ true → occurs x ≡ true → known_of seen x ≡ Some s → Owed hold x c (Some v) → (vs : Values) × (fields s v ≡ Some vs)

  pub fine_for : (out : Variables) (b : Bound) (occurs : Variables) (seen : Known) (w : List Right) (hold : Hold) → Fine known types i out b occurs seen hold → FineFor out b occurs seen w hold
  fine_for out b occurs seen w hold f = record {
    exact = f.exact;
    outer = f.outer;
    typed = f.typed;
    typed_owed = λ x c v h o. f.typed_owed x c v o;
    bound = f.bound;
    knows = f.knows;
    knows_owed = λ x c s v h o e q. f.knows_owed x c s v o e q;
  }

  -- where the trace's environment fits and has what is here and what comes
  pub fits_for : (out : Variables) (b : Bound) (occurs : Variables) (seen : Known) (w : List Right) (hold : Hold) (full : Env) → Fits known types i out b occurs seen full → Match w hold full → FineFor out b occurs seen w hold
  fits_for out b occurs seen w hold full f t = record {
    exact = λ x v o h. sym (f.bounds x o) ∙ is_some_of (value_at full x) v (t.same x v h);
    outer = f.outer;
    typed = λ x v h. f.typed x v (t.same x v h);
    typed_owed = λ x c v h o. let q = t.comes x c (Some v) h o in f.typed x v (q.1.1 ∙ sym q.1.0);
    bound = λ x s o e. let k = f.knows x s e in sym (f.bounds x o) ∙ is_some_of (value_at full x) k.0 k.2;
    knows = λ x s v e h. has x s v e (t.same x v h);
    knows_owed = λ x c s v h j e o. let q = t.comes x c (Some v) h o in has x s v e (q.1.1 ∙ sym q.1.0);
  } where
    has : (x : ℕ) (s : Symbol) (v : Value) → known_of seen x ≡ Some s → value_at full x ≡ Some v → (vs : Values) × (fields s v ≡ Some vs)
    has x s v e h = let k = f.knows x s e in (k.1, ap (fields s) (same_some (sym h ∙ k.2)) ∙ k.3)

  abbrev pub HasSymbolOf : Symbol → Value → Type 0
  HasSymbolOf s v = (vs : Values) × (fields s v ≡ Some vs)

  abbrev pub Typed : ℕ → Value → Type 0
  Typed x v = HasType known.types v (replaced i (types x))

  pub from_static : (seen : Known) (x : ℕ) (s : Symbol) (v : Value) → KnownBefore known types i declared seen x s → Typed x v → (known_of seen x ≡ Some s → HasSymbolOf s v) → HasSymbolOf s v
  from_static seen x s v (inl k) t f = f k
  from_static seen x s v (inr a) t f = a v t

  -- behind conjuncts that can answer
  pub static_rest : (ns : Nodes) (out : Variables) (b : Bound) (seen : Known) → AllSound out b seen ns → AllCertain ns → Nonzero (conjunction_category (categories (list_of ns))) → (x : ℕ) → b x ≡ true → (s : Symbol)
      → known_of (known_behind_all ns seen) x ≡ Some s → KnownBefore known types i declared seen x s
  static_rest no_nodes out b seen sound certain some x h s e = inl e
  static_rest (more_nodes n ns) out b seen sound certain some x h s e =
      on (zero_or (category_at n) (known_behind n seen) seen)
      (λ p. static_rest ns (with out (in_node n)) (with b (among (outputs_of n))) (known_behind n seen) (subst (λ z. AllSound (with out (in_node n)) (with b (among (outputs_of n))) z ns) p sound.1) certain.1
      (λ z. some (then_is_zero (category_at n) (conjunction_category (categories (list_of ns))) (inr z))) x (or_left (b x) (among (outputs_of n) x) h) s e) where
        next : Known
        next = handed (category_at n) (known_behind n seen) seen

        some_n : Nonzero (category_at n)
        some_n z = some (then_is_zero (category_at n) (conjunction_category (categories (list_of ns))) (inl z))

        first : KnownBefore known types i declared (known_behind n seen) x s → KnownBefore known types i declared seen x s
        first (inl k) = static_known known types i declared n (with out (in_nodes ns)) b seen sound.0.good sound.0.graded sound.0.parts certain.0 some_n x h s k
        first (inr a) = inr a

        on : (next ≡ seen) × (most_of (category_at n) ≡ Zero) ⊎ ((next ≡ known_behind n seen) × Nonzero (category_at n)) → (next ≡ known_behind n seen → KnownBefore known types i declared (known_behind n seen) x s)
            → KnownBefore known types i declared seen x s
        on (inl q) rec = absurd (some_n q.1)
        on (inr q) rec = first (rec q.0)

  module _ (goals : Nodes) (outputs : List ℕ) (w s : List Right) (out : Variables) (b : Bound) (seen : Known) (here : Set) (hold : Hold) (distinct : AreDistinct (all_outputs goals)) (free : (x : ℕ) → has x (all_outputs goals) ≡ true → b x ≡ false)
      (fit : Fit b here w hold) (ready : Ready here w b (in_nodes goals)) (names : Names hold) (single : (x : ℕ) → are_for w x ≡ true → (length (users 1 goals x) == 1) ≡ true) (fine : FineFor out b (in_nodes goals) seen w hold) where
    abbrev pub Stands : ℕ → List ℕ → Bound → Nodes → Type 0
    Stands k left bk ns = At goals outputs w s b here hold distinct free fit ready names single fine.exact k left bk ns

    -- what is known at conjunct k
    pub record Sights (k : ℕ) (left : List ℕ) (bk : Bound) (outk : Variables) (seenk : Known) (ns : Nodes) : Type 0 where
      pub outs : (x : ℕ) → out x ≡ true → outk x ≡ true
      pub lefts : (x : ℕ) → has x left ≡ true → outk x ≡ true
      pub bound : (x : ℕ) (sy : Symbol) → in_nodes ns x ≡ true → known_of seenk x ≡ Some sy → bk x ≡ true
      pub knows : (x : ℕ) (sy : Symbol) (v : Value) → known_of seenk x ≡ Some sy → Here hold x v → (vs : Values) × (fields sy v ≡ Some vs)
      pub knows_owed : (x c : ℕ) (sy : Symbol) (v : Value) → are_for w x ≡ true → in_nodes goals x ≡ true → known_of seenk x ≡ Some sy → Owed hold x c (Some v) → (vs : Values) × (fields sy v ≡ Some vs)
      pub ends : (most_of (conjunction_category (categories (list_of goals))) ≡ Zero → ⊥) → (known_behind_all ns seenk ≡ known_behind_all goals seen) × (most_of (conjunction_category (categories (list_of ns))) ≡ Zero → ⊥)

    pub sights_first : Sights 1 [] b out seen goals
    sights_first = record {
      outs = λ x h. h;
      lefts = λ x h. absurd (cc);
      bound = fine.bound;
      knows = fine.knows;
      knows_owed = fine.knows_owed;
      ends = λ m. (refl, m);
    }

    module _ (k : ℕ) (left : List ℕ) (bk : Bound) (outk : Variables) (seenk : Known) (n : Node) (ns : Nodes) (a : Stands k left bk (more_nodes n ns)) (q : Sights k left bk outk seenk (more_nodes n ns))
        (sound : Sound known types i (with outk (in_nodes ns)) bk seenk n) (certain : can_fail_of (category_at n) ≡ false) where
      abbrev next : Known
      next = handed (category_at n) (known_behind n seenk) seenk

      in_goals : (x : ℕ) → in_node n x ≡ true → in_nodes goals x ≡ true
      in_goals x h = nth_in 1 k x n goals (a.nths k n (first_nth k n ns)) h

      -- what is known next of what was bound was known, or is so by its type
      pub next_static : (x : ℕ) (sy : Symbol) → (in_node n x ≡ true → bk x ≡ true) → known_of next x ≡ Some sy → KnownBefore known types i declared seenk x sy
      next_static x sy h e = on (zero_or (category_at n) (known_behind n seenk) seenk) where
        inside : Nonzero (category_at n) → known_of (known_behind n seenk) x ≡ Some sy → (in_node n x ≡ true) ⊎ (in_node n x ≡ false) → KnownBefore known types i declared seenk x sy
        inside m p (inl j) = static_known known types i declared n (with outk (in_nodes ns)) bk seenk sound.good sound.graded sound.parts certain m x (h j) sy p
        inside m p (inr j) = inl (sym (behind_other n seenk x j) ∙ p)

        on : (next ≡ seenk) × (most_of (category_at n) ≡ Zero) ⊎ ((next ≡ known_behind n seenk) × Nonzero (category_at n)) → KnownBefore known types i declared seenk x sy
        on (inl p) = inl (subst (λ z. known_of z x ≡ Some sy) p.0 e)
        on (inr p) = inside p.1 (subst (λ z. known_of z x ≡ Some sy) p.0 e) (tell (in_node n x))

      next_bound : (x : ℕ) (sy : Symbol) → in_nodes ns x ≡ true → known_of next x ≡ Some sy → with bk (among (outputs_of n)) x ≡ true
      next_bound x sy h e = on (zero_or (category_at n) (known_behind n seenk) seenk) where
        before : known_of seenk x ≡ Some sy → with bk (among (outputs_of n)) x ≡ true
        before p = or_left (bk x) (among (outputs_of n) x) (q.bound x sy (or_right (in_node n x) (in_nodes ns x) h) p)

        learnt : (known_of seenk x ≡ Some sy) ⊎ (with bk (among (outputs_of n)) x ≡ true) → with bk (among (outputs_of n)) x ≡ true
        learnt (inl p) = before p
        learnt (inr p) = p

        inside : known_of (known_behind n seenk) x ≡ Some sy → (in_node n x ≡ true) ⊎ (in_node n x ≡ false) → with bk (among (outputs_of n)) x ≡ true
        inside p (inl j) = learnt (learns (modes_of known.preds) n seenk (with outk (in_nodes ns)) bk sound.good x sy j (or_right (outk x) (in_nodes ns x) h) p)
        inside p (inr j) = before (sym (behind_other n seenk x j) ∙ p)

        on : (next ≡ seenk) × (most_of (category_at n) ≡ Zero) ⊎ ((next ≡ known_behind n seenk) × Nonzero (category_at n)) → with bk (among (outputs_of n)) x ≡ true
        on (inl p) = before (subst (λ z. known_of z x ≡ Some sy) p.0 e)
        on (inr p) = inside (subst (λ z. known_of z x ≡ Some sy) p.0 e) (tell (in_node n x))

      pub sights_next : Sights (suc k) (left ++ outputs_of n) (with bk (among (outputs_of n))) (with outk (in_node n)) next ns
      sights_next = record {
        outs = λ x h. or_left (outk x) (in_node n x) (q.outs x h);
        lefts = λ x h. lefts x (in_either x left (outputs_of n) h);
        bound = next_bound;
        knows = λ x sy v e h. from_static seenk x sy v (next_static x sy (λ j. a.grows x (fine.exact x v (in_goals x j) h)) e) (fine.typed x v h) (λ p. q.knows x sy v p h);
        knows_owed = λ x c sy v y j e o. from_static seenk x sy v (next_static x sy (λ l. a.grows x (fit.known x c (Some v) o)) e) (fine.typed_owed x c v y o) (λ p. q.knows_owed x c sy v y j p o);
        ends = ends;
      } where
        lefts : (x : ℕ) → (has x left ≡ true) ⊎ (has x (outputs_of n) ≡ true) → with outk (in_node n) x ≡ true
        lefts x (inl h) = or_left (outk x) (in_node n x) (q.lefts x h)
        lefts x (inr h) = or_right (outk x) (in_node n x) (good_occurs (modes_of known.preds) (with outk (in_nodes ns)) bk n sound.good x (has_among x (outputs_of n) h))

        ends : (most_of (conjunction_category (categories (list_of goals))) ≡ Zero → ⊥) → (known_behind_all ns next ≡ known_behind_all goals seen) × (most_of (conjunction_category (categories (list_of ns))) ≡ Zero → ⊥)
        ends m = on (zero_or (category_at n) (known_behind n seenk) seenk) where
          rest : Nonzero (conjunction_category (categories (list_of (more_nodes n ns))))
          rest = (q.ends m).1

          on : (next ≡ seenk) × (most_of (category_at n) ≡ Zero) ⊎ ((next ≡ known_behind n seenk) × Nonzero (category_at n)) → (known_behind_all ns next ≡ known_behind_all goals seen) × (most_of (conjunction_category (categories (list_of ns))) ≡ Zero → ⊥)
          on (inl p) = absurd (rest (then_is_zero (category_at n) (conjunction_category (categories (list_of ns))) (inl p.1)))
          on (inr p) = (ap (known_behind_all ns) p.0 ∙ (q.ends m).0, λ z. rest (then_is_zero (category_at n) (conjunction_category (categories (list_of ns))) (inr z)))

    -- What was given through own cells, by conjuncts to the left, is of its variable's type and has the symbol that is known of it.
    abbrev pub AreProper : ℕ → Known → List Gift → Type 0
    AreProper k seenk given = (one : NamedCell) → Member one (own goals outputs w s hold) → (v : Value) → gift_at one.cell given ≡ Some (Some v)
        → (one.producer < k) × (HasType known.types v (replaced i (types one.variable)) × ((sy : Symbol) → known_of seenk one.variable ≡ Some sy → (vs : Values) × (fields sy v ≡ Some vs)))

    pub none_proper : (k : ℕ) (seenk : Known) → AreProper k seenk []
    none_proper k seenk one m v e = absurd (cc)

    module _ (k : ℕ) (left : List ℕ) (bk : Bound) (outk : Variables) (seenk : Known) (n : Node) (ns : Nodes) (a : Stands k left bk (more_nodes n ns)) (q : Sights k left bk outk seenk (more_nodes n ns)) (goal : Node) (same : (x : ℕ) → in_node goal x ≡ in_node n x)
        (given : List Gift) (proper : AreProper k seenk given) where
      abbrev pub kid_hold : Hold
      kid_hold = hold_k goals outputs w s b here hold distinct free fit ready names single fine.exact k left bk n ns a goal same given

      kid_cases : (x c : ℕ) (o : Option Value) → Owed kid_hold x c o → OwnWait goals outputs w s hold k goal given x c o ⊎ ((child_for false x (info goals outputs w s hold).moves ≡ Some k) × Owed hold x c o)
      kid_cases x c o e = cases_k goals outputs w s b here hold distinct free fit ready names single fine.exact k left bk n ns a goal same given x c o e

      in_all_goals : (x : ℕ) → in_node n x ≡ true → in_nodes goals x ≡ true
      in_all_goals x h = nth_in 1 k x n goals (this_one goals outputs w s b here hold distinct free fit ready names single fine.exact k left bk n ns a goal same given) h

      there : (x : ℕ) (v : Value) → Here kid_hold x v → Here hold x v
      there x v h = (kid_here goals outputs w s hold k goal given x v h).1

      pub fine_k : Fine known types i (with outk (in_nodes ns)) bk (in_node n) seenk kid_hold
      fine_k = record {
        exact = λ x v h e. a.grows x (fine.exact x v (in_all_goals x h) (there x v e));
        outer = λ x h e. or_left (outk x) (in_nodes ns x) (outer x h (a.either x e));
        typed = λ x v h. fine.typed x v (there x v h);
        typed_owed = λ x c v e. typed_owed x c v (kid_cases x c (Some v) e);
        bound = λ x sy h e. q.bound x sy (or_left (in_node n x) (in_nodes ns x) h) e;
        knows = λ x sy v e h. q.knows x sy v e (there x v h);
        knows_owed = λ x c sy v h e o. knows_owed x c sy v h e (kid_cases x c (Some v) o);
      } where
        outer : (x : ℕ) → in_node n x ≡ true → (b x ≡ true) ⊎ (has x left ≡ true) → outk x ≡ true
        outer x h (inl e) = q.outs x (fine.outer x (in_all_goals x h) e)
        outer x h (inr e) = q.lefts x e

        typed_owed : (x c : ℕ) (v : Value) → OwnWait goals outputs w s hold k goal given x c (Some v) ⊎ ((child_for false x (info goals outputs w s hold).moves ≡ Some k) × Owed hold x c (Some v)) → HasType known.types v (replaced i (types x))
        typed_owed x c v (inl o) = subst (λ z. HasType known.types v (replaced i (types z))) o.variable
            (proper o.one o.there v (subst (λ z. gift_at z given ≡ Some (Some v)) (sym o.cell) (given_some (gift_at c given) v o.value))).1.0
        typed_owed x c v (inr o) = fine.typed_owed x c v (wait_child outputs w s goals x k o.0).0 o.1

        knows_owed : (x c : ℕ) (sy : Symbol) (v : Value) → in_node n x ≡ true → known_of seenk x ≡ Some sy → OwnWait goals outputs w s hold k goal given x c (Some v) ⊎ ((child_for false x (info goals outputs w s hold).moves ≡ Some k) × Owed hold x c (Some v)) → (vs : Values) × (fields sy v ≡ Some vs)
        knows_owed x c sy v h e (inl o) =
            (proper o.one o.there v (subst (λ z. gift_at z given ≡ Some (Some v)) (sym o.cell) (given_some (gift_at c given) v o.value))).1.1 sy (subst (λ z. known_of seenk z ≡ Some sy) (sym o.variable) e)
        knows_owed x c sy v h e (inr o) = q.knows_owed x c sy v (wait_child outputs w s goals x k o.0).0 (in_all_goals x h) e o.1
