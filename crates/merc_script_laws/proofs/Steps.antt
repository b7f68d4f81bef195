-- From before one goal to behind it, and from before waits to behind them.
use Rattle.std.proofs.Common.{◌≡◌, ◌⊎◌, inl, inr, ℕ, Bool, true, false, not, ◌||◌, ◌&&◌, List, [], ◌++◌, map, Option, Some, refl, ap, sym, subst, ◌∙◌}
use Rattle.merc_tree.specs.Types.{replaced}
use Rattle.merc_tree.specs.declared.declarations.Module.{Module}
use Rattle.merc_order.specs.Bound.{Bound, with, among}
use Rattle.merc_grading.specs.Known.{Known}
use Rattle.merc_order_laws.specs.Bindings.{Variables, Binds}
use Rattle.merc_order_laws.proofs.Facts.{clash, or_left, or_right, or_cases, either_way, among_append}
use Rattle.merc_value.specs.Value.{Value, Values}
use Rattle.merc_meaning.specs.Trace.{Env}
use Rattle.merc_meaning.specs.Values.{fields}
use Rattle.merc_meaning.specs.Steps.{value_at}
use Rattle.merc_program_laws.specs.ValueTypes.{HasType}
use Rattle.merc_program_laws.proofs.Values.{Instance, or_not_left, or_not_right, both_are}
use Rattle.merc_core.specs.WellFormed.{AreDistinct}
use Rattle.merc_rights.specs.Rights.{Right, those}
use Rattle.merc_par_split.specs.Sites.{are_for}
use Rattle.merc_plan.specs.Branch.{HeldWait, Hold}
use Rattle.merc_script_laws.proofs.Bonds.{Set, Here, Owed, AllUsed, Fit, Fine, After, Match, Names, Moves, Kept, Ready, here_behind, here_or, Parts}
use Rattle.merc_script_laws.proofs.RightLists.{not_not, is_not, variables_of, those_in, in_those, not_those, those_within, those_once, not_for, bound_both}

abbrev pub always : ℕ → Bool
always x = true

abbrev pub unused : (ℕ → Bool) → ℕ → Bool
unused uses x = not (uses x)

abbrev pub or_later : (ℕ → Bool) → (ℕ → Bool) → ℕ → Bool
or_later later rest_uses x = later x || rest_uses x

pub joins_left : (b : Bound) (outs : List ℕ) (x : ℕ) → b x ≡ true → with b (among outs) x ≡ true
joins_left b outs x h = or_left (b x) (among outs x) h

pub joins_right : (b : Bound) (outs : List ℕ) (x : ℕ) → among outs x ≡ true → with b (among outs) x ≡ true
joins_right b outs x h = or_right (b x) (among outs x) h

-- One goal of a conjunction, and the rest of it. uses: what the goal uses; rest_uses: what the rest uses; later: what is used behind the conjunction. The goal
-- signals its outputs.
module _ (uses rest_uses later : ℕ → Bool) (b : Bound) (here : Set) (w s : List Right) (outs : List ℕ) (hold hold1 : Hold) where
  abbrev First : Type 0
  First = Moves here (those uses w) (those (among outs) s) (or_later later rest_uses) outs hold hold1

  abbrev Behind : Set
  Behind = here_behind here (those uses w) (or_later later rest_uses) outs

  pub fit_first : Fit b here w hold → Fit b here (those uses w) hold
  fit_first f = record { held = f.held; below = f.below; owed = λ x h. f.owed x (those_in uses w x h).0; known = f.known; once = those_once uses w f.once }

  pub fit_rest : Fit b here w hold → First → Fit (with b (among outs)) Behind (those (unused uses) w) hold1
  fit_rest f m = record { held = held; below = below; owed = owed; known = λ x c o e. joins_left b outs x (f.known x c o (m.old x c o e)); once = those_once (unused uses) w f.once } where
    held : (x : ℕ) → Behind x → (v : Value) × Here hold1 x v
    held x (inl h) = ((f.held x h).0, m.keep x (f.held x h).0 h (f.held x h).1)
    held x (inr (inl h)) = m.fresh x h
    held x (inr (inr h)) =
        let e = f.owed x (those_in uses w x h.0).0 in
        let g = m.got x e.0 e.1.0 h.0 h.1 e.1.1 in
        (g.0, g.1.1)

    below : (x : ℕ) → Behind x → with b (among outs) x ≡ true
    below x (inl h) = joins_left b outs x (f.below x h)
    below x (inr (inl h)) = joins_right b outs x h
    below x (inr (inr h)) = let e = f.owed x (those_in uses w x h.0).0 in joins_left b outs x (f.known x e.0 e.1.0 e.1.1)

    owed : (x : ℕ) → are_for (those (unused uses) w) x ≡ true → (c : ℕ) × ((o : Option Value) × Owed hold1 x c o)
    owed x h =
        let i = those_in (unused uses) w x h in
        let e = f.owed x i.0 in
        (e.0, (e.1.0, m.rest x e.0 e.1.0 (not_those uses w x (λ j k. clash k (not_not (uses x) i.1))) e.1.1))

  pub match_first : (full : Env) → Match w hold full → Match (those uses w) hold full
  match_first full t = record { same = t.same; comes = λ x c o h e. t.comes x c o (those_in uses w x h).0 e }

  pub match_rest : (full full1 : Env) → Fit b here w hold → Match w hold full → First → ((x : ℕ) (v : Value) → Here hold1 x v → value_at full1 x ≡ Some v) → Kept full full1
      → Match (those (unused uses) w) hold1 full1
  match_rest full full1 f t m same kept = record { same = same; comes = comes } where
    comes : (x c : ℕ) (o : Option Value) → are_for (those (unused uses) w) x ≡ true → Owed hold1 x c o → (v : Value) × ((o ≡ Some v) × (value_at full1 x ≡ Some v))
    comes x c o h e =
        let p = m.old x c o e in
        let q = t.comes x c o (those_in (unused uses) w x h).0 p in
        (q.0, (q.1.0, kept x q.0 q.1.1))

  pub ready_first : Ready here w b (λ x. uses x || rest_uses x) → Ready here (those uses w) b uses
  ready_first r x u p = elim (r x (or_left (uses x) (rest_uses x) u) p) as (λ _. here x ⊎ (are_for (those uses w) x ≡ true)) [ inl h ↦ inl h | inr h ↦ inr (in_those uses w x h u) ]

  pub ready_rest : Ready here w b (λ x. uses x || rest_uses x) → Ready Behind (those (unused uses) w) (with b (among outs)) rest_uses
  ready_rest r x u p = on (or_cases (b x) (among outs x) p) where
    used : are_for w x ≡ true → (uses x ≡ true) ⊎ (uses x ≡ false) → Behind x ⊎ (are_for (those (unused uses) w) x ≡ true)
    used h (inl e) = inl (inr (inr (in_those uses w x h e, or_right (later x) (rest_uses x) u)))
    used h (inr e) = inr (in_those (unused uses) w x h (is_not (uses x) e))

    is_here : here x ⊎ (are_for w x ≡ true) → Behind x ⊎ (are_for (those (unused uses) w) x ≡ true)
    is_here (inl h) = inl (inl h)
    is_here (inr h) = used h (either_way (uses x))

    on : (b x ≡ true) ⊎ (among outs x ≡ true) → Behind x ⊎ (are_for (those (unused uses) w) x ≡ true)
    on (inl h) = is_here (r x (or_right (uses x) (rest_uses x) u) h)
    on (inr h) = inl (inr (inl h))

  pub moves_both : (outs2 : List ℕ) (hold2 : Hold) → First → Moves Behind (those (unused uses) w) (those (unused (among outs)) s) later outs2 hold1 hold2 → Moves here w s later (outs ++ outs2) hold hold2
  moves_both outs2 hold2 m n = record {
    keep = λ x v h e. n.keep x v (inl h) (m.keep x v h e);
    fresh = fresh;
    got = got;
    rest = rest;
    old = λ x c o e. m.old x c o (n.old x c o e);
    next = n.next ∙ m.next;
    names = λ k. n.names (m.names k);
    signed = λ x c h. m.signed x c (n.signed x c h);
    still = λ k. n.still (λ x. those_within (unused (among outs)) s x (k x)) ∙ m.still (λ x. those_within (among outs) s x (k x));
    unsigned = λ x h. n.unsigned x (those_within (unused (among outs)) s x h) ∙ m.unsigned x (those_within (among outs) s x h);
  } where
    fresh_on : (x : ℕ) → (among outs x ≡ true) ⊎ (among outs2 x ≡ true) → (v : Value) × Here hold2 x v
    fresh_on x (inl h) = let g = m.fresh x h in (g.0, n.keep x g.0 (inr (inl h)) g.1)
    fresh_on x (inr h) = n.fresh x h

    fresh : (x : ℕ) → among (outs ++ outs2) x ≡ true → (v : Value) × Here hold2 x v
    fresh x h = fresh_on x (or_cases (among outs x) (among outs2 x) (sym (among_append x outs outs2) ∙ h))

    got_on : (x c : ℕ) (o : Option Value) → are_for w x ≡ true → later x ≡ true → Owed hold x c o → (uses x ≡ true) ⊎ (uses x ≡ false) → (v : Value) × ((o ≡ Some v) × Here hold2 x v)
    got_on x c o h l e (inl u) =
        let i = in_those uses w x h u in
        let g = m.got x c o i (or_left (later x) (rest_uses x) l) e in
        (g.0, (g.1.0, n.keep x g.0 (inr (inr (i, or_left (later x) (rest_uses x) l))) g.1.1))
    got_on x c o h l e (inr u) = n.got x c o (in_those (unused uses) w x h (is_not (uses x) u)) l (m.rest x c o (not_those uses w x (λ i p. clash p u)) e)

    got : (x c : ℕ) (o : Option Value) → are_for w x ≡ true → later x ≡ true → Owed hold x c o → (v : Value) × ((o ≡ Some v) × Here hold2 x v)
    got x c o h l e = got_on x c o h l e (either_way (uses x))

    rest : (x c : ℕ) (o : Option Value) → are_for w x ≡ false → Owed hold x c o → Owed hold2 x c o
    rest x c o h e = n.rest x c o (those_within (unused uses) w x h) (m.rest x c o (those_within uses w x h) e)

  -- Where these occur outside.
  module _ (known : Module) (types i : Instance) (out : Variables) (seen seen1 : Known) where
    abbrev Whole : Type 0
    Whole = Fine known types i out b (with uses rest_uses) seen hold

    abbrev Gone : Type 0
    Gone = After known types i (with out rest_uses) b outs uses seen seen1 hold hold1

    pub fine_first : Whole → Fine known types i (with out rest_uses) b uses seen hold
    fine_first f = record {
      exact = λ x v o h. f.exact x v (or_left (uses x) (rest_uses x) o) h;
      outer = λ x o h. or_left (out x) (rest_uses x) (f.outer x (or_left (uses x) (rest_uses x) o) h);
      typed = f.typed;
      typed_owed = f.typed_owed;
      bound = λ x s o e. f.bound x s (or_left (uses x) (rest_uses x) o) e;
      knows = f.knows;
      knows_owed = λ x c s v o e h. f.knows_owed x c s v (or_left (uses x) (rest_uses x) o) e h;
    }

    -- what the rest uses and what is owed behind the first goal is not used by this
    not_used : Fit b here w hold → Ready here w b (with uses rest_uses) → Names hold → First → (x c : ℕ) (o : Option Value) → rest_uses x ≡ true → Owed hold1 x c o → uses x ≡ true → ⊥
    not_used f r names m x c o u e k = on (r x (or_left (uses x) (rest_uses x) k) (f.known x c o p)) where
      p : Owed hold x c o
      p = m.old x c o e

      on : here x ⊎ (are_for w x ≡ true) → ⊥
      on (inl h) = names.valueless x c o (f.held x h).0 p (f.held x h).1
      on (inr h) = let g = m.got x c o (in_those uses w x h k) (or_right (later x) (rest_uses x) u) p in (m.names names).valueless x c o g.0 e g.1.1

    pub fine_rest : ((x : ℕ) → among outs x ≡ true → uses x ≡ true) → Fit b here w hold → Ready here w b (with uses rest_uses) → Names hold → First → Whole → Gone
        → Fine known types i (with out uses) (with b (among outs)) rest_uses seen1 hold1
    fine_rest sub fit r names m f a = record {
      exact = λ x v o h. elim (either_way (uses x)) as (λ _. with b (among outs) x ≡ true) [
        | inl p ↦ a.exact x v p (or_right (out x) (rest_uses x) o) h
        | inr p ↦ joins_left b outs x (f.exact x v (or_right (uses x) (rest_uses x) o) (a.own x v p h))
      ];
      outer = λ x o h. elim (or_cases (b x) (among outs x) h) as (λ _. with out uses x ≡ true) [
        | inl p ↦ or_left (out x) (uses x) (f.outer x (or_right (uses x) (rest_uses x) o) p)
        | inr p ↦ or_right (out x) (uses x) (sub x p)
      ];
      typed = a.typed;
      typed_owed = λ x c v e. f.typed_owed x c v (m.old x c (Some v) e);
      bound = λ x s o e. elim (either_way (uses x)) as (λ _. with b (among outs) x ≡ true) [
        | inl p ↦ a.bound x s p (or_right (out x) (rest_uses x) o) e
        | inr p ↦ joins_left b outs x (f.bound x s (or_right (uses x) (rest_uses x) o) (sym (a.same x p) ∙ e))
      ];
      knows = a.knows;
      knows_owed = λ x c s v o e h. elim (either_way (uses x)) as (λ _. (vs : Values) × (fields s v ≡ Some vs)) [
        | inl p ↦ absurd (not_used fit r names m x c (Some v) o h p)
        | inr p ↦ f.knows_owed x c s v (or_right (uses x) (rest_uses x) o) (sym (a.same x p) ∙ e) (m.old x c (Some v) h)
      ];
    }

    pub after_both : (outs2 : List ℕ) (seen2 : Known) (hold2 : Hold) → Gone → After known types i (with out uses) (with b (among outs)) outs2 rest_uses seen1 seen2 hold1 hold2
        → After known types i out b (outs ++ outs2) (with uses rest_uses) seen seen2 hold hold2
    after_both outs2 seen2 hold2 a n = record {
      own = λ x v o h. a.own x v (or_not_left (uses x) (rest_uses x) o) (n.own x v (or_not_right (uses x) (rest_uses x) o) h);
      exact = λ x v o q h. bound_both b outs outs2 x ∙ elim (either_way (rest_uses x)) as (λ _. with (with b (among outs)) (among outs2) x ≡ true) [
        | inl p ↦ n.exact x v p (or_left (out x) (uses x) q) h
        | inr p ↦ joins_left (with b (among outs)) outs2 x (a.exact x v (first_only x o p) (or_left (out x) (rest_uses x) q) (n.own x v p h))
      ];
      typed = n.typed;
      bound = λ x s o q e. bound_both b outs outs2 x ∙ elim (either_way (rest_uses x)) as (λ _. with (with b (among outs)) (among outs2) x ≡ true) [
        | inl p ↦ n.bound x s p (or_left (out x) (uses x) q) e
        | inr p ↦ joins_left (with b (among outs)) outs2 x (a.bound x s (first_only x o p) (or_left (out x) (rest_uses x) q) (sym (n.same x p) ∙ e))
      ];
      knows = n.knows;
      same = λ x o. n.same x (or_not_right (uses x) (rest_uses x) o) ∙ a.same x (or_not_left (uses x) (rest_uses x) o);
    } where
      first_only : (x : ℕ) → with uses rest_uses x ≡ true → rest_uses x ≡ false → uses x ≡ true
      first_only x o p = elim (or_cases (uses x) (rest_uses x) o) as (λ _. uses x ≡ true) [ inl k ↦ k | inr k ↦ clash k p ]

-- What is bound behind goals, by the rule of a conjunction.
module _ (known : Module) (types i : Instance) where
  pub after_binds : (out : Variables) (b behind : Bound) (outs node_outs : List ℕ) (occurs : Variables) (seen seen1 : Known) (hold hold1 : Hold) → ((x : ℕ) → behind x ≡ with b (among outs) x) → Binds out occurs b node_outs behind
      → After known types i out b outs occurs seen seen1 hold hold1 → After known types i out b node_outs occurs seen seen1 hold hold1
  after_binds out b behind outs node_outs occurs seen seen1 hold hold1 same binds a = record {
    own = a.own;
    exact = λ x v o q h. sym (binds x o q) ∙ same x ∙ a.exact x v o q h;
    typed = a.typed;
    bound = λ x s o q e. sym (binds x o q) ∙ same x ∙ a.bound x s o q e;
    knows = a.knows;
    same = a.same;
  }

-- Waits, and then a goal. What waits do: their variables get the values that are owed, which are owed no more.
pub record Waits (here : Set) (w : List Right) (hold hold1 : Hold) : Type 0 where
  pub moves : Moves here w [] always [] hold hold1
  pub other : (x : ℕ) → are_for w x ≡ false → value_at hold1.env x ≡ value_at hold.env x
  pub gone : (x c : ℕ) (o : Option Value) → are_for w x ≡ true → Owed hold1 x c o → ⊥
  pub signals : hold1.signals ≡ hold.signals
  pub cells : AreDistinct (map (λ (right : HeldWait). right.cell) hold.waits) → AreDistinct (map (λ (right : HeldWait). right.cell) hold1.waits)
  pub variables : AreDistinct (map (λ (right : HeldWait). right.variable) hold.waits) → AreDistinct (map (λ (right : HeldWait). right.variable) hold1.waits)

abbrev pub IsIn : List Right → List Right → Type 0
IsIn some all = (x : ℕ) → are_for some x ≡ true → are_for all x ≡ true

pub not_in_more : (x : ℕ) (some all : List Right) → IsIn some all → are_for all x ≡ false → are_for some x ≡ false
not_in_more x some all h k = not_for some x (λ e. clash (h x e) k)

abbrev pub AreApart : List Right → List Right → Type 0
AreApart first second = (x : ℕ) → are_for first x ≡ true → are_for second x ≡ true → ⊥

-- w is made of w1, which is waited for, and w2, which goes on
module _ (b : Bound) (here : Set) (w w1 w2 : List Right) (hold hold1 : Hold) (parts : Parts w w1 w2) (in1 : IsIn w1 w) (in2 : IsIn w2 w) (apart : AreApart w1 w2) where
  pub fit_waited : AreDistinct (variables_of w2) → Fit b here w hold → Moves here w1 [] always [] hold hold1 → Fit b (here_or here w1) w2 hold1
  fit_waited d f m = record { held = held; below = below; owed = owed; known = λ x c o e. f.known x c o (m.old x c o e); once = d } where
    held : (x : ℕ) → here_or here w1 x → (v : Value) × Here hold1 x v
    held x (inl h) = ((f.held x h).0, m.keep x (f.held x h).0 h (f.held x h).1)
    held x (inr h) =
        let e = f.owed x (in1 x h) in
        let g = m.got x e.0 e.1.0 h refl e.1.1 in
        (g.0, g.1.1)

    below : (x : ℕ) → here_or here w1 x → b x ≡ true
    below x (inl h) = f.below x h
    below x (inr h) = let e = f.owed x (in1 x h) in f.known x e.0 e.1.0 e.1.1

    owed : (x : ℕ) → are_for w2 x ≡ true → (c : ℕ) × ((o : Option Value) × Owed hold1 x c o)
    owed x h = let e = f.owed x (in2 x h) in (e.0, (e.1.0, m.rest x e.0 e.1.0 (not_for w1 x (λ k. apart x k h)) e.1.1))

  pub match_waited : (full : Env) → Fit b here w hold → Match w hold full → Waits here w1 hold hold1 → Match w2 hold1 full
  match_waited full f t p = record { same = same; comes = λ x c o h e. t.comes x c o (in2 x h) (p.moves.old x c o e) } where
    same : (x : ℕ) (v : Value) → Here hold1 x v → value_at full x ≡ Some v
    same x v h = elim (either_way (are_for w1 x)) as (λ _. value_at full x ≡ Some v) [
      | inl k ↦ let e = f.owed x (in1 x k) in
          let g = p.moves.got x e.0 e.1.0 k refl e.1.1 in
          let c = t.comes x e.0 e.1.0 (in1 x k) e.1.1 in
          c.1.1 ∙ sym c.1.0 ∙ g.1.0 ∙ sym g.1.1 ∙ h
      | inr k ↦ t.same x v (sym (p.other x k) ∙ h)
    ]

  pub ready_waited : (uses : ℕ → Bool) → Ready here w b uses → Ready (here_or here w1) w2 b uses
  ready_waited uses r x i p = on (r x i p) where
    second : (are_for w1 x ≡ true) ⊎ (are_for w2 x ≡ true) → here_or here w1 x ⊎ (are_for w2 x ≡ true)
    second (inl h) = inl (inr h)
    second (inr h) = inr h

    on : here x ⊎ (are_for w x ≡ true) → here_or here w1 x ⊎ (are_for w2 x ≡ true)
    on (inl h) = inl (inl h)
    on (inr h) = second (parts x h)

  pub moves_waited : (s : List Right) (later : ℕ → Bool) (outs : List ℕ) (hold2 : Hold) → Moves here w1 [] always [] hold hold1 → Moves (here_or here w1) w2 s later outs hold1 hold2 → Moves here w s later outs hold hold2
  moves_waited s later outs hold2 m n = record {
    keep = λ x v h e. n.keep x v (inl h) (m.keep x v h e);
    fresh = n.fresh;
    got = got;
    rest = λ x c o h e. n.rest x c o (not_in_more x w2 w in2 h) (m.rest x c o (not_in_more x w1 w in1 h) e);
    old = λ x c o e. m.old x c o (n.old x c o e);
    next = n.next ∙ m.next;
    names = λ k. n.names (m.names k);
    signed = λ x c h. m.signed x c (n.signed x c h);
    still = λ k. n.still k ∙ m.still (λ x. refl);
    unsigned = λ x h. n.unsigned x h ∙ m.unsigned x refl;
  } where
    got : (x c : ℕ) (o : Option Value) → are_for w x ≡ true → later x ≡ true → Owed hold x c o → (v : Value) × ((o ≡ Some v) × Here hold2 x v)
    got x c o h l e = on (parts x h) where
      on : (are_for w1 x ≡ true) ⊎ (are_for w2 x ≡ true) → (v : Value) × ((o ≡ Some v) × Here hold2 x v)
      on (inl k) = let g = m.got x c o k refl e in (g.0, (g.1.0, n.keep x g.0 (inr k) g.1.1))
      on (inr k) = n.got x c o k l (m.rest x c o (not_for w1 x (λ j. apart x j k)) e)

  -- Where the goal uses what is waited for.
  module _ (known : Module) (types i : Instance) (out occurs : Variables) (seen : Known) (all : AllUsed w1 occurs) where
    pub fine_waited : Fit b here w hold → Waits here w1 hold hold1 → Fine known types i out b occurs seen hold → Fine known types i out b occurs seen hold1
    fine_waited f p fine = record {
      exact = λ x v o h. elim (either_way (are_for w1 x)) as (λ _. b x ≡ true) [
        | inl k ↦ let e = f.owed x (in1 x k) in f.known x e.0 e.1.0 e.1.1
        | inr k ↦ fine.exact x v o (sym (p.other x k) ∙ h)
      ];
      outer = fine.outer;
      typed = λ x v h. elim (either_way (are_for w1 x)) as (λ _. HasType known.types v (replaced i (types x))) [
        | inl k ↦ let e = f.owed x (in1 x k) in fine.typed_owed x e.0 v (gives x v k h)
        | inr k ↦ fine.typed x v (sym (p.other x k) ∙ h)
      ];
      typed_owed = λ x c v e. fine.typed_owed x c v (p.moves.old x c (Some v) e);
      bound = fine.bound;
      knows = λ x s v e h. elim (either_way (are_for w1 x)) as (λ _. (vs : Values) × (fields s v ≡ Some vs)) [
        | inl k ↦ let d = f.owed x (in1 x k) in fine.knows_owed x d.0 s v (all x k) e (gives x v k h)
        | inr k ↦ fine.knows x s v e (sym (p.other x k) ∙ h)
      ];
      knows_owed = λ x c s v o e h. fine.knows_owed x c s v o e (p.moves.old x c (Some v) h);
    } where
      gives : (x : ℕ) (v : Value) (k : are_for w1 x ≡ true) → Here hold1 x v → Owed hold x (f.owed x (in1 x k)).0 (Some v)
      gives x v k h =
          let e = f.owed x (in1 x k) in
          let g = p.moves.got x e.0 e.1.0 k refl e.1.1 in
          subst (λ z. Owed hold x e.0 z) (g.1.0 ∙ sym g.1.1 ∙ h) e.1.1

    pub after_waited : (outs : List ℕ) (seen2 : Known) (hold2 : Hold) → Waits here w1 hold hold1 → After known types i out b outs occurs seen seen2 hold1 hold2 → After known types i out b outs occurs seen seen2 hold hold2
    after_waited outs seen2 hold2 p a = record {
      own = λ x v o h. sym (p.other x (not_for w1 x (λ k. clash (all x k) o))) ∙ a.own x v o h;
      exact = a.exact;
      typed = a.typed;
      bound = a.bound;
      knows = a.knows;
      same = a.same;
    }

-- a goal with the waits for what it uses, and at its end those for what is used behind it alone
module _ (uses later : ℕ → Bool) (here : Set) (w s s1 : List Right) (outs : List ℕ) (hold hold1 hold2 : Hold) where
  abbrev passed : ℕ → Bool
  passed x = later x && not (uses x)

  pub moves_closed : ((x : ℕ) → are_for s x ≡ false → are_for s1 x ≡ false) → Moves here (those uses w) s1 later outs hold hold1
      → Moves (here_behind here (those uses w) later outs) (those passed w) [] always [] hold1 hold2 → Moves here w s later outs hold hold2
  moves_closed none m n = record {
    keep = λ x v h e. n.keep x v (inl h) (m.keep x v h e);
    fresh = λ x h. let g = m.fresh x h in (g.0, n.keep x g.0 (inr (inl h)) g.1);
    got = λ x c o h l e. got x c o h l e (either_way (uses x));
    rest = λ x c o h e. n.rest x c o (those_within passed w x h) (m.rest x c o (those_within uses w x h) e);
    old = λ x c o e. m.old x c o (n.old x c o e);
    next = n.next ∙ m.next;
    names = λ k. n.names (m.names k);
    signed = λ x c h. m.signed x c (n.signed x c h);
    still = λ k. n.still (λ x. refl) ∙ m.still (λ x. none x (k x));
    unsigned = λ x h. n.unsigned x refl ∙ m.unsigned x (none x h);
  } where
    got : (x c : ℕ) (o : Option Value) → are_for w x ≡ true → later x ≡ true → Owed hold x c o → (uses x ≡ true) ⊎ (uses x ≡ false) → (v : Value) × ((o ≡ Some v) × Here hold2 x v)
    got x c o h l e (inl u) =
        let i = in_those uses w x h u in
        let g = m.got x c o i l e in
        (g.0, (g.1.0, n.keep x g.0 (inr (inr (i, l))) g.1.1))
    got x c o h l e (inr u) = n.got x c o (in_those passed w x h (both_are (later x) (not (uses x)) l (is_not (uses x) u))) refl (m.rest x c o (not_those uses w x (λ i p. clash p u)) e)

-- what is so behind a goal hangs on the values alone
pub after_same : (known : Module) (types i : Instance) (out : Variables) (b : Bound) (outs : List ℕ) (occurs : Variables) (seen seen1 : Known) (hold hold1 hold2 : Hold) → hold2.env ≡ hold1.env
    → After known types i out b outs occurs seen seen1 hold hold1 → After known types i out b outs occurs seen seen1 hold hold2
after_same known types i out b outs occurs seen seen1 hold hold1 hold2 e a = record {
  own = λ x v o h. a.own x v o (at x v h);
  exact = λ x v o q h. a.exact x v o q (at x v h);
  typed = λ x v h. a.typed x v (at x v h);
  bound = a.bound;
  knows = λ x s v k h. a.knows x s v k (at x v h);
  same = a.same;
} where
  at : (x : ℕ) (v : Value) → Here hold2 x v → Here hold1 x v
  at x v h = sym (ap (λ n. value_at n x) e) ∙ h
