-- Behind a condition, into which no rights go: what a branch has for the part that follows.
use Rattle.std.proofs.Common.{◌≡◌, ◌⊎◌, inl, inr, ℕ, ◌<◌, ◌==◌, Bool, true, false, ◌||◌, if◌then◌else◌, List, [], length, map, Some, refl, ap, sym, subst, ◌∙◌}
use Rattle.std.specs.List.{filter}
use Rattle.merc_base.specs.Category.{can_fail_of, most_of}
use Rattle.merc_base.specs.declared.category.Category.{Category}
use Rattle.merc_base.specs.declared.category.Most.TheVariants.{Zero}
use Rattle.merc_tree.specs.declared.declarations.Module.{Module}
use Rattle.merc_grading.specs.Categories.{then_category, conditional_category}
use Rattle.merc_grading.specs.Known.{Known}
use Rattle.merc_order.specs.Bound.{Bound, with, among}
use Rattle.merc_order_laws.specs.Bindings.{Variables}
use Rattle.merc_order_laws.proofs.Facts.{clash, or_cases}
use Rattle.merc_value.specs.Value.{Value}
use Rattle.merc_meaning.specs.Trace.{Env}
use Rattle.merc_meaning.specs.Steps.{value_at}
use Rattle.merc_program_laws.proofs.Values.{Instance}
use Rattle.merc_program_laws.proofs.Maxima.{then_sure, then_zero, decided, decided_zero, decided_sure}
use Rattle.merc_rights.specs.Rights.{Right, those}
use Rattle.merc_par_split.specs.Sites.{are_for}
use Rattle.merc_plan.specs.Branch.{HeldSignal, Hold, Gift}
use Rattle.merc_plan.proofs.Holds.{StillHeld}
use Rattle.merc_script_laws.proofs.Bonds.{Set, Here, signs, Fit, Fine, After, Match, Names, Moves, Kept, Ready, Rightful}
use Rattle.merc_script_laws.proofs.Steps.{joins_left, joins_right, fine_rest}

-- Categories.

sure_case : (c t e : Category) (b : Bool) → can_fail_of c ≡ b → can_fail_of (if b then decided c t e else then_category c t) ≡ false
    → ((can_fail_of c ≡ false) ⊎ (can_fail_of e ≡ false)) × ((most_of c ≡ Zero → ⊥) → can_fail_of t ≡ false)
sure_case c t e true p h = let r = decided_sure c t e h in (inr r.1, λ n. r.0)
sure_case c t e false p h = let r = then_sure c t h in (inl r.0, λ n. elim r.1 as (λ _. can_fail_of t ≡ false) [ inl z ↦ absurd (n z) | inr k ↦ k ])

-- of an if-then-else that cannot fail, the condition or the else part cannot, and where the condition may answer the then part cannot
pub condition_sure : (c t e : Category) → can_fail_of (conditional_category c t e) ≡ false → ((can_fail_of c ≡ false) ⊎ (can_fail_of e ≡ false)) × ((most_of c ≡ Zero → ⊥) → can_fail_of t ≡ false)
condition_sure c t e h = sure_case c t e (can_fail_of c) refl h

then_case : (c t e : Category) (b : Bool) → most_of (if b then decided c t e else then_category c t) ≡ Zero → (most_of c ≡ Zero) ⊎ (most_of t ≡ Zero)
then_case c t e true h = (decided_zero c t e h).1
then_case c t e false h = then_zero c t h

pub then_part_zero : (c t e : Category) → most_of (conditional_category c t e) ≡ Zero → (most_of c ≡ Zero) ⊎ (most_of t ≡ Zero)
then_part_zero c t e h = then_case c t e (can_fail_of c) h

else_case : (c t e : Category) (b : Bool) → b ≡ true → most_of (if b then decided c t e else then_category c t) ≡ Zero → most_of e ≡ Zero
else_case c t e true p h = (decided_zero c t e h).0
else_case c t e false p h = clash p refl

pub else_part_zero : (c t e : Category) → can_fail_of c ≡ true → most_of (conditional_category c t e) ≡ Zero → most_of e ≡ Zero
else_part_zero c t e p h = else_case c t e (can_fail_of c) p h

-- Rights.

abbrev pub here_then : Set → List ℕ → Set
here_then here outs x = here x ⊎ (among outs x ≡ true)

-- a goal without rights waits for none of these, where there are none
no_waits : (here : Set) (w : List Right) (later last : ℕ → Bool) (outs : List ℕ) (hold hold1 : Hold) → ((x : ℕ) → are_for w x ≡ false) → Moves here [] [] later outs hold hold1 → Moves here w [] last outs hold hold1
no_waits here w later last outs hold hold1 none m = record {
  keep = m.keep;
  fresh = m.fresh;
  got = λ x c o h l e. clash h (none x);
  rest = λ x c o h e. m.rest x c o refl e;
  old = m.old;
  next = m.next;
  names = m.names;
  signed = m.signed;
  still = m.still;
  unsigned = m.unsigned;
}

pub signs_then : (here : Set) (later : ℕ → Bool) (outs : List ℕ) (hold hold1 : Hold) → Moves here [] [] later outs hold hold1 → (x : ℕ) → signs x hold1 ≡ signs x hold
signs_then here later outs hold hold1 m x = ap (λ (l : List HeldSignal). map (λ (right : HeldSignal). right.cell) (filter (λ (right : HeldSignal). right.variable == x) l)) (m.still (λ y. refl))

module _ (b : Bound) (here : Set) (w : List Right) (later : ℕ → Bool) (outs : List ℕ) (hold hold1 : Hold) (m : Moves here [] [] later outs hold hold1) where
  pub fit_then : Fit b here w hold → Fit (with b (among outs)) (here_then here outs) w hold1
  fit_then f = record {
    held = held;
    below = below;
    owed = λ x h. let e = f.owed x h in (e.0, (e.1.0, m.rest x e.0 e.1.0 refl e.1.1));
    known = λ x c o e. joins_left b outs x (f.known x c o (m.old x c o e));
    once = f.once;
  } where
    held : (x : ℕ) → here_then here outs x → (v : Value) × Here hold1 x v
    held x (inl h) = ((f.held x h).0, m.keep x (f.held x h).0 h (f.held x h).1)
    held x (inr h) = m.fresh x h

    below : (x : ℕ) → here_then here outs x → with b (among outs) x ≡ true
    below x (inl h) = joins_left b outs x (f.below x h)
    below x (inr h) = joins_right b outs x h

  pub match_then : (full full1 : Env) → Match w hold full → ((x : ℕ) (v : Value) → Here hold1 x v → value_at full1 x ≡ Some v) → Kept full full1 → Match w hold1 full1
  match_then full full1 t same kept = record { same = same; comes = λ x c o h e. let g = t.comes x c o h (m.old x c o e) in (g.0, (g.1.0, kept x g.0 g.1.1)) }

  pub ready_then : (uses : ℕ → Bool) → Ready here w b uses → Ready (here_then here outs) w (with b (among outs)) uses
  ready_then uses r x u h = elim (or_cases (b x) (among outs x) h) as (λ _. here_then here outs x ⊎ (are_for w x ≡ true)) [
    | inl p ↦ elim (r x u p) as (λ _. here_then here outs x ⊎ (are_for w x ≡ true)) [ inl k ↦ inl (inl k) | inr k ↦ inr k ]
    | inr p ↦ inl (inr p)
  ]

  pub moves_then : (s : List Right) (last : ℕ → Bool) (outs1 : List ℕ) (hold2 : Hold) → Moves (here_then here outs) w s last outs1 hold1 hold2 → Moves here w s last outs1 hold hold2
  moves_then s last outs1 hold2 n = record {
    keep = λ x v h e. n.keep x v (inl h) (m.keep x v h e);
    fresh = n.fresh;
    got = λ x c o h l e. n.got x c o h l (m.rest x c o refl e);
    rest = λ x c o h e. n.rest x c o h (m.rest x c o refl e);
    old = λ x c o e. m.old x c o (n.old x c o e);
    next = n.next ∙ m.next;
    names = λ k. n.names (m.names k);
    signed = λ x c h. m.signed x c (n.signed x c h);
    still = λ k. n.still k ∙ m.still (λ x. refl);
    unsigned = λ x h. n.unsigned x h ∙ m.unsigned x refl;
  }

  -- where the condition uses nothing of what is still waited for
  pub fine_then : (known : Module) (types i : Instance) (out uses rest_uses : Variables) (seen seen1 : Known) → ((x : ℕ) → among outs x ≡ true → uses x ≡ true) → ((x : ℕ) → are_for (those uses w) x ≡ false) → Fit b here w hold
      → Ready here w b (with uses rest_uses) → Names hold → Fine known types i out b (with uses rest_uses) seen hold → After known types i (with out rest_uses) b outs uses seen seen1 hold hold1
      → Fine known types i (with out uses) (with b (among outs)) rest_uses seen1 hold1
  fine_then known types i out uses rest_uses seen seen1 sub none f r names fine a =
      fine_rest uses rest_uses later b here w [] outs hold hold1 known types i out seen seen1 sub f r names (no_waits here (those uses w) later (λ x. later x || rest_uses x) outs hold hold1 none m) fine a

-- the rights that are left behind a condition
pub rightful_then : (here : Set) (w s : List Right) (later : ℕ → Bool) (outs outs1 : List ℕ) (rights : ℕ → Bool) (held held1 : List ℕ) (g g1 : List Gift) (hold hold1 : Hold) → Names hold → Rightful w s outs1 rights held g hold
    → StillHeld hold.next held g held1 g1 → Moves here [] [] later outs hold hold1 → Rightful w s outs1 rights held1 g1 hold1
rightful_then here w s later outs outs1 rights held held1 g g1 hold hold1 names q st m = record {
  to_signal = λ x c h k. let r = q.to_signal x c h (m.signed x c k) in (r.0, st.gifts_same c ∙ r.1);
  counts = λ x h. q.counts x h ∙ ap length (sym (signs_then here later outs hold hold1 m x));
  to_wait = λ x c o h e. let l = m.old x c o e in st.still c (names.low_owed x c o l) (q.to_wait x c o h l);
  within = q.within;
  low = λ c h. subst (λ n. c < n) (sym m.next) (q.low c h);
}

-- the rights that are left where a condition has failed
pub rightful_else : (w s : List Right) (outs : List ℕ) (rights : ℕ → Bool) (held held1 : List ℕ) (g g1 : List Gift) (hold : Hold) → Names hold → Rightful w s outs rights held g hold → StillHeld hold.next held g held1 g1
    → Rightful w s outs rights held1 g1 hold
rightful_else w s outs rights held held1 g g1 hold names q st = record {
  to_signal = λ x c h k. let r = q.to_signal x c h k in (r.0, st.gifts_same c ∙ r.1);
  counts = q.counts;
  to_wait = λ x c o h e. st.still c (names.low_owed x c o e) (q.to_wait x c o h e);
  within = q.within;
  low = q.low;
}

-- variables that occur outside more are so still
pub fine_wider : (known : Module) (types i : Instance) (out out1 : Variables) (b : Bound) (occurs : Variables) (seen : Known) (hold : Hold) → ((x : ℕ) → out x ≡ true → out1 x ≡ true) → Fine known types i out b occurs seen hold
    → Fine known types i out1 b occurs seen hold
fine_wider known types i out out1 b occurs seen hold more fine = record {
  exact = fine.exact;
  outer = λ x o h. more x (fine.outer x o h);
  typed = fine.typed;
  typed_owed = fine.typed_owed;
  bound = fine.bound;
  knows = fine.knows;
  knows_owed = fine.knows_owed;
}
