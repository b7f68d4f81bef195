-- Each step on a yard keeps its rule.
use Rattle.std.proofs.Common.{◌≡◌, ℕ, zero, suc, ◌+◌, ◌<◌, ◌≢◌, ◌⊎◌, inl, inr, cond, eqb, eq-eqb, ne_eqb, List, [], ◌∷◌, ◌++◌, map, length, get_or, set, replicate, sym, refl, ap, ◌∙◌, subst, ⊎_elim, arith, length-set}
use mathlib.Core.Option.{none, some, some-injective, some-ne-none}
use mathlib.Core.Option as maybe
use lib.ListN.{get_elem?, length-map, length-replicate}
use Rattle.std.specs.Prelude.{Option, Some, None}
use Rattle.atomic_table.specs.Table.{State, Me, rest, takes, gives, keeps, Allows, Splits, opening}
use Rattle.atomic_table.proofs.Lists.{at_set, set_here, set_else, set_again}
use Rattle.merc_yard.specs.declared.spot.Label.{Label}
use Rattle.merc_yard.specs.declared.spot.Spot.{Spot}
use Rattle.merc_yard.specs.declared.spot.Fill.{Fill}
use Rattle.merc_yard.specs.declared.spot.Fill.TheVariants.{Dealer, Vacant, Filled, Held}
use Rattle.merc_yard.specs.Slots.{label, nowhere, IsHome, Fits, Kept, Opened, GaveFilled, GaveEmpty, Moved}

at_end : {A : Type 0} (l : List A) (a b : A) (j : ℕ) → get_elem? (l ++ a ∷ []) j ≡ some b → (get_elem? l j ≡ some b) ⊎ ((j ≡ length l) × (a ≡ b))
at_end [] a b zero e = inr (refl, some-injective a b e)
at_end [] a b (suc j) e = absurd (some-ne-none b (sym e))
at_end (x ∷ xs) a b zero e = inl e
at_end (x ∷ xs) a b (suc j) e = ⊎_elim inl (λ t. inr (ap suc t.0, t.1)) (at_end xs a b j e)

blank : {T : Type 0} (n i : ℕ) → i < n → get_elem? (map some (replicate {A = Option T} n None)) i ≡ some (some None)
blank zero i near = absurd (omega arith)
blank (suc n) zero near = refl
blank (suc n) (suc i) near = blank n i (omega arith)

-- a list of slots begins with what a step took
pub still : {S : Type 0} (l m : List (ℕ × S)) (x : ℕ × S) → l ≡ x ∷ m → l ≡ x ∷ rest l
still l m x is = is ∙ ap (λ t. x ∷ t) (sym (ap rest is))

module _ {T : Type 0} (lies : Spot → T → Type 0) where
  -- another berth stays as it was when the slot i of the seat `id` changes
  other_fits : (homes : List (maybe.Option (Option T))) (h : maybe.Option (Option T)) (owner : ℕ → ℕ) (dealer next id i j k : ℕ) (o : Spot) → owner i ≡ id → j ≢ id
      → (f : Fill) → Fits lies homes owner dealer next j k o f → Fits lies (set homes i h) owner dealer next j k o f
  other_fits homes h owner dealer next id i j k o mine other Dealer x = x
  other_fits homes h owner dealer next id i j k o mine other Vacant x = (x.0, x.1, λ near. let y = x.2 (subst (λ (n : ℕ). k < n) (length-set homes i h) near) in (y.0, set_else homes i k h (λ e. other (sym x.0 ∙ ap owner e ∙ mine)) ∙ y.1, y.2))
  other_fits homes h owner dealer next id i j k o mine other Filled x = (x.0, x.1, λ near. let y = x.2 (subst (λ (n : ℕ). k < n) (length-set homes i h) near) in (y.0, set_else homes i k h (λ e. other (sym x.0 ∙ ap owner e ∙ mine)) ∙ y.1, y.2))
  other_fits homes h owner dealer next id i j k o mine other Held x = x

  turned : (s : State (Option T) Label) (r : Kept lies s) (id i : ℕ) (h : maybe.Option (Option T)) (f : Fill) (o : Spot) → r.owner i ≡ id → i < r.next → Fits lies (set s.homes i h) r.owner r.dealer r.next id i o f
      → Kept lies record { words = set s.words 0 (get_or s.words 0 0); homes = set s.homes i h; views = set s.views id (label i f o) }
  turned s r id i h f o mine dealt fits = record {
    owner = r.owner;
    dealer = r.dealer;
    next = r.next;
    each_view = λ j v e. ⊎_elim (λ (x : (j ≡ id) × (label i f o ≡ v)). subst (λ (y : ℕ × Label). Fits lies (set s.homes i h) r.owner r.dealer r.next y.0 y.1.slot y.1.spot y.1.fill) (λ k. (sym x.0 k, x.1 k)) fits)
        (λ (x : (j ≢ id) × (get_elem? s.views j ≡ some v)). other_fits s.homes h r.owner r.dealer r.next id i j v.slot v.spot mine x.0 v.fill (r.each_view j v x.1)) (at_set s.views id j (label i f o) v e);
    rest_vacant = λ k far near. set_else s.homes i k h (λ e. omega arith) ∙ r.rest_vacant k far (subst (λ (n : ℕ). k < n) (length-set s.homes i h) near);
  }

  -- a berth takes its slot
  pub unlocks : (n id : ℕ) (me : Me (Option T) Label) (i : ℕ) (f : Fill) (o new : Spot) → i < n → me.0 ≡ label i f o
      → ((homes : List (maybe.Option (Option T))) (owner : ℕ → ℕ) (d x : ℕ) → Fits lies homes owner d x id i o f → (owner i ≡ id) × (i < x) × IsHome lies homes owner d x id i o f)
      → Allows (Kept lies) n id me 0 (λ x. x) (λ _ m. Opened lies new me m)
  unlocks n id me i f o new near is cut s r wide at _ = let fits = cut s.homes r.owner r.dealer r.next (r.each_view id (label i f o) (at ∙ ap some is)) in let home = fits.2 (subst (λ (k : ℕ). i < k) (sym wide) near) in (
    label i Held new,
    takes i home.0,
    home.1,
    turned s r id i none Held new fits.0 fits.1 (fits.0, fits.1),
    subst (λ (v : Label). Opened lies new (v, me.1) (label i Held new, (i, home.0) ∷ me.1)) (sym is) (refl, (home.0, refl, home.2)),
  )

  -- gives it home with something in it
  pub fills : (n id : ℕ) (me : Me (Option T) Label) (i : ℕ) (o : Spot) (x : T) → lies o x → me ≡ (label i Held o, (i, Some x) ∷ []) → Allows (Kept lies) n id me 0 (λ y. y) (λ _ m. GaveFilled me m)
  fills n id me i o x fine is = subst (λ (m : Me (Option T) Label). Allows (Kept lies) n id m 0 (λ y. y) (λ _ u. GaveFilled m u)) (sym is) (λ s r _ at _. let fits = r.each_view id (label i Held o) at in (
    label i Filled o,
    gives,
    tt,
    turned s r id i (some (Some x)) Filled o fits.0 fits.1 (fits.0, fits.1, λ near. (Some x, set_here s.homes i _ (subst (λ (k : ℕ). i < k) (length-set s.homes i _) near), (x, refl, fine))),
    (refl, refl),
  ))

  -- gives it home empty
  pub empties : (n id : ℕ) (me : Me (Option T) Label) (i : ℕ) (o : Spot) → me ≡ (label i Held o, (i, None) ∷ []) → Allows (Kept lies) n id me 0 (λ y. y) (λ _ m. GaveEmpty me m)
  empties n id me i o is = subst (λ (m : Me (Option T) Label). Allows (Kept lies) n id m 0 (λ y. y) (λ _ u. GaveEmpty m u)) (sym is) (λ s r _ at _. let fits = r.each_view id (label i Held o) at in (
    label i Vacant o,
    gives,
    tt,
    turned s r id i (some None) Vacant o fits.0 fits.1 (fits.0, fits.1, λ near. (None, set_here s.homes i _ (subst (λ (k : ℕ). i < k) (length-set s.homes i _) near), refl)),
    (refl, refl),
  ))

  -- a vacant berth goes on to another spot
  pub moves : (n id : ℕ) (me : Me (Option T) Label) (i : ℕ) (o new : Spot) → me ≡ (label i Vacant o, []) → Allows (Kept lies) n id me 0 (λ y. y) (λ _ m. Moved new me m)
  moves n id me i o new is = subst (λ (m : Me (Option T) Label). Allows (Kept lies) n id m 0 (λ y. y) (λ _ u. Moved new m u)) (sym is) (λ s r _ at _. let fits = r.each_view id (label i Vacant o) at in (
    label i Vacant new,
    keeps,
    tt,
    record {
      owner = r.owner;
      dealer = r.dealer;
      next = r.next;
      each_view = λ j v e. ⊎_elim (λ (x : (j ≡ id) × (label i Vacant new ≡ v)). subst (λ (y : ℕ × Label). Fits lies s.homes r.owner r.dealer r.next y.0 y.1.slot y.1.spot y.1.fill) (λ k. (sym x.0 k, x.1 k)) fits)
          (λ (x : (j ≢ id) × (get_elem? s.views j ≡ some v)). r.each_view j v x.1) (at_set s.views id j (label i Vacant new) v e);
      rest_vacant = r.rest_vacant;
    },
    (refl, refl),
  ))

  dealt_fits : (homes : List (maybe.Option (Option T))) (owner owner' : ℕ → ℕ) (d next j k : ℕ) (o : Spot) → ((i : ℕ) → i < next → owner' i ≡ owner i) → j ≢ d
      → (f : Fill) → Fits lies homes owner d next j k o f → Fits lies homes owner' d (next + 1) j k o f
  dealt_fits homes owner owner' d next j k o same other Dealer x = absurd (other x.0)
  dealt_fits homes owner owner' d next j k o same other Vacant x = let l = x.1 in (same k l ∙ x.0, omega arith, x.2)
  dealt_fits homes owner owner' d next j k o same other Filled x = let l = x.1 in (same k l ∙ x.0, omega arith, x.2)
  dealt_fits homes owner owner' d next j k o same other Held x = let l = x.1 in (same k l ∙ x.0, omega arith)

  pub cuts : (id i : ℕ) → Splits (Kept lies) id (label i Dealer nowhere) (label (i + 1) Dealer nowhere) (label i Vacant nowhere)
  cuts id i s r at = let mine = r.each_view id (label i Dealer nowhere) at in let here : i ≡ r.next = mine.1 in let vs : List Label = set s.views id (label (i + 1) Dealer nowhere) in let owner' : ℕ → ℕ = λ k. cond (eqb k i) (length vs) (r.owner k) in
      let F : ℕ → Label → Type 0 = λ j v. Fits lies s.homes owner' r.dealer (r.next + 1) j v.slot v.spot v.fill in record {
        owner = owner';
        dealer = r.dealer;
        next = r.next + 1;
        each_view = λ j v e. ⊎_elim (λ old. ⊎_elim (λ (x : (j ≡ id) × (label (i + 1) Dealer nowhere ≡ v)). subst (F j) x.1 (x.0 ∙ mine.0, ap (λ (z : ℕ). z + 1) here))
            (λ (x : (j ≢ id) × (get_elem? s.views j ≡ some v)). dealt_fits s.homes r.owner owner' r.dealer r.next j v.slot v.spot (λ k below. ap (λ t. cond t (length vs) (r.owner k)) (ne_eqb k i (λ same. omega arith)))
            (λ same. x.0 (same ∙ sym mine.0)) v.fill (r.each_view j v x.1)) (at_set s.views id j (label (i + 1) Dealer nowhere) v old))
            (λ (x : (j ≡ length vs) × (label i Vacant nowhere ≡ v)). subst (F j) x.1 (ap (λ t. cond t (length vs) (r.owner i)) (eq-eqb i i refl) ∙ sym x.0, omega arith, λ near. (None, r.rest_vacant i (omega arith) near, refl)))
            (at_end vs (label i Vacant nowhere) v j e);
        rest_vacant = λ k far near. r.rest_vacant k (omega arith) near;
      }

  pub opens : (ws : List ℕ) (n : ℕ) → Kept lies (opening ws (replicate n None) (label 0 Dealer nowhere))
  opens ws n = record {
    owner = λ _. 0;
    dealer = 0;
    next = 0;
    each_view = λ j v e. ⊎_elim (λ (x : get_elem? [] j ≡ some v). absurd (some-ne-none v (sym x)))
        (λ (x : (j ≡ 0) × (label 0 Dealer nowhere ≡ v)). subst (λ (u : Label). Fits lies (map some (replicate n None)) (λ _. 0) 0 0 j u.slot u.spot u.fill) x.1 (x.0, refl)) (at_end [] (label 0 Dealer nowhere) v j e);
    rest_vacant = λ i _ near. blank n i (subst (λ (k : ℕ). i < k) (length-map (replicate n None) some ∙ length-replicate n None) near);
  }
