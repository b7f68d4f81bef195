-- Booleans, and how often variables stand in lists.
use Rattle.std.proofs.Common.{◌≡◌, ◌⊎◌, inl, inr, ℕ, zero, suc, ◌<◌, ◌≤◌, ◌+◌, Bool, true, false, not, ◌==◌, ◌||◌, ◌&&◌, if◌then◌else◌, nat_lt, List, [], ◌∷◌, ◌++◌, length, filter, refl, ap, sym, subst, ◌∙◌, arith}
use Rattle.std.proofs.lemmas.Bool.Decides.{Decides-eqb, Decides-ltb}
use Rattle.merc_goal_tree.specs.Variables.{count}
use Rattle.merc_order.specs.Bound.{with, among, each_once}
use Rattle.merc_order_laws.specs.Bindings.{Variables, AreFree}
use Rattle.merc_order_laws.specs.Laws.{Outer}

pub clash : {A : Type 0} {b : Bool} → b ≡ true → b ≡ false → A
clash p q = absurd (cc)

pub or_left : (a b : Bool) → a ≡ true → (a || b) ≡ true
or_left true b h = refl
or_left false b h = clash h refl

pub or_right : (a b : Bool) → b ≡ true → (a || b) ≡ true
or_right true b h = refl
or_right false b h = h

pub or_cases : (a b : Bool) → (a || b) ≡ true → (a ≡ true) ⊎ (b ≡ true)
or_cases true b h = inl refl
or_cases false b h = inr h

pub and_left : (a b : Bool) → (a && b) ≡ true → a ≡ true
and_left true b h = refl
and_left false b h = h

pub and_right : (a b : Bool) → (a && b) ≡ true → b ≡ true
and_right true b h = h
and_right false b h = clash h refl

pub either_way : (b : Bool) → (b ≡ true) ⊎ (b ≡ false)
either_way true = inl refl
either_way false = inr refl

pub not_true : (b : Bool) → (b ≡ true → ⊥) → b ≡ false
not_true true h = absurd (h refl)
not_true false h = refl

pub same_bool : (a b : Bool) → (a ≡ true → b ≡ true) → (b ≡ true → a ≡ true) → a ≡ b
same_bool true b f g = sym (f refl)
same_bool false true f g = clash (g refl) refl
same_bool false false f g = refl

pub or_same : (a b c d : Bool) → a ≡ c → b ≡ d → (a || b) ≡ (c || d)
or_same a b c d p q = cc

pub and_same : (a b c d : Bool) → a ≡ c → b ≡ d → (a && b) ≡ (c && d)
and_same a b c d p q = cc

pub or_assoc : (a b c : Bool) → ((a || b) || c) ≡ (a || (b || c))
or_assoc true b c = refl
or_assoc false b c = refl

pub among_append : (v : ℕ) (xs ys : List ℕ) → among (xs ++ ys) v ≡ (among xs v || among ys v)
among_append v [] ys = refl
among_append v (x ∷ xs) ys = ap (λ (k : Bool). (v == x) || k) (among_append v xs ys) ∙ sym (or_assoc (v == x) (among xs v) (among ys v))

filter_case : (v x : ℕ) (p : ℕ → Bool) (b : Bool) (rest : List ℕ) (r : Bool) → p x ≡ b → among rest v ≡ (r && p v) → among (if b then x ∷ rest else rest) v ≡ (((v == x) || r) && p v)
filter_case v x p true rest r e h = ap (λ (k : Bool). (v == x) || k) h ∙ spread (v == x) r (p v) (λ k. subst (λ (z : ℕ). p z ≡ true) (sym ((Decides-eqb v x).0 k)) e) where
  spread : (a b c : Bool) → (a ≡ true → c ≡ true) → (a || (b && c)) ≡ ((a || b) && c)
  spread true b c f = sym (f refl)
  spread false b c f = refl
filter_case v x p false rest r e h = h ∙ spread (v == x) r (p v) (λ k. subst (λ (z : ℕ). p z ≡ false) (sym ((Decides-eqb v x).0 k)) e) where
  spread : (a b c : Bool) → (a ≡ true → c ≡ false) → (b && c) ≡ ((a || b) && c)
  spread true true c f = refl
  spread true false c f = sym (f refl)
  spread false b c f = refl

pub among_filter : (v : ℕ) (p : ℕ → Bool) (xs : List ℕ) → among (filter p xs) v ≡ (among xs v && p v)
among_filter v p [] = refl
among_filter v p (x ∷ xs) = filter_case v x p (p x) (filter p xs) (among xs v) refl (among_filter v p xs)

count_case : (v : ℕ) (b : Bool) (x : ℕ) (rest : List ℕ) (k : ℕ) → length rest ≡ k → length (if b then x ∷ rest else rest) ≡ (if b then suc k else k)
count_case v true x rest k h = ap suc h
count_case v false x rest k h = h

count_step : (v x : ℕ) (xs : List ℕ) → count v (x ∷ xs) ≡ (if x == v then suc (count v xs) else count v xs)
count_step v x xs = count_case v (x == v) x (filter (λ other. other == v) xs) (count v xs) refl

plus_case : (b : Bool) (m n k : ℕ) → m ≡ n + k → (if b then suc m else m) ≡ (if b then suc n else n) + k
plus_case true m n k h = omega (arith, h)
plus_case false m n k h = h

pub count_append : (v : ℕ) (xs ys : List ℕ) → count v (xs ++ ys) ≡ count v xs + count v ys
count_append v [] ys = omega (arith)
count_append v (x ∷ xs) ys =
    count_step v x (xs ++ ys) ∙ plus_case (x == v) (count v (xs ++ ys)) (count v xs) (count v ys) (count_append v xs ys) ∙ ap (λ (k : ℕ). k + count v ys) (sym (count_step v x xs))

pos_case : (b : Bool) (k : ℕ) → b ≡ true → 0 < (if b then suc k else k)
pos_case true k h = omega (arith)
pos_case false k h = clash h refl

up_case : (b : Bool) (k : ℕ) → 0 < k → 0 < (if b then suc k else k)
up_case true k h = omega (arith)
up_case false k h = h

pub turned : (v x : ℕ) → (v == x) ≡ true → (x == v) ≡ true
turned v x h = (Decides-eqb x v).1 (sym ((Decides-eqb v x).0 h))

pub among_counts : (v : ℕ) (xs : List ℕ) → among xs v ≡ true → 0 < count v xs
among_counts v [] h = clash h refl
among_counts v (x ∷ xs) h = subst (λ (k : ℕ). 0 < k) (sym (count_step v x xs)) (elim (or_cases (v == x) (among xs v) h) as (λ _. 0 < (if x == v then suc (count v xs) else count v xs)) [
  | inl k ↦ pos_case (x == v) (count v xs) (turned v x k)
  | inr k ↦ up_case (x == v) (count v xs) (among_counts v xs k)
])

down_case : (b c : Bool) (k : ℕ) → (b ≡ true → c ≡ true) → 0 < (if b then suc k else k) → (c ≡ true) ⊎ (0 < k)
down_case true c k f h = inl (f refl)
down_case false c k f h = inr h

pub counts_among : (v : ℕ) (xs : List ℕ) → 0 < count v xs → among xs v ≡ true
counts_among v [] h = absurd (omega (arith, h))
counts_among v (x ∷ xs) h = elim (down_case (x == v) (v == x) (count v xs) (turned x v) (subst (λ (k : ℕ). 0 < k) (count_step v x xs) h)) as (λ _. among (x ∷ xs) v ≡ true) [
  | inl k ↦ or_left (v == x) (among xs v) k
  | inr k ↦ or_right (v == x) (among xs v) (counts_among v xs k)
]

pub lt_is : (m n : ℕ) → m < n → nat_lt m n ≡ true
lt_is m n h = (Decides-ltb m n).1 h

pub not_counted : (v : ℕ) (ys : List ℕ) → among ys v ≡ false → count v ys ≡ 0
not_counted v ys h = zero_case (count v ys) (λ k. clash (counts_among v ys k) h) where
  zero_case : (n : ℕ) → (0 < n → ⊥) → n ≡ 0
  zero_case zero f = refl
  zero_case (suc n) f = absurd (f (omega (arith)))

-- Parts of what occurs: what is outside a part is what is outside the whole, or occurs in the other part.
outer_case : (a o : Bool) (v : ℕ) (t n m k : ℕ) → (a ≡ true → 0 < m) → (a ≡ false → m ≡ 0) → k ≡ n + m → k ≤ t → o ≡ nat_lt k t → (o || a) ≡ nat_lt n t
outer_case true o v t n m k p q e l h = or_right o true refl ∙ sym (lt_is n t (omega (arith, p refl, e, l)))
outer_case false o v t n m k p q e l h = right_false o ∙ h ∙ ap (λ (z : ℕ). nat_lt z t) (omega (arith, q refl, e)) where
  right_false : (b : Bool) → (b || false) ≡ b
  right_false true = refl
  right_false false = refl

-- some are these and those together
abbrev pub Together : List ℕ → List ℕ → List ℕ → Type 0
Together all xs ys = (v : ℕ) → count v all ≡ count v xs + count v ys

pub together_left : (all xs ys : List ℕ) → Together all xs ys → (v : ℕ) → among xs v ≡ true → among all v ≡ true
together_left all xs ys t v h = counts_among v all (omega (arith, t v, among_counts v xs h))

pub together_turned : (all xs ys : List ℕ) → Together all xs ys → Together all ys xs
together_turned all xs ys t v = omega (arith, t v)

pub outer_part : (total : ℕ → ℕ) (out rest : Variables) (all xs ys : List ℕ) → Together all xs ys → ((v : ℕ) → rest v ≡ among ys v) → Outer total out all → Outer total (with out rest) xs
outer_part total out rest all xs ys t r o = (
  λ v h. ap (λ (k : Bool). out v || k) (r v) ∙ outer_case (among ys v) (out v) v (total v) (count v xs) (count v ys) (count v all) (λ k. among_counts v ys k) (λ k. not_counted v ys k) (t v) (o.1 v) (o.0 v (together_left all xs ys t v h)),
  λ v. omega (arith, t v, o.1 v),
)

-- Each once.

once_case : (v x : ℕ) (k r : Bool) → k ≡ (r && not (v == x)) → ((v == x) || k) ≡ ((v == x) || r)
once_case v x k r h = h2 (v == x) k r h where
  h2 : (e k r : Bool) → k ≡ (r && not e) → (e || k) ≡ (e || r)
  h2 true k r h = refl
  h2 false k true h = h
  h2 false k false h = h

pub among_once : (v : ℕ) (xs : List ℕ) → among (each_once xs) v ≡ among xs v
among_once v [] = refl
among_once v (x ∷ xs) =
    once_case v x (among (filter (λ other. not (other == x)) (each_once xs)) v) (among xs v)
    (among_filter v (λ other. not (other == x)) (each_once xs) ∙ ap (λ (k : Bool). k && not (v == x)) (among_once v xs))

free_filter_case : (b : ℕ → Bool) (p : ℕ → Bool) (k : Bool) (x : ℕ) (rest : List ℕ) → b x ≡ false → among rest x ≡ false → AreFree b rest → AreFree b (if k then x ∷ rest else rest)
free_filter_case b p true x rest f g h = (f, g, h)
free_filter_case b p false x rest f g h = h

pub and_false : (a b : Bool) → a ≡ false → (a && b) ≡ false
and_false true b h = clash refl h
and_false false b h = refl

-- some of what is free are free
pub free_filter : (b : ℕ → Bool) (p : ℕ → Bool) (xs : List ℕ) → AreFree b xs → AreFree b (filter p xs)
free_filter b p [] h = tt
free_filter b p (x ∷ xs) h = free_filter_case b p (p x) x (filter p xs) h.0 (among_filter x p xs ∙ and_false (among xs x) (p x) h.1) (free_filter b p xs h.2)

not_itself : (x : ℕ) (k : Bool) → (k && not (x == x)) ≡ false
not_itself x k = none k (x == x) ((Decides-eqb x x).1 refl) where
  none : (k e : Bool) → e ≡ true → (k && not e) ≡ false
  none true true h = refl
  none true false h = clash h refl
  none false e h = refl

pub free_once : (b : ℕ → Bool) (xs : List ℕ) → ((v : ℕ) → among xs v ≡ true → b v ≡ false) → AreFree b (each_once xs)
free_once b [] f = tt
free_once b (x ∷ xs) f = (
  f x (or_left (x == x) (among xs x) ((Decides-eqb x x).1 refl)),
  among_filter x (λ other. not (other == x)) (each_once xs) ∙ not_itself x (among (each_once xs) x),
  free_filter b (λ other. not (other == x)) (each_once xs) (free_once b xs (λ v h. f v (or_right (v == x) (among xs v) h))),
)
