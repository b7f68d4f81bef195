-- Lists of cells by name and by number: what is among them, those without some, and distinct ones.
use Rattle.std.proofs.Common.{◌≡◌, ℕ, ◌⊎◌, inl, inr, Bool, true, false, not, List, [], ◌∷◌, ◌++◌, map, if◌then◌else◌, nat_eq, refl, ap, sym, subst, ◌∙◌, arith}
use Rattle.std.specs.Prelude.{◌||◌}
use Rattle.std.specs.List.{AllByRecursion}
use Rattle.std.proofs.lemmas.Bool.Decides.{nat_tests}
use Rattle.merc_core.specs.Rights.{has, without}
use Rattle.merc_core.specs.WellFormed.{AreDistinct}

pub clash : {A : Type 0} (b : Bool) → b ≡ true → b ≡ false → A
clash b p q = absurd (cc)

pub tell : (b : Bool) → (b ≡ true) ⊎ (b ≡ false)
tell true = inl refl
tell false = inr refl

pub same_number : (c x : ℕ) → nat_eq c x ≡ true → c ≡ x
same_number c x h = grind (arith, nat_tests, h)

pub is_same : (x : ℕ) → nat_eq x x ≡ true
is_same x = grind (arith, nat_tests)

or_true : (b g : Bool) → g ≡ true → (b || g) ≡ true
or_true true g p = refl
or_true false g p = p

pub first_in : (c : ℕ) (xs : List ℕ) → has c (c ∷ xs) ≡ true
first_in c xs = ap (λ (b : Bool). b || has c xs) (is_same c)

pub rest_in : (c x : ℕ) (xs : List ℕ) → has c xs ≡ true → has c (x ∷ xs) ≡ true
rest_in c x xs h = or_true (nat_eq x c) (has c xs) h

pub front_or : (c x : ℕ) (xs : List ℕ) → has c (x ∷ xs) ≡ true → (x ≡ c) ⊎ (has c xs ≡ true)
front_or c x xs h = on (nat_eq x c) refl h
  where
    on : (b : Bool) → nat_eq x c ≡ b → (b || has c xs) ≡ true → (x ≡ c) ⊎ (has c xs ≡ true)
    on true e k = inl (same_number x c e)
    on false e k = inr k

pub absent : (b : Bool) → (b ≡ true → ⊥) → b ≡ false
absent true h = absurd (h refl)
absent false h = refl

pub has_one : (c x : ℕ) → has c (x ∷ []) ≡ true → x ≡ c
has_one c x h = elim (front_or c x [] h) [ inl e ↦ e | inr k ↦ absurd (cc) ]

pub in_left : (c : ℕ) (xs ys : List ℕ) → has c xs ≡ true → has c (xs ++ ys) ≡ true
in_left c [] ys h = absurd (cc)
in_left c (x ∷ xs) ys h = elim (front_or c x xs h) [
  | inl e ↦ subst (λ z. has z (x ∷ (xs ++ ys)) ≡ true) e (first_in x (xs ++ ys))
  | inr k ↦ rest_in c x (xs ++ ys) (in_left c xs ys k)
]

pub in_right : (c : ℕ) (xs ys : List ℕ) → has c ys ≡ true → has c (xs ++ ys) ≡ true
in_right c [] ys h = h
in_right c (x ∷ xs) ys h = rest_in c x (xs ++ ys) (in_right c xs ys h)

pub in_either : (c : ℕ) (xs ys : List ℕ) → has c (xs ++ ys) ≡ true → (has c xs ≡ true) ⊎ (has c ys ≡ true)
in_either c [] ys h = inr h
in_either c (x ∷ xs) ys h = elim (front_or c x (xs ++ ys) h) [
  | inl e ↦ inl (subst (λ z. has z (x ∷ xs) ≡ true) e (first_in x xs))
  | inr k ↦ elim (in_either c xs ys k) [ inl i ↦ inl (rest_in c x xs i) | inr i ↦ inr i ]
]

-- lists that are mapped

pub map_in : (f : ℕ → ℕ) (c : ℕ) (xs : List ℕ) → has c xs ≡ true → has (f c) (map f xs) ≡ true
map_in f c [] h = absurd (cc)
map_in f c (x ∷ xs) h = elim (front_or c x xs h) [
  | inl e ↦ subst (λ z. has (f z) (f x ∷ map f xs) ≡ true) e (first_in (f x) (map f xs))
  | inr k ↦ rest_in (f c) (f x) (map f xs) (map_in f c xs k)
]

pub from_map : (f : ℕ → ℕ) (n : ℕ) (xs : List ℕ) → has n (map f xs) ≡ true → (c : ℕ) × ((has c xs ≡ true) × (f c ≡ n))
from_map f n [] h = absurd (cc)
from_map f n (x ∷ xs) h = elim (front_or n (f x) (map f xs) h) [
  | inl e ↦ (x, (first_in x xs, e))
  | inr k ↦ (let r = from_map f n xs k in (r.0, (rest_in r.0 x xs r.1.0, r.1.1)))
]

pub has_map : (f : ℕ → ℕ) (c : ℕ) (xs : List ℕ) → ((d : ℕ) → has d xs ≡ true → f d ≡ f c → d ≡ c) → has (f c) (map f xs) ≡ has c xs
has_map f c xs same = elim (tell (has c xs)) [
  | inl h ↦ map_in f c xs h ∙ sym h
  | inr h ↦ absent (has (f c) (map f xs)) (λ k. let r = from_map f (f c) xs k in clash (has c xs) (subst (λ z. has z xs ≡ true) (same r.0 r.1.0 r.1.1) r.1.0) h) ∙ sym h
]

pub map_same : (f g : ℕ → ℕ) (xs : List ℕ) → ((c : ℕ) → has c xs ≡ true → f c ≡ g c) → map f xs ≡ map g xs
map_same f g [] same = refl
map_same f g (x ∷ xs) same = ap (λ y. y ∷ map f xs) (same x (first_in x xs)) ∙ ap (λ l. g x ∷ l) (map_same f g xs (λ c h. same c (rest_in c x xs h)))

pub map_more : (f : ℕ → ℕ) (xs ys : List ℕ) → map f (xs ++ ys) ≡ map f xs ++ map f ys
map_more f [] ys = refl
map_more f (x ∷ xs) ys = ap (λ l. f x ∷ l) (map_more f xs ys)

map_if : (f : ℕ → ℕ) (b : Bool) (x : ℕ) (xs ys : List ℕ) → ys ≡ map f xs → (if b then f x ∷ ys else ys) ≡ map f (if b then x ∷ xs else xs)
map_if f true x xs ys e = ap (λ l. f x ∷ l) e
map_if f false x xs ys e = e

pub without_map : (f : ℕ → ℕ) (gone xs : List ℕ) → ((g x : ℕ) → has g gone ≡ true → has x xs ≡ true → f g ≡ f x → g ≡ x) → without (map f gone) (map f xs) ≡ map f (without gone xs)
without_map f gone [] same = refl
without_map f gone (x ∷ xs) same =
    ap (λ b. if not b then f x ∷ without (map f gone) (map f xs) else without (map f gone) (map f xs)) (has_map f x gone (λ g h e. same g x h (first_in x xs) e))
    ∙ map_if f (not (has x gone)) x (without gone xs) (without (map f gone) (map f xs)) (without_map f gone xs (λ g y h i e. same g y h (rest_in y x xs i) e))

pub all_mapped : (P Q : ℕ → Type 0) (f : ℕ → ℕ) (xs : List ℕ) → ((c : ℕ) → has c xs ≡ true → P c → Q (f c)) → AllByRecursion P xs → AllByRecursion Q (map f xs)
all_mapped P Q f [] on all = tt
all_mapped P Q f (x ∷ xs) on all = (on x (first_in x xs) all.0, all_mapped P Q f xs (λ c h p. on c (rest_in c x xs h) p) all.1)

-- lists without some

without_in_on : (b : Bool) (c x : ℕ) (gone xs : List ℕ) → has x gone ≡ b → has c (if not b then x ∷ without gone xs else without gone xs) ≡ true
    → (has c (without gone xs) ≡ true → (has c xs ≡ true) × (has c gone ≡ false)) → (has c (x ∷ xs) ≡ true) × (has c gone ≡ false)
without_in_on true c x gone xs e h on = (rest_in c x xs (on h).0, (on h).1)
without_in_on false c x gone xs e h on = elim (front_or c x (without gone xs) h) [
  | inl q ↦ (subst (λ z. has z (x ∷ xs) ≡ true) q (first_in x xs), subst (λ z. has z gone ≡ false) q e)
  | inr k ↦ (rest_in c x xs (on k).0, (on k).1)
]

-- what is left was there, and is not gone
pub without_in : (c : ℕ) (gone xs : List ℕ) → has c (without gone xs) ≡ true → (has c xs ≡ true) × (has c gone ≡ false)
without_in c gone [] h = absurd (cc)
without_in c gone (x ∷ xs) h = without_in_on (has x gone) c x gone xs refl h (λ k. without_in c gone xs k)

without_keeps_on : (b : Bool) (c x : ℕ) (gone xs : List ℕ) → has x gone ≡ b → has c gone ≡ false → (x ≡ c) ⊎ (has c (without gone xs) ≡ true)
    → has c (if not b then x ∷ without gone xs else without gone xs) ≡ true
without_keeps_on true c x gone xs e n (inl q) = clash (has x gone) e (subst (λ z. has z gone ≡ false) (sym q) n)
without_keeps_on true c x gone xs e n (inr k) = k
without_keeps_on false c x gone xs e n (inl q) = subst (λ z. has z (x ∷ without gone xs) ≡ true) q (first_in x (without gone xs))
without_keeps_on false c x gone xs e n (inr k) = rest_in c x (without gone xs) k

pub without_keeps : (c : ℕ) (gone xs : List ℕ) → has c gone ≡ false → has c xs ≡ true → has c (without gone xs) ≡ true
without_keeps c gone [] n h = absurd (cc)
without_keeps c gone (x ∷ xs) n h = without_keeps_on (has x gone) c x gone xs refl n (elim (front_or c x xs h) [ inl q ↦ inl q | inr k ↦ inr (without_keeps c gone xs n k) ])

-- distinct ones

pub distinct_map : (f : ℕ → ℕ) (xs : List ℕ) → ((c d : ℕ) → has c xs ≡ true → has d xs ≡ true → f c ≡ f d → c ≡ d) → AreDistinct xs → AreDistinct (map f xs)
distinct_map f [] same d = tt
distinct_map f (x ∷ xs) same d = (
  has_map f x xs (λ y h e. same y x (rest_in y x xs h) (first_in x xs) e) ∙ d.0,
  distinct_map f xs (λ y z h i e. same y z (rest_in y x xs h) (rest_in z x xs i) e) d.1,
)

pub distinct_append : (xs ys : List ℕ) → AreDistinct xs → AreDistinct ys → ((c : ℕ) → has c xs ≡ true → has c ys ≡ true → ⊥) → AreDistinct (xs ++ ys)
distinct_append [] ys d e apart = e
distinct_append (x ∷ xs) ys d e apart = (
  absent (has x (xs ++ ys)) (λ h. elim (in_either x xs ys h) [ inl k ↦ clash (has x xs) k d.0 | inr k ↦ apart x (first_in x xs) k ]),
  distinct_append xs ys d.1 e (λ c h k. apart c (rest_in c x xs h) k),
)
