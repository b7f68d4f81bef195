-- Lists of rights as sets of variables.
use Rattle.std.proofs.Common.{◌≡◌, ◌⊎◌, inl, inr, ℕ, Bool, true, false, not, ◌==◌, ◌||◌, if◌then◌else◌, List, [], ◌∷◌, ◌++◌, map, refl, ap, sym, subst, ◌∙◌}
use Rattle.std.proofs.lemmas.Bool.Decides.{Decides-eqb}
use Rattle.merc_order.specs.Bound.{Bound, with, among}
use Rattle.merc_order_laws.proofs.Facts.{clash, or_left, or_right, or_cases, either_way, or_assoc, among_append}
use Rattle.merc_core.specs.Rights.{has}
use Rattle.merc_core.specs.WellFormed.{AreDistinct}
use Rattle.merc_rights.specs.Rights.{Right, those}
use Rattle.merc_par_split.specs.Sites.{are_for}
use Rattle.merc_plan.proofs.Sets.{absent, front_or, first_in, rest_in}
use Rattle.merc_script_laws.proofs.Bonds.{rights_for, Parts}

pub not_not : (b : Bool) → not b ≡ true → b ≡ false
not_not true h = clash h refl
not_not false h = refl

pub is_not : (b : Bool) → b ≡ false → not b ≡ true
is_not true h = clash refl h
is_not false h = refl

pub equal_is : (x y : ℕ) → (x == y) ≡ true → x ≡ y
equal_is x y h = (Decides-eqb x y).0 h

pub equal_same : (x : ℕ) → (x == x) ≡ true
equal_same x = (Decides-eqb x x).1 refl

pub equal_not : (x y : ℕ) → (x ≡ y → ⊥) → (x == y) ≡ false
equal_not x y h = elim (either_way (x == y)) as (λ _. (x == y) ≡ false) [ inl p ↦ absurd (h (equal_is x y p)) | inr p ↦ p ]

-- the variables of rights
abbrev pub variables_of : List Right → List ℕ
variables_of w = map (λ (right : Right). right.variable) w

-- one right and others
pub right_first : (r : Right) (w : List Right) → are_for (r ∷ w) r.variable ≡ true
right_first r w = or_left (r.variable == r.variable) (are_for w r.variable) (equal_same r.variable)

pub right_rest : (r : Right) (w : List Right) (x : ℕ) → are_for w x ≡ true → are_for (r ∷ w) x ≡ true
right_rest r w x h = or_right (r.variable == x) (are_for w x) h

pub right_cases : (r : Right) (w : List Right) (x : ℕ) → are_for (r ∷ w) x ≡ true → (r.variable ≡ x) ⊎ (are_for w x ≡ true)
right_cases r w x h = elim (or_cases (r.variable == x) (are_for w x) h) as (λ _. (r.variable ≡ x) ⊎ (are_for w x ≡ true)) [ inl p ↦ inl (equal_is r.variable x p) | inr p ↦ inr p ]

pub right_only : (r : Right) (x : ℕ) → are_for (r ∷ []) x ≡ true → r.variable ≡ x
right_only r x h = elim (right_cases r [] x h) as (λ _. r.variable ≡ x) [ inl p ↦ p | inr p ↦ clash p refl ]

pub right_other : (r : Right) (w : List Right) (x : ℕ) → are_for (r ∷ w) x ≡ false → (r.variable ≡ x → ⊥) × (are_for w x ≡ false)
right_other r w x h = (
  λ e. clash (subst (λ y. are_for (r ∷ w) y ≡ true) e (right_first r w)) h,
  elim (either_way (are_for w x)) as (λ _. are_for w x ≡ false) [ inl p ↦ clash (right_rest r w x p) h | inr p ↦ p ],
)

pub listed : (w : List Right) (x : ℕ) → are_for w x ≡ true → has x (variables_of w) ≡ true
listed [] x h = clash h refl
listed (r ∷ w) x h = elim (right_cases r w x h) as (λ _. has x (variables_of (r ∷ w)) ≡ true) [
  | inl p ↦ subst (λ y. has y (variables_of (r ∷ w)) ≡ true) p (first_in r.variable (variables_of w))
  | inr p ↦ rest_in x r.variable (variables_of w) (listed w x p)
]

pub unlisted : (w : List Right) (x : ℕ) → has x (variables_of w) ≡ true → are_for w x ≡ true
unlisted [] x h = clash h refl
unlisted (r ∷ w) x h = elim (front_or x r.variable (variables_of w) h) as (λ _. are_for (r ∷ w) x ≡ true) [
  | inl p ↦ subst (λ y. are_for (r ∷ w) y ≡ true) (sym p) (right_first r w)
  | inr p ↦ right_rest r w x (unlisted w x p)
]

pub not_for : (w : List Right) (x : ℕ) → (are_for w x ≡ true → ⊥) → are_for w x ≡ false
not_for w x h = elim (either_way (are_for w x)) as (λ _. are_for w x ≡ false) [ inl p ↦ absurd (h p) | inr p ↦ p ]

-- those that are such
those_case : (p : ℕ → Bool) (b : Bool) (r : Right) (w : List Right) (x : ℕ) → p r.variable ≡ b → (are_for (those p w) x ≡ true → (are_for w x ≡ true) × (p x ≡ true))
    → are_for (if b then r ∷ those p w else those p w) x ≡ true → (are_for (r ∷ w) x ≡ true) × (p x ≡ true)
those_case p true r w x e k h = elim (right_cases r (those p w) x h) as (λ _. (are_for (r ∷ w) x ≡ true) × (p x ≡ true)) [
  | inl q ↦ (subst (λ y. are_for (r ∷ w) y ≡ true) q (right_first r w), ap p (sym q) ∙ e)
  | inr q ↦ (right_rest r w x (k q).0, (k q).1)
]
those_case p false r w x e k h = (right_rest r w x (k h).0, (k h).1)

pub those_in : (p : ℕ → Bool) (w : List Right) (x : ℕ) → are_for (those p w) x ≡ true → (are_for w x ≡ true) × (p x ≡ true)
those_in p [] x h = clash h refl
those_in p (r ∷ w) x h = those_case p (p r.variable) r w x refl (λ k. those_in p w x k) h

in_those_case : (p : ℕ → Bool) (b : Bool) (r : Right) (w : List Right) (x : ℕ) → p r.variable ≡ b → p x ≡ true → (r.variable ≡ x) ⊎ (are_for w x ≡ true) → (are_for w x ≡ true → are_for (those p w) x ≡ true)
    → are_for (if b then r ∷ those p w else those p w) x ≡ true
in_those_case p true r w x e h (inl q) k = subst (λ y. are_for (r ∷ those p w) y ≡ true) q (right_first r (those p w))
in_those_case p true r w x e h (inr q) k = right_rest r (those p w) x (k q)
in_those_case p false r w x e h (inl q) k = clash (ap p q ∙ h) e
in_those_case p false r w x e h (inr q) k = k q

pub in_those : (p : ℕ → Bool) (w : List Right) (x : ℕ) → are_for w x ≡ true → p x ≡ true → are_for (those p w) x ≡ true
in_those p [] x h k = clash h refl
in_those p (r ∷ w) x h k = in_those_case p (p r.variable) r w x refl k (right_cases r w x h) (λ q. in_those p w x q k)

pub not_those : (p : ℕ → Bool) (w : List Right) (x : ℕ) → (are_for w x ≡ true → p x ≡ true → ⊥) → are_for (those p w) x ≡ false
not_those p w x h = not_for (those p w) x (λ k. h (those_in p w x k).0 (those_in p w x k).1)

pub those_within : (p : ℕ → Bool) (w : List Right) (x : ℕ) → are_for w x ≡ false → are_for (those p w) x ≡ false
those_within p w x h = not_those p w x (λ k e. clash k h)

pub those_parts : (p : ℕ → Bool) (w : List Right) → Parts w (those p w) (those (λ x. not (p x)) w)
those_parts p w x h = elim (either_way (p x)) as (λ _. (are_for (those p w) x ≡ true) ⊎ (are_for (those (λ x. not (p x)) w) x ≡ true)) [
  | inl k ↦ inl (in_those p w x h k)
  | inr k ↦ inr (in_those (λ x. not (p x)) w x h (is_not (p x) k))
]

distinct_case : (p : ℕ → Bool) (b : Bool) (r : Right) (w : List Right) → has r.variable (variables_of w) ≡ false → AreDistinct (variables_of (those p w)) → AreDistinct (variables_of (if b then r ∷ those p w else those p w))
distinct_case p true r w h d = (absent r.variable (variables_of (those p w)) (λ k. clash (listed w r.variable (those_in p w r.variable (unlisted (those p w) r.variable k)).0) h), d)
distinct_case p false r w h d = d

pub those_once : (p : ℕ → Bool) (w : List Right) → AreDistinct (variables_of w) → AreDistinct (variables_of (those p w))
those_once p [] d = d
those_once p (r ∷ w) d = distinct_case p (p r.variable) r w d.0 (those_once p w d.1)

-- the rights for one variable
for_case : (b : Bool) (x : ℕ) (r : Right) (w : List Right) → r.variable == x ≡ b → are_for (r ∷ w) x ≡ false → (are_for w x ≡ false → rights_for x w ≡ []) → (if b then r ∷ rights_for x w else rights_for x w) ≡ []
for_case true x r w e h k = absurd ((right_other r w x h).0 (equal_is r.variable x e))
for_case false x r w e h k = k (right_other r w x h).1

pub none_for : (x : ℕ) (w : List Right) → are_for w x ≡ false → rights_for x w ≡ []
none_for x [] h = refl
none_for x (r ∷ w) h = for_case (r.variable == x) x r w refl h (λ k. none_for x w k)

pub for_first : (r : Right) (w : List Right) → rights_for r.variable (r ∷ w) ≡ r ∷ rights_for r.variable w
for_first r w = ap (λ (b : Bool). if b then r ∷ rights_for r.variable w else rights_for r.variable w) (equal_same r.variable)

pub for_other : (x : ℕ) (r : Right) (w : List Right) → (r.variable ≡ x → ⊥) → rights_for x (r ∷ w) ≡ rights_for x w
for_other x r w h = ap (λ (b : Bool). if b then r ∷ rights_for x w else rights_for x w) (equal_not r.variable x h)

for_those_case : (p : ℕ → Bool) (x : ℕ) (a b : Bool) (r : Right) (w : List Right) → r.variable == x ≡ a → p r.variable ≡ b → p x ≡ true → rights_for x (those p w) ≡ rights_for x w
    → rights_for x (if b then r ∷ those p w else those p w) ≡ (if a then r ∷ rights_for x w else rights_for x w)
for_those_case p x true true r w e f h k = ap (λ (b : Bool). if b then r ∷ rights_for x (those p w) else rights_for x (those p w)) e ∙ ap (λ l. r ∷ l) k
for_those_case p x false true r w e f h k = ap (λ (b : Bool). if b then r ∷ rights_for x (those p w) else rights_for x (those p w)) e ∙ k
for_those_case p x true false r w e f h k = clash (ap p (equal_is r.variable x e) ∙ h) f
for_those_case p x false false r w e f h k = k

pub for_those : (p : ℕ → Bool) (x : ℕ) (w : List Right) → p x ≡ true → rights_for x (those p w) ≡ rights_for x w
for_those p x [] h = refl
for_those p x (r ∷ w) h = for_those_case p x (r.variable == x) (p r.variable) r w refl refl h (for_those p x w h)

-- what is bound behind two goals
pub bound_both : (b : Bound) (o p : List ℕ) (x : ℕ) → with b (among (o ++ p)) x ≡ with (with b (among o)) (among p) x
bound_both b o p x = ap (λ (k : Bool). b x || k) (among_append x o p) ∙ sym (or_assoc (b x) (among o x) (among p x))
