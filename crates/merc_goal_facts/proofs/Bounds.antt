-- The table of bound variables and the list of them tell the same.
use Rattle.std.specs.Prelude.{◌≡◌, ◌<◌, ◌==◌, ◌||◌, ℕ, zero, suc, Bool, true, false, List, [], ◌∷◌, ◌++◌, length, refl}
use Rattle.std.specs.List.{slice_index_or}
use Rattle.std.proofs.Common.{◌∙◌, ◌≢◌, ap, sym, subst, arith, set, inl, inr}
use Rattle.std.proofs.lemmas.Bool.{cases_eq}
use Rattle.std.proofs.lemmas.Bool.Decides.{nat_tests}
use Rattle.std.proofs.lemmas.List.{get_or-set_same, get_or-set_other}
use Rattle.merc_order.specs.Bound.{among}
use Rattle.merc_goal_facts.specs.Bounds.{Tells, AreApart}

pub or_assoc : (a b c : Bool) → ((a || b) || c) ≡ (a || (b || c))
or_assoc true b c = refl
or_assoc false b c = refl

pub or_false : (a : Bool) → (a || false) ≡ a
or_false true = refl
or_false false = refl

pub among-append : (front back : List ℕ) (variable : ℕ) → among (front ++ back) variable ≡ (among front variable || among back variable)
among-append [] back variable = refl
among-append (first ∷ rest) back variable =
    ap (λ b. (variable == first) || b) (among-append rest back variable) ∙ sym (or_assoc (variable == first) (among rest variable) (among back variable))

-- a table that is longer by one
pub longer : (table : List Bool) (variable : ℕ) → slice_index_or (table ++ false ∷ []) variable false ≡ slice_index_or table variable false
longer [] zero = refl
longer [] (suc variable) = refl
longer (flag ∷ flags) zero = refl
longer (flag ∷ flags) (suc variable) = longer flags variable

pub within : (table : List Bool) (variable : ℕ) → slice_index_or table variable false ≡ true → variable < length table
within [] variable told = cc
within (flag ∷ flags) zero told = omega arith
within (flag ∷ flags) (suc variable) told = let h = within flags variable told in omega arith

same_is : (variable : ℕ) → (variable == variable) ≡ true
same_is variable = grind (arith, nat_tests)

other_is : (one other : ℕ) → one ≢ other → (one == other) ≡ false
other_is one other apart = grind (arith, nat_tests)

or_true : (a : Bool) → (a || true) ≡ true
or_true true = refl
or_true false = refl

-- one more is bound
pub tells-more : (table : List Bool) (bound : List ℕ) (variable : ℕ) → variable < length table → Tells table bound → Tells (set table variable true) (bound ++ variable ∷ [])
tells-more table bound variable room tells other = elim (cases_eq other variable) as (λ _. slice_index_or (set table variable true) other false ≡ among (bound ++ variable ∷ []) other) [
  | inl same ↦ subst (λ v. slice_index_or (set table variable true) v false ≡ among (bound ++ variable ∷ []) v) (sym same)
      (get_or-set_same table variable true false room
      ∙ sym (among-append bound (variable ∷ []) variable ∙ ap (λ b. among bound variable || (b || false)) (same_is variable) ∙ or_true (among bound variable)))
  | inr apart ↦ get_or-set_other table variable other true false apart
      ∙ tells other ∙ sym (among-append bound (variable ∷ []) other ∙ ap (λ b. among bound other || (b || false)) (other_is other variable apart) ∙ or_false (among bound other))
]

past_set : (table : List Bool) (variable : ℕ) → slice_index_or (set table variable false) variable false ≡ false
past_set [] zero = refl
past_set [] (suc variable) = refl
past_set (flag ∷ flags) zero = refl
past_set (flag ∷ flags) (suc variable) = past_set flags variable

-- the last is bound no more
pub tells-less : (table : List Bool) (bound : List ℕ) (variable : ℕ) → among bound variable ≡ false → Tells table (bound ++ variable ∷ []) → Tells (set table variable false) bound
tells-less table bound variable new tells other = elim (cases_eq other variable) as (λ _. slice_index_or (set table variable false) other false ≡ among bound other) [
  | inl same ↦ subst (λ v. slice_index_or (set table variable false) v false ≡ among bound v) (sym same) (past_set table variable ∙ sym new)
  | inr apart ↦ get_or-set_other table variable other false false apart
      ∙ tells other ∙ (among-append bound (variable ∷ []) other ∙ ap (λ b. among bound other || (b || false)) (other_is other variable apart) ∙ or_false (among bound other))
]

both_false : (a b : Bool) → (a || b) ≡ false → (a ≡ false) × (b ≡ false)
both_false true b h = cc
both_false false b h = (refl, h)

eq_turned : (one other : ℕ) → (one == other) ≡ false → (other == one) ≡ false
eq_turned one other h = grind (arith, nat_tests)

among-push : (bound : List ℕ) (variable other : ℕ) → among bound other ≡ false → (other == variable) ≡ false → among (bound ++ variable ∷ []) other ≡ false
among-push bound variable other a b = among-append bound (variable ∷ []) other ∙ ap (λ x. x || ((other == variable) || false)) a ∙ ap (λ x. x || false) b

pub apart-more : (bound : List ℕ) (variable : ℕ) → among bound variable ≡ false → AreApart bound → AreApart (bound ++ variable ∷ [])
apart-more [] variable new apart = (refl, tt)
apart-more (first ∷ rest) variable new (one, others) =
    let h = both_false (variable == first) (among rest variable) new in
    (among-push rest variable first one (eq_turned variable first h.0), apart-more rest variable h.1 others)

pub apart-less : (bound : List ℕ) (variable : ℕ) → AreApart (bound ++ variable ∷ []) → (among bound variable ≡ false) × AreApart bound
apart-less [] variable apart = (refl, tt)
apart-less (first ∷ rest) variable (one, others) =
    let h = apart-less rest variable others in
    let k = both_false (among rest first) ((first == variable) || false) (sym (among-append rest (variable ∷ []) first) ∙ one) in
    (ap (λ x. x || among rest variable) (eq_turned first variable (sym (or_false (first == variable)) ∙ k.1)) ∙ h.0, (k.0, h.1))

pub last_within : (table : List Bool) (bound : List ℕ) (variable : ℕ) → Tells table (bound ++ variable ∷ []) → variable < length table
last_within table bound variable tells =
    within table variable (tells variable ∙ among-append bound (variable ∷ []) variable ∙ ap (λ b. among bound variable || (b || false)) (same_is variable) ∙ or_true (among bound variable))

pub bound_more : (before after : List Bool) (old new : List ℕ) (variable number : ℕ) → number ≡ variable → new ≡ old ++ variable ∷ [] → among old variable ≡ false
    → ((other : ℕ) → slice_index_or after other false ≡ slice_index_or before other false) → number < length after → Tells before old × AreApart old → Tells (set after number true) new × AreApart new
bound_more before after old new variable number n e fresh same room (tells, apart) =
    subst (λ k. Tells (set after k true) new × AreApart new) (sym n)
    (subst (λ l. Tells (set after variable true) l × AreApart l) (sym e)
    (tells-more after old variable (subst (λ k. k < length after) n room) (λ v. same v ∙ tells v), apart-more old variable fresh apart))

pub record Less (table : List Bool) (new : List ℕ) (number : ℕ) : Type 0 where
  pub room : number < length table
  pub tells : Tells (set table number false) new
  pub apart : AreApart new

pub bound_less : (table : List Bool) (old new : List ℕ) (variable number : ℕ) → number ≡ variable → old ≡ new ++ variable ∷ [] → Tells table old → AreApart old → Less table new number
bound_less table old new variable number n e tells apart =
    let t : Tells table (new ++ variable ∷ []) = subst (λ l. Tells table l) e tells in
    let a = apart-less new variable (subst (λ l. AreApart l) e apart) in
    subst (λ k. Less table new k) (sym n) (record { room = last_within table new variable t; tells = tells-less table new variable a.0 t; apart = a.1 })
