-- When goals that join others have a maximum of 0, and when they cannot fail.
use Rattle.std.proofs.Common.{◌≡◌, ◌⊎◌, inl, inr, Bool, true, false, ◌||◌, ◌&&◌, if◌then◌else◌, ℕ, List, [], ◌∷◌, refl, ap, sym, ◌∙◌}
use Rattle.merc_base.specs.Category.{can_fail_of, most_of}
use Rattle.merc_base.specs.declared.category.Category.{Category}
use Rattle.merc_base.specs.declared.category.Category.TheVariants.{Det, Semidet, Multi, Nondet, Erroneous, Failure}
use Rattle.merc_base.specs.declared.category.Most.{Most}
use Rattle.merc_base.specs.declared.category.Most.TheVariants.{Zero, One, Many}
use Rattle.merc_order_laws.proofs.Facts.{clash}
use Rattle.merc_grading.specs.Categories.{category, is_zero, is_many, both_most, sum_most, greater_most, then_category, or_category, decision_most, conditional_category, negation_category}
use Rattle.merc_grading.specs.Grading.{capped}
use Rattle.merc_program_laws.proofs.Values.{or_not_left, or_not_right}
use Rattle.merc_program_laws.proofs.Knowing.{one_not_zero, many_not_zero}

pub can_fail_is : (b : Bool) (m : Most) → can_fail_of (category b m) ≡ b
can_fail_is false Zero = refl
can_fail_is true Zero = refl
can_fail_is false One = refl
can_fail_is true One = refl
can_fail_is false Many = refl
can_fail_is true Many = refl

pub most_is : (b : Bool) (m : Most) → most_of (category b m) ≡ m
most_is false Zero = refl
most_is true Zero = refl
most_is false One = refl
most_is true One = refl
most_is false Many = refl
most_is true Many = refl

pub zero_is : (b : Bool) (m : Most) → most_of (category b m) ≡ Zero → m ≡ Zero
zero_is b m h = sym (most_is b m) ∙ h

pub sure_is : (b : Bool) (m : Most) → can_fail_of (category b m) ≡ false → b ≡ false
sure_is b m h = sym (can_fail_is b m) ∙ h

is_zero_of : (m : Most) → is_zero m ≡ true → m ≡ Zero
is_zero_of Zero h = refl
is_zero_of One h = clash h refl
is_zero_of Many h = clash h refl

and_false : (a b : Bool) → (a && b) ≡ false → (a ≡ false) ⊎ (b ≡ false)
and_false true b h = inr h
and_false false b h = inl refl

pub fails_or : (a b : Bool) → (a || b) ≡ false → (a ≡ false) × (b ≡ false)
fails_or a b h = (or_not_left a b h, or_not_right a b h)

-- a goal without outputs

once_zero : (m : Most) → (if is_zero m then Zero else One) ≡ Zero → m ≡ Zero
once_zero Zero h = refl
once_zero One h = absurd (one_not_zero h)
once_zero Many h = absurd (one_not_zero h)

pub capped_zero : (outs : List ℕ) (c : Category) → most_of (capped outs c) ≡ Zero → most_of c ≡ Zero
capped_zero [] c h = once_zero (most_of c) (zero_is (can_fail_of c) (if is_zero (most_of c) then Zero else One) h)
capped_zero (x ∷ xs) c h = h

pub capped_fail : (outs : List ℕ) (c : Category) → can_fail_of (capped outs c) ≡ can_fail_of c
capped_fail [] c = can_fail_is (can_fail_of c) (if is_zero (most_of c) then Zero else One)
capped_fail (x ∷ xs) c = refl

pub capped_is_zero : (outs : List ℕ) (c : Category) → most_of c ≡ Zero → most_of (capped outs c) ≡ Zero
capped_is_zero [] c h = most_is (can_fail_of c) (if is_zero (most_of c) then Zero else One) ∙ ap (λ (m : Most). if is_zero m then Zero else One) h
capped_is_zero (x ∷ xs) c h = h

-- goals one after the other

both_zero : (m n : Most) → both_most m n ≡ Zero → (m ≡ Zero) ⊎ (n ≡ Zero)
both_zero Zero n h = inl refl
both_zero One Zero h = inr refl
both_zero Many Zero h = inr refl
both_zero One One h = absurd (one_not_zero h)
both_zero One Many h = absurd (many_not_zero h)
both_zero Many One h = absurd (many_not_zero h)
both_zero Many Many h = absurd (many_not_zero h)

both_is_zero : (m n : Most) → (m ≡ Zero) ⊎ (n ≡ Zero) → both_most m n ≡ Zero
both_is_zero m n (inl e) = ap (λ (k : Most). both_most k n) e
both_is_zero m n (inr e) = ap (λ (k : Most). both_most m k) e ∙ right m where
  right : (k : Most) → both_most k Zero ≡ Zero
  right Zero = refl
  right One = refl
  right Many = refl

pub then_zero : (a b : Category) → most_of (then_category a b) ≡ Zero → (most_of a ≡ Zero) ⊎ (most_of b ≡ Zero)
then_zero a b h = both_zero (most_of a) (most_of b) (zero_is (can_fail_of a || (if is_zero (most_of a) then false else can_fail_of b)) (both_most (most_of a) (most_of b)) h)

pub then_is_zero : (a b : Category) → (most_of a ≡ Zero) ⊎ (most_of b ≡ Zero) → most_of (then_category a b) ≡ Zero
then_is_zero a b h = most_is (can_fail_of a || (if is_zero (most_of a) then false else can_fail_of b)) (both_most (most_of a) (most_of b)) ∙ both_is_zero (most_of a) (most_of b) h

sure_case : (a b : Bool) (m : Most) → (a || (if is_zero m then false else b)) ≡ false → (a ≡ false) × ((m ≡ Zero) ⊎ (b ≡ false))
sure_case true b m h = clash refl h
sure_case false b Zero h = (refl, inl refl)
sure_case false b One h = (refl, inr h)
sure_case false b Many h = (refl, inr h)

pub then_sure : (a b : Category) → can_fail_of (then_category a b) ≡ false → (can_fail_of a ≡ false) × ((most_of a ≡ Zero) ⊎ (can_fail_of b ≡ false))
then_sure a b h =
    sure_case (can_fail_of a) (can_fail_of b) (most_of a) (sure_is (can_fail_of a || (if is_zero (most_of a) then false else can_fail_of b)) (both_most (most_of a) (most_of b)) h)

-- one goal or another

sum_zero : (m n : Most) → sum_most m n ≡ Zero → (m ≡ Zero) × (n ≡ Zero)
sum_zero Zero n h = (refl, h)
sum_zero One Zero h = absurd (one_not_zero h)
sum_zero One One h = absurd (many_not_zero h)
sum_zero One Many h = absurd (many_not_zero h)
sum_zero Many n h = absurd (many_not_zero h)

pub or_zero : (a b : Category) → most_of (or_category a b) ≡ Zero → (most_of a ≡ Zero) × (most_of b ≡ Zero)
or_zero a b h = sum_zero (most_of a) (most_of b) (zero_is (can_fail_of a && can_fail_of b) (sum_most (most_of a) (most_of b)) h)

pub or_is_zero : (a b : Category) → most_of a ≡ Zero → most_of b ≡ Zero → most_of (or_category a b) ≡ Zero
or_is_zero a b p q = most_is (can_fail_of a && can_fail_of b) (sum_most (most_of a) (most_of b)) ∙ ap (λ (k : Most). sum_most k (most_of b)) p ∙ q

pub or_sure : (a b : Category) → can_fail_of (or_category a b) ≡ false → (can_fail_of a ≡ false) ⊎ (can_fail_of b ≡ false)
or_sure a b h = and_false (can_fail_of a) (can_fail_of b) (sure_is (can_fail_of a && can_fail_of b) (sum_most (most_of a) (most_of b)) h)

-- arms

pub greater_zero : (m n : Most) → greater_most m n ≡ Zero → (m ≡ Zero) × (n ≡ Zero)
greater_zero Zero Zero h = (refl, refl)
greater_zero Zero One h = absurd (one_not_zero h)
greater_zero Zero Many h = absurd (many_not_zero h)
greater_zero One Zero h = absurd (one_not_zero h)
greater_zero One One h = absurd (one_not_zero h)
greater_zero One Many h = absurd (many_not_zero h)
greater_zero Many n h = absurd (many_not_zero h)

pub greater_is_zero : (m n : Most) → m ≡ Zero → n ≡ Zero → greater_most m n ≡ Zero
greater_is_zero m n p q = ap (λ (k : Most). greater_most k n) p ∙ ap (λ (k : Most). greater_most Zero k) q

-- an if-then-else whose condition can fail

abbrev pub decided : Category → Category → Category → Category
decided c t e = category (can_fail_of t || can_fail_of e) (decision_most (most_of c) (most_of t) (most_of e))

decision_case : (x a b m : Bool) → (if x && (a || b) then Zero else if m then Many else One) ≡ Zero → (x ≡ true) × ((a ≡ true) ⊎ (b ≡ true))
decision_case true true b m h = (refl, inl refl)
decision_case true false true m h = (refl, inr refl)
decision_case true false false true h = absurd (many_not_zero h)
decision_case true false false false h = absurd (one_not_zero h)
decision_case false a b true h = absurd (many_not_zero h)
decision_case false a b false h = absurd (one_not_zero h)

pub decided_zero : (c t e : Category) → most_of (decided c t e) ≡ Zero → (most_of e ≡ Zero) × ((most_of c ≡ Zero) ⊎ (most_of t ≡ Zero))
decided_zero c t e h =
    let r = decision_case (is_zero (most_of e)) (is_zero (most_of c)) (is_zero (most_of t)) (is_many (most_of c) || (is_many (most_of t) || is_many (most_of e)))
    (zero_is (can_fail_of t || can_fail_of e) (decision_most (most_of c) (most_of t) (most_of e)) h) in (
      is_zero_of (most_of e) r.0,
      elim r.1 as (λ _. (most_of c ≡ Zero) ⊎ (most_of t ≡ Zero)) [ inl p ↦ inl (is_zero_of (most_of c) p) | inr p ↦ inr (is_zero_of (most_of t) p) ],
    )

decision_is : (x a b m : Bool) → x ≡ true → (a ≡ true) ⊎ (b ≡ true) → (if x && (a || b) then Zero else if m then Many else One) ≡ Zero
decision_is true true b m p q = refl
decision_is true false true m p q = refl
decision_is true false false m p (inl q) = clash q refl
decision_is true false false m p (inr q) = clash q refl
decision_is false a b m p q = clash p refl

pub decided_is_zero : (c t e : Category) → most_of e ≡ Zero → (most_of c ≡ Zero) ⊎ (most_of t ≡ Zero) → most_of (decided c t e) ≡ Zero
decided_is_zero c t e p q =
    most_is (can_fail_of t || can_fail_of e) (decision_most (most_of c) (most_of t) (most_of e))
    ∙ decision_is (is_zero (most_of e)) (is_zero (most_of c)) (is_zero (most_of t)) (is_many (most_of c) || (is_many (most_of t) || is_many (most_of e))) (ap is_zero p)
    (elim q as (λ _. (is_zero (most_of c) ≡ true) ⊎ (is_zero (most_of t) ≡ true)) [ inl r ↦ inl (ap is_zero r) | inr r ↦ inr (ap is_zero r) ])

pub decided_sure : (c t e : Category) → can_fail_of (decided c t e) ≡ false → (can_fail_of t ≡ false) × (can_fail_of e ≡ false)
decided_sure c t e h = fails_or (can_fail_of t) (can_fail_of e) (sure_is (can_fail_of t || can_fail_of e) (decision_most (most_of c) (most_of t) (most_of e)) h)

conditional_case : (c t e : Category) (b : Bool) → most_of e ≡ Zero → (most_of c ≡ Zero) ⊎ (most_of t ≡ Zero) → most_of (if b then decided c t e else then_category c t) ≡ Zero
conditional_case c t e true p q = decided_is_zero c t e p q
conditional_case c t e false p q = then_is_zero c t q

pub conditional_is_zero : (c t e : Category) → most_of e ≡ Zero → (most_of c ≡ Zero) ⊎ (most_of t ≡ Zero) → most_of (conditional_category c t e) ≡ Zero
conditional_is_zero c t e p q = conditional_case c t e (can_fail_of c) p q

-- negations

pub not_zero : (c : Category) → most_of (negation_category c) ≡ Zero → can_fail_of c ≡ false
not_zero Erroneous h = refl
not_zero Failure h = absurd (one_not_zero h)
not_zero Det h = refl
not_zero Multi h = refl
not_zero Semidet h = absurd (one_not_zero h)
not_zero Nondet h = absurd (one_not_zero h)

pub not_sure : (c : Category) → can_fail_of (negation_category c) ≡ false → most_of c ≡ Zero
not_sure Erroneous h = refl
not_sure Failure h = refl
not_sure Det h = clash refl h
not_sure Multi h = clash refl h
not_sure Semidet h = clash refl h
not_sure Nondet h = clash refl h
