-- Sets of numbers by what is among them.
use Rattle.std.specs.Prelude.{◌≡◌, ◌<◌, ℕ, Bool, true, false, ◌==◌, ◌||◌, List, [], ◌∷◌, refl}
use Rattle.std.specs.List.{list_any}
use Rattle.std.specs.Cmp.{unsigned_ties, nat_cmp_is}
use Rattle.std.specs.Ordering.{is_gt, nat_cmp}
use Rattle.std.specs.BTreeMap.{is_at}
use Rattle.std.proofs.Common.{◌∙◌, ◌⊎◌, inl, inr, ap, sym, cond, arith, Greater}
use Rattle.std.proofs.lemmas.Bool.Decides.{Decides-eqb, leb_tells}
use Rattle.merc_order.specs.Bound.{among}
use Rattle.merc_switch_choice.proofs.Tests.{clash, eq_turned}

pub keys_among : (keys : List ℕ) (v : ℕ) → list_any (is_at (nat_cmp v)) keys ≡ among keys v
keys_among [] v = refl
keys_among (key ∷ keys) v = ap (λ b. b || list_any (is_at (nat_cmp v)) keys) (sym (unsigned_ties v key)) ∙ ap (λ b. (v == key) || b) (keys_among keys v)

added_if : (b c : Bool) → cond b true c ≡ (b || c)
added_if true c = refl
added_if false c = refl

pub added : (before after : List ℕ) (number v w : ℕ) → number ≡ v → list_any (is_at (nat_cmp w)) after ≡ cond (is_at (nat_cmp number) w) true (list_any (is_at (nat_cmp w)) before)
    → among after w ≡ ((w == v) || among before w)
added before after number v w same updated =
    sym (keys_among after w) ∙ updated ∙ ap (λ n. cond (is_at (nat_cmp n) w) true (list_any (is_at (nat_cmp w)) before)) same ∙ added_if (is_at (nat_cmp v) w) (list_any (is_at (nat_cmp w)) before)
    ∙ ap (λ b. b || list_any (is_at (nat_cmp w)) before) (sym (unsigned_ties v w) ∙ eq_turned v w) ∙ ap (λ b. (w == v) || b) (keys_among before w)

sum : {A B C : Type 0} → A ⊎ B → (A → C) → (B → C) → C
sum (inl a) f g = f a
sum (inr b) f g = g b

greater : (v w : ℕ) → w < v → is_gt (nat_cmp v w) ≡ true
greater v w less = ap is_gt (sym (nat_cmp_is v w Greater less))

left_if : (b c : Bool) → cond b false c ≡ true → (b ≡ false) × (c ≡ true)
left_if true c h = absurd (cc)
left_if false c h = (refl, h)

apart_above : (v w : ℕ) → (v == w) ≡ false → is_gt (nat_cmp v w) ≡ false → v < w
apart_above v w apart low =
    sum (leb_tells v w) (λ h. sum (leb_tells w v) (λ k. let same : v ≡ w = omega (arith, h.1, k.1) in clash ((Decides-eqb v w).1 same) apart) (λ k. k.1)) (λ h. clash (greater v w h.1) low)

pub above : (before after : List ℕ) (number v w : ℕ) → v ≡ number → list_any (is_at (nat_cmp w)) after ≡ cond (is_at (nat_cmp number) w) false (list_any (is_at (nat_cmp w)) before)
    → (list_any (is_at (nat_cmp w)) before ≡ true → is_gt (nat_cmp number w) ≡ false) → among after w ≡ true → v < w
above before after number v w same updated low there =
    let left = left_if (is_at (nat_cmp number) w) (list_any (is_at (nat_cmp w)) before) (sym updated ∙ keys_among after w ∙ there) in
    let less = apart_above number w (unsigned_ties number w ∙ left.0) (low left.1) in
    omega (arith, same, less)
