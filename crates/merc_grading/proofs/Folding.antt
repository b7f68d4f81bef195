-- Categories one after the other, from the left and from the right.
use Rattle.std.specs.Prelude.{◌≡◌, Bool, true, false, ◌||◌, List, [], ◌∷◌, if◌then◌else◌, refl}
use Rattle.std.proofs.Common.{◌∙◌, ap, sym}
use Rattle.merc_base.specs.Category.{can_fail_of, most_of}
use Rattle.merc_base.specs.declared.category.Category.{Category}
use Rattle.merc_base.specs.declared.category.Category.TheVariants.{Det, Semidet, Multi, Nondet, Erroneous, Failure}
use Rattle.merc_base.specs.declared.category.Most.{Most}
use Rattle.merc_base.specs.declared.category.Most.TheVariants.{Zero, One, Many}
use Rattle.merc_grading.specs.Categories.{category, is_zero, both_most, then_category, conjunction_category}
use Rattle.merc_grading.specs.Laws.{from_left}

can_fail_is : (fails : Bool) (most : Most) → can_fail_of (category fails most) ≡ fails
can_fail_is false Zero = refl
can_fail_is false One = refl
can_fail_is false Many = refl
can_fail_is true Zero = refl
can_fail_is true One = refl
can_fail_is true Many = refl

most_is : (fails : Bool) (most : Most) → most_of (category fails most) ≡ most
most_is false Zero = refl
most_is false One = refl
most_is false Many = refl
most_is true Zero = refl
most_is true One = refl
most_is true Many = refl

both_assoc : (a b c : Most) → both_most (both_most a b) c ≡ both_most a (both_most b c)
both_assoc Zero b c = refl
both_assoc One Zero c = refl
both_assoc One One Zero = refl
both_assoc One One One = refl
both_assoc One One Many = refl
both_assoc One Many Zero = refl
both_assoc One Many One = refl
both_assoc One Many Many = refl
both_assoc Many Zero c = refl
both_assoc Many One Zero = refl
both_assoc Many One One = refl
both_assoc Many One Many = refl
both_assoc Many Many Zero = refl
both_assoc Many Many One = refl
both_assoc Many Many Many = refl

-- whether the second of two goals makes both fail
abbrev fails_then : Bool → Most → Bool → Bool
fails_then first most next = first || (if is_zero most then false else next)

fails_assoc : (a : Bool) (m : Most) (b : Bool) (n : Most) (c : Bool)
    → fails_then (fails_then a m b) (both_most m n) c ≡ fails_then a m (fails_then b n c)
fails_assoc true m b n c = refl
fails_assoc false Zero b n c = refl
fails_assoc false One true n c = refl
fails_assoc false One false Zero c = refl
fails_assoc false One false One c = refl
fails_assoc false One false Many c = refl
fails_assoc false Many true n c = refl
fails_assoc false Many false Zero c = refl
fails_assoc false Many false One c = refl
fails_assoc false Many false Many c = refl

-- two goals as one, and then a third
abbrev joined : Bool → Most → Bool → Most → Category
joined a m b n = category (fails_then a m b) (both_most m n)

then_assoc : (a b c : Category) → then_category (then_category a b) c ≡ then_category a (then_category b c)
then_assoc a b c =
    let f = can_fail_of a in let m = most_of a in let g = can_fail_of b in let n = most_of b in let h = can_fail_of c in let k = most_of c in
    ap (λ x. joined x (most_of (then_category a b)) h k) (can_fail_is (fails_then f m g) (both_most m n))
    ∙ ap (λ x. joined (fails_then f m g) x h k) (most_is (fails_then f m g) (both_most m n))
    ∙ ap (λ x. category x (both_most (both_most m n) k)) (fails_assoc f m g n h)
    ∙ ap (λ x. category (fails_then f m (fails_then g n h)) x) (both_assoc m n k)
    ∙ sym (ap (λ x. joined f m x (most_of (then_category b c))) (can_fail_is (fails_then g n h) (both_most n k))
    ∙ ap (λ x. joined f m (fails_then g n h) x) (most_is (fails_then g n h) (both_most n k)))

then_det : (a : Category) → then_category a Det ≡ a
then_det Det = refl
then_det Semidet = refl
then_det Multi = refl
then_det Nondet = refl
then_det Erroneous = refl
then_det Failure = refl

det_then : (a : Category) → then_category Det a ≡ a
det_then Det = refl
det_then Semidet = refl
det_then Multi = refl
det_then Nondet = refl
det_then Erroneous = refl
det_then Failure = refl

left_behind : (before : Category) (categories : List Category) → from_left before categories ≡ then_category before (conjunction_category categories)
left_behind before [] = sym (then_det before)
left_behind before (first ∷ rest) = left_behind (then_category before first) rest ∙ then_assoc before first (conjunction_category rest)

pub left_is : (categories : List Category) → from_left Det categories ≡ conjunction_category categories
left_is categories = left_behind Det categories ∙ det_then (conjunction_category categories)
