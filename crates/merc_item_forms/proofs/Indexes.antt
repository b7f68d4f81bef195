-- Steps of a walk over a list by index.
use Rattle.std.proofs.Common.{◌≡◌, ℕ, suc, zero, ◌+◌, ◌<◌, Bool, true, false, ◌||◌, List, [], ◌∷◌, Some, None, length, take, refl, ap, sym, ◌∙◌, add-one, arith}
use Rattle.std.specs.List.{list_any, slice_get}

or_true : (b : Bool) → (b || true) ≡ true
or_true true = refl
or_true false = refl

either : (a b : Bool) → (a || b) ≡ false → (a ≡ false) × (b ≡ false)
either true b is = cc
either false b is = (refl, is)

found : {X : Type 0} (test : X → Bool) (items : List X) (index : ℕ) (item : X) → Some item ≡ slice_get items index → true ≡ test item → true ≡ list_any test items
found test [] index item at passes = cc
found test (first ∷ rest) zero item at passes = let same : item ≡ first = cc in ap (λ b. b || list_any test rest) (passes ∙ ap test same)
found test (first ∷ rest) (suc index) item at passes = sym (or_true (test first)) ∙ ap (λ b. test first || b) (found test rest index item at passes)

more_past : {X : Type 0} (test : X → Bool) (items : List X) (index : ℕ) (item : X) → Some item ≡ slice_get items index → false ≡ test item
    → list_any test (take index items) ≡ false → list_any test (take (suc index) items) ≡ false
more_past test [] index item at fails before = cc
more_past test (first ∷ rest) zero item at fails before = let same : item ≡ first = cc in sym (ap (λ b. b || false) (fails ∙ ap test same))
more_past test (first ∷ rest) (suc index) item at fails before = let both = either (test first) (list_any test (take index rest)) before in ap (λ b. b || list_any test (take (suc index) rest)) both.0 ∙ more_past test rest index item at fails both.1

pub not_past : {X : Type 0} (test : X → Bool) (items : List X) (index : ℕ) (item : X) → Some item ≡ slice_get items index → false ≡ test item
    → list_any test (take index items) ≡ false → list_any test (take (index + 1) items) ≡ false
not_past test items index item at fails before = rw add-one (more_past test items index item at fails before)

-- past the end there is no more
no_more : {X : Type 0} (test : X → Bool) (items : List X) (index : ℕ) → None ≡ slice_get items index → take (suc index) items ≡ take index items
no_more test [] zero at = refl
no_more test [] (suc index) at = refl
no_more test (first ∷ rest) zero at = cc
no_more test (first ∷ rest) (suc index) at = ap (λ l. first ∷ l) (no_more test rest index at)

pub none_past : {X : Type 0} (test : X → Bool) (items : List X) (index : ℕ) → None ≡ slice_get items index
    → list_any test (take index items) ≡ false → list_any test (take (index + 1) items) ≡ false
none_past test items index at before = rw add-one (ap (list_any test) (no_more test items index at) ∙ before)

slice_get-take : {X : Type 0} (items : List X) (count index : ℕ) → index < count → slice_get (take count items) index ≡ slice_get items index
slice_get-take [] zero index below = refl
slice_get-take [] (suc count) index below = refl
slice_get-take (first ∷ rest) zero index below = absurd (omega (arith, below))
slice_get-take (first ∷ rest) (suc count) zero below = refl
slice_get-take (first ∷ rest) (suc count) (suc index) below = slice_get-take rest count index (omega (arith, below))

pub found_before : {X : Type 0} (test : X → Bool) (items : List X) (count index : ℕ) (item : X) → index < count → Some item ≡ slice_get items index
    → true ≡ test item → true ≡ list_any test (take count items)
found_before test items count index item below at passes = found test (take count items) index item (at ∙ sym (slice_get-take items count index below)) passes

pub within_items : {X : Type 0} (items : List X) (index : ℕ) (item : X) → Some item ≡ slice_get items index → index < length items
within_items [] index item at = cc
within_items (first ∷ rest) zero item at = omega arith
within_items (first ∷ rest) (suc index) item at = omega (arith, within_items rest index item at)
