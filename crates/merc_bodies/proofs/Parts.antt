-- A goal's part at an index.
use Rattle.std.proofs.Common.{◌≡◌, get_or, drop-cons, ℕ, zero, suc, add-one, ◌+◌, ◌<◌, List, ◌∷◌, [], ◌++◌, length, map, drop, Some, None, slice_get, ap, sym, ◌∙◌, arith}
use Rattle.std.proofs.lemmas.List.{append_assoc}

none_past : {A : Type 0} (items : List A) (index : ℕ) → None ≡ slice_get items index → index < length items → ⊥
none_past [] index is within = absurd (omega (arith, within))
none_past (first ∷ rest) zero is within = cc
none_past (first ∷ rest) (suc index) is within = none_past rest index is (omega (arith, within))

-- there is a part at each index below their number
pub is_there : {A : Type 0} (items : List A) (index count : ℕ) → None ≡ slice_get items index → index < count → count ≡ length items → ⊥
is_there items index count is within counted = none_past items index is (omega (arith, within, counted))

first_left-suc : {A : Type 0} (items : List A) (index : ℕ) (item : A) → Some item ≡ slice_get items index → drop index items ≡ item ∷ drop (suc index) items
first_left-suc [] index item is = absurd cc
first_left-suc (first ∷ rest) zero item is = cc
first_left-suc (first ∷ rest) (suc index) item is = first_left-suc rest index item is

-- it is the first of those from there on
pub first_left : {A : Type 0} (items : List A) (index : ℕ) (item : A) → Some item ≡ slice_get items index → drop index items ≡ item ∷ drop (index + 1) items
first_left items index item is = first_left-suc items index item is ∙ ap (λ n. item ∷ drop n items) (sym (add-one index))

pub item_left : {A : Type 0} (items : List A) (index : ℕ) (item : A) → index < length items → item ≡ get_or items index item → drop index items ≡ item ∷ drop (index + 1) items
item_left items index item within is = drop-cons items index item within ∙ ap (λ first. first ∷ drop (suc index) items) (sym is) ∙ ap (λ n. item ∷ drop n items) (sym (add-one index))

-- what a function gives for it is put behind what it gave for those before
pub one_mapped : {A B : Type 0} (f : A → B) (item : A) (left later : List A) (before now whole : List B) → left ≡ item ∷ later
    → now ≡ before ++ f item ∷ [] → before ++ map f left ≡ whole → now ++ map f later ≡ whole
one_mapped f item left later before now whole next put is =
    ap (λ l. l ++ map f later) put ∙ append_assoc before (f item ∷ []) (map f later) ∙ ap (λ l. before ++ map f l) (sym next) ∙ is
