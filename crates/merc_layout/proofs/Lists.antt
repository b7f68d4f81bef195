-- Lists of which the items are in a relation one for one, and the item at a number.
use Rattle.std.specs.Prelude.{◌≡◌, ◌⊎◌, ◌<◌, ◌≤◌, ◌+◌, ℕ, zero, suc, List, [], ◌∷◌, ◌++◌, length, take, Some, None, slice_get, refl}
use Rattle.std.specs.List.{slice_index_or}
use Rattle.std.proofs.Common.{◌∙◌, ap, sym, subst, arith, inl, inr}
use Rattle.std.proofs.lemmas.List.{length-append, take_all, take_more}
use Rattle.merc_layout.specs.Entries.{Each}

pub some_same : {X : Type 0} (x y : X) → Some x ≡ Some y → x ≡ y
some_same x y e = cc

pub none_not : {X : Type 0} (x : X) → None ≡ Some x → ⊥
none_not x e = absurd cc

first_same : {X : Type 0} (x y : X) (xs ys : List X) → x ∷ xs ≡ y ∷ ys → x ≡ y
first_same x y xs ys e = cc

rest_same : {X : Type 0} (x y : X) (xs ys : List X) → x ∷ xs ≡ y ∷ ys → xs ≡ ys
rest_same x y xs ys e = cc

pub Each-append : {X Y : Type 0} (P : X → Y → Type 0) (xs : List X) (ys : List Y) (others : List X) (their : List Y) → Each P xs ys → Each P others their → Each P (xs ++ others) (ys ++ their)
Each-append P [] [] others their e f = f
Each-append P [] (y ∷ ys) others their e f = absurd e
Each-append P (x ∷ xs) [] others their e f = absurd e
Each-append P (x ∷ xs) (y ∷ ys) others their e f = (e.0, Each-append P xs ys others their e.1 f)

pub Each-weaker : {X Y : Type 0} (P Q : X → Y → Type 0) → ((x : X) (y : Y) → P x y → Q x y) → (xs : List X) (ys : List Y) → Each P xs ys → Each Q xs ys
Each-weaker P Q f [] [] e = e
Each-weaker P Q f [] (y ∷ ys) e = absurd e
Each-weaker P Q f (x ∷ xs) [] e = absurd e
Each-weaker P Q f (x ∷ xs) (y ∷ ys) e = (f x y e.0, Each-weaker P Q f xs ys e.1)

pub record Partner {X Y : Type 0} (P : X → Y → Type 0) (xs : List X) (number : ℕ) (y : Y) : Type 0 where
  pub item : X
  pub found : slice_get xs number ≡ Some item
  pub fits : P item y

pub Each-found : {X Y : Type 0} (P : X → Y → Type 0) (xs : List X) (ys : List Y) (number : ℕ) (y : Y) → Each P xs ys → slice_get ys number ≡ Some y → Partner P xs number y
Each-found P [] [] number y e h = absurd (none_not y h)
Each-found P [] (first ∷ ys) number y e h = absurd e
Each-found P (x ∷ xs) [] number y e h = absurd e
Each-found P (x ∷ xs) (first ∷ ys) zero y e h = record { item = x; found = refl; fits = subst (P x) (some_same first y h) e.0 }
Each-found P (x ∷ xs) (first ∷ ys) (suc number) y e h =
    let rest = Each-found P xs ys number y e.1 h in record { item = rest.item; found = rest.found; fits = rest.fits }

pub found_fits : {X Y : Type 0} (P : X → Y → Type 0) (xs : List X) (ys : List Y) (number : ℕ) (x : X) (y : Y) → Each P xs ys → slice_get xs number ≡ Some x → slice_get ys number ≡ Some y → P x y
found_fits P xs ys number x y e g h =
    let partner = Each-found P xs ys number y e h in
    subst (λ item. P item y) (some_same partner.item x (sym partner.found ∙ g)) partner.fits

pub Each-length : {X Y : Type 0} (P : X → Y → Type 0) (xs : List X) (ys : List Y) → Each P xs ys → length xs ≡ length ys
Each-length P [] [] e = refl
Each-length P [] (y ∷ ys) e = absurd e
Each-length P (x ∷ xs) [] e = absurd e
Each-length P (x ∷ xs) (y ∷ ys) e = ap suc (Each-length P xs ys e.1)

-- the first items, and one more
pub Each-more : {X Y : Type 0} (P : X → Y → Type 0) (xs longer : List X) (ys : List Y) (index : ℕ) (x : X) (y : Y) → longer ≡ xs ++ x ∷ [] → index < length ys → y ≡ slice_index_or ys index y → Each P xs (take index ys) → P x y
    → Each P longer (take (index + 1) ys)
Each-more P xs longer ys index x y pushed inside is before here =
    subst (λ l. Each P l (take (index + 1) ys)) (sym pushed)
    (subst (Each P (xs ++ x ∷ [])) (sym (take_more ys index y inside)) (Each-append P xs (take index ys) (x ∷ []) (slice_index_or ys index y ∷ []) before (subst (P x) is here, tt)))

pub Each-all : {X Y : Type 0} (P : X → Y → Type 0) (xs : List X) (ys : List Y) (index : ℕ) → length ys ≤ index → Each P xs (take index ys) → Each P xs ys
Each-all P xs ys index all e = subst (Each P xs) (take_all index ys all) e

-- the item behind so many others
pub get_behind : {X : Type 0} (before : List X) (x : X) (behind : List X) → slice_get (before ++ x ∷ behind) (length before) ≡ Some x
get_behind [] x behind = refl
get_behind (first ∷ before) x behind = get_behind before x behind

-- An item of a list is one of those before the last, or the last one.
pub record IsEarlier {X : Type 0} (xs before : List X) (y : X) : Type 0 where
  pub behind : List X
  pub whole : xs ≡ before ++ y ∷ behind

pub earlier_or_last : {X : Type 0} (xs : List X) (x : X) (before behind : List X) (y : X) → xs ++ x ∷ [] ≡ before ++ y ∷ behind → IsEarlier xs before y ⊎ ((xs ≡ before) × (x ≡ y))
earlier_or_last [] x [] behind y e = inr (refl, first_same x y [] behind e)
earlier_or_last [] x (first ∷ before) behind y e =
    let none : 0 ≡ length (before ++ y ∷ behind) = ap length (rest_same x first [] (before ++ y ∷ behind) e) in
    absurd (omega (arith, none, length-append before (y ∷ behind)))
earlier_or_last (first ∷ xs) x [] behind y e = inl (record { behind = xs; whole = ap (λ item. item ∷ xs) (first_same first y (xs ++ x ∷ []) behind e) })
earlier_or_last (first ∷ xs) x (other ∷ before) behind y e = by (earlier_or_last xs x before behind y (rest_same first other (xs ++ x ∷ []) (before ++ y ∷ behind) e))
  where
    same : first ≡ other
    same = first_same first other (xs ++ x ∷ []) (before ++ y ∷ behind) e

    by : IsEarlier xs before y ⊎ ((xs ≡ before) × (x ≡ y)) → IsEarlier (first ∷ xs) (other ∷ before) y ⊎ ((first ∷ xs ≡ other ∷ before) × (x ≡ y))
    by (inl is) = inl (record { behind = is.behind; whole = ap (λ item. item ∷ xs) same ∙ ap (λ l. other ∷ l) is.whole })
    by (inr is) = inr (ap (λ item. item ∷ xs) same ∙ ap (λ l. other ∷ l) is.0, is.1)

-- A list of no items is empty.
pub none_left : {X : Type 0} (xs : List X) → length xs ≡ 0 → xs ≡ []
none_left [] e = refl
none_left (x ∷ xs) e = absurd (omega (arith, e))
