-- Members of lists, and lists whose members are told apart by number.
use Rattle.std.proofs.Common.{◌≡◌, ◌⊎◌, inl, inr, ℕ, suc, ◌+◌, Bool, true, false, if◌then◌else◌, List, [], ◌∷◌, ◌++◌, length, map, filter, flat_map, refl, ap, sym, subst, ◌∙◌, arith}
use Rattle.std.specs.List.{AllByRecursion}
use Rattle.merc_core.specs.Rights.{has}
use Rattle.merc_core.specs.WellFormed.{AreDistinct}
use Rattle.merc_plan.proofs.Sets.{clash, absent, first_in, rest_in, or_in, front_or, in_left, in_right, in_either}

-- it stands in a list
abbrev pub Member : {A : Type 0} → A → List A → Type 0
Member a [] = ⊥
Member a (x ∷ xs) = (a ≡ x) ⊎ Member a xs

pub member_left : {A : Type 0} (a : A) (xs ys : List A) → Member a xs → Member a (xs ++ ys)
member_left a [] ys h = absurd h
member_left a (x ∷ xs) ys (inl e) = inl e
member_left a (x ∷ xs) ys (inr h) = inr (member_left a xs ys h)

pub member_right : {A : Type 0} (a : A) (xs ys : List A) → Member a ys → Member a (xs ++ ys)
member_right a [] ys h = h
member_right a (x ∷ xs) ys h = inr (member_right a xs ys h)

further : {A : Type 0} (a x : A) (xs ys : List A) → Member a xs ⊎ Member a ys → Member a (x ∷ xs) ⊎ Member a ys
further a x xs ys (inl k) = inl (inr k)
further a x xs ys (inr k) = inr k

pub member_either : {A : Type 0} (a : A) (xs ys : List A) → Member a (xs ++ ys) → Member a xs ⊎ Member a ys
member_either a [] ys h = inr h
member_either a (x ∷ xs) ys (inl e) = inl (inl e)
member_either a (x ∷ xs) ys (inr h) = further a x xs ys (member_either a xs ys h)

-- those that pass a test
passing_case : {A : Type 0} (p : A → Bool) (a x : A) (xs : List A) (b : Bool) → p x ≡ b → Member a (if b then x ∷ filter p xs else filter p xs) → (Member a (filter p xs) → Member a xs × (p a ≡ true))
    → Member a (x ∷ xs) × (p a ≡ true)
passing_case p a x xs true e (inl q) rec = (inl q, ap p q ∙ e)
passing_case p a x xs true e (inr q) rec = (inr (rec q).0, (rec q).1)
passing_case p a x xs false e q rec = (inr (rec q).0, (rec q).1)

pub passing : {A : Type 0} (p : A → Bool) (a : A) (xs : List A) → Member a (filter p xs) → Member a xs × (p a ≡ true)
passing p a [] h = absurd h
passing p a (x ∷ xs) h = passing_case p a x xs (p x) refl h (λ k. passing p a xs k)

passes_case : {A : Type 0} (p : A → Bool) (a x : A) (xs : List A) (b : Bool) → p x ≡ b → (a ≡ x) ⊎ Member a xs → p a ≡ true → (Member a xs → Member a (filter p xs)) → Member a (if b then x ∷ filter p xs else filter p xs)
passes_case p a x xs true e (inl q) h rec = inl q
passes_case p a x xs true e (inr q) h rec = inr (rec q)
passes_case p a x xs false e (inl q) h rec = clash (p x) (sym (ap p q) ∙ h) e
passes_case p a x xs false e (inr q) h rec = rec q

pub passes : {A : Type 0} (p : A → Bool) (a : A) (xs : List A) → Member a xs → p a ≡ true → Member a (filter p xs)
passes p a [] m h = absurd m
passes p a (x ∷ xs) m h = passes_case p a x xs (p x) refl m h (λ k. passes p a xs k h)

-- lists made from others
pub made_from : {A B : Type 0} (f : A → B) (b : B) (xs : List A) → Member b (map f xs) → (a : A) × (Member a xs × (b ≡ f a))
made_from f b [] h = absurd h
made_from f b (x ∷ xs) (inl e) = (x, (inl refl, e))
made_from f b (x ∷ xs) (inr h) = let r = made_from f b xs h in (r.0, (inr r.1.0, r.1.1))

pub is_made : {A B : Type 0} (f : A → B) (a : A) (xs : List A) → Member a xs → Member (f a) (map f xs)
is_made f a [] h = absurd h
is_made f a (x ∷ xs) (inl e) = inl (ap f e)
is_made f a (x ∷ xs) (inr h) = inr (is_made f a xs h)

pub joined_from : {A B : Type 0} (f : A → List B) (b : B) (xs : List A) → Member b (flat_map f xs) → (a : A) × (Member a xs × Member b (f a))
joined_from f b [] h = absurd h
joined_from f b (x ∷ xs) h = on (member_either b (f x) (flat_map f xs) h) (λ k. joined_from f b xs k) where
  on : Member b (f x) ⊎ Member b (flat_map f xs) → (Member b (flat_map f xs) → (a : _) × (Member a xs × Member b (f a))) → (a : _) × (Member a (x ∷ xs) × Member b (f a))
  on (inl k) rec = (x, (inl refl, k))
  on (inr k) rec = let r = rec k in (r.0, (inr r.1.0, r.1.1))

pub is_joined : {A B : Type 0} (f : A → List B) (b : B) (a : A) (xs : List A) → Member a xs → Member b (f a) → Member b (flat_map f xs)
is_joined f b a [] h k = absurd h
is_joined f b a (x ∷ xs) (inl e) k = member_left b (f x) (flat_map f xs) (subst (λ z. Member b (f z)) e k)
is_joined f b a (x ∷ xs) (inr h) k = member_right b (f x) (flat_map f xs) (is_joined f b a xs h k)

pub each_member : {A : Type 0} (P : A → Type 0) (xs : List A) → ((a : A) → Member a xs → P a) → AllByRecursion P xs
each_member P [] h = tt
each_member P (x ∷ xs) h = (h x (inl refl), each_member P xs (λ a m. h a (inr m)))

-- numbers of members
pub numbered : {A : Type 0} (f : A → ℕ) (c : ℕ) (xs : List A) → has c (map f xs) ≡ true → (a : A) × (Member a xs × (f a ≡ c))
numbered f c [] h = absurd (cc)
numbered f c (x ∷ xs) h = on (front_or c (f x) (map f xs) h) (λ k. numbered f c xs k) where
  on : (c ≡ f x) ⊎ (has c (map f xs) ≡ true) → (has c (map f xs) ≡ true → (a : _) × (Member a xs × (f a ≡ c))) → (a : _) × (Member a (x ∷ xs) × (f a ≡ c))
  on (inl e) rec = (x, (inl refl, sym e))
  on (inr k) rec = let r = rec k in (r.0, (inr r.1.0, r.1.1))

pub is_numbered : {A : Type 0} (f : A → ℕ) (a : A) (xs : List A) → Member a xs → has (f a) (map f xs) ≡ true
is_numbered f a [] h = absurd h
is_numbered f a (x ∷ xs) (inl e) = or_in (f a) (f x) (map f xs) (inl (ap f e))
is_numbered f a (x ∷ xs) (inr h) = rest_in (f a) (f x) (map f xs) (is_numbered f a xs h)

pub number_in : {A : Type 0} (f : A → ℕ) (a : A) (c : ℕ) (xs : List A) → Member a xs → f a ≡ c → has c (map f xs) ≡ true
number_in f a c xs h e = subst (λ z. has z (map f xs) ≡ true) e (is_numbered f a xs h)

pub has_member : (c : ℕ) (xs : List ℕ) → has c xs ≡ true → Member c xs
has_member c [] h = absurd (cc)
has_member c (x ∷ xs) h = on (front_or c x xs h) (λ k. has_member c xs k) where
  on : (c ≡ x) ⊎ (has c xs ≡ true) → (has c xs ≡ true → Member c xs) → (c ≡ x) ⊎ Member c xs
  on (inl e) rec = inl e
  on (inr k) rec = inr (rec k)

pub member_has : (c : ℕ) (xs : List ℕ) → Member c xs → has c xs ≡ true
member_has c [] h = absurd h
member_has c (x ∷ xs) (inl e) = or_in c x xs (inl e)
member_has c (x ∷ xs) (inr h) = rest_in c x xs (member_has c xs h)

-- Where numbers are told apart, so are members.
pub distinct_same : {A : Type 0} (f : A → ℕ) (a b : A) (xs : List A) → AreDistinct (map f xs) → Member a xs → Member b xs → f a ≡ f b → a ≡ b
distinct_same f a b [] d m n e = absurd m
distinct_same f a b (x ∷ xs) d (inl p) (inl q) e = p ∙ sym q
distinct_same f a b (x ∷ xs) d (inl p) (inr q) e = clash (has (f x) (map f xs)) (number_in f b (f x) xs q (sym e ∙ ap f p)) d.0
distinct_same f a b (x ∷ xs) d (inr p) (inl q) e = clash (has (f x) (map f xs)) (number_in f a (f x) xs p (e ∙ ap f q)) d.0
distinct_same f a b (x ∷ xs) d (inr p) (inr q) e = distinct_same f a b xs d.1 p q e

passed_number : {A : Type 0} (f : A → ℕ) (p : A → Bool) (c : ℕ) (xs : List A) → has c (map f (filter p xs)) ≡ true → has c (map f xs) ≡ true
passed_number f p c xs h = let r = numbered f c (filter p xs) h in number_in f r.0 c xs (passing p r.0 xs r.1.0).0 r.1.1

distinct_case : {A : Type 0} (f : A → ℕ) (p : A → Bool) (x : A) (xs : List A) (b : Bool) → has (f x) (map f xs) ≡ false → AreDistinct (map f (filter p xs)) → AreDistinct (map f (if b then x ∷ filter p xs else filter p xs))
distinct_case f p x xs true n d = (absent (f x) (map f (filter p xs)) (λ h. clash (has (f x) (map f xs)) (passed_number f p (f x) xs h) n), d)
distinct_case f p x xs false n d = d

pub distinct_passing : {A : Type 0} (f : A → ℕ) (p : A → Bool) (xs : List A) → AreDistinct (map f xs) → AreDistinct (map f (filter p xs))
distinct_passing f p [] d = tt
distinct_passing f p (x ∷ xs) d = distinct_case f p x xs (p x) d.0 (distinct_passing f p xs d.1)

number_case : (p : ℕ → Bool) (x : ℕ) (xs : List ℕ) (b : Bool) → has x xs ≡ false → AreDistinct (filter p xs) → AreDistinct (if b then x ∷ filter p xs else filter p xs)
number_case p x xs true n d = (absent x (filter p xs) (λ h. clash (has x xs) (member_has x xs (passing p x xs (has_member x (filter p xs) h)).0) n), d)
number_case p x xs false n d = d

pub distinct_filter : (p : ℕ → Bool) (xs : List ℕ) → AreDistinct xs → AreDistinct (filter p xs)
distinct_filter p [] d = tt
distinct_filter p (x ∷ xs) d = number_case p x xs (p x) d.0 (distinct_filter p xs d.1)

pub distinct_both : (xs ys : List ℕ) → AreDistinct xs → AreDistinct ys → ((c : ℕ) → has c xs ≡ true → has c ys ≡ true → ⊥) → AreDistinct (xs ++ ys)
distinct_both [] ys d e n = e
distinct_both (x ∷ xs) ys d e n = (absent x (xs ++ ys) (λ h. on (in_either x xs ys h)), distinct_both xs ys d.1 e (λ c h i. n c (rest_in c x xs h) i)) where
  on : (has x xs ≡ true) ⊎ (has x ys ≡ true) → ⊥
  on (inl h) = clash (has x xs) h d.0
  on (inr h) = n x (first_in x xs) h

pub distinct_left : (xs ys : List ℕ) → AreDistinct (xs ++ ys) → AreDistinct xs
distinct_left [] ys d = tt
distinct_left (x ∷ xs) ys d = (absent x xs (λ h. clash (has x (xs ++ ys)) (in_left x xs ys h) d.0), distinct_left xs ys d.1)

pub distinct_right : (xs ys : List ℕ) → AreDistinct (xs ++ ys) → AreDistinct ys
distinct_right [] ys d = d
distinct_right (x ∷ xs) ys d = distinct_right xs ys d.1

pub distinct_apart : (c : ℕ) (xs ys : List ℕ) → AreDistinct (xs ++ ys) → has c xs ≡ true → has c ys ≡ true → ⊥
distinct_apart c [] ys d h k = absurd (cc)
distinct_apart c (x ∷ xs) ys d h k = on (front_or c x xs h) (λ i. distinct_apart c xs ys d.1 i k) where
  on : (c ≡ x) ⊎ (has c xs ≡ true) → (has c xs ≡ true → ⊥) → ⊥
  on (inl e) rec = clash (has x (xs ++ ys)) (in_right x xs ys (subst (λ z. has z ys ≡ true) e k)) d.0
  on (inr i) rec = rec i

-- lists side by side
pub map_both : {A B : Type 0} (f : A → B) (xs ys : List A) → map f (xs ++ ys) ≡ map f xs ++ map f ys
map_both f [] ys = refl
map_both f (x ∷ xs) ys = ap (λ l. f x ∷ l) (map_both f xs ys)

pub map_twice : {A B C : Type 0} (g : B → C) (f : A → B) (xs : List A) → map g (map f xs) ≡ map (λ x. g (f x)) xs
map_twice g f [] = refl
map_twice g f (x ∷ xs) = ap (λ l. g (f x) ∷ l) (map_twice g f xs)

filter_case : {A : Type 0} (p : A → Bool) (x : A) (xs ys : List A) (b : Bool) → filter p (xs ++ ys) ≡ filter p xs ++ filter p ys
    → (if b then x ∷ filter p (xs ++ ys) else filter p (xs ++ ys)) ≡ (if b then x ∷ filter p xs else filter p xs) ++ filter p ys
filter_case p x xs ys true h = ap (λ l. x ∷ l) h
filter_case p x xs ys false h = h

pub filter_both : {A : Type 0} (p : A → Bool) (xs ys : List A) → filter p (xs ++ ys) ≡ filter p xs ++ filter p ys
filter_both p [] ys = refl
filter_both p (x ∷ xs) ys = filter_case p x xs ys (p x) (filter_both p xs ys)

pub length_both : {A : Type 0} (xs ys : List A) → length (xs ++ ys) ≡ length xs + length ys
length_both [] ys = omega (arith)
length_both (x ∷ xs) ys = let h = length_both xs ys in omega (arith, h)

pub length_map : {A B : Type 0} (f : A → B) (xs : List A) → length (map f xs) ≡ length xs
length_map f [] = refl
length_map f (x ∷ xs) = ap suc (length_map f xs)

none_case : {A : Type 0} (p : A → Bool) (x : A) (xs : List A) (b : Bool) → b ≡ false → filter p xs ≡ [] → (if b then x ∷ filter p xs else filter p xs) ≡ []
none_case p x xs true e h = absurd (cc)
none_case p x xs false e h = h

pub filter_none : {A : Type 0} (p : A → Bool) (xs : List A) → ((a : A) → Member a xs → p a ≡ false) → filter p xs ≡ []
filter_none p [] h = refl
filter_none p (x ∷ xs) h = none_case p x xs (p x) (h x (inl refl)) (filter_none p xs (λ a m. h a (inr m)))

all_case : {A : Type 0} (p : A → Bool) (x : A) (xs : List A) (b : Bool) → b ≡ true → filter p xs ≡ xs → (if b then x ∷ filter p xs else filter p xs) ≡ x ∷ xs
all_case p x xs true e h = ap (λ l. x ∷ l) h
all_case p x xs false e h = absurd (cc)

pub filter_all : {A : Type 0} (p : A → Bool) (xs : List A) → ((a : A) → Member a xs → p a ≡ true) → filter p xs ≡ xs
filter_all p [] h = refl
filter_all p (x ∷ xs) h = all_case p x xs (p x) (h x (inl refl)) (filter_all p xs (λ a m. h a (inr m)))

-- of lists that are joined for numbers told apart, those of one number
pub filter_joined_none : {B : Type 0} (p : B → Bool) (f : ℕ → List B) (xs : List ℕ) → ((y : ℕ) → has y xs ≡ true → filter p (f y) ≡ []) → filter p (flat_map f xs) ≡ []
filter_joined_none p f [] h = refl
filter_joined_none p f (x ∷ xs) h =
    filter_both p (f x) (flat_map f xs) ∙ ap (λ l. l ++ filter p (flat_map f xs)) (h x (first_in x xs)) ∙ filter_joined_none p f xs (λ y i. h y (rest_in y x xs i))

append_nothing : {B : Type 0} (xs : List B) → xs ++ [] ≡ xs
append_nothing [] = refl
append_nothing (x ∷ xs) = ap (λ l. x ∷ l) (append_nothing xs)

pub filter_joined_one : {B : Type 0} (p : B → Bool) (f : ℕ → List B) (x : ℕ) (xs : List ℕ) → AreDistinct xs → has x xs ≡ true → ((y : ℕ) → (x ≡ y → ⊥) → filter p (f y) ≡ []) → filter p (flat_map f xs) ≡ filter p (f x)
filter_joined_one p f x [] d m h = absurd (cc)
filter_joined_one p f x (y ∷ ys) d m h = filter_both p (f y) (flat_map f ys) ∙ on (front_or x y ys m) (λ k. filter_joined_one p f x ys d.1 k h) where
  on : (x ≡ y) ⊎ (has x ys ≡ true) → (has x ys ≡ true → filter p (flat_map f ys) ≡ filter p (f x)) → filter p (f y) ++ filter p (flat_map f ys) ≡ filter p (f x)
  on (inl e) rec = ap (λ l. filter p (f y) ++ l) (filter_joined_none p f ys (λ z i. h z (λ q. clash (has y ys) (subst (λ u. has u ys ≡ true) (sym q ∙ e) i) d.0))) ∙ append_nothing (filter p (f y))
      ∙ ap (λ z. filter p (f z)) (sym e)
  on (inr i) rec = ap (λ l. l ++ filter p (flat_map f ys)) (h y (λ q. clash (has y ys) (subst (λ u. has u ys ≡ true) q i) d.0)) ∙ rec i
