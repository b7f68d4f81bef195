-- Rights of one variable in order.
use Rattle.std.specs.Prelude.{◌≡◌, ◌<◌, ◌≤◌, ◌+◌, ◌==◌, ◌&&◌, not, nat_lt, nat_le, ℕ, zero, suc, Bool, true, false, List, [], ◌∷◌, ◌++◌, length, map, take, drop, slice_index_or, refl, if◌then◌else◌}
use Rattle.std.specs.List.{AllByRecursion, filter, flat_map}
use Rattle.std.specs.List.Sorted.{ties, IsNonDecreasing, IsStable}
use Rattle.std.specs.Ordering.{nat_cmp, is_lt}
use Rattle.std.proofs.Common.{◌∙◌, ap, sym, subst, arith, inl, inr}
use Rattle.std.proofs.lemmas.Bool.Decides.{nat_tests}
use Rattle.std.proofs.lemmas.List.{map-append, take-append-drop}
use Rattle.merc_rights.specs.Groups.{in_order, rights_in, AllFor, AreBoth}
use Rattle.merc_rights.specs.Rights.{Right, right_to, is_sooner, with_right, with_rights}

-- numbers of conjuncts in their places among others

abbrev pub with_number : ℕ → List ℕ → List ℕ
with_number a [] = a ∷ []
with_number a (b ∷ l) = if is_sooner a b then a ∷ b ∷ l else b ∷ with_number a l

abbrev pub with_numbers : List ℕ → List ℕ → List ℕ
with_numbers [] l = l
with_numbers (a ∷ r) l = with_numbers r (with_number a l)

abbrev pub NotSooner : ℕ → List ℕ → Type 0
NotSooner a l = AllByRecursion (λ b. is_sooner b a ≡ false) l

abbrev pub Up : List ℕ → Type 0
Up [] = Unit {0}
Up (a ∷ l) = NotSooner a l × Up l

abbrev pub count : ℕ → List ℕ → ℕ
count n [] = 0
count n (a ∷ l) = if a == n then suc (count n l) else count n l

not_sooner : (a b c : ℕ) → is_sooner b a ≡ false → is_sooner c b ≡ false → is_sooner c a ≡ false
not_sooner a b zero one other = refl
not_sooner zero zero (suc c) one other = absurd cc
not_sooner zero (suc b) (suc c) one other = absurd cc
not_sooner (suc a) zero (suc c) one other = absurd cc
not_sooner (suc a) (suc b) (suc c) one other = grind (arith, nat_tests, one, other)

asym : (a b : ℕ) → is_sooner a b ≡ true → is_sooner b a ≡ false
asym a zero sooner = refl
asym zero (suc b) sooner = absurd cc
asym (suc a) (suc b) sooner = grind (arith, nat_tests, sooner)

alike : (a b : ℕ) → is_sooner a b ≡ false → is_sooner b a ≡ false → a ≡ b
alike zero zero one other = refl
alike zero (suc b) one other = absurd cc
alike (suc a) zero one other = absurd cc
alike (suc a) (suc b) one other = let e : a ≡ b = grind (arith, nat_tests, one, other) in ap suc e

not_itself : (a : ℕ) → is_sooner a a ≡ false
not_itself zero = refl
not_itself (suc a) = grind (arith, nat_tests)

equal : (a n : ℕ) → (a == n) ≡ true → a ≡ n
equal a n is = grind (arith, nat_tests, is)

-- a number goes behind those that are not later

all_behind : (a b : ℕ) (l : List ℕ) → is_sooner a b ≡ true → NotSooner b l → NotSooner a l
all_behind a b [] sooner all = tt
all_behind a b (c ∷ l) sooner all = (not_sooner a b c (asym a b sooner) all.0, all_behind a b l sooner all.1)

all_with : (a b : ℕ) (l : List ℕ) → is_sooner b a ≡ false → NotSooner a l → NotSooner a (with_number b l)
all_with a b [] one all = (one, tt)
all_with a b (c ∷ l) one all = by (is_sooner b c) (all_with a b l one all.1)
  where
    by : (t : Bool) → NotSooner a (with_number b l) → NotSooner a (if t then b ∷ c ∷ l else c ∷ with_number b l)
    by true more = (one, all)
    by false more = (all.0, more)

up_with : (a : ℕ) (l : List ℕ) → Up l → Up (with_number a l)
up_with a [] up = (tt, tt)
up_with a (b ∷ l) up = by (is_sooner a b) refl (up_with a l up.1)
  where
    by : (t : Bool) → is_sooner a b ≡ t → Up (with_number a l) → Up (if t then a ∷ b ∷ l else b ∷ with_number a l)
    by true is more = ((asym a b is, all_behind a b l is up.0), up)
    by false is more = (all_with b a l is up.0, more)

pub up_withs : (r l : List ℕ) → Up l → Up (with_numbers r l)
up_withs [] l up = up
up_withs (a ∷ r) l up = up_withs r (with_number a l) (up_with a l up)

-- how often a number occurs

pub count_with : (n a : ℕ) (l : List ℕ) → count n (with_number a l) ≡ (if a == n then suc (count n l) else count n l)
count_with n a [] = refl
count_with n a (b ∷ l) = by (is_sooner a b) (count_with n a l)
  where
    turn : (s t : Bool) (k : ℕ) → (if s then suc (if t then suc k else k) else (if t then suc k else k)) ≡ (if t then suc (if s then suc k else k) else (if s then suc k else k))
    turn true true k = refl
    turn true false k = refl
    turn false true k = refl
    turn false false k = refl

    by : (t : Bool) → count n (with_number a l) ≡ (if a == n then suc (count n l) else count n l)
        → count n (if t then a ∷ b ∷ l else b ∷ with_number a l) ≡ (if a == n then suc (count n (b ∷ l)) else count n (b ∷ l))
    by true more = refl
    by false more = ap (λ k. if b == n then suc k else k) more ∙ turn (b == n) (a == n) (count n l)

pub count_withs : (n : ℕ) (r l : List ℕ) → count n (with_numbers r l) ≡ count n r + count n l
count_withs n [] l = omega arith
count_withs n (a ∷ r) l = count_withs n r (with_number a l) ∙ ap (λ k. count n r + k) (count_with n a l) ∙ by (a == n)
  where
    by : (t : Bool) → count n r + (if t then suc (count n l) else count n l) ≡ (if t then suc (count n r) else count n r) + count n l
    by true = omega arith
    by false = omega arith

pub count_append : (n : ℕ) (one other : List ℕ) → count n (one ++ other) ≡ count n one + count n other
count_append n [] other = omega arith
count_append n (a ∷ l) other = ap (λ k. if a == n then suc k else k) (count_append n l other) ∙ by (a == n)
  where
    by : (t : Bool) → (if t then suc (count n l + count n other) else (count n l + count n other)) ≡ (if t then suc (count n l) else count n l) + count n other
    by true = omega arith
    by false = omega arith

-- numbers in order are the same where each occurs as often

none_of : (n a : ℕ) (l : List ℕ) → is_sooner n a ≡ true → NotSooner a l → count n l ≡ 0
none_of n a [] sooner all = refl
none_of n a (b ∷ l) sooner all = by (b == n) refl (none_of n a l sooner all.1)
  where
    by : (t : Bool) → (b == n) ≡ t → count n l ≡ 0 → (if t then suc (count n l) else count n l) ≡ 0
    by true is none = absurd (let e = ap (λ k. is_sooner k a) (equal b n is) in let f = all.0 in cc)
    by false is none = none

other_than : (n b : ℕ) → is_sooner n b ≡ true → (b == n) ≡ false
other_than n b sooner = by (b == n) refl
  where
    by : (t : Bool) → (b == n) ≡ t → t ≡ false
    by true is = absurd (let e = ap (λ k. is_sooner k b) (equal b n is) in let f = not_itself b in cc)
    by false is = refl

itself : (n : ℕ) → (n == n) ≡ true
itself n = grind (arith, nat_tests)

one_more : (n : ℕ) (l : List ℕ) → count n (n ∷ l) ≡ suc (count n l)
one_more n l = ap (λ t. if t then suc (count n l) else count n l) (itself n)

missing : (n b : ℕ) (l : List ℕ) → is_sooner n b ≡ true → Up (b ∷ l) → count n (b ∷ l) ≡ 0
missing n b l sooner up = ap (λ t. if t then suc (count n l) else count n l) (other_than n b sooner) ∙ none_of n b l sooner up.0

same_first : (a b : ℕ) (xs ys : List ℕ) → Up (a ∷ xs) → Up (b ∷ ys) → ((n : ℕ) → count n (a ∷ xs) ≡ count n (b ∷ ys)) → a ≡ b
same_first a b xs ys one other same = by (is_sooner a b) (is_sooner b a) refl refl
  where
    by : (s t : Bool) → is_sooner a b ≡ s → is_sooner b a ≡ t → a ≡ b
    by true t is also = absurd (let e = same a in let f = one_more a xs in let g = missing a b ys is other in omega (arith, e, f, g))
    by false true is also = absurd (let e = same b in let f = one_more b ys in let g = missing b a xs also one in omega (arith, e, f, g))
    by false false is also = alike a b is also

less_one : (t : Bool) (k m : ℕ) → (if t then suc k else k) ≡ (if t then suc m else m) → k ≡ m
less_one true k m is = omega (arith, is)
less_one false k m is = is

pub same_numbers : (xs ys : List ℕ) → Up xs → Up ys → ((n : ℕ) → count n xs ≡ count n ys) → xs ≡ ys
same_numbers [] [] one other same = refl
same_numbers [] (b ∷ ys) one other same = absurd (let e = same b in let f = one_more b ys in omega (arith, e, f))
same_numbers (a ∷ xs) [] one other same = absurd (let e = same a in let f = one_more a xs in omega (arith, e, f))
same_numbers (a ∷ xs) (b ∷ ys) one other same =
    let e = same_first a b xs ys one other same in
    ap (λ k. k ∷ xs) e ∙ ap (λ l. b ∷ l) (same_numbers xs ys one.1 other.1 (λ n. less_one (b == n) (count n xs) (count n ys) (sym (ap (λ k. count n (k ∷ xs)) e) ∙ same n)))

-- rights to these conjuncts

abbrev pub to_all : ℕ → List ℕ → List Right
to_all variable l = map (λ conjunct. right_to conjunct variable) l

put_one : (variable a : ℕ) (l : List ℕ) → with_right (right_to a variable) (to_all variable l) ≡ to_all variable (with_number a l)
put_one variable a [] = refl
put_one variable a (b ∷ l) = by (is_sooner a b) (put_one variable a l)
  where
    by : (t : Bool) → with_right (right_to a variable) (to_all variable l) ≡ to_all variable (with_number a l)
        → (if t then right_to a variable ∷ to_all variable (b ∷ l) else right_to b variable ∷ with_right (right_to a variable) (to_all variable l)) ≡ to_all variable (if t then a ∷ b ∷ l else b ∷ with_number a l)
    by true more = refl
    by false more = ap (λ r. right_to b variable ∷ r) more

pub put_all : (variable : ℕ) (r l : List ℕ) → with_rights (to_all variable r) (to_all variable l) ≡ to_all variable (with_numbers r l)
put_all variable [] l = refl
put_all variable (a ∷ r) l = ap (with_rights (to_all variable r)) (put_one variable a l) ∙ put_all variable r (with_number a l)

pub ordered : (variable : ℕ) (l : List ℕ) → in_order variable l ≡ to_all variable (with_numbers l [])
ordered variable l = put_all variable l []

none_more : (n : ℕ) (r : List ℕ) → count n (with_numbers r []) ≡ count n r
none_more n r = let e = count_withs n r [] in omega (arith, e)

-- numbers in order, each as often
pub is_ordered : (variable : ℕ) (s l : List ℕ) → Up s → ((n : ℕ) → count n s ≡ count n l) → to_all variable s ≡ in_order variable l
is_ordered variable s l up same = ap (to_all variable) (same_numbers s (with_numbers l []) up (up_withs l [] tt) (λ n. same n ∙ sym (none_more n l))) ∙ sym (ordered variable l)

-- the numbers of two lists
both_count : (one other both : List ℕ) → AreBoth one other both → (n : ℕ) → count n both ≡ count n other + count n one
both_count one other both are n = elim are as (λ _. count n both ≡ count n other + count n one) [
  | inl is ↦ let e = ap (count n) is in let f = count_append n one other in omega (arith, e, f)
  | inr is ↦ ap (count n) is ∙ count_append n other one
]

pub both_ordered : (variable : ℕ) (one other both : List ℕ) → AreBoth one other both → in_order variable both ≡ with_rights (in_order variable other) (in_order variable one)
both_ordered variable one other both are =
    let a = with_numbers one [] in
    let b = with_numbers other [] in
    ordered variable both
    ∙ ap (to_all variable) (same_numbers (with_numbers both []) (with_numbers b a) (up_withs both [] tt) (up_withs b a (up_withs one [] tt))
    (λ n. let e = both_count one other both are n in let f = count_withs n b a in let g = none_more n both in let h = none_more n one in let k = none_more n other in omega (arith, e, f, g, h, k)))
    ∙ sym (put_all variable b a)
    ∙ ap (λ r. with_rights r (to_all variable a)) (sym (ordered variable other)) ∙ ap (with_rights (in_order variable other)) (sym (ordered variable one))

-- .. of rights that are all for a variable

abbrev numbers_of : List Right → List ℕ
numbers_of rights = map (λ right. right.conjunct) rights

back : (variable : ℕ) (l : List ℕ) → numbers_of (to_all variable l) ≡ l
back variable [] = refl
back variable (a ∷ l) = ap (λ r. a ∷ r) (back variable l)

again : (variable : ℕ) (rights : List Right) → AllFor variable rights → rights ≡ to_all variable (numbers_of rights)
again variable [] all = refl
again variable (first ∷ rest) all = ap (λ v. right_to first.conjunct v ∷ rest) all.0 ∙ ap (λ r. right_to first.conjunct variable ∷ r) (again variable rest all.1)

pub same_ordered : (variable other : ℕ) (l : List ℕ) → AllFor variable (in_order other l) → in_order other l ≡ in_order variable l
same_ordered variable other l all =
    let numbers = with_numbers l [] in
    again variable (in_order other l) all
    ∙ ap (λ r. to_all variable (numbers_of r)) (ordered other l) ∙ ap (to_all variable) (back other numbers) ∙ sym (ordered variable l)

pub joined_is : (variable other : ℕ) (one more both : List ℕ) → AreBoth one more both → AllFor variable (in_order other more)
    → in_order variable both ≡ with_rights (in_order other more) (in_order variable one)
joined_is variable other one more both are all =
    both_ordered variable one more both are ∙ ap (λ r. with_rights r (in_order variable one)) (sym (same_ordered variable other more all))

-- a sorted list, whose zeros go behind the others

tie_is : (one other : ℕ) → (not (is_lt (nat_cmp one other)) && not (is_lt (nat_cmp other one))) ≡ (other == one)
tie_is one other = grind (arith, nat_tests)

abbrev less : ℕ → ℕ → Bool
less one other = is_lt (nat_cmp one other)

tied_count : (n : ℕ) (l : List ℕ) → length (filter (ties less n) l) ≡ count n l
tied_count n [] = refl
tied_count n (a ∷ l) = ap (λ t. length (if t then a ∷ filter (ties less n) l else filter (ties less n) l)) (tie_is n a) ∙ by (a == n) (tied_count n l)
  where
    by : (t : Bool) → length (filter (ties less n) l) ≡ count n l → length (if t then a ∷ filter (ties less n) l else filter (ties less n) l) ≡ (if t then suc (count n l) else count n l)
    by true more = ap suc more
    by false more = more

sorted_count : (old new : List ℕ) → IsStable nat_cmp old new → (n : ℕ) → count n new ≡ count n old
sorted_count old new stable n = sym (tied_count n new) ∙ ap length (stable n) ∙ tied_count n old

above : (a : ℕ) (l : List ℕ) → ((j d : ℕ) → j < length l → a ≤ slice_index_or l j d) → AllByRecursion (λ b. a ≤ b) l
above a [] up = tt
above a (b ∷ l) up = (up 0 0 (omega arith), above a l (λ j d less. up (suc j) d (omega (arith, less))))

abbrev Rising : List ℕ → Type 0
Rising [] = Unit {0}
Rising (a ∷ l) = AllByRecursion (λ b. a ≤ b) l × Rising l

rising : (l : List ℕ) → IsNonDecreasing l → Rising l
rising [] up = tt
rising (a ∷ l) up = (
  above a l (λ j d less. up 0 (suc j) d (omega arith) (omega (arith, less))),
  rising l (λ i j d ordered less. up (suc i) (suc j) d (omega (arith, ordered)) (omega (arith, less))),
)

abbrev zero_test : ℕ → Bool
zero_test n = nat_lt n 1

abbrev some_test : ℕ → Bool
some_test n = nat_le 1 n

not_later : (a b : ℕ) → a ≤ b → nat_le 1 b ≡ true → nat_le 1 a ≡ true → is_sooner b a ≡ false
not_later a zero less some also = refl
not_later zero (suc b) less some also = absurd (grind (arith, nat_tests, also))
not_later (suc a) (suc b) less some also = grind (arith, nat_tests, less)

zeros_behind : (a : ℕ) (l : List ℕ) → NotSooner a (filter zero_test l)
zeros_behind a [] = tt
zeros_behind a (b ∷ l) = by b (zero_test b) refl (zeros_behind a l)
  where
    by : (b : ℕ) (t : Bool) → nat_lt b 1 ≡ t → NotSooner a (filter zero_test l) → NotSooner a (if t then b ∷ filter zero_test l else filter zero_test l)
    by zero true is more = (refl, more)
    by (suc b) true is more = absurd (grind (arith, nat_tests, is))
    by b false is more = more

up_zeros : (l : List ℕ) → Up (filter zero_test l)
up_zeros [] = tt
up_zeros (b ∷ l) = by b (zero_test b) refl (up_zeros l)
  where
    by : (b : ℕ) (t : Bool) → nat_lt b 1 ≡ t → Up (filter zero_test l) → Up (if t then b ∷ filter zero_test l else filter zero_test l)
    by zero true is more = (zeros_behind zero l, more)
    by (suc b) true is more = absurd (grind (arith, nat_tests, is))
    by b false is more = more

some_behind : (a : ℕ) (l zeros : List ℕ) → nat_le 1 a ≡ true → AllByRecursion (λ b. a ≤ b) l → NotSooner a zeros → NotSooner a (filter some_test l ++ zeros)
some_behind a [] zeros some up behind = behind
some_behind a (b ∷ l) zeros some up behind = by (some_test b) refl (some_behind a l zeros some up.1 behind)
  where
    by : (t : Bool) → nat_le 1 b ≡ t → NotSooner a (filter some_test l ++ zeros) → NotSooner a ((if t then b ∷ filter some_test l else filter some_test l) ++ zeros)
    by true is more = (not_later a b up.0 is some, more)
    by false is more = more

up_turned : (l whole : List ℕ) → Rising l → Up (filter some_test l ++ filter zero_test whole)
up_turned [] whole up = up_zeros whole
up_turned (a ∷ l) whole up = by (some_test a) refl (up_turned l whole up.1)
  where
    by : (t : Bool) → nat_le 1 a ≡ t → Up (filter some_test l ++ filter zero_test whole) → Up ((if t then a ∷ filter some_test l else filter some_test l) ++ filter zero_test whole)
    by true is more = (some_behind a l (filter zero_test whole) is up.0 (zeros_behind a whole), more)
    by false is more = more

pub turned_is : (variable : ℕ) (old sorted new : List ℕ) (k : ℕ) → IsNonDecreasing sorted → IsStable nat_cmp old sorted
    → take k sorted ≡ filter (λ n. nat_lt n 1) sorted → drop k sorted ≡ filter (λ n. nat_le 1 n) sorted → new ≡ drop k sorted ++ take k sorted
    → to_all variable new ≡ in_order variable old
turned_is variable old sorted new k up stable front behind turned =
    let e = turned ∙ ap (λ l. l ++ take k sorted) behind ∙ ap (λ l. filter some_test sorted ++ l) front in
    is_ordered variable new old (subst Up (sym e) (up_turned sorted sorted (rising sorted up)))
    (λ n. let f = ap (count n) turned in let g = count_append n (drop k sorted) (take k sorted) in let h = count_append n (take k sorted) (drop k sorted) in
    let m = ap (count n) (take-append-drop k sorted) in let s = sorted_count old sorted stable n in omega (arith, f, g, h, m, s))
