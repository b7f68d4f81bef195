-- Numbers by variable: the next one, and which lists they tell of.
use Rattle.std.specs.Prelude.{◌≡◌, ◌≤◌, ◌<◌, ◌+◌, ◌==◌, ◌&&◌, ◌||◌, not, nat_le, nat_lt, ℕ, zero, suc, Bool, true, false, List, [], ◌∷◌, ◌++◌, length, take, drop, map, slice_get, slice_index_or, Option, Some, None, refl, if◌then◌else◌}
use Rattle.std.specs.List.{filter, find, flat_map}
use Rattle.std.specs.List.Sorted.{IsNonDecreasing, IsNonDecreasingBy}
use Rattle.std.specs.Option.{option_map}
use Rattle.std.proofs.Common.{◌∙◌, ap, sym, subst, arith}
use Rattle.std.proofs.lemmas.Bool.Decides.{nat_tests}
use Rattle.std.proofs.lemmas.List.{length-map, append-nil, append_assoc, map-append, flat_map_more, get_or_default, take_more, take_all, drop_more}
use Rattle.merc_graded_tree.specs.Nodes.{Node, outputs_of}
use Rattle.merc_graded_tree.specs.Variables.{among}
use Rattle.merc_rights.specs.Rows.{row_of, next_from, numbers_from, each_from, pairs_from, Tells}
use Rattle.merc_rights.proofs.RowLaws.{parted, not_before}

-- the first that is not before a number

abbrev head_of : {X : Type 0} → List X → Option X
head_of [] = None
head_of (first ∷ rest) = Some first

head_is : {X : Type 0} (items : List X) (i : ℕ) → slice_get items i ≡ head_of (drop i items)
head_is [] zero = refl
head_is [] (suc i) = refl
head_is (first ∷ rest) zero = refl
head_is (first ∷ rest) (suc i) = head_is rest i

find_head : (p : ℕ → Bool) (items : List (ℕ × ℕ)) → option_map (λ item. item.1) (head_of (filter (λ item. p item.1) items)) ≡ find p (map (λ item. item.1) items)
find_head p [] = refl
find_head p (first ∷ rest) = by (p first.1) (find_head p rest)
  where
    by : (b : Bool) → option_map (λ item. item.1) (head_of (filter (λ item. p item.1) rest)) ≡ find p (map (λ item. item.1) rest)
        → option_map (λ item. item.1) (head_of (if b then first ∷ filter (λ item. p item.1) rest else filter (λ item. p item.1) rest)) ≡ (if b then Some first.1 else find p (map (λ item. item.1) rest))
    by true is = refl
    by false is = is

pub found_at : (row : List (ℕ × ℕ)) (from i : ℕ) → i ≤ length row → ((k : ℕ) (d : ℕ × ℕ) → k < i → nat_lt (slice_index_or row k d).1 from ≡ true)
    → ((k : ℕ) (d : ℕ × ℕ) → i ≤ k → k < length row → nat_lt (slice_index_or row k d).1 from ≡ false) → option_map (λ item. item.1) (slice_get row i) ≡ find (nat_le from) (map (λ item. item.1) row)
found_at row from i within passes fails =
    ap (λ o. option_map (λ item. item.1) o) (head_is row i ∙ ap head_of (parted (λ item. nat_lt item.1 from) (λ item. nat_le from item.1) (λ item. not_before from item.1) row i within passes fails).1)
    ∙ find_head (nat_le from) row

-- what is found in the pairs of lists

abbrev if_in : {X : Type 0} → Bool → X → List X → List X
if_in b x l = if b then x ∷ l else l

with_first : {X : Type 0} (b : Bool) (first : X) (whole one other : List X) → whole ≡ one ++ other → (if b then first ∷ whole else whole) ≡ (if b then first ∷ one else one) ++ other
with_first true first whole one other is = ap (λ l. first ∷ l) is
with_first false first whole one other is = is

pub row-append : {X : Type 0} (number : ℕ) (one other : List (ℕ × X)) → row_of number (one ++ other) ≡ row_of number one ++ row_of number other
row-append number [] other = refl
row-append number (first ∷ rest) other = with_first (first.0 == number) first.1 (row_of number (rest ++ other)) (row_of number rest) (row_of number other) (row-append number rest other)

-- the row of a variable among pairs of one number

same_back : (one other : ℕ) → (one == other) ≡ (other == one)
same_back one other = grind (arith, nat_tests)

step-true : (q a : Bool) (number : ℕ) (o other : Option ℕ) → o ≡ (if q && a then Some number else other) → (if q then Some number else o) ≡ (if q && true then Some number else other)
step-true true a number o other is = refl
step-true false a number o other is = is

step : (b : Bool) (row rest : List ℕ) (number : ℕ) (p : ℕ → Bool) (a : Bool) → find p (row ++ rest) ≡ (if p number && a then Some number else find p rest)
    → find p ((if b then number ∷ row else row) ++ rest) ≡ (if p number && (b || a) then Some number else find p rest)
step true row rest number p a is = step-true (p number) a number (find p (row ++ rest)) (find p rest) is
step false row rest number p a is = is

no_step : (q : Bool) (number : ℕ) (o : Option ℕ) → o ≡ (if q && false then Some number else o)
no_step true number o = refl
no_step false number o = refl

row_same : (variable number : ℕ) (list : List ℕ) (p : ℕ → Bool) (rest : List ℕ)
    → find p (row_of variable (map (λ v. (v, number)) list) ++ rest) ≡ (if p number && among list variable then Some number else find p rest)
row_same variable number [] p rest = no_step (p number) number (find p rest)
row_same variable number (first ∷ others) p rest =
    step (first == variable) (row_of variable (map (λ v. (v, number)) others)) rest number p (among others variable) (row_same variable number others p rest)
    ∙ ap (λ b. if p number && (b || among others variable) then Some number else find p rest) (same_back first variable)

pub find_pairs : (variable from number : ℕ) (lists : List (List ℕ)) → find (nat_le from) (row_of variable (pairs_from number lists)) ≡ next_from (λ list. among list variable) from number lists
find_pairs variable from number [] = refl
find_pairs variable from number (list ∷ rest) =
    ap (λ row. find (nat_le from) row) (row-append variable (map (λ v. (v, number)) list) (pairs_from (suc number) rest))
    ∙ row_same variable number list (nat_le from) (row_of variable (pairs_from (suc number) rest))
    ∙ ap (λ o. if nat_le from number && among list variable then Some number else o) (find_pairs variable from (suc number) rest)

-- a look-up in pairs that tell of lists
pub next_is : (variable from : ℕ) (pairs : List (ℕ × ℕ)) (lists : List (List ℕ)) (result : Option ℕ) → Tells pairs lists → result ≡ find (nat_le from) (row_of variable pairs)
    → result ≡ next_from (λ list. among list variable) from 0 lists
next_is variable from pairs lists result tells is = is ∙ ap (λ row. find (nat_le from) row) (tells variable) ∙ find_pairs variable from 0 lists

-- the rows of such pairs rise

abbrev Up : ℕ → List ℕ → Type 0
Up least [] = Unit {0}
Up least (first ∷ rest) = (least ≤ first) × Up first rest

up_less : (one other : ℕ) (row : List ℕ) → one ≤ other → Up other row → Up one row
up_less one other [] less up = tt
up_less one other (first ∷ rest) less up = let a = up.0 in (omega (arith, less, a), up.1)

up_same : (variable number : ℕ) (list : List ℕ) (rest : List ℕ) → Up number rest → Up number (row_of variable (map (λ v. (v, number)) list) ++ rest)
up_same variable number [] rest up = up
up_same variable number (first ∷ others) rest up = by (first == variable) (up_same variable number others rest up)
  where
    by : (b : Bool) → Up number (row_of variable (map (λ v. (v, number)) others) ++ rest)
        → Up number ((if b then number ∷ row_of variable (map (λ v. (v, number)) others) else row_of variable (map (λ v. (v, number)) others)) ++ rest)
    by true is = (omega arith, is)
    by false is = is

up_pairs : (variable number : ℕ) (lists : List (List ℕ)) → Up number (row_of variable (pairs_from number lists))
up_pairs variable number [] = tt
up_pairs variable number (list ∷ rest) =
    subst (λ row. Up number row) (sym (row-append variable (map (λ v. (v, number)) list) (pairs_from (suc number) rest)))
    (up_same variable number list (row_of variable (pairs_from (suc number) rest)) (up_less number (suc number) (row_of variable (pairs_from (suc number) rest)) (omega arith) (up_pairs variable (suc number) rest)))

least : (one : ℕ) (row : List ℕ) (j d : ℕ) → Up one row → j < length row → one ≤ slice_index_or row j d
least one [] j d up less = absurd (omega (arith, less))
least one (first ∷ rest) zero d up less = up.0
least one (first ∷ rest) (suc j) d up less = let a = up.0 in let b = least first rest j d up.1 (omega (arith, less)) in omega (arith, a, b)

rise : (one : ℕ) (row : List ℕ) → Up one row → (i j d : ℕ) → i ≤ j → j < length row → slice_index_or row i d ≤ slice_index_or row j d
rise one [] up i j d ordered less = absurd (omega (arith, less))
rise one (first ∷ rest) up zero zero d ordered less = omega arith
rise one (first ∷ rest) up zero (suc j) d ordered less = least first rest j d up.1 (omega (arith, less))
rise one (first ∷ rest) up (suc i) zero d ordered less = absurd (omega (arith, ordered))
rise one (first ∷ rest) up (suc i) (suc j) d ordered less = rise first rest up.1 i j d (omega (arith, ordered)) (omega (arith, less))

pub pairs_rise : (pairs : List (ℕ × ℕ)) (lists : List (List ℕ)) → pairs ≡ pairs_from 0 lists → (variable : ℕ) → IsNonDecreasing (row_of variable pairs)
pairs_rise pairs lists is variable =
    subst (λ p. IsNonDecreasing (row_of variable p)) (sym is) (λ i j d ordered less. rise 0 (row_of variable (pairs_from 0 lists)) (up_pairs variable 0 lists) i j d ordered less)

pub row_rises : (row : List (ℕ × ℕ)) (listed : List ℕ) → map (λ item. item.1) row ≡ listed → IsNonDecreasing listed → IsNonDecreasingBy (λ item. item.1) row
row_rises row listed is up i j d ordered less =
    let up' : IsNonDecreasing (map (λ item. item.1) row) = subst IsNonDecreasing (sym is) up in
    let h = up' i j d.1 ordered (omega (arith, less, length-map row (λ item. item.1))) in
    subst (λ x. x ≤ (slice_index_or row j d).1) (mapped_at row i d) (subst (λ x. slice_index_or (map (λ item. item.1) row) i d.1 ≤ x) (mapped_at row j d) h)
  where
    mapped_at : (row : List (ℕ × ℕ)) (k : ℕ) (d : ℕ × ℕ) → slice_index_or (map (λ item. item.1) row) k d.1 ≡ (slice_index_or row k d).1
    mapped_at [] k d = refl
    mapped_at (first ∷ rest) zero d = refl
    mapped_at (first ∷ rest) (suc k) d = mapped_at rest k d

-- one item more

pub flat_more : {X Y : Type 0} (f : X → List Y) (items : List X) (index : ℕ) (item : X) (before old new : List Y) → item ≡ slice_index_or items index item → index < length items
    → old ≡ before ++ flat_map f (take index items) → new ≡ old ++ f item → new ≡ before ++ flat_map f (take (index + 1) items)
flat_more f items index item before old new is less same put =
    put ∙ ap (λ l. l ++ f item) same ∙ flat_map_more f before (take index items) item
    ∙ ap (λ l. before ++ flat_map f l) (sym (take_more items index item less ∙ ap (λ x. take index items ++ x ∷ []) (sym is)))

pub map_more : {X Y : Type 0} (f : X → Y) (items : List X) (index : ℕ) (item : X) (before old new : List Y) → item ≡ slice_index_or items index item → index < length items
    → old ≡ before ++ map f (take index items) → new ≡ old ++ f item ∷ [] → new ≡ before ++ map f (take (index + 1) items)
map_more f items index item before old new is less same put =
    put ∙ ap (λ l. l ++ f item ∷ []) same ∙ append_assoc before (map f (take index items)) (f item ∷ [])
    ∙ ap (λ l. before ++ l) (sym (map-append f (take index items) (item ∷ [])) ∙ ap (map f) (sym (take_more items index item less ∙ ap (λ x. take index items ++ x ∷ []) (sym is))))

pub map_more_at : {X Y : Type 0} (f : X → Y) (items : List X) (index : ℕ) (d : X) (before old new : List Y) → index < length items
    → old ≡ before ++ map f (take index items) → new ≡ old ++ f (slice_index_or items index d) ∷ [] → new ≡ before ++ map f (take (index + 1) items)
map_more_at f items index d before old new less same put =
    put ∙ ap (λ l. l ++ f (slice_index_or items index d) ∷ []) same ∙ append_assoc before (map f (take index items)) (f (slice_index_or items index d) ∷ [])
    ∙ ap (λ l. before ++ l) (sym (map-append f (take index items) (slice_index_or items index d ∷ [])) ∙ ap (map f) (sym (take_more items index d less)))

-- all of them

pub map_all : {X Y : Type 0} (f : X → Y) (items : List X) (index : ℕ) (before old : List Y) → length items ≤ index → old ≡ before ++ map f (take index items) → old ≡ before ++ map f items
map_all f items index before old least same = same ∙ ap (λ l. before ++ map f l) (take_all index items least)

-- one list more

pub each-push : {X Y : Type 0} (f : ℕ → X → List Y) (number : ℕ) (items : List X) (last : X) → each_from f number (items ++ last ∷ []) ≡ each_from f number items ++ f (number + length items) last
each-push f number [] last = append-nil (f number last) ∙ (let e : number ≡ number + 0 = omega arith in ap (λ n. f n last) e)
each-push f number (first ∷ rest) last =
    ap (λ l. f number first ++ l) (each-push f (suc number) rest last)
    ∙ sym (append_assoc (f number first) (each_from f (suc number) rest) (f (suc number + length rest) last))
    ∙ (let e : suc number + length rest ≡ number + suc (length rest) = omega arith in ap (λ n. (f number first ++ each_from f (suc number) rest) ++ f n last) e)

abbrev image : {X Y : Type 0} (f : X → Y) → Option X → List Y
image f None = []
image f (Some x) = f x ∷ []

pub take_got : {X Y : Type 0} (f : X → Y) (items : List X) (index : ℕ) (item : X) → Some item ≡ slice_get items index
    → (take (index + 1) (map f items) ≡ take index (map f items) ++ f item ∷ []) × (length (take index (map f items)) ≡ index)
take_got f [] index item is = absurd (cc)
take_got f (first ∷ rest) zero item is = (ap (image f) (sym is), refl)
take_got f (first ∷ rest) (suc index) item is =
    let e : suc index + 1 ≡ suc (index + 1) = omega arith in
    let r = take_got f rest index item is in (ap (λ n. take n (map f (first ∷ rest))) e ∙ ap (λ l. f first ∷ l) r.0, ap suc r.1)

pub pairs_more : {X : Type 0} (f : X → List ℕ) (items : List X) (index : ℕ) (item : X) (old new : List (ℕ × ℕ)) → Some item ≡ slice_get items index
    → old ≡ pairs_from 0 (take index (map f items)) → new ≡ old ++ map (λ variable. (variable, index)) (f item) → new ≡ pairs_from 0 (take (index + 1) (map f items))
pairs_more f items index item old new is same put =
    let t = take_got f items index item is in
    put ∙ ap (λ l. l ++ map (λ variable. (variable, index)) (f item)) same
    ∙ (let e : index ≡ 0 + length (take index (map f items)) = let h = t.1 in omega (arith, h) in ap (λ n. pairs_from 0 (take index (map f items)) ++ map (λ variable. (variable, n)) (f item)) e)
    ∙ sym (each-push (λ n list. map (λ variable. (variable, n)) list) 0 (take index (map f items)) (f item))
    ∙ ap (pairs_from 0) (sym t.0)

pub pairs_none : {X : Type 0} (f : X → List ℕ) (items : List X) (index : ℕ) → index < length items → None ≡ slice_get items index → ⊥
pairs_none f [] index less is = omega (arith, less)
pairs_none f (first ∷ rest) zero less is = cc
pairs_none f (first ∷ rest) (suc index) less is = pairs_none f rest index (omega (arith, less)) is

pub got : {X : Type 0} (items : List X) (index : ℕ) (item : X) → item ≡ slice_index_or items index item → index < length items → Some item ≡ slice_get items index
got [] index item is less = absurd (omega (arith, less))
got (first ∷ rest) zero item is less = ap (λ x. Some x) is
got (first ∷ rest) (suc index) item is less = got rest index item is (omega (arith, less))

-- the numbers of such items, one after the other

numbers_same : {X : Type 0} (such : X → Bool) (one other number : ℕ) (items : List X) → one ≤ number → other ≤ number → numbers_from such one number items ≡ numbers_from such other number items
numbers_same such one other number [] a b = refl
numbers_same such one other number (first ∷ rest) a b =
    let e : nat_le one number ≡ nat_le other number = grind (arith, nat_tests, a, b) in
    ap (λ t. if t && such first then number ∷ numbers_from such one (suc number) rest else numbers_from such one (suc number) rest) e
    ∙ ap (λ l. if nat_le other number && such first then number ∷ l else l) (numbers_same such one other (suc number) rest (omega (arith, a)) (omega (arith, b)))

pub record Walks {X : Type 0} (such : X → Bool) (from number : ℕ) (items : List X) (found : ℕ) : Type 0 where
  pub after : from ≤ found
  pub behind : number ≤ found
  pub before : found < number + length items
  pub rest : numbers_from such from number items ≡ found ∷ numbers_from such (suc found) number items

pub walks : {X : Type 0} (such : X → Bool) (from number : ℕ) (items : List X) (found : ℕ) → Some found ≡ next_from such from number items → Walks such from number items found
walks such from number [] found is = absurd cc
walks such from number (first ∷ rest) found is = by (nat_le from number && such first) refl (walks such from (suc number) rest found)
  where
    by : (b : Bool) → (nat_le from number && such first) ≡ b → (Some found ≡ next_from such from (suc number) rest → Walks such from (suc number) rest found) → Walks such from number (first ∷ rest) found
    by true here inner =
        let chosen : Some found ≡ Some number = is ∙ ap (λ b. if b then Some number else next_from such from (suc number) rest) here in
        let same : found ≡ number = cc in
        let less : from ≤ number = grind (arith, nat_tests, here) in
        let past : nat_le (suc found) number ≡ false = grind (arith, nat_tests, same) in record {
          after = omega (arith, less, same);
          behind = omega (arith, same);
          before = omega (arith, same);
          rest = ap (λ b. if b then number ∷ numbers_from such from (suc number) rest else numbers_from such from (suc number) rest) here
              ∙ ap (λ n. n ∷ numbers_from such from (suc number) rest) (sym same)
              ∙ ap (λ l. found ∷ l) (numbers_same such from (suc found) (suc number) rest (omega (arith, less)) (omega (arith, same))
              ∙ sym (ap (λ b. if b && such first then number ∷ numbers_from such (suc found) (suc number) rest else numbers_from such (suc found) (suc number) rest) past));
        }
    by false here inner =
        let r = inner (is ∙ ap (λ b. if b then Some number else next_from such from (suc number) rest) here) in
        let low = r.behind in
        let high = r.before in
        let past : nat_le (suc found) number ≡ false = grind (arith, nat_tests, low) in record {
          after = r.after;
          behind = omega (arith, low);
          before = omega (arith, high);
          rest = ap (λ b. if b then number ∷ numbers_from such from (suc number) rest else numbers_from such from (suc number) rest) here ∙ r.rest
              ∙ ap (λ l. found ∷ l) (sym (ap (λ b. if b && such first then number ∷ numbers_from such (suc found) (suc number) rest else numbers_from such (suc found) (suc number) rest) past));
        }

pub walked : {X : Type 0} (such : X → Bool) (from number : ℕ) (items : List X) → None ≡ next_from such from number items → numbers_from such from number items ≡ []
walked such from number [] is = refl
walked such from number (first ∷ rest) is = by (nat_le from number && such first) refl (walked such from (suc number) rest)
  where
    by : (b : Bool) → (nat_le from number && such first) ≡ b → (None ≡ next_from such from (suc number) rest → numbers_from such from (suc number) rest ≡ [])
        → (if nat_le from number && such first then number ∷ numbers_from such from (suc number) rest else numbers_from such from (suc number) rest) ≡ []
    by true here inner = absurd (let e = is ∙ ap (λ b. if b then Some number else next_from such from (suc number) rest) here in cc)
    by false here inner = ap (λ b. if b then number ∷ numbers_from such from (suc number) rest else numbers_from such from (suc number) rest) here
        ∙ inner (is ∙ ap (λ b. if b then Some number else next_from such from (suc number) rest) here)

-- a loop goes on
pub walk_on : {X Y : Type 0} (f : ℕ → Y) (such : X → Bool) (from next found : ℕ) (items : List X) (old new whole : List Y) → Some found ≡ next_from such from 0 items → next ≡ found + 1 → new ≡ old ++ f found ∷ []
    → old ++ map f (numbers_from such from 0 items) ≡ whole → new ++ map f (numbers_from such next 0 items) ≡ whole
walk_on f such from next found items old new whole is n put same =
    let w = walks such from 0 items found is in
    let e : next ≡ suc found = omega (arith, n) in
    ap (λ l. l ++ map f (numbers_from such next 0 items)) put ∙ append_assoc old (f found ∷ []) (map f (numbers_from such next 0 items))
    ∙ ap (λ k. old ++ f found ∷ map f (numbers_from such k 0 items)) e ∙ ap (λ l. old ++ map f l) (sym w.rest) ∙ same

pub walk_over : {X Y : Type 0} (f : ℕ → Y) (such : X → Bool) (from : ℕ) (items : List X) (old whole : List Y) → None ≡ next_from such from 0 items
    → old ++ map f (numbers_from such from 0 items) ≡ whole → old ≡ whole
walk_over f such from items old whole is same = sym (append-nil old) ∙ ap (λ l. old ++ map f l) (sym (walked such from 0 items is)) ∙ same

-- which goals of a list bind a variable
pub next_mapped : (variable from number : ℕ) (goals : List Node) → next_from (λ list. among list variable) from number (map outputs_of goals) ≡ next_from (λ goal. among (outputs_of goal) variable) from number goals
next_mapped variable from number [] = refl
next_mapped variable from number (first ∷ rest) = ap (λ o. if nat_le from number && among (outputs_of first) variable then Some number else o) (next_mapped variable from (suc number) rest)

pub next_binder : (variable from : ℕ) (pairs : List (ℕ × ℕ)) (goals : List Node) (result : Option ℕ) → Tells pairs (map outputs_of goals) → result ≡ find (nat_le from) (row_of variable pairs)
    → result ≡ next_from (λ goal. among (outputs_of goal) variable) from 0 goals
next_binder variable from pairs goals result tells is = next_is variable from pairs (map outputs_of goals) result tells is ∙ next_mapped variable from 0 goals

-- fewer numbers are left behind one that is found

fewer_from : (one other : ℕ) (row : List ℕ) → one ≤ other → length (filter (nat_le other) row) ≤ length (filter (nat_le one) row)
fewer_from one other [] less = omega arith
fewer_from one other (first ∷ rest) less = by (nat_le other first) (nat_le one first) (λ h. grind (arith, nat_tests, less, h)) (fewer_from one other rest less)
  where
    by : (a b : Bool) → (a ≡ true → b ≡ true) → length (filter (nat_le other) rest) ≤ length (filter (nat_le one) rest)
        → length (if a then first ∷ filter (nat_le other) rest else filter (nat_le other) rest) ≤ length (if b then first ∷ filter (nat_le one) rest else filter (nat_le one) rest)
    by true true h is = omega (arith, is)
    by true false h is = absurd (let e = h refl in cc)
    by false true h is = omega (arith, is)
    by false false h is = is

pub record Falls (from found : ℕ) (row : List ℕ) : Type 0 where
  pub low : from ≤ found
  pub less : length (filter (nat_le (found + 1)) row) < length (filter (nat_le from) row)

pub falls : (from found : ℕ) (row : List ℕ) → Some found ≡ find (nat_le from) row → Falls from found row
falls from found [] is = absurd cc
falls from found (first ∷ rest) is = by (nat_le from first) refl (falls from found rest)
  where
    by : (b : Bool) → nat_le from first ≡ b → (Some found ≡ find (nat_le from) rest → Falls from found rest) → Falls from found (first ∷ rest)
    by true here inner =
        let chosen : Some found ≡ Some first = is ∙ ap (λ b. if b then Some first else find (nat_le from) rest) here in
        let same : found ≡ first = cc in
        let less : from ≤ first = grind (arith, nat_tests, here) in
        let past : nat_le (found + 1) first ≡ false = grind (arith, nat_tests, same) in
        let now : length (filter (nat_le from) (first ∷ rest)) ≡ suc (length (filter (nat_le from) rest)) = ap (λ b. length (if b then first ∷ filter (nat_le from) rest else filter (nat_le from) rest)) here in
        let next : length (filter (nat_le (found + 1)) (first ∷ rest)) ≡ length (filter (nat_le (found + 1)) rest) =
        ap (λ b. length (if b then first ∷ filter (nat_le (found + 1)) rest else filter (nat_le (found + 1)) rest)) past in
        record { low = omega (arith, less, same); less = omega (arith, now, next, fewer_from from (found + 1) rest (omega (arith, less, same))) }
    by false here inner =
        let r = inner (is ∙ ap (λ b. if b then Some first else find (nat_le from) rest) here) in
        let low = r.low in
        let less = r.less in
        let past : nat_le (found + 1) first ≡ false = grind (arith, nat_tests, here, low) in
        let now : length (filter (nat_le from) (first ∷ rest)) ≡ length (filter (nat_le from) rest) = ap (λ b. length (if b then first ∷ filter (nat_le from) rest else filter (nat_le from) rest)) here in
        let next : length (filter (nat_le (found + 1)) (first ∷ rest)) ≡ length (filter (nat_le (found + 1)) rest) =
        ap (λ b. length (if b then first ∷ filter (nat_le (found + 1)) rest else filter (nat_le (found + 1)) rest)) past in
        record { low = low; less = omega (arith, now, next, less) }

-- .. of items of numbers one by one
pub step_on : {X Y : Type 0} (f : ℕ → Y) (such : X → Bool) (number : ℕ) (items : List X) (item : X) (b : Bool) (old new whole : List Y) → item ≡ slice_index_or items number item → number < length items
    → b ≡ such item → new ≡ old ++ (if b then f number ∷ [] else []) → old ++ map f (numbers_from such number number (drop number items)) ≡ whole
    → new ++ map f (numbers_from such (number + 1) (number + 1) (drop (number + 1) items)) ≡ whole
step_on f such number items item b old new whole is less chosen put same =
    let rest = drop (number + 1) items in
    let dropped : drop number items ≡ item ∷ rest = drop_more items number item less ∙ ap (λ x. x ∷ rest) (sym is) in
    let at : nat_le number number ≡ true = grind (arith, nat_tests) in
    let e : number + 1 ≡ suc number = omega arith in
    ap (λ l. l ++ map f (numbers_from such (number + 1) (number + 1) rest)) (put ∙ ap (λ t. old ++ (if t then f number ∷ [] else [])) chosen)
    ∙ ap (λ n. (old ++ (if such item then f number ∷ [] else [])) ++ map f (numbers_from such n n rest)) e
    ∙ ap (λ l. (old ++ (if such item then f number ∷ [] else [])) ++ map f l) (numbers_same such (suc number) number (suc number) rest (omega arith) (omega arith))
    ∙ joined (such item) (numbers_from such number (suc number) rest)
    ∙ ap (λ t. old ++ map f (if t && such item then number ∷ numbers_from such number (suc number) rest else numbers_from such number (suc number) rest)) (sym at)
    ∙ ap (λ l. old ++ map f (numbers_from such number number l)) (sym dropped) ∙ same
  where
    joined : (t : Bool) (l : List ℕ) → (old ++ (if t then f number ∷ [] else [])) ++ map f l ≡ old ++ map f (if t then number ∷ l else l)
    joined true l = append_assoc old (f number ∷ []) (map f l)
    joined false l = ap (λ x. x ++ map f l) (append-nil old)

pub unless_is : {Y : Type 0} (b : Bool) (old one : List Y) → (old ++ (if b then [] else one)) ≡ (old ++ (if not b then one else []))
unless_is true old one = refl
unless_is false old one = refl

first_of : {X : Type 0} (items : List X) → 0 < length items → X
first_of [] some = absurd (omega (arith, some))
first_of (first ∷ rest) some = first

pub step_at : {X Y : Type 0} (f : ℕ → Y) (such : X → Bool) (number : ℕ) (items : List X) (b : Bool) (old new whole : List Y) → number < length items
    → ((d : X) → number < length items → b ≡ such (slice_index_or items number d)) → new ≡ old ++ (if b then f number ∷ [] else []) → old ++ map f (numbers_from such number number (drop number items)) ≡ whole
    → new ++ map f (numbers_from such (number + 1) (number + 1) (drop (number + 1) items)) ≡ whole
step_at f such number items b old new whole less chosen put same =
    let d = first_of items (omega (arith, less)) in
    let item = slice_index_or items number d in
    step_on f such number items item b old new whole (get_or_default items number d item less) less (chosen d less) put same
