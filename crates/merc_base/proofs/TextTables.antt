-- A list of texts, and the table of their numbers beside it.
use Rattle.std.proofs.Common.{◌≡◌, refl, ap, sym, ℕ, suc, ◌+◌, ◌<◌, Bool, true, false, true≢false, cond, not, ◌||◌, ◌∙◌, subst, get_or, slice_get, is_some, Option, Some, None, IfSome, List, [], ◌∷◌, ◌++◌, length, arith}
use Rattle.std.specs.List.{list_any, prefix_len, IsDistinct, AllByRecursion}
use Rattle.std.specs.Str.{bytes_eq}
use Rattle.std.proofs.lemmas.Slice.Eq.{bytes_eq-Decides}
use Rattle.std.proofs.lemmas.List.Folds.{list_any-append}
use Rattle.std.proofs.lemmas.Map.Keys.{apart_from_distinct}
use Rattle.std.proofs.lemmas.Option.{get_or_from_slice_get, slice_get_within}
use Rattle.std.proofs.lemmas.Cmp.{nat_list_eq_equiv}
use Rattle.std.specs.Map.{lookup, KeepsOthers}
use Rattle.merc_base.specs.Texts.{is_among, number_among, place_among, with_text}

-- a text that is there changes nothing
pub with_text-present : (texts : List (List ℕ)) (text : List ℕ) → true ≡ is_among text texts → texts ≡ with_text texts text
with_text-present texts text there = ap (λ b. cond b texts (texts ++ text ∷ [])) there

-- what ends the list does not come before the first that fails
prefix_len-pushed : {X : Type 0} (p : X → Bool) (xs : List X) (y : X) → p y ≡ false → prefix_len p (xs ++ y ∷ []) ≡ prefix_len p xs
prefix_len-pushed p [] y fails = ap (λ b. cond b 1 0) fails
prefix_len-pushed p (x ∷ xs) y fails = ap (λ n. cond (p x) (1 + n) 0) (prefix_len-pushed p xs y fails)

-- a text's place is the same once the text is there
place_among-with_text : (texts : List (List ℕ)) (text : List ℕ) → place_among (with_text texts text) text ≡ place_among texts text
place_among-with_text texts text = by (is_among text texts)
  where
    by : (b : Bool) → place_among (cond b texts (texts ++ text ∷ [])) text ≡ place_among texts text
    by true = refl
    by false = prefix_len-pushed (λ other. not (bytes_eq text other)) texts text (ap not ((bytes_eq-Decides text text).1 refl))

-- where nothing passes, the front that fails is the whole list
prefix_len-none : {X : Type 0} (test : X → Bool) (xs : List X) → list_any test xs ≡ false → prefix_len (λ x. not (test x)) xs ≡ length xs
prefix_len-none test [] none = refl
prefix_len-none test (x ∷ xs) none = by (test x) refl none (prefix_len-none test xs)
  where
    by : (b : Bool) → test x ≡ b → (b || list_any test xs) ≡ false → (list_any test xs ≡ false → prefix_len (λ y. not (test y)) xs ≡ length xs) → cond (not b) (1 + prefix_len (λ y. not (test y)) xs) 0 ≡ length (x ∷ xs)
    by true is none rest = cc
    by false is none rest = let e = rest none in omega arith

-- a text that is new has the place behind the others
pub new_place : (texts : List (List ℕ)) (text : List ℕ) → is_among text texts ≡ false → length texts ≡ place_among (with_text texts text) text
new_place texts text none = sym (place_among-with_text texts text ∙ prefix_len-none (bytes_eq text) texts none)

first_place : (texts : List (List ℕ)) (text : List ℕ) → is_among text texts ≡ true → slice_get texts (place_among texts text) ≡ Some text
first_place [] text there = absurd cc
first_place (other ∷ texts) text there = by (bytes_eq text other) refl there (first_place texts text)
  where
    by : (b : Bool) → bytes_eq text other ≡ b → (b || is_among text texts) ≡ true → (is_among text texts ≡ true → slice_get texts (place_among texts text) ≡ Some text)
        → slice_get (other ∷ texts) (cond (not b) (1 + place_among texts text) 0) ≡ Some text
    by true is there' later = ap Some (sym ((bytes_eq-Decides text other).0 is))
    by false is there' later =
        let next : 1 + place_among texts text ≡ suc (place_among texts text) = omega arith in
        ap (slice_get (other ∷ texts)) next ∙ later there'

last_place : (texts : List (List ℕ)) (text : List ℕ) → is_among text (texts ++ text ∷ []) ≡ true
last_place texts text = list_any-append (bytes_eq text) texts (text ∷ []) ∙ ap (λ b. is_among text texts || (b || false)) ((bytes_eq-Decides text text).1 refl) ∙ or-true (is_among text texts)
  where
    or-true : (b : Bool) → (b || (true || false)) ≡ true
    or-true true = refl
    or-true false = refl

-- a text stands at its place once it is there
pub place_has_text : (texts : List (List ℕ)) (text : List ℕ) → slice_get (with_text texts text) (place_among (with_text texts text) text) ≡ Some text
place_has_text texts text = first_place (with_text texts text) text (by (is_among text texts) refl)
  where
    by : (b : Bool) → is_among text texts ≡ b → is_among text (cond b texts (texts ++ text ∷ [])) ≡ true
    by true is = is
    by false is = last_place texts text

differ : (one other : List ℕ) → bytes_eq one other ≡ false → bytes_eq other one ≡ false
differ one other is = by (bytes_eq other one) refl
  where
    by : (b : Bool) → bytes_eq other one ≡ b → b ≡ false
    by true e = absurd (true≢false (sym ((bytes_eq-Decides one other).1 (sym ((bytes_eq-Decides other one).0 e))) ∙ is))
    by false e = refl

all_pushed : (P : List ℕ → Type 0) (texts : List (List ℕ)) (text : List ℕ) → AllByRecursion P texts → P text → AllByRecursion P (texts ++ text ∷ [])
all_pushed P [] text all last = (last, tt)
all_pushed P (other ∷ texts) text all last = (all.0, all_pushed P texts text all.1 last)

-- one text more, which is new, leaves texts distinct
pub pushed-distinct : (texts : List (List ℕ)) (text : List ℕ) → is_among text texts ≡ false → IsDistinct bytes_eq texts → IsDistinct bytes_eq (texts ++ text ∷ [])
unfolding IsDistinct
pushed-distinct [] text new distinct = (tt, tt)
pushed-distinct (other ∷ texts) text new distinct = by (bytes_eq text other) refl new (λ new'. pushed-distinct texts text new' distinct.1)
  where
    by : (b : Bool) → bytes_eq text other ≡ b → (b || is_among text texts) ≡ false → (is_among text texts ≡ false → IsDistinct bytes_eq (texts ++ text ∷ []))
        → AllByRecursion (λ later. bytes_eq other later ≡ false) (texts ++ text ∷ []) × IsDistinct bytes_eq (texts ++ text ∷ [])
    by true is new' later = absurd cc
    by false is new' later = (all_pushed _ texts text distinct.0 (differ text other is), later new')

-- wanting one text more leaves texts distinct
pub with_text-distinct : (texts : List (List ℕ)) (text : List ℕ) → IsDistinct bytes_eq texts → IsDistinct bytes_eq (with_text texts text)
with_text-distinct texts text distinct = by (is_among text texts) refl
  where
    by : (b : Bool) → is_among text texts ≡ b → IsDistinct bytes_eq (cond b texts (texts ++ text ∷ []))
    by true is = distinct
    by false is = pushed-distinct texts text is distinct

not_earlier : (texts : List (List ℕ)) (one other : ℕ) (text : List ℕ) → IsDistinct bytes_eq texts → slice_get texts one ≡ Some text → slice_get texts other ≡ Some text → one < other → ⊥
not_earlier texts one other text distinct h g earlier =
    let apart = apart_from_distinct bytes_eq texts one other [] distinct earlier (slice_get_within texts other text g) in
    let same : get_or texts one [] ≡ get_or texts other [] = get_or_from_slice_get texts one text [] h ∙ sym (get_or_from_slice_get texts other text [] g) in
    true≢false (sym ((bytes_eq-Decides _ _).1 same) ∙ apart)

-- no text of distinct ones has two places
pub distinct_places : (texts : List (List ℕ)) (one other : ℕ) (text : List ℕ) → IsDistinct bytes_eq texts → slice_get texts one ≡ Some text → slice_get texts other ≡ Some text → one ≡ other
distinct_places texts one other text distinct h g =
    let before = not_earlier texts one other text distinct h g in
    let after = not_earlier texts other one text distinct g h in
    omega arith

-- what is known of a number that is found
pub number_first : (texts : List (List ℕ)) (text : List ℕ) (found : Option ℕ) → found ≡ number_among texts text → IfSome found (λ k. k ≡ place_among texts text)
number_first texts text None is = tt
number_first texts text (Some k) is = by (is_among text texts) is
  where
    by : (b : Bool) → Some k ≡ cond b (Some (place_among texts text)) None → k ≡ place_among texts text
    by true same = cc
    by false same = absurd cc

pub number_known : (texts : List (List ℕ)) (text : List ℕ) (found : Option ℕ) → found ≡ number_among texts text → is_some found ≡ is_among text texts
number_known texts text found is = ap is_some is ∙ by (is_among text texts)
  where
    by : (b : Bool) → is_some (cond b (Some (place_among texts text)) None) ≡ b
    by true = refl
    by false = refl

-- where there is no text none is distinct from another
pub none-distinct : IsDistinct bytes_eq []
unfolding IsDistinct
none-distinct = tt

among-true : (texts : List (List ℕ)) (text : List ℕ) (k : ℕ) (b : Bool) → Some k ≡ cond b (Some (place_among texts text)) None → b ≡ true
among-true texts text k true same = refl
among-true texts text k false same = absurd cc

-- a number that is found is below the number of texts
pub number_within : (texts : List (List ℕ)) (text : List ℕ) (k : ℕ) → Some k ≡ number_among texts text → k < length texts
number_within texts text k is =
    let there = among-true texts text k (is_among text texts) is in
    subst (λ n. n < length texts) (sym (number_first texts text (Some k) is)) (slice_get_within texts (place_among texts text) text (first_place texts text there))

-- a text of the list stands where it stood once another is put behind
kept_place : (texts : List (List ℕ)) (new text : List ℕ) → is_among text texts ≡ true → place_among (texts ++ new ∷ []) text ≡ place_among texts text
kept_place [] new text there = absurd cc
kept_place (other ∷ texts) new text there = by (bytes_eq text other) there (kept_place texts new text)
  where
    by : (b : Bool) → (b || is_among text texts) ≡ true → (is_among text texts ≡ true → place_among (texts ++ new ∷ []) text ≡ place_among texts text)
        → cond (not b) (1 + place_among (texts ++ new ∷ []) text) 0 ≡ cond (not b) (1 + place_among texts text) 0
    by true is later = refl
    by false is later = ap (λ n. 1 + n) (later is)

module _ (texts : List (List ℕ)) (new : List ℕ) (fresh : is_among new texts ≡ false) where
  pushed-new : number_among (texts ++ new ∷ []) new ≡ Some (length texts)
  pushed-new = ap (λ b. cond b (Some (place_among (texts ++ new ∷ []) new)) None) (last_place texts new)
      ∙ ap Some (sym (new_place texts new fresh ∙ ap (λ now. place_among now new) (ap (λ b. cond b texts (texts ++ new ∷ [])) fresh)))

  among-other : (text : List ℕ) → bytes_eq text new ≡ false → is_among text (texts ++ new ∷ []) ≡ is_among text texts
  among-other text apart = list_any-append (bytes_eq text) texts (new ∷ []) ∙ ap (λ b. is_among text texts || (b || false)) apart ∙ or-false (is_among text texts)
    where
      or-false : (b : Bool) → (b || (false || false)) ≡ b
      or-false true = refl
      or-false false = refl

  pushed-other : (text : List ℕ) → bytes_eq text new ≡ false → number_among (texts ++ new ∷ []) text ≡ number_among texts text
  pushed-other text apart = ap (λ b. cond b (Some (place_among (texts ++ new ∷ []) text)) None) (among-other text apart) ∙ by (is_among text texts) refl
    where
      by : (b : Bool) → is_among text texts ≡ b → cond b (Some (place_among (texts ++ new ∷ []) text)) None ≡ cond b (Some (place_among texts text)) None
      by true is = ap Some (kept_place texts new text is)
      by false is = refl

  -- a new text's number, and those of the others, once it stands behind the others
  pub number-pushed : (text : List ℕ) (before : Option ℕ) → before ≡ number_among texts text → cond (bytes_eq new text) (Some (length texts)) before ≡ number_among (texts ++ new ∷ []) text
  number-pushed text before was = by (bytes_eq new text) refl
    where
      by : (b : Bool) → bytes_eq new text ≡ b → cond b (Some (length texts)) before ≡ number_among (texts ++ new ∷ []) text
      by true is = sym (ap (λ t. number_among (texts ++ new ∷ []) t) (sym ((bytes_eq-Decides new text).0 is)) ∙ pushed-new)
      by false is = was ∙ sym (pushed-other text (differ new text is))

-- what is looked up once a key has another value
pub lookup_after : {K X : Type 0} (bytes : K → List ℕ) (new text : List ℕ) (old later : List (K × X)) (value : Option X)
    → KeepsOthers (λ one other. bytes_eq (bytes one) (bytes other)) (λ key. bytes_eq new (bytes key)) old later
    → lookup (λ key. bytes_eq new (bytes key)) later ≡ value
    → lookup (λ key. bytes_eq text (bytes key)) later ≡ cond (bytes_eq new text) value (lookup (λ key. bytes_eq text (bytes key)) old)
unfolding KeepsOthers
lookup_after bytes new text old later value keeps here = by (bytes_eq new text) refl
  where
    by : (b : Bool) → bytes_eq new text ≡ b → lookup (λ key. bytes_eq text (bytes key)) later ≡ cond b value (lookup (λ key. bytes_eq text (bytes key)) old)
    by true is = subst (λ t. lookup (λ key. bytes_eq t (bytes key)) later ≡ value) ((bytes_eq-Decides new text).0 is) here
    by false is = keeps (λ key. bytes_eq text (bytes key)) (λ one other. nat_list_eq_equiv.congr text (bytes one) (bytes other))
        (λ key same. subst (λ t. bytes_eq text t ≡ false) ((bytes_eq-Decides new (bytes key)).0 same) (differ new text is))
