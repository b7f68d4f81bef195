-- The first places of variables, and what is found at them.
use Rattle.std.specs.Prelude.{◌≡◌, ◌≤◌, ◌<◌, ◌+◌, ◌-◌, ◌==◌, ◌&&◌, ◌||◌, not, nat_le, nat_lt, ℕ, zero, suc, Bool, true, false, List, [], ◌∷◌, ◌++◌, length, take, drop, slice_get, slice_index, slice_index_or, Option, Some, None, Result, Ok, Err, IfOk, refl, if◌then◌else◌}
use Rattle.std.specs.List.{filter, All, Contains, dedup}
use Rattle.std.specs.List.Sorted.{IsStrictlyIncreasing, IsPermutation, IsSorted}
use Rattle.std.specs.Ordering.{nat_cmp}
use Rattle.std.specs.Option.{option_to_list}
use Rattle.std.proofs.Common.{◌∙◌, ap, sym, subst, arith}
use Rattle.std.proofs.Math.Dec.{eqb}
use Rattle.std.proofs.lemmas.Bool.{ltb-true, ltb-false, leb-true, le-leb, lt-ltb, eqb-true, eq-eqb, ne_eqb}
use Rattle.std.proofs.lemmas.List.{append_assoc, append-nil, take_more}
use Rattle.std.proofs.lemmas.List.Elements.{All-push, All-nil, Contains-append_left, Contains-push}
use Rattle.std.proofs.lemmas.List.Filters.{All-dedup}
use Rattle.std.proofs.lemmas.List.Sorted.{All-permutation, Contains-permutation}
use Rattle.std.proofs.lemmas.Map.Keys.{IsStrictlyIncreasing-dedup}
use Rattle.std.proofs.lemmas.List.Kept.{Contains-dedup_nat}
use Rattle.merc_order.specs.Bound.{Bound, among, each_once}
use Rattle.merc_goal_facts.specs.Reaches.{first_since, new_among}
use Rattle.merc_goal_facts.proofs.Bounds.{among-append}
use Rattle.merc_goal_facts.proofs.Found.{among-filter}
use Rattle.merc_simple_goals.specs.Outputs.{kept, found_at}
use Rattle.merc_simple_goals.specs.Places.{places_from, places_within, AreFirstPlaces}
use Rattle.merc_simple_goals.proofs.Outputs.{found_step, drop_taken}
use Rattle.merc_simple_goals.proofs.Within.{AreFrom, from_less, places_are_from}

-- which places are within

abbrev stands : Option ℕ → ℕ → Bool
stands None variable = false
stands (Some other) variable = variable == other

below : (place number : ℕ) (places : List ℕ) → AreFrom place places → number < place → among places number ≡ false
below place number [] are less = refl
below place number (first ∷ rest) are less =
    let a = are.0 in
    ap (λ b. b || among rest number) (ne_eqb number first (λ (is : number ≡ first). omega (arith, is, a, less))) ∙ below (suc first) number rest are.1 (omega (arith, a, less))

among-from : (offset k variable : ℕ) (all : List ℕ) → among (places_from offset variable all) (offset + k) ≡ stands (slice_get all k) variable
among-from offset zero variable [] = refl
among-from offset (suc k) variable [] = refl
among-from offset zero variable (first ∷ rest) = by (variable == first)
  where
    by : (same : Bool) → among (if same then offset ∷ places_from (suc offset) variable rest else places_from (suc offset) variable rest) (offset + 0) ≡ same
    by true = ap (λ b. b || among (places_from (suc offset) variable rest) (offset + 0)) (eq-eqb (offset + 0) offset (omega arith))
    by false = below (suc offset) (offset + 0) (places_from (suc offset) variable rest) (places_are_from (suc offset) variable rest) (omega arith)
among-from offset (suc k) variable (first ∷ rest) =
    by (variable == first) (ap (among (places_from (suc offset) variable rest)) (let e : offset + suc k ≡ suc offset + k = omega arith in e) ∙ among-from (suc offset) k variable rest)
  where
    by : (same : Bool) → among (places_from (suc offset) variable rest) (offset + suc k) ≡ stands (slice_get rest k) variable
        → among (if same then offset ∷ places_from (suc offset) variable rest else places_from (suc offset) variable rest) (offset + suc k) ≡ stands (slice_get rest k) variable
    by true later = ap (λ b. b || among (places_from (suc offset) variable rest) (offset + suc k)) (ne_eqb (offset + suc k) offset (λ (is : offset + suc k ≡ offset). omega (arith, is))) ∙ later
    by false later = later

among-within : (start end variable place : ℕ) (all : List ℕ) → among (places_within start end variable all) place ≡ (stands (slice_get all place) variable && (nat_le start place && nat_lt place end))
among-within start end variable place all =
    among-filter (λ other. nat_le start other && nat_lt other end) (places_from 0 variable all) place
    ∙ ap (λ b. b && (nat_le start place && nat_lt place end)) (ap (among (places_from 0 variable all)) (let e : place ≡ 0 + place = omega arith in e) ∙ among-from 0 place variable all)

-- A place is within exactly if it lies so, and the occurrence there is the variable.
pub record IsWithin (start end variable place : ℕ) (all : List ℕ) : Type 0 where
  pub from : start ≤ place
  pub before : place < end
  pub there : slice_get all place ≡ Some variable

stands_there : (there : Option ℕ) (variable : ℕ) → stands there variable ≡ true → there ≡ Some variable
stands_there None variable is = cc
stands_there (Some other) variable is = ap Some (sym (eqb-true variable other is))

pub within_means : (start end variable place : ℕ) (all : List ℕ) → among (places_within start end variable all) place ≡ true → IsWithin start end variable place all
within_means start end variable place all is =
    by (stands (slice_get all place) variable) (nat_le start place) (nat_lt place end) refl refl refl (sym (among-within start end variable place all) ∙ is)
  where
    by : (b c d : Bool) → stands (slice_get all place) variable ≡ b → nat_le start place ≡ c → nat_lt place end ≡ d → (b && (c && d)) ≡ true → IsWithin start end variable place all
    by true true true e f g is = record { from = leb-true start place f; before = ltb-true place end g; there = stands_there (slice_get all place) variable e }
    by true true false e f g is = cc
    by true false d e f g is = cc
    by false c d e f g is = cc

pub means_within : (start end variable place : ℕ) (all : List ℕ) → IsWithin start end variable place all → among (places_within start end variable all) place ≡ true
means_within start end variable place all w =
    among-within start end variable place all
    ∙ ap (λ o. stands o variable && (nat_le start place && nat_lt place end)) w.there
    ∙ ap (λ b. b && (nat_le start place && nat_lt place end)) (eq-eqb variable variable refl)
    ∙ ap (λ b. b && nat_lt place end) (le-leb start place w.from) ∙ lt-ltb place end w.before

-- the first of them

filtered_from : (test : ℕ → Bool) (place : ℕ) (places : List ℕ) → AreFrom place places → AreFrom place (filter test places)
filtered_from test place [] are = tt
filtered_from test place (first ∷ rest) are = by (test first) (filtered_from test (suc first) rest are.1)
  where
    by : (b : Bool) → AreFrom (suc first) (filter test rest) → AreFrom place (if b then first ∷ filter test rest else filter test rest)
    by true later = (are.0, later)
    by false later = let a = are.0 in from_less place (suc first) (filter test rest) (omega (arith, a)) later

or_right : (one other : Bool) → other ≡ true → (one || other) ≡ true
or_right true other is = refl
or_right false other is = is

among_between : (all : List ℕ) (start here place variable : ℕ) → start ≤ here → here < place → slice_get all here ≡ Some variable → among (drop start (take place all)) variable ≡ true
among_between [] start zero place variable from less there = cc
among_between [] start (suc here) place variable from less there = cc
among_between (first ∷ rest) start here zero variable from less there = absurd (omega (arith, less))
among_between (first ∷ rest) zero zero (suc place) variable from less there =
    let same : variable ≡ first = cc in ap (λ b. b || among (take place rest) variable) (eq-eqb variable first same)
among_between (first ∷ rest) zero (suc here) (suc place) variable from less there =
    or_right (variable == first) (among (take place rest) variable) (among_between rest zero here place variable (omega arith) (omega (arith, less)) there)
among_between (first ∷ rest) (suc start) zero (suc place) variable from less there = absurd (omega (arith, from))
among_between (first ∷ rest) (suc start) (suc here) (suc place) variable from less there = among_between rest start here place variable (omega (arith, from)) (omega (arith, less)) there

fresh : (before : List ℕ) (there : Option ℕ) (variable : ℕ) → new_among before there ≡ Some variable → (there ≡ Some variable) × (among before variable ≡ false)
fresh before None variable is = cc
fresh before (Some other) variable is = by (among before other) refl is
  where
    by : (known : Bool) → among before other ≡ known → (if known then None else Some other) ≡ Some variable → (Some other ≡ Some variable) × (among before variable ≡ false)
    by true k e = cc
    by false k e = let same : other ≡ variable = cc in (e, ap (among before) (sym same) ∙ k)

first_by : (start end place variable : ℕ) (all places : List ℕ) → places ≡ places_within start end variable all → AreFrom 0 places → IsWithin start end variable place all
    → among (drop start (take place all)) variable ≡ false → slice_get places 0 ≡ Some place
first_by start end place variable all [] is are w new = let no : false ≡ true = ap (λ l. among l place) is ∙ means_within start end variable place all w in cc
first_by start end place variable all (first ∷ rest) is are w new =
    by (place == first) refl (ap (λ l. among l place) is ∙ means_within start end variable place all w)
  where
    earlier : first < place → Some first ≡ Some place
    earlier less =
        let v = within_means start end variable first all (ap (λ l. among l first) (sym is) ∙ ap (λ b. b || among rest first) (eq-eqb first first refl)) in
        let no : true ≡ false = sym (among_between all start first place variable v.from less v.there) ∙ new in cc

    after : (less : Bool) → nat_lt first place ≡ less → among rest place ≡ true → Some first ≡ Some place
    after true l i = earlier (ltb-true first place l)
    after false l i =
        let behind = ltb-false first place l in
        let no : false ≡ true = sym (below (suc first) place rest are.1 (omega (arith, behind))) ∙ i in cc

    by : (same : Bool) → (place == first) ≡ same → (same || among rest place) ≡ true → Some first ≡ Some place
    by true s i = ap Some (sym (eqb-true place first s))
    by false s i = after (nat_lt first place) refl i

pub first_within : (start end place variable : ℕ) (all : List ℕ) → start ≤ place → place < end → first_since start all place ≡ Some variable → slice_get (places_within start end variable all) 0 ≡ Some place
first_within start end place variable all from less is =
    let f = fresh (drop start (take place all)) (slice_get all place) variable is in
    first_by start end place variable all (places_within start end variable all) refl
    (filtered_from (λ other. nat_le start other && nat_lt other end) 0 (places_from 0 variable all) (places_are_from 0 variable all))
    (record { from = from; before = less; there = f.0 }) f.1

pub first_lies : (start end place variable : ℕ) (all : List ℕ) → Some place ≡ slice_get (places_within start end variable all) 0 → (start ≤ place) × (place < end)
first_lies start end place variable all is =
    let w = within_means start end variable place all (head_among (places_within start end variable all) is) in (w.from, w.before)
  where
    head_among : (places : List ℕ) → Some place ≡ slice_get places 0 → among places place ≡ true
    head_among [] h = cc
    head_among (first ∷ rest) h = let same : place ≡ first = cc in ap (λ b. b || among rest place) (eq-eqb place first same)

-- Each first place of these variables is among the places, which lie from the one place to the other.
pub record AreFirsts (start end : ℕ) (variables all places : List ℕ) : Type 0 where
  pub between : All (λ place. (start ≤ place) × (place < end)) places
  pub complete : (place variable : ℕ) → start ≤ place → place < end → first_since start all place ≡ Some variable → among variables variable ≡ true → Contains places place

pub no_firsts : (start end : ℕ) (all places : List ℕ) → places ≡ [] → AreFirsts start end [] all places
no_firsts start end all places none = subst (AreFirsts start end [] all) (sym none) (record {
  between = All-nil (λ place. (start ≤ place) × (place < end));
  complete = λ place variable from less is i. cc;
})

last_or : (known same : Bool) → (known || (same || false)) ≡ true → known ≡ false → same ≡ true
last_or true same is not = cc
last_or false true is not = refl
last_or false false is not = cc

module _ (start end : ℕ) (variables : List ℕ) (variable : ℕ) (all places : List ℕ) (are : AreFirsts start end variables all places) where
  pub firsts_more : (place : ℕ) → Some place ≡ slice_get (places_within start end variable all) 0 → AreFirsts start end (variables ++ variable ∷ []) all (places ++ place ∷ [])
  firsts_more place is = record {
    between = All-push (λ other. (start ≤ other) × (other < end)) places place are.between (first_lies start end place variable all is);
    complete = λ other one from less first i. by other one from less first (among variables one) refl (sym (among-append variables (variable ∷ []) one) ∙ i);
  }
    where
      by : (other one : ℕ) → start ≤ other → other < end → first_since start all other ≡ Some one → (known : Bool) → among variables one ≡ known → (known || ((one == variable) || false)) ≡ true → Contains (places ++ place ∷ []) other
      by other one from less first true k i = Contains-append_left places (place ∷ []) other (are.complete other one from less first k)
      by other one from less first false k i =
          let same = eqb-true one variable (last_or false (one == variable) i refl) in
          let here : Some place ≡ Some other = is ∙ first_within start end other variable all from less (first ∙ ap Some same) in
          let at : place ≡ other = cc in
          subst (Contains (places ++ place ∷ [])) at (Contains-push places place)

  pub firsts_same : None ≡ slice_get (places_within start end variable all) 0 → AreFirsts start end (variables ++ variable ∷ []) all places
  firsts_same is = record {
    between = are.between;
    complete = λ other one from less first i. by other one from less first (among variables one) refl (sym (among-append variables (variable ∷ []) one) ∙ i);
  }
    where
      by : (other one : ℕ) → start ≤ other → other < end → first_since start all other ≡ Some one → (known : Bool) → among variables one ≡ known → (known || ((one == variable) || false)) ≡ true → Contains places other
      by other one from less first true k i = are.complete other one from less first k
      by other one from less first false k i =
          let same = eqb-true one variable (last_or false (one == variable) i refl) in
          let no : None ≡ Some other = is ∙ first_within start end other variable all from less (first ∙ ap Some same) in cc

pub next_firsts : (start end : ℕ) (variables : List ℕ) (index variable : ℕ) (all places inside : List ℕ) (place : ℕ) → AreFirsts start end (take index variables) all places → index < length variables
    → variable ≡ slice_index_or variables index variable → inside ≡ places_within start end variable all → Some place ≡ slice_get inside 0 → AreFirsts start end (take (index + 1) variables) all (places ++ place ∷ [])
next_firsts start end variables index variable all places inside place are less item within is =
    subst (λ l. AreFirsts start end l all (places ++ place ∷ [])) (sym (take_more variables index variable less ∙ ap (λ v. take index variables ++ v ∷ []) (sym item)))
    (firsts_more start end (take index variables) variable all places are place (is ∙ ap (λ l. slice_get l 0) within))

pub next_same : (start end : ℕ) (variables : List ℕ) (index variable : ℕ) (all places inside : List ℕ) → AreFirsts start end (take index variables) all places → index < length variables
    → variable ≡ slice_index_or variables index variable → inside ≡ places_within start end variable all → None ≡ slice_get inside 0 → AreFirsts start end (take (index + 1) variables) all places
next_same start end variables index variable all places inside are less item within is =
    subst (λ l. AreFirsts start end l all places) (sym (take_more variables index variable less ∙ ap (λ v. take index variables ++ v ∷ []) (sym item)))
    (firsts_same start end (take index variables) variable all places are (is ∙ ap (λ l. slice_get l 0) within))

-- sorted, and each once
pub firsts_sorted : (start end : ℕ) (variables all places sorted : List ℕ) → AreFirsts start end variables all places → IsPermutation places sorted → IsSorted nat_cmp sorted
    → AreFirstPlaces start end variables all (dedup eqb sorted)
firsts_sorted start end variables all places sorted are moved rising = record {
  rise = IsStrictlyIncreasing-dedup sorted rising;
  between = All-dedup eqb (λ place. (start ≤ place) × (place < end)) sorted (All-permutation (λ place. (start ≤ place) × (place < end)) places sorted moved are.between);
  complete = λ place variable from less is i. Contains-dedup_nat sorted place (Contains-permutation places sorted place moved (are.complete place variable from less is i));
}

one_rises : (place : ℕ) → IsStrictlyIncreasing (place ∷ [])
one_rises place = λ k less. absurd (omega (arith, less))

none_rise : IsStrictlyIncreasing []
none_rise = λ k less. absurd (omega (arith, less))

pub alone : (start end variable : ℕ) (all places : List ℕ) → places ≡ places_within start end variable all → AreFirstPlaces start end (variable ∷ []) all (take 1 places)
alone start end variable all [] is =
    let none = no_firsts start end all [] refl in
    let f = firsts_same start end [] variable all [] none (ap (λ l. slice_get l 0) is) in
    record { rise = none_rise; between = f.between; complete = f.complete }
alone start end variable all (first ∷ rest) is =
    let none = no_firsts start end all [] refl in
    let f = firsts_more start end [] variable all [] none first (ap (λ l. slice_get l 0) is) in
    record { rise = one_rises first; between = f.between; complete = f.complete }

-- what is found at them

test_none : (test : Bound) (start : ℕ) (all : List ℕ) (place : ℕ) (kept_there : Option ℕ) → kept test (first_since start all place) ≡ kept_there → ((variable : ℕ) → kept test (first_since start all place) ≡ Some variable → ⊥)
    → None ≡ kept test (first_since start all place)
test_none test start all place None is never = sym is
test_none test start all place (Some variable) is never = absurd (never variable is)

-- nothing is found between two places
skipped : (test : Bound) (start : ℕ) (all : List ℕ) (count from : ℕ) → start ≤ from → ((place variable : ℕ) → from ≤ place → place < from + count → kept test (first_since start all place) ≡ Some variable → ⊥)
    → each_once (filter test (drop start (take from all))) ≡ each_once (filter test (drop start (take (from + count) all)))
skipped test start all zero from behind never = ap (λ n. each_once (filter test (drop start (take n all)))) (let e : from ≡ from + 0 = omega arith in e)
skipped test start all (suc count) from behind never =
    let none = test_none test start all from (kept test (first_since start all from)) refl (λ variable is. never from variable (omega arith) (omega arith) is) in
    sym (append-nil (each_once (filter test (drop start (take from all)))))
    ∙ found_step test all start from (each_once (filter test (drop start (take from all)))) None behind refl none
    ∙ skipped test start all count (from + 1) (omega (arith, behind)) (λ place variable ahead less is. never place variable (omega (arith, ahead)) (omega (arith, less)) is)
    ∙ ap (λ n. each_once (filter test (drop start (take n all)))) (let e : from + 1 + count ≡ from + suc count = omega arith in e)

skip_to : (test : Bound) (start : ℕ) (all : List ℕ) (from to : ℕ) → start ≤ from → from ≤ to → ((place variable : ℕ) → from ≤ place → place < to → kept test (first_since start all place) ≡ Some variable → ⊥)
    → each_once (filter test (drop start (take from all))) ≡ each_once (filter test (drop start (take to all)))
skip_to test start all from to behind ordered never =
    let e : from + (to - from) ≡ to = omega (arith, ordered) in
    skipped test start all (to - from) from behind (λ place variable ahead less is. never place variable ahead (omega (arith, less, e)) is) ∙ ap (λ n. each_once (filter test (drop start (take n all)))) e

gathered : (test : Bound) (start end : ℕ) (all places : List ℕ) (from : ℕ) → start ≤ from → from ≤ end → AreFrom from places → ((k d : ℕ) → k < length places → slice_index_or places k d < end)
    → ((place variable : ℕ) → from ≤ place → place < end → kept test (first_since start all place) ≡ Some variable → among places place ≡ true)
    → each_once (filter test (drop start (take from all))) ++ found_at start test all places ≡ each_once (filter test (drop start (take end all)))
gathered test start end all [] from behind within are less complete =
    append-nil (each_once (filter test (drop start (take from all))))
    ∙ skip_to test start all from end behind within (λ place variable ahead before is. let no = complete place variable ahead before is in cc)
gathered test start end all (first ∷ rest) from behind within are less complete =
    let here = are.0 in
    let last = less 0 first (omega arith) in
    let found = each_once (filter test (drop start (take from all))) in
    let next = kept test (first_since start all first) in
    sym (append_assoc found (option_to_list next) (found_at start test all rest))
    ∙ ap (λ l. (l ++ option_to_list next) ++ found_at start test all rest)
    (skip_to test start all from first behind here (λ place variable ahead before is.
    let no : true ≡ false = sym (complete place variable ahead (omega (arith, before, last)) is) ∙ below first place (first ∷ rest) (omega arith, are.1) before in cc))
    ∙ ap (λ l. l ++ found_at start test all rest)
    (found_step test all start first (each_once (filter test (drop start (take first all)))) next (omega (arith, behind, here)) refl refl
    ∙ ap (λ n. each_once (filter test (drop start (take n all)))) (let e : first + 1 ≡ suc first = omega arith in e))
    ∙ gathered test start end all rest (suc first) (omega (arith, behind, here)) (omega (arith, last)) are.1 (λ k d l. less (suc k) d (omega (arith, l)))
    (λ place variable ahead before is.
    rest_has place (place == first) refl (λ (same : place ≡ first). omega (arith, same, ahead)) (complete place variable (omega (arith, here, ahead)) before is))
  where
    rest_has : (place : ℕ) (same : Bool) → (place == first) ≡ same → (place ≡ first → ⊥) → ((place == first) || among rest place) ≡ true → among rest place ≡ true
    rest_has place true s never is = absurd (never (eqb-true place first s))
    rest_has place false s never is = ap (λ b. b || among rest place) (sym s) ∙ is

are_from : (place first : ℕ) (rest : List ℕ) → place ≤ first → IsStrictlyIncreasing (first ∷ rest) → AreFrom place (first ∷ rest)
are_from place first [] h s = (h, tt)
are_from place first (next ∷ rest) h s =
    let less = s 0 (omega arith) in (
      h,
      are_from (suc first) next rest (omega (arith, less)) (λ k l.
          subst (λ n. slice_index (next ∷ rest) k < slice_index (first ∷ next ∷ rest) n) (let e : suc k + 1 ≡ suc (k + 1) = omega arith in e) (s (suc k) (omega (arith, l)))),
    )

all_from : (start end : ℕ) (places : List ℕ) → IsStrictlyIncreasing places → All (λ place. (start ≤ place) × (place < end)) places → AreFrom start places
all_from start end [] rise between = tt
all_from start end (first ∷ rest) rise between = let b = between 0 first (omega arith) in are_from start first rest b.0 rise

contains_among : (places : List ℕ) (place : ℕ) → Contains places place → among places place ≡ true
contains_among places place (k, less, is) = by places k less is
  where
    by : (places : List ℕ) (k : ℕ) → k < length places → slice_index_or places k place ≡ place → among places place ≡ true
    by [] k less is = absurd (omega (arith, less))
    by (first ∷ rest) zero less is = ap (λ b. b || among rest place) (eq-eqb place first (sym is))
    by (first ∷ rest) (suc k) less is = or_right (place == first) (among rest place) (by rest k (omega (arith, less)) is)

kept_is : (test : Bound) (there : Option ℕ) (variable : ℕ) → kept test there ≡ Some variable → (there ≡ Some variable) × (test variable ≡ true)
kept_is test None variable is = cc
kept_is test (Some other) variable is = by (test other) refl is
  where
    by : (passes : Bool) → test other ≡ passes → (if passes then Some other else None) ≡ Some variable → (Some other ≡ Some variable) × (test variable ≡ true)
    by true p e = let same : other ≡ variable = cc in (e, ap test (sym same) ∙ p)
    by false p e = cc

pub all_gathered : (start end : ℕ) (seen all places found : List ℕ) → start ≤ end → AreFirstPlaces start end seen all places → found ≡ found_at start (among seen) all places
    → found ≡ each_once (filter (among seen) (drop start (take end all)))
all_gathered start end seen all places found ordered are is =
    is
    ∙ ap (λ l. each_once (filter (among seen) l) ++ found_at start (among seen) all places) (sym (drop_taken all start))
    ∙ gathered (among seen) start end all places start (omega arith) ordered (all_from start end places are.rise are.between)
    (λ k d less. (are.between k d less).1)
    (λ place variable ahead before k.
    let f = kept_is (among seen) (first_since start all place) variable k in
    contains_among places place (are.complete place variable ahead before f.0 f.1))

pub gathered_all : {E : Type 0} (start end : ℕ) (seen all there variables places : List ℕ) (result : Result (List ℕ) E) → start ≤ end → variables ≡ seen → AreFirstPlaces start end variables all places → there ≡ all
    → IfOk result (λ found. found ≡ found_at start (among seen) there places) → IfOk result (λ found. found ≡ each_once (filter (among seen) (drop start (take end all))))
gathered_all start end seen all there variables places (Ok found) ordered these are same is =
    all_gathered start end seen all places found ordered (subst (λ l. AreFirstPlaces start end l all places) these are) (is ∙ ap (λ l. found_at start (among seen) l places) same)
gathered_all start end seen all there variables places (Err none) ordered these are same is = tt

pub one_is : (list : List ℕ) (only : ℕ) → 1 ≤ length list → length list < 2 → only ≡ slice_index_or list 0 only → only ∷ [] ≡ list
one_is [] only more less is = absurd (omega (arith, more))
one_is (first ∷ []) only more less is = ap (λ v. v ∷ []) is
one_is (first ∷ second ∷ rest) only more less is = absurd (omega (arith, less))

pub none_alone : (start end variable : ℕ) (all places : List ℕ) → places ≡ places_within start end variable all → length places ≡ 0 → AreFirstPlaces start end (variable ∷ []) all places
none_alone start end variable all [] is none = alone start end variable all [] is
none_alone start end variable all (first ∷ rest) is none = absurd (omega (arith, none))
