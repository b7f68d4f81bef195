-- The places of variables, and what lies among them between two places.
use Rattle.std.specs.Prelude.{◌≡◌, ◌≤◌, ◌<◌, ◌+◌, ◌==◌, ◌&&◌, not, nat_le, nat_lt, ℕ, zero, suc, Bool, true, false, List, [], ◌∷◌, ◌++◌, length, take, drop, slice_get, slice_index_or, Option, Some, None, refl, if◌then◌else◌}
use Rattle.std.specs.List.{filter}
use Rattle.std.specs.List.Sorted.{IsNonDecreasing}
use Rattle.std.specs.Option.{option_to_list}
use Rattle.std.proofs.Common.{◌∙◌, ap, sym, subst, arith}
use Rattle.std.proofs.lemmas.Bool.{ltb-true, ltb-false, le-leb, lt-leb}
use Rattle.std.proofs.lemmas.List.{append-nil}
use Rattle.std.specs.declared.alloc.Global.{Global}
use Rattle.std.specs.declared.vec.Vec.{Vec}
use Rattle.merc_goal_facts.specs.Reaches.{first_since, new_among}
use Rattle.merc_simple_goals.specs.Places.{places_from, places_within, table_at, TellsPlaces}
use Rattle.merc_simple_goals.proofs.Outputs.{take_step, drop_taken}

-- one occurrence more

more : (same : Bool) (place : ℕ) (one other : List ℕ) → one ≡ other → (if same then place ∷ one else one) ≡ (if same then place ∷ other else other)
more same place one other is = ap (λ l. if same then place ∷ l else l) is

joined : (same : Bool) (place : ℕ) (front back : List ℕ) → (if same then place ∷ (front ++ back) else (front ++ back)) ≡ (if same then place ∷ front else front) ++ back
joined true place front back = refl
joined false place front back = refl

places_pushed : (place variable one : ℕ) (all : List ℕ) → places_from place variable (all ++ one ∷ []) ≡ places_from place variable all ++ (if variable == one then (place + length all) ∷ [] else [])
places_pushed place variable one [] = ap (λ n. if variable == one then n ∷ [] else []) (let e : place ≡ place + 0 = omega arith in e)
places_pushed place variable one (first ∷ rest) =
    more (variable == first) place (places_from (suc place) variable (rest ++ one ∷ [])) (places_from (suc place) variable rest ++ (if variable == one then (suc place + length rest) ∷ [] else [])) (places_pushed (suc place) variable one rest)
    ∙ joined (variable == first) place (places_from (suc place) variable rest) (if variable == one then (suc place + length rest) ∷ [] else [])
    ∙ ap (λ n. (if variable == first then place ∷ places_from (suc place) variable rest else places_from (suc place) variable rest) ++ (if variable == one then n ∷ [] else []))
    (let e : suc place + length rest ≡ place + suc (length rest) = omega arith in e)

-- what stands at a place is new there
pub here : (all : List ℕ) (place : ℕ) → first_since place all place ≡ slice_get all place
here all place = ap (λ l. new_among l (slice_get all place)) (drop_taken all place) ∙ by (slice_get all place)
  where
    by : (there : Option ℕ) → new_among [] there ≡ there
    by None = refl
    by (Some variable) = refl

taken_length : (all : List ℕ) (place variable : ℕ) → slice_get all place ≡ Some variable → length (take place all) ≡ place
taken_length [] place variable there = cc
taken_length (first ∷ rest) zero variable there = refl
taken_length (first ∷ rest) (suc place) variable there = ap suc (taken_length rest place variable there)

pub tells_next : (all : List ℕ) (place one number : ℕ) (old new : List (Vec ℕ Global)) → TellsPlaces old (take place all) → Some one ≡ first_since place all place → number ≡ one
    → ((variable : ℕ) → table_at new variable ≡ table_at old variable ++ (if variable == number then place ∷ [] else [])) → TellsPlaces new (take (place + 1) all)
tells_next all place one number old new tells is same put = λ variable.
    let at : slice_get all place ≡ Some one = sym (is ∙ here all place) in
    put variable ∙ ap (λ l. l ++ (if variable == number then place ∷ [] else [])) (tells variable)
    ∙ ap (λ n. places_from 0 variable (take place all) ++ (if variable == n then place ∷ [] else [])) same
    ∙ ap (λ n. places_from 0 variable (take place all) ++ (if variable == one then n ∷ [] else [])) (sym (taken_length all place one at) ∙ (let e : length (take place all) ≡ 0 + length (take place all) = omega arith in e))
    ∙ sym (places_pushed 0 variable one (take place all))
    ∙ ap (λ l. places_from 0 variable (take place all ++ option_to_list l)) (sym at)
    ∙ ap (λ l. places_from 0 variable l) (sym (take_step all place))
    ∙ ap (λ n. places_from 0 variable (take n all)) (let e : suc place ≡ place + 1 = omega arith in e)

pub tells_same : (all : List ℕ) (place : ℕ) (old : List (Vec ℕ Global)) → TellsPlaces old (take place all) → None ≡ first_since place all place → TellsPlaces old (take (place + 1) all)
tells_same all place old tells is = λ variable.
    let at : slice_get all place ≡ None = sym (is ∙ here all place) in
    tells variable
    ∙ ap (λ l. places_from 0 variable l) (sym (append-nil (take place all)) ∙ ap (λ o. take place all ++ option_to_list o) (sym at) ∙ sym (take_step all place))
    ∙ ap (λ n. places_from 0 variable (take n all)) (let e : suc place ≡ place + 1 = omega arith in e)

-- the places rise

abbrev pub AreFrom : ℕ → List ℕ → Type 0
AreFrom place [] = Unit {0}
AreFrom place (first ∷ rest) = (place ≤ first) × AreFrom (suc first) rest

pub from_less : (one other : ℕ) (places : List ℕ) → one ≤ other → AreFrom other places → AreFrom one places
from_less one other [] less are = tt
from_less one other (first ∷ rest) less are = let a = are.0 in (omega (arith, less, a), are.1)

pub places_are_from : (place variable : ℕ) (all : List ℕ) → AreFrom place (places_from place variable all)
places_are_from place variable [] = tt
places_are_from place variable (first ∷ rest) = by (variable == first) (places_are_from (suc place) variable rest)
  where
    by : (same : Bool) → AreFrom (suc place) (places_from (suc place) variable rest) → AreFrom place (if same then place ∷ places_from (suc place) variable rest else places_from (suc place) variable rest)
    by true are = (omega arith, are)
    by false are = from_less place (suc place) (places_from (suc place) variable rest) (omega arith) are

least : (place : ℕ) (places : List ℕ) (j d : ℕ) → AreFrom place places → j < length places → place ≤ slice_index_or places j d
least place [] j d are less = absurd (omega (arith, less))
least place (first ∷ rest) zero d are less = are.0
least place (first ∷ rest) (suc j) d are less = let a = are.0 in let b = least (suc first) rest j d are.1 (omega (arith, less)) in omega (arith, a, b)

rise : (place : ℕ) (places : List ℕ) → AreFrom place places → (i j d : ℕ) → i ≤ j → j < length places → slice_index_or places i d ≤ slice_index_or places j d
rise place [] are i j d ordered less = absurd (omega (arith, less))
rise place (first ∷ rest) are zero zero d ordered less = omega arith
rise place (first ∷ rest) are zero (suc j) d ordered less = let b = least (suc first) rest j d are.1 (omega (arith, less)) in omega (arith, b)
rise place (first ∷ rest) are (suc i) zero d ordered less = absurd (omega (arith, ordered))
rise place (first ∷ rest) are (suc i) (suc j) d ordered less = rise (suc first) rest are.1 i j d (omega (arith, ordered)) (omega (arith, less))

pub places_rise : (variable : ℕ) (all : List ℕ) → IsNonDecreasing (places_from 0 variable all)
places_rise variable all = λ i j d ordered less. rise 0 (places_from 0 variable all) (places_are_from 0 variable all) i j d ordered less

-- what lies before a place, and behind it

module _ (p q : ℕ → Bool) (other : (x : ℕ) → q x ≡ not (p x)) where
  none : (places : List ℕ) → ((k d : ℕ) → k < length places → p (slice_index_or places k d) ≡ false) → (filter p places ≡ []) × (filter q places ≡ places)
  none [] fails = (refl, refl)
  none (first ∷ rest) fails =
      let f : p first ≡ false = fails 0 first (omega arith) in
      let r = none rest (λ k d less. fails (suc k) d (omega (arith, less))) in (
        ap (λ b. if b then first ∷ filter p rest else filter p rest) f ∙ r.0,
        ap (λ b. if b then first ∷ filter q rest else filter q rest) (other first ∙ ap not f) ∙ ap (λ l. first ∷ l) r.1,
      )

  pub parted : (places : List ℕ) (i : ℕ) → i ≤ length places → ((k d : ℕ) → k < i → p (slice_index_or places k d) ≡ true) → ((k d : ℕ) → i ≤ k → k < length places → p (slice_index_or places k d) ≡ false)
      → (take i places ≡ filter p places) × (drop i places ≡ filter q places)
  parted places zero within passes fails = let n = none places (λ k d less. fails k d (omega arith) less) in (sym n.0, sym n.1)
  parted [] (suc i) within passes fails = absurd (omega (arith, within))
  parted (first ∷ rest) (suc i) within passes fails =
      let f : p first ≡ true = passes 0 first (omega arith) in
      let r = parted rest i (omega (arith, within)) (λ k d less. passes (suc k) d (omega (arith, less))) (λ k d from less. fails (suc k) d (omega (arith, from)) (omega (arith, less))) in (
        ap (λ l. first ∷ l) r.0 ∙ sym (ap (λ b. if b then first ∷ filter p rest else filter p rest) f),
        r.1 ∙ sym (ap (λ b. if b then first ∷ filter q rest else filter q rest) (other first ∙ ap not f)),
      )

pub not_before : (place other : ℕ) → nat_le place other ≡ not (nat_lt other place)
not_before place other = by (nat_lt other place) refl
  where
    by : (b : Bool) → nat_lt other place ≡ b → nat_le place other ≡ not b
    by true is = let less = ltb-true other place is in lt-leb place other less
    by false is = let less = ltb-false other place is in le-leb place other less

both : (one other : ℕ → Bool) (places : List ℕ) → filter other (filter one places) ≡ filter (λ place. one place && other place) places
both one other [] = refl
both one other (first ∷ rest) = by (one first) (both one other rest)
  where
    by : (b : Bool) → filter other (filter one rest) ≡ filter (λ place. one place && other place) rest
        → filter other (if b then first ∷ filter one rest else filter one rest) ≡ (if b && other first then first ∷ filter (λ place. one place && other place) rest else filter (λ place. one place && other place) rest)
    by true is = ap (λ l. if other first then first ∷ l else l) is
    by false is = is

pub within_is : (start end variable from : ℕ) (all places later : List ℕ) → places ≡ places_from 0 variable all → later ≡ drop from places → drop from places ≡ filter (λ other. nat_le start other) places
    → filter (λ other. nat_lt other end) later ≡ places_within start end variable all
within_is start end variable from all places later p l behind =
    ap (λ x. filter (λ other. nat_lt other end) x) (l ∙ behind ∙ ap (λ x. filter (λ other. nat_le start other) x) p)
    ∙ both (λ other. nat_le start other) (λ other. nat_lt other end) (places_from 0 variable all)

-- a row of the table

pub row_is : (table seen : List (Vec ℕ Global)) (all inside : List ℕ) (variable number : ℕ) (row : List ℕ) → TellsPlaces table inside → inside ≡ all → seen ≡ table → number ≡ variable → row ≡ table_at seen number
    → row ≡ places_from 0 variable all
row_is table seen all inside variable number row tells view s n r =
    r ∙ ap (λ t. table_at t number) s ∙ ap (λ m. table_at table m) n ∙ tells variable ∙ ap (λ l. places_from 0 variable l) view

pub rows_rise : (table seen : List (Vec ℕ Global)) (all inside : List ℕ) (variable number : ℕ) (row : List ℕ) → TellsPlaces table inside → inside ≡ all → seen ≡ table → number ≡ variable → row ≡ table_at seen number
    → IsNonDecreasing row
rows_rise table seen all inside variable number row tells view s n r =
    subst IsNonDecreasing (sym (row_is table seen all inside variable number row tells view s n r)) (places_rise variable all)
