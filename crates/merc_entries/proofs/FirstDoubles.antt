-- The first doubled declaration, by the functions that the code mirrors.
use Rattle.std.proofs.Common.{◌≡◌, ◌≤◌, ◌⊎◌, inl, inr, ℕ, Bool, true, false, ◌||◌, List, [], ◌∷◌, ◌++◌, Option, Some, None, if◌then◌else◌, nat_le, refl, ap, sym, ◌∙◌, subst, arith}
use Rattle.std.specs.List.{list_any}
use Rattle.std.proofs.lemmas.List.{append_assoc, append-nil}
use Rattle.std.proofs.lemmas.Bool.Decides.{nat_tests}
use Rattle.merc_base.specs.Names.{error_name, bool_name, maybe_name, require_name}
use Rattle.merc_base.specs.FirstPlace.{NeverFalls, IsLeast}
use Rattle.merc_base.specs.declared.place.Place.{Place}
use Rattle.merc_base.proofs.FirstPlaceLaws.{least_along, least_earlier, never_falls_before}
use Rattle.merc_item_forms.specs.Items.{Item}
use Rattle.merc_entries.specs.Entries.{Entry, Declared, is_key, is_same_mode, types_of, constructors_of, predicates_of, modes_of, declared_by, key, is_own, own_entries}
use Rattle.merc_entries.specs.DoubleFaults.{IsAgain, HasDouble, type_again, constructor_again, arithmetic, predicate_again, error_again, mode_again, bool_and_maybe, type_keys, is_arithmetic, import_place, later}
use Rattle.merc_entries.specs.EntryValue.{place_at, AreInOrder}
use Rattle.merc_entries.specs.FirstPlaces.{again_from, first_again, first_such, both_later, declared_at, constructor_double, predicate_double, first_double}
use Rattle.merc_entries.proofs.FirstAgain.{is_among}

-- Declarations in the order of their places, from a byte on

abbrev Rises : {K : Type 0} → ℕ → List (Declared K) → Type 0
Rises from declared = NeverFalls (λ next. next.place) from declared

rises_at : {K : Type 0} (from : ℕ) (place : Place) (keys : List K) (rest : List (Declared K)) → from ≤ place.byte → Rises place.byte rest → Rises from (declared_at place keys ++ rest)
rises_at from place [] rest less rises = never_falls_before (λ next. next.place) from place.byte rest less rises
rises_at from place (key ∷ keys) rest less rises = (less, rises_at place.byte place keys rest (omega arith) rises)

declared_rise : {K : Type 0} (keys : Item → List K) (from : ℕ) (entries : List Entry) → NeverFalls place_at from entries → Rises from (declared_by keys entries)
declared_rise keys from [] rise = tt
declared_rise keys from (entry ∷ rest) rise =
    rises_at from entry.place (keys entry.item) (declared_by keys rest) rise.0 (declared_rise keys entry.place.byte rest rise.1)

own_if : (test : Bool) (from : ℕ) (entry : Entry) (rest : List Entry) → from ≤ entry.place.byte → NeverFalls place_at entry.place.byte rest → NeverFalls place_at from (if test then entry ∷ rest else rest)
own_if true from entry rest less rise = (less, rise)
own_if false from entry rest less rise = never_falls_before place_at from entry.place.byte rest less rise

own_rise : (from : ℕ) (entries : List Entry) → NeverFalls place_at from entries → NeverFalls place_at from (own_entries entries)
own_rise from [] rise = tt
own_rise from (entry ∷ rest) rise = own_if (is_own entry) from entry (own_entries rest) rise.0 (own_rise entry.place.byte rest rise.1)

-- What is declared again

abbrev AgainFrom : {K : Type 0} → (K → K → Bool) → List (Declared K) → List (Declared K) → Place → Type 0
AgainFrom same seen [] place = ⊥
AgainFrom same seen (next ∷ rest) place = ((is_among same next.key seen ≡ true) × (place ≡ next.place)) ⊎ AgainFrom same (seen ++ next ∷ []) rest place

again_after : {K : Type 0} (same : K → K → Bool) (from : ℕ) (seen rest : List (Declared K)) (place : Place) → Rises from rest → AgainFrom same seen rest place → from ≤ place.byte
again_after same from seen [] place rises again = absurd again
again_after same from seen (next ∷ rest) place rises again =
    elim again [
      | inl here ↦ let e : from ≤ next.place.byte = rises.0 in let s : place ≡ next.place = here.1 in rw s e
      | inr after ↦ let e : from ≤ next.place.byte = rises.0 in let l : next.place.byte ≤ place.byte = again_after same next.place.byte (seen ++ next ∷ []) rest place rises.1 after in omega arith
    ]

again_step : {K : Type 0} (same : K → K → Bool) (seen : List (Declared K)) (next : Declared K) (rest : List (Declared K)) (test : Bool) → is_among same next.key seen ≡ test
    → Rises next.place.byte rest → IsLeast (AgainFrom same (seen ++ next ∷ []) rest) (again_from same (seen ++ next ∷ []) rest)
    → IsLeast (AgainFrom same seen (next ∷ rest)) (if test then Some next.place else again_from same (seen ++ next ∷ []) rest)
again_step same seen next rest true is rises least = (
  inl (is, refl),
  λ place again. elim again [
    | inl here ↦ let s : place ≡ next.place = here.1 in rw s (omega arith)
    | inr after ↦ again_after same next.place.byte (seen ++ next ∷ []) rest place rises after
  ],
)
again_step same seen next rest false is rises least =
    least_along (AgainFrom same (seen ++ next ∷ []) rest) (AgainFrom same seen (next ∷ rest))
    (λ place after. inr after)
    (λ place again. elim again [ inl here ↦ let t : is_among same next.key seen ≡ true = here.0 in absurd cc | inr after ↦ after ])
    (again_from same (seen ++ next ∷ []) rest) least

again_least : {K : Type 0} (same : K → K → Bool) (from : ℕ) (seen rest : List (Declared K)) → Rises from rest → IsLeast (AgainFrom same seen rest) (again_from same seen rest)
again_least same from seen [] rises = λ place again. again
again_least same from seen (next ∷ rest) rises =
    again_step same seen next rest (is_among same next.key seen) refl rises.1 (again_least same next.place.byte (seen ++ next ∷ []) rest rises.1)

again_to : {K : Type 0} (same : K → K → Bool) (seen front : List (Declared K)) (again : Declared K) (back : List (Declared K)) (place : Place)
    → is_among same again.key (seen ++ front) ≡ true → place ≡ again.place → AgainFrom same seen (front ++ again ∷ back) place
again_to same seen [] again back place before there = inl (rw append-nil at before, there)
again_to {K} same seen (first ∷ front) again back place before there =
    inr (again_to same (seen ++ first ∷ []) front again back place (let P : List (Declared K) → Type 0 = λ l. is_among same again.key l ≡ true in subst P (sym (append_assoc seen (first ∷ []) front)) before) there)

again_of : {K : Type 0} (same : K → K → Bool) (seen rest : List (Declared K)) (place : Place) → AgainFrom same seen rest place → IsAgain same (seen ++ rest) place
again_of same seen [] place again = absurd again
again_of {K} same seen (next ∷ rest) place again =
    elim again [
      | inl here ↦ record { front = seen; again = next; back = rest; whole = refl; before = here.0; there = here.1 }
      | inr after ↦ let P : List (Declared K) → Type 0 = λ l. IsAgain same l place in subst P (append_assoc seen (next ∷ []) rest) (again_of same (seen ++ next ∷ []) rest place after)
    ]

first_again-least : {K : Type 0} (same : K → K → Bool) (from : ℕ) (declared : List (Declared K)) → Rises from declared → IsLeast (IsAgain same declared) (first_again same declared)
first_again-least {K} same from declared rises =
    least_along (AgainFrom same [] declared) (IsAgain same declared)
    (λ place again. again_of same [] declared place again)
    (λ place again. let P : List (Declared K) → Type 0 = λ l. AgainFrom same [] l place in subst P (sym again.whole) (again_to same [] again.front again.again again.back place again.before again.there))
    (first_again same declared) (again_least same from [] declared rises)

-- What passes a test

abbrev AnySuch : {K : Type 0} → (K → Bool) → List (Declared K) → Place → Type 0
AnySuch test [] place = ⊥
AnySuch test (next ∷ rest) place = ((test next.key ≡ true) × (place ≡ next.place)) ⊎ AnySuch test rest place

such_after : {K : Type 0} (test : K → Bool) (from : ℕ) (rest : List (Declared K)) (place : Place) → Rises from rest → AnySuch test rest place → from ≤ place.byte
such_after test from [] place rises such = absurd such
such_after test from (next ∷ rest) place rises such =
    elim such [
      | inl here ↦ let e : from ≤ next.place.byte = rises.0 in let s : place ≡ next.place = here.1 in rw s e
      | inr after ↦ let e : from ≤ next.place.byte = rises.0 in let l : next.place.byte ≤ place.byte = such_after test next.place.byte rest place rises.1 after in omega arith
    ]

such_step : {K : Type 0} (test : K → Bool) (next : Declared K) (rest : List (Declared K)) (passes : Bool) → test next.key ≡ passes
    → Rises next.place.byte rest → IsLeast (AnySuch test rest) (first_such test rest)
    → IsLeast (AnySuch test (next ∷ rest)) (if passes then Some next.place else first_such test rest)
such_step test next rest true is rises least = (
  inl (is, refl),
  λ place such. elim such [
    | inl here ↦ let s : place ≡ next.place = here.1 in rw s (omega arith)
    | inr after ↦ such_after test next.place.byte rest place rises after
  ],
)
such_step test next rest false is rises least =
    least_along (AnySuch test rest) (AnySuch test (next ∷ rest))
    (λ place after. inr after)
    (λ place such. elim such [ inl here ↦ let t : test next.key ≡ true = here.0 in absurd cc | inr after ↦ after ])
    (first_such test rest) least

such_least : {K : Type 0} (test : K → Bool) (from : ℕ) (rest : List (Declared K)) → Rises from rest → IsLeast (AnySuch test rest) (first_such test rest)
such_least test from [] rises = λ place such. such
such_least test from (next ∷ rest) rises = such_step test next rest (test next.key) refl rises.1 (such_least test next.place.byte rest rises.1)

-- an entry declares something that passes a test
record DeclaresSuch {K : Type 0} (keys : Item → List K) (test : K → Bool) (entries : List Entry) (place : Place) : Type 0 where
  front : List Entry
  entry : Entry
  back : List Entry
  whole : entries ≡ front ++ entry ∷ back
  passes : list_any test (keys entry.item) ≡ true
  there : place ≡ entry.place

such_first : {K : Type 0} (test : K → Bool) (next : Declared K) (after : List (Declared K)) (place : Place) (more passes : Bool) → test next.key ≡ passes
    → (test next.key || more) ≡ true → place ≡ next.place → (more ≡ true → AnySuch test after place) → AnySuch test (next ∷ after) place
such_first test next after place more true is any there later_on = inl (is, there)
such_first test next after place more false is any there later_on = inr (later_on (ap (λ b. b || more) (sym is) ∙ any))

such_at : {K : Type 0} (test : K → Bool) (at place : Place) (keys : List K) (rest : List (Declared K)) → list_any test keys ≡ true → place ≡ at → AnySuch test (declared_at at keys ++ rest) place
such_at test at place [] rest passes there = absurd cc
such_at test at place (key ∷ keys) rest passes there =
    such_first test (record { key = key; place = at }) (declared_at at keys ++ rest) place (list_any test keys) (test key) refl passes there (λ more. such_at test at place keys rest more there)

such_behind : {K : Type 0} (test : K → Bool) (at place : Place) (keys : List K) (rest : List (Declared K)) → AnySuch test rest place → AnySuch test (declared_at at keys ++ rest) place
such_behind test at place [] rest such = such
such_behind test at place (key ∷ keys) rest such = inr (such_behind test at place keys rest such)

such_to : {K : Type 0} (keys : Item → List K) (test : K → Bool) (front : List Entry) (entry : Entry) (back : List Entry) (place : Place)
    → list_any test (keys entry.item) ≡ true → place ≡ entry.place → AnySuch test (declared_by keys (front ++ entry ∷ back)) place
such_to keys test [] entry back place passes there = such_at test entry.place place (keys entry.item) (declared_by keys back) passes there
such_to keys test (first ∷ front) entry back place passes there =
    such_behind test first.place place (keys first.item) (declared_by keys (front ++ entry ∷ back)) (such_to keys test front entry back place passes there)

any_more : (test more : Bool) → more ≡ true → (test || more) ≡ true
any_more true more is = refl
any_more false more is = is

such_parts : {K : Type 0} (test : K → Bool) (at place : Place) (keys : List K) (rest : List (Declared K)) → AnySuch test (declared_at at keys ++ rest) place
    → ((list_any test keys ≡ true) × (place ≡ at)) ⊎ AnySuch test rest place
such_parts test at place [] rest such = inr such
such_parts test at place (key ∷ keys) rest such =
    elim such [
      | inl here ↦ inl (ap (λ b. b || list_any test keys) here.0, here.1)
      | inr after ↦ elim (such_parts test at place keys rest after) [
        | inl found ↦ inl (any_more (test key) (list_any test keys) found.0, found.1)
        | inr behind ↦ inr behind
      ]
    ]

such_of : {K : Type 0} (keys : Item → List K) (test : K → Bool) (entries : List Entry) (place : Place) → AnySuch test (declared_by keys entries) place → DeclaresSuch keys test entries place
such_of keys test [] place such = absurd such
such_of keys test (entry ∷ rest) place such =
    elim (such_parts test entry.place place (keys entry.item) (declared_by keys rest) such) [
      | inl here ↦ record { front = []; entry = entry; back = rest; whole = refl; passes = here.0; there = here.1 }
      | inr after ↦ let found : DeclaresSuch keys test rest place = such_of keys test rest place after in
          record { front = entry ∷ found.front; entry = found.entry; back = found.back; whole = ap (λ l. entry ∷ l) found.whole; passes = found.passes; there = found.there }
    ]

first_such-least : {K : Type 0} (keys : Item → List K) (test : K → Bool) (entries : List Entry) → NeverFalls place_at 0 entries → IsLeast (DeclaresSuch keys test entries) (first_such test (declared_by keys entries))
first_such-least {K} keys test entries rise =
    least_along (AnySuch test (declared_by keys entries)) (DeclaresSuch keys test entries)
    (λ place such. such_of keys test entries place such)
    (λ place such. let P : List Entry → Type 0 = λ l. AnySuch test (declared_by keys l) place in subst P (sym such.whole) (such_to keys test such.front such.entry such.back place such.passes such.there))
    (first_such test (declared_by keys entries)) (such_least test 0 (declared_by keys entries) (declared_rise keys 0 entries rise))

-- The later of two places

abbrev AreBoth : Option Place → (Place → Type 0) → Place → Type 0
AreBoth first Holds place = (a : Place) × (b : Place) × (first ≡ Some a) × Holds b × (place ≡ later a b)

later_if : (a b c : Place) (test test' : Bool) → nat_le a.byte b.byte ≡ test → nat_le a.byte c.byte ≡ test' → b.byte ≤ c.byte → (if test then b else a).byte ≤ (if test' then c else a).byte
later_if a b c true true is is' less = less
later_if a b c true false is is' less = grind (arith, nat_tests)
later_if a b c false true is is' less = grind (arith, nat_tests)
later_if a b c false false is is' less = omega arith

later_least : (a b c : Place) → b.byte ≤ c.byte → (later a b).byte ≤ (later a c).byte
later_least a b c less = later_if a b c (nat_le a.byte b.byte) (nat_le a.byte c.byte) refl refl less

both_least : (first : Option Place) (Holds : Place → Type 0) (second : Option Place) → IsLeast Holds second → IsLeast (AreBoth first Holds) (both_later first second)
both_least None Holds second least = λ place both. let e : None ≡ Some both.0 = both.2 in absurd cc
both_least (Some a) Holds None least = λ place both. least both.1 both.3
both_least (Some a) Holds (Some b) least = (
  (a, b, refl, least.0, refl),
  λ place both.
      let e : Some a ≡ Some both.0 = both.2 in
      let same : a ≡ both.0 = cc in
      let there : place ≡ later both.0 both.1 = both.4 in
      let l : (later a b).byte ≤ (later a both.1).byte = later_least a b both.1 (least.1 both.1 both.3) in
      rw there (rw (← same) l),
)

itself_least : (found : Option Place) → IsLeast (λ place. found ≡ Some place) found
itself_least None = λ place e. absurd cc
itself_least (Some a) = (refl, λ place e. let s : a ≡ place = cc in rw s (omega arith))

-- All kinds of doubles

abbrev AreDoubles : List Entry → Place → Type 0
AreDoubles entries place =
    IsAgain is_key (type_keys entries) place ⊎ (
    (IsAgain is_key (declared_by constructors_of entries) place ⊎ DeclaresSuch constructors_of is_arithmetic entries place) ⊎ (
    (IsAgain is_key (declared_by predicates_of entries) place ⊎ AreBoth (import_place require_name entries) (DeclaresSuch predicates_of (is_key (key error_name 1)) entries) place) ⊎ (
    IsAgain is_same_mode (declared_by modes_of (own_entries entries)) place ⊎
    AreBoth (import_place bool_name entries) (λ maybe. import_place maybe_name entries ≡ Some maybe) place)))

constructors_least : (entries : List Entry) → NeverFalls place_at 0 entries
    → IsLeast (λ place. IsAgain is_key (declared_by constructors_of entries) place ⊎ DeclaresSuch constructors_of is_arithmetic entries place) (constructor_double entries)
constructors_least entries rise =
    least_earlier (IsAgain is_key (declared_by constructors_of entries)) (DeclaresSuch constructors_of is_arithmetic entries)
    (first_again is_key (declared_by constructors_of entries)) (first_such is_arithmetic (declared_by constructors_of entries))
    (first_again-least is_key 0 (declared_by constructors_of entries) (declared_rise constructors_of 0 entries rise))
    (first_such-least constructors_of is_arithmetic entries rise)

predicates_least : (entries : List Entry) → NeverFalls place_at 0 entries
    → IsLeast (λ place. IsAgain is_key (declared_by predicates_of entries) place ⊎ AreBoth (import_place require_name entries) (DeclaresSuch predicates_of (is_key (key error_name 1)) entries) place) (predicate_double entries)
predicates_least entries rise =
    let errors = first_such (is_key (key error_name 1)) (declared_by predicates_of entries) in
    least_earlier (IsAgain is_key (declared_by predicates_of entries)) (AreBoth (import_place require_name entries) (DeclaresSuch predicates_of (is_key (key error_name 1)) entries))
    (first_again is_key (declared_by predicates_of entries)) (both_later (import_place require_name entries) errors)
    (first_again-least is_key 0 (declared_by predicates_of entries) (declared_rise predicates_of 0 entries rise))
    (both_least (import_place require_name entries) (DeclaresSuch predicates_of (is_key (key error_name 1)) entries) errors (first_such-least predicates_of (is_key (key error_name 1)) entries rise))

modes_least : (entries : List Entry) → NeverFalls place_at 0 entries → IsLeast (IsAgain is_same_mode (declared_by modes_of (own_entries entries))) (first_again is_same_mode (declared_by modes_of (own_entries entries)))
modes_least entries rise =
    first_again-least is_same_mode 0 (declared_by modes_of (own_entries entries)) (declared_rise modes_of 0 (own_entries entries) (own_rise 0 entries rise))

units_least : (entries : List Entry) → IsLeast (AreBoth (import_place bool_name entries) (λ maybe. import_place maybe_name entries ≡ Some maybe)) (both_later (import_place bool_name entries) (import_place maybe_name entries))
units_least entries = both_least (import_place bool_name entries) (λ maybe. import_place maybe_name entries ≡ Some maybe) (import_place maybe_name entries) (itself_least (import_place maybe_name entries))

all_least : (entries : List Entry) → NeverFalls place_at 0 entries → IsLeast (AreDoubles entries) (first_double entries)
all_least entries rise =
    least_earlier _ _ _ _ (first_again-least is_key 0 (type_keys entries) (omega arith, (omega arith, declared_rise types_of 0 entries rise)))
    (least_earlier _ _ _ _ (constructors_least entries rise)
    (least_earlier _ _ _ _ (predicates_least entries rise)
    (least_earlier _ _ _ _ (modes_least entries rise) (units_least entries))))

doubles_to : (entries : List Entry) (place : Place) → AreDoubles entries place → HasDouble entries place
doubles_to entries place (inl again) = type_again place again
doubles_to entries place (inr (inl (inl again))) = constructor_again place again
doubles_to entries place (inr (inl (inr such))) =
    let P : Place → Type 0 = λ p. HasDouble entries p in subst P (sym such.there) (arithmetic such.front such.back such.entry such.whole such.passes)
doubles_to entries place (inr (inr (inl (inl again)))) = predicate_again place again
doubles_to entries place (inr (inr (inl (inr both)))) =
    let such : DeclaresSuch predicates_of (is_key (key error_name 1)) entries both.1 = both.3 in
    let P : Place → Type 0 = λ p. HasDouble entries p in
    let e : place ≡ later both.0 such.entry.place = both.4 ∙ ap (λ p. later both.0 p) such.there in
    subst P (sym e) (error_again such.front such.back such.entry both.0 such.whole such.passes both.2)
doubles_to entries place (inr (inr (inr (inl again)))) = mode_again place again
doubles_to entries place (inr (inr (inr (inr both)))) =
    let P : Place → Type 0 = λ p. HasDouble entries p in
    subst P (sym both.4) (bool_and_maybe both.0 both.1 both.2 both.3)

doubles_of : (entries : List Entry) (place : Place) → HasDouble entries place → AreDoubles entries place
doubles_of entries _ (type_again place again) = inl again
doubles_of entries _ (constructor_again place again) = inr (inl (inl again))
doubles_of entries _ (arithmetic front back entry whole passes) =
    inr (inl (inr (record { front = front; entry = entry; back = back; whole = whole; passes = passes; there = refl })))
doubles_of entries _ (predicate_again place again) = inr (inr (inl (inl again)))
doubles_of entries _ (error_again front back entry import whole passes imported) =
    inr (inr (inl (inr (import, entry.place, imported, record { front = front; entry = entry; back = back; whole = whole; passes = passes; there = refl }, refl))))
doubles_of entries _ (mode_again place again) = inr (inr (inr (inl again)))
doubles_of entries _ (bool_and_maybe bool maybe a b) = inr (inr (inr (inr (bool, maybe, a, b, refl))))

pub first_double-least : (entries : List Entry) → AreInOrder entries → IsLeast (HasDouble entries) (first_double entries)
first_double-least entries order =
    least_along (AreDoubles entries) (HasDouble entries) (doubles_to entries) (doubles_of entries) (first_double entries) (all_least entries order)
