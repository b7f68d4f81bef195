-- The first item that passes a test stands at the least place of such items.
use Rattle.std.proofs.Common.{◌≡◌, ◌≤◌, ◌⊎◌, inl, inr, ℕ, Bool, true, false, List, [], ◌∷◌, ◌++◌, Option, Some, None, if◌then◌else◌, nat_le, refl, ap, arith}
use Rattle.std.proofs.lemmas.Bool.Decides.{nat_tests}
use Rattle.merc_base.specs.declared.place.Place.{Place}
use Rattle.merc_base.specs.FirstPlace.{StandsAt, NeverFalls, first_place, earlier, IsLeast}

-- what holds at the same places has the same least one
pub least_along : (P Q : Place → Type 0) → ((place : Place) → P place → Q place) → ((place : Place) → Q place → P place) → (found : Option Place) → IsLeast P found → IsLeast Q found
least_along P Q to from None least = λ place q. least place (from place q)
least_along P Q to from (Some first) least = (to first least.0, λ place q. least.1 place (from place q))

-- the least place of two kinds is the earlier of their least ones

least_if : (P Q : Place → Type 0) (test : Bool) (a b : Place) → (nat_le a.byte b.byte ≡ test)
    → IsLeast P (Some a) → IsLeast Q (Some b) → IsLeast (λ place. P place ⊎ Q place) (if test then Some a else Some b)
least_if P Q true a b is pa qb =
    (inl pa.0, λ place h. elim h [ inl p ↦ pa.1 place p | inr q ↦ let e : b.byte ≤ place.byte = qb.1 place q in grind (arith, nat_tests) ])
least_if P Q false a b is pa qb =
    (inr qb.0, λ place h. elim h [ inl p ↦ let e : a.byte ≤ place.byte = pa.1 place p in grind (arith, nat_tests) | inr q ↦ qb.1 place q ])

pub least_earlier : (P Q : Place → Type 0) (a b : Option Place) → IsLeast P a → IsLeast Q b → IsLeast (λ place. P place ⊎ Q place) (earlier a b)
least_earlier P Q None None pa qb = λ place h. elim h [ inl p ↦ pa place p | inr q ↦ qb place q ]
least_earlier P Q None (Some b) pa qb = (inr qb.0, λ place h. elim h [ inl p ↦ absurd (pa place p) | inr q ↦ qb.1 place q ])
least_earlier P Q (Some a) None pa qb = (inl pa.0, λ place h. elim h [ inl p ↦ pa.1 place p | inr q ↦ absurd (qb place q) ])
least_earlier P Q (Some a) (Some b) pa qb = least_if P Q (nat_le a.byte b.byte) a b refl pa qb

-- items that never fall

pub never_falls_before : {A : Type 0} (place_of : A → Place) (byte after : ℕ) (items : List A) → byte ≤ after → NeverFalls place_of after items → NeverFalls place_of byte items
never_falls_before place_of byte after [] less order = tt
never_falls_before place_of byte after (item ∷ rest) less order = (let e : after ≤ (place_of item).byte = order.0 in omega arith, order.1)

module _ {A : Type 0} (place_of : A → Place) (test : A → Bool) where
  behind : (item : A) (rest : List A) (place : Place) → StandsAt place_of test rest place → StandsAt place_of test (item ∷ rest) place
  behind item rest place later = record {
    front = item ∷ later.front;
    item = later.item;
    back = later.back;
    whole = ap (λ (items : List A). item ∷ items) later.whole;
    passes = later.passes;
    there = later.there;
  }

  -- it is the first item, or stands behind it
  split_at : (item : A) (rest front : List A) (found : A) (back : List A) (place : Place) → item ∷ rest ≡ front ++ found ∷ back → test found ≡ true → place ≡ place_of found
      → ((test item ≡ true) × (place ≡ place_of item)) ⊎ StandsAt place_of test rest place
  split_at item rest [] found back place whole passes there = let same : found ≡ item = cc in inl (rw same at passes, rw same at there)
  split_at item rest (other ∷ front) found back place whole passes there =
      let same : rest ≡ front ++ found ∷ back = cc in inr (record { front = front; item = found; back = back; whole = same; passes = passes; there = there })

  split : (item : A) (rest : List A) (place : Place) → StandsAt place_of test (item ∷ rest) place → ((test item ≡ true) × (place ≡ place_of item)) ⊎ StandsAt place_of test rest place
  split item rest place stands = split_at item rest stands.front stands.item stands.back place stands.whole stands.passes stands.there

  nowhere : (front : List A) (item : A) (back : List A) → [] ≡ front ++ item ∷ back → ⊥
  nowhere [] item back whole = cc
  nowhere (first ∷ front) item back whole = cc

  stands_after : (byte : ℕ) (items : List A) (place : Place) → NeverFalls place_of byte items → StandsAt place_of test items place → byte ≤ place.byte
  stands_after byte [] place order stands = absurd (nowhere stands.front stands.item stands.back stands.whole)
  stands_after byte (item ∷ rest) place order stands =
      elim (split item rest place stands) [
        | inl here ↦ let e : byte ≤ (place_of item).byte = order.0 in let s : place ≡ place_of item = here.1 in rw s e
        | inr later ↦ let e : byte ≤ (place_of item).byte = order.0 in let l = stands_after (place_of item).byte rest place order.1 later in omega (arith, e, l)
      ]

  least_step : (item : A) (rest : List A) (passes : Bool) → test item ≡ passes → NeverFalls place_of (place_of item).byte rest
      → IsLeast (StandsAt place_of test rest) (first_place place_of test rest)
      → IsLeast (StandsAt place_of test (item ∷ rest)) (if passes then Some (place_of item) else first_place place_of test rest)
  least_step item rest true is order least = (
    record { front = []; item = item; back = rest; whole = refl; passes = is; there = refl },
    λ place stands. elim (split item rest place stands) [
      | inl here ↦ let s : place ≡ place_of item = here.1 in rw s (omega arith)
      | inr later ↦ stands_after (place_of item).byte rest place order later
    ],
  )
  least_step item rest false is order least =
      least_along (StandsAt place_of test rest) (StandsAt place_of test (item ∷ rest)) (behind item rest)
      (λ place stands. elim (split item rest place stands) [ inl here ↦ let t : test item ≡ true = here.0 in absurd cc | inr later ↦ later ])
      (first_place place_of test rest) least

  pub first_place-least : (byte : ℕ) (items : List A) → NeverFalls place_of byte items → IsLeast (StandsAt place_of test items) (first_place place_of test items)
  first_place-least byte [] order = λ place stands. nowhere stands.front stands.item stands.back stands.whole
  first_place-least byte (item ∷ rest) order = least_step item rest (test item) refl order.1 (first_place-least (place_of item).byte rest order.1)
