-- Of the first predicate without a mode and the first with too many modes the earlier is the first fault.
use Rattle.std.proofs.Common.{◌≡◌, ℕ, ◌≤◌, ◌<◌, inl, inr, Bool, true, false, List, Option, Some, None, refl, sym, subst, arith, nat_lt}
use Rattle.std.specs.Bool.{if◌then◌else◌}
use Rattle.std.proofs.Math.Nat.{eq-or-lt_of_le}
use Rattle.std.proofs.lemmas.Bool.Decides.{nat_tests}
use Rattle.merc_base.specs.Refusal.{rule_number}
use Rattle.merc_base.specs.FirstFault.{ComesFirst, HasNone, IsFirst}
use Rattle.merc_base.specs.FirstPlace.{StandsAt, first_place, IsLeast}
use Rattle.merc_base.specs.declared.place.Place.{Place}
use Rattle.merc_base.specs.declared.refusal.Rule.{Rule}
use Rattle.merc_base.specs.declared.refusal.Rule.TheVariants.{MissingMode, LimitPassed}
use Rattle.merc_base.specs.declared.refusal.Detail.{Detail}
use Rattle.merc_base.specs.declared.refusal.Refusal.{Refusal}
use Rattle.merc_base.proofs.FirstPlaceLaws.{first_place-least}
use Rattle.merc_entries.specs.Entries.{Entry}
use Rattle.merc_entries.specs.EntryValue.{place_at, AreInOrder}
use Rattle.merc_declared.specs.ModeFaults.{HasModeFault, missing, many, lacks_mode_here, has_many_modes_here}
use Rattle.merc_declared.specs.ModeCounts.{too_few, too_many, earlier}

at_or_before : (rule rule' : Rule) (byte byte' : ℕ) → rule_number rule ≤ rule_number rule' → byte ≤ byte' → ComesFirst byte rule byte' rule'
at_or_before rule rule' byte byte' less before = elim (eq-or-lt_of_le before) [ inl same ↦ inr (same, less) | inr earlier_byte ↦ inl earlier_byte ]

module _ (entries : List Entry) where
  abbrev Lacks : Place → Type 0
  Lacks = StandsAt place_at (lacks_mode_here entries) entries

  abbrev HasMany : Place → Type 0
  HasMany = StandsAt place_at (has_many_modes_here entries) entries

  no_fault : IsLeast Lacks None → IsLeast HasMany None → HasNone (HasModeFault entries)
  no_fault lacks has _ _ _ (missing place is) = lacks place is
  no_fault lacks has _ _ _ (many place is) = has place is

  few_first : (place : Place) → IsLeast Lacks (Some place) → ((other : Place) → HasMany other → place.byte ≤ other.byte)
      → (rule : Rule) (detail : Detail) (other : Place) → HasModeFault entries rule detail other → ComesFirst place.byte MissingMode other.byte rule
  few_first place lacks has _ _ _ (missing other is) = at_or_before MissingMode MissingMode place.byte other.byte (omega arith) (lacks.1 other is)
  few_first place lacks has _ _ _ (many other is) = at_or_before MissingMode LimitPassed place.byte other.byte (omega arith) (has other is)

  first_few : (place : Place) → IsLeast Lacks (Some place) → ((other : Place) → HasMany other → place.byte ≤ other.byte) → IsFirst (HasModeFault entries) (too_few place)
  first_few place lacks has = record { fault = missing place lacks.0; first = few_first place lacks has }

  more_first : (place : Place) → IsLeast HasMany (Some place) → ((other : Place) → Lacks other → place.byte < other.byte)
      → (rule : Rule) (detail : Detail) (other : Place) → HasModeFault entries rule detail other → ComesFirst place.byte LimitPassed other.byte rule
  more_first place has lacks _ _ _ (missing other is) = inl (lacks other is)
  more_first place has lacks _ _ _ (many other is) = at_or_before LimitPassed LimitPassed place.byte other.byte (omega arith) (has.1 other is)

  first_more : (place : Place) → IsLeast HasMany (Some place) → ((other : Place) → Lacks other → place.byte < other.byte) → IsFirst (HasModeFault entries) (too_many place)
  first_more place has lacks = record { fault = many place has.0; first = more_first place has lacks }

  never_none : (test : Bool) (place other : Place) → (if test then Some (too_many other) else Some (too_few place)) ≡ None → ⊥
  never_none true place other none = cc
  never_none false place other none = cc

  pub no_mode_fault : (few more : Option Place) → IsLeast Lacks few → IsLeast HasMany more → earlier few more ≡ None → HasNone (HasModeFault entries)
  no_mode_fault None None lacks has none = no_fault lacks has
  no_mode_fault None (Some other) lacks has none = absurd (let e : Some (too_many other) ≡ None = none in cc)
  no_mode_fault (Some place) None lacks has none = absurd (let e : Some (too_few place) ≡ None = none in cc)
  no_mode_fault (Some place) (Some other) lacks has none = absurd (never_none (nat_lt other.byte place.byte) place other none)

  of_both : (place other : Place) (refusal : Refusal) → IsLeast Lacks (Some place) → IsLeast HasMany (Some other) → (test : Bool) → nat_lt other.byte place.byte ≡ test
      → (if test then Some (too_many other) else Some (too_few place)) ≡ Some refusal → IsFirst (HasModeFault entries) refusal
  of_both place other refusal lacks has true tested chosen =
      let below : other.byte < place.byte = grind (arith, nat_tests) in
      let same : too_many other ≡ refusal = cc in
      subst (IsFirst (HasModeFault entries)) same (first_more other has (λ third is. let bound = lacks.1 third is in omega (arith, bound, below)))
  of_both place other refusal lacks has false tested chosen =
      let above : place.byte ≤ other.byte = grind (arith, nat_tests) in
      let same : too_few place ≡ refusal = cc in
      subst (IsFirst (HasModeFault entries)) same (first_few place lacks (λ third is. let bound = has.1 third is in omega (arith, bound, above)))

  pub first_mode_fault : (few more : Option Place) (refusal : Refusal) → IsLeast Lacks few → IsLeast HasMany more → earlier few more ≡ Some refusal → IsFirst (HasModeFault entries) refusal
  first_mode_fault None None refusal lacks has chosen = cc
  first_mode_fault None (Some other) refusal lacks has chosen =
      let same : too_many other ≡ refusal = cc in subst (IsFirst (HasModeFault entries)) same (first_more other has (λ place is. absurd (lacks place is)))
  first_mode_fault (Some place) None refusal lacks has chosen =
      let same : too_few place ≡ refusal = cc in subst (IsFirst (HasModeFault entries)) same (first_few place lacks (λ other is. absurd (has other is)))
  first_mode_fault (Some place) (Some other) refusal lacks has chosen = of_both place other refusal lacks has (nat_lt other.byte place.byte) refl chosen

  -- the least places are the first ones

  pub lacks_least : (found : Option Place) → AreInOrder entries → found ≡ first_place place_at (lacks_mode_here entries) entries → IsLeast Lacks found
  lacks_least found order is = subst (IsLeast Lacks) (sym is) (first_place-least place_at (lacks_mode_here entries) 0 entries order)

  pub many_least : (found : Option Place) → AreInOrder entries → found ≡ first_place place_at (has_many_modes_here entries) entries → IsLeast HasMany found
  many_least found order is = subst (IsLeast HasMany) (sym is) (first_place-least place_at (has_many_modes_here entries) 0 entries order)
