-- The first fault of several: of one rule at the least place, and of several phases. There is at most one.
use Rattle.std.proofs.Common.{◌≡◌, ◌≤◌, inl, inr, ℕ, ◌==◌, Some, None, if◌then◌else◌, refl, ap, sym, subst, ◌∙◌, arith}
use Rattle.std.proofs.Math.Nat.{eq-or-lt_of_le}
use Rattle.std.proofs.lemmas.Bool.{cases_lt}
use Rattle.merc_base.specs.Refusal.{rule_number}
use Rattle.merc_base.specs.declared.place.Place.{Place}
use Rattle.merc_base.specs.declared.refusal.Rule.{Rule}
use Rattle.merc_base.specs.declared.refusal.Rule.TheVariants.{BadToken, NoTerm, WrongForm, UnknownType, DeclaredTwice, Undeclared, UnknownName, TypeMismatch, MissingMode, NeverReady, BindsOuter, UnboundOutput, WrongCategory, ParallelCategory, OutsideProfile, LimitPassed}
use Rattle.merc_base.specs.declared.refusal.Detail.{Detail}
use Rattle.merc_base.specs.declared.refusal.Detail.TheVariants.{Plain}
use Rattle.merc_base.specs.declared.refusal.Refusal.{Refusal}
use Rattle.merc_base.specs.FirstPlace.{IsLeast}
use Rattle.merc_base.specs.FirstFault.{ComesFirst, AtPlaces, at, HasNone, IsFirst, IsFirstOf}

-- faults of one rule

pub none_at_places : (rule : Rule) (IsAt : Place → Type 0) → IsLeast IsAt None → HasNone (AtPlaces rule IsAt)
none_at_places rule IsAt none fault_rule detail place (at place' is) = none place' is

comes_first : (rule : Rule) (byte byte' : ℕ) → byte ≤ byte' → ComesFirst byte rule byte' rule
comes_first rule byte byte' less = elim (eq-or-lt_of_le less) [ inl same ↦ inr (same, omega arith) | inr before ↦ inl before ]

first_at : (rule : Rule) (IsAt : Place → Type 0) (least : Place) → ((place : Place) → IsAt place → least.byte ≤ place.byte) → (other : Rule) (detail : Detail) (place : Place)
    → AtPlaces rule IsAt other detail place → ComesFirst least.byte rule place.byte other
first_at rule IsAt least before other detail place (at place' is) = comes_first rule least.byte place'.byte (before place' is)

pub first_at_places : (rule : Rule) (IsAt : Place → Type 0) (least : Place) → IsLeast IsAt (Some least) → IsFirst (AtPlaces rule IsAt) (record { rule = rule; place = least; detail = Plain })
first_at_places rule IsAt least is = record { fault = at least is.0; first = first_at rule IsAt least is.1 }

-- the rule with a number
numbered : ℕ → Rule
numbered number =
    if number == 1 then BadToken
    else if number == 2 then NoTerm
    else if number == 3 then WrongForm
    else if number == 4 then UnknownType
    else if number == 5 then DeclaredTwice
    else if number == 6 then Undeclared
    else if number == 7 then UnknownName
    else if number == 8 then TypeMismatch
    else if number == 9 then MissingMode
    else if number == 10 then NeverReady
    else if number == 11 then BindsOuter
    else if number == 12 then UnboundOutput
    else if number == 13 then WrongCategory
    else if number == 14 then ParallelCategory
    else if number == 15 then OutsideProfile
    else LimitPassed

numbered-rule : (rule : Rule) → numbered (rule_number rule) ≡ rule
unfolding numbered
numbered-rule BadToken = refl
numbered-rule NoTerm = refl
numbered-rule WrongForm = refl
numbered-rule UnknownType = refl
numbered-rule DeclaredTwice = refl
numbered-rule Undeclared = refl
numbered-rule UnknownName = refl
numbered-rule TypeMismatch = refl
numbered-rule MissingMode = refl
numbered-rule NeverReady = refl
numbered-rule BindsOuter = refl
numbered-rule UnboundOutput = refl
numbered-rule WrongCategory = refl
numbered-rule ParallelCategory = refl
numbered-rule OutsideProfile = refl
numbered-rule LimitPassed = refl

-- rules are told apart by their numbers
pub same_rule : (rule rule' : Rule) → rule_number rule ≡ rule_number rule' → rule ≡ rule'
same_rule rule rule' same = sym (numbered-rule rule) ∙ ap numbered same ∙ numbered-rule rule'

-- of two faults one of which comes before the other, and the other before the one, byte and rule are the same
pub both_first : (byte byte' : ℕ) (rule rule' : Rule) → ComesFirst byte rule byte' rule' → ComesFirst byte' rule' byte rule → (byte ≡ byte') × (rule ≡ rule')
both_first byte byte' rule rule' (inl less) (inl less') = absurd (omega (arith, less, less'))
both_first byte byte' rule rule' (inl less) (inr same) = absurd (let e = same.0 in omega (arith, less, e))
both_first byte byte' rule rule' (inr same) (inl less) = absurd (let e = same.0 in omega (arith, less, e))
both_first byte byte' rule rule' (inr same) (inr same') = (same.0, same_rule rule rule' (omega (arith, same.1, same'.1)))

-- Where one byte has one place, and a rule says one thing at a place, there is one first fault.
module _ (HasFault : Rule → Detail → Place → Type 0)
    (one_place : (rule rule' : Rule) (detail detail' : Detail) (place place' : Place) → HasFault rule detail place → HasFault rule' detail' place' → place.byte ≡ place'.byte → place ≡ place')
    (one_detail : (rule : Rule) (detail detail' : Detail) (place : Place) → HasFault rule detail place → HasFault rule detail' place → detail ≡ detail') where
  same_fault : (rule rule' : Rule) (detail detail' : Detail) (place place' : Place) → HasFault rule detail place → HasFault rule' detail' place' → rule ≡ rule' → place ≡ place' → detail ≡ detail'
  same_fault rule rule' detail detail' place place' one other rules places =
      one_detail rule detail detail' place one
      (subst (λ (p : Place). HasFault rule detail' p) (sym places) (subst (λ (r : Rule). HasFault r detail' place') (sym rules) other))

  pub IsFirst-unique : (one other : Refusal) → IsFirst HasFault one → IsFirst HasFault other → one ≡ other
  IsFirst-unique one other is is' =
      let same = both_first one.place.byte other.place.byte one.rule other.rule (is.first other.rule other.detail other.place is'.fault) (is'.first one.rule one.detail one.place is.fault) in
      let places = one_place one.rule other.rule one.detail other.detail one.place other.place is.fault is'.fault same.0 in
      let details = same_fault one.rule other.rule one.detail other.detail one.place other.place is.fault is'.fault same.1 places in
      (λ i. record { rule = same.1 i; place = places i; detail = details i })

-- The first fault of several phases is of one phase.
pub one_phase : (HasFault : ℕ → Rule → Detail → Place → Type 0) (one other : Refusal) (is : IsFirstOf HasFault one) (is' : IsFirstOf HasFault other) → is.phase ≡ is'.phase
one_phase HasFault one other is is' =
    elim (cases_lt is.phase is'.phase) [
      | inl less ↦ absurd (is'.earlier is.phase less one.rule one.detail one.place is.decides.fault)
      | inr most ↦ elim (cases_lt is'.phase is.phase) [
        | inl less ↦ absurd (is.earlier is'.phase less other.rule other.detail other.place is'.decides.fault)
        | inr least ↦ omega (arith, most, least)
      ]
    ]
