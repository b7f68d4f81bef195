-- Worked examples of first faults and first places, and false statements that the prover refutes.
use Rattle.std.proofs.Common.{◌≡◌, ℕ, ◌==◌, ◌<◌, inl, inr, List, [], ◌∷◌, Some, None, refl, arith}
use Rattle.merc_base.specs.declared.place.Place.{Place}
use Rattle.merc_base.specs.declared.refusal.Rule.{Rule}
use Rattle.merc_base.specs.declared.refusal.Rule.TheVariants.{UnknownType, DeclaredTwice}
use Rattle.merc_base.specs.declared.refusal.Detail.{Detail}
use Rattle.merc_base.specs.declared.refusal.Detail.TheVariants.{Plain}
use Rattle.merc_base.specs.declared.refusal.Refusal.{Refusal}
use Rattle.merc_base.specs.declared.refusal.Fault.TheVariants.{Refused}
use Rattle.merc_base.specs.FirstFault.{ComesFirst, AtPlaces, at, HasNone, AnswersFirst, IsFirstOf}
use Rattle.merc_base.specs.FirstPlace.{StandsAt, NeverFalls, first_place, earlier, IsLeast}
use Rattle.merc_base.proofs.FirstFaultLaws.{first_at_places}

-- bytes 7 and 20 of the second line
abbrev seventh : Place
seventh = record { byte = 7; line = 2 }

abbrev twentieth : Place
twentieth = record { byte = 20; line = 2 }

-- numbers that stand at places
abbrev items : List (ℕ × Place)
items = (3, seventh) ∷ (5, seventh) ∷ (5, twentieth) ∷ []

abbrev place_of : ℕ × Place → Place
place_of item = item.1

pub ComesFirst-byte : ComesFirst 7 DeclaredTwice 20 UnknownType
ComesFirst-byte = inl (omega arith)

pub ComesFirst-rule : ComesFirst 7 UnknownType 7 DeclaredTwice
ComesFirst-rule = inr (refl, omega arith)

pub ComesFirst-not : ComesFirst 7 DeclaredTwice 7 UnknownType → ⊥
ComesFirst-not (inl less) = omega (arith, less)
ComesFirst-not (inr same) = omega (arith, same.1)

pub first_place-example : first_place place_of (λ item. item.0 == 5) items ≡ Some seventh
first_place-example = refl

pub first_place-none : first_place place_of (λ item. item.0 == 4) items ≡ None
first_place-none = refl

pub earlier-example : earlier (Some twentieth) (Some seventh) ≡ Some seventh
earlier-example = refl

pub earlier-only : earlier None (Some seventh) ≡ Some seventh
earlier-only = refl

pub NeverFalls-example : NeverFalls place_of 0 items
NeverFalls-example = (omega arith, (omega arith, (omega arith, tt)))

pub NeverFalls-not : NeverFalls place_of 0 ((5, twentieth) ∷ (3, seventh) ∷ []) → ⊥
NeverFalls-not order = omega (arith, order.1.0)

pub StandsAt-example : StandsAt place_of (λ item. item.0 == 5) items twentieth
StandsAt-example = record { front = (3, seventh) ∷ (5, seventh) ∷ []; item = (5, twentieth); back = []; whole = refl; passes = refl; there = refl }

pub IsLeast-example : IsLeast (λ place. place ≡ seventh) (Some seventh)
IsLeast-example = (refl, λ place is. rw is (omega arith))

pub IsLeast-not : IsLeast (λ place. place ≡ seventh) None → ⊥
IsLeast-not none = none seventh refl

-- the faults of two phases: declared twice at byte 20, and an unknown type at byte 7

pub data HasFault : ℕ → Rule → Detail → Place → Type 0 where
  twice : HasFault 4 DeclaredTwice Plain twentieth
  unknown : HasFault 5 UnknownType Plain seventh

only_twice : (rule : Rule) (detail : Detail) (place : Place) → HasFault 4 rule detail place → ComesFirst 20 DeclaredTwice place.byte rule
only_twice _ _ _ twice = inr (refl, omega arith)

none_before : (phase : ℕ) (rule : Rule) (detail : Detail) (place : Place) → phase < 4 → HasFault phase rule detail place → ⊥
none_before _ _ _ _ less twice = omega (arith, less)
none_before _ _ _ _ less unknown = omega (arith, less)

-- the earlier phase decides, though its fault stands later
pub IsFirstOf-example : IsFirstOf HasFault (record { rule = DeclaredTwice; place = twentieth; detail = Plain })
IsFirstOf-example = record {
  phase = 4;
  earlier = λ before less rule detail place fault. none_before before rule detail place less fault;
  decides = record { fault = twice; first = only_twice };
}

fourth_not : (refusal : Refusal) (phase : ℕ) → refusal.rule ≡ UnknownType → (4 < phase → ⊥) → HasFault phase refusal.rule refusal.detail refusal.place → ⊥
fourth_not refusal phase is early fault = later phase refusal.rule refusal.detail refusal.place is early fault
  where
    later : (phase : ℕ) (rule : Rule) (detail : Detail) (place : Place) → rule ≡ UnknownType → (4 < phase → ⊥) → HasFault phase rule detail place → ⊥
    later _ _ _ _ is early twice = cc
    later _ _ _ _ is early unknown = early (omega arith)

pub IsFirstOf-not : IsFirstOf HasFault (record { rule = UnknownType; place = seventh; detail = Plain }) → ⊥
IsFirstOf-not first =
    fourth_not (record { rule = UnknownType; place = seventh; detail = Plain }) first.phase refl
    (λ less. first.earlier 4 less DeclaredTwice Plain twentieth twice) first.decides.fault

pub AnswersFirst-example : AnswersFirst (AtPlaces UnknownType (λ place. place ≡ seventh)) (Refused (record { rule = UnknownType; place = seventh; detail = Plain }))
AnswersFirst-example = first_at_places UnknownType (λ place. place ≡ seventh) seventh IsLeast-example

pub HasNone-example : HasNone (AtPlaces UnknownType (λ place. ⊥))
HasNone-example rule detail place (at place' never) = never
