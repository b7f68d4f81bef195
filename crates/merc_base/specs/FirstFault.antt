-- Faults, each a rule with its detail at a place, and the one of them that decides.
use Rattle.std.specs.Prelude.{◌≡◌, ℕ, ◌≤◌, ◌<◌, ◌⊎◌, Bool, ◌==◌, ◌&&◌, ◌||◌, nat_le, nat_lt, List, [], ◌∷◌, Option, Some, None, if◌then◌else◌}
use Rattle.merc_base.specs.Refusal.{rule_number}
use Rattle.merc_base.specs.declared.place.Place.{Place}
use Rattle.merc_base.specs.declared.refusal.Rule.{Rule}
use Rattle.merc_base.specs.declared.refusal.Detail.{Detail}
use Rattle.merc_base.specs.declared.refusal.Detail.TheVariants.{Plain}
use Rattle.merc_base.specs.declared.refusal.Refusal.{Refusal}
use Rattle.merc_base.specs.declared.refusal.Fault.{Fault}
use Rattle.merc_base.specs.declared.refusal.Fault.TheVariants.{Refused, NoMemory}

-- of two faults that at the lesser byte comes first, and at one byte that of the lesser rule
abbrev pub ComesFirst : ℕ → Rule → ℕ → Rule → Type 0
ComesFirst byte rule byte' rule' = (byte < byte') ⊎ ((byte ≡ byte') × (rule_number rule ≤ rule_number rule'))

-- the faults of one rule, of which nothing more is said, at these places
pub data AtPlaces (rule : Rule) (IsAt : Place → Type 0) : Rule → Detail → Place → Type 0 where
  at : (place : Place) → IsAt place → AtPlaces rule IsAt rule Plain place

-- there is no such fault
abbrev pub HasNone : (Rule → Detail → Place → Type 0) → Type 0
HasNone HasFault = (rule : Rule) (detail : Detail) (place : Place) → HasFault rule detail place → ⊥

-- the first of such faults
pub record IsFirst (HasFault : Rule → Detail → Place → Type 0) (refusal : Refusal) : Type 0 where
  pub fault : HasFault refusal.rule refusal.detail refusal.place
  pub first : (rule : Rule) (detail : Detail) (place : Place) → HasFault rule detail place → ComesFirst refusal.place.byte refusal.rule place.byte rule

-- a refusal is the first of the faults; where memory was refused nothing is said of them
abbrev pub AnswersFirst : (Rule → Detail → Place → Type 0) → Fault → Type 0
AnswersFirst HasFault (Refused refusal) = IsFirst HasFault refusal
AnswersFirst HasFault NoMemory = Unit {0}

-- the first of the faults of several phases: the first phase with a fault decides
pub record IsFirstOf (HasFault : ℕ → Rule → Detail → Place → Type 0) (refusal : Refusal) : Type 0 where
  pub phase : ℕ
  pub earlier : (before : ℕ) → before < phase → HasNone (HasFault before)
  pub decides : IsFirst (HasFault phase) refusal

-- the same as a test: whether of two faults the one comes first
abbrev pub comes_first : Refusal → Refusal → Bool
comes_first one other =
    nat_lt one.place.byte other.place.byte || ((one.place.byte == other.place.byte) && nat_le (rule_number one.rule) (rule_number other.rule))

abbrev pub earlier_fault : Refusal → Option Refusal → Refusal
earlier_fault one None = one
earlier_fault one (Some other) = if comes_first one other then one else other

-- the first of some faults, and of those at one place and of one rule the first in the list
abbrev pub first_of_faults : List Refusal → Option Refusal
first_of_faults [] = None
first_of_faults (one ∷ rest) = Some (earlier_fault one (first_of_faults rest))
