-- The rule of a cell: one word, a slot for the waiter and one for the value, and two seats. And what each step tells.
use Rattle.std.specs.Prelude.{◌≡◌, ◌⊎◌, ℕ, ◌+◌, Bool, true, false, ◌==◌, if◌then◌else◌, ◌&&◌, List, [], ◌∷◌}
use mathlib.Core.Option.{Option, none, some}
use Rattle.atomic_table.specs.Table.{State, Me, rest}
use Rattle.atomic_table.specs.Seated.{TableId}
use Rattle.merc_cell.specs.declared.glance.Slot.{Slot}
use Rattle.merc_cell.specs.declared.glance.Slot.TheVariants.{Empty, Waiter, Value}
use Rattle.merc_cell.specs.declared.glance.Stage.{Stage}
use Rattle.merc_cell.specs.declared.glance.Stage.TheVariants.{Alone, Idle, Holding, Apart, Met, TookWaiter, TookBoth}
use Rattle.merc_cell.specs.declared.glance.End.{End}
use Rattle.merc_cell.specs.declared.glance.End.TheVariants.{Open, Full, Poisoned}
use Rattle.merc_cell.specs.declared.glance.Glance.{Glance}

-- the bits of the word
abbrev pub wait_bit : ℕ
wait_bit = 1

abbrev pub full_bit : ℕ
full_bit = 2

abbrev pub poison_bit : ℕ
poison_bit = 4

abbrev pub end_bit : End → ℕ
end_bit Open = 0
end_bit Full = full_bit
end_bit Poisoned = poison_bit

-- whether a seat has made its one step on the word
abbrev pub has_stepped : Stage → Bool
has_stepped Alone = false
has_stepped Idle = false
has_stepped Holding = false
has_stepped Apart = true
has_stepped Met = true
has_stepped TookWaiter = true
has_stepped TookBoth = true

-- how often a seat is handed the waiter
abbrev pub handed : Stage → ℕ
handed Alone = 0
handed Idle = 0
handed Holding = 0
handed Apart = 0
handed Met = 1
handed TookWaiter = 1
handed TookBoth = 1

-- the word, after the consumer's stage and the producer's end
abbrev pub number : Stage → End → ℕ
number consumer end = (if has_stepped consumer then wait_bit else 0) + end_bit end

abbrev pub glance : {V W : Type 0} → List ℕ → Bool → Stage → End → Slot V W → Glance V W
glance name consumer stage end put = record { name = name; consumer = consumer; stage = stage; end = end; put = put }

-- the view of the first seat, before there is a second
abbrev pub lone : {V W : Type 0} → Glance V W
lone = glance [] true Alone Open Empty

abbrev pub begun : {V W : Type 0} → List ℕ → Bool → Glance V W
begun name consumer = glance name consumer Idle Open Empty

-- What can be at one time: the consumer's stage and the end that it found, the producer's stage and its end
pub data Agree : Stage → End → Stage → End → Type 0 where
  idle_idle : Agree Idle Open Idle Open
  idle_holding : Agree Idle Open Holding Open
  holding_idle : Agree Holding Open Idle Open
  holding_holding : Agree Holding Open Holding Open
  apart_idle : Agree Apart Open Idle Open
  apart_holding : Agree Apart Open Holding Open
  idle_full : Agree Idle Open Apart Full
  holding_full : Agree Holding Open Apart Full
  idle_poisoned : Agree Idle Open Apart Poisoned
  holding_poisoned : Agree Holding Open Apart Poisoned
  met_full : Agree Met Full Apart Full
  took_waiter_full : Agree TookWaiter Full Apart Full
  took_both_full : Agree TookBoth Full Apart Full
  met_poisoned : Agree Met Poisoned Apart Poisoned
  took_waiter_poisoned : Agree TookWaiter Poisoned Apart Poisoned
  full_met : Agree Apart Open Met Full
  full_took_waiter : Agree Apart Open TookWaiter Full
  full_took_both : Agree Apart Open TookBoth Full
  poisoned_met : Agree Apart Open Met Poisoned
  poisoned_took_waiter : Agree Apart Open TookWaiter Poisoned

module _ {V W : Type 0} where
  module _ (fits_w : List ℕ → W → Type 0) (name : List ℕ) (put : Slot V W) (slot : Option (Slot V W)) where
    -- the slot is at home with the waiter that was put
    abbrev pub HasWaiter : Type 0
    HasWaiter = (waiter : W) × (put ≡ Waiter waiter) × (slot ≡ some (Waiter waiter)) × fits_w name waiter

    -- the waiter's slot, where the consumer has stepped and found nothing, after the producer's stage
    abbrev pub WaitsAt : Stage → Type 0
    WaitsAt Alone = HasWaiter
    WaitsAt Idle = HasWaiter
    WaitsAt Holding = HasWaiter
    WaitsAt Apart = HasWaiter
    WaitsAt Met = HasWaiter
    WaitsAt TookWaiter = Unit {0}
    WaitsAt TookBoth = Unit {0}

    -- the waiter's slot, after the consumer's stage and the producer's: nothing is said of a slot that is out with a seat
    abbrev pub WaiterAt : Stage → Stage → Type 0
    WaiterAt Alone producer = slot ≡ some Empty
    WaiterAt Idle producer = slot ≡ some Empty
    WaiterAt Holding producer = Unit {0}
    WaiterAt Apart producer = WaitsAt producer
    WaiterAt Met producer = HasWaiter
    WaiterAt TookWaiter producer = Unit {0}
    WaiterAt TookBoth producer = Unit {0}

  module _ (fits_v : List ℕ → V → Type 0) (name : List ℕ) (put : Slot V W) (slot : Option (Slot V W)) where
    -- the slot is at home with the value that was put
    abbrev pub HasValue : Type 0
    HasValue = (value : V) × (put ≡ Value value) × (slot ≡ some (Value value)) × fits_v name value

    -- the value's slot of a full cell that the producer found without a waiter, after the consumer's stage
    abbrev pub LiesAt : Stage → Type 0
    LiesAt Alone = HasValue
    LiesAt Idle = HasValue
    LiesAt Holding = HasValue
    LiesAt Apart = HasValue
    LiesAt Met = HasValue
    LiesAt TookWaiter = HasValue
    LiesAt TookBoth = Unit {0}

    -- the value's slot of a full cell, after the producer's stage and the consumer's
    abbrev pub FullAt : Stage → Stage → Type 0
    FullAt Alone consumer = Unit {0}
    FullAt Idle consumer = Unit {0}
    FullAt Holding consumer = Unit {0}
    FullAt Apart consumer = LiesAt consumer
    FullAt Met consumer = HasValue
    FullAt TookWaiter consumer = HasValue
    FullAt TookBoth consumer = Unit {0}

    -- the value's slot before the producer has ended, after its stage
    abbrev pub OpenAt : Stage → Type 0
    OpenAt Alone = slot ≡ some Empty
    OpenAt Idle = slot ≡ some Empty
    OpenAt Holding = Unit {0}
    OpenAt Apart = Unit {0}
    OpenAt Met = Unit {0}
    OpenAt TookWaiter = Unit {0}
    OpenAt TookBoth = Unit {0}

    -- the value's slot, after the producer's end and stage, and the consumer's stage
    abbrev pub ValueAt : End → Stage → Stage → Type 0
    ValueAt Open producer consumer = OpenAt producer
    ValueAt Full producer consumer = FullAt producer consumer
    ValueAt Poisoned producer consumer = slot ≡ some Empty

module _ {V W : Type 0} (fits_v : List ℕ → V → Type 0) (fits_w : List ℕ → W → Type 0) where
  -- the two slots, the consumer's view and the producer's
  pub record Two (a b : Option (Slot V W)) (c p : Glance V W) : Type 0 where
    pub consumer : c.consumer ≡ true
    pub producer : p.consumer ≡ false
    pub one_name : p.name ≡ c.name
    pub agree : Agree c.stage c.end p.stage p.end
    pub waiter : WaiterAt fits_w c.name c.put a c.stage p.stage
    pub value : ValueAt fits_v p.name p.put b p.end p.stage c.stage

  -- the word, the slots at home, and the views: of one seat before the split, of two after it
  abbrev pub Cases : List ℕ → List (Option (Slot V W)) → List (Glance V W) → Type 0
  Cases words homes [] = ⊥
  Cases words homes (c ∷ []) = (words ≡ 0 ∷ []) × (homes ≡ some Empty ∷ some Empty ∷ []) × (c ≡ lone)
  Cases words homes (c ∷ p ∷ []) = (a : Option (Slot V W)) × (b : Option (Slot V W)) × (words ≡ number c.stage p.end ∷ []) × (homes ≡ a ∷ b ∷ []) × Two a b c p
  Cases words homes (c ∷ p ∷ more ∷ others) = ⊥

  abbrev pub Kept : State (Slot V W) (Glance V W) → Type 0
  Kept s = Cases s.words s.homes s.views

-- what the consumer's step found in the word
abbrev pub end_of : ℕ → End
end_of found = if found == 0 then Open else (if found == full_bit then Full else Poisoned)

abbrev pub second : Bool → Stage
second came = if came then Met else Apart

-- the numbers of the two slots
abbrev pub waiter_slot : ℕ
waiter_slot = 0

abbrev pub value_slot : ℕ
value_slot = 1

-- a seat's own slot
abbrev pub own_slot : Bool → ℕ
own_slot consumer = if consumer then waiter_slot else value_slot

-- a seat of a table that has a cell's word and its two slots
abbrev pub IsSeated : TableId → TableId → Type 0
IsSeated seat table = (seat ≡ table) × (table.words ≡ 1) × (table.slots ≡ 2)

module _ {V W : Type 0} where
  -- a seat that has done nothing
  abbrev pub IsBegun : Bool → Me (Slot V W) (Glance V W) → Type 0
  IsBegun consumer m = m ≡ (begun m.0.name consumer, [])

  -- a seat at this stage
  abbrev pub IsAt : Stage → Glance V W → Type 0
  IsAt stage view = view ≡ glance view.name view.consumer stage view.end view.put

  -- what the slot taken last holds
  abbrev pub last : List (ℕ × Slot V W) → Slot V W
  last [] = Empty
  last (x ∷ xs) = x.1

  abbrev pub Grabbed : Me (Slot V W) (Glance V W) → Me (Slot V W) (Glance V W) → Type 0
  Grabbed m n = (n.0 ≡ glance m.0.name m.0.consumer Holding Open Empty) × (n.1 ≡ (own_slot m.0.consumer, Empty) ∷ m.1)

  abbrev pub Waited : Me (Slot V W) (Glance V W) → ℕ → Me (Slot V W) (Glance V W) → Type 0
  Waited m found n = (n.0 ≡ glance m.0.name true (second (if found == 0 then false else true)) (end_of found) (last m.1)) × (n.1 ≡ rest m.1)

  abbrev pub Signalled : Me (Slot V W) (Glance V W) → ℕ → Me (Slot V W) (Glance V W) → Type 0
  Signalled m found n = (n.0 ≡ glance m.0.name false (second (found == wait_bit)) Full (last m.1)) × (n.1 ≡ rest m.1)

  abbrev pub Spoilt : Me (Slot V W) (Glance V W) → ℕ → Me (Slot V W) (Glance V W) → Type 0
  Spoilt m found n = (n.0 ≡ glance m.0.name false (second (found == wait_bit)) Poisoned Empty) × (n.1 ≡ m.1)

  -- the waiter, which is the one that the seat put if the seat is the consumer's
  abbrev pub GotWaiter : (List ℕ → W → Type 0) → Me (Slot V W) (Glance V W) → Me (Slot V W) (Glance V W) → Type 0
  GotWaiter fits m n = (n.0 ≡ glance m.0.name m.0.consumer TookWaiter m.0.end m.0.put)
      × ((waiter : W) × (n.1 ≡ (waiter_slot, Waiter waiter) ∷ m.1) × fits m.0.name waiter × (m.0.consumer ≡ true → m.0.put ≡ Waiter waiter))

  -- the value, which is the one that the seat put if the seat is the producer's
  abbrev pub GotValue : (List ℕ → V → Type 0) → Me (Slot V W) (Glance V W) → Me (Slot V W) (Glance V W) → Type 0
  GotValue fits m n = (n.0 ≡ glance m.0.name m.0.consumer TookBoth m.0.end m.0.put)
      × ((value : V) × (n.1 ≡ (value_slot, Value value) ∷ m.1) × fits m.0.name value × (m.0.consumer ≡ false → m.0.put ≡ Value value))

  -- of the views of both seats: the waiter goes to one of them once both have stepped and to none before, and an end that the consumer found is the producer's
  pub record OneIsHanded (c p : Glance V W) : Type 0 where
    pub once : handed c.stage + handed p.stage ≡ (if has_stepped c.stage && has_stepped p.stage then 1 else 0)
    pub cause : (c.end ≡ Open) ⊎ (c.end ≡ p.end)
