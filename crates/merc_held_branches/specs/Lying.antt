-- What lies in a berth.
use Rattle.std.specs.Prelude.{◌≡◌, ℕ, List, [], map, Option, Some, None}
use Rattle.std.specs.List.{All}
use Rattle.merc_value.specs.Block.{BlockData}
use Rattle.merc_script.specs.Script.{Script, WaitThen, ForkThen, Children, Cell, Move}
use Rattle.merc_script.specs.Places.{Place, left_of}
use Rattle.atomic_table.specs.Seated.{TableId}
use Rattle.merc_cell.specs.Ends.{consumer_name, producer_name}
use Rattle.merc_join.specs.declared.ends.Ticket.{Ticket}
use Rattle.merc_join.specs.Tickets.{ticket_parent, ticket_child, ticket_children}
use Rattle.merc_yard.specs.declared.berth.Berth.{Berth}
use Rattle.merc_yard.specs.declared.spot.Spot.{Spot}
use Rattle.merc_yard.specs.declared.spot.Fill.TheVariants.{Filled}
use Rattle.merc_yard.specs.declared.spot.Purpose.{Purpose}
use Rattle.merc_yard.specs.declared.spot.Purpose.TheVariants.{Ready, Waits, Forks, Free}
use Rattle.merc_yard.specs.Berths.{spot_of}
use Rattle.merc_held_branches.specs.declared.types.Bed.{Bed}
use Rattle.merc_board.specs.declared.branch.Woken.{Woken}
use Rattle.merc_board.specs.declared.branch.Woken.TheVariants.{No, Value, Starved}
use Rattle.merc_held_branches.specs.declared.branch.HeldWait.{HeldWait}
use Rattle.merc_held_branches.specs.declared.branch.HeldSignal.{HeldSignal}
use Rattle.merc_held_branches.specs.declared.branch.Hold.{Hold}
use Rattle.merc_board.specs.declared.branch.Branch.{Branch}
use Rattle.merc_held_branches.specs.declared.branch.Moored.{Moored}
use Rattle.merc_held_branches.specs.declared.branch.Moored.TheVariants.{Lying, Link}
use Rattle.merc_board.specs.Rights.{Due, Owed, Rights}
use Rattle.merc_board.specs.Going.{next}
use Rattle.merc_held_branches.specs.Spots.{place, fork_count}
use Rattle.merc_held_branches.specs.Beds.{IsMoored, child_name, cell_named, IsNamed}

module _ {L : Type 0} where
  abbrev pub due_of : HeldWait L → Due
  due_of right = record { variable = right.variable; cell = cell_named (consumer_name right.end) }

  abbrev pub owed_of : HeldSignal L → Owed
  owed_of right = record { variable = right.variable; consumer = right.consumer; cell = cell_named (producer_name right.end) }

  -- the rights of a branch
  abbrev pub rights : Hold L → Rights
  rights hold = record { waits = map due_of hold.waits.items; signals = map owed_of hold.signals.items }

  -- they are rights to cells of a board with this yard
  pub record AreNamed (table : TableId) (hold : Hold L) : Type 0 where
    pub waits : All (λ right. IsNamed table (consumer_name right.end)) hold.waits.items
    pub signals : All (λ right. IsNamed table (producer_name right.end)) hold.signals.items

  -- a place in a join is that of the script of a spot
  abbrev pub Placed : Script → Spot → Option (Ticket (Bed L)) → Type 0
  Placed root o None = o.name ≡ []
  Placed root o (Some ticket) = IsMoored o.yard.table_id Filled Forks (ticket_parent ticket).berth × (o.name ≡ child_name (ticket_parent ticket).berth (ticket_child ticket))
      × (ticket_children ticket ≡ fork_count (left_of (place root (spot_of (ticket_parent ticket).berth))))

-- the next of a chain
abbrev pub Linked : Purpose → TableId → Option Berth → Type 0
Linked purpose table None = Unit {0}
Linked purpose table (Some berth) = IsMoored table Filled purpose berth

-- only a branch that can be run lies in a chain
abbrev pub LinkFits : Purpose → TableId → Option Berth → Type 0
LinkFits Ready table link = Linked Ready table link
LinkFits Waits table link = link ≡ None
LinkFits Forks table link = link ≡ None
LinkFits Free table link = ⊥

module _ {L : Type 0} (root : Script) (stands awaits forked : L → Rights → Place → Type 0) (shows : ℕ → BlockData → Type 0) where
  -- A load waits behind this place, and is given its cell's value
  pub record IsGiven (load : L) (owned : Rights) (behind : Place) (value : BlockData) : Type 0 where
    pub at : Place
    pub cell : ℕ
    pub rest : Script
    pub there : next at ≡ behind
    pub left : left_of at ≡ Some (WaitThen cell rest)
    pub waiting : awaits load owned at
    pub shown : shows cell value

  -- a load that can go on, with what it was woken with
  abbrev pub ReadyAs : L → Rights → Place → Woken → Type 0
  ReadyAs load owned at No = stands load owned at
  ReadyAs load owned at (Value value) = IsGiven load owned at value
  ReadyAs load owned at Starved = Unit {0}

  -- a load waits here
  pub record WaitsAt (load : L) (owned : Rights) (at : Place) : Type 0 where
    pub cell : ℕ
    pub rest : Script
    pub left : left_of at ≡ Some (WaitThen cell rest)
    pub waiting : awaits load owned at

  -- a load waits here for its children
  pub record ForksAt (load : L) (owned : Rights) (limit : ℕ) (at : Place) : Type 0 where
    pub cells : List Cell
    pub moves : List Move
    pub children : Children
    pub rest : Script
    pub left : left_of at ≡ Some (ForkThen limit cells moves children rest)
    pub waiting : forked load owned at

  abbrev pub LiesFor : Purpose → Place → Branch L (Hold L) → Type 0
  LiesFor Ready at branch = ReadyAs branch.load (rights branch.hold) at branch.hold.woken
  LiesFor Waits at branch = WaitsAt branch.load (rights branch.hold) at
  LiesFor Forks at branch = ForksAt branch.load (rights branch.hold) branch.hold.limit at
  LiesFor Free at branch = ⊥

  -- a branch that may lie in a berth of this spot
  pub record LiesIn (o : Spot) (branch : Branch L (Hold L)) : Type 0 where
    pub placed : Placed root o branch.hold.place
    pub linked : LinkFits o.purpose o.yard.table_id branch.hold.link
    pub named : AreNamed o.yard.table_id branch.hold
    pub stands_so : LiesFor o.purpose (place root o) branch

  -- what may lie in a berth of this spot
  abbrev pub Lies : Spot → Moored L → Type 0
  Lies o (Lying branch) = LiesIn o branch.value
  Lies o (Link link) = (o.purpose ≡ Free) × Linked Free o.yard.table_id link

abbrev pub IsBusy : Purpose → Type 0
IsBusy Ready = Unit {0}
IsBusy Waits = Unit {0}
IsBusy Forks = Unit {0}
IsBusy Free = ⊥

-- what a branch can be woken with that waits here
abbrev pub MayWake : Script → (ℕ → BlockData → Type 0) → Spot → Woken → Type 0
MayWake root shows o No = ⊥
MayWake root shows o (Value value) = (cell : ℕ) → (rest : Script) → left_of (place root o) ≡ Some (WaitThen cell rest) → shows cell value
MayWake root shows o Starved = Unit {0}
