-- Children that are made for a fork.
use Rattle.std.specs.Prelude.{◌≡◌, ℕ, suc, ◌+◌, ◌<◌, ◌≤◌, ◌==◌, List, [], ◌∷◌, ◌++◌, Some, None, length, slice_get, if◌then◌else◌}
use Rattle.std.specs.List.{All}
use Rattle.std.specs.Vec.{vec_capacity}
use Rattle.std.specs.declared.boxed.Box.{Box}
use Rattle.std.specs.declared.alloc.Global.{Global}
use Rattle.atomic_table.specs.Seated.{TableId}
use Rattle.merc_value.specs.Block.{BlockData}
use Rattle.merc_script.specs.Script.{Script}
use Rattle.merc_script.specs.Places.{Place, left_of}
use Rattle.merc_join.specs.declared.ends.Ticket.{Ticket}
use Rattle.merc_join.specs.Tickets.{AreDealt}
use Rattle.merc_yard.specs.declared.berth.Berth.{Berth}
use Rattle.merc_yard.specs.declared.spot.Fill.TheVariants.{Filled}
use Rattle.merc_yard.specs.declared.spot.Purpose.TheVariants.{Forks}
use Rattle.merc_yard.specs.Berths.{spot_of}
use Rattle.merc_board.specs.declared.branch.Branch.{Branch}
use Rattle.merc_board.specs.declared.branch.Woken.TheVariants.{No}
use Rattle.merc_board.specs.declared.fork.Handover.{Handover}
use Rattle.merc_board.specs.Rights.{Due, Owed, Rights, waits_into, signals_into}
use Rattle.merc_board.specs.Going.{child_place}
use Rattle.merc_held_branches.specs.declared.types.Bed.{Bed}
use Rattle.merc_held_branches.specs.declared.branch.HeldWait.{HeldWait}
use Rattle.merc_held_branches.specs.declared.branch.HeldSignal.{HeldSignal}
use Rattle.merc_held_branches.specs.declared.branch.Hold.{Hold}
use Rattle.merc_held_branches.specs.Spots.{place, child_spot, fork_count}
use Rattle.merc_held_branches.specs.Beds.{IsMoored}
use Rattle.merc_held_branches.specs.Lying.{AreNamed, ForksAt, rights}
use Rattle.merc_held_branches.specs.Owning.{HasBerth, Own}

-- one right more for a child
abbrev pub with_wait : ℕ → Due → (ℕ → Rights) → ℕ → Rights
with_wait child due has number = if number == child then record { waits = (has child).waits ++ due ∷ []; signals = (has child).signals } else has number

abbrev pub with_signal : ℕ → Owed → (ℕ → Rights) → ℕ → Rights
with_signal child owed has number = if number == child then record { waits = (has child).waits; signals = (has child).signals ++ owed ∷ [] } else has number

-- .. and for each child those of a parent's rights that move into it
abbrev pub with_waits : List Handover → List Due → (ℕ → Rights) → ℕ → Rights
with_waits moves waits has number = record { waits = (has number).waits ++ waits_into number moves waits; signals = (has number).signals }

abbrev pub with_signals : List Handover → List Owed → (ℕ → Rights) → ℕ → Rights
with_signals moves signals has number = record { waits = (has number).waits; signals = (has number).signals ++ signals_into number moves signals }

module _ {L : Type 0} where
  -- a branch that is made and not yet placed
  pub record IsKid (table : TableId) (branch : Branch L (Hold L)) : Type 0 where
    pub berthed : HasBerth table branch.hold.berth
    pub unlinked : branch.hold.link ≡ None
    pub fresh : branch.hold.woken ≡ No
    pub named : AreNamed table branch.hold

  -- .. with room for more rights of each kind
  pub record HasRoom (room : ℕ) (branch : Branch L (Hold L)) : Type 0 where
    pub waits : length branch.hold.waits.items + room ≤ vec_capacity branch.hold.waits
    pub signals : length branch.hold.signals.items + room ≤ vec_capacity branch.hold.signals

  -- .. for this load, with these rights
  pub record IsFor (table : TableId) (room : ℕ) (load : L) (has : Rights) (branch : Branch L (Hold L)) : Type 0 where
    pub same : branch.load ≡ load
    pub kid : IsKid table branch
    pub rooms : HasRoom room branch
    pub given : rights branch.hold ≡ has

  -- what a branch has behind one right to wait more
  pub record GotWait (right : HeldWait L) (old new : Branch L (Hold L)) : Type 0 where
    pub load : new.load ≡ old.load
    pub berth : new.hold.berth ≡ old.hold.berth
    pub link : new.hold.link ≡ old.hold.link
    pub woken : new.hold.woken ≡ old.hold.woken
    pub signals : new.hold.signals ≡ old.hold.signals
    pub items : new.hold.waits.items ≡ old.hold.waits.items ++ right ∷ []
    pub capacity : vec_capacity new.hold.waits ≡ vec_capacity old.hold.waits

  pub record GotSignal (right : HeldSignal L) (old new : Branch L (Hold L)) : Type 0 where
    pub load : new.load ≡ old.load
    pub berth : new.hold.berth ≡ old.hold.berth
    pub link : new.hold.link ≡ old.hold.link
    pub woken : new.hold.woken ≡ old.hold.woken
    pub waits : new.hold.waits ≡ old.hold.waits
    pub items : new.hold.signals.items ≡ old.hold.signals.items ++ right ∷ []
    pub capacity : vec_capacity new.hold.signals ≡ vec_capacity old.hold.signals

  -- branches for these loads, where each child, numbered from 1, has its rights
  pub record AreFor (table : TableId) (room : ℕ) (loads : List L) (has : ℕ → Rights) (kids : List (Box (Branch L (Hold L)) Global)) : Type 0 where
    pub count : length kids ≡ length loads
    pub each : (i : ℕ) (kid : Box (Branch L (Hold L)) Global) → slice_get kids i ≡ Some kid → (load : L) × (slice_get loads i ≡ Some load) × IsFor table room load (has (suc i)) kid.value

  abbrev pub HaveBerths : TableId → List (Box (Branch L (Hold L)) Global) → Type 0
  HaveBerths table kids = All (λ kid. HasBerth table kid.value.hold.berth) kids

  -- a child's load stands at the beginning of the script of this child, numbered from 0, of the branch in a berth
  pub record KidFits (root : Script) (stands : L → Rights → Place → Type 0) (table : TableId) (berth : Berth) (child : ℕ) (branch : Branch L (Hold L)) : Type 0 where
    pub kid : IsKid table branch
    pub begins : stands branch.load (rights branch.hold) (place root (child_spot (spot_of berth) (suc child)))

  abbrev pub AllFit : Script → (L → Rights → Place → Type 0) → TableId → Berth → List (Box (Branch L (Hold L)) Global) → Type 0
  AllFit root stands table berth kids = (i : ℕ) (kid : Box (Branch L (Hold L)) Global) → slice_get kids i ≡ Some kid → KidFits root stands table berth i kid.value

  -- children are made, and their tickets, for the parent in a berth
  pub record AreMade (root : Script) (stands : L → Rights → Place → Type 0) (table : TableId) (kids : List (Box (Branch L (Hold L)) Global)) (tickets : List (Ticket (Bed L))) : Type 0 where
    pub parent : Bed L
    pub join : TableId
    pub all : ℕ
    pub moored : IsMoored table Filled Forks parent.berth
    pub count : all ≡ fork_count (left_of (place root (spot_of parent.berth)))
    pub same_count : length kids ≡ length tickets
    pub dealt : AreDealt all parent join tickets
    pub fit : AllFit root stands table parent.berth kids

  -- a parent stands at a fork with the rights that it has behind it, and these are its children
  pub record Joins (root : Script) (stands awaits forked : L → Rights → Place → Type 0) (shows : ℕ → BlockData → Type 0) (table : TableId) (kids : List (Box (Branch L (Hold L)) Global)) (parent : Branch L (Hold L)) : Type 0 where
    pub at : Place
    pub owned : Own root table parent.hold at
    pub forks : ForksAt root stands awaits forked shows parent.load (rights parent.hold) parent.hold.limit at
    pub count : length kids ≡ fork_count (left_of at)
    pub some : 0 < length kids
    pub few : length kids ≤ 64
    pub each : (i : ℕ) (kid : Box (Branch L (Hold L)) Global) → slice_get kids i ≡ Some kid → IsKid table kid.value × stands kid.value.load (rights kid.value.hold) (child_place at (suc i))
    pub berths : HaveBerths table kids
