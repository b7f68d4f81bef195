-- A branch that a worker runs.
use Rattle.std.specs.Prelude.{◌≡◌, ℕ, Option, Some, None}
use Rattle.merc_value.specs.Block.{BlockData}
use Rattle.merc_script.specs.declared.outcome.Outcome.{Outcome}
use Rattle.merc_script.specs.declared.outcome.Outcome.TheVariants.{Ok as Fine, Raise, Limit, Starved, NoMemory}
use Rattle.merc_script.specs.Script.{Script, Ends}
use Rattle.merc_script.specs.Places.{Place, left_of}
use Rattle.atomic_table.specs.Seated.{TableId}
use Rattle.merc_yard.specs.declared.berth.Berth.{Berth}
use Rattle.merc_yard.specs.declared.spot.Spot.{Spot}
use Rattle.merc_yard.specs.declared.spot.Fill.TheVariants.{Vacant}
use Rattle.merc_yard.specs.Berths.{IsBerth, spot_of}
use Rattle.merc_yard.specs.Slots.{nowhere}
use Rattle.merc_held_branches.specs.declared.branch.Hold.{Hold}
use Rattle.merc_board.specs.declared.branch.Branch.{Branch}
use Rattle.merc_board.specs.Rights.{Rights}
use Rattle.merc_held_branches.specs.Spots.{place, after, Reaches}
use Rattle.merc_held_branches.specs.Lying.{Placed, rights, LiesIn, ReadyAs, AreNamed}

abbrev pub spot_held : Option Berth → Spot
spot_held None = nowhere
spot_held (Some berth) = spot_of berth

-- it has a vacant berth of this yard
abbrev pub HasBerth : TableId → Option Berth → Type 0
HasBerth table None = ⊥
HasBerth table (Some berth) = IsBerth table Vacant (spot_of berth) berth × ((spot_of berth).yard.table_id ≡ table)

module _ {L : Type 0} (root : Script) (table : TableId) where
  -- a branch of this board, wherever it stands
  pub record Runs (hold : Hold L) : Type 0 where
    pub berthed : HasBerth table hold.berth
    pub placed : Placed root (spot_held hold.berth) hold.place
    pub unlinked : hold.link ≡ None
    pub named : AreNamed table hold

  -- .. whose own script is left as at this place, but for Ticks and Signals
  pub record Own (hold : Hold L) (at : Place) : Type 0 where
    pub runs : Runs hold
    pub reaches : Reaches root (spot_held hold.berth) at

module _ {L : Type 0} (root : Script) (stands awaits forked : L → Rights → Place → Type 0) (shows : ℕ → BlockData → Type 0) (table : TableId) where
  -- a branch that has come out of a berth
  pub record Unmoored (o : Spot) (branch : Branch L (Hold L)) : Type 0 where
    pub berthed : HasBerth table branch.hold.berth
    pub spot : spot_held branch.hold.berth ≡ after o
    pub lay : LiesIn root stands awaits forked shows o branch

  -- a branch that came out of a list
  pub record IsTaken (branch : Branch L (Hold L)) : Type 0 where
    pub runs : Runs root table branch.hold
    pub ready : ReadyAs root stands awaits forked shows branch.load (rights branch.hold) (place root (spot_held branch.hold.berth)) branch.hold.woken

-- how a branch may end: at its script's end, or for want of memory, or because it starved
abbrev pub MayEnd : (own : Place → Type 0) → (runs : Type 0) → Outcome → Type 0
MayEnd own runs (Fine steps) = (at : Place) × own at × (left_of at ≡ Some (Ends (Fine steps)))
MayEnd own runs (Raise text steps) = (at : Place) × own at × (left_of at ≡ Some (Ends (Raise text steps)))
MayEnd own runs Limit = (at : Place) × own at × (left_of at ≡ Some (Ends Limit))
MayEnd own runs Starved = runs
MayEnd own runs NoMemory = runs
