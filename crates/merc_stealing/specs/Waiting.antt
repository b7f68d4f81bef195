-- What a wait answers, and why.
use Rattle.std.specs.Prelude.{◌≡◌, ℕ, true}
use Rattle.merc_value.specs.Block.{BlockData}
use Rattle.merc_script.specs.Script.{Script}
use Rattle.merc_script.specs.Places.{Place}
use Rattle.atomic_table.specs.Seated.{TableId}
use Rattle.merc_cell.specs.declared.glance.Glance.{Glance}
use Rattle.merc_cell.specs.declared.glance.Stage.{Stage}
use Rattle.merc_cell.specs.declared.glance.Stage.TheVariants.{Apart, TookWaiter, TookBoth}
use Rattle.merc_cell.specs.declared.glance.End.{End}
use Rattle.merc_cell.specs.declared.glance.End.TheVariants.{Open, Full, Poisoned}
use Rattle.merc_board.specs.declared.branch.Waited.{Waited}
use Rattle.merc_board.specs.declared.branch.Waited.TheVariants.{Ready, Starved, Parked}
use Rattle.merc_board.specs.Rights.{Rights}
use Rattle.merc_held_branches.specs.declared.branch.Hold.{Hold}
use Rattle.merc_held_branches.specs.Spots.{place}
use Rattle.merc_held_branches.specs.Lying.{IsGiven, rights}
use Rattle.merc_held_branches.specs.Owning.{Runs, spot_held}

module _ {L : Type 0} (root : Script) (stands awaits forked : L → Rights → Place → Type 0) (shows : ℕ → BlockData → Type 0) (table : TableId) where
  -- the branch goes on with its cell's value, or starved, or is parked
  abbrev pub IsWaitedAs : Waited L (Hold L) → Type 0
  IsWaitedAs (Ready branch value) = Runs root table branch.value.hold × IsGiven root stands awaits forked shows branch.value.load (rights branch.value.hold) (place root (spot_held branch.value.hold.berth)) value
  IsWaitedAs (Starved branch) = Runs root table branch.value.hold
  IsWaitedAs Parked = Unit {0}

-- a consumer's seat that has come so far, and has found this end
abbrev pub HasFound : {V W : Type 0} → Stage → End → Glance V W → Type 0
HasFound stage end view = (view.consumer ≡ true) × (view.stage ≡ stage) × (view.end ≡ end)

-- the one step of the seat that waited found the cell full where there is a value, poisoned where the branch starved, and neither where it is parked
abbrev pub HasCause : {V W L : Type 0} → Glance V W → Waited L (Hold L) → Type 0
HasCause view (Ready branch value) = HasFound TookBoth Full view
HasCause view (Starved branch) = HasFound TookWaiter Poisoned view
HasCause view Parked = HasFound Apart Open view
