-- What the calls answer, with what their seat knows afterwards.
use Rattle.std.specs.Prelude.{◌≡◌, ℕ, true, false, List, Option, Some, None}
use Rattle.merc_cell.specs.declared.glance.Slot.TheVariants.{Empty, Waiter, Value}
use Rattle.merc_cell.specs.declared.glance.Stage.TheVariants.{Apart, TookWaiter, TookBoth}
use Rattle.merc_cell.specs.declared.glance.End.TheVariants.{Open, Full, Poisoned}
use Rattle.merc_cell.specs.declared.glance.Glance.{Glance}
use Rattle.merc_cell.specs.declared.answer.CellWait.{CellWait}
use Rattle.merc_cell.specs.declared.answer.CellWait.TheVariants.{Ready, Starved, Parked}
use Rattle.merc_cell.specs.Cell.{glance}

module _ {V W : Type 0} where
  -- Ready where the step found the cell full, Starved where it found it poisoned, Parked where it found neither
  abbrev pub IsWaited : (List ℕ → V → Type 0) → List ℕ → W → Glance V W → CellWait V W → Type 0
  IsWaited fits name waiter view (Ready back value) = (back ≡ waiter) × fits name value × (view ≡ glance name true TookBoth Full (Waiter waiter))
  IsWaited fits name waiter view (Starved back) = (back ≡ waiter) × (view ≡ glance name true TookWaiter Poisoned (Waiter waiter))
  IsWaited fits name waiter view Parked = view ≡ glance name true Apart Open (Waiter waiter)

  -- the waiter and the value where the step found the consumer's bit, and nothing where it did not
  abbrev pub IsSignalled : (List ℕ → W → Type 0) → List ℕ → V → Glance V W → Option (W × V) → Type 0
  IsSignalled fits name value view None = view ≡ glance name false Apart Full (Value value)
  IsSignalled fits name value view (Some given) = fits name given.0 × (given.1 ≡ value) × (view ≡ glance name false TookBoth Full (Value value))

  -- the waiter where the step found the consumer's bit, and nothing where it did not
  abbrev pub IsPoisoned : (List ℕ → W → Type 0) → List ℕ → Glance V W → Option W → Type 0
  IsPoisoned fits name view None = view ≡ glance name false Apart Poisoned Empty
  IsPoisoned fits name view (Some waiter) = fits name waiter × (view ≡ glance name false TookWaiter Poisoned Empty)
