-- What the definitions of a cell say.
use Rattle.std.proofs.Common.{◌≡◌, ℕ, ◌+◌, true, false, List, [], Some, None, inr, refl, ap, arith}
use Rattle.merc_cell.specs.declared.answer.CellWait.TheVariants.{Ready, Starved, Parked}
use Rattle.merc_cell.specs.declared.glance.Glance.{Glance}
use Rattle.merc_cell.specs.declared.glance.Slot.{Slot}
use Rattle.merc_cell.specs.declared.glance.Slot.TheVariants.{Empty, Waiter, Value}
use Rattle.merc_cell.specs.declared.glance.Stage.{Stage}
use Rattle.merc_cell.specs.declared.glance.Stage.TheVariants.{Idle, Apart, Met, TookWaiter, TookBoth}
use Rattle.merc_cell.specs.declared.glance.End.{End}
use Rattle.merc_cell.specs.declared.glance.End.TheVariants.{Open, Full, Poisoned}
use Rattle.merc_cell.specs.Answers.{IsWaited, IsSignalled, IsPoisoned}
use Rattle.merc_cell.specs.Cell.{number, glance, end_of, OneIsHanded, wait_bit, full_bit, poison_bit}

-- the word: nobody stepped, the consumer did, it did and the cell is full or poisoned
pub number-each : (number Idle Open ≡ 0) × (number Apart Open ≡ wait_bit) × (number Met Full ≡ wait_bit + full_bit) × (number Met Poisoned ≡ wait_bit + poison_bit)
number-each = (refl, refl, refl, refl)

-- what the consumer's step finds
pub end_of-each : (end_of 0 ≡ Open) × (end_of full_bit ≡ Full) × (end_of poison_bit ≡ Poisoned)
end_of-each = (refl, refl, refl)

-- the consumer came second, and is handed the waiter
pub handed-once : OneIsHanded {V = ℕ} {W = ℕ} (glance [] true TookWaiter Poisoned Empty) (glance [] false Apart Poisoned Empty)
handed-once = record { once = refl; cause = inr refl }

-- both cannot be handed it
pub handed-twice : OneIsHanded {V = ℕ} {W = ℕ} (glance [] true Met Full Empty) (glance [] false Met Full Empty) → ⊥
handed-twice = λ handed. absurd (let twice = handed.once in omega arith)

-- nor can neither, where both have stepped
pub handed-never : OneIsHanded {V = ℕ} {W = ℕ} (glance [] true Apart Open Empty) (glance [] false Apart Full Empty) → ⊥
handed-never = λ handed. absurd (let never = handed.once in omega arith)

-- what a wait answers to waiter 7, whose cell gets value 8; each fits the cell
abbrev fits : List ℕ → ℕ → Type 0
fits name number = Unit {0}

abbrev consumer : Stage → End → Glance ℕ ℕ
consumer stage end = glance [] true stage end (Waiter 7)

pub waited-each : IsWaited fits [] 7 (consumer TookBoth Full) (Ready 7 8) × IsWaited fits [] 7 (consumer TookWaiter Poisoned) (Starved 7) × IsWaited fits [] 7 (consumer Apart Open) Parked
waited-each = ((refl, tt, refl), (refl, refl), refl)

-- another waiter comes out
pub waited-other : IsWaited fits [] 7 (consumer TookWaiter Poisoned) (Starved 6) → ⊥
waited-other waited = absurd (let same : ◌≡◌ {A = ℕ} 6 7 = waited.0 in omega arith)

-- it starves where its step found nothing, and parks where it found a value
pub waited-early : IsWaited fits [] 7 (consumer Apart Open) (Starved 7) → ⊥
waited-early waited = absurd (let apart : Apart ≡ TookWaiter = ap (λ (view : Glance ℕ ℕ). view.stage) waited.1 in cc)

pub waited-late : IsWaited fits [] 7 (consumer Met Full) Parked → ⊥
waited-late waited = absurd (let met : Met ≡ Apart = ap (λ (view : Glance ℕ ℕ). view.stage) waited in cc)

-- what a signal of value 8 and a poison answer
abbrev producer : Stage → End → Slot ℕ ℕ → Glance ℕ ℕ
producer stage end put = glance [] false stage end put

pub signalled-each : IsSignalled fits [] 8 (producer TookBoth Full (Value 8)) (Some (7, 8)) × IsSignalled fits [] 8 (producer Apart Full (Value 8)) None
signalled-each = ((tt, refl, refl), refl)

pub poisoned-each : IsPoisoned fits [] (producer TookWaiter Poisoned Empty) (Some 7) × IsPoisoned fits [] (producer Apart Poisoned Empty) None
poisoned-each = ((tt, refl), refl)

-- the waiter stays where its step found it
pub signalled-nobody : IsSignalled fits [] 8 (producer Met Full (Value 8)) None → ⊥
signalled-nobody signalled = absurd (let met : Met ≡ Apart = ap (λ (view : Glance ℕ ℕ). view.stage) signalled in cc)

pub poisoned-nobody : IsPoisoned fits [] (producer Met Poisoned Empty) None → ⊥
poisoned-nobody poisoned = absurd (let met : Met ≡ Apart = ap (λ (view : Glance ℕ ℕ). view.stage) poisoned in cc)

-- nor is another value given back
pub signalled-other : IsSignalled fits [] 8 (producer TookBoth Full (Value 8)) (Some (7, 9)) → ⊥
signalled-other signalled = absurd (let same : ◌≡◌ {A = ℕ} 9 8 = signalled.1 in omega arith)
