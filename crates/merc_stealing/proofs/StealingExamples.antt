-- What the definitions of a stealing board say.
use Rattle.std.proofs.Common.{◌≡◌, ℕ, true, false, [], refl}
use Rattle.std.specs.Prelude.{Some, None}
use Rattle.merc_script.specs.declared.outcome.Outcome.TheVariants.{Ok as Fine, Raise, Limit, NoMemory}
use Rattle.merc_script.specs.Script.{Script, Ends, TickThen, WaitThen, SignalThen, ForkThen, Child, NoChild}
use Rattle.merc_cell.specs.Cell.{glance}
use Rattle.merc_cell.specs.declared.glance.Slot.TheVariants.{Empty}
use Rattle.merc_cell.specs.declared.glance.Stage.TheVariants.{Idle, Apart}
use Rattle.merc_cell.specs.declared.glance.End.TheVariants.{Open}
use Rattle.merc_board.specs.declared.branch.Waited.TheVariants.{Parked}
use Rattle.merc_stealing.specs.Waiting.{HasCause}
use Rattle.merc_stealing.specs.Parents.{Near, OthersAreToCome, AllHaveCome}
use Rattle.merc_stealing.specs.Memory.{has_memory}
use Rattle.merc_stealing.specs.Hands.{is_none}

-- a root that makes a Tick, signals cell 6, makes a Tick and forks two children, and then waits for cell 7
abbrev root : Script
root = TickThen (SignalThen 6 (TickThen (ForkThen 10 [] [] (Child (Ends (Fine 1)) (Child (Ends (Raise 3 2)) NoChild)) (WaitThen 7 (Ends (Fine 5))))))

-- beside the true outcome want of memory may come, and no other outcome
pub near-each : Near (Fine 3) (Fine 3) × Near (Fine 3) NoMemory
near-each = (refl, tt)

pub near-other : Near (Fine 3) Limit → ⊥
near-other near = absurd (let same : Fine 3 ≡ Limit = near in cc (same))

-- no script of the root ends for want of memory
pub memory-kept : (has_memory root ≡ true) × (has_memory (Ends NoMemory) ≡ false)
memory-kept = (refl, refl)

-- the root has no place in a join, and a child has one
pub root-placed : (is_none {A = ℕ} None ≡ true) × (is_none {A = ℕ} (Some 3) ≡ false)
root-placed = (refl, refl)

-- a step that found no end parks a branch, and a seat that has made no step does not
pub parked-stepped : HasCause {V = ℕ} {W = ℕ} {L = ℕ} (glance [] true Apart Open Empty) Parked
parked-stepped = (refl, refl, refl)

pub parked-idle : HasCause {V = ℕ} {W = ℕ} {L = ℕ} (glance [] true Idle Open Empty) Parked → ⊥
parked-idle cause = absurd (let same : Idle ≡ Apart = cause.1 in cc (same))

-- the root ends without a ticket, and no parent comes of it
pub root-ends : OthersAreToCome {P = ℕ} None None × (AllHaveCome {P = ℕ} None None → ⊥)
root-ends = (tt, λ all. all)
