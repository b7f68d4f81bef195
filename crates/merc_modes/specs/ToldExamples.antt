-- What is told of faults.
use Rattle.std.specs.Prelude.{◌≡◌, ℕ, [], Some, None, Ok, Err, refl}
use Rattle.merc_base.specs.declared.refusal.Fault.TheVariants.{Refused, NoMemory}
use Rattle.merc_base.specs.declared.refusal.Refusal.{Refusal}
use Rattle.merc_order.specs.Faults.{never_ready}
use Rattle.merc_order.specs.OrderExamples.{at}
use Rattle.merc_order.specs.Ordered.{put, Truth, Ready, Stuck}
use Rattle.merc_modes.specs.Told.{IsTold, fault_in}

abbrev fault : Refusal
fault = never_ready (at 3)

-- a result, where there is no fault
with_none : IsTold {T = ℕ} None (Ok 5)
with_none = refl

hidden : IsTold {T = ℕ} (Some fault) (Ok 5) → ⊥
hidden told = cc

-- the fault that there is, and no other
refused : IsTold {T = ℕ} (Some fault) (Err (Refused fault))
refused = refl

without_fault : IsTold {T = ℕ} None (Err (Refused fault)) → ⊥
without_fault told = cc

-- where memory was refused, whatever the fault is
no_memory : IsTold {T = ℕ} (Some fault) (Err NoMemory)
no_memory = tt

of_ready : fault_in (Ready (put Truth [] (at 3))) ≡ None
of_ready = refl

of_stuck : fault_in (Stuck fault) ≡ Some fault
of_stuck = refl
