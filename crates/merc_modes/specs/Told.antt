-- What is told of a fault that may be.
use Rattle.std.specs.Prelude.{◌≡◌, Option, Some, None, Result, Ok, Err}
use Rattle.merc_base.specs.declared.refusal.Fault.{Fault}
use Rattle.merc_base.specs.declared.refusal.Fault.TheVariants.{Refused, NoMemory}
use Rattle.merc_base.specs.declared.refusal.Refusal.{Refusal}
use Rattle.merc_order.specs.Ordered.{Outcome, Ready, Stuck}

-- There is a result where there is no fault, and a refusal is the fault. Where memory was refused nothing is said of it.
abbrev pub IsTold : {T : Type 0} → Option Refusal → Result T Fault → Type 0
IsTold fault (Ok value) = fault ≡ None
IsTold fault (Err (Refused refusal)) = fault ≡ Some refusal
IsTold fault (Err NoMemory) = Unit {0}

-- what is wrong with a goal that has no order
abbrev pub fault_in : Outcome → Option Refusal
fault_in (Ready ordered) = None
fault_in (Stuck fault) = Some fault
