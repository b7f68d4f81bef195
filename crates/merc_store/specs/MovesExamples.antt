-- What the definitions of calls and returns say.
use Rattle.std.proofs.Common.{◌≡◌, true, false, List, [], ◌∷◌, length, refl, ap, ◌∙◌, arith}
use Rattle.std.proofs.lemmas.List.{length-set}
use Rattle.merc_frames.specs.declared.slot.Slot.{Slot}
use Rattle.merc_frames.specs.declared.passing.Pass.{Pass}
use Rattle.merc_frames.specs.declared.slot.Slot.TheVariants.{Empty, Cell, Mark}
use Rattle.merc_frames.specs.Handing.{passed}
use Rattle.merc_frames.specs.Stacks.{Dead, GoesOn}
use Rattle.merc_value.specs.Block.{CellData}
use Rattle.merc_store.specs.declared.store.Backed.TheVariants.{End as BackedEnd, Dead as BackedDead, On as BackedOn}
use Rattle.merc_store.specs.Data.{StoreData}
use Rattle.merc_store.specs.Moves.{Calls, CallsLast, GoesBack}

abbrev frame : List Slot
frame = Cell 1 ∷ Cell 2 ∷ Mark 3 ∷ []

abbrev cell : CellData
cell = record { symbol = 5; arguments = [] }

-- two cells, and a choice point over the first alone
abbrev before : StoreData
before = record { cells = cell ∷ cell ∷ []; stacks = record { current = frame; callers = []; choices = GoesOn 4 1 (Cell 0 ∷ []) [] ∷ Dead ∷ [] } }

-- what is in slot 0 goes to slot 1 of the new frame, and slot 0 holds what was left there
abbrev inputs : List Pass
inputs = record { from = 0; to = 1 } ∷ []

abbrev called : StoreData
called = record before { stacks = record before.stacks { current = Mark 7 ∷ Cell 1 ∷ []; callers = record { place = 9; slots = frame } ∷ [] } }

pub Calls-example : Calls before called 9 2 false inputs
Calls-example = record { left = Mark 7 ∷ Empty ∷ []; room = refl; empty = λ is. absurd cc; current = refl; callers = refl; choices = refl; cells = refl }

-- what was left there is emptied
pub Calls-emptied : Calls before (record called { stacks = record called.stacks { current = Empty ∷ Cell 1 ∷ [] } }) 9 2 true inputs
Calls-emptied = record { left = Empty ∷ Empty ∷ []; room = refl; empty = λ is. refl; current = refl; callers = refl; choices = refl; cells = refl }

-- not where it is to be emptied
pub Calls-counterexample : Calls before called 9 2 true inputs → ⊥
Calls-counterexample = λ calls. absurd (let current : called.stacks.current ≡ Empty ∷ Cell 1 ∷ [] = calls.current ∙ ap (λ left. passed inputs frame left) (calls.empty refl) in cc)

abbrev called_last : StoreData
called_last = record called { stacks = record called.stacks { callers = [] } }

pub CallsLast-example : CallsLast before called_last 2 false inputs
CallsLast-example = record { left = Mark 7 ∷ Empty ∷ []; room = refl; empty = λ is. absurd cc; current = refl; callers = refl; choices = refl; cells = refl }

-- the frame has another number of slots
pub CallsLast-counterexample : CallsLast before called_last 1 false inputs → ⊥
CallsLast-counterexample = λ calls. absurd (let long : 2 ≡ length calls.left = ap length calls.current ∙ length-set calls.left 1 (Cell 1) in let room = calls.room in omega (arith, long, room))

abbrev after : StoreData
after = record { cells = cell ∷ []; stacks = record { current = Cell 0 ∷ []; callers = []; choices = Dead ∷ [] } }

pub GoesBack-example : GoesBack before after (BackedOn 4)
GoesBack-example = (1, refl, refl)

-- the choice point that only fails is next
pub GoesBack-dead : GoesBack after (record after { stacks = record after.stacks { choices = [] } }) BackedDead
GoesBack-dead = (refl, refl)

-- not while there is a choice point
pub GoesBack-counterexample : GoesBack before before BackedEnd → ⊥
GoesBack-counterexample = λ back. absurd (let none = back.0 in cc)
