-- What the definitions of what slots hold say, where a slot may hold a cell that is there, or nothing.
use Rattle.std.proofs.Common.{◌≡◌, ℕ, Bool, true, false, nat_lt, List, [], ◌∷◌, refl, arith}
use Rattle.std.specs.List.{All}
use Rattle.std.proofs.lemmas.List.Elements.{All-from_recursion, All-nil}
use Rattle.merc_frames.specs.declared.slot.Slot.{Slot}
use Rattle.merc_frames.specs.declared.slot.Slot.TheVariants.{Empty, Int, Text, Atom, Cell, Mark}
use Rattle.merc_frames.specs.declared.frames.Backed.TheVariants.{End as BackedEnd, Dead as BackedDead, On as BackedOn}
use Rattle.merc_frames.specs.Stacks.{Caller, Dead, GoesOn, Stacks}
use Rattle.merc_frames.specs.Held.{AreChoicesHeld, AreFramesHeld, AreHeld, AreKept, AreStacksHeld, Passes, Top, cells_left}

abbrev is_there : ℕ → Slot → Bool
is_there cells Empty = true
is_there cells (Int number) = true
is_there cells (Text name) = true
is_there cells (Atom symbol) = true
is_there cells (Cell place) = nat_lt place cells
is_there cells (Mark count) = true

pub Passes-example : Passes is_there 3 (Cell 2)
Passes-example = refl

-- the cell is gone
pub Passes-counterexample : Passes is_there 2 (Cell 2) → ⊥
Passes-counterexample = λ passes. absurd (let gone : false ≡ true = passes in cc)

-- a frame that a choice point keeps, whose mark is 1, and the current one; what lies above is in no frame
abbrev slots : List Slot
slots = Cell 0 ∷ Cell 2 ∷ Cell 1 ∷ []

abbrev top : Top
top = record { heap = 1; end = 1 }

first_passes : All (Passes is_there 1) (Cell 0 ∷ [])
first_passes = All-from_recursion (Passes is_there 1) (Cell 0 ∷ []) (refl, tt)

pub AreKept-example : AreKept (Passes is_there) 3 slots (top ∷ [])
AreKept-example = (omega arith, first_passes, tt)

-- slot 1 may not hold that over the mark
pub AreKept-counterexample : AreKept (Passes is_there) 3 slots (record { heap = 1; end = 2 } ∷ []) → ⊥
AreKept-counterexample = λ kept. absurd (let both : All (Passes is_there 1) (Cell 0 ∷ Cell 2 ∷ []) = kept.1 in let second : false ≡ true = both 1 Empty (omega arith) in cc)

-- the newest choice point goes first, and its mark is no smaller
pub AreKept-order : AreKept (Passes is_there) 3 slots (top ∷ record { heap = 2; end = 0 } ∷ []) → ⊥
AreKept-order = λ kept. absurd (let second = kept.2.0 in omega (arith, second))

abbrev stacks : Stacks
stacks = record { current = Cell 2 ∷ []; callers = []; choices = GoesOn 20 1 (Cell 0 ∷ []) [] ∷ [] }

pub AreHeld-example : AreHeld (Passes is_there) 3 (record { stacks = stacks; slots = slots; tops = top ∷ [] })
AreHeld-example = (All-from_recursion (Passes is_there 3) slots (refl, (refl, (refl, tt))), (omega arith, first_passes, tt))

-- a slot that no frame has holds a cell that is gone
pub AreHeld-counterexample : AreHeld (Passes is_there) 3 (record { stacks = stacks; slots = Cell 0 ∷ Cell 2 ∷ Cell 3 ∷ []; tops = top ∷ [] }) → ⊥
AreHeld-counterexample = λ held. absurd (let all : All (Passes is_there 3) (Cell 0 ∷ Cell 2 ∷ Cell 3 ∷ []) = held.0 in let third : false ≡ true = all 2 Empty (omega arith) in cc)

pub AreFramesHeld-example : AreFramesHeld (Passes is_there) 1 (Cell 0 ∷ []) []
AreFramesHeld-example = record { newest = first_passes; others = All-nil (λ (caller : Caller). All (Passes is_there 1) caller.slots) }

-- the caller's slot holds a cell that is gone
pub AreFramesHeld-counterexample : AreFramesHeld (Passes is_there) 1 (Cell 0 ∷ []) (record { place = 7; slots = Cell 1 ∷ [] } ∷ []) → ⊥
AreFramesHeld-counterexample = λ held. absurd (let slots : All (Passes is_there 1) (Cell 1 ∷ []) = held.others 0 (record { place = 7; slots = [] }) (omega arith) in let slot : false ≡ true = slots 0 Empty (omega arith) in cc)

pub AreChoicesHeld-example : AreChoicesHeld (Passes is_there) 3 (Dead ∷ stacks.choices)
AreChoicesHeld-example = (omega arith, AreFramesHeld-example, tt)

-- its mark is above the end of the cells
pub AreChoicesHeld-counterexample : AreChoicesHeld (Passes is_there) 0 stacks.choices → ⊥
AreChoicesHeld-counterexample = λ held. absurd (let mark = held.0 in omega (arith, mark))

-- an older choice point's frame holds a cell that its mark does not reach
pub AreChoicesHeld-older : AreChoicesHeld (Passes is_there) 3 (GoesOn 30 2 [] [] ∷ GoesOn 20 1 (Cell 1 ∷ []) [] ∷ []) → ⊥
AreChoicesHeld-older = λ held. absurd (let slots : All (Passes is_there 1) (Cell 1 ∷ []) = held.2.1.newest in let slot : false ≡ true = slots 0 Empty (omega arith) in cc)

-- or its mark is greater than that of the newer one
pub AreChoicesHeld-order : AreChoicesHeld (Passes is_there) 3 (GoesOn 30 1 [] [] ∷ GoesOn 20 2 [] [] ∷ []) → ⊥
AreChoicesHeld-order = λ held. absurd (let mark = held.2.0 in omega (arith, mark))

pub AreStacksHeld-example : AreStacksHeld (Passes is_there) 3 stacks
AreStacksHeld-example = record {
  frames = record { newest = All-from_recursion (Passes is_there 3) (Cell 2 ∷ []) (refl, tt); others = All-nil (λ (caller : Caller). All (Passes is_there 3) caller.slots) };
  choices = (omega arith, AreFramesHeld-example, tt);
}

-- the current frame's cell is gone
pub AreStacksHeld-counterexample : AreStacksHeld (Passes is_there) 2 stacks → ⊥
AreStacksHeld-counterexample = λ held. absurd (let slots : All (Passes is_there 2) (Cell 2 ∷ []) = held.frames.newest in let slot : false ≡ true = slots 0 Empty (omega arith) in cc)

pub cells_left-each : (cells_left 9 BackedEnd ≡ 9) × (cells_left 9 BackedDead ≡ 9) × (cells_left 9 (BackedOn 20 5) ≡ 5)
cells_left-each = (refl, refl, refl)

pub cells_left-counterexample : cells_left 9 (BackedOn 20 5) ≡ 20 → ⊥
cells_left-counterexample = λ same. absurd cc

-- nor does one that only fails hide an older one
pub AreChoicesHeld-behind : AreChoicesHeld (Passes is_there) 0 (Dead ∷ stacks.choices) → ⊥
AreChoicesHeld-behind = λ held. absurd (let mark = held.0 in omega (arith, mark))

-- a caller's frame holds a cell that the choice point's mark does not reach
pub AreChoicesHeld-callers : AreChoicesHeld (Passes is_there) 3 (GoesOn 20 1 [] (record { place = 7; slots = Cell 1 ∷ [] } ∷ []) ∷ []) → ⊥
AreChoicesHeld-callers = λ held. absurd (let slots : All (Passes is_there 1) (Cell 1 ∷ []) = held.1.others 0 (record { place = 7; slots = [] }) (omega arith) in let slot : false ≡ true = slots 0 Empty (omega arith) in cc)

-- a choice point's mark is above the end of the cells
pub AreHeld-tops : AreHeld (Passes is_there) 3 (record { stacks = stacks; slots = slots; tops = record { heap = 4; end = 0 } ∷ [] }) → ⊥
AreHeld-tops = λ held. absurd (let mark = held.1.0 in omega (arith, mark))

pub AreStacksHeld-choices : AreStacksHeld (Passes is_there) 3 (record { current = []; callers = []; choices = GoesOn 20 4 [] [] ∷ [] }) → ⊥
AreStacksHeld-choices = λ held. absurd (let mark = held.choices.0 in omega (arith, mark))
