-- What the definitions of frames, callers and choice points say.
use Rattle.std.proofs.Common.{◌≡◌, ℕ, true, false, List, [], ◌∷◌, length, Some, None, refl, sym, ap, ◌∙◌, arith}
use Rattle.std.proofs.lemmas.List.{length-set}
use Rattle.merc_frames.specs.Handing.{delivered, passed}
use Rattle.merc_frames.specs.declared.passing.Pass.{Pass}
use Rattle.merc_frames.specs.declared.slot.Slot.{Slot}
use Rattle.merc_frames.specs.declared.slot.Slot.TheVariants.{Empty, Cell}
use Rattle.merc_frames.specs.declared.frames.Backed.TheVariants.{End as BackedEnd, Dead as BackedDead, On as BackedOn}
use Rattle.merc_frames.specs.Stacks.{Caller, Dead, GoesOn, Stacks, caller_place, oldest, softened, Opens, Enters, Renews, GivesSlots, GivesBack, GoesBack}

abbrev one : List Slot
one = Cell 1 ∷ []

abbrev two : List Slot
two = Cell 1 ∷ Cell 2 ∷ []

abbrev two_twice : List Slot
two_twice = Cell 2 ∷ Cell 2 ∷ []

abbrev callers : List Caller
callers = record { place = 9; slots = two } ∷ []

-- a frame with two slots, no callers, and two choice points
abbrev outer : Stacks
outer = record { current = two; callers = []; choices = GoesOn 4 8 one [] ∷ GoesOn 3 7 [] [] ∷ [] }

-- the same, with another frame that it has called
abbrev inner : Stacks
inner = record { current = Empty ∷ []; callers = callers; choices = GoesOn 4 8 one [] ∷ GoesOn 3 7 [] [] ∷ [] }

abbrev newest_place : List Caller → ℕ
newest_place [] = 0
newest_place (caller ∷ others) = caller.place

abbrev newest_slots : List Caller → List Slot
newest_slots [] = []
newest_slots (caller ∷ others) = caller.slots

pub caller_place-example : (caller_place callers ≡ Some 9) × (caller_place [] ≡ None)
caller_place-example = (refl, refl)

pub caller_place-counterexample : caller_place callers ≡ Some 0 → ⊥
caller_place-counterexample = λ same. absurd cc

-- the newest goes first
pub oldest-example : oldest 1 outer.choices ≡ GoesOn 3 7 [] [] ∷ []
oldest-example = refl

-- more than there are: all stay
pub oldest-all : oldest 3 outer.choices ≡ outer.choices
oldest-all = refl

pub oldest-counterexample : oldest 1 outer.choices ≡ GoesOn 4 8 one [] ∷ [] → ⊥
oldest-counterexample = λ same. absurd cc

pub softened-example : softened 0 outer.choices ≡ GoesOn 4 8 one [] ∷ Dead ∷ []
softened-example = refl

pub softened-none : softened 2 outer.choices ≡ outer.choices
softened-none = refl

pub softened-counterexample : softened 1 outer.choices ≡ GoesOn 4 8 one [] ∷ Dead ∷ [] → ⊥
softened-counterexample = λ same. absurd cc

pub Opens-example : Opens (record { current = Empty ∷ Empty ∷ []; callers = []; choices = [] }) 2
Opens-example = record { current = refl; callers = refl; choices = refl }

pub Opens-counterexample : Opens inner 1 → ⊥
Opens-counterexample = λ opens. absurd (let none = opens.callers in cc)

-- the slot is not empty
pub Opens-filled : Opens (record { current = one; callers = []; choices = [] }) 1 → ⊥
Opens-filled = λ opens. absurd (let current = opens.current in cc)

-- what is in slot 1 goes to slot 0 of the new frame, and slot 1 holds what was left there
abbrev inputs : List Pass
inputs = record { from = 1; to = 0 } ∷ []

abbrev called : Stacks
called = record { current = Cell 2 ∷ Empty ∷ []; callers = callers; choices = outer.choices }

abbrev called_over : Stacks
called_over = record { current = Cell 2 ∷ Cell 8 ∷ []; callers = callers; choices = outer.choices }

pub Enters-example : Enters outer called 9 2 true inputs
Enters-example = record { left = Empty ∷ Empty ∷ []; room = refl; empty = λ _. refl; current = refl; callers = refl; choices = refl }

pub Enters-over : Enters outer called_over 9 2 false inputs
Enters-over = record { left = Cell 7 ∷ Cell 8 ∷ []; room = refl; empty = λ emptied. absurd cc; current = refl; callers = refl; choices = refl }

-- another place
pub Enters-counterexample : Enters outer called 5 2 true inputs → ⊥
Enters-counterexample = λ enters. absurd (let same : 9 ≡ 5 = ap newest_place enters.callers in omega (arith, same))

-- the frame is emptied, and slot 1 is not
pub Enters-filled : Enters outer called_over 9 2 true inputs → ⊥
Enters-filled = λ enters. absurd (let current : called_over.current ≡ Cell 2 ∷ Empty ∷ [] = enters.current ∙ ap (λ left. passed inputs two left) (enters.empty refl) in cc)

-- the frame has another size
pub Enters-short : Enters outer called 9 3 false inputs → ⊥
Enters-short = λ enters. absurd (let long : 2 ≡ length enters.left = ap length enters.current ∙ length-set enters.left 0 (Cell 2) in let room = enters.room in omega (arith, long, room))

-- the new frame is larger
pub Renews-example : Renews outer (record { current = Cell 2 ∷ Empty ∷ Empty ∷ []; callers = []; choices = outer.choices }) 3 true inputs
Renews-example = record { left = Empty ∷ Empty ∷ Empty ∷ []; room = refl; empty = λ _. refl; current = refl; callers = refl; choices = refl }

-- a slot of the old frame stays
pub Renews-over : Renews outer (record { current = Cell 2 ∷ Cell 2 ∷ []; callers = []; choices = outer.choices }) 2 false inputs
Renews-over = record { left = two; room = refl; empty = λ emptied. absurd cc; current = refl; callers = refl; choices = refl }

-- so it does where the frame is emptied
pub Renews-counterexample : Renews outer (record { current = Cell 2 ∷ Cell 2 ∷ []; callers = []; choices = outer.choices }) 2 true inputs → ⊥
Renews-counterexample = λ renews. absurd (let current : two_twice ≡ Cell 2 ∷ Empty ∷ [] = renews.current ∙ ap (λ left. passed inputs two left) (renews.empty refl) in cc)

-- a slot goes to slot 1 of the caller's frame
pub GivesSlots-example : GivesSlots called (record outer { current = Cell 1 ∷ Cell 7 ∷ [] }) (Cell 7 ∷ []) (1 ∷ []) (Some 9)
GivesSlots-example = (two, refl, refl, refl)

-- one slot further
pub GivesSlots-further : GivesSlots called (record outer { current = Cell 1 ∷ Cell 7 ∷ [] }) (Cell 7 ∷ []) (0 ∷ []) (Some 9) → ⊥
GivesSlots-further = λ gives. absurd (let same : two ≡ gives.0 = ap newest_slots gives.1 in
    let current : Cell 1 ∷ Cell 7 ∷ [] ≡ Cell 7 ∷ Cell 2 ∷ [] = gives.2 ∙ ap (λ slots. delivered (0 ∷ []) (Cell 7 ∷ []) slots) (sym same) in cc)

-- what the called frame has in slot 0 goes to slot 1 of the caller's
pub GivesBack-example : GivesBack called (record outer { current = Cell 1 ∷ Cell 2 ∷ [] }) (0 ∷ []) (1 ∷ []) (Some 9)
GivesBack-example = (two, refl, refl, refl)

pub GivesBack-empty : GivesBack called (record outer { current = Empty ∷ Cell 2 ∷ [] }) (1 ∷ []) (0 ∷ []) (Some 9)
GivesBack-empty = (two, refl, refl, refl)

-- without a caller there is nothing to go back to
pub GivesBack-none : GivesBack outer outer (0 ∷ []) (1 ∷ []) None
GivesBack-none = (refl, refl)

-- the called frame is not the caller's
pub GivesBack-counterexample : GivesBack called (record { current = one; callers = []; choices = outer.choices }) [] [] (Some 9) → ⊥
GivesBack-counterexample = λ gives. absurd (let same : two ≡ gives.0 = ap newest_slots gives.1 in let current : one ≡ two = gives.2 ∙ sym same in cc)

-- one slot further
pub GivesBack-further : GivesBack called (record outer { current = Cell 1 ∷ Cell 2 ∷ [] }) (0 ∷ []) (0 ∷ []) (Some 9) → ⊥
GivesBack-further = λ gives. absurd (let same : two ≡ gives.0 = ap newest_slots gives.1 in
    let current : two ≡ Cell 2 ∷ Cell 2 ∷ [] = gives.2 ∙ ap (λ slots. delivered (0 ∷ []) (Cell 2 ∷ []) slots) (sym same) in cc)

pub GoesBack-example : GoesBack inner (record { current = one; callers = []; choices = GoesOn 3 7 [] [] ∷ [] }) (BackedOn 4 8)
GoesBack-example = refl

pub GoesBack-end : GoesBack (record { current = one; callers = []; choices = [] }) (record { current = one; callers = []; choices = [] }) BackedEnd
GoesBack-end = (refl, refl)

pub GoesBack-dead : GoesBack (record { current = one; callers = callers; choices = Dead ∷ [] }) (record { current = one; callers = callers; choices = [] }) BackedDead
GoesBack-dead = refl

-- the callers are those of the choice point, and not those of now
pub GoesBack-counterexample : GoesBack inner (record { current = one; callers = callers; choices = GoesOn 3 7 [] [] ∷ [] }) (BackedOn 4 8) → ⊥
GoesBack-counterexample = λ back. absurd cc

-- Frames with more around them: a caller that has a caller, and older choice points.

-- the inner frame has called another
abbrev deeper : Stacks
deeper = record { current = Empty ∷ Empty ∷ []; callers = record { place = 5; slots = Empty ∷ [] } ∷ callers; choices = inner.choices }

pub caller_place-newest : caller_place deeper.callers ≡ Some 5
caller_place-newest = refl

pub oldest-none : oldest 0 outer.choices ≡ []
oldest-none = refl

-- one that only fails leaves the older ones as they are
pub softened-older : softened 1 outer.choices ≡ Dead ∷ GoesOn 3 7 [] [] ∷ []
softened-older = refl

pub Opens-choices : Opens (record { current = Empty ∷ []; callers = []; choices = outer.choices }) 1 → ⊥
Opens-choices = λ opens. absurd (let count : 2 ≡ 0 = ap length opens.choices in omega (arith, count))

-- the caller keeps its own caller
pub Enters-deeper : Enters inner deeper 5 2 true []
Enters-deeper = record { left = Empty ∷ Empty ∷ []; room = refl; empty = λ _. refl; current = refl; callers = refl; choices = refl }

pub Enters-alone : Enters inner (record { current = Empty ∷ Empty ∷ []; callers = record { place = 5; slots = Empty ∷ [] } ∷ []; choices = inner.choices }) 5 2 true [] → ⊥
Enters-alone = λ enters. absurd (let count : 1 ≡ 2 = ap length enters.callers in omega (arith, count))

-- a call leaves the choice points
pub Enters-choices : Enters inner (record { current = Empty ∷ Empty ∷ []; callers = deeper.callers; choices = [] }) 5 2 true [] → ⊥
Enters-choices = λ enters. absurd (let count : 0 ≡ 2 = ap length enters.choices in omega (arith, count))

pub Renews-deeper : Renews inner (record { current = Empty ∷ Empty ∷ []; callers = callers; choices = inner.choices }) 2 true []
Renews-deeper = record { left = Empty ∷ Empty ∷ []; room = refl; empty = λ _. refl; current = refl; callers = refl; choices = refl }

-- the callers are forgotten
pub Renews-alone : Renews inner (record { current = Empty ∷ Empty ∷ []; callers = []; choices = inner.choices }) 2 true [] → ⊥
Renews-alone = λ renews. absurd (let count : 0 ≡ 1 = ap length renews.callers in omega (arith, count))

pub Renews-choices : Renews inner (record { current = Empty ∷ Empty ∷ []; callers = callers; choices = [] }) 2 true [] → ⊥
Renews-choices = λ renews. absurd (let count : 0 ≡ 2 = ap length renews.choices in omega (arith, count))

-- the new frame is too short
pub Renews-short : Renews outer (record { current = Cell 2 ∷ []; callers = []; choices = outer.choices }) 2 false inputs → ⊥
Renews-short = λ renews. absurd (let long : 1 ≡ length renews.left = ap length renews.current ∙ length-set renews.left 0 (Cell 2) in let room = renews.room in omega (arith, long, room))

-- back from a frame whose caller has a caller
pub GivesSlots-deeper : GivesSlots deeper (record { current = Cell 7 ∷ []; callers = callers; choices = inner.choices }) (Cell 7 ∷ []) (0 ∷ []) (Some 5)
GivesSlots-deeper = (Empty ∷ [], refl, refl, refl)

pub GivesSlots-alone : GivesSlots deeper (record { current = Cell 7 ∷ []; callers = []; choices = inner.choices }) (Cell 7 ∷ []) (0 ∷ []) (Some 5) → ⊥
GivesSlots-alone = λ gives. absurd (let count : 2 ≡ 1 = ap length gives.1 in omega (arith, count))

-- a return leaves the choice points
pub GivesSlots-choices : GivesSlots deeper (record { current = Cell 7 ∷ []; callers = callers; choices = [] }) (Cell 7 ∷ []) (0 ∷ []) (Some 5) → ⊥
GivesSlots-choices = λ gives. absurd (let count : 0 ≡ 2 = ap length gives.3 in omega (arith, count))

-- there is a caller
pub GivesBack-caller : GivesBack called called [] [] None → ⊥
GivesBack-caller = λ gives. absurd (let count : 1 ≡ 0 = ap length gives.0 in omega (arith, count))

-- without a choice point nothing changes
pub GoesBack-changed : GoesBack (record { current = one; callers = callers; choices = [] }) (record { current = one; callers = []; choices = [] }) BackedEnd → ⊥
GoesBack-changed = λ back. absurd (let count : 0 ≡ 1 = ap (λ (s : Stacks). length s.callers) back.1 in omega (arith, count))

-- there is one
pub GoesBack-early : GoesBack inner inner BackedEnd → ⊥
GoesBack-early = λ back. absurd (let count : 2 ≡ 0 = ap length back.0 in omega (arith, count))

-- the older choice points stay
pub GoesBack-older : GoesBack (record { current = one; callers = callers; choices = Dead ∷ outer.choices }) (record { current = one; callers = callers; choices = outer.choices }) BackedDead
GoesBack-older = refl
