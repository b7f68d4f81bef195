-- What the definitions of what goes from one frame to another say.
use Rattle.std.proofs.Common.{◌≡◌, List, [], ◌∷◌, refl}
use Rattle.merc_frames.specs.declared.slot.Slot.{Slot}
use Rattle.merc_frames.specs.declared.slot.Slot.TheVariants.{Empty, Cell, Mark}
use Rattle.merc_frames.specs.declared.passing.Pass.{Pass}
use Rattle.merc_frames.specs.Handing.{carried, delivered, empty_frame, passed}

abbrev frame : List Slot
frame = Cell 1 ∷ Cell 2 ∷ Mark 3 ∷ []

-- the argument in slot 1 goes to slot 0 of a new frame, and that in slot 0 to slot 2
abbrev inputs : List Pass
inputs = record { from = 1; to = 0 } ∷ record { from = 0; to = 2 } ∷ []

pub passed-example : passed inputs frame (empty_frame 3) ≡ Cell 2 ∷ Empty ∷ Cell 1 ∷ []
passed-example = refl

-- what is not there is nothing, and there is no place for what goes past the frame
pub passed-past : passed (record { from = 5; to = 0 } ∷ record { from = 0; to = 5 } ∷ []) frame (empty_frame 1) ≡ Empty ∷ []
passed-past = refl

pub passed-counterexample : passed inputs frame (empty_frame 3) ≡ Cell 1 ∷ Empty ∷ Cell 2 ∷ [] → ⊥
passed-counterexample = λ same. absurd cc

-- Within one frame two slots change places: what is passed is what it held.
abbrev exchange : List Pass
exchange = record { from = 1; to = 0 } ∷ record { from = 0; to = 1 } ∷ []

pub passed-within : passed exchange frame frame ≡ Cell 2 ∷ Cell 1 ∷ Mark 3 ∷ []
passed-within = refl

-- read again where it was written
pub passed-within-counterexample : passed exchange frame frame ≡ Cell 2 ∷ Cell 2 ∷ Mark 3 ∷ [] → ⊥
passed-within-counterexample = λ same. absurd cc

pub carried-example : carried (1 ∷ 0 ∷ 9 ∷ []) frame ≡ Cell 2 ∷ Cell 1 ∷ Empty ∷ []
carried-example = refl

pub carried-counterexample : carried (1 ∷ []) frame ≡ Cell 1 ∷ [] → ⊥
carried-counterexample = λ same. absurd cc

pub delivered-example : delivered (2 ∷ 0 ∷ []) (Cell 7 ∷ Cell 8 ∷ []) frame ≡ Cell 8 ∷ Cell 2 ∷ Cell 7 ∷ []
delivered-example = refl

-- one variable more than slots
pub delivered-short : delivered (2 ∷ 0 ∷ []) (Cell 7 ∷ []) frame ≡ Cell 1 ∷ Cell 2 ∷ Cell 7 ∷ []
delivered-short = refl

-- one slot further
pub delivered-counterexample : delivered (0 ∷ []) (Cell 7 ∷ []) frame ≡ Cell 1 ∷ Cell 7 ∷ Mark 3 ∷ [] → ⊥
delivered-counterexample = λ same. absurd cc

-- of two that go to one slot the last stays
pub passed-twice : passed (record { from = 1; to = 0 } ∷ record { from = 0; to = 0 } ∷ []) frame (empty_frame 1) ≡ Cell 1 ∷ []
passed-twice = refl

pub delivered-twice : delivered (0 ∷ 0 ∷ []) (Cell 7 ∷ Cell 8 ∷ []) frame ≡ Cell 8 ∷ Cell 2 ∷ Mark 3 ∷ []
delivered-twice = refl

-- one slot more than variables
pub delivered-long : delivered (0 ∷ []) (Cell 7 ∷ Cell 8 ∷ []) frame ≡ Cell 7 ∷ Cell 2 ∷ Mark 3 ∷ []
delivered-long = refl
