-- Worked examples of slots that a frame has.
use Rattle.std.specs.Prelude.{ℕ, ◌<◌, [], ◌∷◌}
use Rattle.std.proofs.Common.{arith}
use Rattle.std.proofs.lemmas.List.Elements.{All-from_recursion}
use Rattle.merc_frames.specs.declared.passing.Pass.{Pass}
use Rattle.merc_frames.specs.declared.slot.Slot.TheVariants.{Empty}
use Rattle.merc_frames.specs.Rooms.{AreCallerSlots, AreReceived, AreSlots, AreTaken}

slots-example : AreSlots 2 (1 ∷ 0 ∷ [])
slots-example = All-from_recursion (λ (slot : ℕ). slot < 2) (1 ∷ 0 ∷ []) (omega arith, (omega arith, tt))

slots-not : AreSlots 2 (1 ∷ 2 ∷ []) → ⊥
slots-not are = let h : 2 < 2 = are 1 2 (omega arith) in absurd (omega (arith, h))

taken-not : AreTaken 2 (record { from = 2; to = 0 } ∷ []) → ⊥
taken-not are = let h : 2 < 2 = are 0 (record { from = 2; to = 0 }) (omega arith) in absurd (omega (arith, h))

received-example : AreReceived 1 (record { from = 2; to = 0 } ∷ [])
received-example = All-from_recursion (λ (pass : Pass). pass.to < 1) (record { from = 2; to = 0 } ∷ []) (omega arith, tt)

-- the caller's frame has one slot
caller-example : AreCallerSlots (record { place = 7; slots = Empty ∷ [] } ∷ []) (0 ∷ [])
caller-example = All-from_recursion (λ (slot : ℕ). slot < 1) (0 ∷ []) (omega arith, tt)

caller-not : AreCallerSlots (record { place = 7; slots = Empty ∷ [] } ∷ []) (1 ∷ []) → ⊥
caller-not are = let h : 1 < 1 = are 0 1 (omega arith) in absurd (omega (arith, h))

-- whatever slot it goes to
taken-example : AreTaken 2 (record { from = 1; to = 5 } ∷ [])
taken-example = All-from_recursion (λ (pass : Pass). pass.from < 2) (record { from = 1; to = 5 } ∷ []) (omega arith, tt)

received-not : AreReceived 2 (record { from = 0; to = 2 } ∷ []) → ⊥
received-not are = let h : 2 < 2 = are 0 (record { from = 0; to = 0 }) (omega arith) in absurd (omega (arith, h))

-- without a caller nothing is asked
caller-none : AreCallerSlots [] (3 ∷ [])
caller-none = tt

-- the newest caller's frame counts
caller-newest : AreCallerSlots (record { place = 7; slots = Empty ∷ [] } ∷ record { place = 8; slots = Empty ∷ Empty ∷ [] } ∷ []) (1 ∷ []) → ⊥
caller-newest are = let h : 1 < 1 = are 0 1 (omega arith) in absurd (omega (arith, h))
