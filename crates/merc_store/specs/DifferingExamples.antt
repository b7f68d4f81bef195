-- Worked examples of integers that differ.
use Rattle.std.proofs.Common.{◌≡◌, List, [], ◌∷◌, pos, Some, None, true, false, refl}
use Rattle.merc_frames.specs.declared.slot.Slot.{Slot}
use Rattle.merc_frames.specs.declared.slot.Slot.TheVariants.{Empty, Int, Text}
use Rattle.merc_store.specs.Differing.{are_different, integers_differ}

-- the first variable has the value 7, the second 2, the third 9, the fourth a text and the fifth none
abbrev slots : List Slot
slots = Int (pos 7) ∷ Int (pos 2) ∷ Int (pos 9) ∷ Text 7 ∷ Empty ∷ []

are_different-example : are_different (Some (pos 7)) (Some (pos 2)) ≡ true
are_different-example = refl

-- one that is not there differs from none
are_different-not : (are_different (Some (pos 7)) (Some (pos 7)) ≡ false) × (are_different None (Some (pos 7)) ≡ false) × (are_different (Some (pos 7)) None ≡ false)
are_different-not = (refl, refl, refl)

integers_differ-example : integers_differ slots 0 1 ≡ true
integers_differ-example = refl

-- a variable's integer does not differ from itself
integers_differ-same : integers_differ slots 0 0 ≡ true → ⊥
integers_differ-same told = cc

-- a text, and a variable without a value
integers_differ-none : (integers_differ slots 1 3 ≡ false) × (integers_differ slots 4 0 ≡ false)
integers_differ-none = (refl, refl)
