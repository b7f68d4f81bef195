-- Worked examples of values that are copied from one frame, and of frames to which they were given.
use Rattle.std.proofs.Common.{◌≡◌, ℕ, ◌<◌, List, [], ◌∷◌, pos, Some, None, refl, ap, arith}
use Rattle.std.specs.List.{All}
use Rattle.std.proofs.lemmas.List.Elements.{All-nil, All-cons}
use Rattle.merc_value.specs.Value.{Value, Int}
use Rattle.merc_value.specs.Block.{IsBelow}
use Rattle.merc_value.specs.declared.word.Word.TheVariants.{Int as IntWord}
use Rattle.merc_frames.specs.declared.slot.Slot.{Slot}
use Rattle.merc_frames.specs.declared.slot.Slot.TheVariants.{Empty, Int as IntSlot, Mark}
use Rattle.merc_heap.specs.Heap.{Keeps}
use Rattle.merc_segments.specs.Segments.{AreWordsFor}
use Rattle.merc_store.specs.Data.{StoreData, IsSlotBelow}
use Rattle.merc_store.specs.FittingExamples.{frame, frame-example}
use Rattle.merc_store.specs.Frozen.{FrozenData, Freezes, OpensWith, Thaws}
use Rattle.merc_store.proofs.FreezingLemmas.{freezes}
use Rattle.merc_store.proofs.ThawingLemmas.{opened, opens_with, thaws}

abbrev seven : Value
seven = Int (pos 7)

abbrev nine : Value
nine = Int (pos 9)

-- a store with this frame alone
abbrev store_with : List Slot → StoreData
store_with slots = record { cells = []; stacks = record { current = slots; callers = []; choices = [] } }

-- Of a frame of two variables the first has the value 7, and the second has none.

freezes-example : Freezes (store_with frame) (1 ∷ 0 ∷ []) (record { variables = 0 ∷ []; values = seven ∷ [] })
freezes-example = freezes (store_with frame) (1 ∷ 0 ∷ []) (0 ∷ []) (IntWord (pos 7) ∷ []) (seven ∷ []) refl refl refl

first_within : All (λ (variable : ℕ). variable < 2) (0 ∷ [])
first_within = All-cons (λ (variable : ℕ). variable < 2) 0 [] (omega arith) (All-nil (λ (variable : ℕ). variable < 2))

second_within : All (λ (variable : ℕ). variable < 2) (1 ∷ [])
second_within = All-cons (λ (variable : ℕ). variable < 2) 1 [] (omega arith) (All-nil (λ (variable : ℕ). variable < 2))

-- a variable that has no value has not the value 9
freezes-none : Freezes (store_with frame) (1 ∷ []) (record { variables = 1 ∷ []; values = nine ∷ [] }) → ⊥
freezes-none copied = absurd (let variables : 1 ∷ [] ≡ [] = ap (λ (f : FrozenData). f.variables) (copied.is 2 (Some seven ∷ []) (3 ∷ []) frame-example second_within) in cc)

-- nor has one that has the value 7
freezes-other : Freezes (store_with frame) (0 ∷ []) (record { variables = 0 ∷ []; values = nine ∷ [] }) → ⊥
freezes-other copied = absurd (let values : nine ∷ [] ≡ seven ∷ [] = ap (λ (f : FrozenData). f.values) (copied.is 2 (Some seven ∷ []) (3 ∷ []) frame-example first_within) in cc)

keeps_none : Keeps 0 [] []
keeps_none = record { below = λ word below. below; same = λ word below. refl }

nine_is : AreWordsFor [] (nine ∷ []) (IntWord (pos 9) ∷ [])
nine_is = record { below = All-cons (IsBelow 0) (IntWord (pos 9)) [] tt (All-nil (IsBelow 0)); same = refl }

frame_below : All (IsSlotBelow 0) frame
frame_below = All-cons (IsSlotBelow 0) (IntSlot (pos 7)) (Empty ∷ Mark 3 ∷ []) tt (All-cons (IsSlotBelow 0) Empty (Mark 3 ∷ []) tt (All-cons (IsSlotBelow 0) (Mark 3) [] tt (All-nil (IsSlotBelow 0))))

-- the second variable is given the value 9
thaws-example : Thaws (store_with frame) (store_with (IntSlot (pos 7) ∷ IntSlot (pos 9) ∷ Mark 3 ∷ [])) (1 ∷ []) (nine ∷ [])
thaws-example = thaws (store_with frame) [] (1 ∷ []) (IntWord (pos 9) ∷ []) (nine ∷ []) nine_is keeps_none refl frame_below

-- it is not given to the first one
thaws-not : Thaws (store_with frame) (store_with (IntSlot (pos 9) ∷ Empty ∷ Mark 3 ∷ [])) (1 ∷ []) (nine ∷ []) → ⊥
thaws-not given = absurd (let fits = given.fits 2 (Some seven ∷ []) (3 ∷ []) frame-example second_within in let first : Some seven ≡ Some nine = fits.values 0 (omega arith) in cc)

empty_below : All (IsSlotBelow 0) (Empty ∷ Empty ∷ [])
empty_below = All-cons (IsSlotBelow 0) Empty (Empty ∷ []) tt (All-cons (IsSlotBelow 0) Empty [] tt (All-nil (IsSlotBelow 0)))

abbrev second_nine : FrozenData
second_nine = record { variables = 1 ∷ []; values = nine ∷ [] }

-- a frame of two slots in which the second variable alone has a value
opens-example : OpensWith (store_with (Empty ∷ IntSlot (pos 9) ∷ [])) 2 second_nine
opens-example = opens_with (store_with (Empty ∷ IntSlot (pos 9) ∷ [])) 2 second_nine (thaws (opened 2) [] (1 ∷ []) (IntWord (pos 9) ∷ []) (nine ∷ []) nine_is keeps_none refl empty_below)

-- no other one has
opens-not : OpensWith (store_with (IntSlot (pos 7) ∷ IntSlot (pos 9) ∷ [])) 2 second_nine → ⊥
opens-not begins =
    absurd (let fits = begins.fits (1 ∷ []) (Some seven ∷ Some nine ∷ []) refl 2 (omega arith) second_within in let first : None ≡ Some seven = fits.values 0 (omega arith) in cc)
