-- Each word that lies within a heap stands for exactly one value.
use Rattle.std.proofs.Common.{◌≡◌, List, [], length, arith}
use Rattle.merc_value.specs.Value.{Value}
use Rattle.merc_value.specs.Block.{StandsFor, IsBelow, value_of}
use Rattle.merc_value.specs.declared.word.Word.{Word}
use Rattle.merc_value.proofs.BlockLaws.{stands_for, stands_for_one}
use Rattle.merc_heap.specs.Heap.{cells_of, IsFlat}
use Rattle.merc_heap.specs.Fields.{Field}
use Rattle.merc_heap.specs.declared.functors.Functor.{Functor}

-- It stands for its value ..
pub stands_in_heap : (fs : List Functor) (slots : List Field) → IsFlat fs slots → (word : Word) → IsBelow (length (cells_of fs slots)) word → StandsFor (cells_of fs slots) word (value_of (cells_of fs slots) word)
stands_in_heap fs slots flat word below =
    stands_for (record { cells = cells_of fs slots; roots = [] }) (record { lower = flat.lower; within = λ k d within. absurd (omega (arith, within)) }) word below

-- .. and for no other one.
pub stands_in_heap_for_one : (fs : List Functor) (slots : List Field) → IsFlat fs slots → (word : Word) (value : Value) → StandsFor (cells_of fs slots) word value → value ≡ value_of (cells_of fs slots) word
stands_in_heap_for_one fs slots flat word value stands =
    stands_for_one (record { cells = cells_of fs slots; roots = [] }) (record { lower = flat.lower; within = λ k d within. absurd (omega (arith, within)) }) word value stands
