-- What a slot of the heap keeps of a field.
use Rattle.std.specs.Prelude.{◌+◌, ◌*◌, ◌/◌, ◌%◌}
use Rattle.merc_heap.specs.Fields.{Field, word_with}
use Rattle.merc_heap.specs.declared.slot.TheConstants.{HALF, KINDS}
use Rattle.merc_heap.specs.declared.slot.Slot.TheInside.{Inside}

-- the number and the kind of the word are the two digits of the header, and the halves are those of its bits
abbrev pub field_of : Inside → Field
field_of slot = record { number = slot.header / KINDS; word = word_with (slot.header % KINDS) (slot.low + slot.high * HALF) }
