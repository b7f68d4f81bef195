-- Integers of variables that differ.
use Rattle.std.specs.Prelude.{ℕ, ℤ, List, Option, Some, None, Bool, false, not}
use Rattle.std.specs.Ordering.{int_eq}
use Rattle.merc_frames.specs.declared.slot.Slot.{Slot}
use Rattle.merc_store.specs.Performing.{integer_at}

-- whether both integers are there and are not the same
abbrev pub are_different : Option ℤ → Option ℤ → Bool
are_different None other = false
are_different (Some left) None = false
are_different (Some left) (Some right) = not (int_eq left right)

-- whether two variables' values are two integers that differ
abbrev pub integers_differ : List Slot → ℕ → ℕ → Bool
integers_differ slots one other = are_different (integer_at slots one) (integer_at slots other)
