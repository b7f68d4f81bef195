-- The numbers of calls, by which a shelf or a sink is told which calls fail.
use Rattle.std.specs.Prelude.{ℕ, ◌+◌, ◌-◌, ◌^◌, min}

-- the number of the call after this one; the count stops at the greatest number of 64 bits
abbrev pub number_after : ℕ → ℕ
number_after number = min (number + 1) (2 ^ 64 - 1)
