-- Steps counted.
use Rattle.std.specs.Prelude.{ℕ, zero, suc, ◌==◌, if◌then◌else◌}

-- a counter after so many steps more; it stays at its greatest number
abbrev pub counted : ℕ → ℕ → ℕ
counted before zero = before
counted before (suc made) = counted (if before == 18446744073709551615 then before else suc before) made
