-- What computed arithmetic says.
use Rattle.std.specs.Prelude.{ℤ, Option, Some, None}
use Rattle.merc_meaning.specs.Arithmetic.{Result, Gives, ZeroDivisor}

-- a number is given; where there is none, the divisor is zero
abbrev pub result_of : Option ℤ → Result
result_of (Some number) = Gives number
result_of None = ZeroDivisor
