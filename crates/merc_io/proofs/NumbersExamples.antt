-- Worked examples of the numbers of calls.
use Rattle.std.proofs.Common.{◌≡◌, ◌-◌, ◌^◌, refl}
use Rattle.merc_io.specs.Numbers.{number_after}

-- the call after the first is the second
pub number_after-example : number_after 1 ≡ 2
number_after-example = refl

-- the count stops at the greatest number of 64 bits
pub number_after-last : number_after (2 ^ 64 - 1) ≡ 2 ^ 64 - 1
number_after-last = refl

-- the first call has no number twice
pub number_after-counterexample : number_after 1 ≡ 1 → ⊥
number_after-counterexample same = cc
