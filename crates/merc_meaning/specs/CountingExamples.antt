-- Worked examples of steps counted.
use Rattle.std.specs.Prelude.{◌≡◌, refl}
use Rattle.merc_meaning.specs.Counting.{counted}

counted-example : counted 3 2 ≡ 5
counted-example = refl

-- a counter stays at its greatest number
counted-most : counted 18446744073709551614 3 ≡ 18446744073709551615
counted-most = refl

-- each step counts
counted-counterexample : counted 3 2 ≡ 4 → ⊥
counted-counterexample same = cc
