-- What may be told of a number and itself, where three pairs of cells may be met.
use Rattle.std.proofs.Common.{◌≡◌, ℕ, arith, refl}
use Rattle.merc_heap.specs.Comparison.{Tells}
use Rattle.merc_heap.specs.declared.comparison.Outcome.TheVariants.{Same, Apart, Open}

pub Tells-example : (n : ℕ) → Tells (n ≡ n) 3 (Same 2)
Tells-example n = (refl, omega arith)

pub Tells-example-open : (n : ℕ) → Tells (n ≡ n) 3 Open
Tells-example-open n = tt

-- they are told apart
pub Tells-counterexample : (n : ℕ) → Tells (n ≡ n) 3 Apart → ⊥
Tells-counterexample n tells = tells refl

-- the bound grows
pub Tells-counterexample-grown : (n : ℕ) → Tells (n ≡ n) 3 (Same 4) → ⊥
Tells-counterexample-grown n tells = omega (arith, tells.1)
