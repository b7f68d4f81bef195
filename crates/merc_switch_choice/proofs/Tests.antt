-- What is told by tests of numbers and by truth values.
use Rattle.std.specs.Prelude.{◌≡◌, ℕ, suc, Bool, true, false, ◌==◌, ◌&&◌, refl}
use Rattle.std.proofs.Common.{arith}
use Rattle.std.proofs.lemmas.Bool.Decides.{nat_tests}

pub clash : {A : Type 0} {b : Bool} → b ≡ true → b ≡ false → A
clash p q = absurd (cc)

pub and_first : (a b : Bool) → (a && b) ≡ true → a ≡ true
and_first true b h = refl
and_first false b h = h

pub and_second : (a b : Bool) → (a && b) ≡ true → b ≡ true
and_second true b h = h
and_second false b h = absurd (cc)

pub eq_turned : (a b : ℕ) → (a == b) ≡ (b == a)
eq_turned a b = grind (arith, nat_tests)

pub next_eq : (one other : ℕ) → (suc one == suc other) ≡ (one == other)
next_eq one other = grind (arith, nat_tests)

pub none_eq : (other : ℕ) → (0 == suc other) ≡ false
none_eq other = grind (arith, nat_tests)
