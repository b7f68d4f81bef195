-- A number does not fall as digits are put behind it.
use Rattle.std.proofs.Common.{◌≡◌, ℕ, ◌+◌, ◌*◌, ◌<◌, ◌≤◌, ◌≢◌, List, [], ◌∷◌, None, arith, ◌==◌}
use Rattle.std.proofs.lemmas.Bool.{cond_both, ne_eqb, lt-leb}
use Rattle.merc_base.specs.Characters.{underscore_code}
use Rattle.merc_tokens.specs.Bytes.{digit_of}
use Rattle.merc_tokens.specs.Integers.{integer_limit, digits_value, within_limit}

within_limit-none : (value : ℕ) → integer_limit < value → within_limit value ≡ None
within_limit-none value above = rw (lt-leb value integer_limit above)

at_least_once : (base value : ℕ) → 1 ≤ base → value ≤ base * value
at_least_once base value some = grind arith

pub digits_value-le : (base value : ℕ) (digits : List ℕ) → 1 ≤ base → value ≤ digits_value base value digits
digits_value-le base value [] some = omega arith
digits_value-le base value (byte ∷ rest) some =
    cond_both (byte == underscore_code) (digits_value base value rest) (digits_value base (base * value + digit_of byte) rest) (λ found. value ≤ found)
    (λ _. digits_value-le base value rest some)
    (λ _. omega (arith, at_least_once base value some, digits_value-le base (base * value + digit_of byte) rest some))

-- so a number that is above the limit with one more digit is above it with all
pub digits_value-above : (base value byte : ℕ) (rest : List ℕ) → 1 ≤ base → byte ≢ underscore_code → integer_limit < base * value + digit_of byte → within_limit (digits_value base value (byte ∷ rest)) ≡ None
digits_value-above base value byte rest some digit above =
    rw (ne_eqb byte underscore_code digit)
    (within_limit-none (digits_value base (base * value + digit_of byte) rest) (omega (arith, digits_value-le base (base * value + digit_of byte) rest some)))
