-- Arithmetic and comparisons of integers.
use Rattle.std.specs.Prelude.{ℕ, ◌^◌, ℤ, pos, unsigned_abs, ◌+ℤ◌, ◌-ℤ◌, ◌*ℤ◌, int_div, int_rem, int_lt, int_le, Bool, true, false, not, ◌&&◌, if◌then◌else◌, Option, Some, None}
use Rattle.std.specs.Int.{w64, cast_signed, int_rem_euclid, is_negative}
use Rattle.std.specs.Ordering.{int_eq}
use Rattle.merc_value.specs.Value.{Value, Int, Text, Con}
use Rattle.merc_goal_tree.specs.declared.goal.Operation.{Operation}
use Rattle.merc_goal_tree.specs.declared.goal.Operation.TheVariants.{Add, Subtract, Multiply, Quotient, Div, Mod, Rem}
use Rattle.merc_goal_tree.specs.declared.goal.Comparison.{Comparison}
use Rattle.merc_goal_tree.specs.declared.goal.Comparison.TheVariants.{Less, Greater, AtMost, AtLeast}

-- how many integers there are
abbrev pub integer_count : ℕ
integer_count = 2 ^ 64

-- what is left of a number in 64 bits, read as a signed number
abbrev pub wrapped : ℤ → ℤ
wrapped number = cast_signed w64 (unsigned_abs (int_rem_euclid number (pos integer_count)))

-- Two signs differ.
abbrev pub differ : Bool → Bool → Bool
differ false other = other
differ true other = not other

-- Truncation rounds a quotient up where it has a remainder that is not of the divisor's sign.
abbrev pub is_rounded_up : ℤ → ℤ → Bool
is_rounded_up left right = not (int_eq (int_rem left right) (pos 0)) && differ (is_negative (int_rem left right)) (is_negative right)

-- a quotient, rounded down
abbrev pub rounded_down : ℤ → ℤ → ℤ
rounded_down left right = if is_rounded_up left right then int_div left right -ℤ pos 1 else int_div left right

-- an integer, or a divisor of zero
pub data Result : Type 0 where
  Gives : (number : ℤ) → Result
  ZeroDivisor : Result

-- a result where the divisor is not zero
abbrev pub divided : ℤ → ℤ → Result
divided right number = if int_eq right (pos 0) then ZeroDivisor else Gives (wrapped number)

-- Every result wraps round at 64 bits. `//` truncates, and `rem` is what it leaves; `div` rounds down, and `mod` is what it leaves.
abbrev pub arithmetic : Operation → ℤ → ℤ → Result
arithmetic Add left right = Gives (wrapped (left +ℤ right))
arithmetic Subtract left right = Gives (wrapped (left -ℤ right))
arithmetic Multiply left right = Gives (wrapped (left *ℤ right))
arithmetic Quotient left right = divided right (int_div left right)
arithmetic Rem left right = divided right (int_rem left right)
arithmetic Div left right = divided right (rounded_down left right)
arithmetic Mod left right = divided right (left -ℤ (rounded_down left right *ℤ right))

abbrev pub comparison : Comparison → ℤ → ℤ → Bool
comparison Less left right = int_lt left right
comparison Greater left right = int_lt right left
comparison AtMost left right = int_le left right
comparison AtLeast left right = int_le right left

-- As relations on values: values that are no integers, and a divisor of zero, are in no relation.

abbrev pub given : Result → Option Value
given (Gives number) = Some (Int number)
given ZeroDivisor = None

abbrev pub arithmetic_of : Operation → Value → Value → Option Value
arithmetic_of operation (Int left) (Int right) = given (arithmetic operation left right)
arithmetic_of operation (Int left) (Text right) = None
arithmetic_of operation (Int left) (Con symbol arguments) = None
arithmetic_of operation (Text left) right = None
arithmetic_of operation (Con symbol arguments) right = None

abbrev pub comparison_of : Comparison → Value → Value → Bool
comparison_of test (Int left) (Int right) = comparison test left right
comparison_of test (Int left) (Text right) = false
comparison_of test (Int left) (Con symbol arguments) = false
comparison_of test (Text left) right = false
comparison_of test (Con symbol arguments) right = false
