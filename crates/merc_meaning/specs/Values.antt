-- Values as goals build, split and compare them.
use Rattle.std.specs.Prelude.{ℕ, zero, suc, Bool, true, false, ◌==◌, ◌&&◌, if◌then◌else◌, Option, Some, None}
use Rattle.std.specs.Ordering.{int_eq}
use Rattle.merc_value.specs.Value.{Value, Int, Text, Con, Values, none, more}
use Rattle.merc_goal_tree.specs.declared.goal.Symbol.{Symbol}
use Rattle.merc_goal_tree.specs.declared.goal.Symbol.TheVariants.{Constructor, Integer, Text as TextSymbol}

abbrev pub count : Values → ℕ
count none = zero
count (more first rest) = suc (count rest)

-- the value of a symbol over arguments
abbrev pub made : Symbol → Values → Value
made (Constructor name arity) arguments = Con name arguments
made (Integer number) arguments = Int number
made (TextSymbol text) arguments = Text text

-- the arguments of a value, where it is of this symbol
abbrev pub fields : Symbol → Value → Option Values
fields (Constructor name arity) (Con symbol arguments) = if (name == symbol) && (arity == count arguments) then Some arguments else None
fields (Constructor name arity) (Int number) = None
fields (Constructor name arity) (Text text) = None
fields (Integer literal) (Int number) = if int_eq literal number then Some none else None
fields (Integer literal) (Text text) = None
fields (Integer literal) (Con symbol arguments) = None
fields (TextSymbol literal) (Text text) = if literal == text then Some none else None
fields (TextSymbol literal) (Int number) = None
fields (TextSymbol literal) (Con symbol arguments) = None

-- whether two values are one
abbrev mutual
  pub same : Value → Value → Bool
  same (Int one) (Int other) = int_eq one other
  same (Int one) (Text other) = false
  same (Int one) (Con symbol arguments) = false
  same (Text one) (Int other) = false
  same (Text one) (Text other) = one == other
  same (Text one) (Con symbol arguments) = false
  same (Con symbol arguments) (Int other) = false
  same (Con symbol arguments) (Text other) = false
  same (Con one arguments) (Con other others) = (one == other) && same_all arguments others

  pub same_all : Values → Values → Bool
  same_all none none = true
  same_all none (more other others) = false
  same_all (more value values) none = false
  same_all (more value values) (more other others) = same value other && same_all values others
