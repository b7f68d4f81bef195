-- Terms with their numbers among the parts of a text.
use Rattle.std.specs.Prelude.{ℕ, ◌+◌, Bool, true, false, ◌==◌, ◌&&◌, List}
use Rattle.merc_base.specs.Names.{minus_name}
use Rattle.merc_tree.specs.Term.{Term, Variable, Integer, Text, Application}
use Rattle.merc_tree.specs.Shape.{arguments_of}
use Rattle.merc_goals.specs.Numbers.{left_of, numbered_from, right_of}
use Rattle.merc_goals.specs.Numbers.{NumberedTerm}

-- the arguments of a term
abbrev pub numbered_arguments : NumberedTerm → List NumberedTerm
numbered_arguments whole = numbered_from (whole.at + 2) (arguments_of whole.term)

-- both sides of the goal with this number
abbrev pub sides_of : ℕ → Term → Term → NumberedTerm × NumberedTerm
sides_of at left right = (left_of at left, right_of at left right)

abbrev pub is_variable : Term → Bool
is_variable (Variable name span) = true
is_variable (Integer value span) = false
is_variable (Text text span) = false
is_variable (Application name qualifier arguments span) = false

-- `- E`, where there are so many arguments
abbrev pub is_negative : ℕ → Bool → ℕ → Bool
is_negative name plain count = (count == 1) && (name == minus_name) && plain
