-- Sets of symbols as lists, in the order in which they came.
use Rattle.std.specs.Prelude.{List, [], ◌∷◌, ◌++◌, if◌then◌else◌}
use Rattle.merc_goal_tree.specs.declared.goal.Symbol.{Symbol}
use Rattle.merc_grading.specs.Known.{has_symbol}

-- one more behind these, unless it is one of them
abbrev pub with_symbol : List Symbol → Symbol → List Symbol
with_symbol symbols symbol = if has_symbol symbols symbol then symbols else symbols ++ symbol ∷ []

-- the same of several
abbrev pub all_symbols : List Symbol → List Symbol → List Symbol
all_symbols symbols [] = symbols
all_symbols symbols (first ∷ rest) = all_symbols (with_symbol symbols first) rest
