-- A term by its name and the number of its arguments, where it has no qualifier.
use Rattle.std.specs.Prelude.{ℕ, ◌==◌, List, [], ◌∷◌, Option, Some, None, if◌then◌else◌}
use Rattle.merc_base.specs.Names.{is_name}
use Rattle.merc_tree.specs.Term.{Term, Variable, Integer, Text, Application, none, list_of}
use Rattle.merc_operands.specs.declared.operands.Operands.{Operands}
use Rattle.merc_operands.specs.declared.operands.Operands.TheVariants.{Zero, One, Two, Many, Qualified, NotApplied}

-- a name of its own: no arguments and no qualifier
abbrev pub plain_name : Term → Option ℕ
plain_name (Application name None none span) = Some name
plain_name other = None

abbrev pub by_count : ℕ → List Term → Operands
by_count name [] = Zero name
by_count name (only ∷ []) = One name only
by_count name (first ∷ second ∷ []) = Two name first second
by_count name (first ∷ second ∷ third ∷ rest) = Many name

abbrev pub operands_of : Term → Operands
operands_of (Application name None arguments span) = by_count name (list_of arguments)
operands_of (Application name (Some qualifier) arguments span) = Qualified
operands_of (Variable name span) = NotApplied
operands_of (Integer value span) = NotApplied
operands_of (Text text span) = NotApplied

-- `H is C` as H and C, another term as a head without a category
abbrev pub split_category : Term → Operands → Term × Option Term
split_category whole (Two name head category) = if name == is_name then (head, Some category) else (whole, None)
split_category whole (Zero name) = (whole, None)
split_category whole (One name only) = (whole, None)
split_category whole (Many name) = (whole, None)
split_category whole Qualified = (whole, None)
split_category whole NotApplied = (whole, None)

abbrev pub head_and_category : Term → Term × Option Term
head_and_category term = split_category term (operands_of term)
