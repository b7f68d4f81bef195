-- The name that a term is, by its operands.
use Rattle.std.proofs.Common.{◌≡◌, ℕ, Option, Some, None, refl}
use Rattle.merc_tree.specs.Term.{Term, Variable, Integer, Text, Application, none, more}
use Rattle.merc_operands.specs.Operands.{operands_of, plain_name}
use Rattle.merc_operands.specs.declared.operands.Operands.{Operands}
use Rattle.merc_operands.specs.declared.operands.Operands.TheVariants.{Zero, One, Two, Many, Qualified, NotApplied}

abbrev pub name_by : Operands → Option ℕ
name_by (Zero name) = Some name
name_by (One name only) = None
name_by (Two name first second) = None
name_by (Many name) = None
name_by Qualified = None
name_by NotApplied = None

pub plain_name-by : (term : Term) → plain_name term ≡ name_by (operands_of term)
plain_name-by (Variable name span) = refl
plain_name-by (Integer value span) = refl
plain_name-by (Text text span) = refl
plain_name-by (Application name None none span) = refl
plain_name-by (Application name None (more only none) span) = refl
plain_name-by (Application name None (more first (more second none)) span) = refl
plain_name-by (Application name None (more first (more second (more third rest))) span) = refl
plain_name-by (Application name (Some qualifier) arguments span) = refl
