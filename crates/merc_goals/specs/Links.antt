-- Terms with their numbers, and how chains and lists are taken apart.
use Rattle.std.specs.Prelude.{ℕ, ◌+◌, Bool, true, false, ◌==◌, not, List, [], ◌∷◌, ◌++◌, Option, Some, None, if◌then◌else◌}
use Rattle.merc_base.specs.Names.{arrow_name, cons_name, if_name, then_name}
use Rattle.merc_tree.specs.Term.{Term, Variable, Application, none, more}
use Rattle.merc_operands.specs.Operands.{operands_of}
use Rattle.merc_operands.specs.declared.operands.Operands.{Operands}
use Rattle.merc_operands.specs.declared.operands.Operands.TheVariants.{One, Two}
use Rattle.merc_goals.specs.Written.{parts}
use Rattle.merc_goals.specs.Numbers.{left_of, right_of}
use Rattle.merc_goals.specs.Roles.{role_of}
use Rattle.merc_goals.specs.declared.roles.Role.{Role}
use Rattle.merc_goals.specs.declared.roles.Role.TheVariants.{Conjunction as ConjunctionRole, Parallel as ParallelRole, Disjunction as DisjunctionRole}
use Rattle.merc_goals.specs.declared.roles.ChainKind.{ChainKind}
use Rattle.merc_goals.specs.declared.roles.ChainKind.TheVariants.{Conjuncts, ParallelConjuncts, Disjuncts}
use Rattle.merc_goals.specs.Numbers.{NumberedTerm}
use Rattle.merc_goals.specs.declared.links.Both.{Both}
use Rattle.merc_goals.specs.declared.links.Cell.{Cell}

-- both sides of the operator whose term has this number
abbrev pub sides_of : ℕ → Term → Term → Both
sides_of at left right = record { left = left_of at left; right = right_of at left right }

-- both sides of an operator
abbrev pub sides_by : ℕ → ℕ → Operands → Option Both
sides_by operator at (Two name left right) = if name == operator then Some (sides_of at left right) else None
sides_by operator at other = None

abbrev pub sides : ℕ → NumberedTerm → Option Both
sides operator whole = sides_by operator whole.at (operands_of whole.term)

-- the condition and the then part of `if C then T`
abbrev pub condition_by : ℕ → Operands → Option Both
condition_by at (One name only) = if name == if_name then sides then_name (left_of at only) else None
condition_by at other = None

abbrev pub condition_sides : NumberedTerm → Option Both
condition_sides whole = condition_by whole.at (operands_of whole.term)

-- `C -> T`
abbrev pub is_arrow_by : Operands → Bool
is_arrow_by (Two name left right) = name == arrow_name
is_arrow_by other = false

abbrev pub is_arrow : Term → Bool
is_arrow term = is_arrow_by (operands_of term)

-- Whether a name of this role joins its arguments to a chain. `C -> T ; E` is no disjunction.
abbrev pub joins : Role → ChainKind → Bool → Bool
joins ConjunctionRole Conjuncts arrow = true
joins ParallelRole ParallelConjuncts arrow = true
joins DisjunctionRole Disjuncts arrow = not arrow
joins other kind arrow = false

abbrev pub is_joined : ChainKind → Role → Term → Bool
is_joined kind role left = joins role kind (is_arrow left)

-- both sides of a term that goes on a chain
abbrev pub link_by : ChainKind → ℕ → Operands → Option Both
link_by kind at (Two name left right) = if is_joined kind (role_of name) left then Some (sides_of at left right) else None
link_by kind at other = None

abbrev pub link_of : ChainKind → NumberedTerm → Option Both
link_of kind whole = link_by kind whole.at (operands_of whole.term)

-- the members of a chain, from the left
abbrev pub chain : ChainKind → ℕ → Term → List NumberedTerm
chain kind at (Application name None (more left (more right none)) span) =
    if is_joined kind (role_of name) left
    then chain kind (at + 2) left ++ chain kind (at + 2 + parts left) right
    else record { term = Application name None (more left (more right none)) span; at = at } ∷ []
chain kind at other = record { term = other; at = at } ∷ []

-- a list cell that begins with a variable
abbrev pub cell_at : Term → Term → Option Cell
cell_at (Variable variable span) rest = Some (record { variable = variable; rest = rest })
cell_at other rest = None

abbrev pub cell_by : Operands → Option Cell
cell_by (Two name first rest) = if name == cons_name then cell_at first rest else None
cell_by other = None

abbrev pub cell_of : Term → Option Cell
cell_of list = cell_by (operands_of list)
