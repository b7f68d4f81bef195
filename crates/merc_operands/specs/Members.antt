-- The members of a chain of one operator, and how it is taken apart with a stack of terms.
use Rattle.std.specs.Prelude.{ℕ, ◌==◌, ◌&&◌, List, [], ◌∷◌, ◌++◌, Option, Some, None, if◌then◌else◌}
use Rattle.merc_tree.specs.Term.{Term, Terms, Application, none, more}
use Rattle.merc_tree.specs.Nesting.{are_two}
use Rattle.merc_operands.specs.Operands.{operands_of}
use Rattle.merc_operands.specs.declared.operands.Operands.{Operands}
use Rattle.merc_operands.specs.declared.operands.Operands.TheVariants.{Zero, One, Two, Many, Qualified, NotApplied}

abbrev mutual
  -- the members of a chain of one operator, from the left
  pub chain : ℕ → Term → List Term
  chain operator (Application name None arguments span) =
      if name == operator && are_two arguments then chain_all operator arguments else Application name None arguments span ∷ []
  chain operator other = other ∷ []

  pub chain_all : ℕ → Terms → List Term
  chain_all operator none = []
  chain_all operator (more first rest) = chain operator first ++ chain_all operator rest

-- both sides of an operator
abbrev pub link_by : ℕ → Operands → Option (Term × Term)
link_by operator (Two name first second) = if name == operator then Some (first, second) else None
link_by operator (Zero name) = None
link_by operator (One name only) = None
link_by operator (Many name) = None
link_by operator Qualified = None
link_by operator NotApplied = None

abbrev pub link_of : ℕ → Term → Option (Term × Term)
link_of operator term = link_by operator (operands_of term)

-- the members of the chains on a stack, those of the last of them first
abbrev pub stacked : ℕ → List Term → List Term
stacked operator [] = []
stacked operator (term ∷ rest) = stacked operator rest ++ chain operator term
