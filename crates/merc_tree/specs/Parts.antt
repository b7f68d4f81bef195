-- The nesting of a term, from what is kept of its arguments.
use Rattle.std.specs.Prelude.{ℕ, ◌+◌, ◌-◌, Bool, false, ◌==◌, ◌&&◌, List, [], ◌∷◌, ◌++◌, length, take, drop, Option, Some, None, if◌then◌else◌}
use Rattle.merc_tree.specs.Term.{Term, Variable, Integer, Text, Application}
use Rattle.merc_tree.specs.Nesting.{is_chain, are_two, greater, nesting}
use Rattle.merc_tree.specs.Nodes.{arity_of}
use Rattle.merc_tree.specs.declared.term.nesting.Part.{Part}
use Rattle.merc_tree.specs.declared.term.Shape.{Shape}
use Rattle.merc_tree.specs.declared.term.Shape.TheVariants.{Variable as VariableShape, Integer as IntegerShape, Text as TextShape, Application as ApplicationShape}

-- the name whose chain a term is, if it is one
abbrev pub chain_of : Term → Option ℕ
chain_of (Application name None arguments span) = if is_chain name && are_two arguments then Some name else None
chain_of (Application name (Some qualifier) arguments span) = None
chain_of (Variable name span) = None
chain_of (Integer value span) = None
chain_of (Text text span) = None

-- what is kept of a term
abbrev pub part_of : Term → Part
part_of term = record { nesting = nesting term; chain = chain_of term }

-- the nesting of the deepest of these, 0 where there is none
abbrev pub deepest_part : List Part → ℕ
deepest_part [] = 0
deepest_part (first ∷ rest) = greater first.nesting (deepest_part rest)

-- whether a term is a chain of this name
abbrev pub is_named : ℕ → Option ℕ → Bool
is_named name None = false
is_named name (Some other) = other == name

abbrev pub goes_on_part : ℕ → Part → Bool
goes_on_part name part = is_named name part.chain

-- the name of which a root of this shape with two arguments is a chain
abbrev pub chain_name_of : Shape → Option ℕ
chain_name_of (ApplicationShape name None arity) = if is_chain name then Some name else None
chain_name_of (ApplicationShape name (Some qualifier) arity) = None
chain_name_of (VariableShape name) = None
chain_name_of (IntegerShape value) = None
chain_name_of (TextShape text) = None

-- what is kept of a term that is no chain, and of a chain
abbrev pub plain_part : List Part → Part
plain_part arguments = record { nesting = deepest_part arguments + 1; chain = None }

abbrev pub chain_part : ℕ → Part → Part → Part
chain_part name first last =
    record { nesting = greater (first.nesting + 1) (if goes_on_part name last then last.nesting else last.nesting + 1); chain = Some name }

abbrev pub joined : Option ℕ → List Part → Part
joined None arguments = plain_part arguments
joined (Some name) [] = plain_part []
joined (Some name) (only ∷ []) = plain_part (only ∷ [])
joined (Some name) (first ∷ last ∷ []) = chain_part name first last
joined (Some name) (first ∷ second ∷ third ∷ rest) = plain_part (first ∷ second ∷ third ∷ rest)

-- what is kept of a root with these arguments
abbrev pub part_of_root : Shape → List Part → Part
part_of_root shape arguments = joined (chain_name_of shape) arguments

-- what is kept of terms where a root of this shape is read behind them
abbrev pub with_root_part : Shape → List Part → List Part
with_root_part shape parts =
    let before = length parts - arity_of shape in
    take before parts ++ part_of_root shape (drop before parts) ∷ []
