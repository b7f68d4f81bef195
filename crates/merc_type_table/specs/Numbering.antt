-- How types are numbered.
use Rattle.std.specs.Prelude.{◌≡◌, ℕ, ◌↔◌, Bool, true, false, ◌&&◌, List, ◌++◌, slice_index_or, slice_get, Some}
use Rattle.std.proofs.Common.{Ordering}
use Rattle.std.specs.Ordering.{nat_cmp, ordering_then}
use Rattle.std.specs.BTreeMap.{BTreeMap, get}
use Rattle.merc_tree.specs.Types.{TypeExpr}
use Rattle.merc_type_table.specs.declared.node.TypeNode.{TypeNode}
use Rattle.merc_type_table.specs.declared.node.TypeNode.TheVariants.{Variable, Int, Text, Name, With}
use Rattle.merc_type_table.specs.declared.node.Pair.{Pair}
use Rattle.merc_type_table.specs.declared.numbering.TypeNumbering.{TypeNumbering}
use Rattle.merc_type_table.specs.Table.{types_made, IsBefore, IsComplete}

abbrev pub compare_pairs : Pair → Pair → Ordering
compare_pairs one other = ordering_then (nat_cmp one.first other.first) (nat_cmp one.rest other.rest)

abbrev pub with_pair : Pair → TypeNode
with_pair pair = With pair.first pair.rest

-- the number of a key is where the node that is made of it stands
abbrev pub Indexes : {K : Type 0} → (K → K → Ordering) → (K → TypeNode) → BTreeMap K ℕ → List TypeNode → Type 0
Indexes {K} compare make numbers nodes = (key : K) (number : ℕ) → (get compare numbers key ≡ Some number) ↔ (slice_get nodes number ≡ Some (make key))

pub record IsNumbering (numbering : TypeNumbering) : Type 0 where
  pub before : (number : ℕ) (node : TypeNode) → slice_get numbering.nodes.items number ≡ Some node → IsBefore number node
  pub complete : (number : ℕ) (node : TypeNode) → slice_get numbering.nodes.items number ≡ Some node → IsComplete (types_made numbering.nodes.items) node
  pub int : slice_get numbering.nodes.items 0 ≡ Some Int
  pub only_int : (number : ℕ) → slice_get numbering.nodes.items number ≡ Some Int → number ≡ 0
  pub text : slice_get numbering.nodes.items 1 ≡ Some Text
  pub only_text : (number : ℕ) → slice_get numbering.nodes.items number ≡ Some Text → number ≡ 1
  pub variables : Indexes nat_cmp Variable numbering.variables numbering.nodes.items
  pub names : Indexes nat_cmp Name numbering.names numbering.nodes.items
  pub pairs : Indexes compare_pairs with_pair numbering.pairs numbering.nodes.items

-- the types that were there keep their numbers
abbrev pub Extends : List TypeExpr → List TypeExpr → Type 0
Extends old new = (more : List TypeExpr) × (new ≡ old ++ more)

-- a node has a number
pub record Adds (old new : TypeNumbering) (number : ℕ) (node : TypeNode) : Type 0 where
  pub sound : IsNumbering new
  pub extends : Extends (types_made old.nodes.items) (types_made new.nodes.items)
  pub here : slice_get new.nodes.items number ≡ Some node

-- a type has a number
pub record Numbers (old new : TypeNumbering) (number : ℕ) (type : TypeExpr) : Type 0 where
  pub sound : IsNumbering new
  pub extends : Extends (types_made old.nodes.items) (types_made new.nodes.items)
  pub here : slice_get (types_made new.nodes.items) number ≡ Some type

-- whether a node's type has no type variables, by those that it is over
abbrev pub closed_node : List Bool → TypeNode → Bool
closed_node closed (Variable name) = false
closed_node closed Int = true
closed_node closed Text = true
closed_node closed (Name name) = true
closed_node closed (With first rest) = slice_index_or closed first false && slice_index_or closed rest false
