-- Worked examples of terms as nodes, which the prover computes, and false statements that it refutes.
use Rattle.std.specs.Prelude.{◌≡◌, ℕ, pos, List, [], ◌∷◌, Some, None, map, refl}
use Rattle.std.proofs.Common.{ap}
use Rattle.merc_base.specs.Names.{comma_name, semicolon_name}
use Rattle.merc_base.specs.declared.place.Span.{Span}
use Rattle.merc_tree.specs.Term.{Term, Variable, Integer, Application, none, more}
use Rattle.merc_tree.specs.declared.term.Node.{Node}
use Rattle.merc_tree.specs.declared.term.nesting.Part.{Part}
use Rattle.merc_tree.specs.declared.term.Shape.{Shape}
use Rattle.merc_tree.specs.declared.term.Shape.TheVariants.{Variable as VariableShape, Integer as IntegerShape, Application as ApplicationShape}
use Rattle.merc_tree.specs.Nodes.{arity_of, built, nodes_of, starts_from, AreTerms, IsTerm}
use Rattle.merc_tree.specs.Parts.{part_of, part_of_root, with_root_part}

abbrev here : Span
here = record { first = 3; past = 4; line = 1 }

abbrev node : Shape → ℕ → Node
node shape size = record { shape = shape; span = here; size = size }

-- the names `X` and `f`, behind the constants

abbrev x_name : ℕ
x_name = 110

abbrev f_name : ℕ
f_name = 112

-- `f(X, 3)`, and `X` before it

abbrev x : Term
x = Variable x_name here

abbrev f : Term
f = Application f_name None (more x (more (Integer (pos 3) here) none)) here

abbrev f_nodes : List Node
f_nodes = node (VariableShape x_name) 1 ∷ node (IntegerShape (pos 3)) 1 ∷ node (ApplicationShape f_name None 2) 3 ∷ []

pub nodes_of-example : nodes_of f ≡ f_nodes
nodes_of-example = refl

pub nodes_of-not : nodes_of f ≡ node (ApplicationShape f_name None 2) 3 ∷ node (VariableShape x_name) 1 ∷ node (IntegerShape (pos 3)) 1 ∷ [] → ⊥
nodes_of-not root_first =
    let sizes : ◌≡◌ {A = List ℕ} (1 ∷ 1 ∷ 3 ∷ []) (3 ∷ 1 ∷ 1 ∷ []) = ap (map (λ n. n.size)) root_first in
    cc

pub built-example : built f_nodes (x ∷ []) ≡ x ∷ f ∷ []
built-example = refl

-- a root that is short of arguments takes those that are there

pub built-short : built (node (ApplicationShape f_name None 2) 1 ∷ []) (x ∷ []) ≡ Application f_name None (more x none) here ∷ []
built-short = refl

pub built-not : built f_nodes [] ≡ x ∷ Integer (pos 3) here ∷ f ∷ [] → ⊥
built-not keeps_arguments = cc

pub IsTerm-example : IsTerm f_nodes
IsTerm-example = refl

pub IsTerm-not : IsTerm (node (VariableShape x_name) 2 ∷ []) → ⊥
IsTerm-not wrong_size =
    let sizes : ◌≡◌ {A = List ℕ} (1 ∷ []) (2 ∷ []) = ap (map (λ n. n.size)) wrong_size in
    cc

pub AreTerms-example : AreTerms (node (VariableShape x_name) 1 ∷ f_nodes)
AreTerms-example = refl

pub AreTerms-not : AreTerms (node (ApplicationShape f_name None 2) 1 ∷ []) → ⊥
AreTerms-not short =
    let arities : ◌≡◌ {A = List ℕ} (0 ∷ []) (2 ∷ []) = ap (map (λ n. arity_of n.shape)) short in
    cc

pub starts_from-example : starts_from 0 (x ∷ f ∷ x ∷ []) ≡ 0 ∷ 1 ∷ 4 ∷ []
starts_from-example = refl

pub starts_from-not : starts_from 0 (f ∷ x ∷ []) ≡ 0 ∷ 1 ∷ [] → ⊥
starts_from-not counts_terms = cc

-- what is kept of terms for their nesting: `X , X`, and a root `,` with `X` and that chain

abbrev chain : Part
chain = record { nesting = 2; chain = Some comma_name }

pub part_of-example : part_of (Application comma_name None (more x (more x none)) here) ≡ chain
part_of-example = refl

pub part_of_root-example : part_of_root (ApplicationShape comma_name None 2) (part_of x ∷ chain ∷ []) ≡ chain
part_of_root-example = refl

pub part_of_root-left : part_of_root (ApplicationShape comma_name None 2) (chain ∷ part_of x ∷ []) ≡ record { nesting = 3; chain = Some comma_name }
part_of_root-left = refl

pub part_of_root-not : part_of_root (ApplicationShape semicolon_name None 2) (part_of x ∷ chain ∷ []) ≡ record { nesting = 2; chain = Some semicolon_name } → ⊥
part_of_root-not any_chain =
    let nestings : ◌≡◌ {A = ℕ} 3 2 = ap (λ p. p.nesting) any_chain in
    cc

-- a root takes its arguments' from the end
pub with_root_part-example : with_root_part (ApplicationShape comma_name None 2) (part_of f ∷ part_of x ∷ chain ∷ []) ≡ part_of f ∷ chain ∷ []
with_root_part-example = refl

-- with three arguments it is no chain
pub with_root_part-three : with_root_part (ApplicationShape comma_name None 3) (part_of x ∷ part_of x ∷ chain ∷ []) ≡ record { nesting = 3; chain = None } ∷ []
with_root_part-three = refl
