-- How terms lie in a list of nodes: the arguments of a term one after the other, then its root.
use Rattle.std.specs.Prelude.{◌≡◌, ℕ, suc, ◌+◌, List, [], ◌∷◌, ◌++◌, length, map}
use Rattle.merc_base.specs.Names.{nil_name}
use Rattle.merc_base.specs.declared.place.Span.{Span}
use Rattle.merc_tree.specs.Term.{Term, Variable, Integer, Text, Application, Terms, none, more, list_of, applied, no_span}
use Rattle.merc_tree.specs.declared.term.Node.{Node}
use Rattle.merc_tree.specs.declared.term.Shape.{Shape}
use Rattle.merc_tree.specs.declared.term.Shape.TheVariants.{Variable as VariableShape, Integer as IntegerShape, Text as TextShape, Application as ApplicationShape}

-- what terms become where a root of this shape is read behind them
abbrev pub with_root : Shape → Span → List Term → List Term
with_root (VariableShape name) span terms = terms ++ Variable name span ∷ []
with_root (IntegerShape value) span terms = terms ++ Integer value span ∷ []
with_root (TextShape text) span terms = terms ++ Text text span ∷ []
with_root (ApplicationShape name qualifier arity) span terms = applied name qualifier arity span terms

-- how many arguments a root of this shape has
abbrev pub arity_of : Shape → ℕ
arity_of (VariableShape name) = 0
arity_of (IntegerShape value) = 0
arity_of (TextShape text) = 0
arity_of (ApplicationShape name qualifier arity) = arity

-- what terms become where nodes are read behind them
abbrev pub built : List Node → List Term → List Term
built [] terms = terms
built (node ∷ nodes) terms = built nodes (with_root node.shape node.span terms)

-- the first of these terms, or one that is never asked for
abbrev pub first_of : List Term → Term
first_of [] = Variable nil_name no_span
first_of (term ∷ terms) = term

-- the term that nodes stand for
abbrev pub term_of : List Node → Term
term_of nodes = first_of (built nodes [])

-- the node of a root that has the arguments' nodes before it
abbrev pub root : Shape → Span → List Node → List Node
root shape span arguments = arguments ++ record { shape = shape; span = span; size = suc (length arguments) } ∷ []

-- the nodes of a term, and of terms
abbrev mutual
  pub nodes_of : Term → List Node
  nodes_of (Variable name span) = root (VariableShape name) span []
  nodes_of (Integer value span) = root (IntegerShape value) span []
  nodes_of (Text text span) = root (TextShape text) span []
  nodes_of (Application name qualifier arguments span) = root (ApplicationShape name qualifier (length (list_of arguments))) span (argument_nodes arguments)

  pub argument_nodes : Terms → List Node
  argument_nodes none = []
  argument_nodes (more first rest) = nodes_of first ++ argument_nodes rest

abbrev pub all_nodes : List Term → List Node
all_nodes [] = []
all_nodes (term ∷ terms) = nodes_of term ++ all_nodes terms

-- where each term's nodes start, from this index on
abbrev pub starts_from : ℕ → List Term → List ℕ
starts_from start [] = []
starts_from start (term ∷ terms) = start ∷ starts_from (start + length (nodes_of term)) terms

-- Nodes are as those of the one term that they stand for, or of terms.
abbrev pub IsTerm : List Node → Type 0
IsTerm nodes = nodes_of (term_of nodes) ≡ nodes

abbrev pub AreTerms : List Node → Type 0
AreTerms nodes = all_nodes (built nodes []) ≡ nodes

-- the shapes of nodes, in order
abbrev pub shapes : List Node → List Shape
shapes nodes = map (λ n. n.shape) nodes
