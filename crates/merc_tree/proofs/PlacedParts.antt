-- The placed parts of a term are those of its nodes.
use Rattle.std.proofs.Common.{◌≡◌, List, [], ◌∷◌, ◌++◌, length, map, refl, ap, sym, ◌∙◌}
use Rattle.std.proofs.lemmas.List.{map-append}
use Rattle.merc_base.specs.declared.place.Span.{Span}
use Rattle.merc_tree.specs.declared.term.Node.{Node}
use Rattle.merc_tree.specs.declared.term.Shape.{Shape}
use Rattle.merc_tree.specs.declared.term.Shape.TheVariants.{Application as ApplicationShape}
use Rattle.merc_tree.specs.Term.{Term, Terms, Variable, Integer, Text, Application, none, more, list_of}
use Rattle.merc_tree.specs.Nodes.{term_of, nodes_of, argument_nodes, IsTerm}
use Rattle.merc_tree.specs.PlacedParts.{placed_parts, all_placed}

abbrev pub placed_nodes : List Node → List (Shape × Span)
placed_nodes nodes = map (λ node. (node.shape, node.span)) nodes

mutual
  placed-nodes : (term : Term) → placed_nodes (nodes_of term) ≡ placed_parts term
  placed-nodes (Variable name span) = refl
  placed-nodes (Integer value span) = refl
  placed-nodes (Text text span) = refl
  placed-nodes (Application name qualifier arguments span) =
      map-append (λ node. (node.shape, node.span)) (argument_nodes arguments) _
      ∙ ap (λ l. l ++ (ApplicationShape name qualifier (length (list_of arguments)), span) ∷ []) (placed-argument_nodes arguments)

  placed-argument_nodes : (arguments : Terms) → placed_nodes (argument_nodes arguments) ≡ all_placed arguments
  placed-argument_nodes none = refl
  placed-argument_nodes (more first rest) =
      map-append (λ node. (node.shape, node.span)) (nodes_of first) (argument_nodes rest)
      ∙ ap (λ l. l ++ placed_nodes (argument_nodes rest)) (placed-nodes first)
      ∙ ap (λ l. placed_parts first ++ l) (placed-argument_nodes rest)

pub parts_placed : (nodes : List Node) (term : Term) → IsTerm nodes → term_of nodes ≡ term → placed_nodes nodes ≡ placed_parts term
parts_placed nodes term is same = ap placed_nodes (sym is) ∙ ap (λ t. placed_nodes (nodes_of t)) same ∙ placed-nodes term
