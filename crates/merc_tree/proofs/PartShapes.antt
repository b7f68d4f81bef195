-- The shapes of a term's parts are those of its nodes.
use Rattle.std.proofs.Common.{◌≡◌, List, [], ◌∷◌, ◌++◌, length, refl, ap, sym, ◌∙◌}
use Rattle.std.proofs.lemmas.List.{map-append, length-map}
use Rattle.merc_tree.specs.declared.term.Node.{Node}
use Rattle.merc_tree.specs.declared.term.Shape.TheVariants.{Application as ApplicationShape}
use Rattle.merc_tree.specs.Term.{Term, Terms, Variable, Integer, Text, Application, none, more, list_of}
use Rattle.merc_tree.specs.Nodes.{term_of, nodes_of, argument_nodes, shapes, IsTerm}
use Rattle.merc_tree.specs.Postfix.{shapes_of, all_shapes}

mutual
  shapes-nodes : (term : Term) → shapes (nodes_of term) ≡ shapes_of term
  shapes-nodes (Variable name span) = refl
  shapes-nodes (Integer value span) = refl
  shapes-nodes (Text text span) = refl
  shapes-nodes (Application name qualifier arguments span) =
      map-append (λ n. n.shape) (argument_nodes arguments) _
      ∙ ap (λ l. l ++ ApplicationShape name qualifier (length (list_of arguments)) ∷ []) (shapes-argument_nodes arguments)

  shapes-argument_nodes : (arguments : Terms) → shapes (argument_nodes arguments) ≡ all_shapes arguments
  shapes-argument_nodes none = refl
  shapes-argument_nodes (more first rest) =
      map-append (λ n. n.shape) (nodes_of first) (argument_nodes rest)
      ∙ ap (λ l. l ++ shapes (argument_nodes rest)) (shapes-nodes first)
      ∙ ap (λ l. shapes_of first ++ l) (shapes-argument_nodes rest)

pub parts_of : (nodes : List Node) (term : Term) → IsTerm nodes → term_of nodes ≡ term → shapes nodes ≡ shapes_of term
parts_of nodes term is same = ap shapes (sym is) ∙ ap (λ t. shapes (nodes_of t)) same ∙ shapes-nodes term

pub part_count_is : (nodes : List Node) (term : Term) → IsTerm nodes → term_of nodes ≡ term → length nodes ≡ length (shapes_of term)
part_count_is nodes term is same = sym (length-map nodes (λ n. n.shape)) ∙ ap length (parts_of nodes term is same)
