-- The last argument's nodes stand last, as many as its root says.
use Rattle.std.proofs.Common.{◌<◌, ◌++◌, ◌∷◌, [], length, ap, sym, ◌∙◌, arith}
use Rattle.std.proofs.lemmas.List.{length-append}
use Rattle.merc_tree.specs.Nodes.{built}
use Rattle.merc_tree.proofs.NodeLaws.{last_cut, built_from, AreTerms_from, term_from, IsTerm_from}
use Rattle.merc_tree.proofs.term.Arguments.take_last.Goals as goal

pub overflow_sub-start : goal.overflow_sub-start
overflow_sub-start c =
    let nodes = c.self.inside.nodes.now in
    let some : 0 < length (built nodes []) = omega (arith, c.self.invariant.1) in
    (last_cut (built nodes []) nodes c.last_node.result c.self.invariant.0 some c.last_node.ensures).size

pub invariant_of-result : goal.invariant_of-result
invariant_of-result c =
    let nodes = c.self.inside.nodes.now in
    let some : 0 < length (built nodes []) = omega (arith, c.self.invariant.1) in
    let cut = last_cut (built nodes []) nodes c.last_node.result c.self.invariant.0 some c.last_node.ensures in
    IsTerm_from c.nodes_between.result.now cut.last (c.nodes_between.ensures ∙ cut.last_nodes)

pub invariant_of-self : goal.invariant_of-self
invariant_of-self c =
    let nodes = c.self.inside.nodes.now in
    let some : 0 < length (built nodes []) = omega (arith, c.self.invariant.1) in
    let cut = last_cut (built nodes []) nodes c.last_node.result c.self.invariant.0 some c.last_node.ensures in
    let front = c.nodes_between-self-inside.ensures ∙ cut.front_nodes in (
      AreTerms_from c.nodes_between-self-inside.result.now cut.front front,
      omega (arith, c.self.invariant.1, ap length cut.are, length-append cut.front (cut.last ∷ []), ap length (built_from c.nodes_between-self-inside.result.now cut.front front)),
    )

pub returns : goal.returns
returns c =
    let nodes = c.self.inside.nodes.now in
    let some : 0 < length (built nodes []) = omega (arith, c.self.invariant.1) in
    let cut = last_cut (built nodes []) nodes c.last_node.result c.self.invariant.0 some c.last_node.ensures in
    let front = built_from c.nodes_between-self-inside.result.now cut.front (c.nodes_between-self-inside.ensures ∙ cut.front_nodes) in
    let last = term_from c.nodes_between.result.now cut.last (c.nodes_between.ensures ∙ cut.last_nodes) in
    sym c.self.view_is ∙ cut.are ∙ ap (λ l. l ++ cut.last ∷ []) (sym front) ∙ ap (λ t. built c.nodes_between-self-inside.result.now [] ++ t ∷ []) (sym last)
