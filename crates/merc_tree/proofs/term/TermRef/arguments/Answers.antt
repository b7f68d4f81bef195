-- The arguments' nodes are all but the root.
use Rattle.std.proofs.Common.{length, ap, sym, refl, ◌≡◌, ◌∙◌}
use Rattle.merc_tree.specs.Nodes.{term_of, arity_of, all_nodes}
use Rattle.merc_tree.specs.Shape.{arguments_of}
use Rattle.merc_tree.proofs.NodeLaws.{argument_part, term_root, arity_of-shape_of, built_from, AreTerms_from}
use Rattle.merc_tree.proofs.term.TermRef.arguments.Goals as goal

pub invariant_of-result : goal.invariant_of-result
invariant_of-result c =
    let nodes = c.self.inside.nodes.now in
    let term = term_of nodes in
    let are : c.nodes_between.result.now ≡ all_nodes (arguments_of term) = c.nodes_between.ensures ∙ argument_part nodes term c.self.invariant refl in
    let root = term_root nodes term c.last_node-root.result c.self.invariant refl c.last_node-root.ensures in (
      AreTerms_from c.nodes_between.result.now (arguments_of term) are,
      c.arity.ensures ∙ ap (λ n. arity_of n.shape) root ∙ arity_of-shape_of term ∙ ap length (sym (built_from c.nodes_between.result.now (arguments_of term) are)),
    )

pub returns : goal.returns
returns c =
    let nodes = c.self.inside.nodes.now in
    let term = term_of nodes in
    built_from c.nodes_between.result.now (arguments_of term) (c.nodes_between.ensures ∙ argument_part nodes term c.self.invariant refl) ∙ ap arguments_of c.self.view_is
