use Rattle.std.proofs.Common.{◌≡◌, [], length, ap, sym, ◌∙◌}
use Rattle.merc_tree.specs.Nodes.{built}
use Rattle.merc_tree.proofs.NodeLaws.{length-starts_from, only_term, only_nodes}
use Rattle.merc_tree.proofs.term.Terms.into_only.Goals as goal

pub returns-then-len-ne1 : goal.returns-then-len-ne1
returns-then-len-ne1 c one =
    c.if-len-ne1.true (c.len.ensures ∙ c.self.inside.starts.ok.0 ∙ ap length c.self.invariant.1 ∙ length-starts_from 0 (built c.self.inside.nodes.items []) ∙ ap length c.self.view_is ∙ one)

pub invariant_of-result : goal.invariant_of-result
invariant_of-result c =
    let terms = built c.self.inside.nodes.items [] in
    let one : length terms ≡ 1 = cc (c.self.inside.starts.ok.0, length-starts_from 0 terms, ap length c.self.invariant.1) in
    only_nodes c.self.inside.nodes.items c.self.invariant.0 one

pub returns : goal.returns
returns c =
    let terms = built c.self.inside.nodes.items [] in
    let one : length terms ≡ 1 = cc (c.self.inside.starts.ok.0, length-starts_from 0 terms, ap length c.self.invariant.1) in
    sym c.self.view_is ∙ only_term terms one
