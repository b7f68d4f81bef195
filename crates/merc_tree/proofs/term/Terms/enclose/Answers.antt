use Rattle.std.proofs.Common.{◌<◌, [], length, ap, sym, ◌∙◌, arith}
use Rattle.merc_tree.specs.Nodes.{built, starts_from}
use Rattle.merc_tree.specs.Term.{enclosed}
use Rattle.merc_tree.proofs.NodeLaws.{built_from, AreTerms_from, enclosed_nodes, enclosed_starts}
use Rattle.merc_tree.proofs.term.Terms.enclose.Goals as goal

pub invariant_of-self : goal.invariant_of-self
invariant_of-self c =
    let nodes = c.self.inside.nodes.items in
    let terms = built nodes [] in
    let some : 0 < length nodes = omega (arith, c.self.inside.nodes.ok.0) in
    let now = enclosed_nodes c.args.span terms nodes c.self.invariant.0 some _ c.index_mut.result.now (omega (arith, c.self.inside.nodes.ok.0)) c.index_mut.ensures.value in (
      AreTerms_from _ (enclosed c.args.span terms) now,
      c.self.invariant.1 ∙ enclosed_starts c.args.span terms nodes c.self.invariant.0 some ∙ ap (starts_from 0) (sym (built_from _ (enclosed c.args.span terms) now)),
    )

pub returns-then-count-gt0 : goal.returns-then-count-gt0
returns-then-count-gt0 c =
    let nodes = c.self.inside.nodes.items in
    let terms = built nodes [] in
    let some : 0 < length nodes = omega (arith, c.self.inside.nodes.ok.0) in
    let now = enclosed_nodes c.args.span terms nodes c.self.invariant.0 some _ c.index_mut.result.now (omega (arith, c.self.inside.nodes.ok.0)) c.index_mut.ensures.value in
    built_from _ (enclosed c.args.span terms) now ∙ ap (enclosed c.args.span) c.self.view_is
