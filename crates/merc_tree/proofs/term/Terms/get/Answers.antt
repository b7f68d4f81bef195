-- The nodes between two starts are those of one term.
use Rattle.std.proofs.Common.{◌≡◌, ◌<◌, ◌≤◌, ◌+◌, [], length, get_or, Some, ap, sym, ◌∙◌, arith}
use Rattle.std.proofs.lemmas.Option.{slice_get_past}
use Rattle.std.specs.List.{slice_get, slice_range}
use Rattle.merc_tree.specs.Nodes.{built}
use Rattle.merc_tree.proofs.NodeLaws.{length-starts_from, between, IsTerm_from, term_from}
use Rattle.merc_tree.proofs.term.Terms.get.Goals as goal

pub returns-then-index-len : goal.returns-then-index-len
returns-then-index-len c =
    let past : length c.args.self.now ≤ c.args.index =
    omega (arith, c.self.inside.starts.ok.0, ap length c.self.invariant.1, length-starts_from 0 (built c.self.inside.nodes.items []), ap length c.self.view_is) in
    sym (slice_get_past c.args.self.now c.args.index past)

pub nodes_between-requires : goal.nodes_between-requires
nodes_between-requires c =
    let nodes = c.self.inside.nodes.items in
    let terms = built nodes [] in
    let starts = c.self.inside.starts.items in
    let inside : c.args.index < length terms = omega (arith, c.self.inside.starts.ok.0, ap length c.self.invariant.1, length-starts_from 0 terms) in
    let start : c.start_of-start.result ≡ get_or starts c.args.index (length nodes) = cc c.self.inside.nodes.ok.0 in
    let end : c.start_of-end.result ≡ get_or starts (c.args.index + 1) (length nodes) = cc c.self.inside.nodes.ok.0 in
    let found = between terms nodes starts c.args.index c.start_of-start.result c.start_of-end.result c.self.invariant.0 c.self.invariant.1 inside start end in
    record { order = found.order; within = rw c.deref-3.ensures.value found.within }

pub invariant_of-result : goal.invariant_of-result
invariant_of-result c =
    let nodes = c.self.inside.nodes.items in
    let terms = built nodes [] in
    let starts = c.self.inside.starts.items in
    let inside : c.args.index < length terms = omega (arith, c.self.inside.starts.ok.0, ap length c.self.invariant.1, length-starts_from 0 terms) in
    let start : c.start_of-start.result ≡ get_or starts c.args.index (length nodes) = cc c.self.inside.nodes.ok.0 in
    let end : c.start_of-end.result ≡ get_or starts (c.args.index + 1) (length nodes) = cc c.self.inside.nodes.ok.0 in
    let found = between terms nodes starts c.args.index c.start_of-start.result c.start_of-end.result c.self.invariant.0 c.self.invariant.1 inside start end in
    IsTerm_from c.nodes_between.result.now found.term (c.nodes_between.ensures ∙ ap (λ l. slice_range l c.start_of-start.result c.start_of-end.result) c.deref-3.ensures.value ∙ found.nodes_are)

pub returns : goal.returns
returns c =
    let nodes = c.self.inside.nodes.items in
    let terms = built nodes [] in
    let starts = c.self.inside.starts.items in
    let inside : c.args.index < length terms = omega (arith, c.self.inside.starts.ok.0, ap length c.self.invariant.1, length-starts_from 0 terms) in
    let start : c.start_of-start.result ≡ get_or starts c.args.index (length nodes) = cc c.self.inside.nodes.ok.0 in
    let end : c.start_of-end.result ≡ get_or starts (c.args.index + 1) (length nodes) = cc c.self.inside.nodes.ok.0 in
    let found = between terms nodes starts c.args.index c.start_of-start.result c.start_of-end.result c.self.invariant.0 c.self.invariant.1 inside start end in
    ap Some (term_from c.nodes_between.result.now found.term (c.nodes_between.ensures ∙ ap (λ l. slice_range l c.start_of-start.result c.start_of-end.result) c.deref-3.ensures.value ∙ found.nodes_are))
    ∙ sym found.is ∙ ap (λ l. slice_get l c.args.index) c.self.view_is
