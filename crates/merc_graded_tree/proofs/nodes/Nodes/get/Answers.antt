-- The entries between two starts are those of one goal.
use Rattle.std.proofs.Common.{◌≡◌, ◌<◌, ◌≤◌, ◌+◌, length, get_or, Some, ap, sym, ◌∙◌, arith}
use Rattle.std.proofs.lemmas.Option.{slice_get_past}
use Rattle.std.specs.List.{slice_get, slice_range}
use Rattle.merc_graded_tree.specs.Entries.{nodes_from}
use Rattle.merc_graded_tree.proofs.EntryLaws.{length-starts_from, IsNode_from, node_is}
use Rattle.merc_graded_tree.proofs.Cuts.{between}
use Rattle.merc_graded_tree.proofs.nodes.Nodes.get.Goals as goal

pub returns-then-index-len : goal.returns-then-index-len
returns-then-index-len c =
    let past : length c.args.self.now ≤ c.args.index =
    omega (arith, c.self.inside.starts.ok.0, ap length c.self.invariant.1, length-starts_from 0 (nodes_from c.self.inside.entries.items), ap length c.self.view_is) in
    sym (slice_get_past c.args.self.now c.args.index past)

pub entries_between-requires : goal.entries_between-requires
entries_between-requires c =
    let entries = c.self.inside.entries.items in
    let goals = nodes_from entries in
    let starts = c.self.inside.starts.items in
    let inside : c.args.index < length goals = omega (arith, c.self.inside.starts.ok.0, ap length c.self.invariant.1, length-starts_from 0 goals) in
    let start : c.start_of-start.result ≡ get_or starts c.args.index (length entries) = cc c.self.inside.entries.ok.0 in
    let end : c.start_of-end.result ≡ get_or starts (c.args.index + 1) (length entries) = cc c.self.inside.entries.ok.0 in
    let found = between goals entries starts c.args.index c.start_of-start.result c.start_of-end.result c.self.invariant.0 c.self.invariant.1 inside start end in
    record { order = found.order; within = rw c.deref-3.ensures.value found.within }

pub invariant_of-result : goal.invariant_of-result
invariant_of-result c =
    let entries = c.self.inside.entries.items in
    let goals = nodes_from entries in
    let starts = c.self.inside.starts.items in
    let inside : c.args.index < length goals = omega (arith, c.self.inside.starts.ok.0, ap length c.self.invariant.1, length-starts_from 0 goals) in
    let start : c.start_of-start.result ≡ get_or starts c.args.index (length entries) = cc c.self.inside.entries.ok.0 in
    let end : c.start_of-end.result ≡ get_or starts (c.args.index + 1) (length entries) = cc c.self.inside.entries.ok.0 in
    let found = between goals entries starts c.args.index c.start_of-start.result c.start_of-end.result c.self.invariant.0 c.self.invariant.1 inside start end in
    IsNode_from c.entries_between.result.now found.node (c.entries_between.ensures ∙ ap (λ l. slice_range l c.start_of-start.result c.start_of-end.result) c.deref-3.ensures.value ∙ found.cut)

pub returns : goal.returns
returns c =
    let entries = c.self.inside.entries.items in
    let goals = nodes_from entries in
    let starts = c.self.inside.starts.items in
    let inside : c.args.index < length goals = omega (arith, c.self.inside.starts.ok.0, ap length c.self.invariant.1, length-starts_from 0 goals) in
    let start : c.start_of-start.result ≡ get_or starts c.args.index (length entries) = cc c.self.inside.entries.ok.0 in
    let end : c.start_of-end.result ≡ get_or starts (c.args.index + 1) (length entries) = cc c.self.inside.entries.ok.0 in
    let found = between goals entries starts c.args.index c.start_of-start.result c.start_of-end.result c.self.invariant.0 c.self.invariant.1 inside start end in
    ap Some (node_is c.entries_between.result.now found.node (c.entries_between.ensures ∙ ap (λ l. slice_range l c.start_of-start.result c.start_of-end.result) c.deref-3.ensures.value ∙ found.cut))
    ∙ sym found.is ∙ ap (λ l. slice_get l c.args.index) c.self.view_is
