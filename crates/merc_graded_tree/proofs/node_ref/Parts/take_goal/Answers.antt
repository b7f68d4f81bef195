-- The last goal's entries stand last, as many as its root says.
use Rattle.std.proofs.Common.{◌<◌, ◌++◌, ◌∷◌, [], length, ap, sym, ◌∙◌, arith}
use Rattle.std.proofs.lemmas.List.{length-append}
use Rattle.merc_graded_tree.specs.Entries.{nodes_from}
use Rattle.merc_graded_tree.proofs.EntryLaws.{nodes_are, AreNodes_from, node_is, IsNode_from}
use Rattle.merc_graded_tree.proofs.Cuts.{cut_last}
use Rattle.merc_graded_tree.proofs.node_ref.Parts.take_goal.Goals as goal

pub overflow_sub-start : goal.overflow_sub-start
overflow_sub-start c =
    let entries = c.self.inside.entries.now in
    let some : 0 < length (nodes_from entries) = omega (arith, c.requires, ap length c.self.view_is) in
    (cut_last (nodes_from entries) entries c.last_entry.result.now c.self.invariant.0 some c.last_entry.ensures).size

pub invariant_of-result : goal.invariant_of-result
invariant_of-result c =
    let entries = c.self.inside.entries.now in
    let some : 0 < length (nodes_from entries) = omega (arith, c.requires, ap length c.self.view_is) in
    let cut = cut_last (nodes_from entries) entries c.last_entry.result.now c.self.invariant.0 some c.last_entry.ensures in
    IsNode_from c.entries_between.result.now cut.last (c.entries_between.ensures ∙ cut.last_cut)

pub invariant_of-self : goal.invariant_of-self
invariant_of-self c =
    let entries = c.self.inside.entries.now in
    let some : 0 < length (nodes_from entries) = omega (arith, c.requires, ap length c.self.view_is) in
    let cut = cut_last (nodes_from entries) entries c.last_entry.result.now c.self.invariant.0 some c.last_entry.ensures in
    let front = c.entries_between-self-inside.ensures ∙ cut.front_cut in (
      AreNodes_from c.entries_between-self-inside.result.now cut.front front,
      omega (arith, c.self.invariant.1, ap length cut.are, length-append cut.front (cut.last ∷ []), ap length (nodes_are c.entries_between-self-inside.result.now cut.front front)),
    )

pub returns : goal.returns
returns c =
    let entries = c.self.inside.entries.now in
    let some : 0 < length (nodes_from entries) = omega (arith, c.requires, ap length c.self.view_is) in
    let cut = cut_last (nodes_from entries) entries c.last_entry.result.now c.self.invariant.0 some c.last_entry.ensures in
    let front = nodes_are c.entries_between-self-inside.result.now cut.front (c.entries_between-self-inside.ensures ∙ cut.front_cut) in
    let last = node_is c.entries_between.result.now cut.last (c.entries_between.ensures ∙ cut.last_cut) in
    sym c.self.view_is ∙ cut.are ∙ ap (λ l. l ++ cut.last ∷ []) (sym front) ∙ ap (λ t. nodes_from c.entries_between-self-inside.result.now ++ t ∷ []) (sym last)
