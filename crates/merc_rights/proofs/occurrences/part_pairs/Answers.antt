use Rattle.std.proofs.Common.{arith, ◌∙◌, ap, sym}
use Rattle.std.specs.Option.{option_map}
use Rattle.merc_graded_tree.specs.Labels.{labels_of}
use Rattle.merc_rights.specs.Uses.{uses}
use Rattle.merc_rights.proofs.Indexes.{pairs_more, pairs_none}
use Rattle.merc_rights.proofs.occurrences.part_pairs.Goals as goal
use Rattle.merc_rights.proofs.occurrences.part_pairs.Goals.{in-Some+in_ok-put_root, in_default}

pub loop-index-preserved : goal.loop-index-preserved
loop-index-preserved c =
    let whole = c.args.goal.now in
    let index = c.loop-index.index in
    elim c.match-part.branch [
      | in-Some+in_ok-put_root w ↦
          ap (λ pairs. pairs.items) w.pairs-is
          ∙ pairs_more (λ label. uses label.root) (labels_of whole) index w.in-Some.label.now c.loop-index.pairs.items w.put_root.new.pairs.items
          (ap (option_map (λ label. label.now)) (sym w.in-Some.is) ∙ c.part.ensures) c.loop-index.invariant w.in_ok-put_root.ensures
      | in_default w ↦
          absurd (pairs_none (λ label. uses label.root) (labels_of whole) index (omega (arith, c.loop-index-test.true, c.part_count-index-end.ensures))
          (ap (option_map (λ label. label.now)) (sym w.in_default.is) ∙ c.part.ensures))
    ]
