use Rattle.std.proofs.Common.{◌≡◌, ◌∙◌, arith, Some, None}
use Rattle.merc_graded_tree.specs.Roots.{label_of}
use Rattle.merc_det.proofs.Labelling.{some_label, label_last}
use Rattle.merc_det.proofs.closing.label_of.Goals as goal

pub overflow_sub-part_count : goal.overflow_sub-part_count
overflow_sub-part_count c = let h = some_label c.args.goal.now in omega (arith, h, c.part_count.ensures)

pub unreachable-requires : goal.unreachable-requires
unreachable-requires c = let h = label_last c.args.goal.now c.part_count.result c.part_count.ensures in
    let e : None ≡ Some (label_of c.args.goal.now) = c.in-None.ensures ∙ h in cc e

pub returns : goal.returns
returns c = let h = label_last c.args.goal.now c.part_count.result c.part_count.ensures in
    let e : Some c.in-Some.label.now ≡ Some (label_of c.args.goal.now) = c.in-Some.ensures ∙ h in cc e
