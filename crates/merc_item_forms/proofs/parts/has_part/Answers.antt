use Rattle.std.proofs.Common.{take, ap, sym, ◌∙◌}
use Rattle.std.specs.List.{list_any}
use Rattle.std.proofs.Math.Seq.{take-length}
use Rattle.merc_tree.specs.Postfix.{shapes_of}
use Rattle.merc_item_forms.specs.Parts.{shape_test}
use Rattle.merc_item_forms.proofs.PartTests.{has_part-by_shapes}
use Rattle.merc_item_forms.proofs.parts.has_part.Goals as goal

pub returns : goal.returns
returns c =
    let shapes = shapes_of c.args.term.now in
    c.any_part.ensures
    ∙ ap (λ n. list_any (shape_test c.args.test) (take n shapes)) c.part_count.ensures.count
    ∙ ap (list_any (shape_test c.args.test)) (take-length shapes)
    ∙ sym (has_part-by_shapes c.args.test c.args.term.now)
