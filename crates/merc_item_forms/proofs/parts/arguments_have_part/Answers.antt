use Rattle.std.proofs.Common.{◌-◌, take, ap, ◌∙◌}
use Rattle.std.specs.List.{list_any}
use Rattle.merc_tree.specs.Postfix.{shapes_of}
use Rattle.merc_item_forms.specs.Parts.{shape_test}
use Rattle.merc_item_forms.proofs.PartTests.{arguments-by_shapes}
use Rattle.merc_item_forms.proofs.parts.arguments_have_part.Goals as goal

pub returns : goal.returns
returns c =
    let shapes = shapes_of c.args.term.now in
    c.any_part.ensures
    ∙ ap (λ n. list_any (shape_test c.args.test) (take n shapes)) (c.saturating_sub.ensures ∙ ap (λ n. n - 1) c.part_count.ensures.count)
    ∙ arguments-by_shapes c.args.test c.args.term.now
