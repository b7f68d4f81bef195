use Rattle.std.proofs.Common.{◌≡◌, take, ap, sym, ◌∙◌, arith}
use Rattle.std.specs.List.{list_any}
use Rattle.merc_tree.specs.Postfix.{shapes_of}
use Rattle.merc_item_forms.specs.Parts.{shape_test}
use Rattle.merc_item_forms.proofs.Indexes.{found_before, not_past, none_past}
use Rattle.merc_item_forms.proofs.parts.any_part.Goals as goal
use Rattle.merc_item_forms.proofs.parts.any_part.Goals.{in-Some+else-passes, in_default}

pub returns-then-passes : goal.returns-then-passes
returns-then-passes c =
    found_before (shape_test c.args.test) _ c.args.count c.loop-index.index c.in-Some.shape c.loop-index-test.true c.in-Some.ensures c.if-passes.ensures

pub loop-index-preserved : goal.loop-index-preserved
loop-index-preserved c =
    elim c.match-part_shape.branch [
      | in-Some+else-passes w ↦ not_past (shape_test c.args.test) _ c.loop-index.index w.in-Some.shape w.in-Some.ensures w.if-passes.ensures c.loop-index.invariant
      | in_default w ↦ none_past (shape_test c.args.test) _ c.loop-index.index w.in_default.ensures c.loop-index.invariant
    ]

pub returns : goal.returns
returns c =
    let end : c.loop-index.index ≡ c.args.count = omega (arith, c.loop-index-test.false, c.loop-index.auto.index-end) in
    sym (sym (ap (λ n. list_any (shape_test c.args.test) (take n (shapes_of c.args.term.now))) end) ∙ c.loop-index.invariant)
