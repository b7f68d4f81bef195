use Rattle.merc_declared.specs.KnownTypes.{is_wrong_shape}
use Rattle.merc_item_forms.proofs.Indexes.{found_before, not_past, none_past}
use Rattle.merc_declared.proofs.known_types.KnownTypes.has_wrong_part.Goals as goal
use Rattle.merc_declared.proofs.known_types.KnownTypes.has_wrong_part.Goals.{in-Some+else-is_wrong, in_default}

pub returns-then-is_wrong : goal.returns-then-is_wrong
returns-then-is_wrong c =
    found_before (is_wrong_shape c.args.names.now c.args.self.now c.args.variables.now) _ c.args.count c.loop-index.index c.in-Some.part c.loop-index-test.true c.in-Some.ensures c.if-is_wrong.ensures

pub loop-index-preserved : goal.loop-index-preserved
loop-index-preserved c =
    elim c.match-part_shape.branch [
      | in-Some+else-is_wrong w ↦ not_past (is_wrong_shape c.args.names.now c.args.self.now c.args.variables.now) _ c.loop-index.index w.in-Some.part w.in-Some.ensures w.if-is_wrong.ensures c.loop-index.invariant
      | in_default w ↦ none_past (is_wrong_shape c.args.names.now c.args.self.now c.args.variables.now) _ c.loop-index.index w.in_default.ensures c.loop-index.invariant
    ]
