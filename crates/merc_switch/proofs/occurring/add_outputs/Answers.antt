use Rattle.std.proofs.Common.{◌||◌, ◌&&◌, ◌∙◌, ap}
use Rattle.merc_graded_tree.specs.Labels.{labels_of}
use Rattle.merc_graded_tree.specs.Nodes.{outputs_of}
use Rattle.merc_order.specs.Bound.{among}
use Rattle.merc_switch.specs.Occurring.{variables_at}
use Rattle.merc_switch.proofs.Copies.{first_left, is_there}
use Rattle.merc_switch.proofs.Occurrences.{in_labels_of, labels_more, among-outputs_behind}
use Rattle.merc_switch.proofs.occurring.add_outputs.Goals as goal

pub loop-index-init : goal.loop-index-init
loop-index-init c = λ variable. ap (λ b. among c.args.found.now variable || (among (outputs_of c.args.whole.now) variable && b)) (in_labels_of c.args.goal.now variable)

pub unreachable-requires : goal.unreachable-requires
unreachable-requires c = is_there _ c.loop-index.index c.part_count-index-end.result c.in-None.ensures c.loop-index-test.true c.part_count-index-end.ensures

pub loop-index-preserved : goal.loop-index-preserved
loop-index-preserved c = λ variable.
    let outputs = outputs_of c.args.whole.now in
    labels_more outputs c.loop-index.found c.add_own.new.found _ c.in-Some.label.now _ variable _
    (λ w. ap (λ l. among l w) c.in_ok-add_own-in-Some.ensures ∙ among-outputs_behind outputs c.loop-index.found (variables_at c.in-Some.label.now.root) w)
    (first_left (labels_of c.args.goal.now) c.loop-index.index c.in-Some.label c.in-Some.ensures) (c.loop-index.invariant variable)
