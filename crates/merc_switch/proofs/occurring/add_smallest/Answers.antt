use Rattle.std.proofs.Common.{◌∙◌, ◌||◌, ap}
use Rattle.std.proofs.lemmas.Result.{on_ok_weaker}
use Rattle.merc_graded_tree.specs.Nodes.{outputs_of}
use Rattle.merc_order.specs.Bound.{among}
use Rattle.merc_switch.specs.Selections.{has_output}
use Rattle.merc_switch.proofs.Occurrences.{one_more_goal}
use Rattle.merc_switch.proofs.occurring.add_smallest.Goals as goal

pub returns-in-Some : goal.returns-in-Some
returns-in-Some c =
    let found = c.args.found.now in
    let outputs = outputs_of c.args.whole.now in
    on_ok_weaker c.add_outputs.result
    (λ put variable. one_more_goal c.args.disjuncts.now c.smallest_of.result c.in-Some.smallest.now outputs found c.add_outputs.new.found variable c.in-Some.ensures.lookup.3.0 c.in-Some.ensures.lookup.1
    (put variable ∙ ap (λ g. among found variable || has_output outputs variable g) c.goal.ensures)) c.add_outputs.ensures
