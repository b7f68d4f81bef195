use Rattle.std.proofs.Common.{◌∙◌, ap, arith, slice_index_or}
use Rattle.std.proofs.lemmas.List.{get_or_default}
use Rattle.merc_graded_tree.specs.Nodes.{outputs_of}
use Rattle.merc_rights.proofs.FoundLaws.{variable_more, all_variables}
use Rattle.merc_rights.proofs.conjuncts.put_producer.Goals as goal

pub loop-variable-preserved : goal.loop-variable-preserved
loop-variable-preserved c list variables tells held moved are =
    variable_more c.args.members.now.goals.items list moved c.args.producer c.as_slice-variable-items.result.now c.loop-variable.variable-index c.args.found.now c.loop-variable.found
    c.variable-item.result c.put_variable.new.found c.variable-item.is c.loop-variable-test.true (c.loop-variable.invariant list variables tells held moved are)
    (c.in_ok-put_variable.ensures list variables tells held moved are)

pub returns : goal.returns
returns c list variables tells held moved are d =
    let goals = c.args.members.now.goals.items in
    let producer = c.args.producer in
    all_variables goals list moved producer c.as_slice-variable-items.result.now c.loop-variable.variable-index c.args.found.now c.loop-variable.found
    (outputs_of (slice_index_or goals producer d))
    (c.as_slice-variable-items.ensures ∙ c.outputs.ensures ∙ ap outputs_of (c.index.ensures ∙ get_or_default goals producer c.index.result.now d c.requires.within))
    (omega (arith, c.loop-variable-test.false)) (c.loop-variable.invariant list variables tells held moved are)
